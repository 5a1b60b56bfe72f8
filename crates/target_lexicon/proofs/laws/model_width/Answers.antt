use Rattle.target_lexicon.proofs.{ModelsKnown.chosen, pointer_width}
use Rattle.target_lexicon.proofs.laws.model_width.Goals as goal

pub returns : goal.returns
returns c t m is = (chosen (pointer_width t) t.architecture t.operating_system m is).0
