use Rattle.target_lexicon.proofs.{rules, string_of}
use Rattle.target_lexicon.proofs.triple_ref.TripleRef.to_text.Goals as goal

pub returns : goal.returns
unfolding string_of
returns c = search rules
