use Rattle.triples.proofs.{every_input_is_filtered}
use Rattle.triples.proofs.laws.every_input_is_filtered.Goals as goal

pub returns : goal.returns
returns c = every_input_is_filtered c.every_string_has_one_outcome.ensures
