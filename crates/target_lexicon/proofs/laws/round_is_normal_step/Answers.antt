use Rattle.target_lexicon.proofs.{RoundTrips.round, names_are_read}
use Rattle.target_lexicon.proofs.laws.round_is_normal_step.Goals as goal

pub returns : goal.returns
returns c = round names_are_read
