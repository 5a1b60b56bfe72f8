use Rattle.target_lexicon.proofs.RoundTrips.{second_changes_none}
use Rattle.target_lexicon.proofs.laws.second_step_changes_one.Goals as goal

pub returns : goal.returns
returns c = second_changes_none
