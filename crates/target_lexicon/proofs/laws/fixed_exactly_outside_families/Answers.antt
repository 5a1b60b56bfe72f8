use Rattle.target_lexicon.proofs.RoundTrips.{fixed_exactly_outside}
use Rattle.target_lexicon.proofs.laws.fixed_exactly_outside_families.Goals as goal

pub returns : goal.returns
returns c = fixed_exactly_outside c.round_is_normal_step.ensures
