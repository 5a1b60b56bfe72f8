use Rattle.target_lexicon.proofs.RoundTrips.{canonical_are_keys}
use Rattle.target_lexicon.proofs.laws.canonical_strings_are_keys.Goals as goal

pub returns : goal.returns
returns c = canonical_are_keys c.round_is_normal_step.ensures
