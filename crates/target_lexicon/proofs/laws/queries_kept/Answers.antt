use Rattle.target_lexicon.proofs.RoundTrips.{kept}
use Rattle.target_lexicon.proofs.laws.queries_kept.Goals as goal

pub returns : goal.returns
returns c = kept
