use Rattle.target_lexicon.proofs.{RoundTrips.round_by_step, arith}
use Rattle.target_lexicon.proofs.triple.Triple.normal.Goals as goal

pub returns-clause-round : goal.returns-clause-round
returns-clause-round c = grind (arith, round_by_step)
