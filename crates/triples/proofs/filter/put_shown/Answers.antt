use Rattle.triples.proofs.{arith, common_steps, pushes-then}
use Rattle.triples.proofs.filter.put_shown.Goals as goal

pub returns-in-Show : goal.returns-in-Show
returns-in-Show c = grind (arith, common_steps, pushes-then)
