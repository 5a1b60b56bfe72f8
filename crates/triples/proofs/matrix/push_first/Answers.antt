use Rattle.triples.proofs.{inserted, rules}
use Rattle.triples.proofs.matrix.push_first.Goals as goal

pub returns-in_ok-insert-clause-seen : goal.returns-in_ok-insert-clause-seen
returns-in_ok-insert-clause-seen c = search (rules, inserted)
