use Rattle.triples.proofs.{rules}
use Rattle.triples.proofs.laws.errors_of_filters_are_exact.Goals as goal

pub returns : goal.returns
returns c mode size reader writer result ends = search rules
