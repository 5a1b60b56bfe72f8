use Rattle.triples.proofs.{outcome, same-outcome}
use Rattle.triples.proofs.laws.runs_end_one_way.Goals as goal

pub returns : goal.returns
returns c mode text x y a b first second =
    same-outcome mode text c.every_string_has_one_outcome.ensures x y a b (outcome mode text x a first)
    (outcome mode text y b second)
