use Rattle.lexicon_fields.proofs.Names.{arith, pieces_of-first, pieces_of-whole}
use Rattle.lexicon_fields.proofs.deployment_target.first_piece.Goals as goal

pub returns-in-Some : goal.returns-in-Some
returns-in-Some c = grind (arith, c.in-Some.ensures.byte, pieces_of-first)

pub returns-in-None : goal.returns-in-None
returns-in-None c = pieces_of-whole _ (c.in-None.ensures.byte (omega arith) (λ w o h. h))
