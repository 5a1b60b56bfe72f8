use Rattle.lexicon_fields.proofs.Names.{puts_first, puts_then}
use Rattle.lexicon_fields.proofs.laws.texts_are_put_in_order.Goals as goal

pub returns : goal.returns
returns c = record { first = λ x old now end. puts_first; next = λ x y old mid now start end last. puts_then }
