use Rattle.lexicon_fields.proofs.Names.{arith, prefix_key_of_ends}
use Rattle.lexicon_fields.proofs.table.prefix_key.Goals as goal

pub returns-in-Some-Some : goal.returns-in-Some-Some
returns-in-Some-Some c = grind (arith, prefix_key_of_ends)
