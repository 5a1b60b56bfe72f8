use Rattle.lexicon_fields.proofs.Names.{arith, no_name_without_row}
use Rattle.lexicon_fields.proofs.architecture.Architecture.from_str.Goals as goal

pub returns-in-None : goal.returns-in-None
returns-in-None c = grind (arith, no_name_without_row)
