use Rattle.lexicon_fields.proofs.Names.{rules, system_without_row}
use Rattle.lexicon_fields.proofs.operating_system.OperatingSystem.from_str.Goals as goal

pub returns-in-None : goal.returns-in-None
returns-in-None c = search (rules, system_without_row)
