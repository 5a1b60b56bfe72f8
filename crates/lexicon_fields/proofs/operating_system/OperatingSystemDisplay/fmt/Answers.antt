use Rattle.std.proofs.Output.{has_written_styled_append, has_written_styled_of_eq}
use Rattle.lexicon_fields.proofs.Names.{rules}
use Rattle.lexicon_fields.proofs.operating_system.OperatingSystemDisplay.fmt.Goals as goal

pub returns-in-Some-clause-styled : goal.returns-in-Some-clause-styled
returns-in-Some-clause-styled g c = search (rules, has_written_styled_of_eq, has_written_styled_append)
