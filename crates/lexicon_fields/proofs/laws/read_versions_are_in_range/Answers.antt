use Rattle.lexicon_fields.proofs.Names.{operating_system-read}
use Rattle.lexicon_fields.proofs.laws.read_versions_are_in_range.Goals as goal

pub returns : goal.returns
returns c = λ text s is. (operating_system-read text s is).1
