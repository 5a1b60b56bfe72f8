-- The length of each name is computed and compared with the limit; that of a version has a bound of its own.
use Rattle.lexicon_fields.proofs.Names.{arith, length-append, length-version, numbers-short}
use Rattle.lexicon_fields.proofs.laws.names_are_short.Goals as goal

pub returns-clause-operating_system : goal.returns-clause-operating_system
returns-clause-operating_system c s range = grind (arith, length-append, length-version, numbers-short)
