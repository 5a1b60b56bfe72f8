-- The triple that the printed string of a triple with a plain vendor reads as. The cases are of the five fields: they
-- know no string and no printer.
use Rattle.std.specs.Prelude.{Option, Some, None}
use Rattle.target_lexicon.specs.Exceptions.{RoundTripException, exception}
use Rattle.target_lexicon.specs.declared.exception.RoundTripException.TheVariants as exceptions
use Rattle.target_lexicon.specs.Values.{BinaryFormat, Known, Values}
use Rattle.lexicon_fields.specs.declared.known_vendor.KnownVendor.TheVariants.{Espressif}
use Rattle.target_lexicon.specs.Values.operating_system
use Rattle.target_lexicon.specs.Values.environment
use Rattle.target_lexicon.specs.Values.binary_format

abbrev pub elf_if_unknown : BinaryFormat → BinaryFormat
elf_if_unknown binary_format.Unknown = binary_format.Elf
elf_if_unknown f = f

-- what a triple of the exception becomes; one without an exception, or of the last one, is unchanged
abbrev pub step_of : Option RoundTripException → Values → Values
step_of (Some exceptions.PrintsAsSpecial) t =
    record t { environment = environment.Newlib; binary_format = binary_format.Elf }
step_of (Some exceptions.HidesNewlib) t =
    record t { environment = environment.Unknown; binary_format = elf_if_unknown t.binary_format }
step_of (Some exceptions.PrintsTheEspIdfString) t =
    record t { vendor = Known Espressif; environment = environment.Newlib; binary_format = binary_format.Elf }
step_of (Some exceptions.ShowsOnlyNone) t =
    record t { operating_system = operating_system.None_; environment = environment.Unknown }
step_of (Some exceptions.VendorIsNotPlain) t = t
step_of None t = t

-- the first exception that applies to the triple decides the change
unfoldable pub normal_step : Values → Values
normal_step t = step_of (exception t) t
