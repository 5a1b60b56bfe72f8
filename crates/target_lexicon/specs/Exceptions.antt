-- The five exceptions to the round trip: printed and parsed again, these triples are another triple or none.
use Rattle.std.specs.Prelude.{Bool, false, ◌&&◌, codes, if◌then◌else◌, Option, Some, None, is_some}
use Rattle.std.specs.Str.{bytes_eq}
use Rattle.lexicon_fields.specs.Vendor.{is_plain}
pub use Rattle.target_lexicon.specs.declared.exception.RoundTripException.{RoundTripException}
use Rattle.target_lexicon.specs.declared.exception.RoundTripException.TheVariants.{PrintsAsSpecial, HidesNewlib}
use Rattle.target_lexicon.specs.declared.exception.RoundTripException.TheVariants.{PrintsTheEspIdfString, ShowsOnlyNone}
use Rattle.target_lexicon.specs.declared.exception.RoundTripException.TheVariants.{VendorIsNotPlain}
use Rattle.target_lexicon.specs.SpecialStrings.{special_string, implies_newlib}
use Rattle.target_lexicon.specs.Values.{Architecture, OperatingSystem, Environment, BinaryFormat, VendorValue, Custom}
use Rattle.target_lexicon.specs.Values.{Values}
use Rattle.target_lexicon.specs.Values.{is_newlib, is_none_environment, is_same_format, omits_unknown_system}
use Rattle.target_lexicon.specs.Values.architecture
use Rattle.target_lexicon.specs.Values.riscv32
use Rattle.target_lexicon.specs.Values.operating_system
use Rattle.target_lexicon.specs.Values.environment
use Rattle.target_lexicon.specs.Values.binary_format

-- environment and format are those of every special string
abbrev pub has_newlib_and_elf : Values → Bool
has_newlib_and_elf t = is_newlib t.environment && is_same_format t.binary_format binary_format.Elf

-- the custom vendor `esp` with the other fields that the parts of `riscv32imc-esp-espidf` parse as
abbrev pub is_custom_esp : Architecture → VendorValue → OperatingSystem → Environment → BinaryFormat → Bool
is_custom_esp (architecture.Riscv32 riscv32.Riscv32imc) (Custom text) operating_system.Espidf environment.Unknown
    binary_format.Elf = bytes_eq text (codes "esp")
is_custom_esp _ _ _ _ _ = false

-- the exception of a triple that prints a special string: environment and format aren't shown
abbrev pub exception_of_special : Values → Option RoundTripException
exception_of_special t = if has_newlib_and_elf t then None else Some PrintsAsSpecial

-- the last exception: no string parses as the vendor
abbrev pub exception_of_vendor : VendorValue → Option RoundTripException
exception_of_vendor v = if is_plain v then None else Some VendorIsNotPlain

-- the first exception that applies to the triple, if any: the first line that fits decides. Two apply
-- only to a triple whose system is omitted: with the environment `None` and a vendor that isn't plain it is in `ShowsOnlyNone`,
-- which comes before `VendorIsNotPlain`
abbrev pub exception : Values → Option RoundTripException
exception t =
    if is_some (special_string t) then exception_of_special t
    -- on another machine, the environment is a `Newlib` that isn't shown
    else if implies_newlib t.vendor t.operating_system && is_newlib t.environment then Some HidesNewlib
    -- the string is special, and the vendor isn't that of its triple
    else if is_custom_esp t.architecture t.vendor t.operating_system t.environment t.binary_format
    then Some PrintsTheEspIdfString
    -- the system is omitted, and the environment `none` is shown, which parses as the system
    else if omits_unknown_system t.architecture t.operating_system && is_none_environment t.environment
    then Some ShowsOnlyNone
    else exception_of_vendor t.vendor
