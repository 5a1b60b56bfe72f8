-- What each exception says of the five fields: facts that follow from the list of exceptions, one law for each
-- exception.
use Rattle.std.specs.Prelude.{◌≡◌, ◌↔◌, ◌⊎◌, List, [], ◌∷◌, true, false, codes, Some}
use Rattle.lexicon_fields.specs.{Vendor.is_plain}
use Rattle.target_lexicon.specs.Exceptions.{exception}
use Rattle.target_lexicon.specs.SpecialStrings.{SpecialRow, special_rows}
use Rattle.target_lexicon.specs.declared.exception.RoundTripException.TheVariants as exceptions
use Rattle.target_lexicon.specs.Values.{Known, Custom, Values, omits_system, values}
use Rattle.target_lexicon.specs.Values.architecture
use Rattle.target_lexicon.specs.Values.riscv32
use Rattle.target_lexicon.specs.Values.operating_system
use Rattle.target_lexicon.specs.Values.environment
use Rattle.target_lexicon.specs.Values.binary_format

-- one of these rows has the property
abbrev pub SomeRow : (SpecialRow → Type 0) → List SpecialRow → Type 0
SomeRow P [] = ⊥
SomeRow P (row ∷ rows) = P row ⊎ SomeRow P rows

-- vendor and system are those of the row
pub record HasSystemOf (row : SpecialRow) (t : Values) : Type 0 where
  pub vendor : t.vendor ≡ Known row.vendor
  pub operating_system : t.operating_system ≡ row.operating_system

-- and so is the architecture
pub record HasFieldsOf (row : SpecialRow) (t : Values) : Type 0 where
  pub architecture : t.architecture ≡ row.architecture
  pub system : HasSystemOf row t

-- the first three fields are those of a special string, which is printed
abbrev pub HasSpecialFields : Values → Type 0
HasSpecialFields t = SomeRow (λ row. HasFieldsOf row t) special_rows

-- environment and format are those of every special string
abbrev pub HasNewlibAndElf : Values → Type 0
HasNewlibAndElf t = (t.environment ≡ environment.Newlib) × (t.binary_format ≡ binary_format.Elf)

-- a special string is printed, which doesn't show environment and format, and these aren't `Newlib` and `Elf`
pub record PrintsAsSpecial (t : Values) : Type 0 where
  pub fields : HasSpecialFields t
  pub others : ¬ HasNewlibAndElf t

-- the environment is a `Newlib` that isn't shown: vendor and system are those of a special string, and the architecture
-- isn't
pub record HidesNewlib (t : Values) : Type 0 where
  pub environment : t.environment ≡ environment.Newlib
  pub system : SomeRow (λ row. HasSystemOf row t) special_rows
  pub others : ¬ HasSpecialFields t

-- the vendor is the custom `esp`, and the string is the special one
abbrev pub PrintsTheEspIdfString : Values → Type 0
PrintsTheEspIdfString t =
    t ≡ values (architecture.Riscv32 riscv32.Riscv32imc) (Custom (codes "esp")) operating_system.Espidf
    environment.Unknown binary_format.Elf

-- an unknown system is omitted, and the environment `none` is shown, which parses as the system
pub record ShowsOnlyNone (t : Values) : Type 0 where
  pub architecture : omits_system t.architecture ≡ true
  pub operating_system : t.operating_system ≡ operating_system.Unknown
  pub environment : t.environment ≡ environment.None

-- no string parses as the vendor, and no earlier exception applies
pub record VendorIsNotPlain (t : Values) : Type 0 where
  pub vendor : is_plain t.vendor ≡ false
  pub others : ¬ ShowsOnlyNone t

-- for each exception, the facts of the five fields that put a triple into it
pub record IsExceptionByFields (t : Values) : Type 0 where
  pub special : (exception t ≡ Some exceptions.PrintsAsSpecial) ↔ PrintsAsSpecial t
  pub newlib : (exception t ≡ Some exceptions.HidesNewlib) ↔ HidesNewlib t
  pub esp : (exception t ≡ Some exceptions.PrintsTheEspIdfString) ↔ PrintsTheEspIdfString t
  pub only_none : (exception t ≡ Some exceptions.ShowsOnlyNone) ↔ ShowsOnlyNone t
  pub vendor : (exception t ≡ Some exceptions.VendorIsNotPlain) ↔ VendorIsNotPlain t

-- this holds for every triple
abbrev pub ExceptionsAreFactsOfFields : Type 0
ExceptionsAreFactsOfFields = (t : Values) → IsExceptionByFields t
