-- How a string is refused, and the error for it.
use Rattle.std.specs.Prelude.{ℕ, List, ◌++◌, Option, Some, None, codes, string_bytes}
use Rattle.std.specs.Option.{option_map_or}
use Rattle.target_lexicon.specs.{declared.parse_error.ParseError.ParseError, Field.Field}
use Rattle.target_lexicon.specs.declared.parse_error.ParseError.TheVariants as error
use Rattle.target_lexicon.specs.Field as field

-- the refused part, and what was expected there: this field or a later one, or no field at all
pub record Refusal : Type 0 where
  pub expected : Option Field
  pub part : List ℕ

-- the refusal of a part
abbrev pub refusal_with : Option Field → List ℕ → Refusal
refusal_with expected part = record { expected = expected; part = part }

-- the refusal of an error; out of memory is no refusal
abbrev pub refusal_of : ParseError → Option Refusal
refusal_of (error.UnrecognizedArchitecture part) = Some (refusal_with (Some field.Architecture) (string_bytes part))
refusal_of (error.UnrecognizedVendor part) = Some (refusal_with (Some field.Vendor) (string_bytes part))
refusal_of (error.UnrecognizedOperatingSystem part) =
    Some (refusal_with (Some field.OperatingSystem) (string_bytes part))
refusal_of (error.UnrecognizedEnvironment part) = Some (refusal_with (Some field.Environment) (string_bytes part))
refusal_of (error.UnrecognizedBinaryFormat part) = Some (refusal_with (Some field.BinaryFormat) (string_bytes part))
refusal_of (error.UnrecognizedField part) = Some (refusal_with None (string_bytes part))
refusal_of error.OutOfMemory = None

-- the words of a refusal's line before the part
abbrev pub refusal_prefix : Option Field → List ℕ
refusal_prefix (Some field.Architecture) = codes "Unrecognized architecture: "
refusal_prefix (Some field.Vendor) = codes "Unrecognized vendor: "
refusal_prefix (Some field.OperatingSystem) = codes "Unrecognized operating system: "
refusal_prefix (Some field.Environment) = codes "Unrecognized environment: "
refusal_prefix (Some field.BinaryFormat) = codes "Unrecognized binary format: "
refusal_prefix None = codes "Unrecognized field: "

-- the line of a refusal
abbrev pub refusal_line : Refusal → List ℕ
refusal_line refusal = refusal_prefix refusal.expected ++ refusal.part

-- the line of an error
abbrev pub error_line : ParseError → List ℕ
error_line error = option_map_or refusal_line (refusal_of error) (codes "Out of memory")
