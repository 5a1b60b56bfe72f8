-- Definitions for the contracts of private functions; no public contract cites them.
use Rattle.std.specs.Prelude.{◌≡◌, true, ℕ, zero, suc, ◌+◌, ◌*◌, ◌^◌, List, [], ◌∷◌, Option, Some, None, option_map}
use Rattle.std.specs.Prelude.{option_and_then}
use Rattle.std.specs.Borrow.{Bor}
use Rattle.std.specs.Option.{option_or}
use Rattle.lexicon_fields.specs.{declared.deployment_target.DeploymentTarget.DeploymentTarget}
use Rattle.lexicon_fields.specs.{declared.operating_system.OperatingSystem.OperatingSystem, Names.Pair}
use Rattle.lexicon_fields.specs.{declared.architecture.Architecture.Architecture}
use Rattle.lexicon_fields.specs.{declared.known_vendor.KnownVendor.KnownVendor}
use Rattle.lexicon_fields.specs.{declared.environment.Environment.Environment}
use Rattle.lexicon_fields.specs.{declared.binary_format.BinaryFormat.BinaryFormat}
use Rattle.lexicon_fields.specs.{declared.table.FixedRow.FixedRow, declared.table.Meaning.Meaning}
use Rattle.lexicon_fields.specs.declared.architecture.Architecture.TheVariants as architecture
use Rattle.lexicon_fields.specs.declared.known_vendor.KnownVendor.TheVariants as known_vendor
use Rattle.lexicon_fields.specs.declared.operating_system.OperatingSystem.TheVariants as operating_system
use Rattle.lexicon_fields.specs.declared.environment.Environment.TheVariants as environment
use Rattle.lexicon_fields.specs.declared.binary_format.BinaryFormat.TheVariants as binary_format
use Rattle.lexicon_fields.specs.declared.table.Meaning.TheVariants as meaning
use Rattle.lexicon_fields.specs.{Architecture.architecture_of, Vendor.known_vendor_of}
use Rattle.lexicon_fields.specs.{OperatingSystem.fixed_operating_system_of, Environment.environment_of}
use Rattle.lexicon_fields.specs.{BinaryFormat.binary_format_of}
use Rattle.lexicon_fields.specs.FixedRow.{has_row}
use Rattle.lexicon_fields.specs.OperatingSystem.{optional_version_of, text_after_prefix}
use Rattle.lexicon_fields.specs.Version.{pieces_of}

-- the pieces of the rest of a version's string, if there is a rest
abbrev pub remaining_pieces : Option (Bor (List ℕ)) → List (List ℕ)
remaining_pieces None = []
remaining_pieces (Some rest) = pieces_of rest.now

-- the version after a prefix, if the string begins with the prefix and the rest is empty or a version
unfoldable pub version_after : List ℕ → List ℕ → Option (Option DeploymentTarget)
version_after prefix text = option_and_then optional_version_of (text_after_prefix prefix text)

-- the system like Darwin that the string names: one of these prefixes, and nothing or a version after it; the first
-- that fits
abbrev pub first_system : List (Pair (Option DeploymentTarget → OperatingSystem)) → List ℕ → Option OperatingSystem
first_system [] text = None
first_system (row ∷ rows) text = option_or (option_map row.1 (version_after row.0 text)) (first_system rows text)

-- the first bytes of a string as a big-endian number; a missing byte is zero
abbrev pub prefix_key_of : ℕ → List ℕ → ℕ
prefix_key_of zero text = 0
prefix_key_of (suc k) [] = 0
prefix_key_of (suc k) (c ∷ cs) = c * 256 ^ k + prefix_key_of k cs

-- a value of each field, if any
abbrev pub FieldValues : Type 0
FieldValues =
    Option Architecture × Option KnownVendor × Option OperatingSystem × Option Environment × Option BinaryFormat

-- what a string parses as in each field by its fixed names
abbrev pub name_values : List ℕ → FieldValues
name_values text = (
  architecture_of text,
  known_vendor_of text,
  fixed_operating_system_of text,
  environment_of text,
  binary_format_of text,
)

abbrev pub row_values : FixedRow → FieldValues
row_values row = (row.architecture, row.vendor, row.operating_system, row.environment, row.binary_format)

abbrev pub values_meant : Meaning → FieldValues
values_meant (meaning.Architecture it) = (Some it, None, None, None, None)
values_meant (meaning.Vendor it) = (None, Some it, None, None, None)
values_meant (meaning.OperatingSystem it) = (None, None, Some it, None, None)
values_meant (meaning.Environment it) = (None, None, None, Some it, None)
values_meant (meaning.BinaryFormat it) = (None, None, None, None, Some it)
values_meant meaning.None = (None, None, Some operating_system.None_, Some environment.None, None)
values_meant meaning.Unknown = (
  Some architecture.Unknown,
  Some known_vendor.Unknown,
  Some operating_system.Unknown,
  Some environment.Unknown,
  Some binary_format.Unknown,
)

-- the table has this string and meaning, and the string is this one
pub record IsTheRow (name : List ℕ) (row : Bor (List ℕ) × Meaning) : Type 0 where
  pub exists : has_row name ≡ true
  pub text : row.0.now ≡ name
  pub values : values_meant row.1 ≡ name_values name
