-- The five fields of a triple.
use Rattle.std.specs.Prelude.{ℕ, List, Bool, is_some}
use Rattle.lexicon_fields.specs.{Architecture.architecture_of, Vendor.vendor_of, OperatingSystem.operating_system_of}
use Rattle.lexicon_fields.specs.{Environment.environment_of, BinaryFormat.binary_format_of}
pub use Rattle.lexicon_fields.specs.declared.field.Field.{Field}
pub use Rattle.lexicon_fields.specs.declared.field.Field.TheVariants.{Architecture, Vendor, OperatingSystem}
pub use Rattle.lexicon_fields.specs.declared.field.Field.TheVariants.{Environment, BinaryFormat}

-- the index of a field in the order
abbrev pub field_number : Field → ℕ
field_number Architecture = 0
field_number Vendor = 1
field_number OperatingSystem = 2
field_number Environment = 3
field_number BinaryFormat = 4

-- whether a string parses as a value of the field
abbrev pub parses_as : Field → List ℕ → Bool
parses_as Architecture text = is_some (architecture_of text)
parses_as Vendor text = is_some (vendor_of text)
parses_as OperatingSystem text = is_some (operating_system_of text)
parses_as Environment text = is_some (environment_of text)
parses_as BinaryFormat text = is_some (binary_format_of text)
