-- The values of a triple's five fields, over which all rules are stated.
use Rattle.std.specs.Prelude.{Bool, true, false}
use Rattle.lexicon_fields.specs.{declared.known_vendor.KnownVendor.TheVariants.Unknown, Vendor.vendor_value}
pub use Rattle.lexicon_fields.specs.{declared.architecture.Architecture.Architecture}
pub use Rattle.lexicon_fields.specs.{declared.operating_system.OperatingSystem.OperatingSystem}
pub use Rattle.lexicon_fields.specs.{declared.environment.Environment.Environment}
pub use Rattle.lexicon_fields.specs.{declared.binary_format.BinaryFormat.BinaryFormat}
pub use Rattle.lexicon_fields.specs.Vendor.{VendorValue, Known, Custom, is_plain}
pub use Rattle.lexicon_fields.specs.declared.architecture.Architecture.TheVariants as architecture
-- written by tools/names/write: families of triples
pub use Rattle.lexicon_fields.specs.declared.architecture.arm.ArmArchitecture.TheVariants as arm
pub use Rattle.lexicon_fields.specs.declared.architecture.aarch64.Aarch64Architecture.TheVariants as aarch64
pub use Rattle.lexicon_fields.specs.declared.architecture.families.X86_32Architecture.TheVariants as x86_32
pub use Rattle.lexicon_fields.specs.declared.architecture.families.Mips32Architecture.TheVariants as mips32
pub use Rattle.lexicon_fields.specs.declared.architecture.families.Mips64Architecture.TheVariants as mips64
pub use Rattle.lexicon_fields.specs.declared.architecture.families.Riscv32Architecture.TheVariants as riscv32
pub use Rattle.lexicon_fields.specs.declared.architecture.families.Riscv64Architecture.TheVariants as riscv64
pub use Rattle.lexicon_fields.specs.declared.architecture.families.CleverArchitecture.TheVariants as clever
pub use Rattle.lexicon_fields.specs.declared.architecture.families.Z80Architecture.TheVariants as z80
-- end of what is written
pub use Rattle.lexicon_fields.specs.declared.operating_system.OperatingSystem.TheVariants as operating_system
pub use Rattle.lexicon_fields.specs.declared.environment.Environment.TheVariants as environment
pub use Rattle.lexicon_fields.specs.declared.binary_format.BinaryFormat.TheVariants as binary_format
use Rattle.target_lexicon.specs.declared.triple.Triple.{Triple}
pub use Rattle.lexicon_fields.specs.Names.{value_named}

-- a value for each field; that of a custom vendor is its string
pub record Values : Type 0 where
  pub architecture : Architecture
  pub vendor : VendorValue
  pub operating_system : OperatingSystem
  pub environment : Environment
  pub binary_format : BinaryFormat

abbrev pub values : Architecture → VendorValue → OperatingSystem → Environment → BinaryFormat → Values
values a v s e f = record { architecture = a; vendor = v; operating_system = s; environment = e; binary_format = f }

-- the values of a triple
abbrev pub values_of : Triple → Values
values_of t = values t.architecture (vendor_value t.vendor) t.operating_system t.environment t.binary_format

-- every value `Unknown`
abbrev pub unknown_values : Values
unknown_values =
    values architecture.Unknown (Known Unknown) operating_system.Unknown environment.Unknown binary_format.Unknown

-- the host, on every machine: 64-bit x86 with Linux and GNU's libraries
abbrev pub host_values : Values
host_values = values architecture.X86_64 (Known Unknown) operating_system.Linux environment.Gnu binary_format.Elf

-- tests of one or two fields
abbrev pub is_unknown_vendor : VendorValue → Bool
is_unknown_vendor (Known Unknown) = true
is_unknown_vendor _ = false

abbrev pub is_unknown_environment : Environment → Bool
is_unknown_environment environment.Unknown = true
is_unknown_environment _ = false

abbrev pub is_newlib : Environment → Bool
is_newlib environment.Newlib = true
is_newlib _ = false

abbrev pub is_none_environment : Environment → Bool
is_none_environment environment.None = true
is_none_environment _ = false

-- the architectures on which an unknown system is omitted
abbrev pub omits_system : Architecture → Bool
-- written by tools/names/write: omits_system
omits_system (architecture.Clever _) = true
-- end of what is written
omits_system _ = false

abbrev pub omits_unknown_system : Architecture → OperatingSystem → Bool
omits_unknown_system a operating_system.Unknown = omits_system a
omits_unknown_system a _ = false

-- whether two formats are the same
abbrev pub is_same_format : BinaryFormat → BinaryFormat → Bool
-- written by tools/names/write: is_same_format
is_same_format binary_format.Unknown binary_format.Unknown = true
is_same_format binary_format.Elf binary_format.Elf = true
is_same_format binary_format.Coff binary_format.Coff = true
is_same_format binary_format.Macho binary_format.Macho = true
is_same_format binary_format.Wasm binary_format.Wasm = true
is_same_format binary_format.Xcoff binary_format.Xcoff = true
-- end of what is written
is_same_format _ _ = false
