-- The strings that have a triple of their own.
use Rattle.std.specs.Prelude.{ℕ, List, [], ◌∷◌, Bool, true, false, codes, Option, Some, None, map}
use Rattle.lexicon_fields.specs.{Names.Pair, Names.value_named, declared.known_vendor.KnownVendor.KnownVendor}
use Rattle.lexicon_fields.specs.declared.known_vendor.KnownVendor.TheVariants as known_vendor
use Rattle.target_lexicon.specs.Values.{Architecture, OperatingSystem, VendorValue, Known, Values, values}
use Rattle.target_lexicon.specs.Values.architecture
use Rattle.target_lexicon.specs.Values.operating_system
use Rattle.target_lexicon.specs.Values.environment
use Rattle.target_lexicon.specs.Values.binary_format
-- written by tools/names/write: families of special strings
use Rattle.target_lexicon.specs.Values.arm
use Rattle.target_lexicon.specs.Values.riscv32

-- end of what is written

-- a special string; and the architecture, the vendor and the operating system of its triple
pub record SpecialRow : Type 0 where
  pub text : List ℕ
  pub architecture : Architecture
  pub vendor : KnownVendor
  pub operating_system : OperatingSystem

abbrev pub special_row : List ℕ → Architecture → KnownVendor → OperatingSystem → SpecialRow
special_row text a v s = record { text = text; architecture = a; vendor = v; operating_system = s }

-- the special strings
abbrev pub special_rows : List SpecialRow
-- written by tools/names/write: special_rows
special_rows =
    special_row (codes "armv6k-nintendo-3ds") (architecture.Arm arm.Armv6k) known_vendor.Nintendo operating_system.Horizon ∷
    special_row (codes "riscv32imc-esp-espidf") (architecture.Riscv32 riscv32.Riscv32imc) known_vendor.Espressif operating_system.Espidf ∷
    []

-- end of what is written

-- the triple of a row: with the environment `Newlib` and the format `Elf`
abbrev pub special_triple : SpecialRow → Values
special_triple row =
    values row.architecture (Known row.vendor) row.operating_system environment.Newlib binary_format.Elf

abbrev pub special_pair : SpecialRow → Pair Values
special_pair row = (row.text, special_triple row)

-- the triple of a special string
unfoldable pub special_values : List ℕ → Option Values
special_values text = value_named (map special_pair special_rows) text

-- the special string that a triple prints, by its first three fields: those of the string's row
unfoldable pub special_string : Values → Option (List ℕ)
special_string t = by_fields t.architecture t.vendor t.operating_system
  where
    by_fields : Architecture → VendorValue → OperatingSystem → Option (List ℕ)
    -- written by tools/names/write: special_string
    by_fields (architecture.Arm arm.Armv6k) (Known known_vendor.Nintendo) operating_system.Horizon =
        Some (codes "armv6k-nintendo-3ds")
    by_fields (architecture.Riscv32 riscv32.Riscv32imc) (Known known_vendor.Espressif) operating_system.Espidf =
        Some (codes "riscv32imc-esp-espidf")
    -- end of what is written
    by_fields _ _ _ = None

-- whether vendor and system are those of a special string: they imply the environment `Newlib`
abbrev pub implies_newlib : VendorValue → OperatingSystem → Bool
-- written by tools/names/write: implies_newlib
implies_newlib (Known known_vendor.Nintendo) operating_system.Horizon = true
implies_newlib (Known known_vendor.Espressif) operating_system.Espidf = true
-- end of what is written
implies_newlib _ _ = false
