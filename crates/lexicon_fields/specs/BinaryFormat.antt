-- The names of the binary formats.
use Rattle.std.specs.Prelude.{ℕ, List, [], ◌∷◌, codes, Option}
use Rattle.lexicon_fields.specs.{declared.binary_format.BinaryFormat.BinaryFormat, Names.value_named}
use Rattle.lexicon_fields.specs.{Names.named_values}
use Rattle.lexicon_fields.specs.declared.binary_format.BinaryFormat.TheVariants as binary_format

-- the name of a binary format
abbrev pub binary_format_name : BinaryFormat → List ℕ
-- written by tools/names/write: binary_format_name
binary_format_name binary_format.Unknown = codes "unknown"
binary_format_name binary_format.Elf = codes "elf"
binary_format_name binary_format.Coff = codes "coff"
binary_format_name binary_format.Macho = codes "macho"
binary_format_name binary_format.Wasm = codes "wasm"
binary_format_name binary_format.Xcoff = codes "xcoff"

-- end of what is written

-- all values
abbrev pub binary_format_values : List BinaryFormat
-- written by tools/names/write: binary_format_values
binary_format_values =
    binary_format.Unknown ∷ binary_format.Elf ∷ binary_format.Coff ∷ binary_format.Macho ∷ binary_format.Wasm ∷
    binary_format.Xcoff ∷ []

-- end of what is written

-- the value that a string parses as, if any
unfoldable pub binary_format_of : List ℕ → Option BinaryFormat
binary_format_of text = value_named (named_values binary_format_name binary_format_values) text
