-- The binary format that the other fields imply.
use Rattle.std.specs.Prelude.{if◌then◌else◌}
use Rattle.target_lexicon.specs.Values.{Architecture, OperatingSystem, Environment, BinaryFormat, Values}
use Rattle.lexicon_fields.specs.OperatingSystem.{is_like_darwin}
use Rattle.target_lexicon.specs.Values.architecture
use Rattle.target_lexicon.specs.Values.operating_system
use Rattle.target_lexicon.specs.Values.environment
use Rattle.target_lexicon.specs.Values.binary_format

-- written by tools/names/write: families that imply formats by their members
-- end of what is written

-- without an operating system only the embedded ABIs imply a format
abbrev pub format_without_system : Environment → BinaryFormat
-- written by tools/names/write: format_without_system
format_without_system environment.Eabi = binary_format.Elf
format_without_system environment.Eabihf = binary_format.Elf
-- end of what is written
format_without_system _ = binary_format.Unknown

-- Wasm on the WebAssembly architectures, unknown on an unknown architecture, and Elf on every other
abbrev pub wasm_or_elf : Architecture → BinaryFormat
-- written by tools/names/write: wasm_or_elf
wasm_or_elf architecture.Wasm32 = binary_format.Wasm
wasm_or_elf architecture.Wasm64 = binary_format.Wasm
wasm_or_elf architecture.Unknown = binary_format.Unknown
-- end of what is written
wasm_or_elf _ = binary_format.Elf

-- the format on a system that isn't like Darwin
abbrev pub non_darwin_format : Architecture → OperatingSystem → Environment → BinaryFormat
-- written by tools/names/write: non_darwin_format
non_darwin_format a operating_system.None_ e = format_without_system e
non_darwin_format a operating_system.Aix e = binary_format.Xcoff
non_darwin_format a operating_system.Windows e = binary_format.Coff
non_darwin_format a operating_system.Nebulet e = wasm_or_elf a
non_darwin_format a operating_system.Emscripten e = wasm_or_elf a
non_darwin_format a operating_system.VxWorks e = wasm_or_elf a
non_darwin_format a operating_system.Wasi e = wasm_or_elf a
non_darwin_format a operating_system.Unknown e = wasm_or_elf a
-- end of what is written
non_darwin_format a _ e = binary_format.Elf

-- the format that architecture, operating system and environment imply
abbrev pub implied_format : Architecture → OperatingSystem → Environment → BinaryFormat
implied_format a s e = if is_like_darwin s then binary_format.Macho else non_darwin_format a s e

-- the format that the other fields of a triple imply
abbrev pub default_binary_format : Values → BinaryFormat
default_binary_format t = implied_format t.architecture t.operating_system t.environment
