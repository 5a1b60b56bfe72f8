-- Queries for code generators: byte order, pointer width, calling convention and data model. They don't depend on
-- vendor and binary format.
use Rattle.std.specs.Prelude.{Bool, true, false, Option, Some, None, if◌then◌else◌}
use Rattle.target_lexicon.specs.{Values.Architecture, Values.OperatingSystem, Values.Environment, Values.Values}
use Rattle.target_lexicon.specs.{declared.calling_convention.CallingConvention.CallingConvention}
use Rattle.target_lexicon.specs.declared.data_model.CDataModel.{CDataModel}
use Rattle.target_lexicon.specs.declared.calling_convention.CallingConvention.TheVariants as convention
use Rattle.target_lexicon.specs.declared.data_model.CDataModel.TheVariants.{ILP32, LLP64, LP64}
use Rattle.lexicon_fields.specs.{declared.endianness.Endianness.Endianness}
use Rattle.lexicon_fields.specs.{declared.pointer_width.PointerWidth.PointerWidth}
use Rattle.lexicon_fields.specs.{ArchitectureQueries.architecture_endianness, ArchitectureQueries.architecture_width}
use Rattle.lexicon_fields.specs.{OperatingSystem.is_like_darwin}
use Rattle.lexicon_fields.specs.declared.pointer_width.PointerWidth.TheVariants.{U32, U64}
use Rattle.target_lexicon.specs.Values.architecture
use Rattle.target_lexicon.specs.Values.operating_system
use Rattle.target_lexicon.specs.Values.environment
-- written by tools/names/write: families that have conventions by their members
-- end of what is written
pub use Rattle.lexicon_fields.specs.{Endianness.endianness_name, PointerWidth.width_name}

-- the environments whose pointers have 32 bits on every architecture
abbrev pub is_ilp32 : Environment → Bool
-- written by tools/names/write: is_ilp32
is_ilp32 environment.Gnux32 = true
is_ilp32 environment.GnuIlp32 = true
-- end of what is written
is_ilp32 _ = false

-- systems like Darwin have a convention of their own on 64-bit Arm
abbrev pub darwin_convention : Architecture → Option CallingConvention
darwin_convention (architecture.Aarch64 _) = Some convention.AppleAarch64
darwin_convention _ = Some convention.SystemV

-- systems that run WebAssembly have a convention only on its 32-bit architecture
abbrev pub wasm_convention : Architecture → Option CallingConvention
-- written by tools/names/write: wasm_convention
wasm_convention architecture.Wasm32 = Some convention.WasmBasicCAbi
-- end of what is written
wasm_convention _ = None

-- the convention on a system that isn't like Darwin
abbrev pub other_convention : Architecture → OperatingSystem → Option CallingConvention
-- written by tools/names/write: other_convention
other_convention a operating_system.Aix = Some convention.SystemV
other_convention a operating_system.Bitrig = Some convention.SystemV
other_convention a operating_system.Cloudabi = Some convention.SystemV
other_convention a operating_system.Dragonfly = Some convention.SystemV
other_convention a operating_system.Freebsd = Some convention.SystemV
other_convention a operating_system.Fuchsia = Some convention.SystemV
other_convention a operating_system.Haiku = Some convention.SystemV
other_convention a operating_system.Hermit = Some convention.SystemV
other_convention a operating_system.Hurd = Some convention.SystemV
other_convention a operating_system.L4re = Some convention.SystemV
other_convention a operating_system.Linux = Some convention.SystemV
other_convention a operating_system.Netbsd = Some convention.SystemV
other_convention a operating_system.Openbsd = Some convention.SystemV
other_convention a operating_system.Redox = Some convention.SystemV
other_convention a operating_system.Solaris = Some convention.SystemV
other_convention a operating_system.Windows = Some convention.WindowsFastcall
other_convention a operating_system.Nebulet = wasm_convention a
other_convention a operating_system.Emscripten = wasm_convention a
other_convention a operating_system.Wasi = wasm_convention a
other_convention a operating_system.Unknown = wasm_convention a
-- end of what is written
other_convention a _ = None

-- the calling convention of an architecture on a system
abbrev pub convention_on : Architecture → OperatingSystem → Option CallingConvention
convention_on a s = if is_like_darwin s then darwin_convention a else other_convention a s

-- the model of 64-bit pointers by the calling convention
abbrev pub convention_model_64 : Option CallingConvention → Option CDataModel
convention_model_64 (Some convention.SystemV) = Some LP64
convention_model_64 (Some convention.AppleAarch64) = Some LP64
convention_model_64 _ = None

-- the model of 32-bit pointers by the calling convention
abbrev pub convention_model_32 : Option CallingConvention → Option CDataModel
convention_model_32 (Some convention.SystemV) = Some ILP32
convention_model_32 _ = None

-- the systems whose 64-bit machines have the model `LLP64`, and those whose 32-bit machines have `ILP32`, whatever the
-- calling convention is
abbrev pub has_llp64 : OperatingSystem → Bool
-- written by tools/names/write: has_llp64
has_llp64 operating_system.Windows = true
-- end of what is written
has_llp64 _ = false

abbrev pub has_ilp32 : OperatingSystem → Bool
-- written by tools/names/write: has_ilp32
has_ilp32 operating_system.Windows = true
-- end of what is written
has_ilp32 _ = false

-- the models on other systems, by the architecture and its calling convention there
abbrev pub other_model_64 : Architecture → Option CallingConvention → Option CDataModel
other_model_64 architecture.Wasm64 c = Some LP64
other_model_64 _ c = convention_model_64 c

abbrev pub other_model_32 : Architecture → Option CallingConvention → Option CDataModel
other_model_32 architecture.Wasm32 c = Some ILP32
other_model_32 _ c = convention_model_32 c

-- the model of 64-bit pointers
abbrev pub model_64 : Architecture → OperatingSystem → Option CDataModel
model_64 a s = if has_llp64 s then Some LLP64 else other_model_64 a (convention_on a s)

-- the model of 32-bit pointers
abbrev pub model_32 : Architecture → OperatingSystem → Option CDataModel
model_32 a s = if has_ilp32 s then Some ILP32 else other_model_32 a (convention_on a s)

-- the model by the pointer width; pointers of 16 bits have none
abbrev pub model_of_width : Option PointerWidth → Architecture → OperatingSystem → Option CDataModel
model_of_width (Some U64) a s = model_64 a s
model_of_width (Some U32) a s = model_32 a s
model_of_width _ a s = None

-- the four queries of a triple, each of which may have no answer
abbrev pub endianness : Values → Option Endianness
endianness t = architecture_endianness t.architecture

abbrev pub pointer_width : Values → Option PointerWidth
pointer_width t = if is_ilp32 t.environment then Some U32 else architecture_width t.architecture

abbrev pub calling_convention : Values → Option CallingConvention
calling_convention t = convention_on t.architecture t.operating_system

abbrev pub data_model : Values → Option CDataModel
data_model t = model_of_width (pointer_width t) t.architecture t.operating_system
