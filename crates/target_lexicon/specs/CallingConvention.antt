-- The names of calling conventions.
use Rattle.std.specs.Prelude.{ℕ, List, codes}
use Rattle.target_lexicon.specs.declared.calling_convention.CallingConvention.{CallingConvention}
use Rattle.target_lexicon.specs.declared.calling_convention.CallingConvention.TheVariants as convention

-- the name of a calling convention
abbrev pub convention_name : CallingConvention → List ℕ
-- written by tools/names/write: convention_name
convention_name convention.SystemV = codes "SystemV"
convention_name convention.WasmBasicCAbi = codes "WasmBasicCAbi"
convention_name convention.WindowsFastcall = codes "WindowsFastcall"
convention_name convention.AppleAarch64 = codes "AppleAarch64"

-- end of what is written
