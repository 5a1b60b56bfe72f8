-- The names of the environments.
use Rattle.std.specs.Prelude.{ℕ, List, [], ◌∷◌, codes, Option}
use Rattle.lexicon_fields.specs.{declared.environment.Environment.Environment, Names.value_named, Names.named_values}
use Rattle.lexicon_fields.specs.declared.environment.Environment.TheVariants as environment

-- the name of an environment
abbrev pub environment_name : Environment → List ℕ
-- written by tools/names/write: environment_name
environment_name environment.Unknown = codes "unknown"
environment_name environment.AmdGiz = codes "amdgiz"
environment_name environment.Android = codes "android"
environment_name environment.Androideabi = codes "androideabi"
environment_name environment.Eabi = codes "eabi"
environment_name environment.Eabihf = codes "eabihf"
environment_name environment.Gnu = codes "gnu"
environment_name environment.Gnuabi64 = codes "gnuabi64"
environment_name environment.Gnueabi = codes "gnueabi"
environment_name environment.Gnueabihf = codes "gnueabihf"
environment_name environment.Gnuspe = codes "gnuspe"
environment_name environment.Gnux32 = codes "gnux32"
environment_name environment.GnuIlp32 = codes "gnu_ilp32"
environment_name environment.GnuLlvm = codes "gnullvm"
environment_name environment.HermitKernel = codes "hermitkernel"
environment_name environment.HurdKernel = codes "hurdkernel"
environment_name environment.LinuxKernel = codes "linuxkernel"
environment_name environment.Macabi = codes "macabi"
environment_name environment.Musl = codes "musl"
environment_name environment.Musleabi = codes "musleabi"
environment_name environment.Musleabihf = codes "musleabihf"
environment_name environment.Muslabi64 = codes "muslabi64"
environment_name environment.Msvc = codes "msvc"
environment_name environment.Newlib = codes "newlib"
environment_name environment.None = codes "none"
environment_name environment.Kernel = codes "kernel"
environment_name environment.Uclibc = codes "uclibc"
environment_name environment.Uclibceabi = codes "uclibceabi"
environment_name environment.Uclibceabihf = codes "uclibceabihf"
environment_name environment.Sgx = codes "sgx"
environment_name environment.Sim = codes "sim"
environment_name environment.Softfloat = codes "softfloat"
environment_name environment.Spe = codes "spe"
environment_name environment.Threads = codes "threads"
environment_name environment.Ohos = codes "ohos"

-- end of what is written

-- all values
abbrev pub environment_values : List Environment
-- written by tools/names/write: environment_values
environment_values =
    environment.Unknown ∷ environment.AmdGiz ∷ environment.Android ∷ environment.Androideabi ∷ environment.Eabi ∷
    environment.Eabihf ∷ environment.Gnu ∷ environment.Gnuabi64 ∷ environment.Gnueabi ∷ environment.Gnueabihf ∷
    environment.Gnuspe ∷ environment.Gnux32 ∷ environment.GnuIlp32 ∷ environment.GnuLlvm ∷ environment.HermitKernel ∷
    environment.HurdKernel ∷ environment.LinuxKernel ∷ environment.Macabi ∷ environment.Musl ∷ environment.Musleabi ∷
    environment.Musleabihf ∷ environment.Muslabi64 ∷ environment.Msvc ∷ environment.Newlib ∷ environment.None ∷
    environment.Kernel ∷ environment.Uclibc ∷ environment.Uclibceabi ∷ environment.Uclibceabihf ∷ environment.Sgx ∷
    environment.Sim ∷ environment.Softfloat ∷ environment.Spe ∷ environment.Threads ∷ environment.Ohos ∷ []

-- end of what is written

-- the value that a string parses as, if any
unfoldable pub environment_of : List ℕ → Option Environment
environment_of text = value_named (named_values environment_name environment_values) text
