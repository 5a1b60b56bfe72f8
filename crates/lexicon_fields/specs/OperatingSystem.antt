-- The names of the operating systems.
use Rattle.std.specs.Prelude.{ℕ, Bool, true, false, List, [], ◌∷◌, ◌++◌, codes, nat_eq, length, drop, Option, Some}
use Rattle.std.specs.Prelude.{None, option_map, option_and_then, if◌then◌else◌}
use Rattle.std.specs.List.{starts_with}
use Rattle.std.specs.Option.{option_or}
use Rattle.lexicon_fields.specs.{declared.deployment_target.DeploymentTarget.DeploymentTarget}
use Rattle.lexicon_fields.specs.{declared.operating_system.OperatingSystem.OperatingSystem, Names.Pair}
use Rattle.lexicon_fields.specs.{Names.value_named, Names.named_values}
use Rattle.lexicon_fields.specs.Version.{version_of, version_name}
use Rattle.lexicon_fields.specs.declared.operating_system.OperatingSystem.TheVariants as operating_system

-- the string of an optional version after a prefix
abbrev pub version_suffix : Option DeploymentTarget → List ℕ
version_suffix None = []
version_suffix (Some version) = version_name version

-- the name of an operating system; that of a system like Darwin is its prefix and its version
abbrev pub operating_system_name : OperatingSystem → List ℕ
-- written by tools/names/write: operating_system_name
operating_system_name operating_system.Unknown = codes "unknown"
operating_system_name operating_system.Aix = codes "aix"
operating_system_name operating_system.AmdHsa = codes "amdhsa"
operating_system_name operating_system.Bitrig = codes "bitrig"
operating_system_name operating_system.Cloudabi = codes "cloudabi"
operating_system_name operating_system.Cuda = codes "cuda"
operating_system_name operating_system.Cygwin = codes "cygwin"
operating_system_name (operating_system.Darwin version) = codes "darwin" ++ version_suffix version
operating_system_name operating_system.Dragonfly = codes "dragonfly"
operating_system_name operating_system.Emscripten = codes "emscripten"
operating_system_name operating_system.Espidf = codes "espidf"
operating_system_name operating_system.Freebsd = codes "freebsd"
operating_system_name operating_system.Fuchsia = codes "fuchsia"
operating_system_name operating_system.Haiku = codes "haiku"
operating_system_name operating_system.Hermit = codes "hermit"
operating_system_name operating_system.Horizon = codes "horizon"
operating_system_name operating_system.Hurd = codes "hurd"
operating_system_name operating_system.Illumos = codes "illumos"
operating_system_name (operating_system.IOS version) = codes "ios" ++ version_suffix version
operating_system_name operating_system.L4re = codes "l4re"
operating_system_name operating_system.Linux = codes "linux"
operating_system_name (operating_system.MacOSX version) = codes "macosx" ++ version_suffix version
operating_system_name operating_system.Nebulet = codes "nebulet"
operating_system_name operating_system.Netbsd = codes "netbsd"
operating_system_name operating_system.None_ = codes "none"
operating_system_name operating_system.Openbsd = codes "openbsd"
operating_system_name operating_system.Psp = codes "psp"
operating_system_name operating_system.Redox = codes "redox"
operating_system_name operating_system.Solaris = codes "solaris"
operating_system_name operating_system.SolidAsp3 = codes "solid_asp3"
operating_system_name (operating_system.TvOS version) = codes "tvos" ++ version_suffix version
operating_system_name operating_system.Uefi = codes "uefi"
operating_system_name (operating_system.VisionOS version) = codes "visionos" ++ version_suffix version
operating_system_name operating_system.VxWorks = codes "vxworks"
operating_system_name operating_system.Wasi = codes "wasi"
operating_system_name operating_system.WasiP1 = codes "wasip1"
operating_system_name operating_system.WasiP2 = codes "wasip2"
operating_system_name (operating_system.WatchOS version) = codes "watchos" ++ version_suffix version
operating_system_name operating_system.Windows = codes "windows"
operating_system_name (operating_system.XROS version) = codes "xros" ++ version_suffix version

-- end of what is written

-- the version of a system, if it has one
abbrev pub system_version : OperatingSystem → Option DeploymentTarget
-- written by tools/names/write: system_version
system_version (operating_system.Darwin version) = version
system_version (operating_system.IOS version) = version
system_version (operating_system.MacOSX version) = version
system_version (operating_system.TvOS version) = version
system_version (operating_system.VisionOS version) = version
system_version (operating_system.WatchOS version) = version
system_version (operating_system.XROS version) = version
-- end of what is written
system_version _ = None

-- whether a system is like Darwin
abbrev pub is_like_darwin : OperatingSystem → Bool
-- written by tools/names/write: is_like_darwin
is_like_darwin (operating_system.Darwin version) = true
is_like_darwin (operating_system.IOS version) = true
is_like_darwin (operating_system.MacOSX version) = true
is_like_darwin (operating_system.TvOS version) = true
is_like_darwin (operating_system.VisionOS version) = true
is_like_darwin (operating_system.WatchOS version) = true
is_like_darwin (operating_system.XROS version) = true
-- end of what is written
is_like_darwin _ = false

-- the systems with a fixed name
abbrev pub fixed_operating_systems : List OperatingSystem
-- written by tools/names/write: fixed_operating_systems
fixed_operating_systems =
    operating_system.Unknown ∷ operating_system.Aix ∷ operating_system.AmdHsa ∷ operating_system.Bitrig ∷
    operating_system.Cloudabi ∷ operating_system.Cuda ∷ operating_system.Cygwin ∷ operating_system.Dragonfly ∷
    operating_system.Emscripten ∷ operating_system.Espidf ∷ operating_system.Freebsd ∷ operating_system.Fuchsia ∷
    operating_system.Haiku ∷ operating_system.Hermit ∷ operating_system.Horizon ∷ operating_system.Hurd ∷
    operating_system.Illumos ∷ operating_system.L4re ∷ operating_system.Linux ∷ operating_system.Nebulet ∷
    operating_system.Netbsd ∷ operating_system.None_ ∷ operating_system.Openbsd ∷ operating_system.Psp ∷
    operating_system.Redox ∷ operating_system.Solaris ∷ operating_system.SolidAsp3 ∷ operating_system.Uefi ∷
    operating_system.VxWorks ∷ operating_system.Wasi ∷ operating_system.WasiP1 ∷ operating_system.WasiP2 ∷
    operating_system.Windows ∷ []

-- end of what is written

-- the prefixes of the systems like Darwin
abbrev pub darwin_prefixes : List (Pair (Option DeploymentTarget → OperatingSystem))
-- written by tools/names/write: darwin_prefixes
darwin_prefixes =
    (codes "darwin", operating_system.Darwin) ∷ (codes "ios", operating_system.IOS) ∷
    (codes "macosx", operating_system.MacOSX) ∷ (codes "tvos", operating_system.TvOS) ∷
    (codes "visionos", operating_system.VisionOS) ∷ (codes "watchos", operating_system.WatchOS) ∷
    (codes "xros", operating_system.XROS) ∷ []

-- end of what is written

-- the optional version that a string after a prefix is: `Some None` for an empty one, `None` for one that is no version
abbrev pub optional_version_of : List ℕ → Option (Option DeploymentTarget)
optional_version_of [] = Some None
optional_version_of (c ∷ cs) = option_map Some (version_of (c ∷ cs))

-- a system like Darwin by the string after its prefix
abbrev pub system_with_version : (Option DeploymentTarget → OperatingSystem) → List ℕ → Option OperatingSystem
system_with_version operating_system text = option_map operating_system (optional_version_of text)

-- the string after a prefix, if the string begins with it
abbrev pub text_after_prefix : List ℕ → List ℕ → Option (List ℕ)
text_after_prefix prefix text = if starts_with nat_eq text prefix then Some (drop (length prefix) text) else None

-- the system like Darwin that a string parses as, by the first of these prefixes that gives one
abbrev pub darwin_like_system : List (Pair (Option DeploymentTarget → OperatingSystem)) → List ℕ
    → Option OperatingSystem
darwin_like_system [] text = None
darwin_like_system (row ∷ rows) text = option_or
    (option_and_then (system_with_version row.1) (text_after_prefix row.0 text)) (darwin_like_system rows text)

-- the system with this fixed name, if there is one
unfoldable pub fixed_operating_system_of : List ℕ → Option OperatingSystem
fixed_operating_system_of text = value_named (named_values operating_system_name fixed_operating_systems) text

-- the value that a string parses as, if any
unfoldable pub operating_system_of : List ℕ → Option OperatingSystem
operating_system_of text = option_or (fixed_operating_system_of text) (darwin_like_system darwin_prefixes text)
