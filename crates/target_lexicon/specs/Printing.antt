-- The printed string of a triple: upstream's rules, and one rule on top of them, `shows_unknowns`. These definitions
-- are held to their subject by a comparison with upstream (`checks/specification against`), from which the strings
-- differ only by that rule (`OnlyUnknownsDifferFromUpstream`), and by the round trip: a printed string reads as the
-- triple or its normal step (`RoundIsNormalStep`).
use Rattle.std.specs.Prelude.{◌≡◌, ◌≢◌, ◌↔◌, ℕ, Bool, true, false, not, ◌&&◌, ◌||◌, List, [], ◌∷◌, None, unwrap_or}
use Rattle.std.specs.List.{join_with_byte}
use Rattle.lexicon_fields.specs.Names.{dash}
use Rattle.target_lexicon.specs.Values.{Architecture, OperatingSystem, Environment, Values, is_unknown_vendor}
use Rattle.target_lexicon.specs.Values.{is_unknown_environment, is_newlib, omits_unknown_system, is_same_format}
use Rattle.target_lexicon.specs.{ImpliedFormat.default_binary_format, SpecialStrings.implies_newlib}
use Rattle.target_lexicon.specs.{SpecialStrings.special_string}
use Rattle.lexicon_fields.specs.{declared.architecture.arm.ArmArchitecture.ArmArchitecture}
use Rattle.lexicon_fields.specs.{Architecture.architecture_name, OperatingSystem.operating_system_name}
use Rattle.lexicon_fields.specs.{Vendor.vendor_name, Environment.environment_name, BinaryFormat.binary_format_name}
use Rattle.target_lexicon.specs.Values.architecture
use Rattle.target_lexicon.specs.Values.operating_system
use Rattle.target_lexicon.specs.Values.environment
use Rattle.target_lexicon.specs.Values.binary_format
-- written by tools/names/write: families that print by their members
use Rattle.target_lexicon.specs.Values.arm

-- end of what is written

-- the Arm architectures whose triples omit an unknown vendor if the system is `none`
abbrev pub is_bare_arm : ArmArchitecture → Bool
-- written by tools/names/write: is_bare_arm
is_bare_arm arm.Armv4t = true
is_bare_arm arm.Armv5te = true
is_bare_arm arm.Armebv7r = true
is_bare_arm arm.Armv7a = true
is_bare_arm arm.Armv7r = true
is_bare_arm arm.Armv8r = true
is_bare_arm arm.Thumbv4t = true
is_bare_arm arm.Thumbv5te = true
is_bare_arm arm.Thumbv6m = true
is_bare_arm arm.Thumbv7em = true
is_bare_arm arm.Thumbv7m = true
is_bare_arm arm.Thumbv8mBase = true
is_bare_arm arm.Thumbv8mMain = true
-- end of what is written
is_bare_arm _ = false

-- whether an unknown vendor is omitted: on Linux with an environment of Android or `kernel`, on WASI, and with the
-- system `none` on MSP430 and these Arm architectures
abbrev pub omits_unknown_vendor : Architecture → OperatingSystem → Environment → Bool
-- written by tools/names/write: omits_unknown_vendor
omits_unknown_vendor a operating_system.Linux environment.Android = true
omits_unknown_vendor a operating_system.Linux environment.Androideabi = true
omits_unknown_vendor a operating_system.Linux environment.Kernel = true
omits_unknown_vendor a operating_system.Wasi e = true
omits_unknown_vendor a operating_system.WasiP1 e = true
omits_unknown_vendor a operating_system.WasiP2 e = true
omits_unknown_vendor architecture.Msp430 operating_system.None_ e = true
omits_unknown_vendor (architecture.Arm sub) operating_system.None_ e = is_bare_arm sub
-- end of what is written
omits_unknown_vendor a _ e = false

-- the environments `hermitkernel` and `linuxkernel`
abbrev pub is_hermit_or_linux_kernel : Environment → Bool
-- written by tools/names/write: is_hermit_or_linux_kernel
is_hermit_or_linux_kernel environment.HermitKernel = true
is_hermit_or_linux_kernel environment.LinuxKernel = true
-- end of what is written
is_hermit_or_linux_kernel _ = false

-- the vendor is shown unless it is unknown and the triple omits it; with one of these kernels it is always shown
abbrev pub shows_vendor : Values → Bool
shows_vendor t =
    not (is_unknown_vendor t.vendor) || is_hermit_or_linux_kernel t.environment
    || not (omits_unknown_vendor t.architecture t.operating_system t.environment)

-- on some architectures an unknown system is omitted
abbrev pub shows_operating_system : Values → Bool
shows_operating_system t = not (omits_unknown_system t.architecture t.operating_system)

-- an unknown environment is omitted, and so is a `Newlib` that vendor and system imply
abbrev pub shows_environment : Values → Bool
shows_environment t = not (is_unknown_environment t.environment)
    && not (implies_newlib t.vendor t.operating_system && is_newlib t.environment)

-- the systems `none` and `unknown`
abbrev pub is_none_or_unknown : OperatingSystem → Bool
is_none_or_unknown operating_system.None_ = true
is_none_or_unknown operating_system.Unknown = true
is_none_or_unknown _ = false

-- the environments and the architectures whose triples omit an implied format even without a system
abbrev pub environment_implies_format : Environment → Bool
-- written by tools/names/write: environment_implies_format
environment_implies_format environment.Eabi = true
environment_implies_format environment.Eabihf = true
environment_implies_format environment.Sgx = true
-- end of what is written
environment_implies_format _ = false

abbrev pub architecture_implies_format : Architecture → Bool
-- written by tools/names/write: architecture_implies_format
architecture_implies_format architecture.ZkAsm = true
architecture_implies_format architecture.Avr = true
architecture_implies_format architecture.Wasm32 = true
architecture_implies_format architecture.Wasm64 = true
-- end of what is written
architecture_implies_format _ = false

-- without a system a known format is shown even if it is the implied one, with these exceptions
abbrev pub shows_implied_format : Values → Bool
shows_implied_format t =
    not (architecture_implies_format t.architecture) && is_none_or_unknown t.operating_system
    && not (environment_implies_format t.environment) && not (is_same_format t.binary_format binary_format.Unknown)

-- the implied format is omitted, except in such triples
abbrev pub shows_binary_format : Values → Bool
shows_binary_format t = not (is_same_format t.binary_format (default_binary_format t)) || shows_implied_format t

-- the parts with one more in front, if that is shown
abbrev pub cons_if : Bool → List ℕ → List (List ℕ) → List (List ℕ)
cons_if true part parts = part ∷ parts
cons_if false part parts = parts

-- the names of the fields that are shown: by upstream's rules, or with the last three fields shown whatever these say
unfoldable pub shown_names : Bool → Values → List (List ℕ)
shown_names shows_last_three t =
    architecture_name t.architecture ∷ cons_if (shows_vendor t) (vendor_name t.vendor)
    (cons_if (shows_last_three || shows_operating_system t) (operating_system_name t.operating_system)
    (cons_if (shows_last_three || shows_environment t) (environment_name t.environment)
    (cons_if (shows_last_three || shows_binary_format t) (binary_format_name t.binary_format) [])))

-- the one addition to upstream's rules: an unknown environment and an unknown format are both shown if another format
-- is implied, and the operating system with them, so that each of the last three names parses as its own field
abbrev pub shows_unknowns : Values → Bool
shows_unknowns t = is_unknown_environment t.environment && is_same_format t.binary_format binary_format.Unknown
    && not (is_same_format t.binary_format (default_binary_format t))

-- the special string of a triple, or else these names joined by dashes
abbrev pub text_with : Bool → Values → List ℕ
text_with shows_last_three t = unwrap_or (special_string t) (join_with_byte dash (shown_names shows_last_three t))

-- the printed string of a triple
unfoldable pub string_of : Values → List ℕ
string_of t = text_with (shows_unknowns t) t

-- the string that upstream prints for the triple
unfoldable pub upstream_string_of : Values → List ℕ
upstream_string_of t = text_with false t

-- environment and format are unknown, another format is implied, and no special string is printed
pub record HasUnimpliedUnknowns (t : Values) : Type 0 where
  pub implied : default_binary_format t ≢ binary_format.Unknown
  pub environment : t.environment ≡ environment.Unknown
  pub binary_format : t.binary_format ≡ binary_format.Unknown
  pub special : special_string t ≡ None

-- exactly the strings of these triples differ from upstream's
abbrev pub OnlyUnknownsDifferFromUpstream : Type 0
OnlyUnknownsDifferFromUpstream = (t : Values) → (string_of t ≢ upstream_string_of t) ↔ HasUnimpliedUnknowns t
