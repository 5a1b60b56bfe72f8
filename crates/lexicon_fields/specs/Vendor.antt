-- Vendors: the known ones, and custom ones, which are any other string of a certain form.
use Rattle.std.specs.Prelude.{◌≡◌, ℕ, ◌==◌, Bool, true, false, ◌&&◌, ◌||◌, List, [], ◌∷◌, codes, Option, Some, None}
use Rattle.std.specs.Prelude.{is_none, option_map, if◌then◌else◌, string_bytes, IsTrue}
use Rattle.std.specs.Char.{is_ascii_digit, is_ascii_lowercase}
use Rattle.std.specs.List.{list_all}
use Rattle.std.specs.Option.{option_or}
use Rattle.lexicon_fields.specs.declared.known_vendor.KnownVendor.{KnownVendor}
use Rattle.lexicon_fields.specs.{declared.vendor.CustomVendor.CustomVendor}
use Rattle.lexicon_fields.specs.{declared.vendor.CustomVendor.TheVariants.Owned}
use Rattle.lexicon_fields.specs.{declared.vendor.CustomVendor.TheVariants.Static, Environment.environment_of}
use Rattle.lexicon_fields.specs.{Version.dot, declared.vendor.Vendor.Vendor, declared.vendor.VendorError.VendorError}
use Rattle.lexicon_fields.specs.{Names.value_named, Names.named_values, Architecture.architecture_of}
use Rattle.lexicon_fields.specs.{OperatingSystem.operating_system_of}
use Rattle.lexicon_fields.specs.{declared.vendor.VendorError.TheVariants.Unrecognized}
use Rattle.lexicon_fields.specs.{declared.vendor.VendorError.TheVariants.OutOfMemory, BinaryFormat.binary_format_of}
use Rattle.lexicon_fields.specs.declared.known_vendor.KnownVendor.TheVariants as known_vendor
use Rattle.lexicon_fields.specs.declared.vendor.Vendor.TheVariants as vendor

-- a vendor as the rules see it: a known one, or a custom one, which is its string
pub data VendorValue : Type 0 where
  Known : KnownVendor → VendorValue
  Custom : List ℕ → VendorValue

-- the string of a custom vendor, owned or static
abbrev pub custom_string : CustomVendor → List ℕ
custom_string (Owned text) = string_bytes text.value
custom_string (Static text) = text.now

-- whether a custom vendor owns its string
abbrev pub is_owned : CustomVendor → Bool
is_owned (Owned text) = true
is_owned (Static text) = false

-- whether a vendor is a custom one that owns its string
abbrev pub owns_string : Vendor → Bool
owns_string (vendor.Custom custom) = is_owned custom
owns_string _ = false

-- the value of a vendor
abbrev pub vendor_value : Vendor → VendorValue
-- written by tools/names/write: vendor_value
vendor_value vendor.Unknown = Known known_vendor.Unknown
vendor_value vendor.Amd = Known known_vendor.Amd
vendor_value vendor.Apple = Known known_vendor.Apple
vendor_value vendor.Espressif = Known known_vendor.Espressif
vendor_value vendor.Experimental = Known known_vendor.Experimental
vendor_value vendor.Fortanix = Known known_vendor.Fortanix
vendor_value vendor.Ibm = Known known_vendor.Ibm
vendor_value vendor.Kmc = Known known_vendor.Kmc
vendor_value vendor.Nintendo = Known known_vendor.Nintendo
vendor_value vendor.Nvidia = Known known_vendor.Nvidia
vendor_value vendor.Pc = Known known_vendor.Pc
vendor_value vendor.Rumprun = Known known_vendor.Rumprun
vendor_value vendor.Sun = Known known_vendor.Sun
vendor_value vendor.Uwp = Known known_vendor.Uwp
vendor_value vendor.Wrs = Known known_vendor.Wrs
-- end of what is written
vendor_value (vendor.Custom custom) = Custom (custom_string custom)

-- the name of a known vendor
abbrev pub known_vendor_name : KnownVendor → List ℕ
-- written by tools/names/write: known_vendor_name
known_vendor_name known_vendor.Unknown = codes "unknown"
known_vendor_name known_vendor.Amd = codes "amd"
known_vendor_name known_vendor.Apple = codes "apple"
known_vendor_name known_vendor.Espressif = codes "espressif"
known_vendor_name known_vendor.Experimental = codes "experimental"
known_vendor_name known_vendor.Fortanix = codes "fortanix"
known_vendor_name known_vendor.Ibm = codes "ibm"
known_vendor_name known_vendor.Kmc = codes "kmc"
known_vendor_name known_vendor.Nintendo = codes "nintendo"
known_vendor_name known_vendor.Nvidia = codes "nvidia"
known_vendor_name known_vendor.Pc = codes "pc"
known_vendor_name known_vendor.Rumprun = codes "rumprun"
known_vendor_name known_vendor.Sun = codes "sun"
known_vendor_name known_vendor.Uwp = codes "uwp"
known_vendor_name known_vendor.Wrs = codes "wrs"

-- end of what is written

-- the name of a vendor; that of a custom one is its string
abbrev pub vendor_name : VendorValue → List ℕ
vendor_name (Known known) = known_vendor_name known
vendor_name (Custom text) = text

abbrev pub known_vendors : List KnownVendor
-- written by tools/names/write: known_vendors
known_vendors =
    known_vendor.Unknown ∷ known_vendor.Amd ∷ known_vendor.Apple ∷ known_vendor.Espressif ∷
    known_vendor.Experimental ∷ known_vendor.Fortanix ∷ known_vendor.Ibm ∷ known_vendor.Kmc ∷ known_vendor.Nintendo ∷
    known_vendor.Nvidia ∷ known_vendor.Pc ∷ known_vendor.Rumprun ∷ known_vendor.Sun ∷ known_vendor.Uwp ∷
    known_vendor.Wrs ∷ []

-- end of what is written

-- the known vendor with this name, if there is one
unfoldable pub known_vendor_of : List ℕ → Option KnownVendor
known_vendor_of text = value_named (named_values known_vendor_name known_vendors) text

abbrev pub underscore : ℕ
underscore = 95

-- `a` to `z`, `0` to `9`, `_` and `.`
abbrev pub is_vendor_character : ℕ → Bool
is_vendor_character c = is_ascii_lowercase c || is_ascii_digit c || (c == underscore) || (c == dot)

-- a string that begins with a lower-case letter and has only characters of a vendor
abbrev pub has_vendor_form : List ℕ → Bool
has_vendor_form [] = false
has_vendor_form (c ∷ cs) = is_ascii_lowercase c && list_all is_vendor_character cs

-- a string that parses as no other field and is not the name of a known vendor
abbrev pub is_free : List ℕ → Bool
is_free text =
    is_none (known_vendor_of text) && is_none (architecture_of text) && is_none (operating_system_of text)
    && is_none (environment_of text) && is_none (binary_format_of text)

-- whether a string is admitted as a custom vendor
unfoldable pub is_admitted : List ℕ → Bool
is_admitted text = is_free text && has_vendor_form text

-- the custom vendor with this string, if the string is admitted
abbrev pub custom_vendor_of : List ℕ → Option VendorValue
custom_vendor_of text = if is_admitted text then Some (Custom text) else None

-- the value that a string parses as, if any
unfoldable pub vendor_of : List ℕ → Option VendorValue
vendor_of text = option_or (option_map Known (known_vendor_of text)) (custom_vendor_of text)

-- whether a vendor is plain: known, or custom with an admitted string
abbrev pub is_plain : VendorValue → Bool
is_plain (Known known) = true
is_plain (Custom text) = is_admitted text

-- whether a vendor is a custom one
abbrev pub is_custom : VendorValue → Bool
is_custom (Known known) = false
is_custom (Custom text) = true

abbrev pub IsCustom : VendorValue → Type 0
IsCustom v = IsTrue (is_custom v)

-- if the vendor is custom, it owns its string
abbrev pub OwnsCustomString : Vendor → Type 0
OwnsCustomString v = IsCustom (vendor_value v) → owns_string v ≡ true

-- why a string doesn't parse as a vendor: it is no vendor, or it is admitted and the allocation for it failed
abbrev pub IsVendorErrorOf : List ℕ → VendorError → Type 0
IsVendorErrorOf text Unrecognized = vendor_of text ≡ None
IsVendorErrorOf text OutOfMemory = is_admitted text ≡ true
