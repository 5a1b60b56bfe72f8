-- Parsing as a relation, which knows no parser: the parts of a string and the fields that they can be of, the triple
-- that a string parses as, and how a string is refused.
use Rattle.std.specs.Prelude.{◌≡◌, ◌≢◌, ℕ, ◌<◌, ◌≤◌, ◌==◌, suc, List, [], ◌∷◌, Option, Some, None, true, map, take}
use Rattle.std.specs.Prelude.{slice_get, if◌then◌else◌, IfSome, MatchOption, ◌⊎◌}
use Rattle.std.specs.Borrow.{Bor}
use Rattle.std.specs.{List.AllZip, List.join_with_byte, List.list_all, List.slice_split}
use Rattle.std.specs.{List.Sorted.IsStrictlyIncreasing}
use Rattle.lexicon_fields.specs.Names.{dash, is_dash_free}
use Rattle.lexicon_fields.specs.{Architecture.architecture_of, Vendor.IsCustom, Vendor.vendor_of}
use Rattle.lexicon_fields.specs.{OperatingSystem.operating_system_of, Environment.environment_of}
use Rattle.lexicon_fields.specs.{BinaryFormat.binary_format_of}
use Rattle.target_lexicon.specs.{declared.parse_error.ParseError.ParseError, Field.Field, Field.field_number}
use Rattle.target_lexicon.specs.{Field.parses_as, ImpliedFormat.default_binary_format}
use Rattle.target_lexicon.specs.{Refusal.Refusal, Refusal.refusal_of, SpecialStrings.special_values, Values.Values}
use Rattle.target_lexicon.specs.Values.architecture
use Rattle.target_lexicon.specs.Values.operating_system
use Rattle.target_lexicon.specs.Values.environment
use Rattle.lexicon_fields.specs.declared.known_vendor.KnownVendor.TheVariants as known_vendor
use Rattle.lexicon_fields.specs.Vendor as vendor
use Rattle.target_lexicon.specs.Field as field

-- the string is these strings, at least one and without dashes, joined by dashes
pub record ArePartsOf (text : List ℕ) (parts : List (List ℕ)) : Type 0 where
  pub some : parts ≢ []
  pub dash_free : list_all is_dash_free parts ≡ true
  pub joined : join_with_byte dash parts ≡ text

-- the parts of a string, which is cut at each dash
abbrev pub parts_of : List ℕ → List (List ℕ)
parts_of text = slice_split (λ b. b == dash) text

-- the parts of what follows a dash, if there is one
abbrev pub parts_after : Option (Bor (List ℕ)) → List (List ℕ)
parts_after None = []
parts_after (Some rest) = parts_of rest.now

-- each part parses as its field; the first field is the architecture, and each other one comes after the one before it
pub record IsPlacement (parts : List (List ℕ)) (fields : List Field) : Type 0 where
  pub first : slice_get fields 0 ≡ Some field.Architecture
  pub increasing : IsStrictlyIncreasing (map field_number fields)
  pub parsed : AllZip (λ part field. parses_as field part ≡ true) parts fields

-- field by field, the first list is not after the second
abbrev pub AreNotAfter : List Field → List Field → Type 0
AreNotAfter fields others = AllZip (λ f g. field_number f ≤ field_number g) fields others

-- the placement that assigns to every part a field that is not after its field in any other placement
pub record IsLeastPlacement (parts : List (List ℕ)) (fields : List Field) : Type 0 where
  pub placed : IsPlacement parts fields
  pub least : (others : List Field) → IsPlacement parts others → AreNotAfter fields others

-- the parts have a placement
abbrev pub HasPlacement : List (List ℕ) → Type 0
HasPlacement parts = (fields : List Field) × IsPlacement parts fields

-- the part that a placement assigns to the field, if any
abbrev pub part_at : {A : Type 0} → Field → List A → List Field → Option A
part_at f [] gs = None
part_at f (p ∷ ps) [] = None
part_at f (p ∷ ps) (g ∷ gs) = if field_number g == field_number f then Some p else part_at f ps gs

-- the value that the part parses as; without a part, the value of an unfilled field
abbrev pub IsValueOf : {A : Type 0} → (List ℕ → Option A) → A → Option (List ℕ) → A → Type 0
IsValueOf find unfilled None value = value ≡ unfilled
IsValueOf find unfilled (Some part) value = find part ≡ Some value

-- each field has the value of its part; an unfilled field is `Unknown`, an unfilled format is the implied one
pub record HoldsParts (parts : List (List ℕ)) (fields : List Field) (t : Values) : Type 0 where
  pub architecture : IsValueOf architecture_of architecture.Unknown (part_at field.Architecture parts fields)
      t.architecture
  pub vendor : IsValueOf vendor_of (vendor.Known known_vendor.Unknown) (part_at field.Vendor parts fields) t.vendor
  pub operating_system : IsValueOf operating_system_of operating_system.Unknown
      (part_at field.OperatingSystem parts fields) t.operating_system
  pub environment : IsValueOf environment_of environment.Unknown (part_at field.Environment parts fields) t.environment
  pub binary_format : IsValueOf binary_format_of (default_binary_format t) (part_at field.BinaryFormat parts fields)
      t.binary_format

-- the triple that the least placement of the parts gives
abbrev pub PartsParseAs : List (List ℕ) → Values → Type 0
PartsParseAs parts t = (fields : List Field) × IsLeastPlacement parts fields × HoldsParts parts fields t

-- the triple that a string reads as: a special string as its triple, every other string by its parts
abbrev pub ParsesAs : List ℕ → Values → Type 0
ParsesAs text t = MatchOption (special_values text)
    ((parts : List (List ℕ)) × ArePartsOf text parts × PartsParseAs parts t) (λ values. t ≡ values)

-- what is expected after this field is filled: the next field, and none after the binary format
abbrev pub expected_after : Field → Option Field
expected_after field.Architecture = Some field.Vendor
expected_after field.Vendor = Some field.OperatingSystem
expected_after field.OperatingSystem = Some field.Environment
expected_after field.Environment = Some field.BinaryFormat
expected_after field.BinaryFormat = None

-- the last of the fields
abbrev pub last_field : Field → List Field → Field
last_field f [] = f
last_field f (g ∷ gs) = last_field g gs

-- what is expected after these parts: the field after the last one that their least placement fills, and after no parts
-- the architecture
abbrev pub IsExpectedAfter : List (List ℕ) → Option Field → Type 0
IsExpectedAfter [] expected = expected ≡ Some field.Architecture
IsExpectedAfter (p ∷ ps) expected =
    (first : Field) × ((others : List Field) × IsLeastPlacement (p ∷ ps) (first ∷ others)
    × (expected ≡ expected_after (last_field first others)))

-- the first part up to which the parts have no placement, and what was expected there
pub record IsRefusal (parts : List (List ℕ)) (refusal : Refusal) : Type 0 where
  -- the number of parts before it
  pub count : ℕ
  pub refused : slice_get parts count ≡ Some refusal.part
  pub unplaced : HasPlacement (take (suc count) parts) → ⊥
  pub placed : (k : ℕ) → k < count → HasPlacement (take (suc k) parts)
  pub expected : IsExpectedAfter (take count parts) refusal.expected

-- the string isn't special, and this is the refusal of its parts
abbrev pub IsRefusedAs : List ℕ → Refusal → Type 0
IsRefusedAs text refusal =
    (special_values text ≡ None) × ((parts : List (List ℕ)) × ArePartsOf text parts × IsRefusal parts refusal)

-- the string reads as some triple
abbrev pub IsParsed : List ℕ → Type 0
IsParsed text = (t : Values) × ParsesAs text t

-- the string is refused in some way
abbrev pub IsRefused : List ℕ → Type 0
IsRefused text = (refusal : Refusal) × IsRefusedAs text refusal

-- the only strings whose parsing may allocate: those that are refused, or read with a custom vendor
abbrev pub MayAllocate : List ℕ → Type 0
MayAllocate text = IsRefused text ⊎ ((t : Values) × ParsesAs text t × IsCustom t.vendor)

-- the error is the refusal of the string, or out of memory if its parsing may allocate
abbrev pub IsErrorOf : List ℕ → ParseError → Type 0
IsErrorOf text error = MatchOption (refusal_of error) (MayAllocate text) (λ refusal. IsRefusedAs text refusal)

-- the error is the refusal of the string, or out of memory: the errors of a call that allocates more than parsing does
abbrev pub IsRefusalOrOutOfMemory : List ℕ → ParseError → Type 0
IsRefusalOrOutOfMemory text error = IfSome (refusal_of error) (λ refusal. IsRefusedAs text refusal)
