-- Parsing as a function, by which the least placement can be computed: one part after the other fills the first open
-- field that it parses as. And what a call does that takes the parts so, or answers with the whole.
use Rattle.std.specs.Prelude.{◌≡◌, ℕ, List, [], ◌∷◌, Option, Some, None, Result, Ok, Err, IfOk, IfErr, IfSome}
use Rattle.std.specs.Prelude.{MatchOption, unwrap_or, if◌then◌else◌}
use Rattle.std.specs.Option.{option_map_or}
use Rattle.lexicon_fields.specs.{Vendor.IsCustom, Vendor.vendor_of, Architecture.architecture_of}
use Rattle.lexicon_fields.specs.{Environment.environment_of}
use Rattle.lexicon_fields.specs.{OperatingSystem.operating_system_of, BinaryFormat.binary_format_of}
use Rattle.target_lexicon.specs.{declared.parse_error.ParseError.ParseError, declared.reading.Reading.Reading}
use Rattle.target_lexicon.specs.{declared.refusal.Refusal.Refusal as BorrowedRefusal, declared.triple.Triple.Triple}
use Rattle.target_lexicon.specs.{Parsing.ParsesAs, Parsing.IsErrorOf, Parsing.expected_after, Field.Field}
use Rattle.target_lexicon.specs.{Field.parses_as, Parsing.parts_of}
use Rattle.target_lexicon.specs.{Refusal.refusal_of, Refusal.Refusal, Refusal.refusal_with}
use Rattle.target_lexicon.specs.{ImpliedFormat.default_binary_format, SpecialStrings.special_values}
use Rattle.target_lexicon.specs.Explanation.{FromPart, Implied, PlacedPart, SourceValues, part_value, sources_of}
use Rattle.target_lexicon.specs.Explanation.{with_source}
use Rattle.target_lexicon.specs.Values.{Values, unknown_values, values, values_of}
use Rattle.target_lexicon.specs.ValuesRef.{values_of_ref}
use Rattle.target_lexicon.specs.Field as field

-- the fields that a part can fill where this one is expected: the first part only the architecture, a later one this
-- field or one after it
abbrev pub open_fields : Option Field → List Field
open_fields (Some field.Architecture) = field.Architecture ∷ []
open_fields (Some field.Vendor) = field.Vendor ∷ field.OperatingSystem ∷ field.Environment ∷ field.BinaryFormat ∷ []
open_fields (Some field.OperatingSystem) = field.OperatingSystem ∷ field.Environment ∷ field.BinaryFormat ∷ []
open_fields (Some field.Environment) = field.Environment ∷ field.BinaryFormat ∷ []
open_fields (Some field.BinaryFormat) = field.BinaryFormat ∷ []
open_fields None = []

-- the first of these fields that the part parses as
abbrev pub first_field : List Field → List ℕ → Option Field
first_field [] part = None
first_field (f ∷ fs) part = if parses_as f part then Some f else first_field fs part

-- the field that the part fills where this one is expected, if there is one
abbrev pub field_for : Option Field → List ℕ → Option Field
field_for expected part = first_field (open_fields expected) part

-- the values with the part's in this field
abbrev pub with_value : Field → List ℕ → Values → Values
with_value field.Architecture part t =
    values (unwrap_or (architecture_of part) t.architecture) t.vendor t.operating_system t.environment t.binary_format
with_value field.Vendor part t =
    values t.architecture (unwrap_or (vendor_of part) t.vendor) t.operating_system t.environment t.binary_format
with_value field.OperatingSystem part t = values t.architecture t.vendor
    (unwrap_or (operating_system_of part) t.operating_system) t.environment t.binary_format
with_value field.Environment part t =
    values t.architecture t.vendor t.operating_system (unwrap_or (environment_of part) t.environment) t.binary_format
with_value field.BinaryFormat part t =
    values t.architecture t.vendor t.operating_system t.environment (unwrap_or (binary_format_of part) t.binary_format)

-- the values where no part is left: a format without a part is the implied one
abbrev pub finished : Option Field → Values → Values
finished None t = t
finished (Some _) t = values t.architecture t.vendor t.operating_system t.environment (default_binary_format t)

-- what these parts give where this field is expected and those before have these values
abbrev pub reading_from : Option Field → Values → List (List ℕ) → Result Values Refusal
reading_from expected t [] = Ok (finished expected t)
reading_from expected t (part ∷ parts) =
    option_map_or (λ f. reading_from (expected_after f) (with_value f part t) parts) (field_for expected part)
    (Err (refusal_with expected part))

-- a string has one part at least; without any, the empty one would be refused
abbrev pub reading_of_parts : List (List ℕ) → Result Values Refusal
reading_of_parts [] = Err (refusal_with (Some field.Architecture) [])
reading_of_parts (part ∷ parts) = reading_from (Some field.Architecture) unknown_values (part ∷ parts)

abbrev pub reading_unless_special : Option Values → List ℕ → Result Values Refusal
reading_unless_special (Some t) text = Ok t
reading_unless_special None text = reading_of_parts (parts_of text)

-- what a string reads as, or how it is refused
unfoldable pub reading : List ℕ → Result Values Refusal
reading text = reading_unless_special (special_values text) text

-- the triple or the refusal that was found; or `OutOfMemory` instead, which names no refusal, but never of a
-- triple with a known vendor
abbrev pub IsResultOf : Result Values Refusal → Result Triple ParseError → Type 0
IsResultOf (Ok t) (Ok triple) = values_of triple ≡ t
IsResultOf (Ok t) (Err error) = (refusal_of error ≡ None) × IsCustom t.vendor
IsResultOf (Err refusal) (Ok triple) = ⊥
IsResultOf (Err refusal) (Err error) = IfSome (refusal_of error) (λ other. other ≡ refusal)

-- a result that is what the string reads as, or its error, is the answer that `reading` gives
abbrev pub ResultsAreComputed : Type 0
ResultsAreComputed = (text : List ℕ) (result : Result Triple ParseError)
    → IfOk result (λ triple. ParsesAs text (values_of triple)) → IfErr result (λ error. IsErrorOf text error)
    → IsResultOf (reading text) result

-- a reading after this part has filled this field
pub record HasFilled (f : Field) (part : PlacedPart) (old new : Reading) : Type 0 where
  pub expected : new.expected ≡ expected_after f
  pub values : values_of_ref new.triple ≡ with_value f part.text (values_of_ref old.triple)
  pub sources : sources_of new.sources ≡ with_source f (FromPart part) (sources_of old.sources)

-- a reading has taken the part into the first open field that it parses as
abbrev pub IsTaken : PlacedPart → Reading → Reading → Type 0
IsTaken part old new = MatchOption (field_for old.expected part.text) ⊥ (λ f. HasFilled f part old new)

-- the part parses as no open field, and this is its refusal
pub record IsNotTaken (part : PlacedPart) (reading : Reading) (refusal : BorrowedRefusal) : Type 0 where
  pub unparsed : field_for reading.expected part.text ≡ None
  pub expected : refusal.expected ≡ reading.expected
  pub refused : part_value refusal.part ≡ part

-- the sources where no part is left
abbrev pub finished_sources : Option Field → SourceValues → SourceValues
finished_sources None s = s
finished_sources (Some _) s = with_source field.BinaryFormat Implied s
