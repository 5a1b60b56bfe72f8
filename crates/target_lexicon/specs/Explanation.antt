-- Where the value of each field comes from: a part of the string, and its range there.
use Rattle.std.specs.Prelude.{◌≡◌, ℕ, ◌+◌, ◌≤◌, List, [], ◌∷◌, length, take, Some, MatchOption, slice_get}
use Rattle.std.specs.{List.slice_range, Option.option_map_or}
use Rattle.target_lexicon.specs.declared.explanation.{Source.Source, Sources.Sources, TextPart.TextPart}
use Rattle.target_lexicon.specs.{Field.Field, Parsing.ArePartsOf, Parsing.IsLeastPlacement, Parsing.part_at}
use Rattle.target_lexicon.specs.{Parsing.IsRefusal, Refusal.Refusal, SpecialStrings.special_values}
use Rattle.target_lexicon.specs.declared.explanation.Source.TheVariants as source
use Rattle.target_lexicon.specs.Field as field

-- a part of a string: its bytes, and the index of the string at which it begins
pub record PlacedPart : Type 0 where
  pub text : List ℕ
  pub start : ℕ

abbrev pub part_value : TextPart → PlacedPart
part_value part = record { text = part.text.now; start = part.start }

-- the part that begins at this index
abbrev pub part_from : ℕ → List ℕ → PlacedPart
part_from start text = record { text = text; start = start }

-- the index after the part
abbrev pub part_end : PlacedPart → ℕ
part_end part = part.start + length part.text

-- parts with a dash between them, of which the first begins at this index
abbrev pub placed_from : ℕ → List (List ℕ) → List PlacedPart
placed_from start [] = []
placed_from start (part ∷ parts) = part_from start part ∷ placed_from (start + length part + 1) parts

-- where a value comes from: a part of the string, no part, or the other fields
pub data SourceValue : Type 0 where
  FromPart : PlacedPart → SourceValue
  NotGiven : SourceValue
  Implied : SourceValue

abbrev pub source_value : Source → SourceValue
source_value (source.Part part) = FromPart (part_value part)
source_value source.NotGiven = NotGiven
source_value source.Implied = Implied

-- the source of each field
pub record SourceValues : Type 0 where
  pub architecture : SourceValue
  pub vendor : SourceValue
  pub operating_system : SourceValue
  pub environment : SourceValue
  pub binary_format : SourceValue

abbrev pub source_values : SourceValue → SourceValue → SourceValue → SourceValue → SourceValue → SourceValues
source_values a v s e f =
    record { architecture = a; vendor = v; operating_system = s; environment = e; binary_format = f }

abbrev pub sources_of : Sources → SourceValues
sources_of s =
    source_values (source_value s.architecture) (source_value s.vendor) (source_value s.operating_system)
    (source_value s.environment)
    (source_value s.binary_format)

-- the sources with this one for a field
abbrev pub with_source : Field → SourceValue → SourceValues → SourceValues
with_source field.Architecture source s = source_values source s.vendor s.operating_system s.environment s.binary_format
with_source field.Vendor source s = source_values s.architecture source s.operating_system s.environment s.binary_format
with_source field.OperatingSystem source s = source_values s.architecture s.vendor source s.environment s.binary_format
with_source field.Environment source s = source_values s.architecture s.vendor s.operating_system source s.binary_format
with_source field.BinaryFormat source s = source_values s.architecture s.vendor s.operating_system s.environment source

-- the source of a field: the part that is assigned to it, if there is one
abbrev pub source_at : SourceValue → Field → List PlacedPart → List Field → SourceValue
source_at unfilled f parts fields = option_map_or FromPart (part_at f parts fields) unfilled

-- the source of each field, where the first parts are assigned to these fields
abbrev pub sources_at : SourceValue → List PlacedPart → List Field → SourceValues
sources_at unfilled_format parts fields =
    source_values (source_at NotGiven field.Architecture parts fields) (source_at NotGiven field.Vendor parts fields)
    (source_at NotGiven field.OperatingSystem parts fields) (source_at NotGiven field.Environment parts fields)
    (source_at unfilled_format field.BinaryFormat parts fields)

-- the same source for every field
abbrev pub same_sources : SourceValue → SourceValues
same_sources source = source_values source source source source source

-- the whole string gives every field
abbrev pub whole_text_sources : List ℕ → SourceValues
whole_text_sources text = same_sources (FromPart (part_from 0 text))

-- the sources of a string that parses: the parts that the least placement assigns, and the other fields for a format
-- without a part; for a special string, the whole of it
abbrev pub AreSourcesOf : List ℕ → SourceValues → Type 0
AreSourcesOf text s = MatchOption (special_values text)
    ((parts : List (List ℕ)) × ArePartsOf text parts
    × ((fields : List Field) × IsLeastPlacement parts fields × (s ≡ sources_at Implied (placed_from 0 parts) fields)))
    (λ values. s ≡ whole_text_sources text)

-- the fields of the least placement of these parts; no parts fill none
abbrev pub AreFieldsOf : List (List ℕ) → List Field → Type 0
AreFieldsOf [] fields = fields ≡ []
AreFieldsOf (p ∷ ps) fields = IsLeastPlacement (p ∷ ps) fields

-- the refusal of parts; the earlier ones fill fields from these sources, and this is the refused one
pub record IsRefusalAfter (parts : List (List ℕ)) (refusal : Refusal) (s : SourceValues)
    (part : PlacedPart) : Type 0 where
  pub refusal_holds : IsRefusal parts refusal
  pub fields : List Field
  pub earlier : AreFieldsOf (take refusal_holds.count parts) fields
  pub sources : s ≡ sources_at NotGiven (placed_from 0 parts) fields
  pub refused : slice_get (placed_from 0 parts) refusal_holds.count ≡ Some part

-- how a string is refused, with the sources of the fields that earlier parts fill, and the refused part
abbrev pub IsRefusedAfter : List ℕ → Refusal → SourceValues → PlacedPart → Type 0
IsRefusedAfter text refusal s part =
    (parts : List (List ℕ)) × ArePartsOf text parts × IsRefusalAfter parts refusal s part

-- the string is refused at this part, whatever the fields that earlier parts fill
abbrev pub IsRefusedAt : List ℕ → Refusal → PlacedPart → Type 0
IsRefusedAt text refusal part = (s : SourceValues) × IsRefusedAfter text refusal s part

-- the bytes of the string in the range of the part are the part
abbrev pub IsInString : List ℕ → PlacedPart → Type 0
IsInString text part = (part_end part ≤ length text) × (slice_range text part.start (part_end part) ≡ part.text)

-- the part from which the value comes, if it comes from one, is in the string
abbrev pub IsSourceInString : List ℕ → SourceValue → Type 0
IsSourceInString text (FromPart part) = IsInString text part
IsSourceInString text NotGiven = Unit {0}
IsSourceInString text Implied = Unit {0}

-- this holds for the source of each field
pub record AreInString (text : List ℕ) (s : SourceValues) : Type 0 where
  pub architecture : IsSourceInString text s.architecture
  pub vendor : IsSourceInString text s.vendor
  pub operating_system : IsSourceInString text s.operating_system
  pub environment : IsSourceInString text s.environment
  pub binary_format : IsSourceInString text s.binary_format
