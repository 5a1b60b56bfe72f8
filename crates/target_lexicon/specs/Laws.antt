-- Laws of parsing and printing.
use Rattle.std.specs.Prelude.{◌≡◌, ◌↔◌, ℕ, List, true, Ok, Err, ◌⊎◌}
use Rattle.lexicon_fields.specs.Vendor.{is_plain}
use Rattle.target_lexicon.specs.{Field.Field, Parsing.IsLeastPlacement, Printing.string_of, Parsing.ParsesAs}
use Rattle.target_lexicon.specs.{Parsing.IsParsed, Parsing.IsRefusedAs, Parsing.IsRefused, GreedyReading.reading}
use Rattle.target_lexicon.specs.{Refusal.Refusal}
use Rattle.target_lexicon.specs.Values.{Values}
pub use Rattle.lexicon_fields.specs.Laws.{ComparesByValue, CopiesEqualTheirSources}

-- the parts have exactly one least placement
pub record HasOneLeastPlacement (parts : List (List ℕ)) : Type 0 where
  pub fields : List Field
  pub least : IsLeastPlacement parts fields
  pub only : (others : List Field) → IsLeastPlacement parts others → others ≡ fields

-- a string reads or is refused, in exactly one way
pub record HasOneOutcome (text : List ℕ) : Type 0 where
  pub some : IsParsed text ⊎ IsRefused text
  pub values : (t u : Values) → ParsesAs text t → ParsesAs text u → t ≡ u
  pub refusal : (x y : Refusal) → IsRefusedAs text x → IsRefusedAs text y → x ≡ y
  pub apart : (t : Values) → ParsesAs text t → IsRefused text → ⊥

-- every string has exactly one outcome
abbrev pub EveryStringHasOneOutcome : Type 0
EveryStringHasOneOutcome = (text : List ℕ) → HasOneOutcome text

-- the function `reading` gives the triple that the string reads as, and how it is refused
pub record HasComputedReading (text : List ℕ) : Type 0 where
  pub read : (t : Values) → ParsesAs text t ↔ (reading text ≡ Ok t)
  pub refused : (refusal : Refusal) → IsRefusedAs text refusal ↔ (reading text ≡ Err refusal)

-- this holds for every string
abbrev pub ReadingIsComputed : Type 0
ReadingIsComputed = (text : List ℕ) → HasComputedReading text

-- every triple that a string reads as has a plain vendor
abbrev pub ReadVendorsArePlain : Type 0
ReadVendorsArePlain = (text : List ℕ) (t : Values) → ParsesAs text t → is_plain t.vendor ≡ true

-- the triple comes back: its printed string reads as the triple
abbrev pub ComesBack : Values → Type 0
ComesBack t = ParsesAs (string_of t) t

-- two triples that come back are equal if and only if their strings are
abbrev pub EqualTextsEqualTriples : Type 0
EqualTextsEqualTriples = (t u : Values) → ComesBack t → ComesBack u → (t ≡ u) ↔ (string_of t ≡ string_of u)
