-- The values of a triple that borrows its vendor, and the refusal of a part that is borrowed.
use Rattle.std.specs.Prelude.{Option, Result, Ok, Err}
use Rattle.lexicon_fields.specs.VendorRef.{ref_value}
use Rattle.target_lexicon.specs.{declared.triple_ref.TripleRef.TripleRef}
use Rattle.target_lexicon.specs.{declared.refusal.Refusal.Refusal as BorrowedRefusal, Explanation.PlacedPart}
use Rattle.target_lexicon.specs.{Explanation.part_value, Field.Field, Refusal.Refusal, Refusal.refusal_with}
use Rattle.target_lexicon.specs.{Values.Values, Values.values}

-- the values of a triple
abbrev pub values_of_ref : TripleRef → Values
values_of_ref t = values t.architecture (ref_value t.vendor) t.operating_system t.environment t.binary_format

-- the refusal
abbrev pub refusal_value : BorrowedRefusal → Refusal
refusal_value it = refusal_with it.expected it.part.text.now

-- a refusal, and where its part begins
pub record PlacedRefusal : Type 0 where
  pub expected : Option Field
  pub part : PlacedPart

abbrev pub placed_refusal : BorrowedRefusal → PlacedRefusal
placed_refusal it = record { expected = it.expected; part = part_value it.part }

-- the triple or the refusal of a result
abbrev pub placed_outcome : Result TripleRef BorrowedRefusal → Result Values PlacedRefusal
placed_outcome (Ok triple) = Ok (values_of_ref triple)
placed_outcome (Err refusal) = Err (placed_refusal refusal)
