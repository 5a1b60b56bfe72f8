-- Definitions for the contracts of private functions of the filter; no public contract cites them.
use Rattle.std.specs.Prelude.{ℕ, ◌≡◌, ◌+◌, ◌<◌, ◌≤◌, ◌==◌, ◌⊎◌, Bool, true, false, List, [], ◌∷◌, ◌++◌, length, take}
use Rattle.std.specs.Prelude.{drop, Option, Some, None, Result, Ok, Err}
use Rattle.triples.specs.{declared.filter_error.FilterError.FilterError, declared.line_mode.LineMode.LineMode}
use Rattle.std.specs.List.{All, AllByRecursion}
use Rattle.std.specs.Str.{IsUtf8}
use Rattle.triples.specs.Filter.{AreFilterAnswers, IsFilterAnswer, not_utf8, too_long}
use Rattle.triples.specs.declared.filter_error.FilterError.TheVariants as filter_error
use Rattle.triples.specs.Lines.{line_feed}
use Rattle.triples.specs.Output.{Answer, IsAnswer, shown_by, written_lines}
use Rattle.triples.specs.Run.{Use, IsUnfailed, IsWrittenWhole, HasFailed, OnlyMoves, StopsLast, Takes}

-- no byte is a line feed
abbrev pub HasNoFeed : List ℕ → Type 0
HasNoFeed bytes = All (λ b. (b == line_feed) ≡ false) bytes

-- these lines, with a line feed after each
abbrev pub with_feeds : List (List ℕ) → List ℕ
with_feeds [] = []
with_feeds (line ∷ lines) = line ++ (line_feed ∷ with_feeds lines)

-- the bytes begin with lines that end, and go on with the rest; the output is the answers to these lines
pub record IsFilteredTo (mode : LineMode) (size : ℕ) (bytes rest output : List ℕ) : Type 0 where
  pub lines : List (List ℕ)
  pub whole : bytes ≡ with_feeds lines ++ rest
  pub each : AllByRecursion HasNoFeed lines
  pub answered : AreFilterAnswers mode size lines output

-- the answer to a line that fits
pub record IsShortAnswer (mode : LineMode) (line : List ℕ) (answer : Answer) : Type 0 where
  pub text : IsUtf8 line → IsAnswer (shown_by mode) line answer
  pub other : ¬ (IsUtf8 line) → answer ≡ not_utf8

-- a text was put into a buffer at this position, after what was there
pub record Pushes (text old : List ℕ) (at : ℕ) (new : List ℕ) (end : ℕ) : Type 0 where
  pub grown : take end new ≡ take at old ++ text
  pub end_is : end ≡ at + length text
  pub same_length : length new ≡ length old

-- an answer and a line feed were put there
pub record PushesAnswer (Is : Answer → Type 0) (old : List ℕ) (at : ℕ) (new : List ℕ) (end : ℕ) : Type 0 where
  pub answer : Answer
  pub is : Is answer
  pub pushed : Pushes (written_lines (answer ∷ [])) old at new end

-- the answer to a line, which is too long if it is late
abbrev pub IsLineAnswer : LineMode → Bool → List ℕ → Answer → Type 0
IsLineAnswer mode true line answer = answer ≡ too_long
IsLineAnswer mode false line answer = IsShortAnswer mode line answer

-- what `make_room` does: what was used of the buffer is written, or still used
abbrev pub MakesRoom : List ℕ → ℕ → ℕ → Use → Result ℕ FilterError → Type 0
MakesRoom buffer used room written (Ok now) =
    IsUnfailed written × (now + room ≤ length buffer) × (gone : List ℕ) × Takes written gone
    × (gone ++ take now buffer ≡ take used buffer) × OnlyMoves written
MakesRoom buffer used room written (Err e) =
    (e ≡ filter_error.Write) × HasFailed written × (n : ℕ) × Takes written (take n (take used buffer))
    × StopsLast written

-- where the first line ends, if it does
abbrev pub IsLineEnd : List ℕ → Option ℕ → Type 0
IsLineEnd bytes None = HasNoFeed bytes
IsLineEnd bytes (Some at) =
    (at < length bytes) × HasNoFeed (take at bytes) × (bytes ≡ take at bytes ++ line_feed ∷ drop (at + 1) bytes)

-- what came of a line before the bytes in the buffer: none of it, or, if it is late, so many bytes that the line is too
-- long
abbrev pub IsLate : Bool → ℕ → List ℕ → Type 0
IsLate true size before = (size ≤ length before) × HasNoFeed before
IsLate false size before = before ≡ []

-- the lines that end in the bytes were answered, up to the rest. This holds for each buffer that can have held the
-- bytes, and for all that may have come before them
abbrev pub AnswersLines : LineMode → Bool → List ℕ → Bool → List ℕ → List ℕ → Type 0
AnswersLines mode late bytes late_after rest output =
    (size : ℕ) (before : List ℕ) → length bytes ≤ size → IsLate late size before
    → (after : List ℕ) × IsFilteredTo mode size (before ++ bytes) (after ++ rest) output × IsLate late_after size after

-- what `answer_lines` does
abbrev pub LinesAnswered : LineMode → Bool → List ℕ → Use → Result (ℕ × Bool) FilterError → Type 0
LinesAnswered mode late bytes written (Ok found) =
    IsUnfailed written × (found.0 ≤ length bytes) × HasNoFeed (drop found.0 bytes)
    × (output : List ℕ) × Takes written output × AnswersLines mode late bytes found.1 (drop found.0 bytes) output
    × OnlyMoves written
LinesAnswered mode late bytes written (Err e) =
    (e ≡ filter_error.Write) × HasFailed written
    × (output : List ℕ) × (late_after : Bool) × (rest : List ℕ) × AnswersLines mode late bytes late_after rest output
    × (n : ℕ) × Takes written (take n output) × StopsLast written

-- the output is the answer to a last line that doesn't end; there is none if no byte is left
pub record AnswersRest (mode : LineMode) (late : Bool) (bytes output : List ℕ) : Type 0 where
  pub rest : (size : ℕ) (before : List ℕ) → length bytes < size → IsLate late size before
      → ((before ++ bytes ≡ []) × (output ≡ []))
      ⊎ ((0 < length (before ++ bytes)) × (answer : Answer) × IsFilterAnswer mode size (before ++ bytes) answer
      × (output ≡ written_lines (answer ∷ [])))

-- what `finish` does
abbrev pub RestAnswered : LineMode → Bool → List ℕ → Use → Result (Unit {0}) FilterError → Type 0
RestAnswered mode late bytes written (Ok _) =
    IsWrittenWhole written × (output : List ℕ) × Takes written output × AnswersRest mode late bytes output
RestAnswered mode late bytes written (Err e) = (e ≡ filter_error.Write) × HasFailed written × (output : List ℕ)
    × AnswersRest mode late bytes output × (n : ℕ) × Takes written (take n output) × StopsLast written

-- what `keep_rest` does with a rest of bytes in a buffer of this size: the line is too long and the rest is dropped, or
-- the rest is kept at the front
abbrev pub IsKept : ℕ → Bool → List ℕ → List ℕ → ℕ → Bool → Type 0
IsKept size late rest new held late_after =
    ((held ≡ 0) × (late_after ≡ true) × ((late ≡ true) ⊎ (size ≤ length rest)))
    ⊎ ((late_after ≡ false) × (late ≡ false) × (take held new ≡ rest))
