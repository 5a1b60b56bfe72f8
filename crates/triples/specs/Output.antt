-- What a mode writes for an input.
use Rattle.std.specs.Prelude.{ℕ, ◌≡◌, Bool, true, false, not, if◌then◌else◌, List, [], ◌∷◌, ◌++◌, codes}
use Rattle.std.specs.List.{AllZip, list_any}
use Rattle.std.specs.Str.{bytes_eq}
use Rattle.target_lexicon.specs.{FixedPoints.canonical_string, Printing.string_of, Parsing.ParsesAs}
use Rattle.target_lexicon.specs.{Parsing.IsRefusedAs, Refusal.Refusal, Refusal.refusal_line, Values.Values}
use Rattle.triples.specs.{declared.line_mode.LineMode.LineMode, declared.mode.Mode.Mode, Facts.text_with_facts}
use Rattle.triples.specs.declared.line_mode.LineMode.TheVariants as line_mode
use Rattle.triples.specs.declared.mode.Mode.TheVariants.{Print, Show, Settle, Json, Matrix}
use Rattle.triples.specs.Lines.{line_feed, lines_of}
use Rattle.triples.specs.JsonOutput.{IsJsonOutput}

-- the answer to a line: what is shown of its triple, or the line of its refusal
pub data Answer : Type 0 where
  Shown : List ℕ → Answer
  Refused : List ℕ → Answer

-- what a mode of lines shows of a triple
abbrev pub shown_by : LineMode → Values → List ℕ
shown_by line_mode.Print = string_of
shown_by line_mode.Show = text_with_facts
shown_by line_mode.Settle = canonical_string

-- an answer shows the triple that the line parses as, or is `error: ` and the line of its refusal
abbrev pub IsAnswer : (Values → List ℕ) → List ℕ → Answer → Type 0
IsAnswer shown line (Shown text) = (values : Values) × ParsesAs line values × (text ≡ shown values)
IsAnswer shown line (Refused message) =
    (refusal : Refusal) × IsRefusedAs line refusal × (message ≡ codes "error: " ++ refusal_line refusal)

-- the answer to each line, in order
abbrev pub AreAnswers : (Values → List ℕ) → List (List ℕ) → List Answer → Type 0
AreAnswers shown lines answers = AllZip (IsAnswer shown) lines answers

-- whether an answer shows this string; a refusal never does, even if it has the same bytes
abbrev pub shows : List ℕ → Answer → Bool
shows text (Shown other) = bytes_eq text other
shows text (Refused message) = false

-- whether an answer stays after earlier ones: none of them shows the same string
abbrev pub is_kept_after : List Answer → Answer → Bool
is_kept_after before (Shown text) = not (list_any (shows text) before)
is_kept_after before (Refused message) = true

-- the answers without those that show a string which an earlier one shows
abbrev pub kept_answers : List Answer → List Answer → List Answer
kept_answers before [] = []
kept_answers before (answer ∷ answers) =
    (if is_kept_after before answer then answer ∷ [] else []) ++ kept_answers (before ++ answer ∷ []) answers

-- the matrix: the first answer that shows each string, and each refusal
abbrev pub matrix_of : List Answer → List Answer
matrix_of answers = kept_answers [] answers

abbrev pub answer_bytes : Answer → List ℕ
answer_bytes (Shown text) = text
answer_bytes (Refused message) = message

-- the answers, with a line feed after each
abbrev pub written_lines : List Answer → List ℕ
written_lines [] = []
written_lines (answer ∷ answers) = answer_bytes answer ++ (line_feed ∷ written_lines answers)

-- the output is the answers to these lines, in which each triple is shown by `shown`
abbrev pub IsLineOutput : (Values → List ℕ) → List (List ℕ) → List ℕ → Type 0
IsLineOutput shown lines output =
    (answers : List Answer) × AreAnswers shown lines answers × (output ≡ written_lines answers)

-- the output is the matrix of these lines
abbrev pub IsMatrix : List (List ℕ) → List ℕ → Type 0
IsMatrix lines output =
    (answers : List Answer) × AreAnswers canonical_string lines answers × (output ≡ written_lines (matrix_of answers))

-- the output of a mode for an input
abbrev pub IsOutput : Mode → List ℕ → List ℕ → Type 0
IsOutput Print input output = IsLineOutput (shown_by line_mode.Print) (lines_of input) output
IsOutput Show input output = IsLineOutput (shown_by line_mode.Show) (lines_of input) output
IsOutput Settle input output = IsLineOutput (shown_by line_mode.Settle) (lines_of input) output
IsOutput Matrix input output = IsMatrix (lines_of input) output
IsOutput Json input output = IsJsonOutput input output
