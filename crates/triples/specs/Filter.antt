-- What a filter answers to the lines that it reads, and how it ends.
use Rattle.std.specs.Prelude.{ℕ, ◌≡◌, ◌-◌, ◌^◌, ◌<◌, ◌≤◌, Bool, if◌then◌else◌, List, [], ◌∷◌, ◌++◌, length, take, codes}
use Rattle.std.specs.Prelude.{Result, Ok, Err}
use Rattle.std.specs.List.{AllZip}
use Rattle.std.specs.Str.{IsUtf8}
use Rattle.triples.specs.{declared.filter_error.FilterError.FilterError, declared.line_mode.LineMode.LineMode}
use Rattle.triples.specs.declared.filter_error.FilterError.TheVariants as filter_error
use Rattle.triples.specs.Calls.{Call, After, Ended, Failed, Flushed, Moved, bytes_of, ends_last}
use Rattle.triples.specs.Lines.{lines_of, ended_lines_of}
use Rattle.triples.specs.Output.{Answer, Refused, IsAnswer, shown_by, written_lines}
use Rattle.triples.specs.Run.{Use, Gives, Takes, IsReadWhole, IsUnfailed, IsWrittenWhole, HasFailed, OnlyMoves}
use Rattle.triples.specs.Run.{StopsOnce}

-- the answers to a line that does not fit the input buffer, and to one that is not UTF-8
abbrev pub too_long : Answer
too_long = Refused (codes "error: Line too long")

abbrev pub not_utf8 : Answer
not_utf8 = Refused (codes "error: Line is not UTF-8")

-- the answer to a line; it fits a buffer of this size if it is shorter
pub record IsFilterAnswer (mode : LineMode) (size : ℕ) (line : List ℕ) (answer : Answer) : Type 0 where
  pub long : size ≤ length line → answer ≡ too_long
  pub other : length line < size → ¬ (IsUtf8 line) → answer ≡ not_utf8
  pub text : length line < size → IsUtf8 line → IsAnswer (shown_by mode) line answer

-- the answers to these lines, in order, with a line feed after each
abbrev pub AreFilterAnswers : LineMode → ℕ → List (List ℕ) → List ℕ → Type 0
AreFilterAnswers mode size lines bytes =
    (answers : List Answer) × AllZip (IsFilterAnswer mode size) lines answers × (bytes ≡ written_lines answers)

-- the lines that are complete: a line feed ends a line, and the end of the input ends its last line
abbrev pub complete_lines : Bool → List ℕ → List (List ℕ)
complete_lines is_ended input = if is_ended then lines_of input else ended_lines_of input

-- these bytes are the answers to the lines that ended among what the reads gave, after what the writer had taken before
abbrev pub AnswersEnded : LineMode → ℕ → List ℕ → List Call → List ℕ → Type 0
AnswersEnded mode size start reads written =
    (answers : List ℕ) × AreFilterAnswers mode size (ended_lines_of (bytes_of reads)) answers
    × (written ≡ start ++ answers)

-- Before each of these reads, of which the latest is the first, the answers to all lines that had ended were written.
abbrev pub IsPrompt : LineMode → ℕ → List ℕ → List Call → Type 0
IsPrompt mode size start [] = Unit {0}
IsPrompt mode size start (read ∷ []) = ⊥
IsPrompt mode size start (read ∷ (After written ∷ reads)) =
    AnswersEnded mode size start reads written × IsPrompt mode size start reads
IsPrompt mode size start (read ∷ (Moved bytes ∷ reads)) = ⊥
IsPrompt mode size start (read ∷ (Ended ∷ reads)) = ⊥
IsPrompt mode size start (read ∷ (Flushed ∷ reads)) = ⊥
IsPrompt mode size start (read ∷ (Failed ∷ reads)) = ⊥

-- so were those of the reader
abbrev pub ReadsPromptly : LineMode → ℕ → Use → Use → Type 0
ReadsPromptly mode size reader writer =
    (reads : List Call) × (reader.calls_after ≡ reads ++ reader.calls_before)
    × IsPrompt mode size (bytes_of writer.calls_before) reads

-- how a filter ended, by its result
abbrev pub FilterEnds : Use → Use → List ℕ → List ℕ → List ℕ → Result (Unit {0}) FilterError → Type 0
-- the last read found the end, all answers were written, and the last call of the writer was the one flush
FilterEnds reader writer input answers output (Ok _) =
    IsReadWhole reader × IsWrittenWhole writer × (output ≡ answers)
-- a read failed; all answers were written, and nothing was flushed
FilterEnds reader writer input answers output (Err filter_error.Read) =
    HasFailed reader × IsUnfailed writer × OnlyMoves writer × (output ≡ answers)
-- a write or the flush failed after a beginning of the answers
FilterEnds reader writer input answers output (Err filter_error.Write) =
    IsUnfailed reader × HasFailed writer × (n : ℕ) × (output ≡ take n answers)
-- each of `u64::MAX` reads gave some byte; all answers were written, and nothing was flushed
FilterEnds reader writer input answers output (Err filter_error.Endless) =
    IsUnfailed reader × OnlyMoves reader × (2 ^ 64 - 1 ≤ length input) × IsUnfailed writer × OnlyMoves writer
    × (output ≡ answers)

-- How a filter ends, whether or not the bytes of its reader and writer are known: what its reads gave, the answers to
-- the complete lines of that, and what its writes took.
pub record FilterEndsAs (mode : LineMode) (size : ℕ) (reader writer : Use)
    (result : Result (Unit {0}) FilterError) : Type 0 where
  pub input : List ℕ
  pub answers : List ℕ
  pub output : List ℕ
  pub gives : Gives reader input
  pub takes : Takes writer output
  pub answered : AreFilterAnswers mode size (complete_lines (ends_last reader.calls_after) input) answers
  pub by_result : FilterEnds reader writer input answers output result
  -- nothing is called after the end, a failure or the flush
  pub reads : StopsOnce reader
  pub writes : StopsOnce writer
  -- before each read, the answers to all lines that had ended were written
  pub prompt : ReadsPromptly mode size reader writer
