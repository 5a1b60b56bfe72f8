-- The words of the modes, what arguments ask for, and the end of the program.
use Rattle.std.specs.Prelude.{ℕ, List, [], ◌∷◌, Option, Some, None, codes, Result, Ok, Err}
use Rattle.target_lexicon.specs.Values.{value_named}
use Rattle.triples.specs.{declared.run_error.RunError.RunError, Faults.fault_line}
use Rattle.triples.specs.declared.line_mode.LineMode.{LineMode}
use Rattle.triples.specs.declared.line_mode.LineMode.TheVariants as line_mode
use Rattle.triples.specs.declared.mode.Mode.{Mode}
use Rattle.triples.specs.declared.mode.Mode.TheVariants.{Print, Show, Settle, Json, Matrix}
use Rattle.triples.specs.declared.request.Request.{Request}
use Rattle.triples.specs.declared.request.Request.TheVariants as request

-- the mode that a word names
abbrev pub mode_from_word : List ℕ → Option Mode
mode_from_word word =
    value_named ((codes "print", Print) ∷ (codes "show", Show) ∷ (codes "settle", Settle) ∷ (codes "json", Json) ∷
    (codes "matrix", Matrix) ∷ []) word

-- the mode of a filter that a word names
abbrev pub line_mode_from_word : List ℕ → Option LineMode
line_mode_from_word word = value_named ((codes "stream", line_mode.Print) ∷ (codes "stream-show", line_mode.Show) ∷
    (codes "stream-settle", line_mode.Settle) ∷ []) word

-- what a word asks for that is the word of a filter, or of a run
abbrev pub request_among : Option LineMode → Option Mode → Option Request
request_among (Some mode) other = Some (request.Filter mode)
request_among None (Some mode) = Some (request.Run mode)
request_among None None = None

-- what a word asks for
abbrev pub request_of_word : List ℕ → Option Request
request_of_word word = request_among (line_mode_from_word word) (mode_from_word word)

-- what the arguments ask for, of which these are the first two after the program's name: a run in mode `print` if there
-- is none, what a single word asks for, and nothing if there are more words
abbrev pub request_of : Option (List ℕ) → Option (List ℕ) → Option Request
request_of None next = Some (request.Run Print)
request_of (Some word) None = request_of_word word
request_of (Some word) (Some next) = None

-- the end of a run, if there was one
abbrev pub End : Type 0
End = Option (Result (Unit {0}) RunError)

-- the exit status of the program
abbrev pub status_of : End → ℕ
status_of (Some (Ok _)) = 0
status_of (Some (Err _)) = 1
status_of None = 2

-- what the program prints at its end
abbrev pub closing_words : End → List ℕ
closing_words (Some (Ok _)) = []
closing_words (Some (Err error)) = fault_line error
closing_words None = codes "usage: triples [MODE]\n"
