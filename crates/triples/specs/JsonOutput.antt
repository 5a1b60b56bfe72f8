-- What mode `json` writes for an input, or why it writes nothing.
use Rattle.std.specs.Prelude.{ℕ, ◌≡◌, ◌≢◌, ◌<◌, ◌⊎◌, List, length, [], ◌∷◌, ◌++◌, codes, None, MatchOption}
use Rattle.serde_json.specs.Data.{Data}
use Rattle.serde_json.specs.Find.{as_array}
use Rattle.serde_json.specs.Read.{read}
use Rattle.serde_json.specs.Written.{compact_text}
use Rattle.target_lexicon.specs.Json.{JsonErrorValue, Parse, Element, ListParsesAs, IsListErrorOf, list_json_of}
use Rattle.target_lexicon.specs.Json.{list_error_line}
use Rattle.target_lexicon.specs.Values.{Values}
use Rattle.triples.specs.Lines.{line_feed}
use Rattle.triples.specs.declared.run_error.RunError.{RunError}
use Rattle.triples.specs.declared.run_error.RunError.TheVariants as run_error

-- the compact form of the list that the value parses as
abbrev pub IsListWritten : Data → List ℕ → Type 0
IsListWritten value answer = (ts : List Values) × ListParsesAs value ts × (answer ≡ compact_text (list_json_of ts))

-- `error: ` and the line of the first element that doesn't parse, unless an allocation failed there
abbrev pub IsElementLine : Data → List ℕ → Type 0
IsElementLine value answer =
    (i : ℕ) × ((error : JsonErrorValue) × (IsListErrorOf value (Element i error) × (error ≢ Parse None)
    × (answer ≡ codes "error: " ++ list_error_line (Element i error))))

-- what is written for the value
abbrev pub IsJsonAnswer : Data → List ℕ → Type 0
IsJsonAnswer value answer = IsListWritten value answer ⊎ IsElementLine value answer

-- the answer for the value of the input, and a line feed
abbrev pub IsJsonOutput : List ℕ → List ℕ → Type 0
IsJsonOutput input output = MatchOption (read input) ⊥ (λ value. (answer : List ℕ) × IsJsonAnswer value answer
    × (output ≡ answer ++ line_feed ∷ []))

-- why the value has no answer: it is not a list, or an allocation failed
abbrev pub IsJsonAnswerErrorOf : Data → RunError → Type 0
IsJsonAnswerErrorOf value run_error.NotList = as_array value ≡ None
IsJsonAnswerErrorOf value run_error.OutOfMemory = Unit {0}
IsJsonAnswerErrorOf value _ = ⊥

-- why the input has no output: it is not JSON, or not a list, or an allocation failed, which can't be for an empty
-- input
abbrev pub IsJsonInputErrorOf : List ℕ → RunError → Type 0
IsJsonInputErrorOf input run_error.NotJson = read input ≡ None
IsJsonInputErrorOf input run_error.NotList = MatchOption (read input) ⊥ (λ value. as_array value ≡ None)
IsJsonInputErrorOf input run_error.OutOfMemory = 0 < length input
IsJsonInputErrorOf input _ = ⊥
