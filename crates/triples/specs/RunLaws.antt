-- Laws of how runs end.
use Rattle.std.specs.Prelude.{ℕ, ◌≡◌, ◌≢◌, ◌↔◌, ◌⊎◌, List, ◌++◌, Some, IsErrOf, Result, Err}
use Rattle.std.specs.Str.{IsUtf8}
use Rattle.triples.specs.{declared.mode.Mode.Mode, declared.run_error.RunError.RunError}
use Rattle.triples.specs.{declared.mode.Mode.TheVariants.Json}
use Rattle.triples.specs.{JsonOutput.IsJsonInputErrorOf, Run.Use, Run.Gives, Run.Takes, Run.IsUnfailed, Run.HasFailed}
use Rattle.triples.specs.{Run.EndsAs}
use Rattle.triples.specs.declared.run_error.RunError.TheVariants as run_error

-- the reads gave these bytes, or these were the known bytes of the reader
abbrev pub IsInput : Use → List ℕ → Type 0
IsInput reader bytes = Gives reader bytes ⊎ (reader.bytes_before ≡ Some bytes)

-- the writes took these bytes, or the known bytes of the writer grew by these
abbrev pub IsWritten : Use → List ℕ → Type 0
IsWritten writer bytes = Takes writer bytes
    ⊎ ((start : List ℕ) × (writer.bytes_before ≡ Some start) × (writer.bytes_after ≡ Some (start ++ bytes)))

-- a run over this input, in which no read, write or flush failed and memory did not run out, has this result and wrote
-- these bytes
pub record RunGives (mode : Mode) (text : List ℕ) (result : Result (Unit {0}) RunError) (bytes : List ℕ) : Type 0 where
  pub reader : Use
  pub writer : Use
  pub ends : EndsAs mode reader writer result
  pub read_unfailed : IsUnfailed reader
  pub write_unfailed : IsUnfailed writer
  pub memory : result ≢ Err run_error.OutOfMemory
  pub text_is : IsInput reader text
  pub bytes_are : IsWritten writer bytes

-- such runs over the same input have the same result and write the same bytes
abbrev pub RunsEndOneWay : Type 0
RunsEndOneWay = (mode : Mode) (text x y : List ℕ) (a b : Result (Unit {0}) RunError) → RunGives mode text a x
    → RunGives mode text b y → (a ≡ b) × (x ≡ y)

-- each input has an outcome in each mode, which such a run may have: the laws of one outcome are not empty
abbrev pub EveryInputHasAnOutcome : Type 0
EveryInputHasAnOutcome = (mode : Mode) (text : List ℕ)
    → (result : Result (Unit {0}) RunError) × (bytes : List ℕ) × RunGives mode text result bytes

-- this input was read to its end, and memory did not run out
pub record IsJudged (reader : Use) (result : Result (Unit {0}) RunError) (text : List ℕ) : Type 0 where
  pub text_is : IsInput reader text
  pub read_unfailed : IsUnfailed reader
  pub memory : result ≢ Err run_error.OutOfMemory

-- each error but out of memory is the result exactly in its case
pub record HasExactErrors (mode : Mode) (reader writer : Use) (result : Result (Unit {0}) RunError) : Type 0 where
  pub read : IsErrOf result run_error.Read ↔ HasFailed reader
  pub write : IsErrOf result run_error.Write ↔ HasFailed writer
  pub not_utf8 : (text : List ℕ) → IsJudged reader result text → IsErrOf result run_error.NotUtf8 ↔ ¬ (IsUtf8 text)
  pub not_json : (text : List ℕ) → IsJudged reader result text
      → IsErrOf result run_error.NotJson ↔ ((mode ≡ Json) × IsUtf8 text × IsJsonInputErrorOf text run_error.NotJson)
  pub not_list : (text : List ℕ) → IsJudged reader result text
      → IsErrOf result run_error.NotList ↔ ((mode ≡ Json) × IsUtf8 text × IsJsonInputErrorOf text run_error.NotList)

-- this holds for every end of a run
abbrev pub ErrorsOfRunsAreExact : Type 0
ErrorsOfRunsAreExact = (mode : Mode) (reader writer : Use) (result : Result (Unit {0}) RunError)
    → EndsAs mode reader writer result → HasExactErrors mode reader writer result
