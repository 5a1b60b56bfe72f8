-- Laws of what a filter writes and how it ends.
use Rattle.std.specs.Prelude.{ℕ, ◌≡◌, ◌↔◌, ◌<◌, ◌-◌, ◌^◌, List, length, IsErrOf, Result, Ok}
use Rattle.std.specs.List.{AllByRecursion}
use Rattle.std.specs.Str.{IsUtf8}
use Rattle.triples.specs.{declared.filter_error.FilterError.FilterError, declared.line_mode.LineMode.LineMode}
use Rattle.triples.specs.{declared.mode.Mode.Mode}
use Rattle.triples.specs.{Filter.AreFilterAnswers, Filter.FilterEndsAs, Lines.lines_of, Output.IsOutput}
use Rattle.triples.specs.{Run.Use, Run.Takes, Run.IsUnfailed, Run.HasFailed, RunLaws.IsInput}
use Rattle.triples.specs.declared.filter_error.FilterError.TheVariants as filter_error
use Rattle.triples.specs.declared.line_mode.LineMode.TheVariants.{Print, Show, Settle}
use Rattle.triples.specs.declared.mode.Mode.TheVariants as mode

-- for each buffer and all lines there are answers, and no others
pub record HasOneFilterOutput (mode : LineMode) (size : ℕ) (lines : List (List ℕ)) : Type 0 where
  pub output : List ℕ
  pub is : AreFilterAnswers mode size lines output
  pub only : (other : List ℕ) → AreFilterAnswers mode size lines other → other ≡ output

abbrev pub EveryInputIsFiltered : Type 0
EveryInputIsFiltered = (mode : LineMode) (size : ℕ) (lines : List (List ℕ)) → HasOneFilterOutput mode size lines

-- the mode of a run that answers each line so
abbrev pub run_mode : LineMode → Mode
run_mode Print = mode.Print
run_mode Show = mode.Show
run_mode Settle = mode.Settle

-- for an input that is UTF-8 and whose lines fit the buffer, the answers are the output of the run
abbrev pub FiltersAgreeWithRuns : Type 0
FiltersAgreeWithRuns = (mode : LineMode) (size : ℕ) (input output : List ℕ) → IsUtf8 input
    → AllByRecursion (λ line. length line < size) (lines_of input)
    → AreFilterAnswers mode size (lines_of input) output ↔ IsOutput (run_mode mode) input output

-- a filter over this input, in which no read, write or flush failed
pub record FilterGives (mode : LineMode) (size : ℕ) (input : List ℕ) (writer : Use)
    (result : Result (Unit {0}) FilterError) : Type 0 where
  pub reader : Use
  pub ends : FilterEndsAs mode size reader writer result
  pub read_unfailed : IsUnfailed reader
  pub write_unfailed : IsUnfailed writer
  pub input_is : IsInput reader input

-- each such filter of fewer than `u64::MAX` bytes succeeds, and its writes took the answers to all lines
abbrev pub FiltersEndOneWay : Type 0
FiltersEndOneWay = (mode : LineMode) (size : ℕ) (input : List ℕ) (writer : Use)
    (result : Result (Unit {0}) FilterError) → length input < 2 ^ 64 - 1
    → FilterGives mode size input writer result
    → (result ≡ Ok tt) × (output : List ℕ) × AreFilterAnswers mode size (lines_of input) output × Takes writer output

-- the errors of reads and writes are the results exactly in their cases
pub record HasExactFilterErrors (reader writer : Use) (result : Result (Unit {0}) FilterError) : Type 0 where
  pub read : IsErrOf result filter_error.Read ↔ HasFailed reader
  pub write : IsErrOf result filter_error.Write ↔ HasFailed writer

abbrev pub ErrorsOfFiltersAreExact : Type 0
ErrorsOfFiltersAreExact = (mode : LineMode) (size : ℕ) (reader writer : Use) (result : Result (Unit {0}) FilterError)
    → FilterEndsAs mode size reader writer result → HasExactFilterErrors reader writer result
