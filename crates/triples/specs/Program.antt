-- What the program does for its arguments, and with its streams.
use Rattle.std.specs.Prelude.{ℕ, ◌≡◌, List, Option, Some, None, Result, Ok, Err, IfSome, OnOk}
use Rattle.triples.specs.{declared.counted.Counted.Counted, declared.filter_error.FilterError.FilterError}
use Rattle.triples.specs.{declared.line_mode.LineMode.LineMode}
use Rattle.triples.specs.{declared.request.Request.Request, declared.run_error.RunError.RunError}
use Rattle.triples.specs.{Filter.FilterEndsAs, Run.EndsAs, Run.IsUnfailed, Run.Takes, Run.StopsOnce}
use Rattle.triples.specs.{Run.TakesBeginning, Run.Use}
use Rattle.triples.specs.{Run.use_of}
use Rattle.triples.specs.Words.{End, closing_words, status_of}
use Rattle.triples.specs.declared.filter_error.FilterError.TheVariants as filter_error
use Rattle.triples.specs.declared.request.Request.TheVariants.{Run, Filter}
use Rattle.triples.specs.declared.run_error.RunError.TheVariants as run_error

-- the size of the filter's input buffer
abbrev pub buffer_size : ℕ
buffer_size = 65536

-- the end of the program after a filter; no machine makes the `u64::MAX` reads of `Endless`
abbrev pub run_result : Result (Unit {0}) FilterError → Result (Unit {0}) RunError
run_result (Ok _) = Ok tt
run_result (Err filter_error.Read) = Err run_error.Read
run_result (Err filter_error.Write) = Err run_error.Write
run_result (Err filter_error.Endless) = Err run_error.Read

-- a filter with a buffer of this size ended, with this result
abbrev pub FiltersInBuffers : LineMode → Use → Use → Result (Unit {0}) RunError → Type 0
FiltersInBuffers mode reader writer result =
    (end : Result (Unit {0}) FilterError) × FilterEndsAs mode buffer_size reader writer end × (result ≡ run_result end)

-- the program ends so: it wrote its closing words, or a beginning of them if the writer failed, and has this status
pub record Concludes (end : End) (writer : Use) (status : ℕ) : Type 0 where
  pub status_is : status ≡ status_of end
  pub said : IsUnfailed writer → Takes writer (closing_words end)
  pub begun : TakesBeginning writer (closing_words end)
  -- nothing is called after a failure or the flush, and nothing at all after a success
  pub once : StopsOnce writer
  pub quiet : IfSome end (λ result. OnOk result (writer.calls_after ≡ writer.calls_before))

-- What the program does to its reader, its writer and its writer of errors, and its exit status. Before it concludes,
-- the writer is as the run left it.
abbrev pub Performs : {R W E : Type 0} → (R → Option (List ℕ)) → (W → Option (List ℕ)) → (E → Option (List ℕ))
    → Option Request
    → Counted R → Counted R → Counted W → Counted W → Counted E → Counted E → ℕ → Type 0
-- without a request it only concludes
Performs remaining contents said None r0 r1 w0 w1 e0 e1 status =
    (r1 ≡ r0) × (e1 ≡ e0) × Concludes None (use_of contents w0 w1) status
-- a run, after which the writer has the closing line
Performs remaining contents said (Some (Run mode)) r0 r1 w0 w1 e0 e1 status =
    (end : Result (Unit {0}) RunError) × ((w : Counted _)
    × EndsAs mode (use_of remaining r0 r1) (use_of contents w0 w) end
    × Concludes (Some end) (use_of contents w w1) status × (e1 ≡ e0))
-- a filter, after which the writer of errors has the closing line
Performs remaining contents said (Some (Filter mode)) r0 r1 w0 w1 e0 e1 status =
    (end : Result (Unit {0}) RunError) × FiltersInBuffers mode (use_of remaining r0 r1) (use_of contents w0 w1) end
    × Concludes (Some end) (use_of said e0 e1) status
