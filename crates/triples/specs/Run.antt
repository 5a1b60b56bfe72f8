-- How a run ends: what it did to its reader and its writer, and its result.
use Rattle.std.specs.Prelude.{ℕ, ◌≡◌, ◌+◌, ◌<◌, ◌⊎◌, List, [], ◌++◌, length, take, Option, IsTrue, Result, Ok, Err}
use Rattle.std.specs.Io.KnownBytes.{Appends, Consumes, IsAtEnd}
use Rattle.std.specs.Str.{IsUtf8}
use Rattle.triples.specs.{declared.mode.Mode.Mode, declared.mode.Mode.TheVariants.Json}
use Rattle.triples.specs.{declared.run_error.RunError.RunError, declared.counted.Counted.Counted}
use Rattle.triples.specs.{Calls.Call, Calls.bytes_of, Calls.ends_last, Calls.failures_in, Calls.stops_in}
use Rattle.triples.specs.{Calls.stops_last}
use Rattle.triples.specs.{JsonOutput.IsJsonInputErrorOf, Output.IsOutput, Streams.calls, Streams.inner}
use Rattle.triples.specs.declared.run_error.RunError.TheVariants as run_error

-- a reader or a writer before and after a call: the bytes that the reader has left or the writer holds, if they are
-- known, and its calls, the latest first
pub record Use : Type 0 where
  pub bytes_before : Option (List ℕ)
  pub bytes_after : Option (List ℕ)
  pub calls_before : List Call
  pub calls_after : List Call

-- what a call did to a reader or a writer with these bytes
abbrev pub use_of : {D : Type 0} → (D → Option (List ℕ)) → Counted D → Counted D → Use
use_of bytes before after = record {
  bytes_before = bytes (inner before);
  bytes_after = bytes (inner after);
  calls_before = calls before;
  calls_after = calls after;
}

-- the reads gave these bytes; if the bytes of the reader are known, these were the first of them
pub record Gives (reader : Use) (bytes : List ℕ) : Type 0 where
  pub moved : bytes_of reader.calls_after ≡ bytes_of reader.calls_before ++ bytes
  pub known : Consumes reader.bytes_before reader.bytes_after bytes

-- the writes took these bytes; if the bytes of the writer are known, they grew by these
pub record Takes (writer : Use) (bytes : List ℕ) : Type 0 where
  pub moved : bytes_of writer.calls_after ≡ bytes_of writer.calls_before ++ bytes
  pub known : Appends writer.bytes_before writer.bytes_after bytes

-- the writes took a beginning of these bytes
abbrev pub TakesBeginning : Use → List ℕ → Type 0
TakesBeginning writer bytes = (n : ℕ) × Takes writer (take n bytes)

-- no read, write or flush failed
abbrev pub IsUnfailed : Use → Type 0
IsUnfailed it = failures_in it.calls_after ≡ failures_in it.calls_before

-- one failed
abbrev pub HasFailed : Use → Type 0
HasFailed it = failures_in it.calls_after ≡ failures_in it.calls_before + 1

-- no call was to be the last: each moved bytes
abbrev pub OnlyMoves : Use → Type 0
OnlyMoves it = stops_in it.calls_after ≡ stops_in it.calls_before

-- One call was to be the last, and it was: it found the end, flushed, or failed. The others moved bytes.
abbrev pub StopsLast : Use → Type 0
StopsLast it = (stops_in it.calls_after ≡ stops_in it.calls_before + 1) × IsTrue (stops_last it.calls_after)

-- nothing was called after a call that was to be the last
abbrev pub StopsOnce : Use → Type 0
StopsOnce it = OnlyMoves it ⊎ StopsLast it

-- the input was read to its end: the last read found it
abbrev pub IsReadWhole : Use → Type 0
IsReadWhole reader =
    IsTrue (ends_last reader.calls_after) × IsAtEnd reader.bytes_after × IsUnfailed reader × StopsLast reader

-- what was written was flushed, by the last call
abbrev pub IsWrittenWhole : Use → Type 0
IsWrittenWhole writer = IsTrue (ends_last writer.calls_after) × IsUnfailed writer × StopsLast writer

-- why an input was not read to its end, of which these bytes were read: a read failed, or memory ran out
abbrev pub IsReadErrorOf : Use → List ℕ → RunError → Type 0
IsReadErrorOf reader bytes run_error.Read = HasFailed reader × StopsLast reader
IsReadErrorOf reader bytes run_error.OutOfMemory = IsUnfailed reader × (0 < length bytes) × OnlyMoves reader
IsReadErrorOf reader bytes _ = ⊥

-- nothing was called
abbrev pub IsUntouched : Use → List ℕ → Type 0
IsUntouched writer output = IsUnfailed writer × (output ≡ []) × (writer.calls_after ≡ writer.calls_before)

-- what a run has written by its result, if its reads gave this input
abbrev pub RunEnds : Mode → Use → Use → List ℕ → List ℕ → Result (Unit {0}) RunError → Type 0
-- the input was read to its end, and its output was written and flushed
RunEnds mode reader writer input output (Ok _) =
    IsReadWhole reader × IsWrittenWhole writer × IsUtf8 input × IsOutput mode input output
-- a read failed
RunEnds mode reader writer input output (Err run_error.Read) = HasFailed reader × IsUntouched writer output
-- the input was read to its end, and a write or the flush failed after a beginning of the output
RunEnds mode reader writer input output (Err run_error.Write) =
    IsReadWhole reader × HasFailed writer × IsUtf8 input × (whole : List ℕ) × IsOutput mode input whole × (n : ℕ)
    × (output ≡ take n whole)
-- the input was read to its end, and is not UTF-8
RunEnds mode reader writer input output (Err run_error.NotUtf8) =
    IsReadWhole reader × IsUntouched writer output × ¬ (IsUtf8 input)
-- the input was read to its end, in mode `json`, and is not JSON, or JSON but not a list
RunEnds mode reader writer input output (Err run_error.NotJson) =
    IsReadWhole reader × IsUntouched writer output × (mode ≡ Json) × IsUtf8 input
    × IsJsonInputErrorOf input run_error.NotJson
RunEnds mode reader writer input output (Err run_error.NotList) =
    IsReadWhole reader × IsUntouched writer output × (mode ≡ Json) × IsUtf8 input
    × IsJsonInputErrorOf input run_error.NotList
-- memory ran out after at least one byte was read
RunEnds mode reader writer input output (Err run_error.OutOfMemory) =
    IsUnfailed reader × IsUntouched writer output × (0 < length input)

-- how a run ends, whether or not the bytes of its reader and writer are known: what its reads gave, and what its writes
-- took; and after a read that failed or found the end, a write that failed, or the flush, there is no other
pub record EndsAs (mode : Mode) (reader writer : Use) (result : Result (Unit {0}) RunError) : Type 0 where
  pub input : List ℕ
  pub output : List ℕ
  pub gives : Gives reader input
  pub takes : Takes writer output
  pub reads : StopsOnce reader
  pub writes : StopsOnce writer
  pub by_result : RunEnds mode reader writer input output result
