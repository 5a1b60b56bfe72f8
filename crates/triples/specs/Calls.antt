-- The calls of a reader or writer, as a list. The latest call is the first of the list.
use Rattle.std.specs.Prelude.{ℕ, ◌+◌, Bool, true, false, List, [], ◌∷◌, ◌++◌}
use Rattle.triples.specs.declared.trace.Outcome.{Outcome}
use Rattle.triples.specs.declared.trace.Outcome.TheVariants as outcome

-- what a call did
pub data Call : Type 0 where
  -- a read gave, or a write took, these bytes
  Moved : List ℕ → Call
  -- a read found the end
  Ended : Call
  -- what was written was flushed
  Flushed : Call
  -- it failed
  Failed : Call
  -- no call: the reader's next call was made after a writer had taken these bytes
  After : List ℕ → Call

-- a call that ended so, of these bytes
abbrev pub call_of : Outcome → List ℕ → Call
call_of outcome.Moved bytes = Moved bytes
call_of outcome.Ended bytes = Ended
call_of outcome.Flushed bytes = Flushed
call_of outcome.Failed bytes = Failed

-- the bytes that a call moved
abbrev pub bytes_in : Call → List ℕ
bytes_in (Moved bytes) = bytes
bytes_in Ended = []
bytes_in Flushed = []
bytes_in Failed = []
bytes_in (After written) = []

-- the bytes that the calls moved
abbrev pub bytes_of : List Call → List ℕ
bytes_of [] = []
bytes_of (call ∷ calls) = bytes_of calls ++ bytes_in call

-- 1 for a call that failed
abbrev pub failure_in : Call → ℕ
failure_in (Moved bytes) = 0
failure_in Ended = 0
failure_in Flushed = 0
failure_in Failed = 1
failure_in (After written) = 0

-- how many calls failed
abbrev pub failures_in : List Call → ℕ
failures_in [] = 0
failures_in (call ∷ calls) = failures_in calls + failure_in call

-- 1 for a call that is to be the last: it found the end, flushed, or failed
abbrev pub stop_in : Call → ℕ
stop_in (Moved bytes) = 0
stop_in Ended = 1
stop_in Flushed = 1
stop_in Failed = 1
stop_in (After written) = 0

-- how many calls were to be the last
abbrev pub stops_in : List Call → ℕ
stops_in [] = 0
stops_in (call ∷ calls) = stops_in calls + stop_in call

-- whether the latest call was the end: a read that found it, or a flush
abbrev pub is_end : Call → Bool
is_end (Moved bytes) = false
is_end Ended = true
is_end Flushed = true
is_end Failed = false
is_end (After written) = false

abbrev pub ends_last : List Call → Bool
ends_last [] = false
ends_last (call ∷ calls) = is_end call

-- whether the latest call was to be the last
abbrev pub is_stop : Call → Bool
is_stop (Moved bytes) = false
is_stop Ended = true
is_stop Flushed = true
is_stop Failed = true
is_stop (After written) = false

abbrev pub stops_last : List Call → Bool
stops_last [] = false
stops_last (call ∷ calls) = is_stop call
