-- What a call of a reader or writer moves, what counts as its failure, and as the end.
use Rattle.std.specs.Prelude.{Bool, true, false, if◌then◌else◌, ℕ, List, [], length, take, ◌==◌, ◌&&◌, not, Result, Ok}
use Rattle.std.specs.Prelude.{Err}
use Rattle.triples.specs.Calls.{Call, Moved, Ended, Flushed, Failed, bytes_of, ends_last, failures_in, stops_in}
use Rattle.triples.specs.declared.counted.Counted.{Counted}

-- the reader or writer of a `Counted`
abbrev pub inner : {D : Type 0} → Counted D → D
inner counted = counted.inner

-- its calls, the latest first
abbrev pub calls : {D : Type 0} → Counted D → List Call
calls counted = counted.trace.calls

-- its number of failed calls
abbrev pub failures : {D : Type 0} → Counted D → ℕ
failures counted = failures_in (calls counted)

-- 1 for an error, otherwise 0
abbrev pub failures_of : {T E : Type 0} → Result T E → ℕ
failures_of (Ok _) = 0
failures_of (Err _) = 1

-- 1 for an error, and for a write that took no byte of a piece that is not empty; otherwise 0
abbrev pub write_failures_of : {E : Type 0} → Result ℕ E → List ℕ → ℕ
write_failures_of (Ok count) piece = if (count == 0) && not (length piece == 0) then 1 else 0
write_failures_of (Err _) piece = 1

-- the bytes that its calls moved: those that its reads gave, or that its writes took
abbrev pub moved : {D : Type 0} → Counted D → List ℕ
moved counted = bytes_of (calls counted)

-- whether its last call was the end: a read that found the end, or a flush that didn't fail
abbrev pub is_ended : {D : Type 0} → Counted D → Bool
is_ended counted = ends_last (calls counted)

-- how many of its calls were to be the last
abbrev pub stops : {D : Type 0} → Counted D → ℕ
stops counted = stops_in (calls counted)

-- whether a read found the end: it gave no byte, and had room for one
abbrev pub finds_end : {E : Type 0} → Result ℕ E → List ℕ → Bool
finds_end (Ok count) buffer = (count == 0) && not (length buffer == 0)
finds_end (Err _) buffer = false

-- whether a read or a write of this buffer was to be the last: it failed, or moved no byte though there was room or a
-- byte
abbrev pub is_last_by : {E : Type 0} → Result ℕ E → List ℕ → Bool
is_last_by (Ok count) buffer = (count == 0) && not (length buffer == 0)
is_last_by (Err _) buffer = true

-- 1 if so, otherwise 0
abbrev pub stops_by : {E : Type 0} → Result ℕ E → List ℕ → ℕ
stops_by (Ok count) buffer = if (count == 0) && not (length buffer == 0) then 1 else 0
stops_by (Err _) buffer = 1

-- the bytes that a read gave, or a write took, of these: as many as it says, and none at an error
abbrev pub moved_by : {E : Type 0} → Result ℕ E → List ℕ → List ℕ
moved_by (Ok count) bytes = take count bytes
moved_by (Err _) bytes = []

-- what a read, a write and a flush with these results did
abbrev pub read_call : {E : Type 0} → Result ℕ E → List ℕ → Call
read_call (Ok count) buffer = if (count == 0) && not (length buffer == 0) then Ended else Moved (take count buffer)
read_call (Err _) buffer = Failed

abbrev pub write_call : {E : Type 0} → Result ℕ E → List ℕ → Call
write_call (Ok count) piece = if (count == 0) && not (length piece == 0) then Failed else Moved (take count piece)
write_call (Err _) piece = Failed

abbrev pub flush_call : {T E : Type 0} → Result T E → Call
flush_call (Ok _) = Flushed
flush_call (Err _) = Failed
