-- How a string is written into a buffer.
use Rattle.std.specs.Prelude.{◌≡◌, ℕ, ◌≤◌, ◌<◌, List, ◌++◌, length, drop}

-- the length of the string is returned. If the string fits into the buffer, its bytes are at the front of the buffer,
-- and the bytes after them are unchanged; otherwise the buffer is unchanged
pub record IsWritten (text old new : List ℕ) (size : ℕ) : Type 0 where
  pub counted : size ≡ length text
  pub fits : length text ≤ length old → new ≡ text ++ drop (length text) old
  pub overflows : length old < length text → new ≡ old
