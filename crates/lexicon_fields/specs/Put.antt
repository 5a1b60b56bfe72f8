-- Strings written one after the other at the start of a buffer.
use Rattle.std.specs.Prelude.{◌≡◌, ℕ, ◌+◌, List, ◌++◌, length, drop}

-- a buffer that was `first` has this string at its start, up to this position, and is unchanged after it
pub record IsPut (text first now : List ℕ) (end : ℕ) : Type 0 where
  pub counted : end ≡ length text
  pub bytes : now ≡ text ++ drop (length text) first

-- this string was put after what ends at `at`, and it ends at `end`
pub record Puts (text old : List ℕ) (at : ℕ) (now : List ℕ) (end : ℕ) : Type 0 where
  pub end_is : end ≡ at + length text
  pub same_length : length now ≡ length old
  pub after : (before first : List ℕ) → IsPut before first old at → IsPut (before ++ text) first now end
