-- How many rows of the table of names a binary search compares with a string.
use Rattle.std.specs.Prelude.{ℕ, zero, suc, ◌+◌, ◌-◌, ◌/◌, ◌==◌, if◌then◌else◌, List}
use Rattle.std.specs.Cmp.Lexicographic.{slice_cmp}
use Rattle.std.specs.Ordering.{nat_cmp}
use Rattle.std.specs.declared.cmp.Ordering.{Ordering}
use Rattle.std.specs.declared.cmp.Ordering.TheVariants.{Less, Equal, Greater}
use Rattle.lexicon_fields.specs.FixedRow.{row_count, row_text}

-- how many rows are compared after one whose string has this order relative to the searched one: after an equal one
-- none, after a lesser one those of the upper half, after a greater one those of the lower half
abbrev pub steps_after : Ordering → ℕ → ℕ → ℕ
steps_after Less upper lower = upper
steps_after Equal upper lower = 0
steps_after Greater upper lower = lower

-- how many of these `size` rows from row `low` on are compared, if that is at most `most`: the one in the middle, and
-- those of a half
unfoldable pub steps_among : ℕ → ℕ → ℕ → List ℕ → ℕ
steps_among zero low size text = 0
steps_among (suc most) low size text =
    if size == 0 then 0
    else suc (steps_after (slice_cmp nat_cmp (row_text (low + size / 2)) text)
    (steps_among most (low + (size - size / 2)) (size / 2) text) (steps_among most low (size / 2) text))

-- how many rows of the table are compared
unfoldable pub search_steps : List ℕ → ℕ
search_steps text = steps_among 8 0 row_count text
