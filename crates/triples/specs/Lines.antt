-- The lines of an input.
use Rattle.std.specs.Prelude.{ℕ, ◌==◌, List, [], ◌∷◌}
use Rattle.std.specs.List.{slice_split}

-- the byte that ends a line
abbrev pub line_feed : ℕ
line_feed = 10

-- the parts without an empty last one
abbrev pub parts_without_empty_last : List (List ℕ) → List (List ℕ)
parts_without_empty_last [] = []
parts_without_empty_last ([] ∷ []) = []
parts_without_empty_last ((b ∷ bs) ∷ []) = (b ∷ bs) ∷ []
parts_without_empty_last (part ∷ next ∷ parts) = part ∷ parts_without_empty_last (next ∷ parts)

-- the lines of an input: it is cut at its line feeds, nothing is trimmed, and no line follows a last line feed
abbrev pub lines_of : List ℕ → List (List ℕ)
lines_of input = parts_without_empty_last (slice_split (λ b. b == line_feed) input)

-- the parts without the last one
abbrev pub parts_without_last : List (List ℕ) → List (List ℕ)
parts_without_last [] = []
parts_without_last (part ∷ []) = []
parts_without_last (part ∷ next ∷ parts) = part ∷ parts_without_last (next ∷ parts)

-- the lines that a line feed ends
abbrev pub ended_lines_of : List ℕ → List (List ℕ)
ended_lines_of input = parts_without_last (slice_split (λ b. b == line_feed) input)
