-- Laws of mode `matrix`.
use Rattle.std.specs.Prelude.{ℕ, ◌≡◌, ◌↔◌, Bool, true, false, not, List, [], ◌∷◌, ◌++◌, take, map}
use Rattle.std.specs.List.{filter}
use Rattle.target_lexicon.specs.{FixedPoints.canonical_values, FixedPoints.canonical_string, Parsing.ParsesAs}
use Rattle.target_lexicon.specs.{Values.Values}
use Rattle.triples.specs.Output.{Answer, Shown, Refused, IsAnswer, AreAnswers, shows, matrix_of, answer_bytes}

-- mode `settle` writes the same string for two lines
abbrev pub ShareAnEntry : List ℕ → List ℕ → Type 0
ShareAnEntry a b = (text : List ℕ) × IsAnswer canonical_string a (Shown text) × IsAnswer canonical_string b (Shown text)

-- two lines that parse have the same entry if and only if their canonical triples are equal
abbrev pub EntriesAreCanonicalTriples : Type 0
EntriesAreCanonicalTriples = (a b : List ℕ) (t u : Values) → ParsesAs a t → ParsesAs b u
    → ShareAnEntry a b ↔ (canonical_values t ≡ canonical_values u)

-- the entries for a string among the answers of mode `settle`
abbrev pub entries_of : List ℕ → List Answer → List Answer
entries_of text lines = filter (shows text) lines

-- whether an answer is a refusal
abbrev pub is_refusal : Answer → Bool
is_refusal (Shown text) = false
is_refusal (Refused message) = true

-- the matrix keeps one entry for each string, and every refusal
pub record KeepsEntriesOnce (lines : List Answer) : Type 0 where
  pub entries : (text : List ℕ) → entries_of text (matrix_of lines) ≡ take 1 (entries_of text lines)
  pub refusals : filter is_refusal (matrix_of lines) ≡ filter is_refusal lines

-- An answer that follows others is added at the end of their matrix if it is a refusal or the first entry for its
-- string; another entry for the same string adds nothing.
pub record StaysAtItsFirst (before : List Answer) : Type 0 where
  pub refusal : (message : List ℕ) → matrix_of (before ++ Refused message ∷ [])
      ≡ matrix_of before ++ Refused message ∷ []
  pub first : (text : List ℕ) → entries_of text before ≡ []
      → matrix_of (before ++ Shown text ∷ []) ≡ matrix_of before ++ Shown text ∷ []
  pub again : (text : List ℕ) → ¬ (entries_of text before ≡ [])
      → matrix_of (before ++ Shown text ∷ []) ≡ matrix_of before

-- this holds after all lines, and no lines have an empty matrix
pub record FirstEntriesStayInOrder : Type 0 where
  pub none : matrix_of [] ≡ []
  pub others : (before : List Answer) → StaysAtItsFirst before

-- the canonical triple of each line of an input that parses has one entry in the matrix
abbrev pub EachCanonicalTripleHasAnEntry : Type 0
EachCanonicalTripleHasAnEntry = (before after : List (List ℕ)) (line : List ℕ) (answers : List Answer)
    → AreAnswers canonical_string (before ++ line ∷ after) answers
    → (t : Values) → ParsesAs line t → entries_of (canonical_string t) (matrix_of answers)
    ≡ Shown (canonical_string t) ∷ []

-- the entries among answers
abbrev pub only_entries : List Answer → List Answer
only_entries lines = filter (λ line. not (is_refusal line)) lines

-- the entries of a matrix, as lines, give the same entries: mode `settle` writes them unchanged, and all of them stay
pub record IsItsOwnMatrix (entries : List Answer) : Type 0 where
  pub settled : AreAnswers canonical_string (map answer_bytes entries) entries
  pub stays : matrix_of entries ≡ entries

-- this holds for every matrix
abbrev pub MatricesAreTheirOwn : Type 0
MatricesAreTheirOwn = (lines : List (List ℕ)) (answers : List Answer) → AreAnswers canonical_string lines answers
    → IsItsOwnMatrix (only_entries (matrix_of answers))
