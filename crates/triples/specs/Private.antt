-- Definitions for the contracts of private functions; no public contract cites them.
use Rattle.std.specs.Prelude.{ℕ, ◌≡◌, ◌<◌, ◌||◌, ◌⊎◌, Bool, false, if◌then◌else◌, List, [], ◌∷◌, ◌++◌, length, codes}
use Rattle.std.specs.Prelude.{MatchOption, String}
use Rattle.std.specs.declared.alloc.Global.{Global}
use Rattle.std.specs.HashSet.{HashSet, contains_text}
use Rattle.std.specs.declared.hash.{BuildHasherDefault.BuildHasherDefault, FoldHasher.FoldHasher}
use Rattle.std.specs.Str.{bytes_eq}
use Rattle.target_lexicon.specs.{FixedPoints.canonical_string, Refusal.Refusal, Refusal.refusal_line}
use Rattle.target_lexicon.specs.{Refusal.refusal_of, declared.parse_error.ParseError.ParseError, Values.Values}
use Rattle.triples.specs.{JsonOutput.IsJsonInputErrorOf, declared.mode.Mode.Mode, declared.mode.Mode.TheVariants.Json}
use Rattle.triples.specs.{declared.run_error.RunError.RunError}
use Rattle.triples.specs.declared.run_error.RunError.TheVariants as run_error
use Rattle.triples.specs.Output.{Answer, Shown, Refused, IsAnswer, shows, written_lines}

-- the printed triples that were seen
abbrev pub Seen : Type 0
Seen = HashSet (String Global) (BuildHasherDefault FoldHasher)

-- a set has this string and its earlier ones
abbrev pub HasOneMore : Seen → Seen → List ℕ → Type 0
HasOneMore old new text = (other : List ℕ) → contains_text new other ≡ (contains_text old other || bytes_eq other text)

-- whether an answer shows a string that was seen
abbrev pub is_repeated : Seen → Answer → Bool
is_repeated seen (Shown text) = contains_text seen text
is_repeated seen (Refused message) = false

-- the answer to a line that is refused
abbrev pub refused_answer : Refusal → Answer
refused_answer refusal = Refused (codes "error: " ++ refusal_line refusal)

-- the error is a refusal, and the output grew by its answer
abbrev pub AddsRefusal : ParseError → List ℕ → List ℕ → Type 0
AddsRefusal error old new =
    MatchOption (refusal_of error) ⊥ (λ refusal. new ≡ old ++ written_lines (refused_answer refusal ∷ []))

-- the output grew by the answer to a line
pub record AddsAnswer (shown : Values → List ℕ) (line old new : List ℕ) : Type 0 where
  pub answer : Answer
  pub is : IsAnswer shown line answer
  pub grown : new ≡ old ++ written_lines (answer ∷ [])

-- the output grew by the answer to a line, unless that shows a string that was seen, and what it shows has now been
-- seen
pub record AddsEntry (line old new : List ℕ) (seen_old seen_new : Seen) : Type 0 where
  pub answer : Answer
  pub is : IsAnswer canonical_string line answer
  pub grown : new ≡ old ++ written_lines (if is_repeated seen_old answer then [] else answer ∷ [])
  pub seen : (text : List ℕ) → contains_text seen_new text ≡ (contains_text seen_old text || shows text answer)

-- why a mode has no output for an input: memory ran out, or in mode `json` also what that says
abbrev pub HasNoOutput : Mode → List ℕ → RunError → Type 0
HasNoOutput mode input e =
    ((mode ≡ Json) × IsJsonInputErrorOf input e) ⊎ ((e ≡ run_error.OutOfMemory) × (0 < length input))
