use Rattle.target_lexicon.proofs.{All, List, Values, [], ap, arith, map, refl, suc, zero, ◌∙◌, ◌∷◌, ◌≡◌}
use Rattle.target_lexicon.proofs.{ComesBack, ElementsParseAs, EveryStringHasOneOutcome, items_of, json_of, string_of}
use Rattle.target_lexicon.proofs.laws.lists_read_back.Goals as goal

list-reads : (ts : List Values) → All ComesBack ts → ElementsParseAs (items_of (map json_of ts)) ts
list-reads [] back = tt
list-reads (t ∷ ts) back = (back zero t (omega arith), list-reads ts (λ k d within. back (suc k) d (omega arith)))

list-only : EveryStringHasOneOutcome → (ts us : List Values) → All ComesBack ts
    → ElementsParseAs (items_of (map json_of ts)) us → us ≡ ts
list-only one [] [] back read = refl
list-only one (t ∷ ts) (u ∷ us) back read =
    let first : u ≡ t = (one (string_of t)).values u t read.0 (back zero t (omega arith)) in
    let others : us ≡ ts = list-only one ts us (λ k d within. back (suc k) d (omega arith)) read.1 in
    ap (λ (v : Values). v ∷ us) first ∙ ap (λ (vs : List Values). t ∷ vs) others
list-only one _ _ back read = absurd read

pub returns : goal.returns
returns c = grind (arith, list-only, c.every_string_has_one_outcome.ensures, list-reads)
