use Rattle.triples.proofs.{get_or, ℕ, ◌<◌, ◌≡◌}
use Rattle.triples.proofs.filter.line_end.Given as goal

abbrev pub invariant-loop-i : goal.invariant-loop-i
invariant-loop-i l = (k : ℕ) → k < l.i → get_or l.bytes k 0 ≡ 10 → ⊥
