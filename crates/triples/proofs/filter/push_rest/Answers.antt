use Rattle.triples.proofs.{false, rest-answered, rules, ℕ, ◌<◌, ◌==◌, ◌≡◌}
use Rattle.triples.proofs.filter.push_rest.Goals as goal

not-empty : (n : ℕ) → (n == 0) ≡ false → 0 < n
not-empty n is = search rules

pub returns-clause-answer : goal.returns-clause-answer
returns-clause-answer c = search (rules, not-empty, rest-answered)
