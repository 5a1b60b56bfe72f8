use Rattle.triples.proofs.{arith, drop}
use Rattle.triples.proofs.{drop-take, length, length-drop, List, paste, rules, take, take-paste, ℕ, ◌+◌, ◌-◌, ◌≡◌, ◌≤◌}
use Rattle.triples.proofs.filter.keep_rest.Goals as goal

-- the bytes that are copied to the front are those from `start` on
kept : (old : List ℕ) (start end : ℕ) → start ≤ end → end ≤ length old
    → take (end - start) (paste old 0 (drop start old) (end - start)) ≡ drop start (take end old)
kept old start end order within =
    let n = end - start in
    let same : 0 + n ≡ n = omega arith in
    let whole : start + n ≡ end = omega arith in
    let copied = take-paste old 0 (drop start old) n (omega arith) (omega (arith, length-drop start old)) in
    let front = drop-take start n old in search (rules, same, whole, copied, front)

pub returns-then-start-eq0-clause-kept : goal.returns-then-start-eq0-clause-kept
returns-then-start-eq0-clause-kept c = search rules

pub returns-clause-kept : goal.returns-clause-kept
returns-clause-kept c = search (rules, kept)
