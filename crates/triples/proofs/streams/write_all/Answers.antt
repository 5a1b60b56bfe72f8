-- What was written so far and `rest` together are the bytes; so it is a beginning of them wherever the loop ends.
use Rattle.triples.proofs.{[], ap, append-nil, common_steps, List, refl, rules, sym}
use Rattle.triples.proofs.{take, take-append-drop, takes-beginning, takes-kept, takes-none, takes-then, ℕ, ◌++◌, ◌∙◌}
use Rattle.triples.proofs.streams.write_all.Goals as goal

pub loop-rest-init : goal.loop-rest-init
loop-rest-init g c = record { taken = ([], refl, takes-none); unfailed = refl; moves = refl }

pub loop-rest-preserved : goal.loop-rest-preserved
loop-rest-preserved g c = search (rules, common_steps, take-append-drop, takes-then)

pub returns-then-taken-eq0-clause-begun : goal.returns-then-taken-eq0-clause-begun
returns-then-taken-eq0-clause-begun g c =
    let inv = c.loop-rest.invariant.taken in
    let wrote = c.in-Ok.ensures in
    let rest = c.loop-rest.rest.now in
    let piece = take c.in-Ok.taken rest in
    let none = ap (λ (n : ℕ). inv.0 ++ take n rest) c.if-taken-eq0.true ∙ append-nil inv.0 in
    takes-beginning rest (takes-then {y = piece} inv.2 (record { moved = wrote.moved; known = wrote.bytes }))
    (inv.1 ∙ ap (λ (t : List ℕ). t ++ rest) (sym none))

pub returns-in_default-clause-begun : goal.returns-in_default-clause-begun
returns-in_default-clause-begun g c =
    let inv = c.loop-rest.invariant.taken in
    let failed = c.in_default.ensures in
    takes-beginning c.loop-rest.rest.now (takes-kept inv.2 failed.bytes (failed.moved ∙ append-nil _)) inv.1

pub returns-clause-begun : goal.returns-clause-begun
returns-clause-begun g c = search (rules, takes-beginning)
