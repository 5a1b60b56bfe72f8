-- Each iteration adds the entry of the first line that is left.
use Rattle.triples.proofs.{common_steps}
use Rattle.triples.proofs.{lines_left-none, lines_left-some, matrix-more, matrix-none, matrix-whole, none-seen, rules}
use Rattle.triples.proofs.matrix.matrix.Goals as goal

pub loop-line-init : goal.loop-line-init
loop-line-init c = search (rules, matrix-none, common_steps, none-seen)

pub loop-line-preserved : goal.loop-line-preserved
loop-line-preserved c =
    let next = lines_left-some c.loop-line.line-iterator c.next.new.self c.in-Some.line c.loop-line.invariant.pattern
    c.in-Some.ensures.steps in search (rules, matrix-more, next)

pub returns-clause-output : goal.returns-clause-output
returns-clause-output c =
    let inv = c.loop-line.invariant in
    matrix-whole (lines_left-none c.loop-line.line-iterator c.next.new.self inv.pattern c.in-None.ensures.steps)
    inv.so_far
