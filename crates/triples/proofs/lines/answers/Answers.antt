-- Each iteration answers the first line that is left.
use Rattle.triples.proofs.{common_steps}
use Rattle.triples.proofs.{lines_left-none, lines_left-some, rules, so-far-more, so-far-none, so-far-whole}
use Rattle.triples.proofs.lines.answers.Goals as goal

pub loop-line-init : goal.loop-line-init
loop-line-init c = search (rules, so-far-none, common_steps)

pub loop-line-preserved : goal.loop-line-preserved
loop-line-preserved c = search (rules, so-far-more, lines_left-some)

pub returns-clause-output : goal.returns-clause-output
returns-clause-output c = search (rules, so-far-whole, lines_left-none)
