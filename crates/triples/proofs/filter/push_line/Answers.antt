use Rattle.triples.proofs.{refl, rules, too_long}
use Rattle.triples.proofs.filter.push_line.Goals as goal

pub returns-then-is_late : goal.returns-then-is_late
returns-then-is_late c = record { answer = too_long; is = rw c.if-is_late.true refl; pushed = c.put.ensures }

pub returns : goal.returns
returns c = search rules
