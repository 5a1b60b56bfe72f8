use Rattle.triples.proofs.{get_or-take, length-take, rules}
use Rattle.triples.proofs.filter.line_end.Goals as goal

pub loop-i-init : goal.loop-i-init
loop-i-init c k less is = search (rules, get_or-take, length-take)
