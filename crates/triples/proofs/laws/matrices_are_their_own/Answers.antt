use Rattle.triples.proofs.{matrices_are_their_own, rules}
use Rattle.triples.proofs.laws.matrices_are_their_own.Goals as goal

pub returns : goal.returns
returns c = search (rules, matrices_are_their_own)
