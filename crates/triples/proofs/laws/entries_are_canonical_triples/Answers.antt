use Rattle.triples.proofs.{entries_are_canonical_triples, rules}
use Rattle.triples.proofs.laws.entries_are_canonical_triples.Goals as goal

pub returns : goal.returns
returns c = search (rules, entries_are_canonical_triples)
