use Rattle.target_lexicon.proofs.{RoundTrips.Printing.read_in_range, RoundTrips.Printing.read_plain, arith}
use Rattle.target_lexicon.proofs.laws.read_triples_are_plain.Goals as goal

pub returns : goal.returns
returns c = grind (arith, read_plain, read_in_range)
