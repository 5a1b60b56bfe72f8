use Rattle.target_lexicon.proofs.RoundTrips.Printing.{canonical_max_growth, printed_max_growth, refused_does_not_grow}
use Rattle.target_lexicon.proofs.{arith}
use Rattle.target_lexicon.proofs.laws.printed_strings_grow_at_most.Goals as goal

pub returns : goal.returns
returns c = grind (arith, printed_max_growth, canonical_max_growth, refused_does_not_grow)
