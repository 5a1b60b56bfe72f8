use Rattle.target_lexicon.proofs.RoundTrips.Printing.Parsing.{placement_least, placement_prefix}
use Rattle.target_lexicon.proofs.laws.one_least_placement.Goals as goal

pub returns : goal.returns
returns c = λ parts some. (placement_least parts some, λ n. placement_least _ (placement_prefix n parts some))
