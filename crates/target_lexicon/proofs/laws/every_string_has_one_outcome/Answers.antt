use Rattle.target_lexicon.proofs.RoundTrips.Printing.Parsing.{one_outcome}
use Rattle.target_lexicon.proofs.laws.every_string_has_one_outcome.Goals as goal

pub returns : goal.returns
returns c = one_outcome
