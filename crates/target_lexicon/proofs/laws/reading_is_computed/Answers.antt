use Rattle.target_lexicon.proofs.RoundTrips.Printing.Parsing.{reading_computed}
use Rattle.target_lexicon.proofs.laws.reading_is_computed.Goals as goal

pub returns : goal.returns
returns c = reading_computed
