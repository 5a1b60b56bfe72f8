use Rattle.target_lexicon.proofs.RoundTrips.Printing.{read_plain}
use Rattle.target_lexicon.proofs.laws.read_vendors_are_plain.Goals as goal

pub returns : goal.returns
returns c = read_plain
