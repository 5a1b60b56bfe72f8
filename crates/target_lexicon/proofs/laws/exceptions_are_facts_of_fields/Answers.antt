use Rattle.target_lexicon.proofs.RoundTrips.Printing.{exceptions_are_facts}
use Rattle.target_lexicon.proofs.laws.exceptions_are_facts_of_fields.Goals as goal

pub returns : goal.returns
returns c = exceptions_are_facts
