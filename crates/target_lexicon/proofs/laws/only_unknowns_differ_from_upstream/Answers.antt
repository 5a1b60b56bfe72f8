use Rattle.target_lexicon.proofs.RoundTrips.Printing.{only_unknowns_differ}
use Rattle.target_lexicon.proofs.laws.only_unknowns_differ_from_upstream.Goals as goal

pub returns : goal.returns
returns c = only_unknowns_differ
