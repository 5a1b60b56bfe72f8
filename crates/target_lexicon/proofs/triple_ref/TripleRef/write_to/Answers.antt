use Rattle.target_lexicon.proofs.{RoundTrips.Printing.text_with-short, rules, string_of}
use Rattle.target_lexicon.proofs.triple_ref.TripleRef.write_to.Goals as goal

pub write_to-requires : goal.write_to-requires
write_to-requires c = search (rules, text_with-short)

pub returns : goal.returns
unfolding string_of
returns c = search rules
