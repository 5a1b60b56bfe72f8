use Rattle.target_lexicon.proofs.{rules, upstream_string_of}
use Rattle.target_lexicon.proofs.triple_ref.TripleRef.to_upstream_text.Goals as goal

pub returns : goal.returns
unfolding upstream_string_of
returns c = search rules
