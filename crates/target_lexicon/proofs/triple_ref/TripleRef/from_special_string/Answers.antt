use Rattle.target_lexicon.proofs.{rules, special_values}
use Rattle.target_lexicon.proofs.triple_ref.TripleRef.from_special_string.Goals as goal

-- written by tools/names/write: each arm of the triples of special strings
pub returns-in-text : goal.returns-in-text
unfolding special_values
returns-in-text c = search rules

pub returns-in-text-2 : goal.returns-in-text-2
unfolding special_values
returns-in-text-2 c = search rules

-- end of what is written

pub returns-in_default : goal.returns-in_default
unfolding special_values
returns-in_default c = search rules
