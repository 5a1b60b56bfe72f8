use Rattle.target_lexicon.proofs.{rules, string_of}
use Rattle.target_lexicon.proofs.display.TripleRefDisplay.fmt.Goals as goal

pub returns-clause-writes : goal.returns-clause-writes
unfolding string_of
returns-clause-writes c = search rules

pub returns-clause-styled : goal.returns-clause-styled
unfolding string_of
returns-clause-styled c = search rules
