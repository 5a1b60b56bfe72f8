use Rattle.target_lexicon.proofs.{has_written_styled_append, has_written_styled_of_eq, put_two, rules}
use Rattle.target_lexicon.proofs.refusal.RefusalDisplay.fmt.Goals as goal

pub returns-clause-styled : goal.returns-clause-styled
returns-clause-styled g c = search (rules, has_written_styled_of_eq, has_written_styled_append)

pub returns-clause-writes : goal.returns-clause-writes
returns-clause-writes g c = search (rules, put_two)
