use Rattle.target_lexicon.proofs.{has_written_styled_append, has_written_styled_of_eq, rules}
use Rattle.target_lexicon.proofs.parse_error.ParseErrorDisplay.fmt.Goals as goal

pub returns-in_ok-write_str-in-Some-clause-styled : goal.returns-in_ok-write_str-in-Some-clause-styled
returns-in_ok-write_str-in-Some-clause-styled g c = search (rules, has_written_styled_of_eq, has_written_styled_append)
