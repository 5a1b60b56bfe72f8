use Rattle.target_lexicon.proofs.{has_written_styled_append, has_written_styled_of_eq, rules}
use Rattle.target_lexicon.proofs.list_error.write_element.Goals as goal

pub returns : goal.returns
returns g c = λ flush ok.
    let prefix = c.write_str.ensures.styled flush (search rules) in
    let i = rw c.decimal_text.ensures at (c.write_str-2.ensures.styled prefix.flush (search rules)) in
    let colon = c.write_str-3.ensures.styled i.flush (search rules) in
    let line = c.fmt.ensures.styled colon.flush ok in
    search (rules, has_written_styled_of_eq, has_written_styled_append)
