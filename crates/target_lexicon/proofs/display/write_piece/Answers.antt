use Rattle.target_lexicon.proofs.{has_written_styled_append, rules}
use Rattle.target_lexicon.proofs.display.write_piece.Goals as goal

pub returns-in_ok-write_str-in-Some : goal.returns-in_ok-write_str-in-Some
returns-in_ok-write_str-in-Some g c = λ flush ok.
    let dash = c.write_str.ensures.styled flush (search rules) in
    rw c.in-Some.is (has_written_styled_append _ _ _ _ _ _ dash (c.write_str-in-Some.ensures.styled dash.flush ok))
