use Rattle.triples.proofs.{has-outcome, is_utf8, refl, run-of}
use Rattle.triples.proofs.laws.every_input_has_an_outcome.Goals as goal

pub returns : goal.returns
returns c mode text =
    let found = has-outcome c.every_string_has_one_outcome.ensures mode text (is_utf8 text) refl in
    (found.0, found.1, run-of mode text found.0 found.1 found.2)
