use Rattle.triples.proofs.{rules}
use Rattle.triples.proofs.request.request_named.Goals as goal

pub returns-in-Some : goal.returns-in-Some
returns-in-Some c = search rules

pub returns-in-Some-from_word : goal.returns-in-Some-from_word
returns-in-Some-from_word c = search rules

pub returns-in-None-from_word : goal.returns-in-None-from_word
returns-in-None-from_word c = search rules
