use Rattle.triples.proofs.{input_error, read-some, rules}
use Rattle.triples.proofs.json.json_output.Goals as goal

pub returns-in_err-output-clause-err : goal.returns-in_err-output-clause-err
returns-in_err-output-clause-err c = search (rules, input_error)

pub returns-in_err-push-clause-err : goal.returns-in_err-push-clause-err
returns-in_err-push-clause-err c = search (rules, read-some)

pub returns-in-Err-clause-err : goal.returns-in-Err-clause-err
returns-in-Err-clause-err c = c.in-Err.ensures.err (λ is. let memory = c.if-is_memory.ensures.1 is in absurd cc)
