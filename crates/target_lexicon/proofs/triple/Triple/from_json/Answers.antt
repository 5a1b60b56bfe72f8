use Rattle.target_lexicon.proofs.triple.Triple.from_json.Goals as goal

pub returns-in-Err-clause-err : goal.returns-in-Err-clause-err
returns-in-Err-clause-err c = rw (← c.in-Some.ensures) c.in-Err.ensures.err
