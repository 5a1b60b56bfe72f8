use Rattle.triples.proofs.run.conclude.Goals as goal

pub returns-in-None-clause-begun : goal.returns-in-None-clause-begun
returns-in-None-clause-begun g c = rw c.in-None.is c.write_line-in-None.ensures.begun
