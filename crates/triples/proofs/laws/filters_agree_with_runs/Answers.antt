use Rattle.triples.proofs.{filters_agree_with_runs}
use Rattle.triples.proofs.laws.filters_agree_with_runs.Goals as goal

pub returns : goal.returns
returns c = filters_agree_with_runs
