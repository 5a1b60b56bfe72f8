use Rattle.triples.proofs.{end-one-way}
use Rattle.triples.proofs.laws.filters_end_one_way.Goals as goal

pub returns : goal.returns
returns c mode size input writer result fewer run =
    end-one-way mode size input writer fewer result run run.ends.by_result
