use Rattle.target_lexicon.proofs.{IfErr-weaker, RoundTrips.Printing.read_plain, rules, sources_of}
use Rattle.target_lexicon.proofs.triple_ref.TripleRef.from_str.Goals as goal

pub returns-clause-plain : goal.returns-clause-plain
returns-clause-plain c = search (rules, read_plain)

pub returns-clause-refused : goal.returns-clause-refused
returns-clause-refused c = IfErr-weaker c.explain.result.triple _ _
    (λ it refused. (sources_of c.explain.result.sources, refused)) c.explain.ensures.refused
