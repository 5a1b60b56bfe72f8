use Rattle.triples.proofs.{failures-exact, IsJudged, judge, judged, List, ℕ}
use Rattle.triples.specs.declared.run_error.RunError.TheVariants as run_error
use Rattle.triples.proofs.laws.errors_of_runs_are_exact.Goals as goal

pub returns : goal.returns
returns c mode reader writer result ends =
    let exactly = λ (text : List ℕ) (it : IsJudged reader result text). judge mode reader writer text ends.output result
    (judged mode reader writer result text ends it) it.read_unfailed it.memory in
    let failures = failures-exact mode reader writer ends.input ends.output result ends.by_result in
    record {
      read = failures.0;
      write = failures.1;
      not_utf8 = λ text it. exactly text it run_error.NotUtf8 (λ bad. cc);
      not_json = λ text it. exactly text it run_error.NotJson (λ bad. cc);
      not_list = λ text it. exactly text it run_error.NotList (λ bad. cc);
    }
