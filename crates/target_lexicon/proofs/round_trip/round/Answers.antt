-- The printed string is that of the triple, so each clause follows from `from_str` and a clause of
-- `round_trips_are_known`.
use Rattle.target_lexicon.proofs.RoundTrips.{error-refusal, read-fixed, read-step, refused-vendor, step-queries}
use Rattle.target_lexicon.proofs.RoundTrips.{step-back}
use Rattle.target_lexicon.proofs.{IfErr-weaker, IfOk-weaker, refl, refusal_of, rules, string_of, values_of, ◌∙◌, ◌≡◌}
use Rattle.target_lexicon.proofs.round_trip.round.Goals as goal

printed : (c : goal.After-drop-text) → c.deref.result.now ≡ string_of (values_of c.args.triple.now)
printed c = c.deref.ensures ∙ c.in_ok-text.ensures

pub returns-clause-read : goal.returns-clause-read
returns-clause-read c = rw (printed c) at c.from_str.ensures.ok

pub returns-clause-step : goal.returns-clause-step
returns-clause-step c plain =
    let read = returns-clause-read c in let laws = c.round_trips_are_known.ensures in
    search (rules, read-step)

pub returns-clause-queries : goal.returns-clause-queries
returns-clause-queries c plain =
    let step = returns-clause-step c plain in let laws = c.round_trips_are_known.ensures in
    search (rules, step-queries)

pub returns-clause-back : goal.returns-clause-back
returns-clause-back c plain =
    let step = returns-clause-step c plain in let laws = c.round_trips_are_known.ensures in
    search (rules, step-back)

pub returns-clause-fixed : goal.returns-clause-fixed
returns-clause-fixed c = IfOk-weaker c.from_str.result _ _
    (λ it reads. read-fixed c.round_trips_are_known.ensures.texts c.round_trips_are_known.ensures.fixed
    _ _ c.versions_are_in_range.ensures reads) (returns-clause-read c)

pub returns-clause-err : goal.returns-clause-err
returns-clause-err c =
    IfErr-weaker c.from_str.result _ _ (λ error is. error-refusal _ _ error (printed c) is) c.from_str.ensures.err

pub returns-clause-refused : goal.returns-clause-refused
returns-clause-refused c = IfErr-weaker c.from_str.result _ _
    (λ error is. refused-vendor c.round_trips_are_known.ensures.texts c.round_trips_are_known.ensures.round _ _ refl
    c.versions_are_in_range.ensures (refusal_of error) is) (returns-clause-err c)
