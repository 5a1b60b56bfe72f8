-- The arms of the `match` are the lines of `step_of`: each case computes.
use Rattle.target_lexicon.proofs.{normal_step, rules}
use Rattle.target_lexicon.proofs.triple_ref.TripleRef.step.Goals as goal

pub returns-in-Some-PrintsAsSpecial-clause-step : goal.returns-in-Some-PrintsAsSpecial-clause-step
unfolding normal_step
returns-in-Some-PrintsAsSpecial-clause-step c = search rules

pub returns-in-Some-HidesNewlib-clause-step : goal.returns-in-Some-HidesNewlib-clause-step
unfolding normal_step
returns-in-Some-HidesNewlib-clause-step c = search rules

pub returns-in-Some-PrintsTheEspIdfString-clause-step : goal.returns-in-Some-PrintsTheEspIdfString-clause-step
unfolding normal_step
returns-in-Some-PrintsTheEspIdfString-clause-step c = search rules

pub returns-in-Some-ShowsOnlyNone-clause-step : goal.returns-in-Some-ShowsOnlyNone-clause-step
unfolding normal_step
returns-in-Some-ShowsOnlyNone-clause-step c = search rules

pub returns-in-Some-VendorIsNotPlain-clause-step : goal.returns-in-Some-VendorIsNotPlain-clause-step
unfolding normal_step
returns-in-Some-VendorIsNotPlain-clause-step c = search rules

pub returns-in-None-clause-step : goal.returns-in-None-clause-step
unfolding normal_step
returns-in-None-clause-step c = search rules
