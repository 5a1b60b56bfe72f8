use Rattle.target_lexicon.proofs.RoundTrips.{Printing.Parsing.values_unique, second_changes_none, step-back}
use Rattle.target_lexicon.proofs.{sym, ◌∙◌}
use Rattle.target_lexicon.proofs.triple.Triple.settle.Goals as goal

pub returns-clause-steps : goal.returns-clause-steps
returns-clause-steps c = c.normal.ensures.step ∙ sym (second_changes_none _)

pub returns-clause-back : goal.returns-clause-back
returns-clause-back c = step-back second_changes_none c.canonical_strings_are_keys.ensures _ _ c.requires
    c.versions_are_in_range.ensures c.normal.ensures.step

pub returns-clause-stays : goal.returns-clause-stays
returns-clause-stays c = values_unique _ _ _ c.normal.ensures.round
