use Rattle.triples.proofs.{[], canonical_string, entries-staying, first-entry, some-entry, ◌∙◌}
use Rattle.triples.proofs.laws.each_canonical_triple_has_an_entry.Goals as goal

pub returns : goal.returns
returns c earlier back line answers are t reads =
    entries-staying (canonical_string t) [] answers
    ∙ first-entry (canonical_string t) answers
    (some-entry c.every_string_has_one_outcome.ensures line t reads earlier back answers are)
