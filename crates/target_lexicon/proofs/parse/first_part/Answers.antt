use Rattle.target_lexicon.proofs.RoundTrips.Printing.Parsing.{parts_of-cut-at, parts_of-whole}
use Rattle.target_lexicon.proofs.{IsCharBoundary-after_ascii, IsUtf8, arith, get_or, rules, subst, ◌≡◌}
use Rattle.target_lexicon.proofs.parse.first_part.Goals as goal

pub range_from-requires : goal.range_from-requires
range_from-requires c _ =
    let dash : get_or c.args.text.now c.in-Some.at 0 ≡ 45 = search rules in
    IsCharBoundary-after_ascii _ _ (subst IsUtf8 c.as_bytes.ensures.value c.as_bytes.ensures.utf8) (search rules)
    (omega arith)

pub returns-in-Some-clause-parts : goal.returns-in-Some-clause-parts
returns-in-Some-clause-parts c =
    parts_of-cut-at c.args.text.now c.in-Some.at (search rules) (search rules) (search rules) c.range.result.now
    c.range_from.result.now c.range.ensures.value c.range_from.ensures.value

pub returns-in-None-clause-parts : goal.returns-in-None-clause-parts
returns-in-None-clause-parts c = parts_of-whole c.args.text.now (search rules)
