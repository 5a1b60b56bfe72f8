use Rattle.target_lexicon.proofs.{MatchesLookup, subst}
use Rattle.target_lexicon.specs.Queries as spec
use Rattle.target_lexicon.proofs.triple.Triple.pointer_width.Goals as goal

pub returns-clause-answer : goal.returns-clause-answer
returns-clause-answer c =
    subst (λ t. MatchesLookup (spec.pointer_width t) c.pointer_width.result) c.without_vendor.ensures
    c.pointer_width.ensures.answer
