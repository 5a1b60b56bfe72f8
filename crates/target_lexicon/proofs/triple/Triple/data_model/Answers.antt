use Rattle.target_lexicon.proofs.{MatchesLookup, subst}
use Rattle.target_lexicon.specs.Queries as spec
use Rattle.target_lexicon.proofs.triple.Triple.data_model.Goals as goal

pub returns : goal.returns
returns c =
    subst (λ t. MatchesLookup (spec.data_model t) c.data_model.result) c.without_vendor.ensures c.data_model.ensures
