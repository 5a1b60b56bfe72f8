-- Two explanations are equal if their outcomes and all five sources are, and each of these comparisons decides
-- equality.
use Rattle.target_lexicon.proofs.{Bool, Decides, Decides-and, IsTrue, Result, SourceValues, result_eq, rules, ◌&&◌, ◌↔◌}
use Rattle.target_lexicon.proofs.{Decides-like, TripleRef, placed_outcome, placed_refusal, source_values, values_of_ref}
use Rattle.target_lexicon.{proofs.◌≡◌, specs.declared.refusal.Refusal.Refusal}
use Rattle.target_lexicon.proofs.laws.explanations_are_equal_by_value.Goals as goal

same_sources : (s t : SourceValues) → s.architecture ≡ t.architecture → s.vendor ≡ t.vendor
    → s.operating_system ≡ t.operating_system
    → s.environment ≡ t.environment → s.binary_format ≡ t.binary_format → s ≡ t
same_sources s t a v o e f = λ i. source_values (a i) (v i) (o i) (e i) (f i)

sources-Decides : (s t : SourceValues) (a v o e f : Bool) → Decides a (s.architecture ≡ t.architecture)
    → Decides v (s.vendor ≡ t.vendor) → Decides o (s.operating_system ≡ t.operating_system)
    → Decides e (s.environment ≡ t.environment) → Decides f (s.binary_format ≡ t.binary_format)
    → Decides (a && (v && (o && (e && f)))) (s ≡ t)
sources-Decides s t a v o e f is_a is_v is_o is_e is_f = search (rules, same_sources, Decides-and, Decides-like)

pub returns-clause-source : goal.returns-clause-source
returns-clause-source c = search rules

pub returns-clause-sources : goal.returns-clause-sources
returns-clause-sources c x y =
    let source = returns-clause-source c in
    sources-Decides _ _ _ _ _ _ _ (source _ _) (source _ _) (source _ _) (source _ _) (source _ _)

module _ (eq_triple : TripleRef → TripleRef → Bool) (eq_refusal : Refusal → Refusal → Bool)
    (triples : (x y : TripleRef) → IsTrue (eq_triple x y) ↔ (values_of_ref x ≡ values_of_ref y))
    (refusals : (x y : Refusal) → IsTrue (eq_refusal x y) ↔ (placed_refusal x ≡ placed_refusal y)) where
  outcomes : (x y : Result TripleRef Refusal) → IsTrue (result_eq eq_triple eq_refusal x y)
      ↔ (placed_outcome x ≡ placed_outcome y)
  outcomes x y = search (rules, Decides-like)

pub returns-clause-explanation : goal.returns-clause-explanation
returns-clause-explanation c x y =
    Decides-and _ _ (outcomes _ _ c.triple_refs_are_equal_by_value.ensures c.refusals_are_equal_by_value.ensures
    x.triple y.triple)
    (returns-clause-sources c x.sources y.sources)
