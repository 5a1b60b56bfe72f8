use Rattle.target_lexicon.proofs.RoundTrips.Printing.Parsing.{values_unique}
use Rattle.target_lexicon.proofs.{List, ParsesAs, ap, string_of, subst, sym, ℕ}
use Rattle.target_lexicon.proofs.laws.equal_texts_equal_triples.Goals as goal

pub returns : goal.returns
returns c = λ t u t_back u_back. (
  ap string_of,
  λ same. values_unique (string_of t) t u t_back
      (subst (λ (text : List ℕ). ParsesAs text u) (sym same) u_back),
)
