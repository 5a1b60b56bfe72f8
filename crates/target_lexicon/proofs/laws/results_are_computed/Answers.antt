use Rattle.target_lexicon.proofs.{Err, List, None, Option, Refusal, Some, inl, inr, refl, refusal_of, values_of, ℕ, ◌≡◌}
use Rattle.target_lexicon.proofs.{IsRefusedAs, IsResultOf, MatchOption, MayAllocate, Ok, ParseError, ResultsAreComputed}
use Rattle.target_lexicon.{proofs.RoundTrips.Printing.Parsing.reading_computed, specs.GreedyReading.reading}
use Rattle.target_lexicon.proofs.laws.results_are_computed.Goals as goal

error-result : (text : List ℕ) (error : ParseError) (other : Option Refusal) → refusal_of error ≡ other
    → MatchOption other (MayAllocate text) (λ refusal. IsRefusedAs text refusal) → IsResultOf (reading text) (Err error)
error-result text error None is (inl (x, h)) = rw (((reading_computed text).refused x).0 h, is) tt
error-result text error None is (inr (t, h, custom)) = rw (((reading_computed text).read t).0 h) (is, custom)
error-result text error (Some x) is h = rw (((reading_computed text).refused x).0 h, is) refl

result : ResultsAreComputed
result text (Ok triple) ok err = rw (((reading_computed text).read (values_of triple)).0 ok) refl
result text (Err error) ok err = error-result text error (refusal_of error) refl err

pub returns : goal.returns
returns c = result
