-- Two errors are equal if both expected the same field and have the same part, or if both are out of memory.
use Rattle.target_lexicon.proofs.{Decides, Field, List, Option, Refusal, Some, [], ap, bytes_eq, refl, ℕ, ◌≡◌}
use Rattle.target_lexicon.proofs.{Decides-like, bytes_eq-Decides, false≢true, option_map, option_map_or, refusal_with}
use Rattle.target_lexicon.specs.declared.parse_error.ParseError.TheVariants as error
use Rattle.target_lexicon.proofs.laws.errors_are_equal_by_value.Goals as goal

abbrev part_of : Option Refusal → List ℕ
part_of refusal = option_map_or (λ r. r.part) refusal []

abbrev expected_of : Option Refusal → Option (Option Field)
expected_of refusal = option_map (λ r. r.expected) refusal

same_part : (expected : Option Field) (p q : List ℕ)
    → Decides (bytes_eq p q) (Some (refusal_with expected p) ≡ Some (refusal_with expected q))
same_part expected p q =
    Decides-like _ (ap (λ part. Some (refusal_with expected part))) (ap part_of) (bytes_eq-Decides p q)

pub returns : goal.returns
returns c (error.UnrecognizedArchitecture p) (error.UnrecognizedArchitecture q) = same_part _ _ _
returns c (error.UnrecognizedVendor p) (error.UnrecognizedVendor q) = same_part _ _ _
returns c (error.UnrecognizedOperatingSystem p) (error.UnrecognizedOperatingSystem q) = same_part _ _ _
returns c (error.UnrecognizedEnvironment p) (error.UnrecognizedEnvironment q) = same_part _ _ _
returns c (error.UnrecognizedBinaryFormat p) (error.UnrecognizedBinaryFormat q) = same_part _ _ _
returns c (error.UnrecognizedField p) (error.UnrecognizedField q) = same_part _ _ _
returns c error.OutOfMemory error.OutOfMemory = (λ _. refl, λ _. refl)
returns c _ _ = (λ same. absurd (false≢true same), λ same. absurd (let same_field = ap expected_of same in cc))
