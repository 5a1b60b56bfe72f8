-- Names, and the lists of names by which strings parse as values.
use Rattle.std.specs.Prelude.{◌≡◌, ℕ, List, [], ◌∷◌, ◌==◌, Bool, not, Option, Some, None, Result, MatchResult}
use Rattle.std.specs.Prelude.{if◌then◌else◌, map}
use Rattle.std.specs.List.{list_any}
use Rattle.std.specs.Str.{bytes_eq}

-- a string, and the value that it parses as
abbrev pub Pair : Type 0 → Type 0
Pair V = List ℕ × V

-- each value with its name
abbrev pub named_values : {V : Type 0} → (V → List ℕ) → List V → List (Pair V)
named_values name values = map (λ v. (name v, v)) values

-- the value of the first pair with this string
abbrev pub value_named : {V : Type 0} → List (Pair V) → List ℕ → Option V
value_named [] text = None
value_named (pair ∷ pairs) text = if bytes_eq text pair.0 then Some pair.1 else value_named pairs text

-- the result is the value that the look-up gives, and an error if it gives none
abbrev pub MatchesLookup : {V E : Type 0} → Option V → Result V E → Type 0
MatchesLookup known answer = MatchResult answer (λ v. known ≡ Some v) (λ _. known ≡ None)

-- the byte between two fields of a triple
abbrev pub dash : ℕ
dash = 45

-- whether no byte of a string is a dash, which separates the fields of a triple
abbrev pub is_dash_free : List ℕ → Bool
is_dash_free text = not (list_any (λ b. b == dash) text)
