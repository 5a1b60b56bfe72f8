-- The elements of a JSON array that have been parsed so far.
use Rattle.target_lexicon.proofs.{All, List, Some, map, refl, rules, suc, take, view, zero, ℕ, ◌++◌, ◌+◌, ◌<◌, ◌∷◌, ◌≡◌}
use Rattle.target_lexicon.proofs.{All-append, JsonParsesAs, MatchOption, common_steps, get_item, items_view, map-append}
use Rattle.target_lexicon.proofs.{ElementsParseAs, IsElementParsed, IsFirstError, IsJsonErrorOf, JsonErrorValue, Option}
use Rattle.target_lexicon.proofs.{Items, Triple, Value, Values, [], add-one, arith, get_or, length, take_all, values_of}
use Rattle.target_lexicon.proofs.{◌≤◌}

-- an element of an array, by its index
get_item-view : (xs : List Value) (i : ℕ) (x : Value) → i < length xs
    → Some (view (get_or xs i x)) ≡ get_item i (items_view xs)
get_item-view [] i x within = absurd (omega arith)
get_item-view (y ∷ ys) zero x within = refl
get_item-view (y ∷ ys) (suc i) x within = get_item-view ys i x (omega arith)

-- a fact about the elements of an array is one about the value
pub at_array : (P : Items → Type 0) (elements : Option Items) (xs ys : List Value) → Some (items_view xs) ≡ elements
    → ys ≡ xs → P (items_view ys)
    → MatchOption elements ⊥ P
at_array P elements xs ys found same holds = search rules

-- one more element parses
read-more : (xs : List Value) (i : ℕ) (x : Value) (ts : List Values) (t : Values) → i < length xs
    → ElementsParseAs (items_view (take i xs)) ts → JsonParsesAs (view (get_or xs i x)) t
    → ElementsParseAs (items_view (take (suc i) xs)) (ts ++ t ∷ [])
read-more [] i x ts t within read reads = absurd (omega arith)
read-more (y ∷ ys) zero x [] t within read reads = (reads, tt)
read-more (y ∷ ys) (suc i) x (u ∷ us) t within read reads = (read.0, read-more ys i x us t (omega arith) read.1 reads)
read-more _ _ x _ t within read reads = absurd read

pub elements_read-more : (xs : List Value) (i : ℕ) (x : Value) (old new : List Triple) (t : Triple) → i < length xs
    → x ≡ get_or xs i x → new ≡ old ++ t ∷ []
    → ElementsParseAs (items_view (take i xs)) (map values_of old) → JsonParsesAs (view x) (values_of t)
    → ElementsParseAs (items_view (take (i + 1) xs)) (map values_of new)
elements_read-more xs i x old new t within is grown read reads = search (rules, add-one, map-append, read-more)

-- each earlier element parses
read-before : (xs : List Value) (i : ℕ) (ts : List Values) (k : ℕ) → k < i → i ≤ length xs
    → ElementsParseAs (items_view (take i xs)) ts
    → IsElementParsed (items_view xs) k
read-before [] i ts k before within read = absurd (omega arith)
read-before (y ∷ ys) zero ts k before within read = absurd (omega arith)
read-before (y ∷ ys) (suc i) [] k before within read = absurd read
read-before (y ∷ ys) (suc i) (u ∷ us) zero before within read = (u, read.0)
read-before (y ∷ ys) (suc i) (u ∷ us) (suc k) before within read =
    read-before ys i us k (omega arith) (omega arith) read.1

-- the element at i is the first that doesn't parse
pub elements_refused : (xs : List Value) (i : ℕ) (x : Value) (ts : List Values) (error : JsonErrorValue) → i < length xs
    → x ≡ get_or xs i x
    → ElementsParseAs (items_view (take i xs)) ts → IsJsonErrorOf (view x) error → IsFirstError (items_view xs) i error
elements_refused xs i x ts error within is read refused = search (rules, get_item-view, read-before)

-- if one more element parses, the first element parses
pub elements_begun : (xs : List Value) (i : ℕ) (x : Value) (ts : List Values) (t : Values) → i < length xs
    → x ≡ get_or xs i x
    → ElementsParseAs (items_view (take i xs)) ts → JsonParsesAs (view x) t → IsElementParsed (items_view xs) 0
elements_begun xs i x ts t within is read reads = grind (arith, common_steps)

-- a fact about each triple so far, and about one more, is one about each
all-one : (P : Triple → Type 0) (t : Triple) → P t → All P (t ∷ [])
all-one P t here is d within = search rules

pub all_triples-more : (P : Triple → Type 0) (old new : List Triple) (t : Triple) → new ≡ old ++ t ∷ [] → All P old
    → P t → All P new
all_triples-more P old new t grown all here = rw grown (All-append P old (t ∷ []) all (all-one P t here))

-- all elements parse if those before the end do
pub elements_read : (xs : List Value) (i : ℕ) (ts : List Values) → length xs ≤ i
    → ElementsParseAs (items_view (take i xs)) ts → ElementsParseAs (items_view xs) ts
elements_read xs i ts whole read = rw (take_all i xs whole) at read
