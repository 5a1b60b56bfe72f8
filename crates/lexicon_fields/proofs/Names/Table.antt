-- The table of names: its strings are in order, and so are their keys; what an index into it gives; the rows that a
-- binary search compares.
pub mod Common
unfoldable pub use Common.*
use Rattle.std.proofs.lemmas.Map.{Keys.Less-from_sorted, Keys.sorted_from_all_adjacent, Text.is_eq-slice_cmp}
use Rattle.std.proofs.lemmas.{List.Sums.AllPass-from_list_all, Option.get_or_from_slice_get, Option.slice_get-get_or}
use Rattle.std.proofs.lemmas.{Bool.cases_Bool, Cmp.nat_list_cmp_total, Grind.common_steps, List.get_or-map}
use Rattle.lexicon_fields.specs.{Private.values_meant, declared.table.Meaning.Meaning, declared.table.TheConstants.KEYS}
use Rattle.std.specs.{Int.from_be_bytes, List.Sorted.IsStrictlySortedBy, Ordering.is_eq, Ordering.ordering_reverse}
use Rattle.lexicon_fields.specs.Search.{search_steps, steps_after, steps_among}
use Rattle.std.proofs.Math.{ListN.get_or-map as mapped, Nat.mul-le-mul_right, Nat.pow-suc}
use Rattle.std.specs.{List.list_any, Ordering.is_lt}

-- ---- The strings of the rows: they are in strictly increasing order, and which strings are among them.

pub length-row_texts : length row_texts ≡ row_count
unfolding row_texts
length-row_texts = refl

-- row i is the same whatever is read past the end
pub row_text-default : (i : ℕ) (d : List ℕ) → i < row_count → get_or row_texts i d ≡ row_text i
row_text-default i d below = search (rules, get_or_from_slice_get, slice_get-get_or, length-row_texts)

-- each string precedes the next one

abbrev is_rising : List (List ℕ) → Bool
is_rising (x ∷ y ∷ texts) = is_lt (slice_cmp nat_cmp x y) && is_rising (y ∷ texts)
is_rising _ = true

rises : (texts : List (List ℕ)) (k : ℕ) → is_rising texts ≡ true → k + 1 < length texts
    → slice_cmp nat_cmp (get_or texts k []) (get_or texts (k + 1) []) ≡ Less
rises (x ∷ y ∷ texts) zero rising below = search (rules, and_parts)
rises (x ∷ y ∷ texts) (suc k) rising below = search (rules, arith, and_parts, (rises (y ∷ texts) k))
rises _ k rising below = search (rules, arith)

pub row_texts_sorted : IsStrictlySortedBy (slice_cmp nat_cmp) row_texts
unfolding row_texts
row_texts_sorted = sorted_from_all_adjacent nat_list_cmp_total row_texts [] (λ k. rises row_texts k refl)

row_less : (i j : ℕ) → i < j → j < row_count → slice_cmp nat_cmp (row_text i) (row_text j) ≡ Less
row_less i j lt below =
    Less-from_sorted (slice_cmp nat_cmp) row_texts i j [] row_texts_sorted lt (omega (arith, length-row_texts))

slice_cmp-reverse : (x y : List ℕ) (o : Ordering) → slice_cmp nat_cmp x y ≡ o
    → slice_cmp nat_cmp y x ≡ ordering_reverse o
slice_cmp-reverse x y o h = nat_list_cmp_total.antisymm y x ∙ ap ordering_reverse h

-- a row that precedes a string is not the string's, nor is any earlier row
pub no_row-below : (middle : ℕ) (s : List ℕ) → middle < row_count → slice_cmp nat_cmp (row_text middle) s ≡ Less
    → (k : ℕ) → k < middle + 1 → row_text k ≢ s
no_row-below middle s below is k lt same = grind (arith, row_less, slice_cmp-reverse, nat_list_cmp_total.antisymm)

-- a row that follows a string is not the string's, nor is any later row
pub no_row-above : (middle : ℕ) (s : List ℕ) → slice_cmp nat_cmp (row_text middle) s ≡ Greater → (k : ℕ) → middle ≤ k
    → k < row_count → row_text k ≢ s
no_row-above middle s is k ge below same = grind (arith, row_less, slice_cmp-reverse, nat_list_cmp_total.antisymm)

-- whether a string is that of a row
unfoldable pub is_row : List ℕ → Bool
is_row s = list_any (bytes_eq s) row_texts

-- a test that all strings of a list pass holds for each string that is one of them
pub any_passes : (test : List ℕ → Bool) (s : List ℕ) (texts : List (List ℕ)) → list_all test texts ≡ true
    → list_any (bytes_eq s) texts ≡ true → test s ≡ true
any_passes test s [] all found = absurd cc
any_passes test s (text ∷ texts) all found =
    search (rules, and_parts, cases_Bool, bytes_eq-Decides, (any_passes test s texts))

pub row_text-dash_free : (s : List ℕ) → is_row s ≡ true → is_dash_free s ≡ true
unfolding is_row row_texts
row_text-dash_free s found = any_passes is_dash_free s row_texts refl found

-- a row that compares equal to a string has that string
pub row_text-is : (i : ℕ) (s : List ℕ) → slice_cmp nat_cmp (row_text i) s ≡ Equal → row_text i ≡ s
row_text-is i s same = (bytes_eq-Decides (row_text i) s).0 (sym (is_eq-slice_cmp (row_text i) s) ∙ ap is_eq same)

-- ---- Prefix keys are ordered as their strings are.

abbrev pub AreBytes : List ℕ → Type 0
AreBytes s = (i : ℕ) → get_or s i 0 < 256

-- the key is below a power of 256
pub prefix_key_below : (k : ℕ) (s : List ℕ) → AreBytes s → prefix_key_of k s < 256 ^ k
prefix_key_below zero s h = omega arith
prefix_key_below (suc k) [] h = omega (arith, pow-suc 256 k, prefix_key_below k [] (λ i. omega arith))
prefix_key_below (suc k) (x ∷ xs) h =
    grind (arith, (pow-suc 256 k), (h 0), (prefix_key_below k xs (λ i. h (suc i))), mul-le-mul_right)

-- of two strings the one with the smaller first byte has the smaller key
first_byte_decides : (k x y : ℕ) (xs ys : List ℕ) → AreBytes xs → x < y
    → prefix_key_of (suc k) (x ∷ xs) < prefix_key_of (suc k) (y ∷ ys)
first_byte_decides k x y xs ys h less = search (rules, prefix_key_below, mul-le-mul_right)

-- the string with the smaller key comes first
pub less_by_key : (k : ℕ) (a b : List ℕ) → AreBytes a → AreBytes b → prefix_key_of k a < prefix_key_of k b
    → slice_cmp nat_cmp a b ≡ Less
less_by_key (suc k) [] (y ∷ ys) _ _ h = refl
less_by_key (suc k) (x ∷ xs) (y ∷ ys) p q h =
    let other = first_byte_decides k y x ys xs (λ i. q (suc i)) in
    let same = less_by_key k xs ys (λ i. p (suc i)) (λ i. q (suc i)) in
    grind arith
less_by_key k a b _ _ h = search (rules, arith)

pub greater_by_key : (k : ℕ) (a b : List ℕ) → AreBytes a → AreBytes b → prefix_key_of k b < prefix_key_of k a
    → slice_cmp nat_cmp a b ≡ Greater
greater_by_key k a b p q h = nat_list_cmp_total.antisymm a b ∙ ap ordering_reverse (less_by_key k b a q p h)

-- strings with the same key begin with the same byte, and what follows it has the same key
same_heads : (k : ℕ) (x y : ℕ) (xs ys : List ℕ) → AreBytes (x ∷ xs) → AreBytes (y ∷ ys)
    → prefix_key_of (suc k) (x ∷ xs) ≡ prefix_key_of (suc k) (y ∷ ys)
    → (x ≡ y) × (prefix_key_of k xs ≡ prefix_key_of k ys)
same_heads k x y xs ys p q h =
    let less = first_byte_decides k x y xs ys (λ i. p (suc i)) in
    let more = first_byte_decides k y x ys xs (λ i. q (suc i)) in
    grind arith

-- of two strings with the same key, not both of more than that many bytes, the shorter comes first
pub order_of_same_key : (k : ℕ) (a b : List ℕ) → AreBytes a → AreBytes b → (k < length a → k < length b → ⊥)
    → prefix_key_of k a ≡ prefix_key_of k b
    → slice_cmp nat_cmp a b ≡ nat_cmp (length a) (length b)
order_of_same_key k [] [] _ _ _ h = grind arith
order_of_same_key k [] (y ∷ ys) _ _ _ h = grind arith
order_of_same_key k (x ∷ xs) [] _ _ _ h = grind arith
order_of_same_key zero (x ∷ xs) (y ∷ ys) _ _ n h = absurd (n (omega arith) (omega arith))
order_of_same_key (suc k) (x ∷ xs) (y ∷ ys) p q n h =
    grind (arith, same_heads, (order_of_same_key k xs ys (λ i. p (suc i)) (λ i. q (suc i))))

-- two strings with the same key, of at least that many bytes, are ordered as what follows these
pub order_of_rests : (k : ℕ) (a b : List ℕ) → AreBytes a → AreBytes b → k ≤ length a → k ≤ length b
    → prefix_key_of k a ≡ prefix_key_of k b
    → slice_cmp nat_cmp a b ≡ slice_cmp nat_cmp (drop k a) (drop k b)
order_of_rests zero a b _ _ _ _ h = refl
order_of_rests (suc k) (x ∷ xs) (y ∷ ys) p q m n h =
    grind (arith, same_heads, (order_of_rests k xs ys (λ i. p (suc i)) (λ i. q (suc i))))
order_of_rests (suc k) a b _ _ m n h = search (rules, arith)

-- the key of four to eight bytes, from the first four and the last four; bytes in both are shifted out of the last
pub prefix_key_of_ends : (s head tail : List ℕ) (x y : ℕ) → AreBytes s → 4 ≤ length s → length s ≤ 8 → head ≡ take 4 s
    → tail ≡ drop (length s - 4) s
    → x ≡ from_be_bytes w32 head → y ≡ from_be_bytes w32 tail
    → x * 4294967296 + y * 2 ^ (64 - 8 * length s) % 18446744073709551616 % 4294967296 ≡ prefix_key_of 8 s
prefix_key_of_ends s head tail x y h some few first last number rest =
    rw (number, rest, first, last) (by_length s h some few)
  where
    by_length : (s : List ℕ) → AreBytes s → 4 ≤ length s → length s ≤ 8
        → from_be_bytes w32 (take 4 s) * 4294967296 + from_be_bytes w32 (drop (length s - 4) s) * 2
        ^ (64 - 8 * length s) % 18446744073709551616 % 4294967296 ≡ prefix_key_of 8 s
    by_length (a ∷ b ∷ c ∷ d ∷ []) h some few = omega (arith, h 0, h 1, h 2, h 3)
    by_length (a ∷ b ∷ c ∷ d ∷ e ∷ []) h some few = omega (arith, h 0, h 1, h 2, h 3, h 4)
    by_length (a ∷ b ∷ c ∷ d ∷ e ∷ f ∷ []) h some few = omega (arith, h 0, h 1, h 2, h 3, h 4, h 5)
    by_length (a ∷ b ∷ c ∷ d ∷ e ∷ f ∷ g ∷ []) h some few = omega (arith, h 0, h 1, h 2, h 3, h 4, h 5, h 6)
    by_length (a ∷ b ∷ c ∷ d ∷ e ∷ f ∷ g ∷ i ∷ []) h some few = omega (arith, h 0, h 1, h 2, h 3, h 4, h 5, h 6, h 7)
    by_length _ h some few = absurd (omega (arith, some, few))

-- ---- What an index into the table gives: the string of the row, its values and its key.

abbrev pub Row : Type 0
Row = Bor (List ℕ) × Meaning

-- the string at an index is that of the row
pub text-is : (rows : List Row) (i : ℕ) (d : Row) → i < row_count → map (λ r. r.0.now) rows ≡ row_texts
    → (get_or rows i d).0.now ≡ row_text i
text-is rows i d below texts = rw (← (mapped (λ (r : Row). r.0.now) rows i d), texts) (row_text-default i _ below)

-- the values at an index are those of the row's string
pub values-are : (rows : List Row) (i : ℕ) (d : Row) → i < row_count
    → map (λ r. values_meant r.1) rows ≡ map name_values row_texts
    → values_meant (get_or rows i d).1 ≡ name_values (row_text i)
values-are rows i d below values =
    rw (← (mapped (λ (r : Row). values_meant r.1) rows i d), values)
    (get_or-map name_values row_texts i [] _ (omega (arith, below, length-row_texts)))

-- the key at an index is that of the row's string
pub key-is : (i : ℕ) → i < row_count → get_or KEYS i 0 ≡ prefix_key_of 8 (row_text i)
unfolding row_texts
key-is i below = get_or-map (prefix_key_of 8) row_texts i [] 0 (omega (arith, below))

-- the string of a row is of bytes

abbrev is_byte : ℕ → Bool
is_byte c = ltb c 256

are_bytes : (s : List ℕ) → list_all is_byte s ≡ true → AreBytes s
are_bytes s all i = grind (arith, common_steps)

pub row_text-bytes : (i : ℕ) → i < row_count → AreBytes (row_text i)
unfolding row_texts
row_text-bytes i below =
    are_bytes (row_text i) (AllPass-from_list_all (list_all is_byte) row_texts refl i [] (omega (arith, below)))

-- ---- The rows that a binary search compares, step by step.

among-few : (most low size : ℕ) (text : List ℕ) → steps_among most low size text ≤ most
unfolding steps_among
among-few zero low size text = omega arith
among-few (suc most) low size text =
    grind (arith, (among-few most (low + (size - size / 2)) (size / 2) text), (among-few most low (size / 2) text))

-- a search takes at most eight steps
pub search-few : (text : List ℕ) → search_steps text ≤ 8
unfolding search_steps
search-few text = among-few 8 0 row_count text

-- and at least one
pub search-some : (text : List ℕ) → 0 < search_steps text
unfolding search_steps steps_among
search-some text = omega arith

-- this many steps are counted, and those among the rows that are left are still to come
pub record IsOnTheWay (old new low size : ℕ) (text : List ℕ) : Type 0 where
  pub most : ℕ
  pub enough : size < 2 ^ most
  pub left : new + steps_among most low size text ≡ old + search_steps text

pub on-the-way-first : (old : ℕ) (text : List ℕ) → IsOnTheWay old old 0 row_count text
unfolding search_steps
on-the-way-first old text = record { most = 8; enough = omega arith; left = refl }

among-none : (most low : ℕ) (text : List ℕ) → steps_among most low 0 text ≡ 0
unfolding steps_among
among-none most low text = search rules

-- the steps among some rows, by the order of the one in the middle
among-some : (most low size : ℕ) (text : List ℕ) (order : Ordering) → 0 < size
    → slice_cmp nat_cmp (row_text (low + size / 2)) text ≡ order
    → steps_among (suc most) low size text
    ≡ suc (steps_after order (steps_among most (low + (size - size / 2)) (size / 2) text)
    (steps_among most low (size / 2) text))
unfolding steps_among
among-some most low size text order some is = search rules

module _ (old new later low size : ℕ) (text : List ℕ) (way : IsOnTheWay old new low size text) where
  -- after the row in the middle, whose order this is, a half is left
  abbrev IsCompared : Ordering → Type 0
  IsCompared order = (most : ℕ) × (size / 2 < 2 ^ most)
      × (new + 1 + steps_after order (steps_among most (low + (size - size / 2)) (size / 2) text)
      (steps_among most low (size / 2) text) ≡ old + search_steps text)

  compared : (order : Ordering) → 0 < size → slice_cmp nat_cmp (row_text (low + size / 2)) text ≡ order
      → IsCompared order
  compared order some is = by_most way.most way.enough way.left
    where
      by_most : (most : ℕ) → size < 2 ^ most → new + steps_among most low size text ≡ old + search_steps text
          → IsCompared order
      by_most zero enough left = absurd (omega (arith, some, enough))
      by_most (suc most) enough left = (most, omega arith, omega (arith, among-some most low size text order some is))

  pub on-the-way-less : 0 < size → later ≡ new + 1 → slice_cmp nat_cmp (row_text (low + size / 2)) text ≡ Less
      → IsOnTheWay old later (low + (size - size / 2)) (size / 2) text
  on-the-way-less some one is = let it = compared Less some is in
      record { most = it.0; enough = it.1; left = omega (arith, it.2, one) }

  pub on-the-way-greater : 0 < size → later ≡ new + 1 → slice_cmp nat_cmp (row_text (low + size / 2)) text ≡ Greater
      → IsOnTheWay old later low (size / 2) text
  on-the-way-greater some one is = let it = compared Greater some is in
      record { most = it.0; enough = it.1; left = omega (arith, it.2, one) }

  pub found-there : 0 < size → later ≡ new + 1 → slice_cmp nat_cmp (row_text (low + size / 2)) text ≡ Equal
      → later ≡ old + search_steps text
  found-there some one is = omega (arith, (compared Equal some is).2, one)

  pub none-left : size ≡ 0 → new ≡ old + search_steps text
  none-left none = search (rules, among-none)
