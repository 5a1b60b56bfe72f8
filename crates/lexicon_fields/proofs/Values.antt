-- Values of an enum: two of one variant, equality, and what they feed a hasher.
use Rattle.lexicon_fields.proofs.Names.{Decides, DeploymentTarget, HashInjectiveOn, HashWrites, and_parts, false≢true}
use Rattle.lexicon_fields.proofs.Names.{Bool, List, Option, Record, arith, false, length, refl, rules, tag_of, usize, ℕ}
use Rattle.lexicon_fields.proofs.Names.{[], ap, inl, inr, sym, true, ◌&&◌, ◌++◌, ◌<◌, ◌^◌, ◌∙◌, ◌∷◌, ◌≡◌, ◌≤◌}
use Rattle.std.{proofs.lemmas.Bool.Decides.Decides-like, proofs.lemmas.List.append_cancel_left, specs.Option.option_eq}
use denote.Enum.{Bare.same_true, Bare.true_same, Declared.Choice, Declared.Declared, Declared.declared, Declared.intoss}
use denote.Enum.{Bare.Bare, Bare.sameb, Bare.tag_one, Compared.Each, Compared.by, Declared.rowss, Enum.tag}
use Rattle.{lexicon_fields.specs.Laws.HashInjective, std.specs.Cmp.Derive.of_values, std.specs.Hash.le_bytes}
use denote.Struct.{Field.Field, Values.Values}
use Rattle.lexicon_fields.specs.contracts.deployment_target.DeploymentTargetPartialEq.TheImpl as version

-- ---- Facts about two values of one variant of an enum.

-- P holds for every two values of each variant that has fields
abbrev pub EachPair : (Fss : List (List Field)) → (Choice Fss → Choice Fss → Type 0) → Type 0
EachPair [] P = Unit {0}
EachPair ([] ∷ Fss) P = EachPair Fss (λ c d. P (inr c) (inr d))
EachPair ((F ∷ Fs) ∷ Fss) P = ((x y : Values (F ∷ Fs)) → P (inl x) (inl y)) × EachPair Fss (λ c d. P (inr c) (inr d))

choices_pair : (Fss : List (List Field)) (P : Choice Fss → Choice Fss → Type 0) → ((c : Choice Fss) → P c c)
    → EachPair Fss P
    → (c d : Choice Fss) → tag (rowss Fss) (intoss Fss c) ≡ tag (rowss Fss) (intoss Fss d) → P c d
choices_pair [] P itself pairs c d same = absurd c
choices_pair ([] ∷ Fss) P itself pairs (inl x) (inl y) same = itself (inl x)
choices_pair ((F ∷ Fs) ∷ Fss) P itself pairs (inl x) (inl y) same = pairs.0 x y
choices_pair ([] ∷ Fss) P itself pairs (inr x) (inr y) same =
    search (rules, arith, (choices_pair Fss (λ c d. P (inr c) (inr d))))
choices_pair ((F ∷ Fs) ∷ Fss) P itself pairs (inr x) (inr y) same =
    search (rules, arith, (choices_pair Fss (λ c d. P (inr c) (inr d))))
choices_pair (Fs ∷ Fss) P itself pairs _ _ same = absurd (omega arith)

pub variants_pair : (N : Record) (P : N.D → N.D → Type 0) → ((x : N.D) → P x x)
    → EachPair N.parts (λ c d. P (N.make c) (N.make d))
    → (x y : N.D) → tag_of (declared N) x ≡ tag_of (declared N) y → P x y
variants_pair N P itself pairs x y same = search (rules, choices_pair)

-- ---- `==` is true exactly for the same values.

-- variants without fields are equal by their indices
pub bare-Decides : (D : Declared) → Bare D.parts → (a b : D.D) → Decides (sameb D a b) (a ≡ b)
bare-Decides D bare a b = search (rules, same_true, true_same)

-- two options are the same if both are `None`, or both have the same value
pub option_eq-Decides : {V : Type 0} (eq : V → V → Bool) → ((a b : V) → Decides (eq a b) (a ≡ b))
    → (a b : Option V) → Decides (option_eq eq a b) (a ≡ b)
option_eq-Decides eq decides a b = search rules

-- versions are equal by their numbers
pub version-Decides : (a b : DeploymentTarget) → Decides (version.ghosts.eq a b) (a ≡ b)
version-Decides a b = search rules

-- the fields of each variant that has some are equal by value
abbrev pub EachDecides : (Fss : List (List Field)) → Each Bool Fss → Type 0
EachDecides [] each = Unit {0}
EachDecides ([] ∷ Fss) each = EachDecides Fss each.1
EachDecides ((F ∷ Fs) ∷ Fss) each = ((x y : Values (F ∷ Fs)) → Decides (each.0 x y) (x ≡ y)) × EachDecides Fss each.1

-- whether each variant without fields equals itself
abbrev pub are_bare_equal : (Fss : List (List Field)) → Each Bool Fss → Bool
are_bare_equal [] each = true
are_bare_equal ([] ∷ Fss) each = each.0 tt tt && are_bare_equal Fss each.1
are_bare_equal ((F ∷ Fs) ∷ Fss) each = are_bare_equal Fss each.1

pub one_field-Decides : {V : Type 0} (eq : V → V → Bool) → ((a b : V) → Decides (eq a b) (a ≡ b)) → (x y : V × Unit {0})
    → Decides (eq x.0 y.0) (x ≡ y)
one_field-Decides eq decides x y = search rules

pub bare_field-Decides : (D : Declared) → Bare D.parts → (x y : D.D × Unit {0}) → Decides (sameb D x.0 y.0) (x ≡ y)
bare_field-Decides D bare = one_field-Decides _ (bare-Decides D bare)

choices-Decide : (Fss : List (List Field)) (each : Each Bool Fss) → are_bare_equal Fss each ≡ true
    → EachDecides Fss each
    → (c d : Choice Fss) → Decides (by false false Fss each c d) (c ≡ d)
choices-Decide [] each bare decide c d = absurd c
choices-Decide ([] ∷ Fss) each bare decide (inl x) (inl y) = search (rules, and_parts)
choices-Decide ((F ∷ Fs) ∷ Fss) each bare decide (inl x) (inl y) = search (rules, Decides-like)
choices-Decide ([] ∷ Fss) each bare decide (inr x) (inr y) =
    search (rules, and_parts, (choices-Decide Fss each.1), Decides-like)
choices-Decide ((F ∷ Fs) ∷ Fss) each bare decide (inr x) (inr y) =
    search (rules, (choices-Decide Fss each.1 bare decide.1 x y), Decides-like)
choices-Decide (Fs ∷ Fss) each bare decide _ _ = (λ same. absurd (false≢true same), λ same. absurd cc)

pub enum-Decides : (N : Record) (each : Each Bool N.parts) → are_bare_equal N.parts each ≡ true
    → EachDecides N.parts each
    → (x y : N.D) → Decides (of_values N false false each x y) (x ≡ y)
enum-Decides N each bare decide x y = search (rules, Decides-like, choices-Decide)

-- ---- Different values feed a hasher differently.

-- the first byte that is fed
abbrev pub first_byte : HashWrites → ℕ
first_byte [] = 0
first_byte ([] ∷ writes) = 0
first_byte ((byte ∷ bytes) ∷ writes) = byte

-- the first write
abbrev pub first_write : HashWrites → List ℕ
first_write [] = []
first_write (write ∷ writes) = write

-- the writes after the first
abbrev pub writes_after_first : HashWrites → HashWrites
writes_after_first [] = []
writes_after_first (write ∷ writes) = writes

-- what two values feed, with what follows, determines what they represent, and what follows
abbrev pub Distinguishes : {V W : Type 0} → (V → Type 0) → (V → W) → (V → HashWrites) → V → V → Type 0
Distinguishes IsOfKind value feed x y = (a b : HashWrites) → IsOfKind x → IsOfKind y → feed x ++ a ≡ feed y ++ b
    → (value x ≡ value y) × (a ≡ b)

-- values feed the same if and only if they are the same, provided that this holds whatever follows
pub hash_injective_on : {V W : Type 0} {IsOfKind : V → Type 0} {value : V → W} {feed : V → HashWrites}
    → ((x y : V) → Distinguishes IsOfKind value feed x y) → ((x y : V) → value x ≡ value y → feed x ≡ feed y)
    → HashInjectiveOn IsOfKind value feed
hash_injective_on distinguishes respects = record {
  exactly = λ x y hx hy. (λ same. (distinguishes x y [] [] hx hy (ap (λ fed. fed ++ []) same)).0, respects x y);
  with_more = distinguishes;
}

-- an enum of at most 256 variants, which feeds the index of the variant and then the fields
module _ (N : Record) (feed : N.D → HashWrites) (few : length (rowss N.parts) ≤ 256)
    (placed : (x : N.D) → feed x ≡ usize (tag_of (declared N) x) ++ writes_after_first (feed x)) where
  pub same_tag : (x y : N.D) (a b : HashWrites) → feed x ++ a ≡ feed y ++ b
      → tag_of (declared N) x ≡ tag_of (declared N) y
  unfolding le_bytes
  same_tag x y a b same = search rules

  pub variants_distinguish : {W : Type 0} (IsOfKind : N.D → Type 0) (value : N.D → W)
      → EachPair N.parts (λ c d. Distinguishes IsOfKind value (λ x. writes_after_first (feed x)) (N.make c) (N.make d))
      → (x y : N.D) → Distinguishes IsOfKind value feed x y
  variants_distinguish IsOfKind value pairs x y a b hx hy same =
      variants_pair N (Distinguishes IsOfKind value (λ z. writes_after_first (feed z)))
      (λ z s t _ _ more. (refl, append_cancel_left _ s t more)) pairs x y
      (same_tag x y a b same) a b hx hy
      (ap writes_after_first (ap (λ fed. fed ++ a) (sym (placed x)) ∙ same ∙ ap (λ fed. fed ++ b) (placed y)))

  pub enum_hash_injective : EachPair N.parts
      (λ c d. Distinguishes (λ (x : N.D). Unit {0}) (λ (x : N.D). x) (λ x. writes_after_first (feed x)) (N.make c)
      (N.make d)) → HashInjective feed
  enum_hash_injective pairs = hash_injective_on (variants_distinguish _ _ pairs) (λ x y. ap feed)

-- variants without fields
pub bare_hash_injective : (N : Record) → Bare N.parts → length (rowss N.parts) ≤ 256
    → HashInjective (λ x. usize (tag_of (declared N) x))
bare_hash_injective N bare few =
    let feed : N.D → HashWrites = λ x. usize (tag_of (declared N) x) in
    hash_injective_on (λ x y a b _ _ same.
    (tag_one (declared N) bare x y (same_tag N feed few (λ z. refl) x y a b same), ap writes_after_first same))
    (λ x y. ap feed)

-- a variant of one field
pub one_field : {V W U : Type 0} {IsOfKind : V → Type 0} {value : V → W} {feed : V → HashWrites} (whole : W → U)
    → HashInjectiveOn IsOfKind value feed
    → (x y : V × Unit {0}) (a b : HashWrites) → IsOfKind x.0 → IsOfKind y.0 → feed x.0 ++ a ≡ feed y.0 ++ b
    → (whole (value x.0) ≡ whole (value y.0)) × (a ≡ b)
one_field whole distinguishes x y a b hx hy same = search rules

-- numbers of two bytes
pub same_u16 : (m n : ℕ) → m < 2 ^ 16 → n < 2 ^ 16 → le_bytes 2 m ≡ le_bytes 2 n → m ≡ n
unfolding le_bytes
same_u16 m n hm hn same = search rules
