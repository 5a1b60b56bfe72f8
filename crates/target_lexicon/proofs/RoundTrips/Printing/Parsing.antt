-- Parsing: a string has exactly one list of parts, and exactly one outcome, which the function `reading` gives.
pub mod Names
use Names.*

-- A string has exactly one list of parts.

-- no byte of a string without dashes is a dash
dash_free-all : (bs : List ℕ) → is_dash_free bs ≡ true → All (λ b. (b == dash) ≡ false) bs
dash_free-all [] free = search rules
dash_free-all (b ∷ bs) free = search (rules, (dash_free-all bs))

pub parts_of-joined : (p : List ℕ) (ps : List (List ℕ)) → list_all is_dash_free (p ∷ ps) ≡ true
    → parts_of (join_with_byte dash (p ∷ ps)) ≡ p ∷ ps
parts_of-joined p [] free = search (rules, slice_split_none, dash_free-all)
parts_of-joined p (q ∷ ps) free = search (rules, slice_split_at, dash_free-all, (parts_of-joined q ps), and_parts)

onto_first-free : (b : ℕ) (ps : List (List ℕ)) → nat_eq b dash ≡ false → list_all is_dash_free ps ≡ true
    → list_all is_dash_free (onto_first b ps) ≡ true
onto_first-free b ps other free = search rules

parts_of-free : (bs : List ℕ) → list_all is_dash_free (parts_of bs) ≡ true
parts_of-free [] = refl
parts_of-free (b ∷ bs) = search (rules, (parts_of-free bs), cases_Bool, onto_first-free)

pub parts_of-some : (bs : List ℕ) → parts_of bs ≢ []
parts_of-some bs none = absurd (omega (arith, length-slice_split (λ b. b == dash) bs, ap length none))

pub parts_of-are : (text : List ℕ) → ArePartsOf text (parts_of text)
parts_of-are text = search (rules, parts_of-some, parts_of-free, join_with_byte-slice_split)

pub parts-only : (text : List ℕ) (others : List (List ℕ)) → ArePartsOf text others → others ≡ parts_of text
parts-only text [] are = absurd (are.some refl)
parts-only text (p ∷ ps) are = sym (parts_of-joined p ps are.dash_free) ∙ ap parts_of are.joined

-- a string that is cut at its first dash, or that has none
pub parts_of-cut-at : (text : List ℕ) (i : ℕ) → i < length text → get_or text i 0 ≡ dash
    → ((k : ℕ) → k < i → get_or text k 0 ≢ dash) → (part after : List ℕ) → part ≡ slice_range text 0 i
    → after ≡ drop (i + 1) text → parts_of text ≡ part ∷ parts_of after
parts_of-cut-at text i within here none part after prefix rest =
    search (rules, slice_split_first, position_or_len_is, ne_eqb, eq-eqb)

pub parts_of-uncut : (text : List ℕ) → position_or_len (λ b. b == dash) text ≡ length text → parts_of text ≡ text ∷ []
parts_of-uncut text none = search (rules, slice_split_none, fails_before_first)

pub parts_of-whole : (text : List ℕ) → ((k : ℕ) → k < length text → get_or text k 0 ≢ dash) → parts_of text ≡ text ∷ []
parts_of-whole text none =
    parts_of-uncut text (position_or_len_is (λ b. b == dash) text (length text) 0 (omega arith)
    (λ k h. ne_eqb (get_or text k 0) dash (none k h)) (λ more. absurd (omega (arith, more))))

-- The greedy placement: each part is assigned to the first remaining field that it parses as.

pub cases_Option : {A : Type 0} (o : Option A) → (o ≡ None) ⊎ ((x : A) × (o ≡ Some x))
cases_Option None = inl refl
cases_Option (Some x) = inr (x, refl)

-- how far a string is read: the field that is expected, the values and sources so far, and where the next part begins
pub record State : Type 0 where
  pub expected : Option Field
  pub values : Values
  pub sources : SourceValues
  pub position : ℕ

abbrev pub start : State
start = record {
  expected = Some field.Architecture;
  values = unknown_values;
  sources = same_sources NotGiven;
  position = 0;
}

-- after a part that fills this field
abbrev pub after : Field → List ℕ → State → State
after f p a = record {
  expected = expected_after f;
  values = with_value f p a.values;
  sources = with_source f (FromPart (part_from a.position p)) a.sources;
  position = a.position + length p + 1;
}

-- the reader: from this state on, the first parts fill these fields, each the first open one that it parses as, which
-- leads to the second state and leaves the other parts
pub data Fills : State → List Field → List (List ℕ) → State → List (List ℕ) → Type 0 where
  Stop : {a : State} {ps : List (List ℕ)} → Fills a [] ps a ps
  Take : {a b : State} {f : Field} {fs : List Field} {p : List ℕ} {ps left : List (List ℕ)}
      → field_for a.expected p ≡ Some f → Fills (after f p a) fs ps b left → Fills a (f ∷ fs) (p ∷ ps) b left

-- no part is left, or one that fills no field
abbrev IsEnd : State → List (List ℕ) → Type 0
IsEnd b [] = Unit {0}
IsEnd b (p ∷ left) = field_for b.expected p ≡ None

-- how parts are read as far as they fill fields
abbrev Run : State → List (List ℕ) → Type 0
Run a ps = (fs : List Field) × (b : State) × (left : List (List ℕ)) × Fills a fs ps b left × IsEnd b left

run : (a : State) (ps : List (List ℕ)) → Run a ps
run a [] = ([], a, [], Stop, tt)
run a (p ∷ ps) =
    elim (cases_Option (field_for a.expected p)) [
      | inl none ↦ ([], a, p ∷ ps, Stop, none)
      | inr some ↦
          let rest = run (after some.0 p a) ps in
          (some.0 ∷ rest.0, rest.1, rest.2, Take some.1 rest.3, rest.4)
    ]

-- a part can fill the second field where the first one is expected
abbrev IsOpen : Option Field → Field → Type 0
IsOpen (Some field.Architecture) f = f ≡ field.Architecture
IsOpen (Some e) f = field_number e ≤ field_number f
IsOpen None f = ⊥

pub open-after : (l f : Field) → IsOpen (expected_after l) f ↔ (field_number l < field_number f)
open-after l f = search rules

-- a part fills an open field, and none that is after another open one that it parses as
pub opened : (e : Option Field) (p : List ℕ) (f : Field) → field_for e p ≡ Some f
    → IsOpen e f × (parses_as f p ≡ true)
opened e p f found = search (rules, cases_Bool)

pub first-least : (e : Option Field) (p : List ℕ) (g : Field) → IsOpen e g → parses_as g p ≡ true
    → MatchOption (field_for e p) ⊥ (λ f. field_number f ≤ field_number g)
first-least e p g is takes = search (rules, cases_Bool)

-- the parts parse as these fields, each of which is open after the one before it
abbrev IsPlaced : Option Field → List (List ℕ) → List Field → Type 0
IsPlaced e [] [] = Unit {0}
IsPlaced e (p ∷ ps) (f ∷ fs) = IsOpen e f × (parses_as f p ≡ true) × IsPlaced (expected_after f) ps fs
IsPlaced _ _ _ = ⊥

-- numbers without the first, and with another before it
increasing-tail : (n : ℕ) (ns : List ℕ) → IsStrictlyIncreasing (n ∷ ns) → IsStrictlyIncreasing ns
increasing-tail n ns up k h =
    let next : suc k + 1 ≡ suc (k + 1) = omega arith in
    subst (λ i. get_or ns k 0 < get_or (n ∷ ns) i 0) next (up (suc k) (omega (arith, h)))

increasing-cons : (m n : ℕ) (ns : List ℕ) → m < n → IsStrictlyIncreasing (n ∷ ns) → IsStrictlyIncreasing (m ∷ (n ∷ ns))
increasing-cons m n ns first up is h = search rules

-- so do the parts of a placement, from the architecture on, and no others
increasing-placed : (l : Field) (ps : List (List ℕ)) (fs : List Field)
    → IsStrictlyIncreasing (map field_number (l ∷ fs)) → AllZip (λ p f. parses_as f p ≡ true) ps fs
    → IsPlaced (expected_after l) ps fs
increasing-placed l [] [] up parsed = tt
increasing-placed l (p ∷ ps) (f ∷ fs) up parsed =
    let tail = increasing-tail (field_number l) (map field_number (f ∷ fs)) up in
    ((open-after l f).1 (up 0 (omega arith)), parsed.0, increasing-placed f ps fs tail parsed.1)
increasing-placed l _ _ up parsed = absurd parsed

placed-increasing : (l : Field) (ps : List (List ℕ)) (fs : List Field) → IsPlaced (expected_after l) ps fs
    → IsStrictlyIncreasing (map field_number (l ∷ fs)) × AllZip (λ p f. parses_as f p ≡ true) ps fs
placed-increasing l [] [] w = (λ k h. absurd (omega (arith, h)), tt)
placed-increasing l (p ∷ ps) (f ∷ fs) (first, parses, w) =
    let others = placed-increasing f ps fs w in
    (increasing-cons _ _ _ ((open-after l f).0 first) others.0, (parses, others.1))
placed-increasing l _ _ w = absurd w

placement-placed : (ps : List (List ℕ)) (fs : List Field) → IsPlacement ps fs → IsPlaced (Some field.Architecture) ps fs
placement-placed [] [] w = tt
placement-placed (p ∷ ps) (f ∷ fs) w =
    let first : f ≡ field.Architecture = (let is = w.first in cc) in
    (first, w.parsed.0, increasing-placed f ps fs w.increasing w.parsed.1)
placement-placed _ _ w = absurd w.parsed

placed-placement : (ps : List (List ℕ)) (fs : List Field) → ps ≢ [] → IsPlaced (Some field.Architecture) ps fs
    → IsPlacement ps fs
placed-placement [] fs some w = absurd (some refl)
placed-placement (p ∷ ps) [] some w = absurd w
placed-placement (p ∷ ps) (f ∷ fs) some w =
    let others = placed-increasing f ps fs w.2 in
    record { first = ap Some w.0; increasing = others.0; parsed = (w.1, others.1) }

some-parts : (ps : List (List ℕ)) → HasPlacement ps → ps ≢ []
some-parts ps (fs, w) none = search rules

-- what is placed after a field is placed after one before it, and so are the first of the parts
placed-lower : (f g : Field) (ps : List (List ℕ)) (gs : List Field) → field_number f ≤ field_number g
    → IsPlaced (expected_after g) ps gs → IsPlaced (expected_after f) ps gs
placed-lower f g [] [] h w = tt
placed-lower f g (p ∷ ps) (k ∷ gs) h w = ((open-after f k).1 (omega (arith, h, (open-after g k).0 w.0)), w.1, w.2)
placed-lower f g _ _ h w = absurd w

placed-take : (n : ℕ) (e : Option Field) (ps : List (List ℕ)) (fs : List Field) → IsPlaced e ps fs
    → IsPlaced e (take n ps) (take n fs)
placed-take zero e ps fs w = tt
placed-take (suc n) e [] [] w = tt
placed-take (suc n) e (p ∷ ps) (f ∷ fs) w = (w.0, w.1, placed-take n (expected_after f) ps fs w.2)
placed-take n e _ _ w = absurd w

-- parts that fill fields are placed, if none is left
filled-placed : {a b : State} {fs : List Field} {ps : List (List ℕ)} → Fills a fs ps b [] → IsPlaced a.expected ps fs
filled-placed Stop = tt
filled-placed (Take {a = a} {f = f} {p = p} found w) = let at = opened a.expected p f found in
    (at.0, at.1, filled-placed w)

-- a placement is no earlier than the fields that are filled, and then no part is left
filled-first : {a b : State} {fs : List Field} {ps left : List (List ℕ)} → Fills a fs ps b left → IsEnd b left
    → (gs : List Field) → IsPlaced a.expected ps gs → (left ≡ []) × AreNotAfter fs gs
filled-first (Stop {ps = []}) end [] w = (refl, tt)
filled-first (Stop {a = a} {ps = p ∷ ps}) end (g ∷ gs) w = absurd (rw end at (first-least a.expected p g w.0 w.1))
filled-first (Take {a = a} {f = f} {p = p} {ps = ps} found v) end (g ∷ gs) w =
    let least = rw found at (first-least a.expected p g w.0 w.1) in
    let rest = filled-first v end gs (placed-lower f g ps gs least w.2) in
    (rest.0, (least, rest.1))
filled-first _ end _ w = absurd w

start-first : {b : State} {fs : List Field} {ps left : List (List ℕ)} → Fills start fs ps b left → IsEnd b left
    → (gs : List Field) → IsPlacement ps gs → (left ≡ []) × AreNotAfter fs gs
start-first filled end gs w = filled-first filled end gs (placement-placed _ gs w)

-- two lists of fields, neither after the other, are the same
AreNotAfter-antisymmetric : (fs gs : List Field) → AreNotAfter fs gs → AreNotAfter gs fs → fs ≡ gs
AreNotAfter-antisymmetric [] [] a b = refl
AreNotAfter-antisymmetric (f ∷ fs) (g ∷ gs) a b = search (rules, (AreNotAfter-antisymmetric fs gs a.1 b.1))
AreNotAfter-antisymmetric _ _ a b = absurd a

-- all parts of a string that fill fields are their least placement
pub filled-least : {b : State} {fs : List Field} {ps : List (List ℕ)} → ps ≢ [] → Fills start fs ps b []
    → IsLeastPlacement ps fs
filled-least {fs = fs} {ps = ps} some filled = record {
  placed = placed-placement ps fs some (filled-placed filled);
  least = λ gs other. (start-first filled tt gs other).1;
}

pub least-unique : (ps : List (List ℕ)) (fs gs : List Field) → IsLeastPlacement ps fs → IsLeastPlacement ps gs → fs ≡ gs
least-unique ps fs gs a b = AreNotAfter-antisymmetric fs gs (a.least gs b.placed) (b.least fs a.placed)

-- the parts of a placement fill fields
placed-filled : (ps : List (List ℕ)) → HasPlacement ps → (fs : List Field) × (b : State) × Fills start fs ps b []
placed-filled ps (gs, w) =
    let it = run start ps in
    (it.0, it.1, subst (λ left. Fills start it.0 ps it.1 left) (start-first it.3 it.4 gs w).0 it.3)

pub least-filled : (ps : List (List ℕ)) (fs : List Field) → IsLeastPlacement ps fs
    → (b : State) × Fills start fs ps b []
least-filled ps fs least =
    let found = placed-filled ps (fs, least.placed) in
    let placed = filled-least (some-parts ps (fs, least.placed)) found.2 in
    (found.1, subst (λ gs. Fills start gs ps found.1 []) (least-unique ps found.0 fs placed least) found.2)

-- a prefix of a placement
pub placement_prefix : (n : ℕ) (ps : List (List ℕ)) → HasPlacement ps → HasPlacement (take (suc n) ps)
placement_prefix n [] some = absurd (some-parts [] some refl)
placement_prefix n (p ∷ ps) (fs, w) =
    let placed = placed-take (suc n) (Some field.Architecture) (p ∷ ps) fs (placement-placed (p ∷ ps) fs w) in
    (take (suc n) fs, placed-placement (take (suc n) (p ∷ ps)) (take (suc n) fs) (λ is. cc) placed)

-- if there is a placement, there is a least one
pub placement_least : (ps : List (List ℕ)) → HasPlacement ps → HasOneLeastPlacement ps
placement_least ps some =
    let found = placed-filled ps some in
    let least = filled-least (some-parts ps some) found.2 in
    record { fields = found.0; least = least; only = λ others h. least-unique _ _ _ h least }

-- The sources that are parts are in the string.

-- the parts, joined by dashes, are the end of the string from `begin` on; there may be none
abbrev AreAt : List ℕ → ℕ → List (List ℕ) → Type 0
AreAt text begin [] = Unit {0}
AreAt text begin (p ∷ ps) =
    (before : List ℕ) × (length before ≡ begin) × (text ≡ before ++ join_with_byte dash (p ∷ ps))

-- a part that is followed by these bytes
part-in : (text before p rest : List ℕ) (begin : ℕ) → length before ≡ begin → text ≡ before ++ (p ++ rest)
    → IsInString text (part_from begin p)
part-in text before p rest begin at is = grind (arith, common_steps)

-- the first of the parts, and those after it
first-in : (text : List ℕ) (begin : ℕ) (p : List ℕ) (ps : List (List ℕ)) → AreAt text begin (p ∷ ps)
    → IsInString text (part_from begin p) × AreAt text (begin + length p + 1) ps
first-in text begin p [] (before, at, is) = (part-in text before p [] begin at (search (rules, append-nil)), tt)
first-in text begin p (q ∷ ps) (before, at, is) = (
  part-in text before p (dash ∷ join_with_byte dash (q ∷ ps)) begin at is,
  ((before ++ p) ++ (dash ∷ []), grind (arith, common_steps), grind (arith, common_steps)),
)

abbrev AreIn : List ℕ → List PlacedPart → Type 0
AreIn text [] = Unit {0}
AreIn text (p ∷ ps) = IsInString text p × AreIn text ps

all-in : (text : List ℕ) (begin : ℕ) (ps : List (List ℕ)) → AreAt text begin ps → AreIn text (placed_from begin ps)
all-in text begin [] at = tt
all-in text begin (p ∷ ps) at = let first = first-in text begin p ps at in
    (first.0, all-in text (begin + length p + 1) ps first.1)

pub placed-in : (text : List ℕ) (parts : List (List ℕ)) → ArePartsOf text parts → AreIn text (placed_from 0 parts)
placed-in text parts are = grind (arith, all-in)

source-in : (text : List ℕ) (unfilled : SourceValue) (f : Field) (ps : List PlacedPart) (gs : List Field)
    → IsSourceInString text unfilled → AreIn text ps
    → IsSourceInString text (source_at unfilled f ps gs)
source-in text unfilled f [] gs none are = none
source-in text unfilled f (p ∷ ps) [] none are = none
source-in text unfilled f (p ∷ ps) (g ∷ gs) none are =
    grind (arith, (source-in text unfilled f ps gs none are.1), cases_Bool)

get-in : (text : List ℕ) (ps : List PlacedPart) (k : ℕ) (q : PlacedPart) → AreIn text ps → slice_get ps k ≡ Some q
    → IsInString text q
get-in text [] k q are is = absurd cc
get-in text (p ∷ ps) zero q are is = let same : p ≡ q = cc in subst (IsInString text) same are.0
get-in text (p ∷ ps) (suc k) q are is = get-in text ps k q are.1 is

pub all-sources-in : (text : List ℕ) (unfilled : SourceValue) (ps : List PlacedPart) (gs : List Field)
    → IsSourceInString text unfilled → AreIn text ps
    → AreInString text (sources_at unfilled ps gs)
all-sources-in text unfilled ps gs none are = grind (arith, source-in)

pub refused-in : (text : List ℕ) (x : Refusal) (s : SourceValues) (q : PlacedPart) → IsRefusedAfter text x s q
    → AreInString text s × IsInString text q
refused-in text x s q (parts, of_text, after) =
    let are = placed-in text parts of_text in
    let all = all-sources-in text NotGiven (placed_from 0 parts) after.fields tt are in
    (rw after.sources all, get-in text (placed_from 0 parts) after.refusal_holds.count q are after.refused)

-- The parts of a string are read one after the other. Where they end, and at a part that fills no field, this gives
-- what the string reads as, or how it is refused.

-- one more part that fills a field
filled-next : {a b : State} {f : Field} {fs : List Field} {p : List ℕ} {ps left : List (List ℕ)}
    → Fills a fs ps b (p ∷ left) → field_for b.expected p ≡ Some f → Fills a (fs ++ (f ∷ [])) ps (after f p b) left
filled-next Stop found = Take found Stop
filled-next (Take first w) found = Take first (filled-next w found)

-- these sources, and those of the parts that are assigned to these fields
abbrev merged : SourceValues → List PlacedPart → List Field → SourceValues
merged s parts fields =
    source_values (source_at s.architecture field.Architecture parts fields)
    (source_at s.vendor field.Vendor parts fields)
    (source_at s.operating_system field.OperatingSystem parts fields)
    (source_at s.environment field.Environment parts fields)
    (source_at s.binary_format field.BinaryFormat parts fields)

merged-none : (s : SourceValues) (ps : List PlacedPart) → s ≡ merged s ps []
merged-none s [] = refl
merged-none s (p ∷ ps) = refl

merged-next : (f : Field) (s : SourceValues) (fs : List Field) (p : PlacedPart) (ps : List PlacedPart)
    → part_at f ps fs ≡ None → merged (with_source f (FromPart p) s) ps fs ≡ merged s (p ∷ ps) (f ∷ fs)
merged-next f s fs p ps none = search rules

pub absent-none : {A : Type 0} (f : Field) (xs : List A) → part_at f xs [] ≡ None
absent-none f [] = refl
absent-none f (x ∷ xs) = refl

-- a field has no part where later ones are filled
pub absent : {A : Type 0} (f l : Field) (xs : List A) {a b : State} {fs : List Field} {ps left : List (List ℕ)}
    → a.expected ≡ expected_after l → field_number f ≤ field_number l → Fills a fs ps b left → part_at f xs fs ≡ None
absent f l xs is h Stop = absent-none f xs
absent f l [] is h (Take found w) = refl
absent f l (x ∷ xs) is h (Take {f = g} {p = p} found w) =
    let later = (open-after l g).0 (opened _ p g (rw is at found)).0 in
    let other : nat_eq (field_number g) (field_number f) ≡ false = grind (arith, h, later) in
    rw other (absent f g xs refl (omega (arith, h, later)) w)

-- the sources, if what completes them keeps those that come from parts
sources-filled : (complete : Option Field → SourceValues → SourceValues)
    → ((e : Option Field) (f : Field) (p : List ℕ) (q : PlacedPart) (s : SourceValues) → field_for e p ≡ Some f
    → complete (expected_after f) (with_source f (FromPart q) s) ≡ with_source f (FromPart q) (complete e s))
    → {a b : State} {fs : List Field} {ps left : List (List ℕ)} → Fills a fs ps b left
    → complete b.expected b.sources ≡ merged (complete a.expected a.sources) (placed_from a.position ps) fs
sources-filled complete keeps Stop = merged-none _ _
sources-filled complete keeps (Take {a = a} {f = f} {fs = fs} {p = p} {ps = ps} found w) =
    sources-filled complete keeps w
    ∙ ap (λ (s : SourceValues). merged s (placed_from (a.position + length p + 1) ps) fs)
    (keeps a.expected f p (part_from a.position p) a.sources found)
    ∙ merged-next f (complete a.expected a.sources) fs _ _ (absent f f _ refl (omega arith) w)

finished-keeps : (e : Option Field) (f : Field) (p : List ℕ) (q : PlacedPart) (s : SourceValues)
    → field_for e p ≡ Some f
    → finished_sources (expected_after f) (with_source f (FromPart q) s)
    ≡ with_source f (FromPart q) (finished_sources e s)
finished-keeps e f p q s found = search rules

-- each value is that of the part from which it comes, or that of an unfilled field; of a format that is still open
-- nothing is known yet
abbrev text_of : SourceValue → Option (List ℕ)
text_of (FromPart p) = Some p.text
text_of _ = None

abbrev AreFrom : State → Type 0
AreFrom a =
    IsValueOf architecture_of architecture.Unknown (text_of a.sources.architecture) a.values.architecture
    × IsValueOf vendor_of (Known Unknown) (text_of a.sources.vendor) a.values.vendor
    × IsValueOf operating_system_of operating_system.Unknown (text_of a.sources.operating_system)
    a.values.operating_system
    × IsValueOf environment_of environment.Unknown (text_of a.sources.environment) a.values.environment
    × MatchOption a.expected (IsValueOf binary_format_of (default_binary_format a.values)
    (text_of a.sources.binary_format) a.values.binary_format) (λ _. Unit {0})

from-next : (f : Field) (p : List ℕ) (a : State) → parses_as f p ≡ true → AreFrom a → AreFrom (after f p a)
from-next f p a is is2 = search rules

from-filled : {a b : State} {fs : List Field} {ps left : List (List ℕ)} → Fills a fs ps b left → AreFrom a → AreFrom b
from-filled Stop from = from
from-filled (Take {a = a} {f = f} {p = p} found w) from =
    from-filled w (from-next f p a (opened a.expected p f found).1 from)

-- where no part is left
abbrev pub finish : State → State
finish b = record b {
  expected = None;
  values = finished b.expected b.values;
  sources = finished_sources b.expected b.sources;
}

from-finished : (b : State) → AreFrom b → AreFrom (finish b)
from-finished b from = search rules

text-at : (unfilled : SourceValue) → text_of unfilled ≡ None
    → (f : Field) (n : ℕ) (ps : List (List ℕ)) (fs : List Field)
    → text_of (source_at unfilled f (placed_from n ps) fs) ≡ part_at f ps fs
text-at unfilled none f n [] fs = none
text-at unfilled none f n (p ∷ ps) [] = none
text-at unfilled none f n (p ∷ ps) (g ∷ gs) =
    search (rules, (text-at unfilled none f (n + length p + 1) ps gs), cases_Bool)

from-holds : (fs : List Field) (ps : List (List ℕ)) (b : State) → b.expected ≡ None
    → b.sources ≡ sources_at Implied (placed_from 0 ps) fs → AreFrom b → HoldsParts ps fs b.values
from-holds fs ps b none sources from = search (rules, text-at)

-- the first of the parts that are left, and those before it
filled-get : {a b : State} {fs : List Field} {p : List ℕ} {ps left : List (List ℕ)} → Fills a fs ps b (p ∷ left)
    → (slice_get ps (length fs) ≡ Some p)
    × (slice_get (placed_from a.position ps) (length fs) ≡ Some (part_from b.position p))
filled-get Stop = (refl, refl)
filled-get (Take found w) = filled-get w

filled-before : {a b : State} {fs : List Field} {ps left : List (List ℕ)} → Fills a fs ps b left
    → Fills a fs (take (length fs) ps) b []
filled-before Stop = Stop
filled-before (Take found w) = Take found (filled-before w)

filled-up_to : {a b : State} {fs : List Field} {p : List ℕ} {ps left : List (List ℕ)}
    → Fills a fs ps b (p ∷ left) → Fills a fs (take (suc (length fs)) ps) b (p ∷ [])
filled-up_to Stop = Stop
filled-up_to (Take found w) = Take found (filled-up_to w)

filled-last : (l : Field) {a b : State} {fs : List Field} {ps left : List (List ℕ)} → a.expected ≡ expected_after l
    → Fills a fs ps b left → b.expected ≡ expected_after (last_field l fs)
filled-last l is Stop = is
filled-last l is (Take {f = f} found w) = filled-last f refl w

before-least : {b : State} {f : Field} {fs : List Field} {p : List ℕ} {ps left : List (List ℕ)}
    → Fills start (f ∷ fs) (p ∷ ps) b left → IsLeastPlacement (take (length (f ∷ fs)) (p ∷ ps)) (f ∷ fs)
before-least filled = filled-least (λ is. cc) (filled-before filled)

before-expected : {b : State} {fs : List Field} {ps left : List (List ℕ)} → Fills start fs ps b left
    → IsExpectedAfter (take (length fs) ps) b.expected
before-expected Stop = refl
before-expected (Take {f = f} {fs = fs} found w) = (f, (fs, before-least (Take found w), filled-last f refl w))

before-fields : {b : State} {fs : List Field} {ps left : List (List ℕ)} → Fills start fs ps b left
    → AreFieldsOf (take (length fs) ps) fs
before-fields Stop = refl
before-fields (Take found w) = before-least (Take found w)

before-placed : {b : State} {fs : List Field} {ps left : List (List ℕ)} → Fills start fs ps b left
    → (k : ℕ) → k < length fs → HasPlacement (take (suc k) ps)
before-placed Stop k h = absurd (omega (arith, h))
before-placed (Take {f = f} {fs = fs} {p = p} {ps = ps} found w) k h =
    subst HasPlacement (take-take (suc k) (length (f ∷ fs)) (p ∷ ps) h)
    (placement_prefix k (take (length (f ∷ fs)) (p ∷ ps)) (f ∷ fs, (before-least (Take found w)).placed))

-- some parts of the string are read, and these are left
abbrev pub HasRead : List ℕ → State → List (List ℕ) → Type 0
HasRead text b left = (fs : List Field) × Fills start fs (parts_of text) b left

-- where the next part begins at this index
abbrev pub state_of : Reading → ℕ → State
state_of it n =
    record { expected = it.expected; values = values_of_ref it.triple; sources = sources_of it.sources; position = n }

-- all parts are read but those of the rest, which ends the string
abbrev pub HasReadBefore : List ℕ → Reading → Option (Bor (List ℕ)) → Type 0
HasReadBefore text it rest = (n : ℕ) × ForSome rest (λ left. n ≡ length text - length left.now)
    × HasRead text (state_of it n) (parts_after rest)

pub taken-read : (text p : List ℕ) (left : List (List ℕ)) (n : ℕ) (old new : Reading)
    → HasRead text (state_of old n) (p ∷ left) → IsTaken (part_from n p) old new
    → HasRead text (state_of new (n + length p + 1)) left
taken-read text p left n old new (fs, w) is = by_field (field_for old.expected p) refl is
  where
    by_field : (o : Option Field) → field_for old.expected p ≡ o
        → MatchOption o ⊥ (λ f. HasFilled f (part_from n p) old new)
        → HasRead text (state_of new (n + length p + 1)) left
    by_field None found is = absurd is
    by_field (Some f) found is = rw (is.expected, is.values, is.sources) (fs ++ (f ∷ []), filled-next w found)

module _ (text : List ℕ) (b : State) where
  pub text-read : special_values text ≡ None → HasRead text b []
      → ParsesAs text (finish b).values × AreSourcesOf text (finish b).sources
      × AreInString text (finish b).sources
  text-read ordinary (fs, w) =
      let parts = parts_of text in
      let least = filled-least (parts_of-some text) w in
      let sources = sources-filled finished_sources finished-keeps w in
      let from = from-finished b (from-filled w (refl, refl, refl, refl, tt)) in
      rw ordinary (
        (parts, parts_of-are text, (fs, least, from-holds fs parts (finish b) refl sources from)),
        (parts, parts_of-are text, (fs, least, sources)),
        subst (AreInString text) (sym sources)
            (all-sources-in text Implied _ fs tt (placed-in text parts (parts_of-are text))),
      )

  pub text-refused : (p : List ℕ) (left : List (List ℕ)) → HasRead text b (p ∷ left) → field_for b.expected p ≡ None
      → IsRefusedAfter text (refusal_with b.expected p) b.sources (part_from b.position p)
  text-refused p left (fs, w) none = (
    parts_of text,
    parts_of-are text,
    record {
      refusal_holds = record {
        count = length fs;
        refused = (filled-get w).0;
        unplaced = λ (gs, other). let bad = (start-first (filled-up_to w) none gs other).0 in cc;
        placed = before-placed w;
        expected = before-expected w;
      };
      fields = fs;
      earlier = before-fields w;
      sources = sources-filled (λ e s. s) (λ e f p q s found. refl) w;
      refused = (filled-get w).1;
    },
  )

-- the function `reading_from` goes on in the same way
reading-filled : {a b : State} {fs : List Field} {ps left : List (List ℕ)} → Fills a fs ps b left
    → reading_from a.expected a.values ps ≡ reading_from b.expected b.values left
reading-filled Stop = refl
reading-filled (Take found w) = rw found (reading-filled w)

-- Parsing as a function gives the triple that a string reads as by placements, and how it is refused, and a string has
-- no other outcome.

-- what holds for a string: the function gives what it reads as, or how it is refused
abbrev Holds : List ℕ → Result Values Refusal → Type 0
Holds text found = MatchResult found (λ t. ParsesAs text t) (λ refusal. IsRefusedAs text refusal)

reading-of : (ps : List (List ℕ)) → ps ≢ []
    → reading_of_parts ps ≡ reading_from (Some field.Architecture) unknown_values ps
reading-of ps some = search rules

ordinary-holds : (text : List ℕ) → special_values text ≡ None → Holds text (reading_of_parts (parts_of text))
ordinary-holds text ordinary = rw (reading-of (parts_of text) (parts_of-some text)) (by_run (run start (parts_of text)))
  where
    by_run : Run start (parts_of text)
        → Holds text (reading_from (Some field.Architecture) unknown_values (parts_of text))
    by_run (fs, b, [], w, end) = rw (reading-filled w) (text-read text b ordinary (fs, w)).0
    by_run (fs, b, p ∷ left, w, end) =
        let after = text-refused text b p left (fs, w) end in
        rw (reading-filled w, end) (ordinary, (after.0, after.1, after.2.refusal_holds))

by_special : (text : List ℕ) (o : Option Values) → special_values text ≡ o → Holds text (reading_unless_special o text)
by_special text o is = search (rules, ordinary-holds)

reading-holds : (text : List ℕ) → Holds text (reading text)
unfolding reading
reading-holds text = by_special text (special_values text) refl

-- two outcomes of the same parts

same_values : (t u : Values) → t.architecture ≡ u.architecture → t.vendor ≡ u.vendor
    → t.operating_system ≡ u.operating_system
    → t.environment ≡ u.environment → t.binary_format ≡ u.binary_format → t ≡ u
same_values t u a v s e f = λ i. values (a i) (v i) (s i) (e i) (f i)

pub values-Decides : (t u : Values) (a v s e f : Bool) → Decides a (t.architecture ≡ u.architecture)
    → Decides v (t.vendor ≡ u.vendor) → Decides s (t.operating_system ≡ u.operating_system)
    → Decides e (t.environment ≡ u.environment) → Decides f (t.binary_format ≡ u.binary_format)
    → Decides (a && (v && (s && (e && f)))) (t ≡ u)
values-Decides t u a v s e f is_a is_v is_s is_e is_f = search (rules, same_values, Decides-and, Decides-like)

same_value : {A : Type 0} (find : List ℕ → Option A) (d e : A) (o : Option (List ℕ)) (x y : A) → d ≡ e
    → IsValueOf find d o x → IsValueOf find e o y → x ≡ y
same_value find d e o x y same h k = search rules

same_held : (parts : List (List ℕ)) (fields : List Field) (t u : Values) → HoldsParts parts fields t
    → HoldsParts parts fields u → t ≡ u
same_held parts fields t u h k = search (rules, same_value, same_values)

same_least : (parts : List (List ℕ)) (t u : Values) → PartsParseAs parts t → PartsParseAs parts u → t ≡ u
same_least parts t u first second = search (rules, same_held, least-unique)

same_count : (parts : List (List ℕ)) (x y : Refusal) (a : IsRefusal parts x) (b : IsRefusal parts y) → a.count ≡ b.count
same_count parts x y a b = search rules

abbrev expected_after_all : List Field → Option Field
expected_after_all [] = None
expected_after_all (f ∷ fs) = expected_after (last_field f fs)

same_expected : (prefix : List (List ℕ)) (j k : Option Field) → IsExpectedAfter prefix j
    → IsExpectedAfter prefix k → j ≡ k
same_expected [] j k h l = h ∙ sym l
same_expected (p ∷ ps) j k (f, (fs, least, h)) (g, (gs, other, l)) =
    h ∙ ap expected_after_all (least-unique (p ∷ ps) (f ∷ fs) (g ∷ gs) least other) ∙ sym l

same_refusal : (parts : List (List ℕ)) (x y : Refusal) → IsRefusal parts x → IsRefusal parts y → x ≡ y
same_refusal parts x y a b =
    let same = same_count parts x y a b in
    let at : slice_get parts b.count ≡ Some x.part = subst (λ n. slice_get parts n ≡ Some x.part) same a.refused in
    let other = b.refused in
    let after : IsExpectedAfter (take b.count parts) x.expected = subst (λ n. IsExpectedAfter (take n parts) x.expected)
    same a.expected in
    let part : x.part ≡ y.part = cc in
    ap (λ expected. refusal_with expected x.part)
    (same_expected (take b.count parts) x.expected y.expected after b.expected) ∙ ap (refusal_with y.expected) part

-- what holds for the parts
abbrev HoldsOfParts : List (List ℕ) → Result Values Refusal → Type 0
HoldsOfParts parts found = MatchResult found (PartsParseAs parts) (IsRefusal parts)

parts-unique : (parts : List (List ℕ)) (x y : Result Values Refusal) → HoldsOfParts parts x → HoldsOfParts parts y
    → x ≡ y
parts-unique parts (Ok t) (Ok u) h k = ap Ok (same_least parts t u h k)
parts-unique parts (Err x) (Err y) h k = ap Err (same_refusal parts x y h k)
parts-unique parts (Ok t) (Err y) h k = absurd (k.unplaced (placement_prefix k.count parts (h.0, h.1.placed)))
parts-unique parts (Err x) (Ok u) h k = absurd (h.unplaced (placement_prefix h.count parts (k.0, k.1.placed)))

of_parts : (text : List ℕ) (found : Result Values Refusal) → special_values text ≡ None → Holds text found
    → HoldsOfParts (parts_of text) found
of_parts text found ordinary holds = search (rules, parts-only)

of_special : (text : List ℕ) (s : Values) (found : Result Values Refusal) → special_values text ≡ Some s
    → Holds text found → found ≡ Ok s
of_special text s found special holds = search rules

-- a string has at most one outcome
unique : (text : List ℕ) (x y : Result Values Refusal) → Holds text x → Holds text y → x ≡ y
unique text x y h k = elim (cases_Option (special_values text)) [
  | inl none ↦ parts-unique (parts_of text) x y (of_parts text x none h) (of_parts text y none k)
  | inr (s, is) ↦ of_special text s x is h ∙ sym (of_special text s y is k)
]

pub values_unique : (text : List ℕ) (t u : Values) → ParsesAs text t → ParsesAs text u → t ≡ u
values_unique text t u h k = let same = unique text (Ok t) (Ok u) h k in cc

pub reading_computed : ReadingIsComputed
reading_computed text = record {
  read = λ t. (unique text (reading text) (Ok t) (reading-holds text), λ is. rw is at (reading-holds text));
  refused = λ x. (unique text (reading text) (Err x) (reading-holds text), λ is. rw is at (reading-holds text));
}

-- a string reads or is refused
some-outcome : (text : List ℕ) (found : Result Values Refusal) → Holds text found → ((t : Values) × ParsesAs text t)
    ⊎ IsRefused text
some-outcome text found h = search rules

pub one_outcome : EveryStringHasOneOutcome
one_outcome text = record {
  some = some-outcome text (reading text) (reading-holds text);
  values = values_unique text;
  refusal = λ x y h k. let same = unique text (Err x) (Err y) h k in cc;
  apart = λ t h refused. let same = unique text (Ok t) (Err refused.0) h refused.1 in cc;
}

-- The names of one field, parsed as an earlier field.

-- of the names of formats only `unknown` is that of an environment, and of a system
abbrev pub format_as_environment : BinaryFormat → Option Environment
format_as_environment binary_format.Unknown = Some environment.Unknown
format_as_environment _ = None

pub environment_of-format : (f : BinaryFormat) → environment_of (binary_format_name f) ≡ format_as_environment f
unfolding environment_of
environment_of-format f = search rules

abbrev pub format_as_system : BinaryFormat → Option OperatingSystem
format_as_system binary_format.Unknown = Some operating_system.Unknown
format_as_system _ = None

pub operating_system_of-format : (f : BinaryFormat) → operating_system_of (binary_format_name f) ≡ format_as_system f
unfolding operating_system_of fixed_operating_system_of
operating_system_of-format f = search rules

-- of the names of environments only `unknown` and `none` are those of systems
abbrev pub environment_as_system : Environment → Option OperatingSystem
environment_as_system environment.Unknown = Some operating_system.Unknown
environment_as_system environment.None = Some operating_system.None_
environment_as_system _ = None

pub operating_system_of-environment : (e : Environment)
    → operating_system_of (environment_name e) ≡ environment_as_system e
unfolding operating_system_of fixed_operating_system_of
operating_system_of-environment e = search rules

-- of the names of systems only `unknown` is that of a vendor
abbrev pub system_as_vendor : OperatingSystem → Option VendorValue
system_as_vendor operating_system.Unknown = Some (Known Unknown)
system_as_vendor _ = None

-- a string that parses as a system is not admitted
not_admitted : (text : List ℕ) (s : OperatingSystem) → operating_system_of text ≡ Some s → is_admitted text ≡ false
unfolding is_admitted
not_admitted text s reads = rw (reads, and-false) refl

module _ (names : NamesAreRead) where
  by_system : (s : OperatingSystem) → HasVersionInRange s → known_vendor_of (operating_system_name s) ≡ None
      → vendor_of (operating_system_name s) ≡ None
  unfolding vendor_of
  by_system s range unknown = search (rules, not_admitted)

  pub vendor_of-operating_system : (s : OperatingSystem) → HasVersionInRange s
      → vendor_of (operating_system_name s) ≡ system_as_vendor s
  unfolding known_vendor_of vendor_of
  vendor_of-operating_system s range = search (rules, by_system)
