-- What a mode answers: the lines of an input, the answers to them, and the laws of mode `matrix`.
pub mod Names
pub use Names.*
use Rattle.serde_json.proofs.OnLiterals.{serde_json_on_literals}

-- The lines that an iterator has left.

abbrev is_line_feed : ℕ → Bool
is_line_feed b = b == line_feed

-- the lines of the text that `split_terminator` has left, and none after its last part
abbrev pub lines_left : SplitTerminator ℕ → List (List ℕ)
lines_left it =
    if split_has_more (split_terminator_parts it) then lines_of (split_text (split_terminator_parts it)) else []

pub stays-first : (part : List ℕ) (parts : List (List ℕ)) → 0 < length part + length parts
    → parts_without_empty_last (part ∷ parts) ≡ part ∷ parts_without_empty_last parts
stays-first part parts some = search rules

has-none : (text : List ℕ) → NoCharPasses is_line_feed text → All (λ b. is_line_feed b ≡ false) text
has-none text none k d below =
    ne_eqb _ line_feed
    (λ is. NoCharPasses-char line_feed text k none (omega arith) below (get_or_default text k 0 d below ∙ is))

-- a text is cut at its first line feed, or is one line
lines_of-cut : (text line rest : List ℕ) (more : Bool) (found : Option (ℕ × ℕ)) → FindsChar line_feed text found
    → MatchOption found ((line ≡ text) × (more ≡ false))
    (λ at. 0 < at.1 → (line ≡ take at.0 text) × (more ≡ true) × (rest ≡ drop at.1 text))
    → (length line ≡ 0 → more ≡ true)
    → lines_of text ≡ line ∷ (if more then lines_of rest else [])
lines_of-cut text line rest more None finds cut some = search (rules, slice_split_none, has-none, stays-first)
lines_of-cut text line rest more (Some at) finds cut some =
    let is = cut (omega (arith, finds.1.ends)) in
    let whole : text ≡ line ++ line_feed ∷ rest =
    rw (is.0, is.2, ← (drop_at_char line_feed text at.0 at.1 finds.1 (omega arith)))
    (sym (take-append-drop at.0 text)) in
    rw (is.1, whole, slice_split_at is_line_feed line line_feed rest (has-none line (rw is.0 finds.0)) refl)
    (stays-first line (slice_split is_line_feed rest) (omega (arith, length-slice_split is_line_feed rest)))

-- each part is the next line
pub lines_left-some : (it next : SplitTerminator ℕ) (line : _) → split_terminator_pattern it ≡ line_feed
    → split_terminator_steps FindsChar (λ c d. d ≡ c) it (Some line) next → lines_left it ≡ line.now ∷ lines_left next
lines_left-some it next line pattern steps = search (rules, lines_of-cut)

no-lines : (text : List ℕ) (found : Option (ℕ × ℕ)) → FindsChar line_feed text found
    → MatchOption found (length text ≡ 0) (λ at. at.1 ≡ 0) → lines_of text ≡ []
no-lines text found finds end = search (rules, nil_from_length)

pub lines_left-none : (it next : SplitTerminator ℕ) → split_terminator_pattern it ≡ line_feed
    → split_terminator_steps FindsChar (λ c d. d ≡ c) it None next → lines_left it ≡ []
lines_left-none it next pattern steps = search (rules, no-lines)

pub not-utf8 : (text : List ℕ) → is_utf8 text ≡ false → IsUtf8 text → ⊥
not-utf8 text is utf8 = absurd (let bad : false ≡ true = sym is ∙ is_utf8-from_IsUtf8 text utf8 in cc)

-- each line of UTF-8 is UTF-8
cut-utf8 : (line rest : List ℕ) → IsUtf8 (line ++ line_feed ∷ rest) → IsUtf8 line × IsUtf8 rest
cut-utf8 line rest utf8 =
    let text = line ++ line_feed ∷ rest in
    let end = length line in
    let below : end < length text = omega (arith, length-append line (line_feed ∷ rest)) in
    let ascii : get_or text end 0 < 128 = rw (get_or-append_seam line line_feed rest 0) (omega arith) in
    let is_line = IsUtf8-take text end utf8 (IsCharBoundary-before_ascii text end below ascii) in
    let is_rest = IsUtf8-drop text (end + 1) utf8 (IsCharBoundary-after_ascii text end utf8 below ascii) in (
      rw (take-append_seam line (line_feed ∷ rest)) at is_line,
      rw (drop-append-add line (line_feed ∷ rest) 1) at is_rest,
    )

parts-utf8 : (parts : List (List ℕ)) → IsUtf8 (join_with_byte line_feed parts)
    → AllByRecursion IsUtf8 (parts_without_empty_last parts)
parts-utf8 [] utf8 = tt
parts-utf8 ([] ∷ []) utf8 = tt
parts-utf8 ((b ∷ bs) ∷ []) utf8 = (utf8, tt)
parts-utf8 (part ∷ next ∷ parts) utf8 =
    let cut = cut-utf8 part (join_with_byte line_feed (next ∷ parts)) utf8 in
    subst (AllByRecursion IsUtf8) (sym (stays-first part (next ∷ parts) (omega arith)))
    (cut.0, parts-utf8 (next ∷ parts) cut.1)

pub lines-utf8 : (input : List ℕ) → IsUtf8 input → AllByRecursion IsUtf8 (lines_of input)
lines-utf8 input utf8 = search (rules, parts-utf8, join_with_byte-slice_split)

-- The answers to the lines of an input, one after another.

-- with the output for the rest after it, this is the output for all lines
pub record IsSoFar (shown : Values → List ℕ) (lines rest : List (List ℕ)) (output : List ℕ) : Type 0 where
  pub whole : (more : List ℕ) → IsLineOutput shown rest more → IsLineOutput shown lines (output ++ more)

pub so-far-none : {shown : Values → List ℕ} {lines : List (List ℕ)} {output : List ℕ} → output ≡ []
    → IsSoFar shown lines lines output
so-far-none empty = record { whole = λ more is. rw empty is }

pub so-far-more : {shown : Values → List ℕ} {lines rest others : List (List ℕ)} {line old new : List ℕ}
    → rest ≡ line ∷ others → AddsAnswer shown line old new → IsSoFar shown lines rest old
    → IsSoFar shown lines others new
so-far-more cut adds far = record {
  whole = λ more is.
      rw (adds.grown, append_assoc)
      (far.whole (written_lines (adds.answer ∷ []) ++ more)
      (rw cut (adds.answer ∷ is.0, (adds.is, is.1), rw is.2 (simp append_assoc))));
}

pub so-far-whole : {shown : Values → List ℕ} {lines rest : List (List ℕ)} {output : List ℕ} → rest ≡ []
    → IsSoFar shown lines rest output → IsLineOutput shown lines output
so-far-whole none far = rw append-nil at (far.whole [] (rw none ([], tt, refl)))

-- The answers so far, with the answers to the rest after them, are those to all lines. Those that the matrix keeps
-- were written, and what they show was seen.
pub record IsMatrixSoFar (lines rest : List (List ℕ)) (output : List ℕ) (seen : Seen) : Type 0 where
  pub before : List Answer
  pub whole : (more : List Answer) → AreAnswers canonical_string rest more
      → AreAnswers canonical_string lines (before ++ more)
  pub written : output ≡ written_lines (matrix_of before)
  pub agree : (text : List ℕ) → contains_text seen text ≡ list_any (shows text) before

pub matrix-none : {lines : List (List ℕ)} {output : List ℕ} {seen : Seen} → output ≡ []
    → ((text : List ℕ) → contains_text seen text ≡ false)
    → IsMatrixSoFar lines lines output seen
matrix-none empty none = search rules

-- an answer that is written if it stays after others
abbrev pub if_stays : Bool → Answer → List Answer
if_stays stays line = if stays then line ∷ [] else []

pub staying-push : (before lines : List Answer) (line : Answer)
    → kept_answers before (lines ++ line ∷ []) ≡ kept_answers before lines ++ if_stays
    (is_kept_after (before ++ lines) line) line
staying-push before [] line = search (rules, append-nil)
staying-push before (first ∷ lines) line =
    rw (staying-push (before ++ first ∷ []) lines line, append_assoc before (first ∷ []) lines, append_assoc)

pub written_lines-append : (xs ys : List Answer) → written_lines (xs ++ ys) ≡ written_lines xs ++ written_lines ys
written_lines-append [] ys = refl
written_lines-append (x ∷ xs) ys = grind (arith, common_steps, append_assoc, written_lines-append xs ys)

repeated-stays : (before : List Answer) (seen : Seen) (answer : Answer)
    → ((text : List ℕ) → contains_text seen text ≡ list_any (shows text) before)
    → (if is_repeated seen answer then [] else answer ∷ []) ≡ if_stays (is_kept_after before answer) answer
repeated-stays before seen answer agree = search rules

pub push-any : (text : List ℕ) (xs : List Answer) (line : Answer)
    → list_any (shows text) (xs ++ line ∷ []) ≡ (list_any (shows text) xs || shows text line)
push-any text xs line = search (rules, list_any-append, or-false)

-- one more answer, which the matrix may keep
pub matrix-more : {lines rest others : List (List ℕ)} {line old new : List ℕ} {seen_old seen_new : Seen}
    → rest ≡ line ∷ others → AddsEntry line old new seen_old seen_new → IsMatrixSoFar lines rest old seen_old
    → IsMatrixSoFar lines others new seen_new
matrix-more {seen_old} cut adds far = record {
  before = far.before ++ adds.answer ∷ [];
  whole = λ more are. rw append_assoc (far.whole (adds.answer ∷ more) (rw cut (adds.is, are)));
  written =
      let stay = repeated-stays far.before seen_old adds.answer far.agree in
      search (rules, staying-push, written_lines-append, adds.grown, far.written, stay);
  agree = λ text. search (rules, push-any, adds.seen, far.agree);
}

pub matrix-whole : {lines rest : List (List ℕ)} {output : List ℕ} {seen : Seen} → rest ≡ []
    → IsMatrixSoFar lines rest output seen → IsMatrix lines output
matrix-whole none far = (far.before, rw append-nil at (far.whole [] (rw none tt)), far.written)

-- what a line that parses adds, and what a refused line adds

-- an error whose line was written is the refusal of the line
error-refuses : (line old new : List ℕ) (error : ParseError) → IsErrorOf line error → AddsRefusal error old new
    → (refusal : Refusal) × IsRefusedAs line refusal × (new ≡ old ++ written_lines (refused_answer refusal ∷ []))
error-refuses line old new error is adds = search rules

pub refusal-adds : {T E : Type 0} (result : Result T E) (shown : Values → List ℕ) (line old new : List ℕ)
    (error : ParseError) → IsErrorOf line error
    → OnOk result (AddsRefusal error old new) → OnOk result (AddsAnswer shown line old new)
refusal-adds (Ok _) shown line old new error is adds =
    let refused = error-refuses line old new error is adds in
    search rules
refusal-adds (Err _) shown line old new error is adds = tt

-- what is shown of a triple, and then a line feed
pub shown-adds : {T E : Type 0} (result : Result T E) (shown : Values → List ℕ) (line old unended new : List ℕ)
    (t : Values) → ParsesAs line t
    → unended ≡ old ++ shown t → OnOk result (new ≡ unended ++ line_feed ∷ [])
    → OnOk result (AddsAnswer shown line old new)
shown-adds (Ok _) shown line old unended new t reads grown ended =
    record { answer = Shown (shown t); is = (t, reads, refl); grown = rw (ended, grown) (simp append_assoc) }
shown-adds (Err _) shown line old unended new t reads grown ended = tt

module _ (line old new : List ℕ) (seen_old seen_new : Seen) where
  unless-seen : (b : Bool) (text : List ℕ)
      → (if b then [] else text ++ line_feed ∷ []) ≡ written_lines (if b then [] else Shown text ∷ [])
  unless-seen b text = search rules

  pub read-enters : {T E : Type 0} (result : Result T E) (t : Values) (text : List ℕ) → ParsesAs line t
      → text ≡ canonical_string t
      → OnOk result (new ≡ old ++ (if contains_text seen_old text then [] else text ++ line_feed ∷ []))
      → OnOk result (HasOneMore seen_old seen_new text)
      → OnOk result (AddsEntry line old new seen_old seen_new)
  read-enters result t text reads is grown seen = search (rules, unless-seen)

  pub refusal-enters : {T E : Type 0} (result : Result T E) (error : ParseError) → IsErrorOf line error
      → OnOk result (AddsRefusal error old new)
      → OnOk result (AddsEntry line old new seen_old seen_old)
  refusal-enters (Ok _) error is adds =
      let refused = error-refuses line old new error is adds in
      record {
        answer = refused_answer refused.0;
        is = (refused.0, refused.1, refl);
        grown = refused.2;
        seen = λ text. rw or-false;
      }
  refusal-enters (Err _) error is adds = tt

bytes_eq-comm : (a b : List ℕ) → bytes_eq a b ≡ bytes_eq b a
bytes_eq-comm a b = search rules

-- a set into which a string is inserted has it and its earlier ones
pub inserted : (text : List ℕ) (old new : Seen)
    → UpdatesBy string_eq (λ other. bytes_eq text (string_bytes other)) old new true → HasOneMore old new text
inserted text old new updates other =
    rw (hash_set_updates_text text old new true updates other, bytes_eq-comm text other) (search rules)

-- an empty set has no string
pub none-seen : (seen : Seen) → IsEmpty seen → (text : List ℕ) → contains_text seen text ≡ false
none-seen seen empty text = search rules

-- The answers of mode `json`.

-- a list of strings has no floating-point number
pub no_float : (ts : List Values) → items_have_float (items_of (map json_of ts)) ≡ false
no_float [] = refl
no_float (t ∷ ts) = no_float ts

-- an empty input is not JSON
pub read-some : (input : List ℕ) (value : Data) → read input ≡ Some value → 0 < length input
unfolding serde_json_on_literals
read-some [] value found = absurd cc
read-some (b ∷ bs) value found = omega arith

-- the reason why a value has no answer is the reason why the input has no output
pub input_error : (input : List ℕ) (value : Data) (e : RunError) → read input ≡ Some value → IsJsonAnswerErrorOf value e
    → IsJsonInputErrorOf input e
input_error input value e found error = search (rules, read-some)

-- An input has at most one output in a mode, and none if it isn't a JSON list.

-- what is written for a JSON value
abbrev pub IsJsonText : Option Data → List ℕ → Type 0
IsJsonText found output =
    MatchOption found ⊥ (λ value. (answer : List ℕ) × IsJsonAnswer value answer × (output ≡ answer ++ line_feed ∷ []))

-- what follows from two facts of the value that was found
both : {A G : Type 0} (found : Option A) (P Q : A → Type 0) → ((x : A) → P x → Q x → G) → MatchOption found ⊥ P
    → MatchOption found ⊥ Q → G
both found P Q follows a b = search rules

-- lists whose elements have one partner, or some
pub zip-unique : {A B : Type 0} {R : A → B → Type 0} → ((a : A) (x y : B) → R a x → R a y → x ≡ y)
    → (us : List A) (xs ys : List B) → AllZip R us xs → AllZip R us ys → xs ≡ ys
zip-unique one (a ∷ us) (x ∷ xs) (y ∷ ys) are be = grind (arith, common_steps, zip-unique one us xs ys are.1 be.1)
zip-unique one _ _ _ are be = search rules

pub zip-some : {A B : Type 0} {R : A → B → Type 0} → ((a : A) → (b : B) × R a b) → (us : List A)
    → (bs : List B) × AllZip R us bs
zip-some some [] = ([], tt)
zip-some some (a ∷ us) = let b = some a in let bs = zip-some some us in (b.0 ∷ bs.0, (b.1, bs.1))

module _ (one : EveryStringHasOneOutcome) where
  pub answer-unique : (shown : Values → List ℕ) (line : List ℕ) (a b : Answer) → IsAnswer shown line a
      → IsAnswer shown line b → a ≡ b
  answer-unique shown line (Shown x) (Shown y) a b = let same = (one line).values a.0 b.0 a.1 b.1 in cc
  answer-unique shown line (Refused x) (Refused y) a b = let same = (one line).refusal a.0 b.0 a.1 b.1 in cc
  answer-unique shown line _ _ a b = let outcome = one line in search (rules, outcome.apart)

  pub answer-some : (shown : Values → List ℕ) (line : List ℕ) → (answer : Answer) × IsAnswer shown line answer
  answer-some shown line = elim ((one line).some) [
    | inl read ↦ (Shown (shown read.0), (read.0, read.1, refl))
    | inr refused ↦ (Refused (codes "error: " ++ refusal_line refused.0), (refused.0, refused.1, refl))
  ]

  pub answers-unique : (shown : Values → List ℕ) (lines : List (List ℕ)) (xs ys : List Answer)
      → AreAnswers shown lines xs → AreAnswers shown lines ys → xs ≡ ys
  answers-unique shown = zip-unique (answer-unique shown)

  lines-unique : (shown : Values → List ℕ) (input x y : List ℕ) → IsLineOutput shown (lines_of input) x
      → IsLineOutput shown (lines_of input) y → x ≡ y
  lines-unique shown input x y a b = search (rules, answers-unique)

  -- an element that parses has no error, and each other one has one error
  read-no-error : (value : Data) (t : Values) (error : JsonErrorValue) → error ≢ Parse None → JsonParsesAs value t
      → IsJsonErrorOf value error → ⊥
  read-no-error (string s) t error some reads is = let outcome = one s in search rules
  read-no-error _ t error some reads is = reads

  error-unique : (value : Data) (x y : JsonErrorValue) → x ≢ Parse None → y ≢ Parse None → IsJsonErrorOf value x
      → IsJsonErrorOf value y → x ≡ y
  error-unique (string s) (Parse (Some x)) (Parse (Some y)) some_x some_y a b =
      ap (λ (r : Refusal). Parse (Some r)) ((one s).refusal x y a b)
  error-unique _ NotText NotText some_x some_y a b = refl
  error-unique _ _ _ some_x some_y a b = search rules

  elements-unique : (elements : Items) (ts us : List Values) → ElementsParseAs elements ts → ElementsParseAs elements us
      → ts ≡ us
  elements-unique (item value values) (t ∷ ts) (u ∷ us) a b =
      let more = elements-unique values ts us a.1 b.1 in
      let first = both (as_str value) (λ s. ParsesAs s t) (λ s. ParsesAs s u) (λ s. (one s).values t u) a.0 b.0 in cc
  elements-unique _ _ _ a b = search rules

  elements-no-error : (elements : Items) (ts : List Values) (i : ℕ) (error : JsonErrorValue) → error ≢ Parse None
      → ElementsParseAs elements ts
      → MatchOption (get_item i elements) ⊥ (λ value. IsJsonErrorOf value error) → ⊥
  elements-no-error (item value values) (t ∷ ts) zero error some reads here = search (rules, read-no-error)
  elements-no-error (item value values) (t ∷ ts) (suc i) error some reads here =
      elements-no-error values ts i error some reads.1 here
  elements-no-error _ _ _ error some reads here = search rules

  found-no-error : (found : Option Data) (error : JsonErrorValue) → error ≢ Parse None
      → MatchOption found ⊥ (λ value. (t : Values) × JsonParsesAs value t)
      → MatchOption found ⊥ (λ value. IsJsonErrorOf value error) → ⊥
  found-no-error found error some = search (rules, both, read-no-error)

  first-unique : (elements : Items) (i j : ℕ) (x y : JsonErrorValue) → x ≢ Parse None → y ≢ Parse None
      → IsFirstError elements i x → IsFirstError elements j y
      → list_error_line (Element i x) ≡ list_error_line (Element j y)
  first-unique elements i j x y some_x some_y a b = search (rules, cases_lt, found-no-error, both, error-unique)

  list-no-error : (value : Data) (ts : List Values) (i : ℕ) (error : JsonErrorValue) → error ≢ Parse None
      → MatchOption (as_array value) ⊥ (λ items. ElementsParseAs items ts)
      → MatchOption (as_array value) ⊥ (λ items. IsFirstError items i error) → ⊥
  list-no-error value ts i error some = search (rules, both, elements-no-error)

  json-answer-unique : (value : Data) (x y : List ℕ) → IsJsonAnswer value x → IsJsonAnswer value y → x ≡ y
  json-answer-unique value x y is is2 = search (rules, both, elements-unique, first-unique, list-no-error)

  json-unique : (found : Option Data) (x y : List ℕ) → IsJsonText found x → IsJsonText found y → x ≡ y
  json-unique None x y a b = absurd a
  json-unique (Some value) x y a b = let same = json-answer-unique value a.0 b.0 a.1 b.1 in cc

  pub outputs-unique : (mode : Mode) (input x y : List ℕ) → IsOutput mode input x → IsOutput mode input y → x ≡ y
  outputs-unique mode input x y a b = search (rules, lines-unique, answers-unique, json-unique)

-- The laws of mode `matrix`.

-- two lines that parse have the same entry if and only if their canonical triples are equal

pub entries_are_canonical_triples : EveryStringHasOneOutcome → ParsedTriplesArePlain → CanonicalStringsAreKeys
    → EqualTextsEqualTriples → EntriesAreCanonicalTriples
entries_are_canonical_triples one plain settled equal a b t u reads_a reads_b = (
  λ shared.
      let first = (one a).values shared.1.0 t shared.1.1 reads_a in
      let second = (one b).values shared.2.0 u shared.2.1 reads_b in
      let back_t = settled.comes_back t (plain a t reads_a) in
      let back_u = settled.comes_back u (plain b u reads_b) in
      (equal (canonical_values t) (canonical_values u) back_t back_u).1
      (rw (← first, ← second) (sym shared.1.2 ∙ shared.2.2)),
  λ same. (canonical_string t, (t, reads_a, refl), (u, reads_b, rw same)),
)

-- the matrix keeps the first entry for each string and no other

pub entries-staying : (text : List ℕ) (before lines : List Answer)
    → entries_of text (kept_answers before lines)
    ≡ (if list_any (shows text) before then [] else take 1 (entries_of text lines))
entries-staying text before [] = search rules
entries-staying text before (line ∷ lines) =
    rw (filter-append, entries-staying text (before ++ line ∷ []) lines, push-any) (search rules)

pub refusals-staying : (before lines : List Answer)
    → filter is_refusal (kept_answers before lines) ≡ filter is_refusal lines
refusals-staying before [] = refl
refusals-staying before (line ∷ lines) =
    rw (filter-append, refusals-staying (before ++ line ∷ []) lines) (search rules)

-- each line is added to the matrix of the earlier ones

-- no element passes if and only if none is kept
pub none-passes : {X : Type 0} (test : X → Bool) (xs : List X) → filter test xs ≡ [] → list_any test xs ≡ false
none-passes test [] none = refl
none-passes test (x ∷ xs) none = grind (arith, common_steps, none-passes test xs)

pub one-passes : {X : Type 0} (test : X → Bool) (xs : List X) → ¬ (filter test xs ≡ []) → list_any test xs ≡ true
one-passes test [] some = absurd (some refl)
one-passes test (x ∷ xs) some = grind (arith, common_steps, one-passes test xs)

-- the canonical triple of each line that parses is there

pub first-entry : (text : List ℕ) (lines : List Answer) → list_any (shows text) lines ≡ true
    → take 1 (entries_of text lines) ≡ Shown text ∷ []
first-entry text [] some = absurd cc
first-entry text (line ∷ lines) some = let more = first-entry text lines in search (rules, same_text, more)

module _ (one : EveryStringHasOneOutcome) (line : List ℕ) (t : Values) (reads : ParsesAs line t) where
  own-entry : (answer : Answer) → IsAnswer canonical_string line answer → shows (canonical_string t) answer ≡ true
  own-entry (Shown text) is = rw (is.2, (one line).values is.0 t is.1 reads) (search rules)
  own-entry (Refused message) is = absurd ((one line).apart t reads (is.0, is.1))

  pub some-entry : (earlier back : List (List ℕ)) (answers : List Answer)
      → AreAnswers canonical_string (earlier ++ line ∷ back) answers
      → list_any (shows (canonical_string t)) answers ≡ true
  some-entry [] back (first ∷ others) are = search (rules, own-entry)
  some-entry (other ∷ earlier) back (first ∷ others) are =
      let more = some-entry earlier back others are.1 in search (rules, or-true, more)
  some-entry _ back _ are = absurd are

-- the entries of a matrix are their own matrix

-- a line whose entry is already there adds none
again-there : (xs : List Answer) (text other : List ℕ) → not (list_any (shows text) xs) ≡ false
    → (list_any (shows other) xs || bytes_eq other text) ≡ list_any (shows other) xs
again-there xs text other stays = search rules

stay-again : (before entries lines : List Answer)
    → ((text : List ℕ) → list_any (shows text) before ≡ list_any (shows text) entries)
    → kept_answers entries (only_entries (kept_answers before lines)) ≡ only_entries (kept_answers before lines)
stay-again before entries [] same = refl
stay-again before entries (Refused message ∷ lines) same =
    stay-again (before ++ Refused message ∷ []) entries lines (λ text. search (rules, push-any, or-false, same text))
stay-again before entries (Shown text ∷ lines) same =
    let gone = λ (is : is_kept_after before (Shown text) ≡ false).
    stay-again (before ++ Shown text ∷ []) entries lines
    (λ other. rw (push-any, again-there before text other is, same other)) in
    let there = stay-again (before ++ Shown text ∷ []) (entries ++ Shown text ∷ []) lines
    (λ other. rw (push-any, push-any, same other)) in
    let as_before = same text in search (rules, gone, there)

-- each entry is what mode `settle` writes for its own string
abbrev AreOwn : List Answer → Type 0
AreOwn lines = AreAnswers canonical_string (map answer_bytes (only_entries lines)) (only_entries lines)

staying-own : (before lines : List Answer) → AreOwn lines → AreOwn (kept_answers before lines)
staying-own before [] own = tt
staying-own before (line ∷ lines) own =
    let more = staying-own (before ++ line ∷ []) lines in search (rules, more)

module _ (one : EveryStringHasOneOutcome) (plain : ParsedTriplesArePlain) (round : RoundIsNormalStep)
    (keys : CanonicalStringsAreKeys) where
  -- a canonical triple stays, since it comes back and a round trip is a normal step
  canonical_values-stays : (t : Values) → ParsesAs (string_of (canonical_values t)) (canonical_values t)
      → canonical_values (canonical_values t) ≡ canonical_values t
  canonical_values-stays t back =
      let u = canonical_values t in
      let step = (one (string_of u)).values (normal_step u) u (round u (plain (string_of u) u back)) back in
      rw (step, step)

  own-line : (line text : List ℕ) → IsAnswer canonical_string line (Shown text)
      → IsAnswer canonical_string text (Shown text)
  own-line line text is =
      let back = keys.comes_back is.0 (plain line is.0 is.1) in (
        canonical_values is.0,
        subst (λ (x : List ℕ). ParsesAs x (canonical_values is.0)) (sym is.2) back,
        is.2 ∙ ap string_of (sym (canonical_values-stays is.0 back)),
      )

  are-own : (lines : List (List ℕ)) (answers : List Answer) → AreAnswers canonical_string lines answers → AreOwn answers
  are-own (line ∷ lines) (Shown text ∷ answers) are = (own-line line text are.0, are-own lines answers are.1)
  are-own (line ∷ lines) (Refused message ∷ answers) are = are-own lines answers are.1
  are-own _ _ are = search rules

  pub matrices_are_their_own : MatricesAreTheirOwn
  matrices_are_their_own lines answers are = search (rules, staying-own, are-own, stay-again)
