-- Filters: the laws, answers in a buffer, the lines that were answered so far, and a filter between its reads.
pub mod Runs
pub use Runs.*

-- The laws of what a filter writes and how it ends.

-- an answer to a line that fits
pub fitting-answer : (mode : LineMode) (size : ℕ) (line : List ℕ) (answer : Answer) → length line < size
    → (¬ (IsUtf8 line) → answer ≡ not_utf8) → (IsUtf8 line → IsAnswer (shown_by mode) line answer)
    → IsFilterAnswer mode size line answer
fitting-answer mode size line answer less other text = search rules

-- a line is too long, or it fits and is not UTF-8, or it fits and is UTF-8
line-kind : (size : ℕ) (line : List ℕ) (b : Bool) → is_utf8 line ≡ b
    → (size ≤ length line) ⊎ ((length line < size) × ((IsUtf8 line → ⊥) ⊎ IsUtf8 line))
line-kind size line true is = let utf8 = IsUtf8-from_is_utf8 line is in grind (arith, common_steps)
line-kind size line false is = let other = not-utf8 line is in grind (arith, common_steps)

module _ (one : EveryStringHasOneOutcome) (mode : LineMode) (size : ℕ) where
  filter_answer-some : (line : List ℕ) → (answer : Answer) × IsFilterAnswer mode size line answer
  filter_answer-some line =
      let found = answer-some one (shown_by mode) line in
      elim (line-kind size line (is_utf8 line) refl) [
        | inl most ↦ (too_long, search rules)
        | inr (less, inl other) ↦ (not_utf8, search (rules, fitting-answer))
        | inr (less, inr utf8) ↦ (found.0, search (rules, fitting-answer))
      ]

  filter_answer-unique : (line : List ℕ) (x y : Answer) → IsFilterAnswer mode size line x
      → IsFilterAnswer mode size line y → x ≡ y
  filter_answer-unique line x y a b =
      let kind = line-kind size line (is_utf8 line) refl in
      let unique = answer-unique one (shown_by mode) line x y in grind (arith, common_steps, unique)

pub every_input_is_filtered : EveryStringHasOneOutcome → EveryInputIsFiltered
every_input_is_filtered one mode size lines =
    let all = zip-some (filter_answer-some one mode size) lines in
    record {
      output = written_lines all.0;
      is = (all.0, all.1, refl);
      only = λ other is. rw (is.2, zip-unique (filter_answer-unique one mode size) lines is.0 all.0 is.1 all.1);
    }

-- to lines that fit and are UTF-8, the answers of a filter are those of a run
same-answers : (mode : LineMode) (size : ℕ) (lines : List (List ℕ)) (answers : List Answer)
    → AllByRecursion IsUtf8 lines → AllByRecursion (λ line. length line < size) lines
    → AllZip (IsFilterAnswer mode size) lines answers ↔ AreAnswers (shown_by mode) lines answers
same-answers mode size (line ∷ lines) (answer ∷ answers) utf8 short =
    let more = same-answers mode size lines answers utf8.1 short.1 in
    let first : IsAnswer (shown_by mode) line answer → IsFilterAnswer mode size line answer =
    λ is. fitting-answer mode size line answer short.0 (λ other. absurd (other utf8.0)) (λ _. is) in
    (λ are. (are.0.text short.0 utf8.0, more.0 are.1), λ are. (first are.0, more.1 are.1))
same-answers mode size _ _ utf8 short = search rules

-- the run of the same name
as-run : (mode : LineMode) (input output : List ℕ)
    → IsLineOutput (shown_by mode) (lines_of input) output ↔ IsOutput (run_mode mode) input output
as-run mode input output = search rules

pub filters_agree_with_runs : FiltersAgreeWithRuns
filters_agree_with_runs mode size input output utf8 short =
    let each = lines-utf8 input utf8 in
    let same = λ (answers : List Answer). same-answers mode size (lines_of input) answers each short in
    search (rules, same, as-run mode input output)

module _ (mode : LineMode) (size : ℕ) (input : List ℕ) (writer : Use) (fewer : length input < 2 ^ 64 - 1) where
  pub end-one-way : (result : Result (Unit {0}) FilterError) (run : FilterGives mode size input writer result)
      → FilterEnds run.reader writer run.ends.input run.ends.answers run.ends.output result
      → (result ≡ Ok tt) × (output : List ℕ) × AreFilterAnswers mode size (lines_of input) output × Takes writer output
  end-one-way result run ends = search (rules, input-is, not-both, input-within)

-- Answers in a buffer, and the lines that were answered so far.

-- a text after another in a buffer
pub pushes-then : {a b old mid new : List ℕ} {at m end : ℕ} → Pushes a old at mid m → Pushes b mid m new end
    → Pushes (a ++ b) old at new end
pushes-then first next = search (rules, append_assoc, length-append)

-- what is shown of a triple, or the words of a refusal, and then a line feed
pub shown-pushes : (mode : LineMode) (line : List ℕ) (t : Values) {text old mid new : List ℕ}
    {at m end : ℕ} → IsUtf8 line → ParsesAs line t → text ≡ shown_by mode t
    → Pushes text old at mid m → Pushes (line_feed ∷ []) mid m new end
    → PushesAnswer (IsShortAnswer mode line) old at new end
shown-pushes mode line t {text} utf8 reads is first next = record {
  answer = Shown text;
  is = record { text = λ _. (t, reads, is); other = λ other. absurd (other utf8) };
  pushed = pushes-then first next;
}

pub refused-pushes : (mode : LineMode) (line : List ℕ) (refusal : Refusal) {old one mid new : List ℕ}
    {at a m end : ℕ} → IsUtf8 line → IsRefusedAs line refusal
    → Pushes (codes "error: ") old at one a → Pushes (refusal_line refusal) one a mid m
    → Pushes (line_feed ∷ []) mid m new end
    → PushesAnswer (IsShortAnswer mode line) old at new end
refused-pushes mode line refusal utf8 refused words first next = record {
  answer = Refused (codes "error: " ++ refusal_line refusal);
  is = record { text = λ _. (refusal, refused, refl); other = λ other. absurd (other utf8) };
  pushed = pushes-then (pushes-then words first) next;
}

-- four words are short
short-word : {A : Type 0} (name : A → List ℕ) (most : ℕ) → 1 ≤ most → ((a : A) → length (name a) ≤ most)
    → (o : Option A) → length (spaced_word (option_map name o)) ≤ most + 1
short-word name most some short o = search rules

pub facts-short : (t : Values) → length (facts_of t) ≤ 32
facts-short t =
    let order = short-word endianness_name 6 (lit≤ tt) short-endianness (endianness t) in
    let width = short-word width_name 2 (lit≤ tt) short-width (pointer_width t) in
    let convention = short-word convention_name 15 (lit≤ tt) short-convention (calling_convention t) in
    let model = short-word model_name 5 (lit≤ tt) short-model (data_model t) in
    simp length-append (omega arith)

-- what a mode shows is not much longer than the line
pub shown-short : PrintedStringsGrowAtMost → CanonicalStringsGrowAtMost → (mode : LineMode) (line : List ℕ) (t : Values)
    → ParsesAs line t → length (shown_by mode t) ≤ length line + 54
shown-short printed canonical mode line t reads = search (rules, facts-short, length-append)

-- no byte is no line feed
pub no-bytes : HasNoFeed []
no-bytes k d below = absurd (omega (arith, below))

-- lists of lines
zip-append : {A B : Type 0} (R : A → B → Type 0) (xs us : List A) (ys vs : List B) → AllZip R xs ys → AllZip R us vs
    → AllZip R (xs ++ us) (ys ++ vs)
zip-append R (a ∷ xs) us (b ∷ ys) vs all is = (all.0, zip-append R xs us ys vs all.1 is)
zip-append R _ us _ vs all is = search rules

each-append : {A : Type 0} (P : A → Type 0) (xs ys : List A) → AllByRecursion P xs → AllByRecursion P ys
    → AllByRecursion P (xs ++ ys)
each-append P xs ys all is = grind (arith, common_steps)

feeds-append : (xs ys : List (List ℕ)) → with_feeds (xs ++ ys) ≡ with_feeds xs ++ with_feeds ys
feeds-append [] ys = refl
feeds-append (x ∷ xs) ys = grind (arith, common_steps, append_assoc, feeds-append xs ys)

answers-append : (mode : LineMode) (size : ℕ) (xs us : List (List ℕ)) (ys vs : List ℕ)
    → AreFilterAnswers mode size xs ys → AreFilterAnswers mode size us vs
    → AreFilterAnswers mode size (xs ++ us) (ys ++ vs)
answers-append mode size xs us ys vs are more = search (rules, zip-append, written_lines-append)

module _ {mode : LineMode} {size : ℕ} where
  pub filtered-none : (bytes : List ℕ) → IsFilteredTo mode size bytes bytes []
  filtered-none bytes = record { lines = []; whole = refl; each = tt; answered = ([], tt, refl) }

  -- one after the other
  pub filtered-then : {bytes mid rest first next : List ℕ} → IsFilteredTo mode size bytes mid first
      → IsFilteredTo mode size mid rest next
      → IsFilteredTo mode size bytes rest (first ++ next)
  filtered-then a b = search (rules, append_assoc, feeds-append, each-append, answers-append)

  -- one line
  pub filtered-line : (line rest : List ℕ) (answer : Answer) → HasNoFeed line → IsFilterAnswer mode size line answer
      → IsFilteredTo mode size (line ++ (line_feed ∷ rest)) rest (written_lines (answer ∷ []))
  filtered-line line rest answer none is =
      let answered : AreFilterAnswers mode size (line ∷ []) (written_lines (answer ∷ [])) =
      (answer ∷ [], (is, tt), refl) in search (rules, append_assoc)

  -- more bytes came
  pub filtered-more : {bytes rest output : List ℕ} (more : List ℕ) → IsFilteredTo mode size bytes rest output
      → IsFilteredTo mode size (bytes ++ more) (rest ++ more) output
  filtered-more more far = search (rules, append_assoc)

-- the lines of bytes, one taken off after the other, where `f` takes the lines from the parts between line feeds
abbrev split : List ℕ → List (List ℕ)
split bytes = slice_split (λ b. b == line_feed) bytes

module _ (f : List (List ℕ) → List (List ℕ))
    (first : (part : List ℕ) (parts : List (List ℕ)) → 0 < length parts → f (part ∷ parts) ≡ part ∷ f parts) where
  parts-ended : (lines : List (List ℕ)) (rest : List ℕ) → AllByRecursion HasNoFeed lines
      → f (split (with_feeds lines ++ rest)) ≡ lines ++ f (split rest)
  parts-ended [] rest each = refl
  parts-ended (line ∷ lines) rest each =
      let more = parts-ended lines rest each.1 in
      search (rules, append_assoc, slice_split_at, first, length-slice_split, more)

  -- the answers to the lines so far, and to those of the rest
  lines-answered : {mode : LineMode} {size : ℕ} {bytes rest output : List ℕ} (more : List ℕ)
      → IsFilteredTo mode size bytes rest output → AreFilterAnswers mode size (f (split rest)) more
      → AreFilterAnswers mode size (f (split bytes)) (output ++ more)
  lines-answered {mode} {size} {rest} {output} more far are =
      rw (far.whole, parts-ended far.lines rest far.each)
      (answers-append mode size far.lines (f (split rest)) output more far.answered are)

lines-last : (rest : List ℕ) → HasNoFeed rest → 0 < length rest → lines_of rest ≡ rest ∷ []
lines-last rest none some = search (rules, slice_split_none)

without-last-first : (part : List ℕ) (parts : List (List ℕ)) → 0 < length parts
    → parts_without_last (part ∷ parts) ≡ part ∷ parts_without_last parts
without-last-first part parts some = search rules

module _ {mode : LineMode} {size : ℕ} {bytes rest output : List ℕ}
    (far : IsFilteredTo mode size bytes rest output) where
  -- the lines that have ended were answered
  pub filtered-so-far : HasNoFeed rest → AreFilterAnswers mode size (ended_lines_of bytes) output
  filtered-so-far none =
      rw append-nil at (lines-answered parts_without_last without-last-first [] far
      (rw (slice_split_none (λ b. b == line_feed) rest none) ([], tt, refl)))

  -- what was answered is a beginning of the answers to all lines that have ended
  pub filtered-part : EveryStringHasOneOutcome
      → (answers : List ℕ) × AreFilterAnswers mode size (ended_lines_of bytes) answers × (more : List ℕ)
      × (answers ≡ output ++ more)
  filtered-part one =
      let others = every_input_is_filtered one mode size (ended_lines_of rest) in
      let are = lines-answered parts_without_last without-last-first others.output far others.is in
      (output ++ others.output, are, others.output, refl)

  -- all lines were answered: there is no rest, or its answer is written too
  pub filtered-end : (last : List ℕ) → HasNoFeed rest
      → ((rest ≡ []) × (last ≡ []))
      ⊎ ((0 < length rest) × (answer : Answer) × IsFilterAnswer mode size rest answer
      × (last ≡ written_lines (answer ∷ [])))
      → AreFilterAnswers mode size (lines_of bytes) (output ++ last)
  filtered-end last none end =
      lines-answered parts_without_empty_last (λ part parts some. stays-first part parts (omega (arith, some))) last
      far (elim end [
        | inl bare ↦ rw (bare.0, bare.1) ([], tt, refl)
        | inr line ↦ rw (lines-last rest none line.0) (line.1 ∷ [], (line.2, tt), line.3)
      ])

-- the answer to a line of which a part came before
line-answer : (mode : LineMode) (late : Bool) (size : ℕ) (before line : List ℕ) (answer : Answer)
    → IsLate late size before → length line < size
    → IsLineAnswer mode late line answer → IsFilterAnswer mode size (before ++ line) answer
line-answer mode late size before line answer fits less is = search (rules, length-append, fitting-answer)

pub late-no-feed : (late : Bool) (size : ℕ) (before line : List ℕ) → IsLate late size before → HasNoFeed line
    → HasNoFeed (before ++ line)
late-no-feed late size before line fits none = grind (arith, common_steps)

module _ (mode : LineMode) (late : Bool) (bytes : List ℕ) where
  pub answers-none : AnswersLines mode late bytes late bytes []
  answers-none size before within fits = (before, filtered-none (before ++ bytes), fits)

  -- one more line
  pub answers-line : (late_then : Bool) (rest output : List ℕ) (at : ℕ) (answer : Answer)
      → AnswersLines mode late bytes late_then rest output
      → length rest ≤ length bytes → IsLineEnd rest (Some at) → IsLineAnswer mode late_then (take at rest) answer
      → AnswersLines mode late bytes false (drop (at + 1) rest) (output ++ written_lines (answer ∷ []))
  answers-line late_then rest output at answer far shorter ends is size before within fits =
      let now = far size before within fits in
      let line = take at rest in
      let less : length line < size = omega (arith, length-take at rest, ends.0, shorter, within) in
      let none = late-no-feed late_then size now.0 line now.2 ends.1 in
      let one = line-answer mode late_then size now.0 line answer now.2 less is in
      ([], search (rules, filtered-then, filtered-line, append_assoc), refl)

-- the last line
pub rest-answered : (mode : LineMode) (late : Bool) (bytes : List ℕ) (answer : Answer)
    → (late ≡ false → 0 < length bytes) → IsLineAnswer mode late bytes answer
    → AnswersRest mode late bytes (written_lines (answer ∷ []))
rest-answered mode late bytes answer some is = search (rules, length-append, line-answer)

-- a slice from an index to the end
pub rest-of : (bytes : List ℕ) (start : ℕ) → take (length bytes - start) (drop start bytes) ≡ drop start bytes
rest-of bytes start = take_all (length bytes - start) (drop start bytes) (omega (arith, length-drop start bytes))

-- one more line was answered
pub line-step : (mode : LineMode) (late late_then : Bool) (bytes : List ℕ) (start at : ℕ) (gone more : List ℕ)
    (used : ℕ) {old new : List ℕ} {free end : ℕ}
    → AnswersLines mode late bytes late_then (drop start bytes) (gone ++ take used old) → start ≤ length bytes
    → IsLineEnd (take (length bytes - start) (drop start bytes)) (Some at)
    → PushesAnswer (IsLineAnswer mode late_then (take (start + at - start) (drop start bytes))) old free new end
    → more ++ take free old ≡ take used old
    → AnswersLines mode late bytes false (drop (start + at + 1) bytes) ((gone ++ more) ++ take end new)
line-step mode late late_then bytes start at gone more used {old} {new} {free} {end} far within ends pushed room =
    let same : start + at - start ≡ at = omega arith in
    let along : start + at + 1 ≡ start + (at + 1) = omega arith in
    let next = answers-line mode late bytes late_then (drop start bytes) (gone ++ take used old) at pushed.answer far
    (omega (arith, length-drop start bytes)) (rw (rest-of bytes start) at ends) (rw same at pushed.is) in
    let written : (gone ++ more) ++ take end new ≡ (gone ++ take used old) ++ written_lines (pushed.answer ∷ []) =
    rw (pushed.pushed.grown, ← room) (simp append_assoc) in
    rw (along, ← (drop-drop (at + 1) start bytes), written) next

-- what was put is within the buffer
pub pushed-within : {text old new : List ℕ} {at end : ℕ} → at ≤ length old → Pushes text old at new end
    → end ≤ length new
pushed-within within pushed = grind (arith, common_steps)

-- what was used of the buffer was not written whole, after what has gone
pub lines-failed : (mode : LineMode) (late late_after : Bool) (bytes rest gone used : List ℕ) {a b c : State}
    → AnswersLines mode late bytes late_after rest (gone ++ used) → IsUnfailed (from_to a b) → OnlyMoves (from_to a b)
    → Takes (from_to a b) gone → HasFailed (from_to b c) → TakesBeginning (from_to b c) used → StopsLast (from_to b c)
    → LinesAnswered mode late bytes (from_to a c) (Err filter_error.Write)
lines-failed mode late late_after bytes rest gone used {a} {b} {c} answered unfailed moves takes failed begun last =
    let part = takes-part used takes begun in
    let failures : HasFailed (from_to a c) = omega (arith, failed, unfailed) in
    let stops : StopsLast (from_to a c) = (omega (arith, last.0, moves), last.1) in
    (refl, failures, gone ++ used, late_after, rest, answered, part.0, part.1, stops)

-- A filter between its reads, and its ends.

-- the reads that gave these bytes, each after the answers to all lines that had ended
abbrev pub PromptReads : LineMode → ℕ → Use → Use → List ℕ → Type 0
PromptReads mode size input written bytes =
    (reads : List Call) × (input.calls_after ≡ reads ++ input.calls_before) × (bytes_of reads ≡ bytes) × IsPrompt mode
    size (bytes_of written.calls_before) reads

-- the lines that end in what the reads gave were answered, up to this rest
pub record HasAnswered (mode : LineMode) (size : ℕ) (rest : List ℕ) (input written : Use) (count : ℕ) : Type 0 where
  pub bytes : List ℕ
  pub output : List ℕ
  pub given : Gives input bytes
  pub taken : Takes written output
  pub filtered : IsFilteredTo mode size bytes rest output
  pub counted : count ≤ length bytes
  pub not_ended : 0 < count → ends_last input.calls_after ≡ false
  pub input_unfailed : IsUnfailed input
  pub written_unfailed : IsUnfailed written
  pub only_reads : OnlyMoves input
  pub only_writes : OnlyMoves written
  pub prompt : PromptReads mode size input written bytes

-- of the line that has not ended, the buffer holds what is not late
pub record IsBetweenReads (mode : LineMode) (size : ℕ) (late : Bool) (held : List ℕ) (input written : Use)
    (count : ℕ) : Type 0 where
  pub before : List ℕ
  pub answered : HasAnswered mode size (before ++ held) input written count
  pub is_late : IsLate late size before
  pub none : HasNoFeed held

-- a beginning of bytes is one of these and more
beginning : (n : ℕ) (bytes more : List ℕ) → take n bytes ≡ take (length (take n bytes)) (bytes ++ more)
beginning n bytes more = grind (arith, common_steps)

pub between-none : {mode : LineMode} {size : ℕ} {r w : State}
    → IsBetweenReads mode size false [] (from_to r r) (from_to w w) 0
between-none {mode} {size} {r} {w} =
    let given : Gives (from_to r r) [] = record { moved = sym (append-nil _); known = Consumes-nil r.bytes } in
    let taken : Takes (from_to w w) [] = takes-none in
    let prompt : PromptReads mode size (from_to r r) (from_to w w) [] = ([], refl, refl, tt) in
    let answered : HasAnswered mode size [] (from_to r r) (from_to w w) 0 = search (rules, filtered-none) in
    record { before = []; answered = answered; is_late = refl; none = no-bytes }

-- what is held after the lines that ended; what is held of a line that is too long is late
pub between-kept : {mode : LineMode} {size : ℕ} {late : Bool} {rest : List ℕ} {input written : Use} {count : ℕ}
    (late_after : Bool) (new : List ℕ) (held : ℕ)
    → IsKept size late rest new held late_after → IsBetweenReads mode size late rest input written count
    → IsBetweenReads mode size late_after (take held new) input written count
between-kept {mode} {size} {late} {rest} {input} {written} {count} late_after new held (inl dropped) state =
    let all : HasAnswered mode size ((state.before ++ rest) ++ []) input written count = rw append-nil state.answered in
    let free = late-no-feed late size state.before rest state.is_late state.none in
    let long : size ≤ length (state.before ++ rest) = search (rules, length-append) in
    rw (dropped.1, dropped.0) (search (rules, no-bytes))
between-kept late_after new held (inr kept) state = search (rules, common_steps)

module _ {mode : LineMode} {size count : ℕ} {late : Bool} {held : List ℕ} {r0 r1 w0 w1 : State}
    (state : IsBetweenReads mode size late held (from_to r0 r1) (from_to w0 w1) count) where
  free : HasNoFeed (state.before ++ held)
  free = late-no-feed late size state.before held state.is_late state.none

  -- the lines that have ended were answered
  so-far : AreFilterAnswers mode size (ended_lines_of state.answered.bytes) state.answered.output
  so-far = filtered-so-far state.answered.filtered free

  -- all reads were made
  pub ends-endless : 2 ^ 64 - 1 ≤ count
      → FilterEndsAs mode size (from_to r0 r1) (from_to w0 w1) (Err filter_error.Endless)
  ends-endless all = search (rules, so-far)

  -- one more read, after what was written
  module _ (r2 : State) (call : Call) (known : Consumes r1.bytes r2.bytes (bytes_in call))
      (is : r2.calls ≡ call ∷ (After (bytes_of w1.calls) ∷ r1.calls)) where
    one-more : Gives (from_to r0 r2) (state.answered.bytes ++ bytes_in call)
        × (failures_in r2.calls ≡ failures_in r0.calls + failure_in call)
        × (stops_in r2.calls ≡ stops_in r0.calls + stop_in call)
        × PromptReads mode size (from_to r0 r2) (from_to w0 w1) (state.answered.bytes ++ bytes_in call)
    one-more =
        let it = state.answered in
        let reads = it.prompt in (
          grind (arith, common_steps),
          omega (arith, ap failures_in is, it.input_unfailed),
          omega (arith, ap stops_in is, it.only_reads),
          (
            call ∷ (After (bytes_of w1.calls) ∷ reads.0),
            rw (is, reads.1),
            simp (append-nil, reads.2),
            ((it.output, rw (← reads.2) at so-far, it.taken.moved), reads.3),
          ),
        )

    -- it was the last
    ends : {result : Result (Unit {0}) FilterError} {w : State} {output : List ℕ} (answers : List ℕ)
        → Takes (from_to w0 w) output
        → AreFilterAnswers mode size (complete_lines (is_end call) (state.answered.bytes ++ bytes_in call)) answers
        → StopsOnce (from_to r0 r2) → StopsOnce (from_to w0 w)
        → FilterEnds (from_to r0 r2) (from_to w0 w) (state.answered.bytes ++ bytes_in call) answers output result
        → FilterEndsAs mode size (from_to r0 r2) (from_to w0 w) result
    ends answers takes answered reads writes by_result =
        let read = one-more in search (rules, common_steps)

  -- a read that failed
  pub ends-read : {r2 : State} → Keeps r1.bytes r2.bytes → r2.calls ≡ Failed ∷ (After (bytes_of w1.calls) ∷ r1.calls)
      → FilterEndsAs mode size (from_to r0 r2) (from_to w0 w1) (Err filter_error.Read)
  ends-read {r2} keeps is =
      let none = Consumes-kept r1.bytes r1.bytes r2.bytes [] (Consumes-nil r1.bytes) keeps in
      let read = one-more r2 Failed none is in search (rules, common_steps, so-far, append-nil)

  -- a read found the end, and the last line was answered
  whole : {last : List ℕ} → length held < size → AnswersRest mode late held last
      → AreFilterAnswers mode size (complete_lines true (state.answered.bytes ++ [])) (state.answered.output ++ last)
  whole {last} short answers =
      rw (append-nil state.answered.bytes)
      (filtered-end state.answered.filtered last free (answers.rest size state.before short state.is_late))

  module _ {r2 w2 : State} (known : Consumes r1.bytes r2.bytes [])
      (is : r2.calls ≡ Ended ∷ (After (bytes_of w1.calls) ∷ r1.calls)) (at_end : IsAtEnd r2.bytes)
      (short : length held < size) where
    pub ends-rest : (result : Result (Unit {0}) FilterError) → RestAnswered mode late held (from_to w1 w2) result
        → FilterEndsAs mode size (from_to r0 r2) (from_to w0 w2) result
    ends-rest (Ok u) answers =
        let it = state.answered in
        let read = one-more r2 Ended known is in
        let last : StopsLast (from_to r0 r2) = (read.2, ap stops_last is) in
        let written : StopsLast (from_to w0 w2) = (omega (arith, answers.0.2.0, it.only_writes), answers.0.2.1) in
        ends r2 Ended known is (it.output ++ answers.1) (takes-then it.taken answers.2) (whole short answers.3)
        (inr last) (inr written) (
          (ap ends_last is, at_end, omega (arith, read.1), last),
          (answers.0.0, answers.0.1 ∙ it.written_unfailed, written),
          refl,
        )
    ends-rest (Err e) answers =
        let it = state.answered in
        let read = one-more r2 Ended known is in
        let part = takes-part answers.2 it.taken (answers.4, answers.5) in
        rw answers.0
        (ends r2 Ended known is (it.output ++ answers.2) part.1 (whole short answers.3) (inr (read.2, ap stops_last is))
        (inr (omega (arith, answers.6.0, it.only_writes), answers.6.1))
        (omega (arith, read.1), omega (arith, answers.1, it.written_unfailed), part.0, refl))

  -- a read gave more, which the buffer holds after what it held: the lines so far, up to that
  far : (more piece : List ℕ) → piece ≡ held ++ more
      → IsFilteredTo mode size (state.answered.bytes ++ more) (state.before ++ piece) state.answered.output
  far more piece holds = search (rules, append_assoc, filtered-more)

  module _ {r2 w2 : State} {more piece : List ℕ} (known : Consumes r1.bytes r2.bytes more)
      (is : r2.calls ≡ Moved more ∷ (After (bytes_of w1.calls) ∷ r1.calls)) (holds : piece ≡ held ++ more)
      (fits : length piece ≤ size) where
    -- the lines that ended were answered
    pub between-more : (start : ℕ) {late_after : Bool} → 0 < length more
        → LinesAnswered mode late piece (from_to w1 w2) (Ok (start, late_after))
        → IsBetweenReads mode size late_after (drop start piece) (from_to r0 r2) (from_to w0 w2) (count + 1)
    between-more start some answers =
        let read = one-more r2 (Moved more) known is in
        let next = answers.5 size state.before fits state.is_late in
        let taken = takes-then state.answered.taken answers.4 in
        let filtered = filtered-then (far more piece holds) next.1 in search (rules, common_steps, length-append)

    -- a write failed
    pub ends-write : EveryStringHasOneOutcome → (e : FilterError)
        → LinesAnswered mode late piece (from_to w1 w2) (Err e)
        → FilterEndsAs mode size (from_to r0 r2) (from_to w0 w2) (Err filter_error.Write)
    ends-write one e answers =
        let it = state.answered in
        let read = one-more r2 (Moved more) known is in
        let next = answers.5 size state.before fits state.is_late in
        let part = takes-part answers.2 it.taken (answers.6, answers.7) in
        let all = filtered-part (filtered-then (far more piece holds) next.1) one in
        let written = it.output ++ answers.2 in
        ends r2 (Moved more) known is all.0 part.1 all.1 (inl (omega arith))
        (inr (omega (arith, answers.8.0, it.only_writes), answers.8.1)) (
          omega arith,
          omega (arith, answers.1, it.written_unfailed),
          length (take part.0 written),
          rw all.3 (beginning part.0 written all.2),
        )

-- what was searched before a read stays so
pub searched-front : (n : ℕ) (front more piece : List ℕ) → length front ≡ n → piece ≡ front ++ more → HasNoFeed front
    → HasNoFeed (take n piece)
searched-front n front more piece size is none = search (rules, take-append_seam)

-- a read that gave some byte moved it, and one that gave none, with room for one, found the end
module _ {before after : List Call} (count : ℕ) (buffer : List ℕ)
    (is : after ≡ read_call {E = ⊥} (Ok count) buffer ∷ before) where
  pub some-read : (count ≡ 0 → ⊥) → after ≡ Moved (take count buffer) ∷ before
  some-read some = rw (ne_eqb count 0 some) at is

  pub none-read : count ≡ 0 → 0 < length buffer → after ≡ Ended ∷ before
  none-read none room = rw (none, ne_eqb (length buffer) 0 (λ bad. omega (arith, bad, room))) at is

-- what a buffer holds after a read into its end, of which it keeps the length
pub record HasRead (held taken size : ℕ) (xs ys : List ℕ) : Type 0 where
  pub room : 0 < length ys
  pub piece : take (held + taken) (put_mid held (length xs - held) xs ys) ≡ take held xs ++ take taken ys
  pub fits : length (take (held + taken) (put_mid held (length xs - held) xs ys)) ≤ size
  pub whole : length (put_mid held (length xs - held) xs ys) ≡ size

pub has-read : (held taken size : ℕ) (xs ys : List ℕ) → held < length xs → length xs ≡ size → taken ≤ length ys
    → length ys ≡ length (take (length xs - held) (drop held xs)) → HasRead held taken size xs ys
has-read held taken size xs ys within same count room =
    search (rules, length-take, length-drop, places, take-append-add, take-append-le)
