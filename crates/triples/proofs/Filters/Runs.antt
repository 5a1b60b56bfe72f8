-- Runs: what reads gave and writes took, that each input has an outcome, and the laws.
pub mod Outputs
pub use Outputs.*

-- What reads gave and writes took, call after call; and which input and output that makes.

-- a call that didn't fail has not failed
pub not-both : (it : Use) → IsUnfailed it → HasFailed it → ⊥
not-both it unfailed failed = omega (arith, unfailed, failed)

-- a reader or writer between two calls: its bytes, if they are known, and its calls so far
pub record State : Type 0 where
  pub bytes : Option (List ℕ)
  pub calls : List Call

-- what was done from one state to another
abbrev pub from_to : State → State → Use
from_to a b =
    record { bytes_before = a.bytes; bytes_after = b.bytes; calls_before = a.calls; calls_after = b.calls }

-- one call after the other
module _ {a b c : State} {x : List ℕ} where
  pub takes-then : {y : List ℕ} → Takes (from_to a b) x → Takes (from_to b c) y → Takes (from_to a c) (x ++ y)
  takes-then first next = search (rules, append_assoc)

  -- a call that moved nothing
  pub takes-kept : Takes (from_to a b) x → Keeps b.bytes c.bytes → bytes_of c.calls ≡ bytes_of b.calls
      → Takes (from_to a c) x
  takes-kept first keeps same = search rules

  -- what was taken before, and a beginning of more
  pub takes-part : (y : List ℕ) → Takes (from_to a b) x → TakesBeginning (from_to b c) y
      → TakesBeginning (from_to a c) (x ++ y)
  takes-part y first next = (length x + next.0, rw (take-append-add x y next.0) (takes-then first next.1))

pub takes-none : {a : State} → Takes (from_to a a) []
takes-none {a} = record { moved = sym (append-nil _); known = Appends-nil a.bytes }

-- what was taken is a beginning of these
pub takes-beginning : {writer : Use} {a c : List ℕ} (b : List ℕ) → Takes writer a → c ≡ a ++ b
    → TakesBeginning writer c
takes-beginning {a} b takes e = (length a, rw (e, take-append_seam a b) takes)

pub takes-all : {writer : Use} {a : List ℕ} → Takes writer a → TakesBeginning writer a
takes-all {a} takes = takes-beginning [] takes (sym (append-nil a))

pub takes-more : {writer : Use} (a b : List ℕ) → TakesBeginning writer a → TakesBeginning writer (a ++ b)
takes-more a b begun =
    takes-beginning (drop begun.0 a ++ b) begun.1
    (ap (λ (t : List ℕ). t ++ b) (sym (take-append-drop begun.0 a)) ∙ append_assoc (take begun.0 a) (drop begun.0 a) b)

-- the bytes that the reads gave are the input
module _ (reader : Use) (input text : List ℕ) where
  given-once : Gives reader input → Gives reader text → input ≡ text
  given-once a b = append_cancel_left (bytes_of reader.calls_before) input text (sym a.moved ∙ b.moved)

  pub input-is : IsInput reader text → Gives reader input → IsReadWhole reader → input ≡ text
  input-is is gives whole = search (rules, given-once)

  consumed-within : (before after : Option (List ℕ)) → Consumes before after input
      → IfSome before (λ t. length input ≤ length t)
  consumed-within before after consumes = search (rules, length-append)

  -- without the end, they are no more than it
  pub input-within : IsInput reader text → Gives reader input → length input ≤ length text
  input-within is gives = search (rules, given-once, consumed-within)

-- what the writes took is the output
pub output-is : (writer : Use) (output bytes : List ℕ) → IsWritten writer bytes → Takes writer output → output ≡ bytes
output-is writer output bytes is takes = search (rules, append_cancel_left)

-- The laws of how runs end.

-- why an input has no output, whatever memory there is
abbrev pub IsInputError : Mode → List ℕ → RunError → Type 0
IsInputError mode text run_error.NotUtf8 = ¬ (IsUtf8 text)
IsInputError mode text run_error.NotJson = (mode ≡ Json) × IsUtf8 text × IsJsonInputErrorOf text run_error.NotJson
IsInputError mode text run_error.NotList = (mode ≡ Json) × IsUtf8 text × IsJsonInputErrorOf text run_error.NotList
IsInputError mode text _ = ⊥

-- what a run without failures does, by its result
abbrev pub Outcome : Mode → List ℕ → Result (Unit {0}) RunError → List ℕ → Type 0
Outcome mode text (Ok _) bytes = IsUtf8 text × IsOutput mode text bytes
Outcome mode text (Err e) bytes = (bytes ≡ []) × IsInputError mode text e

-- a run in which no read failed and memory did not run out read the input to its end
read-whole : (mode : Mode) (reader writer : Use) (input output : List ℕ) (result : Result (Unit {0}) RunError)
    → RunEnds mode reader writer input output result
    → IsUnfailed reader → result ≢ Err run_error.OutOfMemory → IsReadWhole reader
read-whole mode reader writer input output result ends unfailed memory = search rules

-- so what it did is said of its input
pub judged : (mode : Mode) (reader writer : Use) (result : Result (Unit {0}) RunError) (text : List ℕ)
    (ends : EndsAs mode reader writer result) → IsJudged reader result text
    → RunEnds mode reader writer text ends.output result
judged mode reader writer result text ends it = search (rules, read-whole, input-is)

outcome-of : (mode : Mode) (reader writer : Use) (text bytes : List ℕ) (result : Result (Unit {0}) RunError)
    → RunEnds mode reader writer text bytes result
    → IsUnfailed reader → IsUnfailed writer → result ≢ Err run_error.OutOfMemory → Outcome mode text result bytes
outcome-of mode reader writer text bytes result ends read write memory = search rules

pub outcome : (mode : Mode) (text bytes : List ℕ) (result : Result (Unit {0}) RunError)
    → RunGives mode text result bytes → Outcome mode text result bytes
outcome mode text bytes result run =
    let same = output-is run.writer run.ends.output bytes run.bytes_are run.ends.takes in
    search (rules, outcome-of, judged, ← same)

-- an input with an output has no such error, and another has one
module _ (mode : Mode) (text : List ℕ) where
  no-error : (output : List ℕ) → IsUtf8 text → IsOutput mode text output → (e : RunError) → IsInputError mode text e → ⊥
  no-error output utf8 is e error = search rules

  one-error : (e f : RunError) → IsInputError mode text e → IsInputError mode text f → e ≡ f
  one-error e f a b = search rules

  pub same-outcome : EveryStringHasOneOutcome → (x y : List ℕ) (a b : Result (Unit {0}) RunError)
      → Outcome mode text a x → Outcome mode text b y → (a ≡ b) × (x ≡ y)
  same-outcome one x y a b a2 b2 = search (rules, outputs-unique, no-error, one-error)

-- each error is the result exactly in its case
module _ (mode : Mode) (reader writer : Use) (text output : List ℕ) where
  pub failures-exact : (result : Result (Unit {0}) RunError) → RunEnds mode reader writer text output result
      → (IsErrOf result run_error.Read ↔ HasFailed reader) × (IsErrOf result run_error.Write ↔ HasFailed writer)
  failures-exact result ends = search rules

  pub judge : (result : Result (Unit {0}) RunError) → RunEnds mode reader writer text output result → IsUnfailed reader
      → result ≢ Err run_error.OutOfMemory → (e : RunError) → e ≢ run_error.Write
      → IsErrOf result e ↔ IsInputError mode text e
  judge result ends unfailed memory e other = search rules

-- the whole input was read, and is UTF-8
pub record IsText (reader : Use) (text : List ℕ) : Type 0 where
  pub gives : Gives reader text
  pub whole : IsReadWhole reader
  pub utf8 : IsUtf8 text

pub is-text : {reader : Use} {bytes slice text : List ℕ} → Gives reader bytes → IsReadWhole reader → slice ≡ bytes
    → text ≡ slice → IsUtf8 slice → IsText reader text
is-text gives whole same is utf8 = record { gives = rw (is, same) gives; whole = whole; utf8 = rw is utf8 }

-- how a run ends, from its steps
module _ {mode : Mode} {reader : Use} {text : List ℕ} (read : IsText reader text) where
  -- the output was written and flushed
  pub written-ends : {writer : Use} {output : List ℕ} → IsOutput mode text output → Takes writer output
      → IsWrittenWhole writer → EndsAs mode reader writer (Ok tt)
  written-ends is takes flushed = search rules

  -- a write or the flush failed
  pub write-ends : {writer : Use} (output : List ℕ) → IsOutput mode text output → TakesBeginning writer output
      → HasFailed writer → StopsLast writer → EndsAs mode reader writer (Err run_error.Write)
  write-ends output is is2 failed last = search rules

  pub no-output-ends : {writer : Use} {e : RunError} → HasNoOutput mode text e → Takes writer []
      → writer.calls_after ≡ writer.calls_before → EndsAs mode reader writer (Err e)
  no-output-ends none takes same = search rules

-- the error of a step is that of the run
pub as-error : {mode : Mode} {reader writer : Use} {e : RunError} (found : Result (Unit {0}) RunError)
    → IsErrAnd found (λ error. error ≡ e) → EndsAs mode reader writer (Err e) → EndsAs mode reader writer found
as-error found same ends = search rules

-- Each input has an outcome in each mode.

-- an outcome that some result has
abbrev pub HasOutcome : Mode → List ℕ → Type 0
HasOutcome mode text = (result : Result (Unit {0}) RunError) × (bytes : List ℕ) × Outcome mode text result bytes

module _ (one : EveryStringHasOneOutcome) where
  value-outcome : (value : Data)
      → ((t : Values) × JsonParsesAs value t)
      ⊎ ((error : JsonErrorValue) × IsJsonErrorOf value error × (error ≢ Parse None))
  value-outcome (string s) = elim ((one s).some) [
    | inl read ↦ inl read
    | inr refused ↦ inr (Parse (Some refused.0), refused.1, search rules)
  ]
  value-outcome _ = inr (NotText, refl, λ bad. absurd cc)

  before-next : (value : Data) (values : Items) (i : ℕ) → ((t : Values) × JsonParsesAs value t)
      → ((k : ℕ) → k < i → IsElementParsed values k) → (k : ℕ) → k < suc i → IsElementParsed (item value values) k
  before-next value values i read before k less = search rules

  elements-outcome : (elements : Items)
      → ((ts : List Values) × ElementsParseAs elements ts)
      ⊎ ((i : ℕ) × (error : JsonErrorValue) × IsFirstError elements i error × (error ≢ Parse None))
  elements-outcome no_items = inl ([], tt)
  elements-outcome (item value values) =
      let others = elements-outcome values in
      elim (value-outcome value) [
        | inr bad ↦ inr (zero, bad.0, search rules, bad.2)
        | inl read ↦
            elim others [
              | inl all ↦ inl (read.0 ∷ all.0, (read.1, all.1))
              | inr first ↦ inr (suc first.0, first.1, search (rules, before-next), first.3)
            ]
      ]

  list-outcome : (value : Data) → (as_array value ≡ None) ⊎ ((answer : List ℕ) × IsJsonAnswer value answer)
  list-outcome (array elements) =
      inr (elim (elements-outcome elements) [
        | inl all ↦ (compact_text (list_json_of all.0), search rules)
        | inr first ↦ (codes "error: " ++ list_error_line (Element first.0 first.1), search rules)
      ])
  list-outcome _ = inl refl

  json-outcome : (text : List ℕ) (found : Option Data) → read text ≡ found → IsUtf8 text → HasOutcome Json text
  json-outcome text None is utf8 = (Err run_error.NotJson, [], (refl, (refl, utf8, is)))
  json-outcome text (Some value) is utf8 =
      elim (list-outcome value) [
        | inl other ↦ (Err run_error.NotList, [], (refl, (refl, utf8, rw is other)))
        | inr answer ↦ (Ok tt, answer.0 ++ line_feed ∷ [], (utf8, rw is (answer.0, answer.1, refl)))
      ]

  some-lines : (shown : Values → List ℕ) (text : List ℕ)
      → (output : List ℕ) × IsLineOutput shown (lines_of text) output
  some-lines shown text =
      let found = zip-some {R = IsAnswer shown} (answer-some one shown) (lines_of text) in
      (written_lines found.0, (found.0, found.1, refl))

  text-has-outcome : (mode : Mode) (text : List ℕ) → IsUtf8 text → HasOutcome mode text
  text-has-outcome Print text utf8 = let lines = some-lines string_of text in (Ok tt, lines.0, (utf8, lines.1))
  text-has-outcome Show text utf8 = let lines = some-lines text_with_facts text in (Ok tt, lines.0, (utf8, lines.1))
  text-has-outcome Settle text utf8 = let lines = some-lines canonical_string text in (Ok tt, lines.0, (utf8, lines.1))
  text-has-outcome Matrix text utf8 =
      let found = (some-lines canonical_string text).1 in
      (Ok tt, written_lines (matrix_of found.0), (utf8, (found.0, found.1, refl)))
  text-has-outcome Json text utf8 = json-outcome text (read text) refl utf8

  pub has-outcome : (mode : Mode) (text : List ℕ) (b : Bool) → is_utf8 text ≡ b → HasOutcome mode text
  has-outcome mode text true is = text-has-outcome mode text (IsUtf8-from_is_utf8 text is)
  has-outcome mode text false is = (Err run_error.NotUtf8, [], (refl, not-utf8 text is))

-- what such a run did to its reader and its writer
abbrev read_from : List ℕ → Use
read_from text =
    record { bytes_before = Some text; bytes_after = Some []; calls_before = []; calls_after = Ended ∷ Moved text ∷ [] }

-- what was done to the writer, by the result
abbrev written_by : Result (Unit {0}) RunError → List ℕ → Use
written_by (Ok _) bytes =
    record
    { bytes_before = Some []; bytes_after = Some bytes; calls_before = []; calls_after = Flushed ∷ Moved bytes ∷ [] }
written_by (Err _) bytes = record { bytes_before = Some []; bytes_after = Some []; calls_before = []; calls_after = [] }

-- a run with this outcome, and this writer
gives-run : {mode : Mode} {text bytes : List ℕ} {result : Result (Unit {0}) RunError} (writer : Use)
    → Outcome mode text result bytes → RunEnds mode (read_from text) writer text bytes result → Takes writer bytes
    → IsUnfailed writer → StopsOnce writer → RunGives mode text result bytes
gives-run writer is ends takes unfailed once = search rules

pub run-of : (mode : Mode) (text : List ℕ) (result : Result (Unit {0}) RunError) (bytes : List ℕ)
    → Outcome mode text result bytes → RunGives mode text result bytes
run-of mode text result bytes is =
    gives-run (written_by result bytes) is (search rules) (search (rules, append-nil)) (search rules) (search rules)
