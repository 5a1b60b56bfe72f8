-- Round trips: a printed string reads as the normal step of its triple, and what follows from that.
pub mod Printing
use Printing.Parsing.Names.*
use Printing.Parsing.*
use Printing.*

-- The shown parts of a triple with a plain vendor parse as its normal step, if no special string is printed.

abbrev known_format : BinaryFormat → Bool
known_format f = not (is_same_format f binary_format.Unknown)

shown_by : (same too : Bool) (f g : BinaryFormat) → (same ≡ true → f ≡ g) → cond (not same || too) f g ≡ f
shown_by same too f g h = search rules

-- the format is parsed back, shown or implied
shown_or_implied : (t : Values) → cond (shows_binary_format t) t.binary_format (default_binary_format t)
    ≡ t.binary_format
shown_or_implied t = search (rules, shown_by, is_same_format-is)

-- the fields that are unknown if both are shown as unknown
pub are_unknown : (a : Architecture) (v : VendorValue) (s : OperatingSystem) (e : Environment) (f : BinaryFormat)
    → shows_unknowns (values a v s e f) ≡ true → (e ≡ environment.Unknown) × (f ≡ binary_format.Unknown)
are_unknown a v s e f shown = search rules

-- if no special string is printed

none-apart : (t : Values) → special_string t ≡ None → ¬ PrintsAsSpecial t
none-apart t none is = true≢false (sym (special_of_fields t is.fields) ∙ ap is_some none)

-- an environment that isn't shown is unknown, or a hidden `Newlib`
not_shown : (a : Architecture) (v : VendorValue) (s : OperatingSystem) (e : Environment) (f : BinaryFormat)
    → special_string (values a v s e f) ≡ None → shows_environment (values a v s e f) ≡ false
    → (e ≡ environment.Unknown) ⊎ HidesNewlib (values a v s e f)
not_shown a v s environment.Unknown f none hidden = inl refl
not_shown a v s environment.Newlib f none hidden = inr (record {
  environment = refl;
  system =
      system_of_newlib (values a v s environment.Newlib f) (and_parts (implies_newlib v s) true (not-false _ hidden)).0;
  others = λ special. true≢false (sym (special_of_fields _ special) ∙ ap is_some none);
})
not_shown a v s _ f none hidden = absurd (true≢false (rw and-false at hidden))

-- the format that is parsed if the environment isn't shown

shown_unless_elf : (f : BinaryFormat)
    → cond (known_format f && (not (is_same_format f binary_format.Elf) || false)) f binary_format.Elf
    ≡ elf_if_unknown f
shown_unless_elf f = search rules

shown_unless_unknown : (f i : BinaryFormat) (b : Bool)
    → (is_same_format f binary_format.Unknown && not (is_same_format f i)) ≡ false → cond b f i ≡ f
    → cond (known_format f && b) f i ≡ f
shown_unless_unknown f i b hidden same = search rules

-- vendor and system that aren't shown

hidden_vendor : (t : Values) → shows_vendor t ≡ false
    → (t.vendor ≡ Known Unknown) × (omits_unknown_vendor t.architecture t.operating_system t.environment ≡ true)
hidden_vendor t h = search rules

no_vendor : (a : Architecture) (s : OperatingSystem) (e : Environment) → omits_unknown_vendor a s e ≡ true
    → system_as_vendor s ≡ None
no_vendor a s e h = search rules

hidden_system : (a : Architecture) (v : VendorValue) (s : OperatingSystem) (e : Environment) (f : BinaryFormat)
    → shows_operating_system (values a v s e f) ≡ false
    → (s ≡ operating_system.Unknown) × (omits_system a ≡ true)
hidden_system a v s e f h = search rules

-- if the system is shown
shown_system : (t : Values) → shows_operating_system t ≡ true → ¬ ShowsOnlyNone t
shown_system t h is = search rules

-- an unknown system implies no environment
pub without_system : (v : VendorValue) → implies_newlib v operating_system.Unknown ≡ false
without_system v = no_newlib v operating_system.Unknown refl

-- these values, before environment and format are parsed
abbrev unread : Architecture → VendorValue → OperatingSystem → Values
unread a v s = values a v s environment.Unknown binary_format.Unknown

-- without a system
abbrev alone : Architecture → VendorValue → Environment → BinaryFormat → Values
alone a v e f = values a v operating_system.Unknown e f

-- the parts parse as the normal step
abbrev Rounds : Bool → Values → Type 0
Rounds b t = reading_of_parts (shown_names b t) ≡ Ok (normal_step t)

module _ (names : NamesAreRead) where
  -- the format, parsed back after an environment that is shown or not

  format-read : (a : Architecture) (v : VendorValue) (s : OperatingSystem) (e : Environment)
      (f : BinaryFormat) (b : Bool) → reading_from (Some field.BinaryFormat) (values a v s e binary_format.Unknown)
      (cons_if b (binary_format_name f) []) ≡ Ok (values a v s e (cond b f (implied_format a s e)))
  format-read a v s e f b = search rules

  shown-read : (a : Architecture) (v : VendorValue) (s : OperatingSystem) (e : Environment)
      (f : BinaryFormat) (b : Bool)
      → reading_from (Some field.Environment) (unread a v s) (environment_name e ∷ cons_if b (binary_format_name f) [])
      ≡ Ok (values a v s e (cond b f (implied_format a s e)))
  shown-read a v s e f b = search rules

  hidden-read : (a : Architecture) (v : VendorValue) (s : OperatingSystem) (f : BinaryFormat) (b : Bool)
      → reading_from (Some field.Environment) (unread a v s) (cons_if b (binary_format_name f) [])
      ≡ Ok (values a v s environment.Unknown (cond (known_format f && b) f (implied_format a s environment.Unknown)))
  hidden-read a v s f b = search (rules, environment_of-format)

  -- the same without a system
  alone-read : (a : Architecture) (v : VendorValue) (f : BinaryFormat) (b : Bool)
      → reading_from (Some field.OperatingSystem) (unread a v operating_system.Unknown)
      (cons_if b (binary_format_name f) []) ≡ Ok (values a v operating_system.Unknown environment.Unknown
      (cond (known_format f && b) f (implied_format a operating_system.Unknown environment.Unknown)))
  alone-read a v f b = search (rules, operating_system_of-format, environment_of-format)

  -- the parts that upstream shows after the system, parsed back
  abbrev ReadsAfter : Values → Values → Type 0
  ReadsAfter t u = reading_from (Some field.Environment) (unread t.architecture t.vendor t.operating_system)
      (names_after_system false t) ≡ Ok u

  row-read : (t : Values) (row : SpecialRow) → HasSystemOf row t → RowFacts row → t.environment ≡ environment.Newlib
      → ReadsAfter t (step_of (Some exceptions.HidesNewlib) t)
  row-read t row is facts newlib = search (rules, and-false, hidden-read, shown_unless_elf)

  newlib-read : (t : Values) → HidesNewlib t → ReadsAfter t (step_of (Some exceptions.HidesNewlib) t)
  newlib-read t is = let at = row_of_system t is.system in row-read t at.0 at.1 at.2 is.environment

  module _ (a : Architecture) (v : VendorValue) (s : OperatingSystem) (e : Environment) (f : BinaryFormat)
      (none : special_string (values a v s e f) ≡ None)
      (hidden : shows_unknowns (values a v s e f) ≡ false) where
    unknown-read : e ≡ environment.Unknown → reading_from (Some field.Environment) (unread a v s)
        (cons_if (shows_binary_format (values a v s e f)) (binary_format_name f) []) ≡ Ok (values a v s e f)
    unknown-read is = search (rules, hidden-read, shown_unless_unknown, shown_or_implied)

    outside-read : ¬ HidesNewlib (values a v s e f) → (b : Bool) → shows_environment (values a v s e f) ≡ b
        → reading_from (Some field.Environment) (unread a v s)
        (cons_if b (environment_name e) (cons_if (shows_binary_format (values a v s e f)) (binary_format_name f) []))
        ≡ Ok (values a v s e f)
    outside-read outside true is =
        shown-read a v s e f _ ∙ ap (λ x. Ok (values a v s e x)) (shown_or_implied (values a v s e f))
    outside-read outside false is = elim (not_shown a v s e f none is) [
      | inl unknown ↦ unknown-read unknown
      | inr newlib ↦ absurd (outside newlib)
    ]

    tail-round : ¬ PrintsTheEspIdfString (values a v s e f) → ¬ ShowsOnlyNone (values a v s e f)
        → ReadsAfter (values a v s e f) (normal_step (values a v s e f))
    tail-round apart only_none = step_cases (ReadsAfter (values a v s e f)) (values a v s e f)
        (λ is. search (rules, none-apart)) (newlib-read (values a v s e f)) (λ is. search rules) (λ is. search rules)
        (λ outside. outside-read outside.newlib _ refl)

  -- architecture, vendor and system, parsed back

  prefix : (a : Architecture) (v : VendorValue) (b : Bool) (rest : List (List ℕ)) (result : Result Values Refusal)
      → is_plain v ≡ true
      → (b ≡ false → reading_from (Some field.Vendor) (unread a (Known Unknown) operating_system.Unknown) rest ≡ result)
      → reading_from (Some field.OperatingSystem) (unread a v operating_system.Unknown) rest ≡ result
      → reading_of_parts (architecture_name a ∷ cons_if b (vendor_name v) rest) ≡ result
  prefix a v b rest result plain hidden reads = search rules

  -- if the system is shown, with these parts after it
  after_system : (a : Architecture) (v : VendorValue) (s : OperatingSystem) (e : Environment) (f : BinaryFormat)
      (rest : List (List ℕ)) (result : Result Values Refusal) → is_plain v ≡ true → HasVersionInRange s
      → reading_from (Some field.Environment) (unread a v s) rest ≡ result
      → reading_of_parts (architecture_name a ∷ cons_if (shows_vendor (values a v s e f)) (vendor_name v)
      (operating_system_name s ∷ rest)) ≡ result
  after_system a v s e f rest result plain range reads =
      let read : (w : VendorValue)
      → with_value field.OperatingSystem (operating_system_name s) (unread a w operating_system.Unknown)
      ≡ unread a w s = λ w. rw (names.operating_system.reads_back s range) refl in
      let others = λ (w : VendorValue) (same : v ≡ w). ap (λ (t : Values). reading_from (Some field.Environment) t rest)
      (read w) ∙ subst (λ (x : VendorValue). reading_from (Some field.Environment) (unread a x s) rest ≡ result)
      same reads in
      prefix a v (shows_vendor (values a v s e f)) _ _ plain
      (λ h.
      let is = hidden_vendor (values a v s e f) h in
      let other : vendor_of (operating_system_name s) ≡ None = vendor_of-operating_system names s range
      ∙ no_vendor a s e is.1 in
      rw (other, names.operating_system.reads_back s range) (others (Known Unknown) is.0))
      (rw (names.operating_system.reads_back s range) (others v refl))

  -- if it isn't
  alone-fixed : (a : Architecture) (v : VendorValue) (e : Environment) (f : BinaryFormat) → e ≢ environment.None
      → normal_step (alone a v e f) ≡ alone a v e f
  alone-fixed a v e f other = outside-fixed (alone a v e f) (record {
    special = λ is. true≢false (special_system _ is.fields);
    newlib = λ is. true≢false (newlib_system _ is.system);
    esp = λ is. let bad = ap (λ x. x.operating_system) is in cc;
    none = λ is. other is.environment;
  })

  module _ (a : Architecture) (omits : omits_system a ≡ true) where
    alone-step : (v : VendorValue) (f : BinaryFormat) → normal_step (alone a v environment.None f)
        ≡ values a v operating_system.None_ environment.Unknown f
    alone-step v f = search (rules, only_none-step)

    -- after an environment `none` the format is shown, unless it is unknown
    none-shown : (v : VendorValue) (f : BinaryFormat) → cond (known_format f && shows_binary_format
        (alone a v environment.None f)) f binary_format.Unknown ≡ f
    none-shown v f = search rules

    alone-reads : (v : VendorValue) (e : Environment) (f : BinaryFormat)
        → shows_unknowns (alone a v e f) ≡ false
        → reading_from (Some field.OperatingSystem) (unread a v operating_system.Unknown)
        (names_after_system false (alone a v e f)) ≡ Ok (normal_step (alone a v e f))
    alone-reads v e f hidden =
        search (
          rules,
          alone-fixed,
          alone-read,
          shown_unless_unknown,
          shown_or_implied,
          alone-step,
          without_system,
          operating_system_of-environment,
          hidden-read,
          none-shown,
          format-read,
        )

    alone-round : (v : VendorValue) (e : Environment) (f : BinaryFormat) → is_plain v ≡ true
        → shows_unknowns (alone a v e f) ≡ false → Rounds false (alone a v e f)
    unfolding shown_names
    alone-round v e f plain hidden = search (rules, prefix, hidden_vendor, alone-reads)

  module _ (a : Architecture) (v : VendorValue) (s : OperatingSystem) (e : Environment) (f : BinaryFormat)
      (plain : is_plain v ≡ true) (range : HasVersionInRange s)
      (none : special_string (values a v s e f) ≡ None) (apart : ¬ PrintsTheEspIdfString (values a v s e f)) where
    -- an unknown environment and an unknown format, both shown, change nothing
    unknowns-step : (e ≡ environment.Unknown) × (f ≡ binary_format.Unknown)
        → normal_step (values a v s e f) ≡ values a v s e f
    unknowns-step (is_e, is_f) = step_cases (λ u. u ≡ values a v s e f) (values a v s e f)
        (λ is. absurd (none-apart _ none is)) (λ is. absurd (let newlib = is.environment in cc))
        (λ is. absurd (apart is))
        (λ is. absurd (let only_none = is.environment in cc)) (λ outside. refl)

    tail : (b : Bool) → shows_unknowns (values a v s e f) ≡ b → (b || shows_operating_system (values a v s e f)) ≡ true
        → reading_from (Some field.Environment) (unread a v s) (names_after_system b (values a v s e f))
        ≡ Ok (normal_step (values a v s e f))
    tail b unknowns shown = search (rules, shown-read, unknowns-step, are_unknown, tail-round, shown_system)

    parts_by : (b c : Bool) → shows_unknowns (values a v s e f) ≡ b
        → (b || shows_operating_system (values a v s e f)) ≡ c → Rounds b (values a v s e f)
    unfolding shown_names
    parts_by b true unknowns shown = rw shown (after_system a v s e f _ _ plain range (tail b unknowns shown))
    parts_by true false unknowns hidden = absurd (true≢false hidden)
    parts_by false false unknowns hidden =
        let is = hidden_system a v s e f hidden in rw is.0 (alone-round a is.1 v e f plain (rw is.0 at unknowns))

    -- if no special string is printed, the shown parts parse as the step
    pub parts-round : reading_of_parts (printed_names (values a v s e f)) ≡ Ok (normal_step (values a v s e f))
    parts-round = parts_by (shows_unknowns (values a v s e f)) _ refl refl

-- The printed string of a triple with a plain vendor reads as its normal step.

-- strings without dashes are the parts of the string that joins them

parts_of-join : (p : List ℕ) (ps : List (List ℕ)) → is_dash_free p ≡ true → list_all is_dash_free ps ≡ true
    → parts_of (join_with_byte dash (p ∷ ps)) ≡ p ∷ ps
parts_of-join p ps free others = parts_of-joined p ps (rw (free, others) refl)

cons_if-free : (b : Bool) (p : List ℕ) (ps : List (List ℕ)) → is_dash_free p ≡ true → list_all is_dash_free ps ≡ true
    → list_all is_dash_free (cons_if b p ps) ≡ true
cons_if-free b p ps free others = search rules

-- the special strings, and the triples that print them

special-round : (t : Values) → HasSpecialFields t → reading (string_of t) ≡ Ok (normal_step t)
unfolding special_string reading string_of special_values normal_step
special-round t has = search rules

-- the triple that prints another's special string

abbrev custom_esp : Values
custom_esp =
    values (architecture.Riscv32 riscv32.Riscv32imc) (Custom (codes "esp")) operating_system.Espidf environment.Unknown
    binary_format.Elf

custom_esp-round : reading (string_of custom_esp) ≡ Ok (normal_step custom_esp)
unfolding reading string_of special_string special_values shown_names normal_step
custom_esp-round = refl

-- a string that isn't special is parsed by its parts
by_parts : (text : List ℕ) (ps : List (List ℕ)) (t : Values) (special : Option Values) → special_values text ≡ special
    → parts_of text ≡ ps → reading_of_parts ps ≡ Ok t
    → is_known_to_print (Ok t) ≡ false → reading_unless_special special text ≡ Ok t
by_parts text ps t special is are reads apart = search (rules, row_of_text, false≢true, is_known_to_print)

-- a triple that isn't the one that prints another's special string

no_esp : (t : Values) → ¬ PrintsTheEspIdfString t
    → is_custom_esp t.architecture t.vendor t.operating_system t.environment t.binary_format ≡ false
no_esp t apart = search rules

no_esp-known : (a : Architecture) (v : VendorValue) (s : OperatingSystem) (e : Environment) (f : BinaryFormat)
    → is_custom v ≡ false → is_custom_esp a v s e f ≡ false
no_esp-known a v s e f known = search rules

no_esp-none : (a : Architecture) (v : VendorValue) (f : BinaryFormat)
    → is_custom_esp a v operating_system.None_ environment.Unknown f ≡ false
no_esp-none a v f = search rules

module _ (names : NamesAreRead) (a : Architecture) (v : VendorValue) (s : OperatingSystem) (e : Environment)
    (f : BinaryFormat) (plain : is_plain v ≡ true) (range : HasVersionInRange s)
    (none : special_string (values a v s e f) ≡ None) (apart : ¬ PrintsTheEspIdfString (values a v s e f)) where
  -- the step is none of the triples that print a special string
  step-apart : is_known_to_print (Ok (normal_step (values a v s e f))) ≡ false
  unfolding special_string
  step-apart = step_cases (λ u. is_known_to_print (Ok u) ≡ false) (values a v s e f)
      (λ is. search (rules, special_of_fields)) (λ is. search (rules, no_esp-known, row_of_system))
      (λ is. absurd (apart is)) (λ is. search (rules, no_special, special_system, no_esp-none))
      (λ outside. search (rules, no_esp))

  joined-parts : (b : Bool) → let parts = shown_names b (values a v s e f) in
      parts_of (join_with_byte dash parts) ≡ parts
  unfolding shown_names
  joined-parts b = search (rules, parts_of-join, cons_if-free)

  shown-round : reading (string_of (values a v s e f)) ≡ Ok (normal_step (values a v s e f))
  unfolding reading string_of
  shown-round = search (rules, by_parts, printed_names, joined-parts, parts-round, step-apart)

round_by : NamesAreRead → (t : Values) (special : Option (List ℕ)) → is_plain t.vendor ≡ true
    → HasVersionInRange t.operating_system → special_string t ≡ special
    → PrintsTheEspIdfString t ⊎ ¬ PrintsTheEspIdfString t → reading (string_of t) ≡ Ok (normal_step t)
unfolding reading normal_step
round_by names t special plain range is either =
    search (rules, special-round, fields_of_special, custom_esp-round, shown-round)

-- the round trip of a plain triple is its normal step
pub round : NamesAreRead → RoundIsNormalStep
round names t plain =
    ((reading_computed (string_of t)).read (normal_step t)).1
    (round_by names t _ plain.vendor plain.version refl (is_esp t))

pub round_by_step : RoundIsNormalStep → (t u : Values) → is_plain t.vendor ≡ true → HasVersionInRange t.operating_system
    → u ≡ normal_step t → ParsesAs (string_of t) u
round_by_step round t u plain range is = search rules

-- The normal step leaves a triple unchanged exactly outside the exceptions.

pub fixed-outside : (t : Values) → normal_step t ≡ t → IsOutside t
unfolding special_string normal_step
fixed-outside t same = search rules

-- with the placements

module _ (round : RoundIsNormalStep) where
  back-outside : (t : Values) → HasVersionInRange t.operating_system → ComesBack t
      → (is_plain t.vendor ≡ true) × IsOutside t
  back-outside t range back = search (rules, read_plain, fixed-outside, values_unique)

  outside-back : (t : Values) → HasVersionInRange t.operating_system → is_plain t.vendor ≡ true → IsOutside t
      → ComesBack t
  outside-back t range plain outside = search (rules, outside-fixed)

  -- a triple comes back exactly outside the exceptions
  pub fixed_exactly_outside : FixedExactlyOutsideExceptions
  fixed_exactly_outside t range = search (rules, back-outside, plain-exception, none-plain_outside, outside-back)

-- A second step changes no triple.

-- with the environment and the format of special strings
special-stays : (t : Values) → HasSpecialFields t → normal_step (step_of (Some exceptions.PrintsAsSpecial) t)
    ≡ step_of (Some exceptions.PrintsAsSpecial) t
unfolding special_string normal_step
special-stays t has = search rules

esp_idf-stays : let u =
    values (architecture.Riscv32 riscv32.Riscv32imc) (Known Espressif) operating_system.Espidf environment.Newlib
    binary_format.Elf in normal_step u ≡ u
unfolding normal_step special_string
esp_idf-stays = refl

-- with an unknown environment only the special strings decide whether a triple is unchanged
unknown-stays : (t : Values) → t.environment ≡ environment.Unknown → ¬ HasSpecialFields t → ¬ PrintsTheEspIdfString t
    → normal_step t ≡ t
unknown-stays t unknown special esp = search (rules, outside-fixed)

newlib-stays : (t : Values) → HidesNewlib t → let u = step_of (Some exceptions.HidesNewlib) t in
    normal_step u ≡ u
unfolding special_string
newlib-stays t is =
    let u = step_of (Some exceptions.HidesNewlib) t in
    unknown-stays u refl (λ special. is.others (fields_of_special t (special_of_fields u special)))
    (λ esp. let of = ap (λ x. x.vendor) esp in let known = (row_of_system t is.system).1.vendor in cc)

none-stays : (a : Architecture) (v : VendorValue) (f : BinaryFormat) → let u =
    values a v operating_system.None_ environment.Unknown f in normal_step u ≡ u
unfolding special_string
none-stays a v f = search (rules, unknown-stays)

pub second_changes_none : OneStepSettles
second_changes_none t = step_cases (λ u. normal_step u ≡ u) t (λ is. search (rules, special-stays)) (newlib-stays t)
    (λ is. search (rules, esp_idf-stays)) (λ is. search (rules, none-stays)) (outside-fixed t)

-- the step keeps a triple plain
pub step-plain : (t : Values) → IsPlainTriple t → IsPlainTriple (normal_step t)
step-plain t plain = step_cases IsPlainTriple t (λ _. search rules) (λ _. search rules) (λ _. search rules)
    (λ _. search rules) (λ _. plain)

-- a canonical form comes back, so no other one has its string

module _ (round : RoundIsNormalStep) where
  pub canonical_values-comes_back : (t : Values) → IsPlainTriple t → ComesBack (canonical_values t)
  canonical_values-comes_back t plain = search (rules, second_changes_none, step-plain)

  pub canonical_are_keys : CanonicalStringsAreKeys
  canonical_are_keys = record {
    comes_back = canonical_values-comes_back;
    own = λ t u plain_t plain_u same.
        values_unique (string_of (canonical_values t)) (canonical_values t) (canonical_values u)
        (canonical_values-comes_back t plain_t)
        (subst (λ (text : List ℕ). ParsesAs text (canonical_values u)) (sym same)
        (canonical_values-comes_back u plain_u));
  }

-- The normal step keeps the answers of the four queries.

-- vendor and format don't matter, and the environment only for the width
alike_by_width : (a : Architecture) (v w : VendorValue) (s : OperatingSystem) (e d : Environment) (f g : BinaryFormat)
    → pointer_width (values a v s e f) ≡ pointer_width (values a w s d g)
    → HaveSameAnswers (values a v s e f) (values a w s d g)
alike_by_width a v w s e d f g same = search rules

-- on an architecture of 32 bits every environment has pointers of 32 bits
narrow_width : (t : Values) → architecture_width t.architecture ≡ Some U32 → pointer_width t ≡ Some U32
narrow_width t narrow = search rules

special-narrow : (t : Values) → PrintsAsSpecial t → architecture_width t.architecture ≡ Some U32
special-narrow t special = let at = row_of_fields t special.fields in rw (at.1.architecture) at.2.narrow

-- on an architecture that omits an unknown system neither the system nor the environment matters
alone-alike : (a : Architecture) (v : VendorValue) (f : BinaryFormat) → omits_system a ≡ true
    → HaveSameAnswers (values a v operating_system.None_ environment.Unknown f)
    (values a v operating_system.Unknown environment.None f)
alone-alike a v f omits = search rules

pub kept : (t : Values) → HaveSameAnswers (normal_step t) t
kept t = step_cases (λ u. HaveSameAnswers u t) t
    (λ special. let narrow = special-narrow t special in search (rules, alike_by_width, narrow_width))
    (λ newlib. search (rules, alike_by_width)) (λ esp. search rules) (λ none. search (rules, alone-alike))
    (λ outside. search rules)

-- What the string of a triple is read as, or refused as, by the laws alone.

pub read-step : EveryStringHasOneOutcome → RoundIsNormalStep → (t u : Values) → is_plain t.vendor ≡ true
    → HasVersionInRange t.operating_system
    → ParsesAs (string_of t) u → u ≡ normal_step t
read-step texts round t u plain range reads =
    (texts (string_of t)).values u (normal_step t) reads (round t (record { vendor = plain; version = range }))

pub step-queries : QueriesKept → (t u : Values) → u ≡ normal_step t → HaveSameAnswers u t
step-queries kept t u step = subst (λ (x : Values). HaveSameAnswers x t) (sym step) (kept t)

pub step-back : OneStepSettles → CanonicalStringsAreKeys → (t u : Values) → is_plain t.vendor ≡ true
    → HasVersionInRange t.operating_system → u ≡ normal_step t → ComesBack u
step-back steps keys t u plain range step = search rules

pub read-fixed : EveryStringHasOneOutcome → FixedExactlyOutsideExceptions → (t u : Values)
    → HasVersionInRange t.operating_system
    → ParsesAs (string_of t) u → (u ≡ t) ↔ (exception t ≡ None)
read-fixed texts fixed t u range reads = (
  λ same. (fixed t range).0 (subst (λ (x : Values). ParsesAs (string_of t) x) same reads),
  λ none. (texts (string_of t)).values u t reads ((fixed t range).1 none),
)

pub not_refused : EveryStringHasOneOutcome → RoundIsNormalStep → (t : Values) → is_plain t.vendor ≡ true
    → HasVersionInRange t.operating_system
    → (x : Refusal) → IsRefusedAs (string_of t) x → ⊥
not_refused texts round t plain range x refused =
    (texts (string_of t)).apart (normal_step t) (round t (record { vendor = plain; version = range })) (x, refused)

-- a refusal comes only if the vendor isn't plain
pub refused-vendor : EveryStringHasOneOutcome → RoundIsNormalStep → (t : Values) (b : Bool) → is_plain t.vendor ≡ b
    → HasVersionInRange t.operating_system
    → (found : Option Refusal) → IfSome found (λ x. IsRefusedAs (string_of t) x)
    → IfSome found (λ _. is_plain t.vendor ≡ false)
refused-vendor texts rounds t false is range (Some x) refused = is
refused-vendor texts rounds t true is range (Some x) refused = absurd (not_refused texts rounds t is range x refused)
refused-vendor texts rounds t b is range None refused = tt

pub error-refusal : (text printed : List ℕ) (error : ParseError) → text ≡ printed → IsErrorOf text error
    → IsRefusalOrOutOfMemory printed error
error-refusal text printed error same is = search rules
