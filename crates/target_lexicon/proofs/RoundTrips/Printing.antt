-- Printing: special strings, exceptions, which strings are printed, and how long they are.
pub mod Parsing
use Parsing.Names.*
use Parsing.*

-- Facts of the special strings, one after the other. All that other lemmas know of these strings is here, so that they
-- say "each row".

-- the parts of a special string are refused, or give a triple that is known to print the string
abbrev pub is_known_to_print : Result Values Refusal → Bool
is_known_to_print (Err refusal) = true
is_known_to_print (Ok t) =
    cond (is_some (special_string t)) true
    (is_custom_esp t.architecture t.vendor t.operating_system t.environment t.binary_format)

pub record RowFacts (row : SpecialRow) : Type 0 where
  -- the string parses as the triple, and by its parts as one that is known
  pub parses : special_values row.text ≡ Some (special_triple row)
  pub parts : is_known_to_print (reading_of_parts (parts_of row.text)) ≡ true
  -- the triple prints the string, whatever environment and format are
  pub prints : (e : Environment) (f : BinaryFormat)
      → special_string (values row.architecture (Known row.vendor) row.operating_system e f) ≡ Some row.text
  pub newlib : implies_newlib (Known row.vendor) row.operating_system ≡ true
  -- the string is not longer than the three names with dashes between them
  pub short : length row.text ≤ length (architecture_name row.architecture)
      + (1 + length (known_vendor_name row.vendor)) + (1 + length (operating_system_name row.operating_system))
  pub bound : length row.text < 2 ^ 8
  pub vendor : is_unknown_vendor (Known row.vendor) ≡ false
  pub operating_system : is_none_or_unknown row.operating_system ≡ false
  pub implied : (a : Architecture) (e : Environment) → implied_format a row.operating_system e ≡ binary_format.Elf
  pub in_range : HasVersionInRange row.operating_system
  pub narrow : architecture_width row.architecture ≡ Some U32

-- each of these rows has the property
abbrev EachRow : (SpecialRow → Type 0) → List SpecialRow → Type 0
EachRow P [] = Unit {0}
EachRow P (row ∷ rows) = P row × EachRow P rows

row-facts : EachRow RowFacts special_rows
unfolding special_values special_string architecture_of vendor_of known_vendor_of is_admitted operating_system_of
    fixed_operating_system_of environment_of binary_format_of
row-facts = search rules

-- what holds for each row holds for one that has the property
of_row : (P Q : SpecialRow → Type 0) (rows : List SpecialRow) → EachRow Q rows → SomeRow P rows
    → (row : SpecialRow) × P row × Q row
of_row P Q [] each none = absurd none
of_row P Q (row ∷ rows) (here, later) (inl is) = (row, is, here)
of_row P Q (row ∷ rows) (here, later) (inr some) = of_row P Q rows later some

-- the row whose fields, or whose vendor and system, a triple has

pub row_of_fields : (t : Values) → HasSpecialFields t → (row : SpecialRow) × HasFieldsOf row t × RowFacts row
row_of_fields t has = of_row (λ row. HasFieldsOf row t) RowFacts special_rows row-facts has

pub row_of_system : (t : Values) → SomeRow (λ row. HasSystemOf row t) special_rows
    → (row : SpecialRow) × HasSystemOf row t × RowFacts row
row_of_system t has = of_row (λ row. HasSystemOf row t) RowFacts special_rows row-facts has

-- a triple has such fields if and only if it prints a special string

pub fields_of_special : (t : Values) → is_some (special_string t) ≡ true → HasSpecialFields t
unfolding special_string
fields_of_special t is = search rules

pub prints_row : (t : Values) (row : SpecialRow) → HasFieldsOf row t → RowFacts row → special_string t ≡ Some row.text
unfolding special_string
prints_row t row is facts =
    rw (is.architecture, is.system.vendor, is.system.operating_system) (facts.prints t.environment t.binary_format)

pub special_of_fields : (t : Values) → HasSpecialFields t → is_some (special_string t) ≡ true
unfolding special_string
special_of_fields t has = search rules

pub no_special : (t : Values) → ¬ HasSpecialFields t → is_some (special_string t) ≡ false
unfolding special_string
no_special t other = search rules

-- a triple prints no special string, or that of a row
pub string_cases : (t : Values)
    → (special_string t ≡ None) ⊎ ((row : SpecialRow) × HasFieldsOf row t × RowFacts row)
unfolding special_string
string_cases t = search (rules, cases_Option, row_of_fields, fields_of_special)

-- vendor and system are those of a row if and only if they imply `Newlib`

pub system_of_newlib : (t : Values) → implies_newlib t.vendor t.operating_system ≡ true
    → SomeRow (λ row. HasSystemOf row t) special_rows
system_of_newlib t is = search rules

-- the system of a row is a known one

pub special_system : (t : Values) → HasSpecialFields t → is_none_or_unknown t.operating_system ≡ false
special_system t has = search rules

pub newlib_system : (t : Values) → SomeRow (λ row. HasSystemOf row t) special_rows
    → is_none_or_unknown t.operating_system ≡ false
newlib_system t has = search rules

pub no_newlib : (v : VendorValue) (s : OperatingSystem) → is_none_or_unknown s ≡ true → implies_newlib v s ≡ false
no_newlib v s none = search rules

-- a string that parses as a special one is that of a row

abbrev IsTripleOf : List ℕ → Values → Type 0
IsTripleOf text t = (row : SpecialRow) × (text ≡ row.text) × (t ≡ special_triple row) × RowFacts row

special-by : (text : List ℕ) (t : Values) (row : SpecialRow) (others : Option Values) (b : Bool)
    → bytes_eq text row.text ≡ b → RowFacts row
    → (others ≡ Some t → IsTripleOf text t) → cond b (Some (special_triple row)) others ≡ Some t → IsTripleOf text t
special-by text t row others b other facts later is = search rules

special-is : (text : List ℕ) (t : Values) (rows : List SpecialRow) → EachRow RowFacts rows
    → value_named (map special_pair rows) text ≡ Some t → IsTripleOf text t
special-is text t [] each is = absurd cc
special-is text t (row ∷ rows) (here, later) is = special-by text t row _ _ refl here (special-is text t rows later) is

pub row_of_text : (text : List ℕ) (t : Values) → special_values text ≡ Some t → IsTripleOf text t
unfolding special_values
row_of_text text t is = special-is text t special_rows row-facts is

-- From the exception of a triple to the facts of its five fields, and back. So what holds in the case of each
-- exception, and outside them, holds for the step.

-- from the exception to the facts

abbrev pub FactsOf : Option RoundTripException → Values → Type 0
FactsOf (Some exceptions.PrintsAsSpecial) t = PrintsAsSpecial t
FactsOf (Some exceptions.HidesNewlib) t = HidesNewlib t
FactsOf (Some exceptions.PrintsTheEspIdfString) t = PrintsTheEspIdfString t
FactsOf (Some exceptions.ShowsOnlyNone) t = ShowsOnlyNone t
FactsOf (Some exceptions.VendorIsNotPlain) t = is_plain t.vendor ≡ false
FactsOf None t = is_plain t.vendor ≡ true

special-plain : (t : Values) → HasSpecialFields t → is_plain t.vendor ≡ true
special-plain t has = rw ((row_of_fields t has).1.system.vendor) refl

newlib-plain : (t : Values) → HidesNewlib t → is_plain t.vendor ≡ true
newlib-plain t is = rw ((row_of_system t is.system).1.vendor) refl

pub newlib-is : (e : Environment) → is_newlib e ≡ true → e ≡ environment.Newlib
newlib-is e is = search rules

none-is : (e : Environment) → is_none_environment e ≡ true → e ≡ environment.None
none-is e is = search rules

abbrev on_esp_idf : List ℕ → Values
on_esp_idf text =
    values (architecture.Riscv32 riscv32.Riscv32imc) (Custom text) operating_system.Espidf environment.Unknown
    binary_format.Elf

pub esp-is : (a : Architecture) (v : VendorValue) (s : OperatingSystem) (e : Environment) (f : BinaryFormat)
    → is_custom_esp a v s e f ≡ true → values a v s e f ≡ on_esp_idf (codes "esp")
esp-is a v s e f is = search rules

alone-is : (a : Architecture) (s : OperatingSystem) → omits_unknown_system a s ≡ true
    → (omits_system a ≡ true) × (s ≡ operating_system.Unknown)
alone-is a s is = search rules

-- the tests of the list of exceptions, one after the other
facts-by : (t : Values) (special both newlib esp none plain : Bool)
    → is_some (special_string t) ≡ special → has_newlib_and_elf t ≡ both
    → (implies_newlib t.vendor t.operating_system && is_newlib t.environment) ≡ newlib
    → is_custom_esp t.architecture t.vendor t.operating_system t.environment t.binary_format ≡ esp
    → (omits_unknown_system t.architecture t.operating_system && is_none_environment t.environment) ≡ none
    → is_plain t.vendor ≡ plain
    → FactsOf (cond special (cond both None (Some exceptions.PrintsAsSpecial))
    (cond newlib (Some exceptions.HidesNewlib) (cond esp (Some exceptions.PrintsTheEspIdfString)
    (cond none (Some exceptions.ShowsOnlyNone) (cond plain None (Some exceptions.VendorIsNotPlain)))))) t
facts-by t special both newlib esp none plain is_s is_b is_n is_e is_o is_p =
    search (
      rules,
      special-plain,
      fields_of_special,
      newlib-is,
      system_of_newlib,
      special_of_fields,
      esp-is,
      alone-is,
      none-is,
      and_parts,
      false≢true,
    )

pub facts : (t : Values) → FactsOf (exception t) t
facts t = facts-by t _ _ _ _ _ _ refl refl refl refl refl refl

-- from the facts to the exception

pub special-exception : (t : Values) → PrintsAsSpecial t → exception t ≡ Some exceptions.PrintsAsSpecial
unfolding special_string
special-exception t is = search rules

pub newlib-exception : (t : Values) → HidesNewlib t → exception t ≡ Some exceptions.HidesNewlib
unfolding special_string
newlib-exception t is = search rules

pub esp-exception : (t : Values) → PrintsTheEspIdfString t → exception t ≡ Some exceptions.PrintsTheEspIdfString
unfolding special_string
esp-exception t is = ap exception is

pub only_none-exception : (t : Values) → ShowsOnlyNone t → exception t ≡ Some exceptions.ShowsOnlyNone
unfolding special_string
only_none-exception t is = search rules

-- none of the four exceptions applies by which a triple with a plain vendor changes
pub record IsOutside (t : Values) : Type 0 where
  pub special : ¬ PrintsAsSpecial t
  pub newlib : ¬ HidesNewlib t
  pub esp : ¬ PrintsTheEspIdfString t
  pub none : ¬ ShowsOnlyNone t

-- the exception of a triple that is outside
outside-exception : (t : Values) (found : Option RoundTripException) → FactsOf found t → IsOutside t
    → found ≡ cond (is_plain t.vendor) None (Some exceptions.VendorIsNotPlain)
outside-exception t found is outside = search rules

pub plain-exception : (t : Values) → is_plain t.vendor ≡ true → IsOutside t → exception t ≡ None
plain-exception t plain outside = outside-exception t (exception t) (facts t) outside ∙ rw plain refl

esp-plain : (t : Values) → PrintsTheEspIdfString t → is_plain t.vendor ≡ true
unfolding is_admitted known_vendor_of architecture_of operating_system_of fixed_operating_system_of
    environment_of binary_format_of
esp-plain t is = rw is refl

pub vendor-exception : (t : Values) → VendorIsNotPlain t → exception t ≡ Some exceptions.VendorIsNotPlain
vendor-exception t is = outside-exception t (exception t) (facts t) (record {
  special = λ special. false≢true (sym is.vendor ∙ special-plain t special.fields);
  newlib = λ newlib. false≢true (sym is.vendor ∙ newlib-plain t newlib);
  esp = λ esp. false≢true (sym is.vendor ∙ esp-plain t esp);
  none = is.others;
}) ∙ rw is.vendor refl

facts_if : (t : Values) (found : Option RoundTripException) → exception t ≡ found → FactsOf found t
facts_if t found is = subst (λ (o : Option RoundTripException). FactsOf o t) is (facts t)

-- the exceptions that change a triple
abbrev changes : Option RoundTripException → Bool
changes None = false
changes (Some exceptions.VendorIsNotPlain) = false
changes _ = true

unchanged-outside : (t : Values) → changes (exception t) ≡ false → IsOutside t
unchanged-outside t is =
    search (rules, special-exception, newlib-exception, esp-exception, only_none-exception)

pub exceptions_are_facts : ExceptionsAreFactsOfFields
exceptions_are_facts t = record {
  special = (facts_if t _, special-exception t);
  newlib = (facts_if t _, newlib-exception t);
  esp = (facts_if t _, esp-exception t);
  only_none = (facts_if t _, only_none-exception t);
  vendor = (
    λ found. record { vendor = facts_if t _ found; others = (unchanged-outside t (ap changes found)).none },
    vendor-exception t,
  );
}

pub none-plain_outside : (t : Values) → exception t ≡ None → (is_plain t.vendor ≡ true) × IsOutside t
none-plain_outside t found = (facts_if t None found, unchanged-outside t (ap changes found))

-- the step, by the exception

pub step_cases : (P : Values → Type 0) (t : Values)
    → (PrintsAsSpecial t → P (step_of (Some exceptions.PrintsAsSpecial) t))
    → (HidesNewlib t → P (step_of (Some exceptions.HidesNewlib) t))
    → (PrintsTheEspIdfString t → P (step_of (Some exceptions.PrintsTheEspIdfString) t))
    → (ShowsOnlyNone t → P (step_of (Some exceptions.ShowsOnlyNone) t))
    → (IsOutside t → P t)
    → P (normal_step t)
unfolding normal_step
step_cases P t special newlib esp none outside = by_exception (exception t) refl
  where
    by_exception : (found : Option RoundTripException) → exception t ≡ found → P (step_of found t)
    by_exception (Some exceptions.PrintsAsSpecial) is = special (facts_if t _ is)
    by_exception (Some exceptions.HidesNewlib) is = newlib (facts_if t _ is)
    by_exception (Some exceptions.PrintsTheEspIdfString) is = esp (facts_if t _ is)
    by_exception (Some exceptions.ShowsOnlyNone) is = none (facts_if t _ is)
    by_exception (Some exceptions.VendorIsNotPlain) is = outside (unchanged-outside t (ap changes is))
    by_exception None is = outside (unchanged-outside t (ap changes is))

-- the step of one exception, and outside

pub only_none-step : (t : Values) → ShowsOnlyNone t → normal_step t ≡ step_of (Some exceptions.ShowsOnlyNone) t
unfolding normal_step
only_none-step t is = ap (λ (o : Option RoundTripException). step_of o t) (only_none-exception t is)

pub outside-fixed : (t : Values) → IsOutside t → normal_step t ≡ t
outside-fixed t outside = step_cases (λ u. u ≡ t) t
    (λ is. absurd (outside.special is)) (λ is. absurd (outside.newlib is)) (λ is. absurd (outside.esp is))
    (λ is. absurd (outside.none is)) (λ _. refl)

-- whether the triple is the one of the third exception
pub is_esp : (t : Values) → PrintsTheEspIdfString t ⊎ ¬ PrintsTheEspIdfString t
is_esp t = by_exception (exception t) refl
  where
    by_exception : (found : Option RoundTripException) → exception t ≡ found
        → PrintsTheEspIdfString t ⊎ ¬ PrintsTheEspIdfString t
    by_exception (Some exceptions.PrintsTheEspIdfString) found = inl (facts_if t _ found)
    by_exception _ found = inr (λ is. let bad = esp-exception t is in cc)

-- The strings that parse as a vendor.

-- a string parses as a known vendor, or as the custom one of an admitted string
vendor-read : (text : List ℕ) (v : VendorValue) → vendor_of text ≡ Some v → ((known : KnownVendor) × (v ≡ Known known))
    ⊎ ((is_admitted text ≡ true) × (v ≡ Custom text))
unfolding vendor_of
vendor-read text v h = search rules

-- a parsed vendor is plain
pub vendor-plain : (text : List ℕ) (v : VendorValue) → vendor_of text ≡ Some v → is_plain v ≡ true
vendor-plain text v h = elim (vendor-read text v h) [ inl is ↦ rw is.1 refl | inr is ↦ rw is.1 is.0 ]

-- Facts about all parsed triples: the vendor is plain, and the version in range.

-- a fact about the triples of special strings, and about all triples from parts, holds for all parsed triples
pub read-holds : (P : List ℕ → Values → Type 0)
    → ((row : SpecialRow) → RowFacts row → P row.text (special_triple row))
    → ((parts : List (List ℕ)) (fields : List Field) (t : Values) → parts ≢ [] → IsLeastPlacement parts fields
    → HoldsParts parts fields t → P (join_with_byte dash parts) t)
    → (text : List ℕ) (t : Values) → ParsesAs text t → P text t
read-holds P of_row held text t reads = search (rules, row_of_text)

-- the vendor is plain

placed-plain : (part : Option (List ℕ)) (v : VendorValue) → IsValueOf vendor_of (Known Unknown) part v
    → is_plain v ≡ true
placed-plain part v is = search (rules, vendor-plain)

pub read_plain : ReadVendorsArePlain
unfolding special_values
read_plain = search (rules, read-holds, placed-plain)

-- the version of the system is in range

module _ (version-in_range : (text : List ℕ) (s : OperatingSystem) → operating_system_of text ≡ Some s
    → HasVersionInRange s) where
  placed-in_range : (part : Option (List ℕ)) (s : OperatingSystem)
      → IsValueOf operating_system_of operating_system.Unknown part s → HasVersionInRange s
  placed-in_range part s is = search rules

  pub read_in_range : (text : List ℕ) (t : Values) → ParsesAs text t → HasVersionInRange t.operating_system
  unfolding special_values
  read_in_range = search (rules, read-holds, placed-in_range)

-- The pieces that are written are the string of the triple.

-- the names that are shown
abbrev pub printed_names : Values → List (List ℕ)
printed_names t = shown_names (shows_unknowns t) t

-- those of them after the system, where the last three or these are shown
abbrev pub names_after_system : Bool → Values → List (List ℕ)
names_after_system b t =
    cons_if (b || shows_environment t) (environment_name t.environment)
    (cons_if (b || shows_binary_format t) (binary_format_name t.binary_format) [])

-- a dash and the name, if it is shown
abbrev pub dashed_if : Bool → List ℕ → List ℕ
dashed_if is_shown name = if is_shown then dash ∷ name else []

-- each part after a dash
unfoldable pub dashed : List (List ℕ) → List ℕ
dashed [] = []
dashed (part ∷ parts) = dash ∷ part ++ dashed parts

five_parts : (a p q r s : List ℕ) (w x y z : Bool)
    → (((a ++ dashed_if w p) ++ dashed_if x q) ++ dashed_if y r) ++ dashed_if z s
    ≡ join_with_byte dash (a ∷ cons_if w p (cons_if x q (cons_if y r (cons_if z s []))))
unfolding dashed
five_parts a p q r s w x y z = grind (arith, common_steps)

-- a name that is shown if this holds, as a piece
pub name_piece-shown : (b : Bool) (name : Bor (List ℕ)) → name_piece (then_some b name) ≡ dashed_if b name.now
name_piece-shown b name = search rules

-- a system that is shown if this holds, as a piece and its version
system-shown : (last_three : Bool) (t : Values) (before : List ℕ) (prefix : Bor (List ℕ)) (b : Bool)
    → b ≡ (last_three || shows_operating_system t)
    → prefix.now ++ version_suffix (system_version t.operating_system) ≡ operating_system_name t.operating_system
    → (before ++ name_piece (then_some b prefix)) ++ version_suffix (system_version t.operating_system)
    ≡ before ++ dashed_if b (operating_system_name t.operating_system)
system-shown last_three t before prefix b b_is name_is = grind (arith, common_steps)

-- without a special string these pieces are the string
pub string_of_pieces : (last_three : Bool) (t : Values) (a v s e f : Bor (List ℕ))
    (vendor system environment format : Option (Bor (List ℕ))) (version : Option DeploymentTarget) (w x y z : Bool)
    → None ≡ special_string t → a.now ≡ architecture_name t.architecture
    → vendor ≡ then_some w v → w ≡ shows_vendor t → v.now ≡ vendor_name t.vendor
    → system ≡ then_some x s → x ≡ (last_three || shows_operating_system t)
    → s.now ++ version_suffix (system_version t.operating_system) ≡ operating_system_name t.operating_system
    → version ≡ system_version t.operating_system
    → environment ≡ then_some y e → y ≡ (last_three || shows_environment t) → e.now ≡ environment_name t.environment
    → format ≡ then_some z f → z ≡ (last_three || shows_binary_format t) → f.now ≡ binary_format_name t.binary_format
    → ((((a.now ++ name_piece vendor) ++ name_piece system) ++ version_suffix version) ++ name_piece environment)
    ++ name_piece format ≡ text_with last_three t
unfolding shown_names
string_of_pieces last_three t a v s e f vendor system environment format version w x y z none a_is vendor_is w_is v_is
    system_is x_is s_is version_is environment_is y_is e_is format_is z_is f_is =
    search (rules, system-shown, name_piece-shown, five_parts)

-- an environment other than these two is always shown

pub other_environment_shown : (t : Values) → (t.environment ≡ environment.Unknown → ⊥)
    → (t.environment ≡ environment.Newlib → ⊥) → true ≡ shows_environment t
other_environment_shown t unknown newlib = search rules

-- Printed strings are at most so much longer than the string that was parsed, and the canonical form makes no string
-- longer.

pub is_same_format-is : (f g : BinaryFormat) → is_same_format f g ≡ true → f ≡ g
is_same_format-is f g h = search rules

-- the number of bytes of the parts, each with a dash
abbrev pub weight : List (List ℕ) → ℕ
weight [] = 0
weight (part ∷ parts) = suc (length part) + weight parts

weight-joined : (part : List ℕ) (parts : List (List ℕ))
    → weight (part ∷ parts) ≡ suc (length (join_with_byte dash (part ∷ parts)))
weight-joined part [] = omega arith
weight-joined part (next ∷ parts) = search (rules, (weight-joined next parts), length-append)

pub weight-cons_if : (b : Bool) (part : List ℕ) (parts : List (List ℕ))
    → weight (cons_if b part parts) ≤ suc (length part) + weight parts
weight-cons_if b part parts = search rules

pub weight-split : (b : Bool) (part : List ℕ) (parts : List (List ℕ))
    → weight (cons_if b part parts) ≡ weight (cons_if b part []) + weight parts
weight-split b part parts = search rules

weight-parts : (t : Values) (b : Bool) → weight (shown_names b t)
    ≤ suc (length (architecture_name t.architecture))
    + (suc (length (vendor_name t.vendor))
    + (suc (length (operating_system_name t.operating_system)) + weight (names_after_system b t)))
unfolding shown_names
weight-parts t b = search (rules, names_after_system, weight-cons_if)

pub weight-shown : (t : Values) (b : Bool)
    → weight (shown_names b t) ≡ suc (length (join_with_byte dash (shown_names b t)))
unfolding shown_names
weight-shown t b = weight-joined _ _

-- a part with its dash, if there is one
abbrev size_of : Option (List ℕ) → ℕ
size_of None = 0
size_of (Some part) = suc (length part)

abbrev sizes_at : List (List ℕ) → List Field → ℕ
sizes_at parts fields =
    size_of (part_at field.Architecture parts fields)
    + (size_of (part_at field.Vendor parts fields) + (size_of (part_at field.OperatingSystem parts fields)
    + (size_of (part_at field.Environment parts fields) + size_of (part_at field.BinaryFormat parts fields))))

-- each part is that of a field
weight-next : (p : List ℕ) (ps : List (List ℕ)) (f : Field) (fs : List Field) → part_at f ps fs ≡ None
    → weight ps ≡ sizes_at ps fs → weight (p ∷ ps) ≡ sizes_at (p ∷ ps) (f ∷ fs)
weight-next p ps f fs none is = search rules

weight-filled : {a b : State} {fs : List Field} {ps : List (List ℕ)} → Fills a fs ps b [] → weight ps ≡ sizes_at ps fs
weight-filled Stop = omega arith
weight-filled (Take {f = f} {fs = fs} {p = p} {ps = ps} found w) =
    weight-next p ps f fs (absent f f ps refl (omega arith) w) (weight-filled w)

-- the name of a field's value, which grows at most so
value-growth : {A : Type 0} (name : A → List ℕ) (find : List ℕ → Option A) (unfilled : A) (bytes : ℕ) (growth : A → ℕ)
    → NamesGrowAtMost bytes name find → ((x : A) → bytes ≤ growth x) → suc (length (name unfilled)) ≤ growth unfilled
    → (part : Option (List ℕ)) (x : A) → IsValueOf find unfilled part x
    → suc (length (name x)) ≤ size_of part + growth x
value-growth name find unfilled bytes growth grows least short part x is = search rules

-- an unfilled system is unknown; the name of another grows less
abbrev system_growth : OperatingSystem → ℕ
system_growth operating_system.Unknown = 8
system_growth _ = 4

system_growth-within : (s : OperatingSystem) → (4 ≤ system_growth s) × (system_growth s ≤ 8)
system_growth-within s = search rules

is_same_format-self : (f : BinaryFormat) → is_same_format f f ≡ true
is_same_format-self f = search rules

-- a special string is not longer than the parts that are shown otherwise

system_shown : (a : Architecture) (s : OperatingSystem) → is_none_or_unknown s ≡ false
    → omits_unknown_system a s ≡ false
system_shown a s known = search rules

weight-row : (t : Values) (b : Bool) (row : SpecialRow) → HasFieldsOf row t → RowFacts row
    → length row.text ≤ length (join_with_byte dash (shown_names b t))
unfolding shown_names
weight-row t b row is facts = omega (arith, facts.short, weight-shown t b, at_least)
  where
    at_least : length (architecture_name row.architecture) + (1 + length (known_vendor_name row.vendor))
        + (1 + length (operating_system_name row.operating_system)) < weight (shown_names b t)
    at_least = rw (
      is.architecture,
      is.system.vendor,
      is.system.operating_system,
      facts.vendor,
      system_shown row.architecture row.operating_system facts.operating_system,
      or-true b,
    ) (omega arith)

special-short : (t : Values) (b : Bool) (n : ℕ) → length (join_with_byte dash (shown_names b t)) ≤ n
    → length (unwrap_or (special_string t) (join_with_byte dash (shown_names b t))) ≤ n
special-short t b n short = search (rules, string_cases, prints_row, weight-row)

unknown-environment : parses_as field.Environment (binary_format_name binary_format.Unknown) ≡ true
unknown-environment = rw (environment_of-format binary_format.Unknown) refl

-- a part that is an unknown format comes after an environment, since it would be an unknown environment
abbrev HasUnknownLast : List (List ℕ) → List Field → Type 0
HasUnknownLast ps fs = part_at field.BinaryFormat ps fs ≡ Some (binary_format_name binary_format.Unknown)
    → part_at field.Environment ps fs ≢ None

no_environment : (l : Field) (p : List ℕ) (f : Field) → field_number l < 3 → field_for (expected_after l) p ≡ Some f
    → parses_as field.Environment p ≡ true → field_number f ≤ 3
no_environment l p f near found takes =
    rw found at (first-least (expected_after l) p field.Environment ((open-after l field.Environment).1 near) takes)

unknown-next : (l : Field) (p : List ℕ) (ps : List (List ℕ)) (f : Field) (fs : List Field) → field_number l < 3
    → field_for (expected_after l) p ≡ Some f
    → (field_number f < 3 → HasUnknownLast ps fs) → HasUnknownLast (p ∷ ps) (f ∷ fs)
unknown-next l p ps f fs near found later = search (rules, no_environment, unknown-environment)

unknown-last : (l : Field) {a b : State} {fs : List Field} {ps left : List (List ℕ)} → a.expected ≡ expected_after l
    → field_number l < 3 → Fills a fs ps b left → HasUnknownLast ps fs
unknown-last l is near Stop = search (rules, absent-none)
unknown-last l is near (Take {f = f} {fs = fs} {p = p} {ps = ps} found w) =
    unknown-next l p ps f fs near (rw is at found) (λ later. unknown-last f refl later w)

module _ (formats : TextsAreNames binary_format_name binary_format_of)
    (environments : TextsAreNames environment_name environment_of)
    (architectures : NamesGrowAtMost 2 architecture_name architecture_of) (machine : List ℕ) where
  -- the names of the architecture and of an implied format that is shown, and the growth of the system
  abbrev IsShort : Architecture → VendorValue → OperatingSystem → Environment → Type 0
  IsShort a v s e = length (architecture_name a)
      + (weight (cons_if (shows_implied_format (values a v s e (implied_format a s e)))
      (binary_format_name (implied_format a s e)) []) + system_growth s)
      ≤ length machine + 14

  implied_format-short : (a : Architecture) (v : VendorValue) (s : OperatingSystem) (e : Environment)
      → architecture_of machine ≡ Some a → IsShort a v s e
  implied_format-short a v s e found = search rules

  format-growth : (t : Values) (part : Option (List ℕ)) → architecture_of machine ≡ Some t.architecture
      → IsValueOf binary_format_of (default_binary_format t) part t.binary_format
      → length (architecture_name t.architecture)
      + (weight (cons_if (shows_binary_format t) (binary_format_name t.binary_format) []) + system_growth
      t.operating_system)
      ≤ length machine + (size_of part + 14)
  format-growth t None found is =
      rw (is, is_same_format-self (default_binary_format t))
      (omega (arith, implied_format-short t.architecture t.vendor t.operating_system t.environment found))
  format-growth t (Some p) found is =
      omega (
        arith,
        weight-cons_if (shows_binary_format t) (binary_format_name t.binary_format) [],
        ap length (formats p t.binary_format is),
        (system_growth-within t.operating_system).1,
        architectures machine t.architecture found,
      )

  environment-growth : (t : Values) (part : Option (List ℕ)) (rest : List (List ℕ))
      → IsValueOf environment_of environment.Unknown part t.environment
      → weight (cons_if (shows_environment t) (environment_name t.environment) rest) ≤ size_of part + weight rest
  environment-growth t part rest is = search rules

  -- the architecture, and the parts that are shown after the system
  after_system-growth : (t : Values) (e f : Option (List ℕ)) (b : Bool) → shows_unknowns t ≡ b
      → architecture_of machine ≡ Some t.architecture → IsValueOf environment_of environment.Unknown e t.environment
      → IsValueOf binary_format_of (default_binary_format t) f t.binary_format
      → (f ≡ Some (binary_format_name binary_format.Unknown) → e ≢ None)
      → length (architecture_name t.architecture) + (weight (names_after_system b t) + system_growth t.operating_system)
      ≤ length machine + (size_of e + (size_of f + 14))
  after_system-growth t e f false shown found is_e is_f last =
      omega (
        arith,
        environment-growth t e (cons_if (shows_binary_format t) (binary_format_name t.binary_format) [])
            is_e,
        format-growth t f found is_f,
      )
  after_system-growth t e None true shown found is_e is_f last =
      let differs : is_same_format t.binary_format (default_binary_format t) ≡ false =
      not-true _ (and_parts _ _ shown).1 in
      absurd (true≢false (sym (is_same_format-self (default_binary_format t)) ∙ rw is_f at differs))
  after_system-growth t None (Some p) true shown found is_e is_f last =
      let unknown : t.binary_format ≡ binary_format.Unknown =
      is_same_format-is _ _ (and_parts _ _ (and_parts _ _ shown).0).1 in
      absurd (last (ap Some (sym (formats p t.binary_format is_f) ∙ ap binary_format_name unknown)) refl)
  after_system-growth t (Some q) (Some p) true shown found is_e is_f last =
      omega (
        arith,
        ap length (formats p t.binary_format is_f),
        ap length (environments q t.environment is_e),
        (system_growth-within t.operating_system).1,
        architectures machine t.architecture found,
      )

module _ (formats : TextsAreNames binary_format_name binary_format_of)
    (environments : TextsAreNames environment_name environment_of)
    (architectures : NamesGrowAtMost 2 architecture_name architecture_of)
    (vendors : TextsAreNames vendor_name vendor_of)
    (systems : NamesGrowAtMost 4 operating_system_name operating_system_of) where
  abbrev GrowsAtMost : List ℕ → Values → Type 0
  GrowsAtMost text t = length (string_of t) ≤ length text + 22

  by_fields : (p : List ℕ) (ps : List (List ℕ)) (fs : List Field) (b : State) (t : Values)
      → Fills (after field.Architecture p start) fs ps b [] → HoldsParts (p ∷ ps) (field.Architecture ∷ fs) t
      → GrowsAtMost (join_with_byte dash (p ∷ ps)) t
  unfolding string_of
  by_fields p ps fs b t filled holds =
      special-short t (shows_unknowns t) _ (omega (
        arith,
        value-growth vendor_name vendor_of (Known Unknown) 0 (λ _. 8)
            (λ text x found. omega (arith, ap length (vendors text x found))) (λ x. omega arith)
            (omega arith) _ t.vendor
            holds.vendor,
        value-growth operating_system_name operating_system_of operating_system.Unknown 4 system_growth systems
            (λ s. (system_growth-within s).0) (omega arith) _ t.operating_system holds.operating_system,
        after_system-growth formats environments architectures p t _ _ (shows_unknowns t) refl holds.architecture
            holds.environment holds.binary_format (unknown-last field.Architecture refl (omega arith) filled),
        weight-parts t (shows_unknowns t),
        weight-shown t (shows_unknowns t),
        weight-joined p ps,
        weight-next p ps field.Architecture fs
            (absent field.Architecture field.Architecture ps refl (omega arith) filled) (weight-filled filled),
      ))

  by_filled : (ps : List (List ℕ)) (fs : List Field) (b : State) (t : Values) → ps ≢ [] → Fills start fs ps b []
      → HoldsParts ps fs t → GrowsAtMost (join_with_byte dash ps) t
  by_filled ps fs b t some Stop holds = absurd (some refl)
  by_filled ps fs b t some (Take {f = f} {fs = gs} {p = p} {ps = qs} found w) holds =
      let is = (opened (Some field.Architecture) p f found).0 in
      by_fields p qs gs b t (subst (λ g. Fills (after g p start) gs qs b []) is w)
      (subst (λ g. HoldsParts (p ∷ qs) (g ∷ gs) t) is holds)

  row-grows : (row : SpecialRow) → RowFacts row → GrowsAtMost row.text (special_triple row)
  unfolding string_of
  row-grows row facts = rw (facts.prints environment.Newlib binary_format.Elf) (omega arith)

  by_placement : (parts : List (List ℕ)) (fs : List Field) (t : Values) → parts ≢ [] → IsLeastPlacement parts fs
      → HoldsParts parts fs t → GrowsAtMost (join_with_byte dash parts) t
  by_placement parts fs t some least holds =
      let filled = least-filled parts fs least in by_filled parts fs filled.0 t some filled.1 holds

  pub printed_max_growth : PrintedStringsGrowAtMost
  printed_max_growth = read-holds GrowsAtMost row-grows by_placement

-- a refused part is a part of the string

part-lighter : (parts : List (List ℕ)) (n : ℕ) (part : List ℕ) → slice_get parts n ≡ Some part
    → suc (length part) ≤ weight parts
part-lighter [] n part is = absurd cc
part-lighter (p ∷ ps) zero part is = let same : p ≡ part = cc in omega (arith, ap length same)
part-lighter (p ∷ ps) (suc n) part is = omega (arith, part-lighter ps n part is)

pub refused_does_not_grow : RefusedPartsDoNotGrow
refused_does_not_grow = search (rules, part-lighter, weight-joined)

-- the normal step makes no string longer, or it is that of a short special string

abbrev DoesNotGrow : Values → Values → Type 0
DoesNotGrow u t = length (string_of u) ≤ length (string_of t)

abbrev GrowsLittle : Values → Values → Type 0
GrowsLittle u t = (length (string_of u) ≤ max_growth) ⊎ DoesNotGrow u t

-- if both print the same special string or none
by_weight : (u t : Values) → special_string u ≡ special_string t → weight (printed_names u) ≤ weight (printed_names t)
    → DoesNotGrow u t
unfolding string_of
by_weight u t special lighter = search (rules, cases_Option, weight-shown)

special-length : (t : Values) → HasSpecialFields t
    → length (string_of (step_of (Some exceptions.PrintsAsSpecial) t)) ≤ max_growth
unfolding string_of special_string
special-length t has = search rules

-- the names of a triple with the vendor and the system of a row, if the environment isn't shown
row-names : (a : Architecture) (row : SpecialRow) (e : Environment) (f : BinaryFormat) → RowFacts row
    → shows_environment (values a (Known row.vendor) row.operating_system e f) ≡ false
    → shown_names false (values a (Known row.vendor) row.operating_system e f)
    ≡ architecture_name a ∷ known_vendor_name row.vendor ∷ operating_system_name row.operating_system
    ∷ cons_if (not (is_same_format f binary_format.Elf) || false) (binary_format_name f) []
unfolding shown_names
row-names a row e f facts hidden = search rules

row-lighter : (a : Architecture) (row : SpecialRow) → RowFacts row → (f : BinaryFormat)
    → weight (printed_names (values a (Known row.vendor) row.operating_system environment.Unknown (elf_if_unknown f)))
    ≤ weight (printed_names (values a (Known row.vendor) row.operating_system environment.Newlib f))
row-lighter a row facts f = search (rules, row-names)

newlib-lighter : (t : Values) → HidesNewlib t
    → weight (printed_names (step_of (Some exceptions.HidesNewlib) t)) ≤ weight (printed_names t)
unfolding shown_names
newlib-lighter t is = search (rules, row_of_system, row-lighter)

-- on an architecture that omits an unknown system
alone-lighter : (a : Architecture) (v : VendorValue) (f : BinaryFormat) → omits_system a ≡ true
    → weight (printed_names (values a v operating_system.None_ environment.Unknown f))
    ≤ weight (printed_names (values a v operating_system.Unknown environment.None f))
unfolding shown_names
alone-lighter a v f omits = search rules

no_string : (t : Values) → is_none_or_unknown t.operating_system ≡ true → special_string t ≡ None
unfolding special_string
no_string t without = search rules

none-does_not_grow : (t : Values) → ShowsOnlyNone t → DoesNotGrow (step_of (Some exceptions.ShowsOnlyNone) t) t
none-does_not_grow t is = search (rules, by_weight, no_string, alone-lighter)

step-grows : (t : Values) → GrowsLittle (normal_step t) t
unfolding string_of special_string
step-grows t = step_cases (λ u. GrowsLittle u t) t
    (λ is. inl (special-length t is.fields))
    (λ is. inr (by_weight (step_of (Some exceptions.HidesNewlib) t) t refl (newlib-lighter t is)))
    (λ is. inl (rw is (omega arith))) (λ is. inr (none-does_not_grow t is)) (λ _. inr (omega arith))

pub canonical_max_growth : PrintedStringsGrowAtMost → CanonicalStringsGrowAtMost
canonical_max_growth printed text t reads = search (rules, step-grows)

-- a string with a vendor that fits into memory fits into memory
pub text_with-short : (b : Bool) (t : Values) → NamesAreShort architecture_name → NamesAreShort environment_name
    → NamesAreShort binary_format_name → length (operating_system_name t.operating_system) ≤ max_name_length
    → (special_string t ≡ None → length (vendor_name t.vendor) < 2 ^ 63) → length (text_with b t) < 2 ^ 64
text_with-short b t architecture environment binary_format system vendor = elim (string_cases t) [
  | inl none ↦ rw none (omega (arith, names-short, vendor none))
  | inr at ↦ rw (prints_row t at.0 at.1 at.2) (omega (arith, at.2.bound))
]
  where
    names : List ℕ
    names = join_with_byte dash (shown_names b t)

    names-short : length names ≤ 100 + length (vendor_name t.vendor)
    names-short = omega (
      arith,
      weight-shown t b,
      weight-parts t b,
      weight-cons_if (b || shows_environment t) (environment_name t.environment)
          (cons_if (b || shows_binary_format t) (binary_format_name t.binary_format) []),
      weight-cons_if (b || shows_binary_format t) (binary_format_name t.binary_format) [],
      architecture t.architecture,
      environment t.environment,
      binary_format t.binary_format,
      system,
    )

-- If an unknown environment and an unknown format are shown, the string is longer than upstream's.

-- two more parts, or at most one of them
other_names : (a : Architecture) (v : VendorValue) (s : OperatingSystem) → let t =
    values a v s environment.Unknown binary_format.Unknown in
    join_with_byte dash (shown_names true t) ≢ join_with_byte dash (shown_names false t)
unfolding shown_names
other_names a v s same =
    let t = values a v s environment.Unknown binary_format.Unknown in
    let format = cons_if (shows_binary_format t) (binary_format_name binary_format.Unknown) [] in
    let unknowns = environment_name environment.Unknown ∷ binary_format_name binary_format.Unknown ∷ [] in
    omega (
      arith,
      ap length same,
      weight-shown t true,
      weight-shown t false,
      weight-split (shows_vendor t) (vendor_name v) (operating_system_name s ∷ unknowns),
      weight-split (shows_vendor t) (vendor_name v)
          (cons_if (shows_operating_system t) (operating_system_name s) format),
      weight-cons_if (shows_operating_system t) (operating_system_name s) format,
      weight-cons_if (shows_binary_format t) (binary_format_name binary_format.Unknown) [],
    )

unknowns_shown : (i : BinaryFormat) → i ≢ binary_format.Unknown → is_same_format binary_format.Unknown i ≡ false
unknowns_shown i other = search rules

other_text : (t : Values) → HasUnimpliedUnknowns t → string_of t ≢ upstream_string_of t
unfolding string_of upstream_string_of
other_text t is same = search (rules, other_names, unknowns_shown)

-- the triples for which this is so
shows_unknowns_by : (t : Values) (special : Option (List ℕ)) (b : Bool) → special_string t ≡ special
    → shows_unknowns t ≡ b → string_of t ≢ upstream_string_of t → HasUnimpliedUnknowns t
unfolding string_of upstream_string_of
shows_unknowns_by t special b special2 shown other = search rules

pub only_unknowns_differ : OnlyUnknownsDifferFromUpstream
only_unknowns_differ t = (shows_unknowns_by t _ _ refl refl, other_text t)
