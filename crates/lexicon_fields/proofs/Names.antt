-- Names parse back, and what is known of a string that parses; which strings have a row. The table is in Table.
pub mod Table
unfoldable pub use Table.*
use Rattle.std.proofs.lemmas.List.Splits.{join_with_byte-slice_split, length-slice_split, slice_split_first}
use Rattle.std.proofs.lemmas.Str.Parse.{IsNumeralModel, digits_value_short, numerals_by_value}
use Rattle.std.proofs.lemmas.Bool.{cases_lt, cond-true, false_from_ne_true, le-leb, lt-ltb, not-true}
use Rattle.std.proofs.lemmas.List.{Folds.list_any-append, Splits.slice_split_none, Sums.fails_before_first}
use Rattle.std.proofs.lemmas.List.{Folds.list_any_at, Folds.list_any_none, Splits.slice_split_at, take-append-drop}
use Rattle.lexicon_fields.specs.OperatingSystem.{system_version, system_with_version, text_after_prefix}
use Rattle.lexicon_fields.specs.Vendor.{OwnsCustomString, has_vendor_form, is_admitted, owns_string, vendor_value}
use Rattle.lexicon_fields.specs.Version.{piece_number_within, pieces_of, version_of_numbers, version_of_pieces}
use Rattle.lexicon_fields.specs.declared.{architecture.Architecture.Architecture, vendor.Vendor.Vendor}
use Rattle.std.proofs.lemmas.{Fmt.decimal_is_IsNumeral, Map.Views.Contains-from_any, Map.Views.list_any-from_Contains}
use Rattle.std.proofs.lemmas.{Fmt.digits_decimal, Fmt.length-decimal-le, Grind.common_steps}
use Rattle.std.specs.Str.Parse.{ParsesUnsigned, digits_value, without_leading_plus}
use Rattle.lexicon_fields.specs.{Laws.NamesReadBackOn, Private.remaining_pieces, Private.version_after, Vendor.IsCustom}
use Rattle.lexicon_fields.specs.{Laws.NamesReadBack, Names.value_named, Private.first_system, Put.IsPut}
use Rattle.std.proofs.Math.{Bool.and-false, Seq.drop-append_seam, Seq.take-append_seam}
use Rattle.std.specs.{Char.is_ascii_digit, Cmp.Lexicographic.nat_list_eq_equiv, List.before_first, List.position_or_len}
use Rattle.std.specs.{List.after_first, List.join_with_byte, Result.result_ok}

-- ---- What a look-up says about the string, and how to show that names parse back.

-- a test that every pair passes holds for each string and the value that it parses as
pub value_named-all : {V : Type 0} (test : Pair V → Bool) (pairs : List (Pair V)) (text : List ℕ) (v : V)
    → list_all test pairs ≡ true → value_named pairs text ≡ Some v → test (text, v) ≡ true
value_named-all test [] text v all found = cc
value_named-all test (pair ∷ pairs) text v all found =
    search (rules, bytes_eq-Decides, and_parts, (value_named-all test pairs text v))

-- a string in a table of names is the name of the value that it parses as
pub value_named-named_values : {V : Type 0} (name : V → List ℕ) (values : List V) (text : List ℕ) (v : V)
    → list_all (λ pair. bytes_eq pair.0 (name pair.1)) (named_values name values) ≡ true
    → value_named (named_values name values) text ≡ Some v → name v ≡ text
value_named-named_values name values text v all found = search (rules, bytes_eq-Decides, value_named-all)

-- a property of every parsed value carries over: from a part to the whole, to the next step, and to the first of two
-- parsers that succeeds

pub holds-if_read : {V : Type 0} (P : V → Type 0) (reading : Option V) → ((v : V) → reading ≡ Some v → P v)
    → IfSome reading P
holds-if_read P reading holds = search rules

pub option_map-holds : {V U : Type 0} (P : V → Type 0) (Q : U → Type 0) (whole : V → U) (part : Option V)
    → IfSome part P → ((v : V) → P v → Q (whole v)) → IfSome (option_map whole part) Q
option_map-holds P Q whole part of_part of_whole = search rules

pub option_and_then-holds : {V U : Type 0} (P : V → Type 0) (Q : U → Type 0) (next : V → Option U) (first : Option V)
    → IfSome first P → ((v : V) → P v → IfSome (next v) Q) → IfSome (option_and_then next first) Q
option_and_then-holds P Q next first of_first of_next = search rules

pub option_or-none : {V : Type 0} (o : Option V) → option_or o None ≡ o
option_or-none o = search rules

pub none_is : {V : Type 0} (o : Option V) → is_none o ≡ true → o ≡ None
none_is o none = search rules

-- if every byte of a string passes a test, none of them is a byte that fails it, such as a dash

pub all_apart : (test : ℕ → Bool) (x : ℕ) → test x ≡ false → (text : List ℕ) → list_all test text ≡ true
    → All (λ c. nat_eq c x ≡ false) text
all_apart test x other text all = grind (arith, common_steps)

pub all-dash_free : (test : ℕ → Bool) → test dash ≡ false → (text : List ℕ) → list_all test text ≡ true
    → is_dash_free text ≡ true
all-dash_free test other text all = search (rules, all_apart, list_any_none)

-- names that parse back have no dash if no string that parses has one
pub of_kind-read_back : {V : Type 0} (IsOfKind : V → Type 0) (name : V → List ℕ) (find : List ℕ → Option V)
    → ((v : V) → IsOfKind v → find (name v) ≡ Some v)
    → ((text : List ℕ) (v : V) → find text ≡ Some v → is_dash_free text ≡ true)
    → NamesReadBackOn IsOfKind name find
of_kind-read_back IsOfKind name find reads free = search rules

-- ---- How version strings are parsed, piece by piece.

-- the test for digits is that of `parse`
pub digits_model : IsNumeralModel (λ ds. list_all is_ascii_digit ds ≡ true) (digits_value 10)
digits_model = numerals_by_value _ (search rules)

-- what `parse` at an unsigned type gives for a piece: the number, if it is within the limit of that type
pub parsed : {E : Type 0} (k limit : ℕ) (piece : List ℕ) (r is : Result ℕ E) → limit + 1 ≡ 2 ^ k
    → ParsesUnsigned k 10 piece r → r ≡ is → piece_number_within limit piece ≡ result_ok is
parsed k limit piece r is fits parses same = grind (arith, common_steps, digits_model.from, digits_model.to)

-- the pieces of a string after its first dot, and those of a string without a dot
pub pieces_of-first : (text piece rest : List ℕ) → piece ≡ before_first (λ c. nat_eq c dot) text
    → rest ≡ after_first (λ c. nat_eq c dot) text → position_or_len (λ c. nat_eq c dot) text < length text
    → pieces_of text ≡ piece ∷ pieces_of rest
pieces_of-first text piece rest prefix_key back found = slice_split_first (λ c. nat_eq c dot) text 0 found ∙ cc

pub pieces_of-whole : (text : List ℕ) → position_or_len (λ c. nat_eq c dot) text ≡ length text
    → pieces_of text ≡ text ∷ []
pieces_of-whole text none = search (rules, slice_split_none, fails_before_first)

-- a last piece, and a piece that others follow
pub pieces-last : (pieces : List (List ℕ)) (p : List ℕ) (rest : Option (Bor (List ℕ)))
    → pieces ≡ p ∷ remaining_pieces rest → rest ≡ None → pieces ≡ p ∷ []
pieces-last pieces p rest is none = is ∙ ap (λ x. p ∷ remaining_pieces x) none

pub pieces-more : (pieces : List (List ℕ)) (p : List ℕ) (rest : Option (Bor (List ℕ))) (others : Bor (List ℕ))
    (ps : List (List ℕ)) → pieces ≡ p ∷ remaining_pieces rest → rest ≡ Some others → pieces_of others.now ≡ ps
    → pieces ≡ p ∷ ps
pieces-more pieces p rest others ps is some more = is ∙ ap (λ x. p ∷ remaining_pieces x) some ∙ ap (λ x. p ∷ x) more

-- a string has a piece
pub pieces_of-some : (text : List ℕ) → pieces_of text ≢ []
pieces_of-some text none = omega (arith, length-slice_split (λ c. nat_eq c dot) text, ap length none)

-- the name of a version parses as that version

decimal_digits : (n : ℕ) → n < 2 ^ 64 → list_all is_ascii_digit (decimal n) ≡ true
decimal_digits n small = search (rules, digits_decimal, digits_model)

-- digits have no leading plus
without_plus : (ds : List ℕ) → list_all is_ascii_digit ds ≡ true → without_leading_plus ds ≡ ds
without_plus ds digits = search rules

piece_number_within-decimal : (limit n : ℕ) → n ≤ limit → n < 2 ^ 64 → piece_number_within limit (decimal n) ≡ Some n
piece_number_within-decimal limit n within small =
    search (rules, decimal_is_IsNumeral, decimal_digits, lt-ltb, le-leb, without_plus)

pieces_of-digits : (ds : List ℕ) → list_all is_ascii_digit ds ≡ true → pieces_of ds ≡ ds ∷ []
pieces_of-digits ds digits = slice_split_none _ ds (all_apart is_ascii_digit dot refl ds digits)

pieces_of-dot : (ds rest : List ℕ) → list_all is_ascii_digit ds ≡ true
    → pieces_of (ds ++ (dot ∷ rest)) ≡ ds ∷ pieces_of rest
pieces_of-dot ds rest digits = slice_split_at _ ds dot rest (all_apart is_ascii_digit dot refl ds digits) refl

pub version_of-name : (v : DeploymentTarget) → v.major < 2 ^ 16 → v.minor < 2 ^ 8 → v.patch < 2 ^ 8
    → version_of (version_name v) ≡ Some v
version_of-name v major minor patch =
    search (rules, decimal_digits, pieces_of-dot, pieces_of-digits, piece_number_within-decimal)

-- ---- How the names of systems are parsed, with their versions: each system parses back from its name.

-- a string is its prefix and the string after it
text_after_prefix-read : (prefix text : List ℕ) → IfSome (text_after_prefix prefix text) (λ rest. text ≡ prefix ++ rest)
text_after_prefix-read prefix text = search (rules, cond_some, bytes_eq-Decides, take-append-drop)

-- a string that begins with a prefix has the rest after it, and every other string has none
pub has_prefix : (prefix text rest : List ℕ) → text ≡ prefix ++ rest → text_after_prefix prefix text ≡ Some rest
has_prefix prefix text rest is = search (rules, bytes_eq-Decides, take-append_seam, cond-true, drop-append_seam)

pub has_no_prefix : (prefix text : List ℕ) → ((rest : List ℕ) → text ≢ prefix ++ rest)
    → text_after_prefix prefix text ≡ None
has_no_prefix prefix text differs = grind (arith, (text_after_prefix-read prefix text))

-- the first system by the versions after the prefixes is the one by the rests after them

pub first_system-is : (rows : List (Pair (Option DeploymentTarget → OperatingSystem))) (text : List ℕ)
    → first_system rows text ≡ darwin_like_system rows text
unfolding version_after
first_system-is [] text = refl
first_system-is (row ∷ rows) text = search (rules, (first_system-is rows text))

-- every system parses back from its name

-- the string of a version after a prefix isn't empty
some_version : (text : List ℕ) (v : DeploymentTarget) → version_of text ≡ Some v
    → optional_version_of text ≡ Some (Some v)
some_version text v is = search rules

version_suffix-parses : (version : Option DeploymentTarget) → IfSome version IsVersionInRange
    → optional_version_of (version_suffix version) ≡ Some version
version_suffix-parses None range = refl
version_suffix-parses (Some v) range = some_version (version_name v) v (version_of-name v range.0 range.1 range.2)

pub operating_system_of-name : (s : OperatingSystem) → HasVersionInRange s
    → operating_system_of (operating_system_name s) ≡ Some s
unfolding operating_system_of fixed_operating_system_of
operating_system_of-name s range = search (rules, version_suffix-parses)

-- ---- The rows are exactly those of the strings that are a fixed name of some field.

-- a string that is in no row parses as no fixed name
none_without_row : {V : Type 0} (pairs : List (Pair V)) (text : List ℕ)
    → list_all (λ pair. is_row pair.0) pairs ≡ true → is_row text ≡ false → value_named pairs text ≡ None
none_without_row pairs text rows none = search (rules, value_named-all)

no_row : (s : List ℕ) → is_row s ≡ false → has_row s ≡ false
unfolding architecture_of known_vendor_of fixed_operating_system_of environment_of binary_format_of is_row row_texts
no_row s none = simp none_without_row

row_text-found : (s : List ℕ) → has_row s ≡ true → is_row s ≡ true
row_text-found s exists = grind (arith, no_row)

-- so it has no dash
row-dash_free : (s : List ℕ) → has_row s ≡ true → is_dash_free s ≡ true
row-dash_free s exists = row_text-dash_free s (row_text-found s exists)

-- each row's string is a name of some field
row_text-exists : (s : List ℕ) → is_row s ≡ true → has_row s ≡ true
unfolding architecture_of known_vendor_of fixed_operating_system_of environment_of binary_format_of is_row row_texts
row_text-exists s found = any_passes has_row s row_texts refl found

pub row-exists : (i : ℕ) → i < row_count → has_row (row_text i) ≡ true
unfolding is_row
row-exists i below = search (rules, row_text-exists, list_any_at, length-row_texts, bytes_eq-Decides)

-- the row with a string
row_text-at : (s : List ℕ) → is_row s ≡ true → (i : ℕ) × (i < row_count) × (row_text i ≡ s)
unfolding is_row
row_text-at s found =
    let at = Contains-from_any (λ x y. (bytes_eq-Decides x y).0) s row_texts found in
    let below : at.0 < row_count = omega (arith, at.1, length-row_texts) in
    (at.0, below, sym (row_text-default at.0 s below) ∙ at.2)

-- a string that is in no row before an index, nor from it on, has no row
pub no_row-outside : (s : List ℕ) (place : ℕ) → ((k : ℕ) → k < place → row_text k ≢ s)
    → ((k : ℕ) → place ≤ k → k < row_count → row_text k ≢ s) → has_row s ≡ false
no_row-outside s place below above = search (rules, no_row, false_from_ne_true, is_row, row_text-at, cases_lt)

-- the strings of the rows are all strings that have a row
pub rows-complete : (s : List ℕ) → Contains row_texts s ↔ (has_row s ≡ true)
unfolding is_row
rows-complete s = (
  λ at. row_text-exists s (list_any-from_Contains nat_list_eq_equiv s row_texts at),
  λ exists. Contains-from_any (λ x y. (bytes_eq-Decides x y).0) s row_texts (row_text-found s exists),
)

-- a string that has no row is a name of no field
pub no_name_without_row : (s : List ℕ) → has_row s ≡ false → (architecture_of s ≡ None) × (known_vendor_of s ≡ None)
    × (fixed_operating_system_of s ≡ None) × (environment_of s ≡ None) × (binary_format_of s ≡ None)
no_name_without_row s none = search rules

-- no string of a row parses as a system like Darwin
row_text-unlike_darwin : (s : List ℕ) → is_row s ≡ true → is_none (darwin_like_system darwin_prefixes s) ≡ true
unfolding is_row row_texts
row_text-unlike_darwin s found =
    any_passes (λ text. is_none (darwin_like_system darwin_prefixes text)) s row_texts refl found

-- so a string with a row parses as a system only by its fixed name
pub row-parses_by_name : (s : List ℕ) → has_row s ≡ true → operating_system_of s ≡ fixed_operating_system_of s
unfolding operating_system_of
row-parses_by_name s exists = search (rules, row_text-found, row_text-unlike_darwin, none_is, option_or-none)

-- and a string without a row only as a system like Darwin
pub without_row_is_darwin_like : (s : List ℕ) → has_row s ≡ false
    → darwin_like_system darwin_prefixes s ≡ operating_system_of s
unfolding operating_system_of
without_row_is_darwin_like s none = search (rules, no_name_without_row)

pub system_without_row : (s : List ℕ) → has_row s ≡ false → operating_system_of s ≡ first_system darwin_prefixes s
system_without_row s none = sym (first_system-is darwin_prefixes s ∙ without_row_is_darwin_like s none)

-- ---- Strings that parse as a system: they have no dash, the system's version is in range, and its name is at most 4
-- bytes longer.

is_dash_free-append : (s t : List ℕ) → is_dash_free s ≡ true → is_dash_free t ≡ true → is_dash_free (s ++ t) ≡ true
is_dash_free-append s t first second = rw (list_any-append (λ b. nat_eq b dash) s t, not-true _ first) second

-- digits, with or without a leading plus
signed_digits-dash_free : (piece : List ℕ) → list_all is_ascii_digit (without_leading_plus piece) ≡ true
    → is_dash_free piece ≡ true
signed_digits-dash_free piece digits = grind (arith, common_steps, all-dash_free)

-- a piece that gives a number: the number is within the limit and has at most as many digits as the piece
piece-read : (limit : ℕ) (piece : List ℕ) (n : ℕ) → limit ≤ 65535 → piece_number_within limit piece ≡ Some n
    → (is_dash_free piece ≡ true) × (n ≤ limit) × (length (decimal n) ≤ length piece)
piece-read limit piece n small is =
    let short = digits_value_short digits_model (without_leading_plus piece) in
    search (rules, arith, cond_some, and_parts, signed_digits-dash_free, length-decimal-le)

-- the numbers of a version are those of its pieces
numbers-read : (major minor patch : Option ℕ) (v : DeploymentTarget) → version_of_numbers major minor patch ≡ Some v
    → (major ≡ Some v.major) × (minor ≡ Some v.minor) × (patch ≡ Some v.patch)
numbers-read major minor patch v is = search rules

missing-read : (n : ℕ) → Some 0 ≡ Some n → (n ≤ 255) × (length (decimal n) ≤ 1)
missing-read n is = search (rules, length-decimal-le)

abbrev IsVersionRead : List ℕ → DeploymentTarget → Type 0
IsVersionRead text v = (is_dash_free text ≡ true) × IsVersionInRange v × (length (version_name v) ≤ length text + 4)

pub length-version : (v : DeploymentTarget)
    → length (version_name v) ≡ length (decimal v.major) + length (decimal v.minor) + length (decimal v.patch) + 2
length-version v = simp length-append (omega arith)

pub numbers-short : (v : DeploymentTarget) → IsVersionInRange v
    → length (decimal v.major) + length (decimal v.minor) + length (decimal v.patch) + 2 ≤ 13
numbers-short v (major, minor, patch) =
    omega (arith, length-decimal-le 5 v.major, length-decimal-le 3 v.minor, length-decimal-le 3 v.patch)

pieces-read : (pieces : List (List ℕ)) (v : DeploymentTarget) → version_of_pieces pieces ≡ Some v
    → IsVersionRead (join_with_byte dot pieces) v
pieces-read (major ∷ []) v is =
    let found = numbers-read _ _ _ v is in
    let first = piece-read 65535 major v.major (omega arith) found.0 in
    let second = missing-read v.minor found.1 in
    let third = missing-read v.patch found.2 in
    search (rules, arith, length-version)
pieces-read (major ∷ minor ∷ []) v is =
    let found = numbers-read _ _ _ v is in
    let first = piece-read 65535 major v.major (omega arith) found.0 in
    let second = piece-read 255 minor v.minor (omega arith) found.1 in
    let third = missing-read v.patch found.2 in
    search (rules, arith, is_dash_free-append, length-version, length-append)
pieces-read (major ∷ minor ∷ patch ∷ []) v is =
    let found = numbers-read _ _ _ v is in
    let first = piece-read 65535 major v.major (omega arith) found.0 in
    let second = piece-read 255 minor v.minor (omega arith) found.1 in
    let third = piece-read 255 patch v.patch (omega arith) found.2 in
    search (rules, arith, is_dash_free-append, length-version, length-append)
pieces-read _ v is = absurd cc

version-read : (text : List ℕ) → IfSome (version_of text) (IsVersionRead text)
version-read text = rw join_with_byte-slice_split at (holds-if_read _ (version_of text) (pieces-read (pieces_of text)))

-- the string after a prefix
suffix-read : (text : List ℕ)
    → IfSome (optional_version_of text) (λ version. (is_dash_free text ≡ true) × IfSome version IsVersionInRange
    × (length (version_suffix version) ≤ length text + 4))
suffix-read [] = (refl, tt, omega arith)
suffix-read (c ∷ cs) = search (rules, (version-read (c ∷ cs)))

abbrev IsSystemRead : List ℕ → OperatingSystem → Type 0
IsSystemRead text s =
    (is_dash_free text ≡ true) × HasVersionInRange s × (length (operating_system_name s) ≤ length text + 4)

-- a prefix has no dash; its systems have the version after it, and their names are the prefix and the version
abbrev IsPrefix : Pair (Option DeploymentTarget → OperatingSystem) → Type 0
IsPrefix row =
    (is_dash_free row.0 ≡ true)
    × ((version : Option DeploymentTarget)
    → (system_version (row.1 version) ≡ version)
    × (operating_system_name (row.1 version) ≡ row.0 ++ version_suffix version))

prefixed-read : (row : Pair (Option DeploymentTarget → OperatingSystem)) (text : List ℕ) → IsPrefix row
    → IfSome (option_and_then (system_with_version row.1) (text_after_prefix row.0 text)) (IsSystemRead text)
prefixed-read row text is =
    option_and_then-holds _ _ (system_with_version row.1) (text_after_prefix row.0 text)
    (text_after_prefix-read row.0 text) (λ rest whole.
    option_map-holds _ _ row.1 (optional_version_of rest) (suffix-read rest) (λ version read.
    search (rules, arith, is_dash_free-append, length-append, (is.1 version))))

abbrev ArePrefixes : List (Pair (Option DeploymentTarget → OperatingSystem)) → Type 0
ArePrefixes [] = Unit {0}
ArePrefixes (row ∷ rows) = IsPrefix row × ArePrefixes rows

darwin_like_system-read : (rows : List (Pair (Option DeploymentTarget → OperatingSystem))) (text : List ℕ)
    → ArePrefixes rows → IfSome (darwin_like_system rows text) (IsSystemRead text)
darwin_like_system-read [] text are = tt
darwin_like_system-read (row ∷ rows) text are =
    search (rules, (darwin_like_system-read rows text are.1), (prefixed-read row text are.0))

-- a system with a fixed name has no version
fixed-read : (text : List ℕ) → IfSome (fixed_operating_system_of text) (IsSystemRead text)
unfolding fixed_operating_system_of
fixed-read text = search rules

prefixes : ArePrefixes darwin_prefixes
prefixes = search rules

pub operating_system-read : (text : List ℕ) (s : OperatingSystem) → operating_system_of text ≡ Some s
    → IsSystemRead text s
unfolding operating_system_of
operating_system-read text s is =
    search (rules, (fixed-read text), (darwin_like_system-read darwin_prefixes text prefixes))

-- ---- How vendors are parsed: every plain one parses back from its name, and no string that parses as one has a dash.

-- how a string parses as a vendor

-- one with a row: only as the known vendor of that name
pub row_read : (text : List ℕ) → has_row text ≡ true → option_map Known (known_vendor_of text) ≡ vendor_of text
unfolding vendor_of is_admitted
row_read text exists = search (rules, row-parses_by_name, option_or-none)

pub formless_read : (text : List ℕ) → has_vendor_form text ≡ false → vendor_of text ≡ None
unfolding vendor_of is_admitted known_vendor_of
formless_read text formless = search (rules, and-false)

-- a string without a row: as a custom vendor, if it parses as no system and has the form of a vendor
pub without_row_read : (text : List ℕ) → has_row text ≡ false
    → vendor_of text ≡ (if is_none (operating_system_of text) && has_vendor_form text then Some (Custom text) else None)
unfolding vendor_of is_admitted
without_row_read text none = search (rules, no_name_without_row)

-- a string is admitted if and only if it parses as a custom vendor

abbrev pub is_read_custom : Option VendorValue → Bool
is_read_custom (Some (Custom text)) = true
is_read_custom _ = false

pub admitted_as_custom : (text : List ℕ) (reading : Option VendorValue) → vendor_of text ≡ reading
    → is_admitted text ≡ is_read_custom reading
unfolding vendor_of is_admitted
admitted_as_custom text reading is = search rules

pub custom_is_admitted : (text : List ℕ) (v : VendorValue) → vendor_of text ≡ Some v → IsCustom v
    → is_admitted text ≡ true
custom_is_admitted text v is bad = search (rules, admitted_as_custom)

pub owner_is_admitted : (text : List ℕ) (v : Vendor) → vendor_of text ≡ Some (vendor_value v) → OwnsCustomString v
    → owns_string v ≡ is_admitted text
owner_is_admitted text v is owns = search (rules, admitted_as_custom)

-- every plain vendor parses back from its name
pub vendor_of-name : (v : VendorValue) → is_plain v ≡ true → vendor_of (vendor_name v) ≡ Some v
unfolding vendor_of is_admitted
vendor_of-name (Custom text) plain = grind arith
vendor_of-name (Known known) plain = unfold known_vendor_of in search rules

-- the name of a plain vendor has no dash

form-dash_free : (text : List ℕ) → has_vendor_form text ≡ true → is_dash_free text ≡ true
form-dash_free text form = grind (arith, common_steps, all-dash_free)

pub vendor_of-dash_free : (text : List ℕ) (v : VendorValue) → vendor_of text ≡ Some v → is_dash_free text ≡ true
vendor_of-dash_free text v is = grind (arith, form-dash_free, formless_read)

-- ---- The law of names for the five fields of a triple, which proofs of the crates above cite.

-- names parse back if each parses as its value and each string that parses has a row
each-read_back : {V : Type 0} (name : V → List ℕ) (find : List ℕ → Option V) → ((v : V) → find (name v) ≡ Some v)
    → ((text : List ℕ) (v : V) → find text ≡ Some v → has_row text ≡ true) → NamesReadBack name find
each-read_back name find reads row = search (rules, of_kind-read_back, row-dash_free)

architecture_of-name : (a : Architecture) → architecture_of (architecture_name a) ≡ Some a
unfolding architecture_of
architecture_of-name a = search rules

-- a family of architectures: the sub-architecture of an architecture, and the architecture with a sub-architecture
pub part-read_back : {V : Type 0} (whole : V → Architecture) (part : Architecture → Option V)
    → ((v : V) → part (whole v) ≡ Some v)
    → NamesReadBack (λ v. architecture_name (whole v)) (λ text. option_and_then part (architecture_of text))
part-read_back whole part is = search (rules, each-read_back, architecture_of-name)

pub record NamesAreRead : Type 0 where
  pub architecture : NamesReadBack architecture_name architecture_of
  pub vendor : NamesReadBackOn (λ v. is_plain v ≡ true) vendor_name vendor_of
  pub operating_system : NamesReadBackOn HasVersionInRange operating_system_name operating_system_of
  pub environment : NamesReadBack environment_name environment_of
  pub binary_format : NamesReadBack binary_format_name binary_format_of

pub names_are_read : NamesAreRead
names_are_read = record {
  architecture = search (rules, each-read_back, architecture_of-name);
  vendor = search (rules, of_kind-read_back, vendor_of-name, vendor_of-dash_free);
  operating_system = search (rules, of_kind-read_back, operating_system_of-name, operating_system-read);
  environment = each-read_back _ _ (λ v. unfold environment_of in search rules) (λ text v found. search rules);
  binary_format = each-read_back _ _ (λ v. unfold binary_format_of in search rules) (λ text v found. search rules);
}

-- ---- Strings put one after the other into a buffer.

-- a second string goes after the first
pub puts_then : {x y old mid now : List ℕ} {i j k : ℕ} → Puts x old i mid j → Puts y mid j now k
    → Puts (x ++ y) old i now k
puts_then p q = grind (arith, common_steps)

-- a string that goes to the start of the buffer is all that is there
pub puts_first : {x old now : List ℕ} {k : ℕ} → Puts x old 0 now k → IsPut x old now k
puts_first {x} {old} p = p.after [] old (record { counted = refl; bytes = refl })

-- the bytes up to its end are the string
pub put_taken : {x old now : List ℕ} {k : ℕ} → Puts x old 0 now k → take k now ≡ x
put_taken {x} {old} p = let first = puts_first p in rw (first.counted, first.bytes) (take-append_seam x _)
