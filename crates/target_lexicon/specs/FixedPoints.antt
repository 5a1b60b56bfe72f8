-- Laws of round trips, in which a triple is printed and its string parsed again: which triples come back, what the
-- others become, and how long strings are.
use Rattle.std.specs.Prelude.{ℕ, ◌+◌, ◌≤◌, List, length, ◌≡◌, ◌↔◌, None, true}
use Rattle.target_lexicon.specs.{Parsing.IsRefusedAs, Parsing.ParsesAs, Refusal.Refusal, Exceptions.exception}
use Rattle.target_lexicon.specs.{Laws.EveryStringHasOneOutcome, Laws.ComesBack, NormalStep.normal_step}
use Rattle.target_lexicon.specs.{Printing.string_of}
use Rattle.target_lexicon.specs.{QueryLaws.QueriesKept, Values.Values}
use Rattle.lexicon_fields.specs.{Laws.HasVersionInRange, Vendor.is_plain}

-- a triple with a plain vendor, whose version, if its system has one, is in range, as the types of the code ensure
pub record IsPlainTriple (t : Values) : Type 0 where
  pub vendor : is_plain t.vendor ≡ true
  pub version : HasVersionInRange t.operating_system

-- every triple that a string reads as is such a triple
abbrev pub ParsedTriplesArePlain : Type 0
ParsedTriplesArePlain = (text : List ℕ) (t : Values) → ParsesAs text t → IsPlainTriple t

-- the round trip of every plain triple succeeds and is the normal step
abbrev pub RoundIsNormalStep : Type 0
RoundIsNormalStep = (t : Values) → IsPlainTriple t → ParsesAs (string_of t) (normal_step t)

-- a triple comes back if and only if it has no exception. This holds for every triple whose version is in range, also
-- if its vendor is not plain
abbrev pub FixedExactlyOutsideExceptions : Type 0
FixedExactlyOutsideExceptions = (t : Values) → HasVersionInRange t.operating_system → ComesBack t ↔ (exception t ≡ None)

-- the canonical form: the triple after two normal steps. The second changes nothing, by `OneStepSettles`, so a plain
-- triple comes back after it. One whose vendor isn't plain never comes back
abbrev pub canonical_values : Values → Values
canonical_values t = normal_step (normal_step t)

-- the canonical string: the printed string of the canonical form
abbrev pub canonical_string : Values → List ℕ
canonical_string t = string_of (canonical_values t)

-- one normal step already gives the canonical form of each triple, also if its vendor is not plain
abbrev pub OneStepSettles : Type 0
OneStepSettles = (t : Values) → canonical_values t ≡ normal_step t

-- the canonical form of a plain triple comes back, and no other canonical form has its string
pub record CanonicalStringsAreKeys : Type 0 where
  pub comes_back : (t : Values) → IsPlainTriple t → ComesBack (canonical_values t)
  pub own : (t u : Values) → IsPlainTriple t → IsPlainTriple u → canonical_string t ≡ canonical_string u
      → canonical_values t ≡ canonical_values u

-- the laws of round trips as one: every string reads or is refused in exactly one way, the triple that a string reads
-- as is plain, a triple comes back exactly outside the exceptions, the round trip of a plain triple succeeds and is the
-- normal step, which keeps the four queries, a second step changes nothing, and canonical strings are keys. What a
-- reader must judge are `texts`, `plain`, `round`, `queries`, `steps`, and the exceptions that `fixed` names. That
-- `fixed` and `keys` hold follows from these, by which a plain triple comes back if and only if the normal step leaves
-- it as it is
pub record RoundTripsAreKnown : Type 0 where
  pub texts : EveryStringHasOneOutcome
  pub plain : ParsedTriplesArePlain
  pub fixed : FixedExactlyOutsideExceptions
  pub round : RoundIsNormalStep
  pub queries : QueriesKept
  pub steps : OneStepSettles
  pub keys : CanonicalStringsAreKeys

-- the growth bound: a printed string is at most this much longer than a string that reads as its triple; it is reached
-- by `arm64`, which prints as `aarch64-unknown-unknown-elf`
abbrev pub max_growth : ℕ
max_growth = 22

-- the printed string of a triple is at most that much longer than each string that reads as it
abbrev pub PrintedStringsGrowAtMost : Type 0
PrintedStringsGrowAtMost =
    (text : List ℕ) (t : Values) → ParsesAs text t → length (string_of t) ≤ length text + max_growth

-- so is the canonical string
abbrev pub CanonicalStringsGrowAtMost : Type 0
CanonicalStringsGrowAtMost =
    (text : List ℕ) (t : Values) → ParsesAs text t → length (canonical_string t) ≤ length text + max_growth

-- a refused part is not longer than the string
abbrev pub RefusedPartsDoNotGrow : Type 0
RefusedPartsDoNotGrow =
    (text : List ℕ) (refusal : Refusal) → IsRefusedAs text refusal → length refusal.part ≤ length text
