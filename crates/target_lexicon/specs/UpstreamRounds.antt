-- Round trips by upstream's own rule of printing, without the addition `shows_unknowns`: there are six exceptions, and
-- one round trip settles every plain triple but one, which takes two. What these definitions cite is compared with
-- upstream's crate. `checks/theorem` proves the law.
use Rattle.std.specs.Prelude.{◌≡◌, ◌≢◌, ◌↔◌, Bool, false, ◌&&◌, None, codes, is_none, if◌then◌else◌}
use Rattle.lexicon_fields.specs.Laws.{HasVersionInRange}
use Rattle.target_lexicon.specs.{Exceptions.exception, FixedPoints.IsPlainTriple, ImpliedFormat.default_binary_format}
use Rattle.target_lexicon.specs.{NormalStep.normal_step}
use Rattle.target_lexicon.specs.{Printing.shows_unknowns, Printing.upstream_string_of, QueryLaws.HaveSameAnswers}
use Rattle.target_lexicon.specs.{Parsing.ParsesAs}
use Rattle.target_lexicon.specs.Values.{Custom, Values, values}
use Rattle.target_lexicon.specs.Values.architecture
use Rattle.target_lexicon.specs.Values.riscv32
use Rattle.target_lexicon.specs.Values.operating_system
use Rattle.target_lexicon.specs.Values.environment
use Rattle.target_lexicon.specs.Values.binary_format

-- the sixth exception: no other one applies, environment and format are unknown, and another format is implied. Of the
-- two only the format is shown, and its name `unknown` parses as an earlier field
abbrev pub is_sixth_exception : Values → Bool
is_sixth_exception t = is_none (exception t) && shows_unknowns t

-- what upstream's string of a plain triple reads as: a triple of the sixth exception with the implied format, each
-- other one as its normal step
abbrev pub upstream_step : Values → Values
upstream_step t = if is_sixth_exception t then record t { binary_format = default_binary_format t } else normal_step t

-- the one plain triple that a round trip doesn't settle: it has the custom vendor `esp`, and after the first one it
-- prints as `riscv32imc-esp-espidf`, which is a special string
abbrev pub settles_in_two : Values
settles_in_two =
    values (architecture.Riscv32 riscv32.Riscv32imc) (Custom (codes "esp")) operating_system.Espidf environment.Unknown
    binary_format.Unknown

-- the laws of round trips with upstream's strings: the round trip of a plain triple succeeds and is the step; a triple
-- comes back exactly outside the six exceptions; a step keeps the four queries; a second step changes exactly that one
-- triple, and a third changes none
pub record UpstreamRoundTripsAreKnown : Type 0 where
  pub round : (t : Values) → IsPlainTriple t → ParsesAs (upstream_string_of t) (upstream_step t)
  pub fixed : (t : Values) → HasVersionInRange t.operating_system
      → ParsesAs (upstream_string_of t) t ↔ ((exception t ≡ None) × (is_sixth_exception t ≡ false))
  pub queries : (t : Values) → HaveSameAnswers (upstream_step t) t
  pub second : (t : Values) → (upstream_step (upstream_step t) ≢ upstream_step t) ↔ (t ≡ settles_in_two)
  pub third : (t : Values) → upstream_step (upstream_step (upstream_step t)) ≡ upstream_step (upstream_step t)
