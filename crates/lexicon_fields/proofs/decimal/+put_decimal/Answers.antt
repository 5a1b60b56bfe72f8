-- The digits of a number are those of its tenth and one more.
use Rattle.lexicon_fields.proofs.Names.{arith, decimal, length, length-append, puts_then, rules, ℕ, ◌+◌, ◌/◌, ◌<◌, ◌^◌}
use Rattle.std.proofs.lemmas.Fmt.{decimal_digit, decimal_step}
use Rattle.lexicon_fields.proofs.Names.{◌≡◌, ◌≤◌}
use Rattle.lexicon_fields.proofs.decimal.+put_decimal.Goals as goal

one_more : (n : ℕ) → 10 ≤ n → n < 2 ^ 64 → length (decimal n) ≡ length (decimal (n / 10)) + 1
one_more n is fits = simp (decimal_step, length-append)

pub put_byte-requires : goal.put_byte-requires
put_byte-requires t c = grind (arith, decimal_digit)

pub put_decimal-at-requires : goal.put_decimal-at-requires
put_decimal-at-requires t c = omega (arith, one_more)

pub put_byte-requires-2 : goal.put_byte-requires-2
put_byte-requires-2 t c = omega (arith, one_more)

pub returns-then-n-lt10 : goal.returns-then-n-lt10
returns-then-n-lt10 t c = grind (arith, decimal_digit, c.put_byte.ensures)

pub returns : goal.returns
returns t c = search (rules, puts_then, decimal_step)
