use Rattle.std.proofs.lemmas.{Fmt.IsAscii-decimal, Fmt.length-decimal-le, Str.IsUtf8-from_ascii}
use Rattle.lexicon_fields.proofs.Names.{arith, put_taken, rules}
use Rattle.lexicon_fields.proofs.decimal.decimal_text.Goals as goal

pub put_decimal-end-requires : goal.put_decimal-end-requires
put_decimal-end-requires c = omega (arith, length-decimal-le 20)

pub shared_ref_as_front-text : goal.shared_ref_as_front-text
shared_ref_as_front-text c = grind (arith, length-decimal-le 20)

pub unreachable-requires : goal.unreachable-requires
unreachable-requires c = search (rules, put_taken, IsAscii-decimal, IsUtf8-from_ascii)

pub returns : goal.returns
returns c = search (rules, put_taken)
