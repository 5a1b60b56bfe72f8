-- A binary search: no row before `low` or after the `size` rows from there has the string, and the ticks so far are
-- those of the way to them.
use Rattle.lexicon_fields.proofs.Names.{binary_format_of, environment_of, fixed_operating_system_of, on-the-way-greater}
use Rattle.lexicon_fields.proofs.Names.{architecture_of, known_vendor_of, on-the-way-first, on-the-way-less, row-exists}
use Rattle.lexicon_fields.proofs.Names.{found-there, name_values, no_row-above, no_row-below, no_row-outside, none-left}
use Rattle.lexicon_fields.proofs.Names.{arith, has_row, row_count, row_text-is, row_texts, subst, text-is, values-are}
use Rattle.lexicon_fields.proofs.Names.{List, ap, refl, sym, true, ℕ, ◌+◌, ◌/◌, ◌<◌, ◌≡◌}
use Rattle.lexicon_fields.proofs.table.row_of.Goals as goal

pub loop-size-init : goal.loop-size-init
loop-size-init c = grind (arith, on-the-way-first)

pub loop-size-preserved-in-Less : goal.loop-size-preserved-in-Less
loop-size-preserved-in-Less c =
    grind (arith, no_row-below, c.in-Less.ensures.order, on-the-way-less, c.row_order.ensures.count)

pub loop-size-preserved : goal.loop-size-preserved
loop-size-preserved c =
    grind (arith, no_row-above, c.in-Greater.ensures.order, on-the-way-greater, c.row_order.ensures.count)

pub returns-in-Equal-clause-row : goal.returns-in-Equal-clause-row
unfolding row_texts architecture_of known_vendor_of fixed_operating_system_of environment_of binary_format_of
returns-in-Equal-clause-row c =
    let middle = c.loop-size.low + c.loop-size.size / 2 in
    let below : middle < row_count = omega (arith, c.loop-size.invariant.within, c.loop-size-test.true) in
    let same = row_text-is middle c.args.text.now (sym c.in-Equal.ensures.order) in
    record {
      exists = subst (λ (text : List ℕ). has_row text ≡ true) same (row-exists middle below);
      text = rw (text-is _ middle _ below refl) same;
      values = rw (values-are _ middle _ below refl) (ap name_values same);
    }

pub returns-in-Equal-clause-exact : goal.returns-in-Equal-clause-exact
returns-in-Equal-clause-exact c =
    found-there _ _ _ c.loop-size.low c.loop-size.size c.args.text.now c.loop-size.invariant.way
    (omega (arith, c.loop-size-test.true)) c.row_order.ensures.count (sym c.in-Equal.ensures.order)

pub returns-clause-row : goal.returns-clause-row
returns-clause-row c =
    no_row-outside c.args.text.now c.loop-size.low c.loop-size.invariant.below
    (λ k ge lt. c.loop-size.invariant.above k (omega (arith, ge, c.loop-size-test.false)) lt)

pub returns-clause-exact : goal.returns-clause-exact
returns-clause-exact c =
    none-left _ _ 0 c.loop-size.low c.loop-size.size c.args.text.now c.loop-size.invariant.way
    (omega (arith, c.loop-size-test.false))
