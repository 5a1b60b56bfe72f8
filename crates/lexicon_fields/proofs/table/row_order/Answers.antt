-- The order of two different prefix keys is that of the strings; with equal keys the order of the lengths is, or of the
-- strings.
use Rattle.lexicon_fields.proofs.Names.{greater_by_key, less_by_key, order_of_rests, order_of_same_key, row_text-bytes}
use Rattle.lexicon_fields.proofs.Names.{get_or, key-is, nat_cmp, prefix_key_of, row_count, row_text, row_texts, text-is}
use Rattle.lexicon_fields.proofs.Names.{Equal, Iter, List, ap, arith, drop, refl, sym, ℕ, ◌<◌, ◌∙◌, ◌≡◌, ◌≤◌, ◌⊎◌}
use Rattle.std.proofs.lemmas.{Iterator.Search.cmp_from_yields_List, Iterator.YieldsList-from_slice, List.take_rest}
use Rattle.{lexicon_fields.specs.declared.table.TheConstants.KEYS, std.specs.Cmp.nat_cmp_is}
use Rattle.lexicon_fields.proofs.table.row_order.Goals as goal

pub returns-then-own_key-key-clause-order : goal.returns-then-own_key-key-clause-order
returns-then-own_key-key-clause-order c =
    let less = rw (key-is c.args.i c.requires, c.prefix_key-key.ensures) at c.if-own_key-key.true in
    sym (less_by_key 8 _ c.args.text.now (row_text-bytes c.args.i c.requires) (λ i. omega (arith, c.type_inv.text i))
    less)

pub returns-then-key-own_key-clause-order : goal.returns-then-key-own_key-clause-order
returns-then-key-own_key-clause-order c =
    let greater = rw (key-is c.args.i c.requires, c.prefix_key-key.ensures) at c.if-key-own_key.true in
    sym (greater_by_key 8 _ c.args.text.now (row_text-bytes c.args.i c.requires) (λ i. omega (arith, c.type_inv.text i))
    greater)

-- neither key is smaller
same_key : (i : ℕ) (text : List ℕ) (key : ℕ) → i < row_count → key ≡ prefix_key_of 8 text → key ≤ get_or KEYS i 0
    → get_or KEYS i 0 ≤ key → prefix_key_of 8 (row_text i) ≡ prefix_key_of 8 text
same_key i text key below is le ge = omega (arith, key-is i below, is, le, ge)

not_both_long : {m n : ℕ} → (m ≤ 8) ⊎ ((8 < m) × (n ≤ 8)) → 8 < m → 8 < n → ⊥
not_both_long either p q = grind arith

pub returns-then-own-text-clause-order : goal.returns-then-own-text-clause-order
unfolding row_texts
returns-then-own-text-clause-order c =
    let short = rw (text-is _ c.args.i _ c.requires refl) at c.then-own-le8.either in
    let same = rw (text-is _ c.args.i _ c.requires refl) at c.if-own-text.true in
    nat_cmp_is _ _ Equal same
    ∙ sym (order_of_same_key 8 _ c.args.text.now (row_text-bytes c.args.i c.requires)
    (λ i. omega (arith, c.type_inv.text i)) (not_both_long short)
    (same_key c.args.i c.args.text.now _ c.requires c.prefix_key-key.ensures c.if-own_key-key.false
    c.if-key-own_key.false))

pub returns-then-own-le8-clause-order : goal.returns-then-own-le8-clause-order
unfolding row_texts
returns-then-own-le8-clause-order c =
    let short = rw (text-is _ c.args.i _ c.requires refl) at c.then-own-le8.either in
    let by_length = rw (text-is _ c.args.i _ c.requires refl) at c.cmp.ensures in
    by_length
    ∙ sym (order_of_same_key 8 _ c.args.text.now (row_text-bytes c.args.i c.requires)
    (λ i. omega (arith, c.type_inv.text i)) (not_both_long short)
    (same_key c.args.i c.args.text.now _ c.requires c.prefix_key-key.ensures c.if-own_key-key.false
    c.if-key-own_key.false))

pub returns-clause-order : goal.returns-clause-order
unfolding row_texts
returns-clause-order c =
    let long = rw (text-is _ c.args.i _ c.requires refl) at c.if-own-le8.false in
    let own = rw (text-is _ c.args.i _ c.requires refl) at c.as_bytes.ensures.value in
    cmp_from_yields_List (λ x y. y ≡ x) _ nat_cmp _ c.cmp-2.ensures.ran
    (YieldsList-from_slice (drop 8 (row_text c.args.i)) (c.iter.ensures.rest
    ∙ rw own (take_rest (row_text c.args.i) 8)))
    (λ it e. YieldsList-from_slice (drop 8 c.args.text.now) (ap (λ (i : Iter ℕ). i.rest.now) e ∙ c.iter-2.ensures.rest
    ∙ rw c.as_bytes-2.ensures.value (take_rest c.args.text.now 8)))
    (λ x y. refl)
    ∙ sym (order_of_rests 8 _ c.args.text.now (row_text-bytes c.args.i c.requires)
    (λ i. omega (arith, c.type_inv.text i)) (omega (arith, long)) (omega (arith, c.if-text-le8.false))
    (same_key c.args.i c.args.text.now _ c.requires c.prefix_key-key.ensures c.if-own_key-key.false
    c.if-key-own_key.false))
