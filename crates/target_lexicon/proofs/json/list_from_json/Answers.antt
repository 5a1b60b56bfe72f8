-- The loop has the triples of the elements so far; the first element that is refused ends it.
use Rattle.target_lexicon.proofs.Elements.{all_triples-more, elements_begun, elements_read-more, elements_refused}
use Rattle.target_lexicon.proofs.Elements.{at_array, elements_read}
use Rattle.target_lexicon.proofs.{OwnsCustomString, arith, is_plain, true, vendor_value, ◌≡◌}
use Rattle.target_lexicon.proofs.json.list_from_json.Goals as goal

pub returns-then-is_err-clause-err : goal.returns-then-is_err-clause-err
returns-then-is_err-clause-err c =
    grind (arith, at_array, c.in-Some.ensures, c.deref-element-items.ensures.value, elements_begun, c.in-Ok.ensures.ok)

pub returns-in-Err-clause-err : goal.returns-in-Err-clause-err
returns-in-Err-clause-err c =
    at_array _ _ _ _ c.in-Some.ensures c.deref-element-items.ensures.value
    (elements_refused _ c.loop-i.i _ _ _ (omega arith) c.element-item.is c.loop-i.invariant.read c.in-Err.ensures.err)

pub loop-i-preserved : goal.loop-i-preserved
loop-i-preserved c =
    let grown = rw c.if-is_err.ensures.negation at c.push.ensures.items in
    record {
      read =
          elements_read-more _ c.loop-i.i _ _ _ _ (omega arith) c.element-item.is grown c.loop-i.invariant.read
          c.in-Ok.ensures.ok;
      owned =
          all_triples-more (λ triple. OwnsCustomString triple.vendor) _ _ _ grown c.loop-i.invariant.owned
          c.in-Ok.ensures.owned;
      plain =
          all_triples-more (λ triple. is_plain (vendor_value triple.vendor) ≡ true) _ _ _ grown c.loop-i.invariant.plain
          c.in-Ok.ensures.plain;
    }

pub returns : goal.returns
returns c = grind (arith, at_array, c.in-Some.ensures, c.deref-element-items.ensures.value, elements_read)
