use Rattle.target_lexicon.proofs.{length-append, rules}
use Rattle.target_lexicon.proofs.refusal.Refusal.write_to.Goals as goal

pub returns-then-length-out : goal.returns-then-length-out
returns-then-length-out c =
    let law = c.texts_are_put_in_order.ensures in
    let put = law.first _ _ _ _ (law.next _ _ _ _ _ _ _ _ c.put-at.ensures c.put.ensures) in
    search (rules, length-append)
