use Rattle.target_lexicon.proofs.{rules}
use Rattle.target_lexicon.proofs.display.Pieces.write_to.Goals as goal

pub returns-then-length-out : goal.returns-then-length-out
returns-then-length-out c =
    let law = c.texts_are_put_in_order.ensures in
    let first = rw c.as_bytes.ensures.value at c.put-at.ensures in
    let version =
    rw c.optional_version_text-version.ensures at
    (rw c.as_bytes-then-length-out.ensures.value at c.put-at-then-length-out.ensures) in
    let all =
    law.first _ _ _ _ (law.next
    _ _ _ _ _ _ _ _ (law.next
    _ _ _ _ _ _ _ _ (law.next _ _ _ _ _ _ _ _ (law.next _ _ _ _ _ _ _ _ (law.next _ _ _ _ _ _ _ _
    first c.put_piece-at.ensures) c.put_piece-at-then-length-out.ensures) version)
    c.put_piece-at-then-length-out-2.ensures) c.put_piece.ensures) in
    record { counted = search rules; fits = λ _. all.bytes; overflows = λ short. absurd (search rules) }
