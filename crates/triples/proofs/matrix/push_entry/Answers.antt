-- The entry of a line is its canonical triple, printed, or its refusal.
use Rattle.triples.proofs.{read-enters, refusal-enters, rules}
use Rattle.triples.proofs.matrix.push_entry.Goals as goal

pub settle-requires : goal.settle-requires
settle-requires c = c.read_vendors_are_plain.ensures _ _ c.in-Ok.ensures.ok

pub returns-in_ok-to_text-in-Ok : goal.returns-in_ok-to_text-in-Ok
returns-in_ok-to_text-in-Ok c = search (rules, read-enters)

pub returns-in-Err : goal.returns-in-Err
returns-in-Err c = search (rules, refusal-enters)
