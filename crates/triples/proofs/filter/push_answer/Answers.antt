-- The answer to a line that is UTF-8 is what is shown of its triple, or its refusal.
use Rattle.triples.proofs.{IsRefusedAs, List}
use Rattle.triples.proofs.{not_utf8, refl, refusal_value, refused-pushes, rules, shown-pushes, shown-short, subst, ℕ}
use Rattle.triples.proofs.filter.push_answer.Goals as goal

pub returns-in_default : goal.returns-in_default
returns-in_default c = record {
  answer = not_utf8;
  is = record { text = λ utf8. absurd (c.in_default.ensures.cases.0 utf8); other = λ _. refl };
  pushed = c.put.ensures;
}

pub put_shown-end-requires-clause-room : goal.put_shown-end-requires-clause-room
put_shown-end-requires-clause-room c = search (rules, shown-short)

pub put-requires-in-Ok-from_str : goal.put-requires-in-Ok-from_str
put-requires-in-Ok-from_str c = search (rules, shown-short)

pub returns-in-Ok-from_str : goal.returns-in-Ok-from_str
returns-in-Ok-from_str c = search (rules, shown-pushes)

pub returns-in-Err : goal.returns-in-Err
returns-in-Err c =
    let line = c.in-Ok.ensures.cases in
    let refusal = refusal_value c.in-Err.refusal in
    let refused = subst (λ (text : List ℕ). IsRefusedAs text refusal) line.0 c.in-Err.ensures.err in
    refused-pushes c.args.mode c.args.line.now refusal line.1 refused c.put-start.ensures c.put_refusal-end.ensures
    c.put-in-Err.ensures
