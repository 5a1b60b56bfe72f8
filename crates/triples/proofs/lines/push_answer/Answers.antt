-- The answer to a line is what is shown of its triple, which has a plain vendor, or its refusal.
use Rattle.triples.proofs.{append_assoc, refusal-adds, rules, shown-adds, shown_by, string_bytes, values_of, ◌++◌, ◌≡◌}
use Rattle.triples.proofs.lines.push_answer.Goals.{in-Print-mode, in-Show+in_ok-push_facts-in-Show}
use Rattle.triples.proofs.lines.push_answer.Goals as goal

pub settle-shown-requires : goal.settle-shown-requires
settle-shown-requires c = c.read_vendors_are_plain.ensures _ _ c.in-Ok.ensures.ok

pub returns-after-mode-2 : goal.returns-after-mode-2
returns-after-mode-2 c =
    let t = values_of c.in-Ok.triple in
    let old = string_bytes c.args.output.now in
    let grown : string_bytes c.match-mode-2.output ≡ old ++ shown_by c.args.mode t =
    elim c.match-mode-2.branch [
      | in-Show+in_ok-push_facts-in-Show v ↦
          let both = v.in_ok-push_facts-in-Show.ensures in search (rules, append_assoc)
      | in-Print-mode v ↦ search rules
    ] in
    shown-adds c.push.result (shown_by c.args.mode) c.args.line.now old (string_bytes c.match-mode-2.output)
    (string_bytes c.push.new.self)
    t c.in-Ok.ensures.ok grown (search rules)

pub returns-in-Err : goal.returns-in-Err
returns-in-Err c = search (rules, refusal-adds)
