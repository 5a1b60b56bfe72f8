use Rattle.triples.proofs.{ap, Concludes, Option, refl, Request, Run, Some, use_of, ◌∙◌, ◌≡◌}
use Rattle.triples.proofs.perform.perform.Goals as goal

pub returns-in-Some-Run : goal.returns-in-Some-Run
returns-in-Some-Run g c =
    let said = c.conclude-in-Some-Run.ensures in
    let concludes : Concludes (Some c.run-end.result)
    (use_of g.W.Write.contents c.run-end.new.w c.conclude-in-Some-Run.new.w) c.conclude-in-Some-Run.result =
    record { status_is = said.status; said = said.said; begun = said.begun; once = said.once; quiet = said.quiet } in
    let run : c.in-Some-Run.field-0 ≡ Run c.in-Some-Run.mode = rw c.in-Some-Run.is at c.in-Some-Run.field-0-is in
    let asked : c.args.request ≡ Some (Run c.in-Some-Run.mode) = c.in-Some-Run.is
    ∙ ap (λ (r : Request). let o : Option Request = Some r in o) run in
    rw asked (c.run-end.result, (c.run-end.new.w, c.run-end.ensures.ends, concludes, refl))
