-- The parts of a string are read one after the other, each from the dash before it.
use Rattle.target_lexicon.proofs.RoundTrips.Printing.Parsing.{HasRead, state_of, text-read}
use Rattle.target_lexicon.proofs.RoundTrips.Printing.Parsing.{HasReadBefore, Stop, refused-in, taken-read, text-refused}
use Rattle.target_lexicon.proofs.{AreInString, AreSourcesOf, IsRefusedAfter, refusal_value, refusal_with, values_of_ref}
use Rattle.target_lexicon.proofs.{Bor, List, Option, Reading, Some, [], arith, length, rules, subst, sym, ◌-◌, ◌∙◌, ◌∷◌}
use Rattle.target_lexicon.proofs.{Field, ParsesAs, PlacedPart, part_from, part_value, parts_after, parts_of, sources_of}
use Rattle.target_lexicon.proofs.{ap, ℕ, ◌≡◌}
use Rattle.target_lexicon.proofs.parse.explain.Goals as goal

-- the first part of what is left
part-left : (text name : List ℕ) (it : Reading) (rest others : Option (Bor (List ℕ))) (left : Bor (List ℕ))
    → HasReadBefore text it rest → rest ≡ Some left → parts_of left.now ≡ name ∷ parts_after others
    → HasRead text (state_of it (length text - length left.now)) (name ∷ parts_after others)
part-left text name it rest others left (n, at, read) is parts =
    subst (λ m. HasRead text (state_of it m) (name ∷ parts_after others)) (at left is)
    (subst (HasRead text (state_of it n)) (ap parts_after is ∙ parts) read)

pub loop-rest-init : goal.loop-rest-init
loop-rest-init c =
    let begun = c.start-reading.ensures in
    record {
      range = search rules;
      reading =
          (0, (λ left is. search rules), rw (begun.expected, begun.values, begun.sources) ([], Stop));
    }

pub loop-rest-preserved : goal.loop-rest-preserved
loop-rest-preserved c =
    let text = c.args.text.now in
    let left = c.in-Some-rest.left in
    let within = c.loop-rest.invariant.range left c.in-Some-rest.is in
    let on = part-left text c.first_part.result.0.now c.loop-rest.reading c.loop-rest.rest c.first_part.result.1 left
    c.loop-rest.invariant.reading c.in-Some-rest.is c.first_part.ensures.parts in
    record {
      range = λ rest found. omega (arith, within, rw found at c.first_part.ensures.size);
      reading = (
        _,
        (λ rest found. omega (arith, within, rw found at c.first_part.ensures.size)),
        taken-read text _ _ _ c.loop-rest.reading c.take.new.self on c.in_default-take.ensures.taken,
      );
    }

pub returns-in-Err : goal.returns-in-Err
returns-in-Err c =
    let text = c.args.text.now in
    let left = c.in-Some-rest.left in
    let name = c.first_part.result.0.now in
    let others = c.first_part.result.1 in
    let n = length text - length left.now in
    let old = c.loop-rest.reading in
    let on = part-left text name old c.loop-rest.rest others left c.loop-rest.invariant.reading c.in-Some-rest.is
    c.first_part.ensures.parts in
    let at = c.in-Err.ensures.refused in
    let it = subst (λ (it : Reading). IsRefusedAfter text (refusal_value c.in-Err.refusal) (sources_of it.sources)
    (part_value c.in-Err.refusal.part)) (sym c.in-Err.ensures.same)
    (subst (λ (p : PlacedPart). IsRefusedAfter text (refusal_with c.in-Err.refusal.expected p.text)
    (sources_of old.sources) p) (sym at.refused)
    (subst (λ (e : Option Field). IsRefusedAfter text (refusal_with e name) (sources_of old.sources) (part_from n name))
    (sym at.expected) (text-refused text (state_of old n) name (parts_after others) on at.unparsed))) in
    let in_text = refused-in _ _ _ _ it in
    record {
      triple = tt;
      sources = tt;
      error = (sym c.in_default.ensures, (it.0, it.1, it.2.refusal_holds));
      refused = it;
      ranges = in_text.0;
      range = in_text.1;
    }

pub returns : goal.returns
returns c =
    let text = c.args.text.now in
    let begun = c.loop-rest.invariant.reading in
    let b = state_of c.loop-rest.reading begun.0 in
    let on = subst (HasRead text b) (ap parts_after c.in_default-rest.is) begun.2 in
    let read : ParsesAs text (values_of_ref c.finish.result.0) × AreSourcesOf text (sources_of c.finish.result.1)
    × AreInString text (sources_of c.finish.result.1) =
    rw (c.finish.ensures.triple, c.finish.ensures.sources) (text-read text b (sym c.in_default.ensures) on) in
    record { triple = read.0; sources = read.1; error = tt; refused = tt; ranges = read.2; range = tt }
