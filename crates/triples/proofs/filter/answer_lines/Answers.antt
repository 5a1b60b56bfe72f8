-- The loop has answered the lines before `start`; what is left after the last line feed begins there.
use Rattle.triples.proofs.{ℕ, ◌∙◌, List, drop, take, ◌++◌, arith, rules, subst, rest-of, no-bytes, HasNoFeed, line-step}
use Rattle.triples.proofs.{takes-none, takes-then, length-drop, length-take, answers-none, lines-failed, pushed-within}
use Rattle.triples.proofs.filter.answer_lines.Goals as goal

pub loop-at-init : goal.loop-at-init
loop-at-init g c = search (rules, takes-none, answers-none)

pub loop-at-preserved : goal.loop-at-preserved
loop-at-preserved g c =
    let inv = c.loop-at.invariant in
    let found = c.in-Some.ensures in
    let room = c.in-Ok.ensures in
    let pushed = c.push_line-used.ensures in
    record {
      start = omega (arith, found.0, length-take {A = ℕ}, length-drop {A = ℕ});
      from = omega arith;
      searched = no-bytes;
      used = pushed-within (omega (arith, room.1)) pushed.pushed;
      unfailed = room.0 ∙ inv.unfailed;
      moves = room.5 ∙ inv.moves;
      written = (
        inv.written.0 ++ room.2,
        takes-then inv.written.1 room.3,
        line-step c.args.mode c.args.is_late c.loop-at.late c.args.bytes.now c.loop-at.start c.in-Some.at inv.written.0
            room.2 c.loop-at.used inv.written.2 inv.start found pushed room.4,
      );
    }

pub line_end-requires-clause-within : goal.line_end-requires-clause-within
line_end-requires-clause-within g c = search (rules, rest-of)

pub line_end-requires-clause-searched : goal.line_end-requires-clause-searched
line_end-requires-clause-searched g c = search (rules, rest-of)

pub returns-in_default-make_room-clause-lines : goal.returns-in_default-make_room-clause-lines
returns-in_default-make_room-clause-lines g c =
    let inv = c.loop-at.invariant in
    let failed = c.in_default-make_room.ensures in
    lines-failed c.args.mode c.args.is_late c.loop-at.late c.args.bytes.now (drop c.loop-at.start c.args.bytes.now)
    inv.written.0 (take c.loop-at.used c.loop-at.output) inv.written.2 inv.unfailed inv.moves inv.written.1 failed.1
    (failed.2, failed.3) failed.4

pub returns-in-Ok-write_all-clause-lines : goal.returns-in-Ok-write_all-clause-lines
returns-in-Ok-write_all-clause-lines g c =
    let inv = c.loop-at.invariant in
    let none = subst (λ (t : List ℕ). HasNoFeed t) (rest-of c.args.bytes.now c.loop-at.start) c.in_default.ensures in
    let taken = takes-then inv.written.1 c.in-Ok-write_all.ensures.whole in search rules

pub returns-in-Err-clause-lines : goal.returns-in-Err-clause-lines
returns-in-Err-clause-lines g c =
    let inv = c.loop-at.invariant in
    let failed = c.in-Err.ensures in
    lines-failed c.args.mode c.args.is_late c.loop-at.late c.args.bytes.now (drop c.loop-at.start c.args.bytes.now)
    inv.written.0 (take c.loop-at.used c.loop-at.output) inv.written.2 inv.unfailed inv.moves inv.written.1
    failed.failed.1 failed.begun failed.failed.2
