-- The loop keeps what holds between two reads; each way out of it is one of the ends of `FilterEnds`.
use Rattle.triples.proofs.{[], ap, arith, between-kept, between-more, between-none}
use Rattle.triples.proofs.{ends-endless, ends-read, ends-rest, ends-write, has-read, length, length-take, none-read}
use Rattle.triples.proofs.{refl, rules, searched-front, some-read, take, take-put_mid_below, ℕ, ◌-◌, ◌^◌, ◌∙◌, ◌≡◌, ◌≤◌}
use Rattle.triples.proofs.filter.filter.Goals as goal

pub loop-init : goal.loop-init
loop-init g c = record { held = c.requires.some; same_length = refl; state = between-none }

pub loop-preserved : goal.loop-preserved
loop-preserved g c =
    let size = length c.args.input.now in
    let read = c.in-Ok.ensures in
    let inv = c.loop.invariant in
    let kept = c.keep_rest.ensures in
    let it = has-read c.loop.held c.in-Ok.taken size c.loop.input c.read_after.new.buf inv.held inv.same_length
    read.bound.0 c.read_after.auto.buf in
    let made = some-read c.in-Ok.taken c.read_after.new.buf read.call
    (λ bad. omega (arith, bad, c.if-taken-eq0.false)) in
    let next = between-more inv.state read.bytes.0 made it.piece it.fits c.in-Ok-answer_lines.start
    (omega (arith, read.bound.1, c.if-taken-eq0.false)) c.in-Ok-answer_lines.ensures.lines in
    record {
      held = kept.held;
      same_length = kept.same_length ∙ it.whole;
      state =
          between-kept c.keep_rest.result.1 c.keep_rest.new.buffer c.keep_rest.result.0 (rw it.whole at kept.kept) next;
    }

pub answer_lines-requires-clause-searched : goal.answer_lines-requires-clause-searched
answer_lines-requires-clause-searched g c = search (rules, has-read, searched-front, length-take)

pub returns-in_default : goal.returns-in_default
returns-in_default g c =
    let failed = c.in_default.ensures in
    record { ends = ends-read c.loop.invariant.state failed.bytes failed.call }

pub returns-then-taken-eq0 : goal.returns-then-taken-eq0
returns-then-taken-eq0 g c =
    let read = c.in-Ok.ensures in
    let inv = c.loop.invariant in
    let none : take c.in-Ok.taken c.read_after.new.buf ≡ [] = ap (λ (n : ℕ). take n c.read_after.new.buf)
    c.if-taken-eq0.true in
    let it = has-read c.loop.held c.in-Ok.taken (length c.args.input.now) c.loop.input c.read_after.new.buf inv.held
    inv.same_length read.bound.0 c.read_after.auto.buf in
    let same = take-put_mid_below c.loop.held (length c.loop.input - c.loop.held) c.loop.input c.read_after.new.buf
    c.loop.held (omega arith) (omega (arith, inv.held)) in
    record {
      ends =
          ends-rest inv.state (rw none at read.bytes.0)
          (none-read c.in-Ok.taken c.read_after.new.buf read.call c.if-taken-eq0.true it.room)
          (read.bytes.1 c.if-taken-eq0.true it.room)
          (omega (arith, length-take c.loop.held c.loop.input, inv.held, inv.same_length)) c.finish.result
          (rw same at c.finish.ensures);
    }

pub returns-in_default-answer_lines : goal.returns-in_default-answer_lines
returns-in_default-answer_lines g c =
    let read = c.in-Ok.ensures in
    let inv = c.loop.invariant in
    let it = has-read c.loop.held c.in-Ok.taken (length c.args.input.now) c.loop.input c.read_after.new.buf inv.held
    inv.same_length read.bound.0 c.read_after.auto.buf in
    let made = some-read c.in-Ok.taken c.read_after.new.buf read.call
    (λ bad. omega (arith, bad, c.if-taken-eq0.false)) in
    record {
      ends =
          ends-write inv.state read.bytes.0 made it.piece it.fits c.every_string_has_one_outcome.ensures
          _ c.in_default-answer_lines.ensures.lines;
    }

pub returns : goal.returns
returns g c =
    let all : 2 ^ 64 - 1 ≤ c.loop.counter = omega arith in
    record { ends = ends-endless c.loop.invariant.state all }
