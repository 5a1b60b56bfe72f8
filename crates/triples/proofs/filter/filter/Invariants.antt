use Rattle.triples.proofs.{IsBetweenReads, length, take, use_of, ◌<◌, ◌≡◌}
use Rattle.triples.proofs.filter.filter.Given as goal

abbrev pub invariant-loop : goal.invariant-loop
invariant-loop g l = record {
  held : l.held < length l.input;
  same_length : length l.input ≡ length l.fn.input;
  state : IsBetweenReads l.mode (length l.fn.input) l.is_late (take l.held l.input)
      (use_of g.R.Read.remaining l.initial.r l.r) (use_of g.W.Write.contents l.initial.w l.w) l.counter;
}
