-- The lines so far have been answered.
use Rattle.triples.proofs.{IsSoFar, length, line_feed, lines_left, lines_of, shown_by}
use Rattle.triples.proofs.{split_terminator_parts, split_terminator_pattern, split_text, string_bytes, ◌≡◌, ◌≤◌}
use Rattle.triples.proofs.lines.answers.Given as goal

abbrev pub invariant-loop-line : goal.invariant-loop-line
invariant-loop-line l = record {
  pattern : split_terminator_pattern l.line-iterator ≡ line_feed;
  shorter : length (split_text (split_terminator_parts l.line-iterator)) ≤ length l.input;
  so_far : IsSoFar (shown_by l.mode) (lines_of l.input) (lines_left l.line-iterator) (string_bytes l.output);
}
