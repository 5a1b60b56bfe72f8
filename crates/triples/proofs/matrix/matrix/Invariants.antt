-- The output is the matrix of the lines so far, and its triples have been seen.
use Rattle.triples.proofs.{IsMatrixSoFar, length, line_feed, lines_left, lines_of}
use Rattle.triples.proofs.{split_terminator_parts, split_terminator_pattern, split_text, string_bytes, ◌≡◌, ◌≤◌}
use Rattle.triples.proofs.matrix.matrix.Given as goal

abbrev pub invariant-loop-line : goal.invariant-loop-line
invariant-loop-line l = record {
  pattern : split_terminator_pattern l.line-iterator ≡ line_feed;
  shorter : length (split_text (split_terminator_parts l.line-iterator)) ≤ length l.input;
  so_far : IsMatrixSoFar (lines_of l.input) (lines_left l.line-iterator) (string_bytes l.output) l.seen;
}
