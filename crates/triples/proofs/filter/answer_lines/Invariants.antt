-- The lines before `start` were answered: what has gone to the writer and what is used of the buffer are their answers.
use Rattle.triples.proofs.{AnswersLines}
use Rattle.triples.proofs.{drop, HasNoFeed, IsUnfailed, length, List, OnlyMoves, take, Takes, use_of, ℕ, ◌++◌, ◌-◌, ◌≤◌}
use Rattle.triples.proofs.filter.answer_lines.Given as goal

abbrev pub invariant-loop-at : goal.invariant-loop-at
invariant-loop-at g l = record {
  start : l.start ≤ length l.bytes;
  from : l.from ≤ length (drop l.start l.bytes);
  searched : HasNoFeed (take l.from (drop l.start l.bytes));
  used : l.used ≤ length l.output;
  unfailed : IsUnfailed (use_of g.W.Write.contents l.initial.w l.w);
  moves : OnlyMoves (use_of g.W.Write.contents l.initial.w l.w);
  written : (gone : List ℕ) × Takes (use_of g.W.Write.contents l.initial.w l.w) gone
      × AnswersLines l.mode l.is_late l.bytes l.late (drop l.start l.bytes) (gone ++ take l.used l.output);
}

abbrev pub decreases-loop-at : goal.decreases-loop-at
decreases-loop-at g l = length l.bytes - l.start
