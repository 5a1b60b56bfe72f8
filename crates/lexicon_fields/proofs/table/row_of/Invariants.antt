use Rattle.lexicon_fields.proofs.Names.{IsOnTheWay, row_count, row_text, ℕ, ◌+◌, ◌<◌, ◌≢◌, ◌≤◌}
use Rattle.lexicon_fields.proofs.table.row_of.Given as goal

abbrev pub invariant-loop-size : goal.invariant-loop-size
invariant-loop-size l = record {
  within : l.low + l.size ≤ row_count;
  below : (k : ℕ) → k < l.low → row_text k ≢ l.text;
  above : (k : ℕ) → l.low + l.size ≤ k → k < row_count → row_text k ≢ l.text;
  way : IsOnTheWay l.fn.steps.count l.steps.count l.low l.size l.text;
}

abbrev pub decreases-loop-size : goal.decreases-loop-size
decreases-loop-size l = l.size
