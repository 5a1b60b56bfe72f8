use Rattle.target_lexicon.proofs.{ForSome, RoundTrips.Printing.Parsing.HasReadBefore, length, parts_after, ◌≤◌}
use Rattle.target_lexicon.proofs.parse.explain.Given as goal

abbrev pub invariant-loop-rest : goal.invariant-loop-rest
invariant-loop-rest l = record {
  range : ForSome l.rest (λ left. length left.now ≤ length l.text);
  reading : HasReadBefore l.text l.reading l.rest;
}

abbrev pub decreases-loop-rest : goal.decreases-loop-rest
decreases-loop-rest l = length (parts_after l.rest)
