use Rattle.triples.proofs.{[], entries-staying, refusals-staying}
use Rattle.triples.proofs.laws.entries_are_kept_once.Goals as goal

pub returns : goal.returns
returns c lines = record { entries = λ text. entries-staying text [] lines; refusals = refusals-staying [] lines }
