use Rattle.std.proofs.Common.{◌≡◌, Ok, Err, codes, sym, true≢false}
use Rattle.std.specs.Prelude.{IsOkAnd}
use Rattle.target_lexicon.specs.{GreedyReading.IsResultOf, Values.host_values, Values.values_of}
use Rattle.target_lexicon.proofs.OnLiterals.{target_lexicon_on_literals}
use Rattle.uses.proofs.literals.host_by_text.Goals as goal

pub returns : goal.returns
unfolding target_lexicon_on_literals
returns c =
    elim c.from_str.result as (λ r. IsResultOf (Ok host_values) r
    → IsOkAnd r (λ triple. values_of triple ≡ host_values)) [
      | Ok triple ↦ λ is. is
      | Err error ↦ λ wants. absurd (true≢false (sym wants.1))
    ] (c.results_are_computed.ensures (codes "x86_64-unknown-linux-gnu") c.from_str.result c.from_str.ensures.ok
    c.from_str.ensures.err)
