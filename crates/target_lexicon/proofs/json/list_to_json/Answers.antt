use Rattle.target_lexicon.proofs.{arith, common_steps}
use Rattle.target_lexicon.proofs.json.list_to_json.Goals as goal

pub loop-triple-preserved : goal.loop-triple-preserved
loop-triple-preserved c = grind (arith, common_steps)
