use Rattle.target_lexicon.proofs.{rules, special_string}
use Rattle.target_lexicon.proofs.triple_ref.TripleRef.special_string.Goals as goal

-- written by tools/names/write: each arm of the special strings
pub returns-in-Arm-Armv6k-Known-Nintendo-Horizon : goal.returns-in-Arm-Armv6k-Known-Nintendo-Horizon
unfolding special_string
returns-in-Arm-Armv6k-Known-Nintendo-Horizon c = search rules

pub returns-in-Riscv32-Riscv32imc-Known-Espressif-Espidf : goal.returns-in-Riscv32-Riscv32imc-Known-Espressif-Espidf
unfolding special_string
returns-in-Riscv32-Riscv32imc-Known-Espressif-Espidf c = search rules

-- end of what is written

pub returns-in_default : goal.returns-in_default
unfolding special_string
returns-in_default c = search rules
