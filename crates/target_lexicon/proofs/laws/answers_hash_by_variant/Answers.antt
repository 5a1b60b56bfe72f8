use Rattle.target_lexicon.proofs.{arith, bare_hash_injective}
use Rattle.target_lexicon.specs.contracts.data_model.Size as size
use Rattle.target_lexicon.specs.contracts.data_model.CDataModel as data_model
use Rattle.target_lexicon.specs.contracts.calling_convention.CallingConvention as calling_convention
use Rattle.target_lexicon.proofs.laws.answers_hash_by_variant.Goals as goal

pub returns : goal.returns
returns c = record {
  size = bare_hash_injective size.enum tt (omega arith);
  data_model = bare_hash_injective data_model.enum tt (omega arith);
  calling_convention = bare_hash_injective calling_convention.enum tt (omega arith);
}
