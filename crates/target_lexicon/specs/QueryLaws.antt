-- Laws of the four queries and of sizes.
use Rattle.std.specs.Prelude.{◌≡◌, ◌≤◌, Some, option_map}
use Rattle.lexicon_fields.specs.PointerWidth.{width_bits}
use Rattle.target_lexicon.specs.{declared.data_model.CDataModel.CDataModel, DataModel.size_bits, DataModel.sizes_of}
use Rattle.target_lexicon.specs.{NormalStep.normal_step, Values.Values}
use Rattle.target_lexicon.specs.Queries.{endianness, pointer_width, calling_convention, data_model}

-- if a triple has a data model, its pointers have the width of the model's pointers
abbrev pub ModelWidth : Type 0
ModelWidth = (t : Values) (model : CDataModel) → data_model t ≡ Some model
    → option_map width_bits (pointer_width t) ≡ Some (size_bits (sizes_of model).pointer)

-- in a data model no integer type is narrower than the one before it
pub record IntegersGrow (model : CDataModel) : Type 0 where
  pub short_int : size_bits (sizes_of model).short ≤ size_bits (sizes_of model).int
  pub int_long : size_bits (sizes_of model).int ≤ size_bits (sizes_of model).long
  pub long_long_long : size_bits (sizes_of model).long ≤ size_bits (sizes_of model).long_long

-- both have the same architecture, and each query has the same answer or none
pub record HaveSameAnswers (t u : Values) : Type 0 where
  pub architecture : t.architecture ≡ u.architecture
  pub endianness : endianness t ≡ endianness u
  pub pointer_width : pointer_width t ≡ pointer_width u
  pub calling_convention : calling_convention t ≡ calling_convention u
  pub data_model : data_model t ≡ data_model u

-- the normal step keeps the answers of the queries
abbrev pub QueriesKept : Type 0
QueriesKept = (t : Values) → HaveSameAnswers (normal_step t) t
