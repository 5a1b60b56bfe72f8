-- The words for byte order, pointer width, calling convention and data model are short.
use Rattle.target_lexicon.proofs.{CDataModel, CallingConvention, PointerWidth, convention_name, endianness_name, length}
use Rattle.target_lexicon.proofs.{Endianness, model_name, rules, width_name, ◌≤◌}

pub short-endianness : (e : Endianness) → length (endianness_name e) ≤ 6
short-endianness e = search rules

pub short-width : (w : PointerWidth) → length (width_name w) ≤ 2
short-width w = search rules

pub short-convention : (c : CallingConvention) → length (convention_name c) ≤ 15
short-convention c = search rules

pub short-model : (m : CDataModel) → length (model_name m) ≤ 5
short-model m = search rules
