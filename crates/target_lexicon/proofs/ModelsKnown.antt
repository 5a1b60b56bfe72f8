-- The data models of triples.
use Rattle.lexicon_fields.specs.{PointerWidth.width_bits, declared.pointer_width.PointerWidth.PointerWidth}
use Rattle.lexicon_fields.specs.declared.pointer_width.PointerWidth.TheVariants.{U32, U64}
use Rattle.std.proofs.Common.{if◌then◌else◌}
use Rattle.target_lexicon.proofs.{Architecture, CDataModel, OperatingSystem, model_of_width, option_map}
use Rattle.target_lexicon.proofs.{Bool, ILP32, LLP64, LP64, Option, Some, rules, size_bits, sizes_of, ◌≡◌, ◌⊎◌}
use Rattle.target_lexicon.specs.Queries.{convention_on, has_ilp32, has_llp64, other_model_32, other_model_64}
use Rattle.target_lexicon.specs.declared.calling_convention.CallingConvention.{CallingConvention}

-- whatever the system is
chosen_64 : (b : Bool) (a : Architecture) (c : Option CallingConvention) (m : CDataModel)
    → (if b then Some LLP64 else other_model_64 a c) ≡ Some m → (m ≡ LLP64) ⊎ (m ≡ LP64)
chosen_64 b a c m h = search rules

chosen_32 : (b : Bool) (a : Architecture) (c : Option CallingConvention) (m : CDataModel)
    → (if b then Some ILP32 else other_model_32 a c) ≡ Some m → m ≡ ILP32
chosen_32 b a c m h = search rules

-- a model has the pointer width by which it is chosen, and is one of three
pub chosen : (w : Option PointerWidth) (a : Architecture) (s : OperatingSystem) (m : CDataModel)
    → model_of_width w a s ≡ Some m
    → (option_map width_bits w ≡ Some (size_bits (sizes_of m).pointer)) × ((m ≡ ILP32) ⊎ ((m ≡ LLP64) ⊎ (m ≡ LP64)))
chosen (Some U64) a s m h = search (rules, chosen_64 (has_llp64 s) a (convention_on a s) m h)
chosen (Some U32) a s m h = search (rules, chosen_32 (has_ilp32 s) a (convention_on a s) m h)
chosen w a s m h = search rules
