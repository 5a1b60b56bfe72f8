-- The sizes of C's types in each data model.
use Rattle.std.specs.Prelude.{ℕ, ◌*◌, List, codes}
use Rattle.target_lexicon.specs.{declared.data_model.Size.Size, declared.data_model.Size.TheVariants.U16}
use Rattle.target_lexicon.specs.{declared.data_model.Size.TheVariants.U32, declared.data_model.Size.TheVariants.U64}
use Rattle.target_lexicon.specs.declared.data_model.CDataModel.{CDataModel}
use Rattle.target_lexicon.specs.declared.data_model.Size.TheVariants as size
use Rattle.target_lexicon.specs.declared.data_model.CDataModel.TheVariants as model

-- the number of bytes of a size
abbrev pub size_bytes : Size → ℕ
size_bytes size.U8 = 1
size_bytes size.U16 = 2
size_bytes size.U32 = 4
size_bytes size.U64 = 8

-- the number of bits of a size
abbrev pub size_bits : Size → ℕ
size_bits size = 8 * size_bytes size

-- the name of a model
abbrev pub model_name : CDataModel → List ℕ
model_name model.LP32 = codes "LP32"
model_name model.ILP32 = codes "ILP32"
model_name model.LLP64 = codes "LLP64"
model_name model.LP64 = codes "LP64"
model_name model.ILP64 = codes "ILP64"

-- a size for each of C's types
pub record Sizes : Type 0 where
  pub short : Size
  pub int : Size
  pub long : Size
  pub long_long : Size
  pub pointer : Size
  pub float : Size
  pub double : Size

-- the sizes, in that order
abbrev pub sizes : Size → Size → Size → Size → Size → Size → Size → Sizes
sizes s i l ll p f d = record { short = s; int = i; long = l; long_long = ll; pointer = p; float = f; double = d }

-- the sizes of short, int, long, long long, pointer, float and double in a model
abbrev pub sizes_of : CDataModel → Sizes
sizes_of model.LP32 = sizes U16 U16 U32 U64 U32 U32 U64
sizes_of model.ILP32 = sizes U16 U32 U32 U64 U32 U32 U64
sizes_of model.LLP64 = sizes U16 U32 U32 U64 U64 U32 U64
sizes_of model.LP64 = sizes U16 U32 U64 U64 U64 U32 U64
sizes_of model.ILP64 = sizes U16 U64 U64 U64 U64 U32 U64
