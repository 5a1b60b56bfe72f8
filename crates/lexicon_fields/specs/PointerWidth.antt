-- The widths of pointers.
use Rattle.std.specs.Prelude.{ℕ, ◌*◌, List, codes}
use Rattle.lexicon_fields.specs.declared.pointer_width.PointerWidth.{PointerWidth}
use Rattle.lexicon_fields.specs.declared.pointer_width.PointerWidth.TheVariants as width

-- the number of bytes in a pointer
abbrev pub width_bytes : PointerWidth → ℕ
width_bytes width.U16 = 2
width_bytes width.U32 = 4
width_bytes width.U64 = 8

-- the number of bits in a pointer
abbrev pub width_bits : PointerWidth → ℕ
width_bits width = 8 * width_bytes width

-- the number of bits, in digits
abbrev pub width_name : PointerWidth → List ℕ
width_name width.U16 = codes "16"
width_name width.U32 = codes "32"
width_name width.U64 = codes "64"
