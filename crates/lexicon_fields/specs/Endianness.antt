-- The names of byte orders.
use Rattle.std.specs.Prelude.{ℕ, List, codes}
use Rattle.lexicon_fields.specs.declared.endianness.Endianness.{Endianness}
use Rattle.lexicon_fields.specs.declared.endianness.Endianness.TheVariants.{Little, Big}

-- the name of a byte order
abbrev pub endianness_name : Endianness → List ℕ
endianness_name Little = codes "little"
endianness_name Big = codes "big"
