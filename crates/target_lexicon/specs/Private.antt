-- Definitions for the contracts of private functions; no public contract cites them.
use Rattle.std.specs.Borrow.{Bor}
use Rattle.std.specs.Prelude.{◌-◌, length, ℕ, ◌∷◌, List, [], Option, Some, None, Bool, true, false}
use Rattle.lexicon_fields.specs.Names.{dash}
use Rattle.target_lexicon.specs.Field as field
use Rattle.target_lexicon.specs.Field.{Field}
use Rattle.target_lexicon.specs.{Explanation.PlacedPart, Explanation.placed_from, Parsing.parts_of}

-- the parts of what is left of a string, if anything is
abbrev pub rest_parts : List ℕ → Option (Bor (List ℕ)) → List PlacedPart
rest_parts text None = []
rest_parts text (Some rest) = placed_from (length text - length rest.now) (parts_of rest.now)

-- a dash and the name, if there is one
abbrev pub name_piece : Option (Bor (List ℕ)) → List ℕ
name_piece None = []
name_piece (Some name) = dash ∷ name.now

-- whether a part can fill the second field where the first one is expected
abbrev pub is_open_at : Field → Field → Bool
is_open_at field.Architecture field.Architecture = true
is_open_at field.Architecture f = false
is_open_at x field.Architecture = false
is_open_at field.Vendor f = true
is_open_at x field.Vendor = false
is_open_at field.OperatingSystem f = true
is_open_at x field.OperatingSystem = false
is_open_at field.Environment f = true
is_open_at x field.Environment = false
is_open_at field.BinaryFormat field.BinaryFormat = true
