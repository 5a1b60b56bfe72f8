-- The string of pieces.
use Rattle.std.specs.Prelude.{ℕ, List, ◌++◌}
use Rattle.lexicon_fields.specs.OperatingSystem.{version_suffix}
use Rattle.target_lexicon.specs.{declared.display.Pieces.Pieces, Private.name_piece}

-- the first name and the other pieces
abbrev pub pieces_text : Pieces → List ℕ
pieces_text p =
    ((((p.first.now ++ name_piece p.vendor) ++ name_piece p.operating_system) ++ version_suffix p.version)
    ++ name_piece p.environment) ++ name_piece p.binary_format
