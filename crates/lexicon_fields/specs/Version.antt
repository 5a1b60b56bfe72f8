-- Version strings, such as `10.14.6` in `macosx10.14.6`.
use Rattle.std.specs.Prelude.{ℕ, ◌==◌, ◌∷◌, ◌++◌, nat_lt, nat_le, ◌&&◌, List, [], length, Option, Some, None}
use Rattle.std.specs.Prelude.{if◌then◌else◌}
use Rattle.std.specs.Char.{is_ascii_digit}
use Rattle.std.specs.List.{list_all, slice_split}
use Rattle.std.specs.Str.Parse.{digits_value, without_leading_plus}
use Rattle.std.specs.Fmt.{decimal}
use Rattle.lexicon_fields.specs.declared.deployment_target.DeploymentTarget.{DeploymentTarget}

-- the byte between two pieces of a version
abbrev pub dot : ℕ
dot = 46

-- the number that one or more digits represent, if it is within the limit
abbrev pub number_within : ℕ → List ℕ → Option ℕ
number_within limit text =
    if nat_lt 0 (length text) && list_all is_ascii_digit text && nat_le (digits_value 10 text) limit
    then Some (digits_value 10 text) else None

-- the number of a piece, which may begin with a plus
abbrev pub piece_number_within : ℕ → List ℕ → Option ℕ
piece_number_within limit piece = number_within limit (without_leading_plus piece)

-- the version of three numbers, if all are there
abbrev pub version_of_numbers : Option ℕ → Option ℕ → Option ℕ → Option DeploymentTarget
version_of_numbers (Some major) (Some minor) (Some patch) =
    Some (record { major = major; minor = minor; patch = patch })
version_of_numbers _ _ _ = None

-- the version whose numbers are these pieces: the major, up to 65535, and then minor and patch, each up to 255, and 0
-- if it is missing; none for another number of pieces
abbrev pub version_of_pieces : List (List ℕ) → Option DeploymentTarget
version_of_pieces (major ∷ []) = version_of_numbers (piece_number_within 65535 major) (Some 0) (Some 0)
version_of_pieces (major ∷ minor ∷ []) =
    version_of_numbers (piece_number_within 65535 major) (piece_number_within 255 minor) (Some 0)
version_of_pieces (major ∷ minor ∷ patch ∷ []) =
    version_of_numbers (piece_number_within 65535 major) (piece_number_within 255 minor) (piece_number_within 255 patch)
version_of_pieces _ = None

-- the pieces of a string between its dots
abbrev pub pieces_of : List ℕ → List (List ℕ)
pieces_of text = slice_split (λ c. c == dot) text

-- the version that a string parses as, if any
abbrev pub version_of : List ℕ → Option DeploymentTarget
version_of text = version_of_pieces (pieces_of text)

-- `major.minor.patch` in plain decimal
abbrev pub version_name : DeploymentTarget → List ℕ
version_name v = decimal v.major ++ (dot ∷ decimal v.minor ++ (dot ∷ decimal v.patch))
