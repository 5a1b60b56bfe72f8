-- The definitions that a caller's proof unfolds to compute how a literal parses and prints.
use Rattle.target_lexicon.proofs.{architecture_of, binary_format_of, fixed_operating_system_of, operating_system_of, ⊤}
use Rattle.target_lexicon.proofs.{environment_of, is_admitted, known_vendor_of, special_string, special_values}
use Rattle.target_lexicon.proofs.{normal_step, shown_names, string_of, vendor_of}
use Rattle.target_lexicon.specs.GreedyReading.{reading}

unfoldable pub target_lexicon_on_literals : ⊤
unfolding architecture_of known_vendor_of is_admitted vendor_of fixed_operating_system_of operating_system_of
    environment_of binary_format_of special_values special_string reading shown_names string_of normal_step
target_lexicon_on_literals = tt
