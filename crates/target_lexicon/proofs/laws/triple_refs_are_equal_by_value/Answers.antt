use Rattle.target_lexicon.proofs.RoundTrips.Printing.Parsing.{values-Decides}
use Rattle.target_lexicon.proofs.laws.triple_refs_are_equal_by_value.Goals as goal

pub returns : goal.returns
returns c x y =
    let law = c.values_are_equal_by_variant_and_fields.ensures in
    values-Decides _ _ _ _ _ _ _ (law.architecture _ _) (c.vendor_refs_are_equal_by_value.ensures _ _)
    (law.operating_system _ _) (law.environment _ _) (law.binary_format _ _)
