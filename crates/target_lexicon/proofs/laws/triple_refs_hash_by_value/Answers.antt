use Rattle.target_lexicon.proofs.{HashInputPairs.fields_distinguish, TripleRef}
use Rattle.target_lexicon.proofs.laws.triple_refs_hash_by_value.Goals as goal

pub returns : goal.returns
returns c =
    let law = c.values_hash_by_variant_and_fields.ensures in
    fields_distinguish (λ (t : TripleRef). t.architecture) (λ t. t.vendor) (λ t. t.operating_system)
    (λ t. t.environment) (λ t. t.binary_format) law.architecture c.vendor_refs_hash_by_value.ensures
    law.operating_system law.environment law.binary_format
