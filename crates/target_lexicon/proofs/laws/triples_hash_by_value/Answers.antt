use Rattle.target_lexicon.proofs.{HashInputPairs.fields_distinguish, Triple}
use Rattle.target_lexicon.proofs.laws.triples_hash_by_value.Goals as goal

pub returns-clause-triple : goal.returns-clause-triple
returns-clause-triple c =
    let law = c.values_hash_by_variant_and_fields.ensures in
    fields_distinguish (λ (t : Triple). t.architecture) (λ t. t.vendor) (λ t. t.operating_system) (λ t. t.environment)
    (λ t. t.binary_format) law.architecture law.vendor law.operating_system law.environment law.binary_format

pub returns-clause-host : goal.returns-clause-host
returns-clause-host c =
    let triple = returns-clause-triple c in
    record { exactly = λ x y. triple.exactly x.0 y.0; with_more = λ x y. triple.with_more x.0 y.0 }

pub returns-clause-unknown : goal.returns-clause-unknown
returns-clause-unknown c =
    let triple = returns-clause-triple c in
    record { exactly = λ x y. triple.exactly x.0 y.0; with_more = λ x y. triple.with_more x.0 y.0 }
