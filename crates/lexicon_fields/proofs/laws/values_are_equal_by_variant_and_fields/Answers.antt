-- Derived equality compares the variants and then the fields, and each of these comparisons decides equality.
use Rattle.std.proofs.lemmas.Bool.Decides.{Decides-and, Decides-like}
use Rattle.lexicon_fields.proofs.Names.{bytes_eq-Decides, refl, rules}
use Rattle.lexicon_fields.proofs.Values.{bare_field-Decides, one_field-Decides, option_eq-Decides, version-Decides}
use Rattle.lexicon_fields.proofs.Values.{bare-Decides, enum-Decides}
use Rattle.lexicon_fields.specs.contracts.architecture.Architecture as architecture
use Rattle.lexicon_fields.specs.contracts.operating_system.OperatingSystem as operating_system
use Rattle.lexicon_fields.specs.contracts.known_vendor.KnownVendor as known_vendor
use Rattle.lexicon_fields.specs.contracts.environment.Environment as environment
use Rattle.lexicon_fields.specs.contracts.binary_format.BinaryFormat as binary_format
use Rattle.lexicon_fields.proofs.laws.values_are_equal_by_variant_and_fields.Goals as goal

pub returns-clause-architecture : goal.returns-clause-architecture
returns-clause-architecture c =
    enum-Decides architecture.enum _ refl (search (rules, bare_field-Decides))

pub returns-clause-operating_system : goal.returns-clause-operating_system
returns-clause-operating_system c =
    enum-Decides operating_system.enum _ refl (search (rules, one_field-Decides, option_eq-Decides, version-Decides))

pub returns-clause-fixed_row : goal.returns-clause-fixed_row
returns-clause-fixed_row c x y =
    Decides-like _ (λ same. search) (λ same. search)
    (Decides-and _ _ (bytes_eq-Decides x.text.now y.text.now)
    (Decides-and _ _ (option_eq-Decides _ (returns-clause-architecture c) x.architecture y.architecture)
    (Decides-and _ _ (option_eq-Decides _ (bare-Decides known_vendor.the_type tt) x.vendor y.vendor)
    (Decides-and _ _ (option_eq-Decides _ (returns-clause-operating_system c) x.operating_system y.operating_system)
    (Decides-and _ _ (option_eq-Decides _ (bare-Decides environment.the_type tt) x.environment y.environment)
    (option_eq-Decides _ (bare-Decides binary_format.the_type tt) x.binary_format y.binary_format))))))
