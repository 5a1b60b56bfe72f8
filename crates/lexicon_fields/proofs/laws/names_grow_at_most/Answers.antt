-- A parsed value prints the string itself, except for aliases and versions, whose growth has a bound.
use Rattle.lexicon_fields.proofs.Names.{binary_format_name, operating_system-read, value_named-named_values, vendor_of}
use Rattle.lexicon_fields.proofs.Names.{architecture_name, binary_format_of, environment_name, known_vendor_name, rules}
use Rattle.lexicon_fields.proofs.Names.{KnownVendor, architecture_of, environment_of, known_vendor_of, value_named-all}
use Rattle.lexicon_fields.proofs.Names.{List, Some, VendorValue, known_vendors, leb-true, length, nat_le, vendor_name}
use Rattle.lexicon_fields.proofs.Names.{refl, ℕ, ◌+◌, ◌≡◌}
use Rattle.lexicon_fields.specs.{Architecture.architecture_texts, BinaryFormat.binary_format_values}
use Rattle.lexicon_fields.specs.Environment.{environment_values}
use Rattle.lexicon_fields.proofs.laws.names_grow_at_most.Goals as goal

known_vendor-name : (text : List ℕ) (known : KnownVendor) → known_vendor_of text ≡ Some known
    → known_vendor_name known ≡ text
unfolding known_vendor_of
known_vendor-name text known found = value_named-named_values known_vendor_name known_vendors text known refl found

vendor-name : (text : List ℕ) (v : VendorValue) → vendor_of text ≡ Some v → vendor_name v ≡ text
unfolding vendor_of
vendor-name text v is = search (rules, known_vendor-name)

pub returns : goal.returns
unfolding environment_of binary_format_of architecture_of
returns c = record {
  vendor = vendor-name;
  environment = λ text v found. value_named-named_values environment_name environment_values text v refl found;
  binary_format = λ text v found. value_named-named_values binary_format_name binary_format_values text v refl found;
  architecture = λ text a found.
      leb-true _ _ (value_named-all (λ pair. nat_le (length (architecture_name pair.1)) (length pair.0 + 2))
      architecture_texts text a refl found);
  operating_system = search (rules, operating_system-read);
}
