-- A value feeds a hasher its variant and then its fields, and these bytes determine both, whatever follows them.
use Rattle.lexicon_fields.specs.declared.vendor.{CustomVendor.CustomVendor, Vendor.Vendor}
use Rattle.lexicon_fields.proofs.Names.{DeploymentTarget, HashInjectiveOn, IsVersionInRange, VendorValue, known_vendors}
use Rattle.lexicon_fields.proofs.Names.{Custom, HashWrites, IfSome, Known, Option, arith, length, rules, tag_of, usize}
use Rattle.lexicon_fields.proofs.Values.{Distinguishes, bare_hash_injective, enum_hash_injective, variants_distinguish}
use Rattle.lexicon_fields.proofs.Values.{first_byte, first_write, hash_injective_on, one_field, writes_after_first}
use Rattle.lexicon_fields.proofs.{Names.ap, Names.refl, Names.sym, Names.◌++◌, Names.◌∙◌, Names.◌≡◌, Values.same_u16}
use Rattle.lexicon_fields.specs.Vendor.{custom_string, vendor_value}
use Rattle.std.specs.Hash.{le_bytes, option, str}
use Rattle.lexicon_fields.specs.declared.architecture.Architecture.TheVariants as variants
use Rattle.lexicon_fields.specs.contracts.vendor.VendorHash.TheImpl as vendor_hash
use Rattle.lexicon_fields.specs.contracts.operating_system.OperatingSystemHash.TheImpl as operating_system_hash
use Rattle.lexicon_fields.specs.contracts.deployment_target.DeploymentTargetHash.TheImpl as version_hash
use Rattle.lexicon_fields.specs.contracts.architecture.Architecture as architecture
use Rattle.lexicon_fields.specs.contracts.architecture as contracts
use Rattle.lexicon_fields.specs.contracts.environment.Environment as environment
use Rattle.lexicon_fields.specs.contracts.binary_format.BinaryFormat as binary_format
use Rattle.lexicon_fields.specs.contracts.endianness.Endianness as endianness
use Rattle.lexicon_fields.specs.contracts.pointer_width.PointerWidth as pointer_width
use Rattle.lexicon_fields.specs.contracts.known_vendor.KnownVendor as known_vendor
use Rattle.lexicon_fields.specs.contracts.operating_system.OperatingSystem as operating_system
use Rattle.lexicon_fields.specs.contracts.vendor.Vendor as vendor
use Rattle.lexicon_fields.proofs.laws.values_hash_by_variant_and_fields.Goals as goal

version_distinguishes : (x y : DeploymentTarget)
    → Distinguishes IsVersionInRange (λ v. v) version_hash.ghosts.hash_input x y
version_distinguishes x y a b hx hy same = grind (arith, same_u16, first_write, first_byte, writes_after_first)

-- an optional version
system_version-distinguishes : (x y : Option DeploymentTarget)
    → Distinguishes (λ v. IfSome v IsVersionInRange) (λ v. v) (option version_hash.ghosts.hash_input) x y
unfolding le_bytes
system_version-distinguishes x y = grind (arith, writes_after_first, version_distinguishes, first_byte)

system_version-hash : HashInjectiveOn (λ v. IfSome v IsVersionInRange) (λ v. v) (option version_hash.ghosts.hash_input)
system_version-hash = hash_injective_on system_version-distinguishes (λ x y. ap (option version_hash.ghosts.hash_input))

custom_vendor-hash : HashInjectiveOn (λ (x : CustomVendor). Unit {0}) custom_string (λ x. str (custom_string x))
custom_vendor-hash = grind (arith, hash_injective_on, first_write, writes_after_first)

-- what a vendor value feeds
abbrev value_hash : VendorValue → HashWrites
value_hash (Known known) = usize (tag_of known_vendor.the_type known)
value_hash (Custom text) = usize (length known_vendors) ++ str text

hash_by_value : (x : Vendor) → vendor_hash.ghosts.hash_input x ≡ value_hash (vendor_value x)
hash_by_value x = grind arith

pub returns : goal.returns
returns c = record {
  architecture =
      enum_hash_injective architecture.enum _ (omega arith) (λ x. refl) (assumption (
        -- written by tools/names/write: hashes of each family
        one_field variants.Arm (bare_hash_injective contracts.arm.ArmArchitecture.enum tt (omega arith)),
        one_field variants.Aarch64 (bare_hash_injective contracts.aarch64.Aarch64Architecture.enum tt (omega arith)),
        one_field variants.X86_32 (bare_hash_injective contracts.families.X86_32Architecture.enum tt (omega arith)),
        one_field variants.Mips32 (bare_hash_injective contracts.families.Mips32Architecture.enum tt (omega arith)),
        one_field variants.Mips64 (bare_hash_injective contracts.families.Mips64Architecture.enum tt (omega arith)),
        one_field variants.Riscv32 (bare_hash_injective contracts.families.Riscv32Architecture.enum tt (omega arith)),
        one_field variants.Riscv64 (bare_hash_injective contracts.families.Riscv64Architecture.enum tt (omega arith)),
        one_field variants.Clever (bare_hash_injective contracts.families.CleverArchitecture.enum tt (omega arith)),
        one_field variants.Z80 (bare_hash_injective contracts.families.Z80Architecture.enum tt (omega arith)),
        -- end of what is written
      ));
  -- written by tools/names/write: answers about the hashes of families
  arm = bare_hash_injective contracts.arm.ArmArchitecture.enum tt (omega arith);
  aarch64 = bare_hash_injective contracts.aarch64.Aarch64Architecture.enum tt (omega arith);
  x86_32 = bare_hash_injective contracts.families.X86_32Architecture.enum tt (omega arith);
  mips32 = bare_hash_injective contracts.families.Mips32Architecture.enum tt (omega arith);
  mips64 = bare_hash_injective contracts.families.Mips64Architecture.enum tt (omega arith);
  riscv32 = bare_hash_injective contracts.families.Riscv32Architecture.enum tt (omega arith);
  riscv64 = bare_hash_injective contracts.families.Riscv64Architecture.enum tt (omega arith);
  clever = bare_hash_injective contracts.families.CleverArchitecture.enum tt (omega arith);
  z80 = bare_hash_injective contracts.families.Z80Architecture.enum tt (omega arith);
  -- end of what is written
  vendor =
      hash_injective_on (variants_distinguish vendor.enum vendor_hash.ghosts.hash_input (omega arith) (λ x. refl)
      _ _ (one_field Custom custom_vendor-hash, tt))
      (λ x y same. hash_by_value x ∙ ap value_hash same ∙ sym (hash_by_value y));
  version = hash_injective_on version_distinguishes (λ x y. ap version_hash.ghosts.hash_input);
  operating_system =
      hash_injective_on (variants_distinguish operating_system.enum operating_system_hash.ghosts.hash_input
      (omega arith) (λ x. refl) _ _ (search (rules, one_field, system_version-hash)))
      (λ x y. ap operating_system_hash.ghosts.hash_input);
  environment = bare_hash_injective environment.enum tt (omega arith);
  binary_format = bare_hash_injective binary_format.enum tt (omega arith);
  endianness = bare_hash_injective endianness.enum tt (omega arith);
  pointer_width = bare_hash_injective pointer_width.enum tt (omega arith);
  known_vendor = bare_hash_injective known_vendor.enum tt (omega arith);
}
