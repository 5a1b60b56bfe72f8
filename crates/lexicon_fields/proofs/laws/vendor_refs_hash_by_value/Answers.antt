-- A borrowed vendor feeds a hasher whether it is custom, and then its variant or its text, which determine its value.
use Rattle.lexicon_fields.proofs.Names.{Bor, Custom, HashInjectiveOn, Known, List, Record, [], arith, refl, ℕ}
use Rattle.lexicon_fields.proofs.Values.{bare_hash_injective, first_write, variants_distinguish, writes_after_first}
use Rattle.{lexicon_fields.proofs.Values.hash_injective_on, lexicon_fields.proofs.Values.one_field, std.specs.Hash.str}
use mir.Syntax.{named}
use Rattle.lexicon_fields.specs.contracts.vendor_ref.VendorRefHash.TheImpl as vendor_ref_hash
use Rattle.lexicon_fields.specs.contracts.known_vendor.KnownVendor as known_vendor
use Rattle.lexicon_fields.specs.contracts.vendor_ref.VendorRef as vendor_ref
use Rattle.lexicon_fields.proofs.laws.vendor_refs_hash_by_value.Goals as goal

text_hash : HashInjectiveOn (λ (x : Bor (List ℕ)). Unit {0}) (λ x. x.now) (λ x. str x.now)
text_hash = grind (arith, hash_injective_on, first_write, writes_after_first)

-- the enum, whatever its lifetime
abbrev the_enum : Record
the_enum = vendor_ref.enum (record { mir = named 0; lft = [] })

pub returns : goal.returns
returns c =
    hash_injective_on (variants_distinguish the_enum vendor_ref_hash.ghosts.hash_input (omega arith) (λ x. refl) _ _
    (one_field Known (bare_hash_injective known_vendor.enum tt (omega arith)), (one_field Custom text_hash, tt)))
    (λ x y same. grind arith)
