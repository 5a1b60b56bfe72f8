use Rattle.lexicon_fields.proofs.Names.{custom_is_admitted, owner_is_admitted, rules}
use Rattle.lexicon_fields.proofs.vendor.Vendor.from_str.Goals as goal

pub returns-in-Ok-to_vendor-clause-owned : goal.returns-in-Ok-to_vendor-clause-owned
returns-in-Ok-to_vendor-clause-owned c = search (rules, owner_is_admitted)

pub returns-in-Err-to_vendor-clause-err : goal.returns-in-Err-to_vendor-clause-err
returns-in-Err-to_vendor-clause-err c = search (rules, custom_is_admitted)
