use Rattle.lexicon_fields.proofs.Names.{formless_read, rules, system_without_row, without_row_read}
use Rattle.lexicon_fields.proofs.vendor_ref.VendorRef.from_str.Goals as goal

pub returns-then-is_none-clause-ok : goal.returns-then-is_none-clause-ok
returns-then-is_none-clause-ok c = search (rules, system_without_row, without_row_read)

pub returns-else-has_vendor_form-clause-err : goal.returns-else-has_vendor_form-clause-err
returns-else-has_vendor_form-clause-err c = search (rules, system_without_row, without_row_read, formless_read)
