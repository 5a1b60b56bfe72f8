use Rattle.lexicon_fields.proofs.Names.{admitted_as_custom, rules}
use Rattle.lexicon_fields.proofs.vendor_ref.VendorRef.is_plain.Goals as goal

pub returns-in-Ok-Custom : goal.returns-in-Ok-Custom
returns-in-Ok-Custom c = search (rules, admitted_as_custom)

pub returns-in-Ok-Known : goal.returns-in-Ok-Known
returns-in-Ok-Known c = search (rules, admitted_as_custom)

pub returns-in-Err : goal.returns-in-Err
returns-in-Err c = search (rules, admitted_as_custom)
