use Rattle.lexicon_fields.{proofs.Names.arith, proofs.Names.rules, proofs.Names.tests, specs.Vendor.is_vendor_character}
use Rattle.std.proofs.lemmas.Iterator.{Search.all_from_yields_List, YieldsList-from_slice}
use Rattle.lexicon_fields.proofs.vendor_ref.has_vendor_form.Goals as goal

pub returns-then-is_ascii_lowercase : goal.returns-then-is_ascii_lowercase
returns-then-is_ascii_lowercase c =
    let others =
    all_from_yields_List is_vendor_character _ _ c.all.result c.all.ensures.ran
    (YieldsList-from_slice c.in-Some.others.now cc) (λ x b q k. search (rules, tests)) in
    grind arith
