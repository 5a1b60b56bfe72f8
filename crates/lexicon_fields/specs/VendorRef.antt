-- Vendors that borrow a custom string.
use Rattle.lexicon_fields.specs.{declared.vendor_ref.VendorRef.VendorRef, Vendor.VendorValue, Vendor.Known}
use Rattle.lexicon_fields.specs.{Vendor.Custom}
use Rattle.lexicon_fields.specs.declared.vendor_ref.VendorRef.TheVariants as vendor_ref

-- the value of a vendor
abbrev pub ref_value : VendorRef → VendorValue
ref_value (vendor_ref.Known known) = Known known
ref_value (vendor_ref.Custom text) = Custom text.now
