-- The names that most proofs of this crate cite, passed on from one place. Declares nothing.
pub use Rattle.lexicon_fields.specs.OperatingSystem.{darwin_like_system, operating_system_name, optional_version_of}
pub use Rattle.lexicon_fields.specs.Vendor.{Known, VendorValue, is_plain, known_vendor_name, known_vendors, vendor_name}
pub use Rattle.std.proofs.Common.{All, Contains, Greater, Ordering, if◌then◌else◌, is_none, option_and_then, option_map}
pub use Rattle.std.proofs.Common.{Equal, IfSome, Option, Result, arith, false, get_or, length, nat_cmp, nat_eq, nat_le}
pub use Rattle.std.proofs.Common.{Bool, Iter, Less, List, None, Some, drop, refl, rules, subst, take, tests, true, zero}
pub use Rattle.std.proofs.Common.{inl, inr, ltb, map, suc, sym, w32, ◌%◌, ◌&&◌, ◌*◌, ◌++◌, ◌+◌, ◌-◌, ◌/◌, ◌<◌, ◌^◌, ◌↔◌}
pub use Rattle.std.proofs.lemmas.{Bool.false≢true, List.length-append, Option.cond_some, Slice.Eq.bytes_eq-Decides}
pub use Rattle.lexicon_fields.specs.{Laws.HashInjectiveOn, declared.deployment_target.DeploymentTarget.DeploymentTarget}
pub use Rattle.lexicon_fields.specs.{Laws.HasVersionInRange, declared.operating_system.OperatingSystem.OperatingSystem}
pub use Rattle.lexicon_fields.specs.{BinaryFormat.binary_format_name, declared.known_vendor.KnownVendor.KnownVendor}
pub use Rattle.lexicon_fields.specs.{Architecture.architecture_name, FixedRow.row_text, OperatingSystem.darwin_prefixes}
pub use Rattle.lexicon_fields.specs.{Environment.environment_name, OperatingSystem.version_suffix, Version.version_name}
pub use Rattle.lexicon_fields.specs.{Laws.IsVersionInRange, Private.name_values, Private.prefix_key_of, Vendor.Custom}
pub use Rattle.lexicon_fields.specs.{FixedRow.row_count, Names.is_dash_free, Names.named_values, Version.version_of}
pub use Rattle.lexicon_fields.specs.{FixedRow.has_row, Names.Pair, Names.dash, Put.Puts, Version.dot}
pub use Rattle.std.proofs.{Common.◌∙◌, Common.◌∷◌, Common.◌≡◌, Common.◌≢◌, lemmas.Bool.and_parts, lemmas.Bool.leb-true}
pub use Rattle.std.specs.{Cmp.Lexicographic.slice_cmp, Hash.HashWrites, Option.option_or, Prelude.Decides, Str.bytes_eq}
pub use Rattle.std.{proofs.Common.[], proofs.Common.◌≤◌, proofs.Common.◌⊎◌, specs.Fmt.decimal, specs.List.list_all}
pub use Rattle.std.{proofs.Common.ap, proofs.Common.ℕ, specs.Borrow.Bor, specs.Hash.usize}
pub use denote.Enum.Declared.{Record, tag_of}
unfoldable pub use Rattle.lexicon_fields.specs.OperatingSystem.{fixed_operating_system_of, operating_system_of}
unfoldable pub use Rattle.lexicon_fields.specs.Vendor.{known_vendor_of, vendor_of}
unfoldable pub use Rattle.lexicon_fields.specs.{Environment.environment_of, FixedRow.row_texts}
unfoldable pub use Rattle.lexicon_fields.specs.{Architecture.architecture_of, BinaryFormat.binary_format_of}
