-- The names that the proofs of this crate cite, passed on from one place. Declares nothing.
use Rattle.lexicon_fields.specs as fields
use Rattle.target_lexicon.specs
pub use Rattle.lexicon_fields.{proofs.Names.NamesAreRead, proofs.Names.names_are_read, specs.PointerWidth.width_bits}
pub use Rattle.lexicon_fields.{proofs.Values.bare_hash_injective, specs.declared.known_vendor.KnownVendor.KnownVendor}
pub use Rattle.serde_json.specs.Data.{Items}
pub use Rattle.serde_json.specs.{Find.get_item, View.items_of, View.items_view, View.view, declared.value.Value.Value}
pub use Rattle.std.proofs.Common.{All, Err, inl, inr, map, not, suc, sym, true, zero, ◌&&◌, ◌++◌, ◌+◌, ◌-◌, ◌<◌, ◌||◌}
pub use Rattle.std.proofs.Common.{Bool, List, None, Ok, Some, arith, codes, cond, drop, false, refl, rules, subst, take}
pub use Rattle.std.proofs.Common.{Option, Result, add-one, get_or, if◌then◌else◌, is_some, length, nat_eq, true≢false}
pub use Rattle.std.proofs.Common.{[], ap, ℕ, ◌^◌, ◌↔◌, ◌∙◌, ◌∷◌, ◌≡◌, ◌≢◌, ◌≤◌, ◌⊎◌}
pub use Rattle.std.proofs.Output.{has_written_styled_append, has_written_styled_nil, has_written_styled_of_eq}
pub use Rattle.std.proofs.lemmas.Bool.{and_parts, cases_Bool, eq-eqb, false≢true, ne_eqb, not-false, not-true}
pub use Rattle.std.proofs.lemmas.List.Splits.{join_with_byte-slice_split, length-slice_split, slice_split_first}
pub use Rattle.std.proofs.lemmas.List.Splits.{slice_split_at, slice_split_none}
pub use Rattle.std.proofs.lemmas.List.{Elements.All-append, append-nil, length-append, map-append, take-take, take_all}
pub use Rattle.std.proofs.lemmas.{List.Sums.fails_before_first, List.Sums.position_or_len_is, Slice.Eq.bytes_eq-Decides}
pub use Rattle.std.specs.List.{AllZip, join_with_byte, list_all, onto_first, position_or_len, slice_range}
pub use Rattle.std.specs.Prelude.{IfErr, IfSome, IsTrue, MatchOption, MatchResult, option_map, slice_get, unwrap_or, ⊤}
pub use Rattle.std.specs.{Bool.Decides, Bool.then_some, Borrow.Bor, Hash.HashWrites, List.Sorted.IsStrictlyIncreasing}
pub use Rattle.std.{proofs.Math.Bool.and-false, proofs.Math.Bool.or-true, specs.Result.IsErrAnd, specs.Result.result_eq}
pub use Rattle.std.{proofs.lemmas.Bool.Decides.Decides-and, proofs.lemmas.Bool.Decides.Decides-like, specs.Prelude.◌==◌}
pub use Rattle.std.{proofs.lemmas.Grind.common_steps, proofs.lemmas.Grind.put_two, specs.Str.IsUtf8, specs.Str.bytes_eq}
pub use Rattle.std.{proofs.lemmas.Result.IfErr-weaker, proofs.lemmas.Result.IfOk-weaker, specs.Fmt.HasWrittenStyled}
pub use Rattle.std.{proofs.lemmas.Str.IsCharBoundary-after_ascii, specs.Option.ForSome, specs.Option.option_map_or}
pub use fields.Laws.{HasVersionInRange, HashInjective, HashInjectiveOn, NamesAreShort, NamesGrowAtMost, max_name_length}
pub use fields.Laws.{TextsAreNames}
pub use fields.OperatingSystem.{operating_system_name, system_version, version_suffix}
pub use fields.Vendor.{OwnsCustomString, is_custom, is_plain, known_vendor_name, vendor_name, vendor_value}
pub use fields.declared.known_vendor.KnownVendor.TheVariants.{Espressif, Unknown}
pub use fields.declared.{deployment_target.DeploymentTarget.DeploymentTarget, pointer_width.PointerWidth.PointerWidth}
pub use fields.{Architecture.architecture_name, Environment.environment_name, declared.endianness.Endianness.Endianness}
pub use fields.{ArchitectureQueries.architecture_width, declared.pointer_width.PointerWidth.TheVariants.U32}
pub use fields.{BinaryFormat.binary_format_name, Names.MatchesLookup, Names.dash, Names.is_dash_free, Names.value_named}
pub use specs.ExceptionFacts.{ExceptionsAreFactsOfFields, HasSpecialFields, PrintsTheEspIdfString, VendorIsNotPlain}
pub use specs.ExceptionFacts.{HasFieldsOf, HasSystemOf, HidesNewlib, PrintsAsSpecial, ShowsOnlyNone, SomeRow}
pub use specs.Exceptions.{RoundTripException, exception, has_newlib_and_elf, is_custom_esp}
pub use specs.Explanation.{AreFieldsOf, AreInString, IsInString, PlacedPart, SourceValue, placed_from, with_source}
pub use specs.Explanation.{AreSourcesOf, IsRefusedAfter, IsSourceInString, SourceValues, same_sources, source_values}
pub use specs.Explanation.{FromPart, Implied, NotGiven, part_from, part_value, source_at, sources_at, sources_of}
pub use specs.FixedPoints.{CanonicalStringsAreKeys, RefusedPartsDoNotGrow, RoundIsNormalStep, canonical_values}
pub use specs.FixedPoints.{CanonicalStringsGrowAtMost, FixedExactlyOutsideExceptions, PrintedStringsGrowAtMost}
pub use specs.GreedyReading.{HasFilled, IsTaken, field_for, finished, reading_from, with_value}
pub use specs.GreedyReading.{IsResultOf, ResultsAreComputed, finished_sources, reading_of_parts, reading_unless_special}
pub use specs.Json.{ElementsParseAs, IsElementParsed, IsFirstError, IsJsonErrorOf, JsonErrorValue, JsonParsesAs}
pub use specs.Laws.{ComesBack, EveryStringHasOneOutcome, HasOneLeastPlacement, ReadVendorsArePlain, ReadingIsComputed}
pub use specs.Parsing.{AreNotAfter, ArePartsOf, IsPlacement, IsRefusedAs, MayAllocate, PartsParseAs, parts_after}
pub use specs.Parsing.{HasPlacement, IsExpectedAfter, IsLeastPlacement, IsRefusalOrOutOfMemory, expected_after, part_at}
pub use specs.Parsing.{HoldsParts, IsErrorOf, IsRefusal, IsRefused, IsValueOf, ParsesAs, last_field, parts_of}
pub use specs.Printing.{HasUnimpliedUnknowns, OnlyUnknownsDifferFromUpstream, shows_environment, shows_operating_system}
pub use specs.Printing.{is_none_or_unknown, omits_unknown_vendor, shows_binary_format, shows_implied_format, text_with}
pub use specs.Queries.{data_model, endianness_name, model_of_width, pointer_width, width_name}
pub use specs.SpecialStrings.{SpecialRow, implies_newlib, special_pair, special_rows, special_triple}
pub use specs.Values.{Architecture, BinaryFormat, Environment, VendorValue, is_newlib, omits_system, unknown_values}
pub use specs.Values.{OperatingSystem, is_none_environment, is_same_format, is_unknown_vendor, omits_unknown_system}
pub use specs.ValuesRef.{placed_outcome, placed_refusal, refusal_value, values_of_ref}
pub use specs.declared.data_model.CDataModel.{CDataModel, TheVariants.ILP32, TheVariants.LLP64, TheVariants.LP64}
pub use specs.declared.{calling_convention.CallingConvention.CallingConvention, parse_error.ParseError.ParseError}
pub use specs.declared.{parse_error.ParseError.TheVariants.OutOfMemory, triple_ref.TripleRef.TripleRef}
pub use specs.{CallingConvention.convention_name, ImpliedFormat.default_binary_format, ImpliedFormat.implied_format}
pub use specs.{DataModel.model_name, DataModel.size_bits, DataModel.sizes_of, declared.triple.Triple.Triple}
pub use specs.{Field.Field, Field.field_number, Field.parses_as, QueryLaws.HaveSameAnswers, QueryLaws.QueriesKept}
pub use specs.{FixedPoints.IsPlainTriple, FixedPoints.OneStepSettles, FixedPoints.max_growth, Private.name_piece}
pub use specs.{Json.json_of, Values.Custom, Values.Known, Values.Values, Values.values, Values.values_of}
pub use specs.{NormalStep.elf_if_unknown, NormalStep.step_of, Refusal.Refusal, Refusal.refusal_of, Refusal.refusal_with}
pub use specs.{Printing.cons_if, Printing.shows_unknowns, Printing.shows_vendor, declared.reading.Reading.Reading}
pub use specs.Field as field
pub use specs.Values.architecture
pub use specs.Values.binary_format
pub use specs.Values.environment
pub use specs.Values.operating_system
pub use specs.Values.riscv32
pub use specs.declared.exception.RoundTripException.TheVariants as exceptions
unfoldable pub use fields.OperatingSystem.{fixed_operating_system_of, operating_system_of}
unfoldable pub use fields.{Architecture.architecture_of, Environment.environment_of}
unfoldable pub use fields.{BinaryFormat.binary_format_of, Vendor.is_admitted, Vendor.known_vendor_of, Vendor.vendor_of}
unfoldable pub use specs.{GreedyReading.reading, SpecialStrings.special_string, SpecialStrings.special_values}
unfoldable pub use specs.{NormalStep.normal_step, Printing.shown_names, Printing.string_of, Printing.upstream_string_of}
