-- The names that the proofs of this crate cite, passed on from one place. Declares nothing.
pub use Rattle.serde_json.specs.Data.{Data, item, Items, array, string, no_items}
pub use Rattle.serde_json.specs.Find.{as_str, as_array, get_item}
pub use Rattle.serde_json.specs.{Read.read, View.items_of, Written.compact_text, Written.items_have_float}
pub use Rattle.std.proofs.Common.{ℕ, Ok, [], ap, Err, inl, inr, map, not, suc, sym, ◌+◌, ◌-◌, ◌<◌, ◌^◌, ◌↔◌, ◌∙◌, ◌∷◌}
pub use Rattle.std.proofs.Common.{◌≡◌, ◌≢◌, ◌≤◌, ◌⊎◌, Bool, List, None, OnOk, Some, drop, lit≤, refl, take, true, zero}
pub use Rattle.std.proofs.Common.{◌++◌, ◌==◌, ◌||◌, arith, codes, false, rules, subst, Option, Result, get_or, length}
pub use Rattle.std.proofs.Common.{IsErrOf, vec_len, IsErrAnd, option_map, MatchOption, append_assoc, string_bytes}
pub use Rattle.std.proofs.{Common.if◌then◌else◌, KnownBytes.Appends-nil}
pub use Rattle.std.proofs.{KnownBytes.Consumes-nil, KnownBytes.Consumes-kept, Math.Bool.or-true, Math.Bool.or-false}
pub use Rattle.std.proofs.Math.Seq.{drop-append-add, take-append-add, take-append_seam, get_or-append_seam}
pub use Rattle.std.proofs.lemmas.{Bool.ne_eqb, Bool.cases_lt, Grind.common_steps}
pub use Rattle.std.proofs.lemmas.List.{places, take_all, drop-drop, drop-take}
pub use Rattle.std.proofs.lemmas.List.{append-nil, get_or-take, length-drop, length-take, length-append, get_or_default}
pub use Rattle.std.proofs.lemmas.List.{take-append-le, nil_from_length, take-append-drop, append_cancel_left}
pub use Rattle.std.proofs.lemmas.List.{Elements.filter-append, Folds.list_any-append, Splits.slice_split_at}
pub use Rattle.std.proofs.lemmas.List.Splits.{slice_split_none, length-slice_split, join_with_byte-slice_split}
pub use Rattle.std.proofs.lemmas.{Map.Text.hash_set_updates_text, Slice.take-put_mid_below, Str.IsUtf8-drop}
pub use Rattle.std.proofs.lemmas.Str.{IsUtf8-take, IsUtf8-from_is_utf8, is_utf8-from_IsUtf8, IsCharBoundary-after_ascii}
pub use Rattle.std.proofs.lemmas.Str.{IsCharBoundary-before_ascii, Pattern.drop_at_char, Pattern.NoCharPasses-char}
pub use Rattle.std.{proofs.raw_atomic.Walks.proved, specs.Cmp.Lexicographic.same_text}
pub use Rattle.std.specs.{HashSet.IsEmpty, HashSet.UpdatesBy, HashSet.contains_text, Io.KnownBytes.Keeps}
pub use Rattle.std.specs.{Io.KnownBytes.IsAtEnd, Io.KnownBytes.Consumes, List.All, List.AllZip, List.filter}
pub use Rattle.std.specs.{List.list_any, List.slice_split, List.AllByRecursion, List.join_with_byte, Prelude.IfSome}
pub use Rattle.std.specs.Str.{IsUtf8, is_utf8, bytes_eq, NoCharPasses, Iter.split_text, Iter.split_has_more}
pub use Rattle.std.specs.Str.Iter.{split_terminator_parts, split_terminator_steps, split_terminator_pattern}
pub use Rattle.std.specs.{Str.Pattern.FindsChar, String.string_eq, declared.str.SplitTerminator.SplitTerminator}
pub use Rattle.target_lexicon.proofs.WordLengths.{short-model, short-width, short-convention, short-endianness}
pub use Rattle.target_lexicon.specs.{CallingConvention.convention_name, DataModel.model_name}
pub use Rattle.target_lexicon.specs.FixedPoints.{canonical_string, canonical_values}
pub use Rattle.target_lexicon.specs.FixedPoints.{RoundIsNormalStep, ParsedTriplesArePlain, CanonicalStringsAreKeys}
pub use Rattle.target_lexicon.specs.FixedPoints.{PrintedStringsGrowAtMost, CanonicalStringsGrowAtMost}
pub use Rattle.target_lexicon.specs.Json.{Parse, Element, NotText, json_of, IsFirstError, JsonParsesAs}
pub use Rattle.target_lexicon.specs.Json.{list_json_of, IsJsonErrorOf, JsonErrorValue, ElementsParseAs, IsElementParsed}
pub use Rattle.target_lexicon.specs.{Json.list_error_line, Laws.EqualTextsEqualTriples}
pub use Rattle.target_lexicon.specs.{Laws.EveryStringHasOneOutcome, NormalStep.normal_step, Parsing.ParsesAs}
pub use Rattle.target_lexicon.specs.{Parsing.IsErrorOf, Parsing.IsRefusedAs, Printing.string_of, Queries.data_model}
pub use Rattle.target_lexicon.specs.Queries.{endianness, width_name, pointer_width, endianness_name, calling_convention}
pub use Rattle.target_lexicon.specs.{Refusal.Refusal, Refusal.refusal_line, Values.Values, Values.values_of}
pub use Rattle.target_lexicon.specs.{ValuesRef.refusal_value, declared.parse_error.ParseError.ParseError}
pub use Rattle.triples.specs.Calls.{Call, After, Ended, Moved, Failed, is_end, Flushed, call_of, stop_in}
pub use Rattle.triples.specs.Calls.{bytes_in, bytes_of, stops_in, ends_last, failure_in, stops_last, failures_in}
pub use Rattle.triples.specs.{Facts.facts_of, Facts.spaced_word, Facts.text_with_facts, Filter.IsPrompt}
pub use Rattle.triples.specs.Filter.{not_utf8, too_long, FilterEnds, FilterEndsAs, IsFilterAnswer, complete_lines}
pub use Rattle.triples.specs.{Filter.AreFilterAnswers, FilterLaws.run_mode, FilterLaws.FilterGives}
pub use Rattle.triples.specs.{FilterLaws.EveryInputIsFiltered, FilterLaws.FiltersAgreeWithRuns, FilterSteps.IsKept}
pub use Rattle.triples.specs.FilterSteps.{IsLate, Pushes, HasNoFeed, IsLineEnd, with_feeds, AnswersRest, AnswersLines}
pub use Rattle.triples.specs.FilterSteps.{IsFilteredTo, IsLineAnswer, PushesAnswer, RestAnswered, IsShortAnswer}
pub use Rattle.triples.specs.{FilterSteps.LinesAnswered, JsonOutput.IsJsonAnswer, JsonOutput.IsJsonInputErrorOf}
pub use Rattle.triples.specs.{JsonOutput.IsJsonAnswerErrorOf, Lines.lines_of, Lines.line_feed, Lines.ended_lines_of}
pub use Rattle.triples.specs.{Lines.parts_without_last, Lines.parts_without_empty_last, MatrixLaws.entries_of}
pub use Rattle.triples.specs.MatrixLaws.{is_refusal, only_entries, MatricesAreTheirOwn, EntriesAreCanonicalTriples}
pub use Rattle.triples.specs.Output.{Shown, shows, Answer, Refused, IsAnswer, IsMatrix, IsOutput, shown_by, matrix_of}
pub use Rattle.triples.specs.Output.{AreAnswers, IsLineOutput, answer_bytes, kept_answers, is_kept_after, written_lines}
pub use Rattle.triples.specs.Private.{Seen, AddsEntry, AddsAnswer, HasOneMore, AddsRefusal, HasNoOutput, is_repeated}
pub use Rattle.triples.specs.{Private.refused_answer, Program.Concludes}
pub use Rattle.triples.specs.Run.{Use, Gives, Takes, EndsAs, use_of, RunEnds, HasFailed, OnlyMoves}
pub use Rattle.triples.specs.Run.{StopsLast, StopsOnce, IsUnfailed, IsReadWhole, IsWrittenWhole, TakesBeginning}
pub use Rattle.triples.specs.RunLaws.{IsInput, IsJudged, RunGives, IsWritten}
pub use Rattle.triples.specs.{Streams.read_call, declared.filter_error.FilterError.FilterError}
pub use Rattle.triples.specs.declared.{line_mode.LineMode.LineMode, mode.Mode.Mode}
pub use Rattle.triples.specs.declared.mode.Mode.TheVariants.{Json, Show, Print, Matrix, Settle}
pub use Rattle.triples.specs.declared.request.Request.{Request, TheVariants.Run}
pub use Rattle.triples.specs.declared.{run_error.RunError.RunError, trace.Trace.Trace}
pub use base.Logic.{emp, via, fst∗}
pub use borrow.Rule.Slice.PartMut.{put_mid}
pub use contract.Running.{tables}
pub use denote.{Builtin.u8, Exit.yes, RattleType.owns, Ref.shr_vals, Ref.shr_Tells, Shadow.pure_i, Signature.plain}
pub use denote.{Signature.types_at, Slice.shr_slice_vals, Slice.shr_slice_Tells, Triple.Entry.alive, Triple.Walked.says}
pub use denote.Triple.Walked.{Stays, ends_at, walk_of, Goes-none_ref, stay_none_ref, Goes-none_slice, stay_none_slice}
pub use lib.Seq.{paste, take-paste}
pub use mir.{Syntax.named, Val.Val, Val.vnil, Val.vstruct}
pub use types.ByLocal.{sets, look_at, free_all, pass_all, alloc_all}
pub use types.Kit.{ !, ‵, qed, raw, ◌$◌, ◌∵◌, done, move, suffices}
pub use types.{Part.agg, Run.enter, Run.no_more, Run.returns}
pub use Rattle.triples.specs.declared.filter_error.FilterError.TheVariants as filter_error
pub use Rattle.triples.specs.declared.run_error.RunError.TheVariants as run_error
