-- The names of std, of the crate below and of the contracts that most proofs cite, passed on from one place. Declares nothing.
pub use Rattle.std.proofs.Common.{◌≡◌, ℕ, zero, suc, ◌+◌, ◌-◌, ◌<◌, ◌≤◌, Bool, true, false, not, ◌&&◌, ◌||◌, ◌⊎◌, List, [], ◌∷◌, ◌++◌, replicate, length, sum, Option, Some, None, nat_eq, nat_lt}
pub use Rattle.std.proofs.Common.{nat_le, if◌then◌else◌, refl, sym, ap, ap₂, subst, ◌∙◌, inl, inr, arith, eq-eqb, ne_eqb, le-leb, le-ltb, leb-false, append_assoc, append-nil, true≢false, ltb-true}
pub use Rattle.std.proofs.Common.{ltb-false, map, ◌*◌, subst₂, ⊎_elim, lt-ltb, ◌≢◌, leb-true, is_some, eqb-true, take, drop, get_or, Ok, Err, take-append-drop, IfSome, flat_map, length-append}
pub use Rattle.std.proofs.Common.{drop_at, cond, eqb, filter, option_map, IsTrue, ltb, Result, ◌^◌, add-one, pow-suc, OkIff, is_none, ◌%◌, IfOk, slice_index_or, slice_set, get_or-set_same}
pub use Rattle.std.proofs.Common.{get_or-set_other, length-set, leb, rules, codes, bytes_eq, string_bytes, option_copied, drop-cons, take_all, All, set, length-drop, decimal, pos_of_ne-zero, ◌==◌}
pub use Rattle.std.proofs.Common.{position}
pub use Rattle.std.proofs.lemmas.Bool.{cases_eq, cases_lt, false≢true, lt-leb, and_parts, and_right, or_parts, not-false, or_right, false_from_ne_true, cond_both, not-true, and_left, and_cases}
pub use Rattle.std.proofs.lemmas.Bool.{eqb-false, cases_Bool}
pub use Rattle.std.proofs.Math.Bool.{or-false}
pub use Rattle.std.proofs.lemmas.Bool.Decides.{nat_tests}
pub use Rattle.std.proofs.lemmas.List.{map-append, length-map, get_or_past, length-replicate, take_rest, drop_all, nil_from_length, take_more, drop-set}
pub use Rattle.std.proofs.lemmas.List.Elements.{All-from_recursion, filter-append, All-get_or, All-push}
pub use Rattle.std.proofs.lemmas.List.Splits.{length-slice_split, slice_split_at, slice_split_none, join_with_byte-slice_split, slice_split_first}
pub use Rattle.std.specs.Io.KnownBytes.{Appends, Consumes}
pub use Rattle.std.specs.List.{AllByRecursion, list_any, slice_split, onto_first, join_with_byte}
pub use Rattle.std.specs.Option.{option_or, option_map_or}
pub use Rattle.std.specs.Str.{all_ascii_digits}
unfoldable pub use Rattle.offset_allocator.specs.Classes.{up, down, value}
pub use Rattle.offset_allocator.specs.Relations.{SameSpace, Frees, Adds, CanExtend, Extends, Splits, IsFresh, Resets}
pub use Rattle.offset_allocator.specs.Reporting.FreeSizes.{largest, rows_below, row, count_of}
pub use Rattle.offset_allocator.specs.View.{View, Handle, units, used_block, bin_at, push_all, IsWellFormed, replace, max_size, padding_to, tally, times, one, count_named, push, remove, remove_all}
pub use Rattle.offset_script.specs.Grammar.{parts, lines_of, is_skipped, Line, numbered_from, line_ends, largest_limit, Plan, ◌>>=!◌, command_of, header_of, is_admitted, has_valid_alignment, words}
pub use Rattle.offset_script.specs.Grammar.{one_word_command, number_command, pair_command, ◌>>=◌, text_of, row_line, width_of}
unfoldable pub use Rattle.offset_script.specs.Grammar.{meaning_of, significant_from, command_of_words, header_of_words, commands_of, plan_of, number_of}
pub use Rattle.offset_script.specs.Histories.{renumber, raise_number, number_without, KeepsSpace, IsQuestion, holder, outline, widen, collapse, without_offset, releases, IsCollapse}
pub use Rattle.offset_script.specs.Histories.{answers_renumbered, HasNoLive, IsGrant, IsNest, HasFreshRestarts, HasTracelessNests, HasCommutingReleases}
pub use Rattle.offset_script.specs.Machine.{Live, Free, is_free, has_number, stamp, total, chosen_place, State, Answer, step, returns_only, leaves, stamp_of_padding, stamp_of_call, Tag, Block, block}
pub use Rattle.offset_script.specs.Machine.{Place, fits, place_of, coalesce, Outcome, answers, after, request, grant, grant_or_refuse, release, size_at, report, reset, extend, start, is_short_of}
pub use Rattle.offset_script.specs.Machine.{is_taken_before, here, choose, prepend, free_part, units_at_start, without_start, units_at_end, without_end, free_sizes, ends_live, row_view, answer_view}
pub use Rattle.offset_script.specs.Steps.{kept_name, Takes, AreSteps, AreStepsFromFresh, IsKept, IfNamed, Stays, AreLive}
pub use Rattle.offset_script.specs.declared.scripts.Command.{Command}
pub use Rattle.offset_script.specs.declared.scripts.Command.TheVariants.{Alloc, Size, Report, Full, Reset, Align, Extend}
