-- The names of the standard library and of specs/ that these proofs cite, passed on from one place. Declares nothing.
pub use Rattle.std.proofs.Common.{arith, ap, refl, ◌∙◌, ◌≡◌, sym, ℕ, length, List, ◌+◌, [], ◌∷◌, ◌≤◌, ◌<◌, ◌++◌, subst, false, inr, inl, true, ◌≢◌, None, Bool, length-set, ◌-◌, suc, Some}
pub use Rattle.std.proofs.Common.{if◌then◌else◌, nat_eq, ◌^◌, zero, ap₂, set, ◌*◌, length-append, Option, ◌&&◌, ◌⊎◌, not, map, get_or-set_other, get_or-set_same, ne_eqb, append_assoc, ◌%◌, replicate}
pub use Rattle.std.proofs.Common.{eq-eqb, ◌↔◌, slice_set, append-nil, sum, slice_index, ◌/◌, get_or, true≢false, eq-zero-or-pos, IfSome, take, option_map, le-leb, drop, bit_and, pow-suc, rules}
pub use Rattle.std.proofs.Common.{nat_lt, bit_or, cond, eqb, MatchOption, w32, w64, take_all, option_and_then, add-zero, add_assoc, is_some, IsSome, slice_index_or, nat_le, add-one, leb-true, reverse}
pub use Rattle.std.proofs.Common.{count_ones, unwrap_or, zero-add, le_trans, max}
pub use Rattle.std.proofs.Math.Nat.{mul_assoc, mul-add, add-mul, mul-zero, div-add-mod}
pub use Rattle.std.proofs.lemmas.Bool.{cases_eq, cases_lt, false≢true, and_right, cond_both, lt-ltb, le-ltb, ltb-true, ltb-false, leb-false, not-false, lt-leb, not-true, and_left}
pub use Rattle.std.proofs.lemmas.Bool.Decides.{nat_tests}
pub use Rattle.std.proofs.lemmas.Grind.{common_steps, get_or_default_zero}
pub use Rattle.std.proofs.lemmas.List.{map-set, length-map, length-replicate, get_or_past, get_or-map, set-get_or, ext_get_or, map-append, set_past, take_more_set, get_or-replicate, set-set, set_comm}
pub use Rattle.std.proofs.lemmas.List.{take_more, length_push, length-take-le, take-take, take-append-le, take-append-drop, reverse-append, length-reverse, get_or_append_left}
pub use Rattle.std.proofs.lemmas.List.Sums.{sum_by-cons, prefix_len-le-length, prefix_len_passes, prefix_len_stops}
pub use Rattle.std.proofs.lemmas.Nat.{pow_pos, mod-mul-add, div-mul-add, or_lt, le_or_r, le-div, div_below, and_le_l, and_mask, or_comm, le_or_l, or_shifted, shr_split, pow-add, mod_below}
pub use Rattle.std.proofs.lemmas.Nat.{leading_top, one_shl, pow_below}
pub use Rattle.std.proofs.lemmas.Nat.Bits.{bit_at-zero, bit_at_above, bit_at-trailing_zeros, bit_at_and, bit_at_mask_inside, bit_at_mask_below, bit_at-lt, ones_shl, bit_at_set_same, bit_at_set_other}
pub use Rattle.std.proofs.lemmas.Nat.Bits.{bit_at_clear_same, bit_at_clear_other}
pub use Rattle.std.specs.Int.{bit_at, Width, trailing_zeros, bit_not}
pub use Rattle.std.specs.Int.Count.{count_trailing_zeros, count_leading_zeros}
pub use Rattle.std.specs.List.{AllByRecursion, FoldsTo, filter, prefix_len, range_with_len}
pub use Rattle.std.specs.Prelude.{vec_len, vec_capacity}
pub use Rattle.offset_allocator.specs.Bins.{IsFoundLast, IsBinned, IsUnlisted, IsAmong, first_of, AreMasks, IsFoundFrom, IsLinked, IsTail, HasBins}
unfoldable pub use Rattle.offset_allocator.specs.Bins.{bins_in, names_from}
pub use Rattle.offset_allocator.specs.Cells.{Node, Cells, ChainCells, link_of, BinCells, blank, AreShaped, mark_of, AreEmpty, IsBare}
unfoldable pub use Rattle.offset_allocator.specs.Cells.{node, put, with_spare, with_node}
pub use Rattle.offset_allocator.specs.Chain.{HasPlace, last_or, IsChain, first_or, IsRow, IsSpace, coalesced_before, coalesced_after, IsFreeAfter}
unfoldable pub use Rattle.offset_allocator.specs.Chain.{blocks}
pub use Rattle.offset_allocator.specs.Classes.{IsExponent}
unfoldable pub use Rattle.offset_allocator.specs.Classes.{down, value, up}
pub use Rattle.offset_allocator.specs.Moving.Compacting.{live, Compacts, moves, first_free, gathered, move_of, Move, KeepsSizes, IsCalledWith, AreSafe, AreBetween}
pub use Rattle.offset_allocator.specs.Layouts.{field_tables, FieldTables, node_in, node_of, cells_of, cells_by_node, AreEven, values, cells_by_field, AreLevel}
unfoldable pub use Rattle.offset_allocator.specs.Layouts.{nodes_of, nodes_in}
pub use Rattle.offset_allocator.specs.Reporting.Listing.{Placed, placed_at, placed}
pub use Rattle.offset_allocator.specs.Ranges.{size_of, range_of, Range, IsLive, KeepsAll, Grants, KeepsOthers, AreDisjoint, KeepsRanges}
pub use Rattle.offset_allocator.specs.Relations.{SameSpace, Splits, Frees, Resets, IsFresh, Extends, Aligns, Adds, Allocates, CanExtend}
pub use Rattle.offset_allocator.specs.Requests.{IsSplitNearBest, IsGoodRefusal, AdmitsBlocks, CanGrant, units_needed, blocks_needed, size_needed, IsWhy}
pub use Rattle.offset_allocator.specs.Reporting.FreeSizes.{largest, count_of}
pub use Rattle.offset_allocator.specs.Resizing.{ResizesTo, Resizes, HasUnits, Shrinks, Grows, CanShrink, CanGrow, free_after}
pub use Rattle.offset_allocator.specs.Bins.{ListsOnly}
pub use Rattle.offset_allocator.specs.Soundness.{view_of, IsSound}
pub use Rattle.offset_allocator.specs.View.{AreInBins, Block, View, units, IsWellFormed, count_named, bin_at, one, Place, times, free_block, push, free_sizes, AreCoalesced, count_in_bin, free_start}
pub use Rattle.offset_allocator.specs.View.{place_of, count_used, remove_all, free_part, remove, push_all, free_end, without_start, replace, without_end, used_block, IsNew, Handle, padding_to, max_size}
pub use Rattle.offset_allocator.specs.View.{starts_free, is_used_at, ends_used, reported_largest, used_units, reported_free, tally}
