-- The names of std, of the crates below and of the contracts that most proofs cite, passed on from one place. Declares nothing.
pub use Rattle.std.proofs.Common.{◌≡◌, ℕ, ◌+◌, ◌-◌, ◌*◌, Bool, true, false, not, ◌&&◌, ◌||◌, ◌⊎◌, List, [], ◌∷◌, ◌++◌, map, sum, Option, Some, None, is_some, nat_eq, nat_le, if◌then◌else◌, refl, sym}
pub use Rattle.std.proofs.Common.{ap, ap₂, subst, subst₂, ◌∙◌, inl, inr, arith, eq-eqb, ne_eqb, le-leb, true≢false, zero, suc, ◌<◌, ◌≤◌, length, take, All, get_or, IsTrue, slice_get, option_map}
pub use Rattle.std.proofs.Common.{append-nil, append_assoc, length-append, eqb-true, replicate, ◌≢◌, IfSome, option_and_then, nat_lt, leb-true, lt-ltb, le-ltb, drop, reverse, slice_index_or}
pub use Rattle.std.proofs.Common.{unwrap_or, leb-false, slice_set, rules, take_all, add-one, drop-cons}
pub use Rattle.std.proofs.lemmas.Bool.{cases_eq, cases_lt, false≢true, lt-leb, and_parts, and_right}
pub use Rattle.std.proofs.lemmas.List.{map-append, length-map, take_more, get_or_past, length-replicate, reverse-append, drop_all}
pub use Rattle.std.specs.List.{AllByRecursion, FoldsTo}
pub use Rattle.offset_allocator.specs.Moving.Compacting.{live, Compacts}
pub use Rattle.offset_allocator.specs.Reporting.Listing.{Placed, placed, listing, as_placed}
pub use Rattle.offset_allocator.specs.Ranges.{Range, size_of}
pub use Rattle.offset_allocator.specs.Relations.{IsFresh, SameSpace, Extends, Frees, Resets}
pub use Rattle.offset_allocator.specs.Requests.{AdmitsBlocks, IsWhy, size_needed, blocks_needed, units_needed}
pub use Rattle.offset_allocator.specs.View.{Block, Handle, Place, IsWellFormed, is_used_at, View, one, count_named, bin_at, push_all, times, count_in_bin, units, AreCoalesced, replace}
pub use Rattle.offset_allocator.specs.declared.reports.Refusal.TheVariants.{Nodes, TooLarge, Space, Fragmented}
pub use Rattle.offset_calls.specs.Calls.{Reply, Answer, Compacted, Offset, Refusal, Outcome, starts_free, resize, resized, replies_only, number, move_of, moves, gathered, compact, offset_at}
pub use Rattle.offset_calls.specs.Calls.{shortage, reason, step, replies, after, is_valid, reply_view, Move, Resized, can_shrink, can_grow, move_view}
pub use Rattle.offset_calls.specs.Histories.{renumber, number_with, raise_move, raise, IsQuestion, replies_renumbered, without_offset}
pub use Rattle.offset_calls.specs.Steps.{AreKept, AreNumbered, Takes, IsReason}
pub use Rattle.offset_calls.specs.Tickets.{IsGrantOf, IsGrown, AreAllTickets, TakesTicket, IsNumberOf, handle_of, handles_of, is_that, live_name, meant, number_in, number_of, passed, ticket_of, AreInOrder}
pub use Rattle.offset_calls.specs.Tickets.{IsStored}
pub use Rattle.offset_calls.specs.declared.calls.Call.{Call}
pub use Rattle.offset_guarded.specs.Guard.{Guard, AreAlike, IsLive, range_of, Grants, IsSame, KeepsAll, KeepsLive, KeepsOthers, KeepsSerials, KeepsSizes, Ticket, handle_in, serial_of}
pub use Rattle.offset_script.specs.Histories.{number_without, HasNoLive, IsNest, IsCollapse, collapse, outline, releases}
pub use Rattle.offset_script.specs.Machine.{State, is_free, has_number, total, free_sizes, place_of, chosen_place, is_short_of, units_at_start, without_start, free_part, stamp_of_call, fits, start}
pub use Rattle.offset_script.specs.Machine.{Tag, Live, Free, stamp_of_padding}
pub use Rattle.offset_script.specs.Steps.{kept_name, IfNamed, Stays, IsKept}
pub use Rattle.offset_script.specs.declared.scripts.Command.{Command}
