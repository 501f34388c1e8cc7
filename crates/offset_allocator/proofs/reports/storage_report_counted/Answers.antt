use Rattle.offset_allocator.proofs.Common.{common_steps, ◌≡◌, ℕ, sym, subst, ◌<◌, ◌+◌, length, arith, ◌∙◌, refl, nat_tests, View, reported_free, reported_largest, free_sizes, largest}
use Rattle.offset_allocator.proofs.{Sound.shown, Sound.Fields, Sound.AreSound, Sound.fields_of, Sound.known_sound, Reporting.Counting.largest_none, Reporting.Counting.largest_some, Refusals.is_open}
use Rattle.offset_allocator.proofs.{Refusals.total_is}
use Rattle.offset_allocator.proofs.reports.storage_report_counted.Goals.{in-None, in-Some}
use Rattle.offset_allocator.proofs.reports.storage_report_counted.Goals as goal

-- where two names are left, the report is of the free blocks
open_report : (it : Fields) → AreSound it → length (shown it).blocks + 1 < it.limit → (r : ℕ) → r ≡ largest (free_sizes (shown it).blocks) → (it.free ≡ reported_free (shown it))
    × (r ≡ reported_largest (shown it))
open_report it s room r e = grind (arith, nat_tests, total_is)

pub returns-clause-report : goal.returns-clause-report
returns-clause-report g c =
    let f : Fields = fields_of g.T.Tables.cells g.T.Index.NodeIndex.MAX c.allocator.inside in
    let s : AreSound f = c.allocator.invariant in
    let well = (known_sound f s (shown f) refl).0 in
    let P : View → Type 0 = λ u. (c.allocator.inside.free_total ≡ reported_free u) × (c.match-largest.largest_free_region ≡ reported_largest u) in
    subst P c.allocator.view_is (open_report f s (is_open f s 1 0 c.allocator.view_is c.unused_nodes.ensures (omega arith)) c.match-largest.largest_free_region (elim c.match-largest.branch [
      | in-None w ↦ w.largest_free_region-is ∙ sym (largest_none (shown f) well w.in-None.ensures.largest)
      | in-Some w ↦ let l = largest_some (shown f) well w.in-Some.class w.in-Some.ensures.largest in
          omega (arith, l.0, l.1, total_is f s 1 1, w.largest_free_region-is, w.float_to_uint-largest_free_region.ensures.is)
    ]))

pub returns-clause-accesses_min : goal.returns-clause-accesses_min
returns-clause-accesses_min g c l =
    let r = (returns-clause-report g c).1 in
    grind (arith, common_steps, in-None, in-Some)

pub returns-clause-accesses : goal.returns-clause-accesses
returns-clause-accesses g c = (grind (arith, common_steps), grind (arith, common_steps))
