use Rattle.offset_allocator.proofs.{Reporting.Listing.length-placed}
use Rattle.offset_allocator.proofs.Common.{◌≡◌, ◌∙◌, length, length-reverse, ap, arith, placed, refl, List, View}
use Rattle.offset_allocator.specs.Reporting.Listing.{Placed, listing}
use Rattle.offset_allocator.proofs.at_offset.in_the_way_counted.Goals as goal

long : (v : View) → length (listing v) ≡ length v.blocks
long v = length-reverse (placed 0 v.blocks) ∙ length-placed 0 v.blocks

pub returns-then-is_in_the_way-clause-accesses : goal.returns-then-is_in_the_way-clause-accesses
returns-then-is_in_the_way-clause-accesses g c =
    let i = c.loop-block.invariant in
    let one = ap (λ (l : List Placed). length l) c.in-Some.ensures.yields in (
      omega (arith, i.least, one, c.in-Some.ensures.accesses_min refl, long c.args.allocator.now),
      omega (arith, i.accesses, one, c.in-Some.ensures.accesses, long c.args.allocator.now),
    )

pub returns-clause-accesses : goal.returns-clause-accesses
returns-clause-accesses g c =
    let i = c.loop-block.invariant in
    let none = ap (λ (l : List Placed). length l) c.in_default.ensures.yields.0 in (
      omega (arith, i.least, none, c.in_default.ensures.accesses, c.formed.ensures.some, long c.args.allocator.now),
      omega (arith, i.accesses, none, c.in_default.ensures.accesses, long c.args.allocator.now),
    )
