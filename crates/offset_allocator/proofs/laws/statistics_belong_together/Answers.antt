use Rattle.offset_allocator.proofs.Common.{arith, free_sizes, ◌∙◌, sym, ap, largest, sum, View, if◌then◌else◌, Bool, length, ◌+◌, lt-leb}
use Rattle.offset_allocator.proofs.{Always.adds_up, Always.few_blocks, Always.split_count, Reporting.Largest.greatest_near, Reporting.Largest.greatest_within}
use Rattle.offset_allocator.proofs.laws.statistics_belong_together.Goals as goal

pub returns : goal.returns
returns g c = record {
  units = λ s a. omega (arith, a.live_units, a.free_units, adds_up c.args.allocator.now c.formed.ensures);
  nodes = λ s a. omega (arith, a.live_ranges, a.free_blocks, a.unused_nodes, split_count c.args.allocator.now.blocks);
  largest = λ s a.
      let v = c.args.allocator.now in
      let near = greatest_near (free_sizes v.blocks) (omega (arith, adds_up v c.formed.ensures, c.formed.ensures.fits)) in (
        omega (arith, near.0, a.largest_free_region, a.largest_free_block),
        omega (arith, greatest_within (free_sizes v.blocks), a.largest_free_block, a.free_units),
        omega
            (arith, near.1, a.largest_free_region, a.largest_free_block),
      );
  few = λ s a. omega (arith, few_blocks c.args.allocator.now c.formed.ensures, split_count c.args.allocator.now.blocks, a.live_ranges, a.free_blocks);
  report = λ s r a is room.
      let v : View = c.args.allocator.now in
      let room_left = lt-leb v.max_allocs (length v.blocks + 1) room in (
        is.0 ∙ ap (λ (b : Bool). if b then 0 else sum (free_sizes v.blocks)) room_left ∙ sym a.free_units,
        is.1 ∙ ap (λ (b : Bool). if b then 0 else largest (free_sizes v.blocks)) room_left ∙ sym a.largest_free_region,
      );
}
