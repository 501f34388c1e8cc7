use Rattle.std.proofs.Common.{◌≡◌, ℕ, ◌+◌, ◌<◌, ◌∷◌, not, slice_index, ap, ◌∙◌, arith, length-set}
use Rattle.std.proofs.lemmas.List.{length-replicate, get_or-replicate}
use Rattle.offset_allocator.proofs.Classes.{down_small}
use Rattle.offset_allocator.specs.{View.free_sizes, Reporting.FreeSizes.count_of, Reporting.Listing.as_placed}
use Rattle.offset_uses.proofs.Holes.{holes, holes-listing, count_most, counted_hole, hole_fits}
use Rattle.offset_uses.proofs.walking.count_holes.Goals as goal

pub loop-block-init : goal.loop-block-init
loop-block-init g c = (
  length-replicate {A = ℕ} 256 0,
  λ k l. omega
      (arith, get_or-replicate {A = ℕ} 256 k 0 0 l, ap (holes k) (c.into_iter-block-iterator.ensures.into_iter_gives ∙ c.blocks-block-items.ensures), holes-listing k c.args.space.now),
)

pub bounds-holes-uint_to_float_round_down : goal.bounds-holes-uint_to_float_round_down
bounds-holes-uint_to_float_round_down g c = omega (arith, down_small c.in-Some.block.size, c.uint_to_float_round_down.ensures.is)

pub bounds-holes-uint_to_float_round_down-then-is_none :
    goal.bounds-holes-uint_to_float_round_down-then-is_none
bounds-holes-uint_to_float_round_down-then-is_none g c = omega (arith, down_small c.in-Some.block.size, c.uint_to_float_round_down.ensures.is)

pub overflow_add-holes : goal.overflow_add-holes
overflow_add-holes g c =
    let k = c.uint_to_float_round_down.result in
    let total : ℕ → ℕ = λ k. count_of k (free_sizes c.args.space.now.blocks) in
    let left : (k : ℕ) → k < 256 → slice_index c.loop-block.holes k + holes k (as_placed c.in-Some.block ∷ c.next.new.self) ≡ total k =
    λ k l. omega (arith, c.loop-block.invariant.1 k l, ap (holes k) c.in-Some.ensures.steps) in
    omega (
      arith,
      hole_fits c.loop-block.holes (as_placed c.in-Some.block) c.next.new.self k total c.loop-block.invariant.0 c.uint_to_float_round_down.ensures.is
          (c.is_none.ensures ∙ ap not c.if-is_none.true) left,
      count_most k c.args.space.now.blocks,
      c.block_count.ensures,
      c.block_count.type_inv,
    )

pub loop-block-preserved-then-is_none : goal.loop-block-preserved-then-is_none
loop-block-preserved-then-is_none g c =
    let total : ℕ → ℕ = λ k. count_of k (free_sizes c.args.space.now.blocks) in
    let left : (k : ℕ) → k < 256 → slice_index c.loop-block.holes k + holes k (as_placed c.in-Some.block ∷ c.next.new.self) ≡ total k =
    λ k l. omega (arith, c.loop-block.invariant.1 k l, ap (holes k) c.in-Some.ensures.steps) in (
      length-set _ _ _ ∙ c.loop-block.invariant.0,
      counted_hole c.loop-block.holes (as_placed c.in-Some.block) c.next.new.self c.uint_to_float_round_down.result total c.loop-block.invariant.0
          c.uint_to_float_round_down.ensures.is (c.is_none.ensures ∙ ap not c.if-is_none.true) left,
    )
