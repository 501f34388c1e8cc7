use Rattle.std.proofs.Common.{◌++◌, List, map, reverse, ap, sym, ◌∙◌, append-nil}
use Rattle.offset_allocator.specs.Reporting.Listing.{Placed, as_placed, placed}
use Rattle.std.proofs.lemmas.List.{reverse-reverse}
use Rattle.offset_allocator.proofs.Reporting.Dumped.{map_reverse}
use Rattle.offset_allocator.proofs.reports.dumping.blocks_in_order.Goals as goal

pub returns : goal.returns
returns g c =
    let all = sym (append-nil (map as_placed c.loop-block.blocks.items)) ∙ ap (λ (l : List Placed). map as_placed c.loop-block.blocks.items ++ l) (sym c.in-None.ensures.steps.0)
    ∙ c.loop-block.invariant in
    ap (map as_placed) c.reverse.ensures.items ∙ map_reverse as_placed c.loop-block.blocks.items ∙ ap reverse all ∙ reverse-reverse (placed 0 c.args.space.now.blocks)
