use Rattle.std.proofs.Common.{◌+◌, ◌∷◌, ◌++◌, ap, arith, drop, map, string_bytes, sym, ◌∙◌, append-nil, List}
use Rattle.offset_allocator.specs.Reporting.Listing.{Placed, as_placed}
use Rattle.offset_allocator.specs.Reporting.Dumping.{joined, block_json}
use Rattle.offset_allocator.proofs.Reporting.Dumped.{joined_more, mapped_end, mapped_from}
use Rattle.offset_allocator.proofs.reports.dumping.put_blocks.Goals as goal

pub loop-block-preserved : goal.loop-block-preserved
loop-block-preserved g c =
    let ps = map as_placed c.args.blocks.now in
    joined_more block_json (string_bytes c.loop-block.text) (string_bytes c.put_comma.new.text) (string_bytes c.put_block.new.text) _ c.loop-block.first ps c.loop-block.block-index
    (as_placed c.block-item.result)
    (mapped_from as_placed c.args.blocks.now c.loop-block.block-index _ (omega arith) ∙ ap (λ p. p ∷ drop (c.loop-block.block-index + 1) ps) (ap as_placed (sym c.block-item.is)))
    c.in_ok-put_comma.ensures c.in_ok-put_block.ensures c.loop-block.invariant

pub returns : goal.returns
returns g c =
    sym (append-nil (string_bytes c.loop-block.text))
    ∙ ap (λ (l : List Placed). string_bytes c.loop-block.text ++ joined block_json c.loop-block.first l) (sym (mapped_end as_placed c.args.blocks.now c.loop-block.block-index (omega arith)))
    ∙ c.loop-block.invariant
