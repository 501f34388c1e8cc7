use Rattle.offset_allocator.proofs.{Common.ap, Common.◌∙◌, Common.length, Common.arith, Common.Cells, Saving.Alike.same_cells}
use Rattle.offset_allocator.proofs.states.copy.copied.Goals as goal

pub returns : goal.returns
returns g c =
    let i = c.loop-name.invariant in
    let e = c.copy_bins.ensures.cells in
    record {
      cells = same_cells c.shape.ensures c.shape-2.ensures (ap (λ (k : Cells). length k.chain.nodes) e ∙ i.nodes) (ap (λ (k : Cells). k.chain.reserved) e ∙ i.reserved)
          (λ x l. i.done x (omega (arith, l, c.len-name-end.ensures))) e;
    }
