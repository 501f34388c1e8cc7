use Rattle.offset_allocator.proofs.Common.{◌≤◌, arith, length, refl, set_past}
use Rattle.offset_allocator.proofs.bins.link_newer.Goals as goal

pub set_newer-requires-clause-name : goal.set_newer-requires-clause-name
set_newer-requires-clause-name g c = omega (arith, c.shape.ensures.newer, c.if-has.ensures.made refl)

pub set_newer-requires-clause-idle : goal.set_newer-requires-clause-idle
set_newer-requires-clause-idle g c = rw c.number-then-has.ensures.number (c.requires.idle (λ e. absurd (omega (arith, c.shape.ensures, c.if-has.ensures.made refl, e))))

pub returns-else-has-clause-cells : goal.returns-else-has-clause-cells
returns-else-has-clause-cells g c =
    let l : length (g.T.Tables.cells c.args.tables.now).bins.newer ≤ g.T.Index.NodeIndex.number c.args.at = omega (arith, c.shape.ensures.newer, c.if-has.ensures.past refl) in
    grind (arith, set_past, l)
