use Rattle.offset_allocator.proofs.Common.{◌≡◌, Bool, Option, None, Some, ◌∷◌, ◌-◌, if◌then◌else◌, sym, ap, ◌∙◌, arith, node, Handle, Placed, common_steps}
use Rattle.offset_allocator.proofs.{Sound.fields_of, Reporting.Listing.left, Reporting.Listing.none_left, Reporting.Listing.node_placed, Reporting.Listing.read_is}
use Rattle.offset_allocator.proofs.reports.blocks.next_block_counted.Goals.{then-is_used, else-is_used}
use Rattle.offset_allocator.proofs.reports.blocks.next_block_counted.Goals as goal

pub is_used-requires : goal.is_used-requires
is_used-requires g c = (read_is (fields_of g.T.Tables.cells g.T.Index.NodeIndex.MAX c.allocator.inside) c.allocator.invariant _ _ _ c.allocator.view_is c.blocks-2.invariant.0
    (c.blocks-2.invariant.1 ∙ c.in_ok-name.was)).below

pub returns-in_err-name-clause-yields : goal.returns-in_err-name-clause-yields
returns-in_err-name-clause-yields g c = grind (arith, none_left)

pub offset-offset-requires : goal.offset-offset-requires
offset-offset-requires g c = (read_is (fields_of g.T.Tables.cells g.T.Index.NodeIndex.MAX c.allocator.inside) c.allocator.invariant _ _ _ c.allocator.view_is c.blocks-2.invariant.0
    (c.blocks-2.invariant.1 ∙ c.in_ok-name.was)).below

pub size-size-requires : goal.size-size-requires
size-size-requires g c = (read_is (fields_of g.T.Tables.cells g.T.Index.NodeIndex.MAX c.allocator.inside) c.allocator.invariant _ _ _ c.allocator.view_is c.blocks-2.invariant.0
    (c.blocks-2.invariant.1 ∙ c.in_ok-name.was)).below

pub before-blocks-inside-requires : goal.before-blocks-inside-requires
before-blocks-inside-requires g c = (read_is (fields_of g.T.Tables.cells g.T.Index.NodeIndex.MAX c.allocator.inside) c.allocator.invariant _ _ _ c.allocator.view_is c.blocks-2.invariant.0
    (c.blocks-2.invariant.1 ∙ c.in_ok-name.was)).below

pub invariant_of-blocks : goal.invariant_of-blocks
invariant_of-blocks g c =
    let r = read_is (fields_of g.T.Tables.cells g.T.Index.NodeIndex.MAX c.allocator.inside) c.allocator.invariant _ _ _ c.allocator.view_is c.blocks-2.invariant.0
    (c.blocks-2.invariant.1 ∙ c.in_ok-name.was) in
    (omega (arith, c.blocks-2.invariant.0), r.before ∙ sym c.before-blocks-inside.ensures.before)

pub returns-clause-yields : goal.returns-clause-yields
returns-clause-yields g c =
    let r = read_is (fields_of g.T.Tables.cells g.T.Index.NodeIndex.MAX c.allocator.inside) c.allocator.invariant _ _ _ c.allocator.view_is c.blocks-2.invariant.0
    (c.blocks-2.invariant.1 ∙ c.in_ok-name.was) in
    let P : Option Handle → Placed = λ h. record { offset = c.offset-offset.result; size = c.size-size.result; handle = h } in
    let grant_if : Bool → Option Handle = λ b. if b then Some (record { name = c.in_ok-name.name; offset = c.offset-offset.result }) else None in
    let grant : grant_if c.is_used.result ≡ c.if-is_used.allocation = grind (arith, common_steps, then-is_used, else-is_used) in
    let block = node_placed c.in_ok-name.name (node (g.T.Tables.cells c.allocator.inside.store.tables).chain c.in_ok-name.name) _ _ _ c.offset-offset.ensures.cell c.size-size.ensures.cell
    c.is_used.ensures.cell ∙ ap P grant in
    sym c.blocks-2.view_is ∙ r.block ∙ ap (λ (p : Placed). p ∷ left (c.blocks-2.inside.left - 1) c.blocks-2.inside.allocator.now.blocks) block
