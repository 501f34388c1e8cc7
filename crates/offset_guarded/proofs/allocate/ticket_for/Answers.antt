use Rattle.std.proofs.Common.{arith}
use Rattle.offset_guarded.proofs.Guards.{cell_given, is_named}
use Rattle.offset_guarded.proofs.allocate.ticket_for.Goals as goal

-- the name is that of a node, so it has a cell
pub give-requires-clause-made : goal.give-requires-clause-made
give-requires-clause-made g c =
    let below = c.node_count.ensures.names c.args.handle.name (is_named c.args.handle.name c.args.space.now c.requires.live) in
    let covers = c.cover.ensures.covers in
    let name = c.to_parts-offset.ensures.parts.1 in
    omega arith

pub returns-clause-cells : goal.returns-clause-cells
returns-clause-cells g c x =
    let below = c.node_count.ensures.names c.args.handle.name (is_named c.args.handle.name c.args.space.now c.requires.live) in
    let covers = c.cover.ensures.covers in
    cell_given c.cover.new.self c.give.new.self c.args.serials.now c.to_parts-offset.result.1 c.args.handle.name x c.give.ensures.table c.to_parts-offset.ensures.parts.1 (omega arith)
    c.cover.ensures.given (c.cover.ensures.cells x)
