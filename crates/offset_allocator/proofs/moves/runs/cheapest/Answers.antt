use Rattle.offset_allocator.proofs.Common.{arith, length, blocks, refl}
use Rattle.offset_allocator.proofs.moves.runs.cheapest.Goals as goal

pub returns-clause-accesses : goal.returns-clause-accesses
returns-clause-accesses g c =
    let a = c.walk.ensures.accesses (length (blocks (g.T.Tables.cells c.args.tables.now).chain c.args.last)) refl in
    (omega (arith, a.0), omega (arith, a.1))
