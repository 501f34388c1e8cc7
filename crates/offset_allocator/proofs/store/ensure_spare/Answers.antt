use Rattle.offset_allocator.proofs.{Common.◌≡◌, Common.arith, Common.common_steps, Linking.Readied.has_memory, Linking.Readied.made_name, Linking.Readied.not_made, Linking.Readied.not_readied}
use Rattle.offset_allocator.proofs.{Linking.Readied.readied_first}
use Rattle.offset_allocator.proofs.store.ensure_spare.Goals as goal

pub add-requires : goal.add-requires
add-requires g c = grind (arith, common_steps, has_memory)

pub returns-then-spare_count-eq0-clause-readies : goal.returns-then-spare_count-eq0-clause-readies
returns-then-spare_count-eq0-clause-readies g c =
    let r = c.requires.memory in
    let none : c.args.spare_count.now ≡ 0 = omega arith in
    readied_first none c.shape.ensures (omega (arith, r.3.memory, has_memory r.3 r.4 none)) c.add.ensures.chain c.add.ensures.newer c.add.ensures.older c.add.ensures.heads c.add.ensures.masks

pub returns-then-spare_count-eq0-clause-unused : goal.returns-then-spare_count-eq0-clause-unused
returns-then-spare_count-eq0-clause-unused g c = rw c.add.ensures.chain (made_name (g.T.Tables.cells c.args.tables.now).chain c.args.spare_count.now (omega arith))

pub returns-else-spare_count-eq0-clause-readies : goal.returns-else-spare_count-eq0-clause-readies
returns-else-spare_count-eq0-clause-readies g c = not_readied

pub returns-else-spare_count-eq0-clause-unused : goal.returns-else-spare_count-eq0-clause-unused
returns-else-spare_count-eq0-clause-unused g c = not_made (g.T.Tables.cells c.args.tables.now).chain c.args.spare_count.now (omega arith)
