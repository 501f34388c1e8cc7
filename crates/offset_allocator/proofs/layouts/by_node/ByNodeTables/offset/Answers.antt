use Rattle.offset_allocator.proofs.{Common.ap, Common.sym, Arranging.Entries.read}
use Rattle.offset_allocator.proofs.layouts.by_node.ByNodeTables.offset.Goals as goal

pub returns-clause-cell : goal.returns-clause-cell
returns-clause-cell g c = sym (ap (λ v. v.offset) (read _ _ _ c.self.view_is c.args.name _ c.requires c.index.ensures))
