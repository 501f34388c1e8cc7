use Rattle.offset_allocator.proofs.{Common.sym, Common.ap, Common.length, Common.◌∙◌, Reporting.Listing.length-left}
use Rattle.offset_allocator.proofs.reports.blocks.BlocksOfExactSizeIterator.len.Goals as goal

pub returns-clause-value : goal.returns-clause-value
returns-clause-value g c = sym (length-left c.self.inside.left c.self.inside.allocator.now.blocks c.self.invariant.0) ∙ ap length c.self.view_is
