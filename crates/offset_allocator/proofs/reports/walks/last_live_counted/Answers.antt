use Rattle.offset_allocator.proofs.{Sound.fields_of, Reporting.Nearby.last_there, Reporting.Nearby.last_said}
use Rattle.offset_allocator.proofs.reports.walks.last_live_counted.Goals as goal

pub live_up_to-requires : goal.live_up_to-requires
live_up_to-requires g c = record { place = last_there (fields_of g.T.Tables.cells g.T.Index.NodeIndex.MAX c.allocator.inside) c.allocator.invariant }

pub returns-clause-last : goal.returns-clause-last
returns-clause-last g c =
    last_said (fields_of g.T.Tables.cells g.T.Index.NodeIndex.MAX c.allocator.inside) c.allocator.invariant _ c.live_up_to.ensures.last _ c.allocator.view_is
