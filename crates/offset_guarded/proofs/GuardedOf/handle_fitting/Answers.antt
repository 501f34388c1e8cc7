use Rattle.std.proofs.Common.{arith}
use Rattle.offset_guarded.proofs.Guards.{no_such}
use Rattle.offset_guarded.proofs.GuardedOf.handle_fitting.Goals as goal

pub returns-in_default-clause-live : goal.returns-in_default-clause-live
returns-in_default-clause-live g c h = absurd (no_such g.T.Index.NodeIndex.MAX c.args.ticket _ c.self.inside.space c.self.inside.serials c.self.inside.realm c.self.inside.step c.self.view_is c.self.invariant.admitted c.is_well_formed.ensures
    (omega (arith, c.in_default.ensures, c.name-2.ensures.name)) h)
