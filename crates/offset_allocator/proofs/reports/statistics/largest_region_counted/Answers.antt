use Rattle.offset_allocator.proofs.Common.{ap, arith, refl, sym, ◌∙◌, largest, free_sizes, View}
use Rattle.offset_allocator.proofs.{Sound.shown, Sound.Fields, Sound.fields_of, Sound.known_sound, Reporting.Counting.largest_none, Reporting.Counting.largest_some, Always.adds_up}
use Rattle.offset_allocator.proofs.reports.statistics.largest_region_counted.Goals as goal

pub returns-in-None-clause-region : goal.returns-in-None-clause-region
returns-in-None-clause-region g c =
    let f : Fields = fields_of g.T.Tables.cells g.T.Index.NodeIndex.MAX c.allocator.inside in
    let known = known_sound f c.allocator.invariant (shown f) refl in
    sym (largest_none (shown f) known.0 c.in-None.ensures.largest) ∙ ap (λ (v : View). largest (free_sizes v.blocks)) c.allocator.view_is

pub returns-in-Some-clause-region : goal.returns-in-Some-clause-region
returns-in-Some-clause-region g c =
    let f : Fields = fields_of g.T.Tables.cells g.T.Index.NodeIndex.MAX c.allocator.inside in
    let known = known_sound f c.allocator.invariant (shown f) refl in
    let l = largest_some (shown f) known.0 c.in-Some.class c.in-Some.ensures.largest in
    omega (arith, l.0, l.1, adds_up (shown f) known.0, known.0.fits, c.float_to_uint.ensures.is, ap (λ (v : View). largest (free_sizes v.blocks)) c.allocator.view_is)
