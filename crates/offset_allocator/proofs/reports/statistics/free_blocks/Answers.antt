use Rattle.offset_allocator.proofs.{Common.ap, Common.arith, Common.sym, Common.◌∙◌, Common.◌≡◌, Common.View, Common.free_sizes, Sound.fields_of, Sound.known_sound, Always.split_count}
use Rattle.offset_allocator.proofs.Reporting.Counting.{sizes_all, sizes_none, sizes_next, sizes_below}
use Rattle.offset_allocator.specs.declared.reports.StorageReportFullRegion.{StorageReportFullRegion}
use Rattle.offset_allocator.proofs.reports.statistics.free_blocks.Goals as goal

pub loop-class-init : goal.loop-class-init
loop-class-init g c = sym (sizes_none (free_sizes c.args.allocator.now.blocks))

pub overflow_add-blocks : goal.overflow_add-blocks
overflow_add-blocks g c =
    let v = c.args.allocator.now in
    let known = known_sound (fields_of g.T.Tables.cells g.T.Index.NodeIndex.MAX c.allocator.inside) c.allocator.invariant v c.allocator.view_is in
    let row = c.storage_report_full_counted-report.ensures.report c.loop-class.class (record { size = 0; count = 0 }) (omega arith) in
    let next = sizes_next c.loop-class.class c.loop-class.blocks _ (free_sizes v.blocks) c.loop-class.invariant (ap (λ (r : StorageReportFullRegion). r.count) row) in
    omega (arith, next.1, split_count v.blocks, known.0.room, ap (λ (u : View). u.max_allocs) c.allocator.view_is, c.allocator.invariant.memory, c.shape.ensures.limit, c.shape.ensures.word)

pub loop-class-preserved : goal.loop-class-preserved
loop-class-preserved g c =
    let v = c.args.allocator.now in
    let row = c.storage_report_full_counted-report.ensures.report c.loop-class.class (record { size = 0; count = 0 }) (omega arith) in
    (sizes_next c.loop-class.class c.loop-class.blocks _ (free_sizes v.blocks) c.loop-class.invariant (ap (λ (r : StorageReportFullRegion). r.count) row)).0

pub returns-clause-blocks : goal.returns-clause-blocks
returns-clause-blocks g c =
    let ns = free_sizes c.args.allocator.now.blocks in
    let all : c.loop-class.class ≡ 256 = omega arith in
    c.loop-class.invariant ∙ ap (λ i. sizes_below i ns) all ∙ sizes_all ns
