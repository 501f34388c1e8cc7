use Rattle.offset_allocator.proofs.Common.{◌≡◌, ℕ, ◌+◌, ◌*◌, ◌%◌, ◌^◌, ◌<◌, ◌≤◌, length, slice_index_or, value, bin_at, bins_in}
use Rattle.offset_allocator.proofs.Reporting.Counting.{names_below}
use Rattle.offset_allocator.specs.declared.reports.StorageReportFullRegion.{StorageReportFullRegion}
use Rattle.offset_allocator.proofs.reports.storage_report_full_counted.Given as goal

abbrev pub invariant-loop-group : goal.invariant-loop-group
invariant-loop-group g l = record {
  wide : length l.report.free_regions ≡ 256;
  filled : (k : ℕ) (d : StorageReportFullRegion) → k < 4 * l.group
      → slice_index_or l.report.free_regions k d ≡ record {
        size = value k % 2 ^ 32;
        count = length (bin_at (bins_in g.T.Index.NodeIndex.MAX (g.T.Tables.cells l.allocator-inside.store.tables).bins) k);
      };
  grows : l.fn.count + 4 * l.group ≤ l.count;
  accesses : l.count ≤ l.fn.count + 4 * l.group + names_below (4 * l.group) (bins_in g.T.Index.NodeIndex.MAX (g.T.Tables.cells l.allocator-inside.store.tables).bins);
}
