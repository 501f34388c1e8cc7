-- The reports of an allocator.
use Rattle.std.specs.Prelude.{◌≡◌, ℕ, ◌%◌, ◌^◌, ◌<◌, slice_index_or}
use Rattle.offset_allocator.specs.declared.reports.StorageReport.{StorageReport}
use Rattle.offset_allocator.specs.declared.reports.StorageReportFull.{StorageReportFull}
use Rattle.offset_allocator.specs.declared.reports.StorageReportFullRegion.{StorageReportFullRegion}
use Rattle.offset_allocator.specs.Classes.{value}
use Rattle.offset_allocator.specs.Reporting.FreeSizes.{count_of}
use Rattle.offset_allocator.specs.View.{View, free_sizes, reported_largest, reported_free}

-- the short report of a view: its free units, and its largest free region
abbrev pub IsReport : StorageReport → View → Type 0
IsReport r v = (r.total_free_space ≡ reported_free v) × (r.largest_free_region ≡ reported_largest v)

-- the full report of a view: for each class its value, modulo 2 ^ 32, and the number of its free blocks
abbrev pub IsFullReport : StorageReportFull → View → Type 0
IsFullReport r v = (c : ℕ) (d : StorageReportFullRegion) → c < 256 → slice_index_or r.free_regions c d ≡ record { size = value c % 2 ^ 32; count = count_of c (free_sizes v.blocks) }
