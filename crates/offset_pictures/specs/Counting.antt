-- How the numbers in a picture are counted, state by state.
use Rattle.std.specs.Prelude.{◌≡◌, ℕ, ◌+◌, ◌-◌, ◌^◌, ◌&&◌, List, count_by, sum_by, nat_eq, nat_lt, min, max, if◌then◌else◌}
use Rattle.offset_allocator.specs.declared.reports.StorageReport.{StorageReport}
use Rattle.offset_pictures.specs.declared.living.Life.{Life}
use Rattle.offset_pictures.specs.declared.course.Course.{Course}
use Rattle.offset_pictures.specs.declared.figures.Count.{Count}
use Rattle.offset_pictures.specs.declared.figures.Figures.{Figures}
use Rattle.offset_pictures.specs.Figures.{AreTotals, counted, size_after, region_after, free_after}

-- a count with one more life, of `units` units
abbrev pub raised : Count → ℕ → Count
raised c units = record { lives = c.lives + 1; units = c.units + units }

-- a count with one life less, of `units` units
abbrev pub lowered : Count → ℕ → Count
lowered c units = record { lives = c.lives - 1; units = c.units - units }

-- how many of these lives a call begins, less those that it ends, and their units: counted from 2 to the power of 63, and of 127
pub record IsChange (call : ℕ) (ls : List Life) (c : Count) : Type 0 where
  pub lives : c.lives + count_by (λ l. nat_eq l.last call) ls ≡ 2 ^ 63 + count_by (λ l. nat_eq l.first call) ls
  pub units : c.units + sum_by (λ l. if nat_eq l.last call then l.size else 0) ls ≡ 2 ^ 127 + sum_by (λ l. if nat_eq l.first call then l.size else 0) ls

-- the numbers before any state is seen
pub record StartsAs (f : Figures) (c : Course) : Type 0 where
  pub totals : AreTotals f c
  pub most_live : f.most_live ≡ 0
  pub most_used : f.most_used ≡ 0
  pub size_then : f.size_then ≡ size_after c 0
  pub largest_size : f.largest_size ≡ size_after c 0
  pub worst : f.worst ≡ 0
  pub worst_region : f.worst_region ≡ region_after c 0
  pub worst_free : f.worst_free ≡ free_after c 0
  pub full : f.full_states ≡ 0

-- the numbers after one more state is seen
pub record Sees (state live used size : ℕ) (report : StorageReport) (old new : Figures) : Type 0 where
  pub calls : new.calls ≡ old.calls
  pub grants : new.grants ≡ old.grants
  pub refusals : new.refusals ≡ old.refusals
  pub first_size : new.first_size ≡ old.first_size
  pub highest : new.highest ≡ old.highest
  pub most_live : new.most_live ≡ max live old.most_live
  pub most_used : new.most_used ≡ max used old.most_used
  pub size_then : new.size_then ≡ (if nat_lt old.most_used used then size else old.size_then)
  pub largest_size : new.largest_size ≡ max size old.largest_size
  pub worst : new.worst ≡ (if nat_lt report.largest_free_region old.worst_region then state else old.worst)
  pub worst_region : new.worst_region ≡ min report.largest_free_region old.worst_region
  pub worst_free : new.worst_free ≡ (if nat_lt report.largest_free_region old.worst_region then report.total_free_space else old.worst_free)
  pub full : new.full_states ≡ (if nat_lt used size && nat_eq report.total_free_space 0 then counted (old.full_states + 1) else old.full_states)
