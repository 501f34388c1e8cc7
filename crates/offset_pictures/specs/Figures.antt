-- What the legend of a picture counts, and what its plots are scaled by.
use Rattle.std.specs.Prelude.{◌≡◌, ℕ, zero, suc, ◌+◌, ◌-◌, ◌<◌, ◌≤◌, Bool, ◌&&◌, List, length, map, fold, count_by, sum_by, slice_index, min, max, nat_eq, nat_lt, if◌then◌else◌}
use Rattle.offset_pictures.specs.declared.living.Life.{Life}
use Rattle.offset_pictures.specs.declared.course.Course.{Course}
use Rattle.offset_pictures.specs.declared.figures.Figures.{Figures}
use Rattle.offset_pictures.specs.Lives.{is_on, life_view}

-- a number as the picture has it: at most the largest of 32 bits
abbrev pub counted : ℕ → ℕ
counted n = min n 4294967295

-- the end of the range of a life
abbrev pub end_of : Life → ℕ
end_of l = counted (l.offset + l.size)

-- the largest of these numbers, or 0
abbrev pub largest : List ℕ → ℕ
largest ns = fold max 0 ns

-- how many grants are live after s calls, and how many units
abbrev pub live_after : Course → ℕ → ℕ
live_after c s = counted (count_by (λ l. is_on s (life_view l)) c.lives.items)

abbrev pub used_after : Course → ℕ → ℕ
used_after c s = counted (sum_by (λ l. if is_on s (life_view l) then l.size else 0) c.lives.items)

-- the units of the space after s calls, and the two numbers of its report
abbrev pub size_after : Course → ℕ → ℕ
size_after c s = slice_index c.sizes.items s

abbrev pub region_after : Course → ℕ → ℕ
region_after c s = slice_index (map (λ r. r.largest_free_region) c.reports.items) s

abbrev pub free_after : Course → ℕ → ℕ
free_after c s = slice_index (map (λ r. r.total_free_space) c.reports.items) s

-- whether units are free after s calls, and none is reported
abbrev pub is_full_after : Course → ℕ → Bool
is_full_after c s = nat_lt (used_after c s) (size_after c s) && nat_eq (free_after c s) 0

-- the first of the states 0 .. n - 1 with the largest value, and with the smallest; where there are none, it is state 0
abbrev pub IsFirstLargest : (ℕ → ℕ) → ℕ → ℕ → Type 0
IsFirstLargest value n s = (s < max n 1) × ((k : ℕ) → k < n → value k ≤ value s) × ((k : ℕ) → k < s → value k < value s)

abbrev pub IsFirstSmallest : (ℕ → ℕ) → ℕ → ℕ → Type 0
IsFirstSmallest value n s = (s < max n 1) × ((k : ℕ) → k < n → value s ≤ value k) × ((k : ℕ) → k < s → value s < value k)

-- how many of the states 0 .. n - 1 pass a test
abbrev pub count_below : (ℕ → Bool) → ℕ → ℕ
count_below test zero = 0
count_below test (suc n) = count_below test n + (if test n then 1 else 0)

-- the states that have a size and a report
abbrev pub states : Course → ℕ
states c = min (length c.sizes.items) (length c.reports.items)

-- the numbers that need no order of calls
pub record AreTotals (f : Figures) (c : Course) : Type 0 where
  pub calls : f.calls ≡ counted (length c.sizes.items - 1)
  pub grants : f.grants ≡ counted c.grants
  pub refusals : f.refusals ≡ counted (length c.refused.items)
  pub first_size : f.first_size ≡ size_after c 0
  pub highest : f.highest ≡ largest (map end_of c.lives.items)

-- the numbers of a course: each extreme is that of the first state that has it, and the size then, or the report, is of
-- that state; of a course without states, it is that of state 0, in which nothing is live
pub record AreFigures (f : Figures) (c : Course) : Type 0 where
  pub totals : AreTotals f c
  pub live : (s : ℕ) × IsFirstLargest (live_after c) (states c) s × (f.most_live ≡ live_after c s)
  pub used : (s : ℕ) × IsFirstLargest (used_after c) (states c) s × (f.most_used ≡ used_after c s) × (f.size_then ≡ size_after c s)
  pub size : (s : ℕ) × IsFirstLargest (size_after c) (states c) s × (f.largest_size ≡ size_after c s)
  pub worst : (s : ℕ) × IsFirstSmallest (region_after c) (states c) s × (f.worst ≡ counted s) × (f.worst_region ≡ region_after c s) × (f.worst_free ≡ free_after c s)
  pub full : f.full_states ≡ counted (count_below (is_full_after c) (states c))
