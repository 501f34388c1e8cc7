-- All heaps as JSON.
use Rattle.std.specs.Prelude.{◌≡◌, ℕ, zero, suc, Bool, true, false, List, ◌++◌, Option, Some, None, codes, length}
use Rattle.std.specs.Fmt.{decimal}
use Rattle.offset_allocator.specs.Reporting.Dumping.{comma, space_json}
use Rattle.offset_allocator.specs.Reporting.Statistics.{AreStatistics}
use Rattle.offset_allocator.specs.View.{View}
use Rattle.offset_allocator.specs.declared.reports.statistics.Statistics.{Statistics}
use Rattle.offset_guarded.specs.Guard.{Guard}
use Rattle.offset_heaps.specs.declared.totals.Totals.{Totals}
use Rattle.offset_heaps.specs.declared.limits.Limits.{Limits}
use Rattle.offset_heaps.specs.Heaps.{AreTotals, slot}

-- what is live and what is free, and where the heaps begin
abbrev pub totals_json : Totals → List ℕ
totals_json t =
    codes "{\"totals\":{\"heaps\":" ++ (decimal t.heaps ++ (codes ",\"units\":" ++ (decimal t.units ++ (codes ",\"live_units\":" ++ (decimal t.live_units
    ++ (codes ",\"free_units\":" ++ (decimal t.free_units ++ (codes ",\"largest_free_region\":" ++ (decimal t.largest_free_region ++ codes "},\"heaps\":[")))))))))

-- a heap, with these statistics
abbrev pub heap_json : ℕ → Statistics → View → List ℕ
heap_json number s v = codes "{\"number\":" ++ (decimal number ++ (codes ",\"space\":" ++ (space_json s v ++ codes "}")))

-- the heap of a number is added to a text, with a comma before it unless it is the first; and whether none was added yet
abbrev pub AddsHeap : ℕ → Option Guard → Bool → List ℕ → Bool → List ℕ → Type 0
AddsHeap number None first before none text = (none ≡ first) × (text ≡ before)
AddsHeap number (Some g) first before none text = (none ≡ false)
    × ((s : Statistics) × AreStatistics s g.space × (text ≡ before ++ (comma first ++ heap_json number s g.space)))

-- the heaps of the first n numbers are added to a text, in order
abbrev pub AddsHeaps : ℕ → List (Option Guard) → List ℕ → Bool → List ℕ → Type 0
AddsHeaps zero slots start none text = (none ≡ true) × (text ≡ start)
AddsHeaps (suc n) slots start none text = (first : Bool) × (before : List ℕ) × AddsHeaps n slots start first before
    × AddsHeap n (slot n slots) first before none text

-- the text of all heaps
pub record IsJson (limits : Limits) (slots : List (Option Guard)) (text : List ℕ) : Type 0 where
  pub totals : Totals
  pub are : AreTotals totals limits slots
  pub none : Bool
  pub body : List ℕ
  pub heaps : AddsHeaps (length slots) slots (totals_json totals) none body
  pub whole : text ≡ body ++ codes "]}"
