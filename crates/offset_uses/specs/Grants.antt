-- What a caller holds after a grant, and when more units are needed.
use Rattle.std.specs.Prelude.{◌≡◌, ◌⊎◌, ℕ, Some}
use Rattle.offset_allocator.specs.declared.reports.Refusal.TheVariants.{Space, TooLarge}
use Rattle.offset_allocator.specs.View.{View, Handle}
use Rattle.offset_allocator.specs.Ranges.{Range, range_of}
use Rattle.offset_allocator.specs.Requests.{IsWhy}

-- n units from the offset of a handle on
abbrev pub range_from : Handle → ℕ → Range
range_from h n = record { offset = h.offset; size = n }

-- a handle is live, and its range has n units, from the handle's offset on
abbrev pub IsGrantOf : ℕ → Handle → View → Type 0
IsGrantOf n h v = range_of h.name v ≡ Some (range_from h n)

-- a request for n units is refused since the space is too small, or too few units are free
abbrev pub HasTooFewUnits : ℕ → View → Type 0
HasTooFewUnits n v = IsWhy 1 n v Space ⊎ IsWhy 1 n v TooLarge
