-- The ends of grants, as the program keeps them.
use Rattle.std.specs.Prelude.{ℕ, length, min, slice_index_or}
use Rattle.offset_pictures.specs.declared.living.Ends.{Ends}

-- the number of entries: grant numbers are below it
abbrev pub grants_in : Ends → ℕ
grants_in e = length e.released.items

-- the call that ends grant k
abbrev pub end_in : Ends → ℕ → ℕ
end_in e k = min (slice_index_or e.released.items k 0) e.reset
