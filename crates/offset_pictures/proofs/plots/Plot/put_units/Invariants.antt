use Rattle.std.proofs.Common.{◌≡◌, ◌+◌, ◌/◌, ◌++◌, min}
use Rattle.std.specs.Prelude.{flat_map, string_bytes}
use Rattle.offset_pictures.specs.Ticks.{first_multiples, units_tick}
use Rattle.offset_pictures.proofs.plots.Plot.put_units.Given as goal

-- the lines so far
abbrev pub invariant-loop-k : goal.invariant-loop-k
invariant-loop-k l = string_bytes l.out ≡ string_bytes l.initial.out ++ flat_map (units_tick l.self) (first_multiples l.step (min l.k (l.self.units.most / l.step + 1)))
