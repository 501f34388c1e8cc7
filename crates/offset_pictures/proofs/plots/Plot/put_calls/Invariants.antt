use Rattle.std.proofs.Common.{◌≡◌, ◌+◌, ◌-◌, ◌/◌, ◌++◌, min}
use Rattle.std.specs.Prelude.{flat_map, string_bytes}
use Rattle.offset_pictures.specs.Ticks.{first_multiples, calls_tick}
use Rattle.offset_pictures.proofs.plots.Plot.put_calls.Given as goal

-- the marks so far
abbrev pub invariant-loop-k : goal.invariant-loop-k
invariant-loop-k l = string_bytes l.out ≡ string_bytes l.initial.out ++ flat_map (calls_tick l.self) (first_multiples l.step (min l.k ((l.self.calls.most - 1) / l.step + 1)))
