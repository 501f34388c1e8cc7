use Rattle.std.proofs.Common.{◌≡◌, vec_capacity, max}
use Rattle.offset_guarded.specs.Numbers.{numbers}
use Rattle.offset_guarded.proofs.serials.Serials.of_bytes.Given as goal

-- the serials so far
abbrev pub invariant-loop-place : goal.invariant-loop-place
invariant-loop-place l = record {
  cells : l.cells.items ≡ numbers l.place l.bytes;
  room : vec_capacity l.cells ≡ max l.count l.names;
}
