-- A granted request has as many free units.
use Rattle.std.proofs.Common.{ℕ, ◌≤◌}
use Rattle.std.specs.Prelude.{sum}
use Rattle.offset_allocator.specs.{View.View, View.free_sizes, View.IsWellFormed, Requests.CanGrant}
use Rattle.offset_allocator.proofs.Reporting.Counting.{class_within}

pub enough : (v : View) (n : ℕ) → IsWellFormed v → CanGrant 1 n v → n ≤ sum (free_sizes v.blocks)
enough v n w g = class_within v w n g.1.0 g.1.1 g.1.2
