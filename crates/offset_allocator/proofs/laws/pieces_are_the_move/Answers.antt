use Rattle.std.specs.Prelude.{min, ◌-◌}
use Rattle.offset_allocator.proofs.{Common.arith, Moving.InPieces.together, Moving.InPieces.apart}
use Rattle.offset_allocator.proofs.laws.pieces_are_the_move.Goals as goal

pub returns-clause-together : goal.returns-clause-together
returns-clause-together c most from to n i held some down = together n (min most (from - to)) from to n i held (omega (arith, some, down)) down (omega arith)

pub returns-clause-apart : goal.returns-clause-apart
returns-clause-apart c most from to n some down = apart n most (min most (from - to)) from to n (omega (arith, some, down)) (omega arith) (omega (arith, down))
