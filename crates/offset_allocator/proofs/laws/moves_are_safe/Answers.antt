use Rattle.offset_allocator.proofs.Common.{◌≤◌, ℕ, ◌+◌, ◌++◌, List, ap, arith, subst, units, AreBetween, AreSafe, Block}
use Rattle.offset_allocator.proofs.{Moving.OneStep.moves_one, Moving.Stepped.between_by, Moving.Stepped.safe_by, Tallies.units-append}
use Rattle.offset_allocator.specs.Moving.Compacting.{moves}
use Rattle.offset_allocator.proofs.laws.moves_are_safe.Goals as goal

safe : (i : ℕ) (bs : List Block) → AreSafe (moves i i bs)
safe i bs = subst AreSafe (moves_one i i bs) (safe_by 1 i i bs (omega arith))

between : (i end : ℕ) (bs : List Block) → i + units bs ≤ end → AreBetween i end (moves i i bs)
between i end bs e = subst (AreBetween i end) (moves_one i i bs) (between_by 1 i end i i bs (omega arith) (omega arith) e)

pub returns-clause-compact : goal.returns-clause-compact
returns-clause-compact c bs = safe 0 bs

pub returns-clause-within : goal.returns-clause-within
returns-clause-within c v well = between 0 v.size v.blocks (omega (arith, well.whole))

pub returns-clause-make_room : goal.returns-clause-make_room
returns-clause-make_room c front run = safe (units front) run

pub returns-clause-make_room_within : goal.returns-clause-make_room_within
returns-clause-make_room_within c v front run back well e = (
  between (units front) (units (front ++ run)) run (omega (arith, units-append front run)),
  omega (arith, well.whole, ap units e, units-append front (run ++ back), units-append front run, units-append run back),
)
