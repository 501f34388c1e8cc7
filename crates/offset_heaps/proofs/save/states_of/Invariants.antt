use Rattle.offset_heaps.proofs.States.{ArePushed}
use Rattle.offset_heaps.proofs.save.states_of.Given as goal

-- the states so far
abbrev pub invariant-loop-number : goal.invariant-loop-number
invariant-loop-number g l = ArePushed l.number l.slots l.places.items l.states.items
