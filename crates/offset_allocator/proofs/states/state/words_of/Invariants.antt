use Rattle.offset_allocator.proofs.Common.{◌≡◌, take}
use Rattle.offset_allocator.specs.Saving.State.{words_in}
use Rattle.offset_allocator.proofs.states.state.words_of.Given as goal

abbrev pub invariant-loop-i : goal.invariant-loop-i
invariant-loop-i l = l.words.items ≡ take l.i (words_in l.bytes)
