use Rattle.offset_allocator.proofs.Common.{◌≡◌, drop}
use Rattle.offset_allocator.specs.Saving.State.{checksum_from}
use Rattle.offset_allocator.proofs.states.state.checksum.Given as goal

abbrev pub invariant-loop-word : goal.invariant-loop-word
invariant-loop-word l = checksum_from l.sum (drop l.word-index l.words) ≡ checksum_from 0 l.words
