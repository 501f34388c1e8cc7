use Rattle.offset_allocator.proofs.Common.{◌≡◌, ◌*◌, length, take}
use Rattle.offset_allocator.specs.Saving.State.{words_in}
use Rattle.offset_allocator.proofs.states.save.bytes_of.Given as goal

abbrev pub invariant-loop-word : goal.invariant-loop-word
invariant-loop-word l = record {
  words : words_in l.bytes.items ≡ take l.word-index l.words;
  long : length l.bytes.items ≡ 4 * l.word-index;
}
