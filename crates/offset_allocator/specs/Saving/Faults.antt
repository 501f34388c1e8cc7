-- The texts of what is wrong with the bytes of a state.
use Rattle.std.specs.Prelude.{codes, ℕ, List}
use Rattle.offset_allocator.specs.declared.states.state.StateFaultKind.{StateFaultKind}
use Rattle.offset_allocator.specs.declared.states.state.StateFaultKind.TheVariants.{Length, Form, Limit, Counts, Checksum, Block, Unused, Free, Neighbours}

abbrev pub fault_words : StateFaultKind → List ℕ
fault_words Length = codes "another number of bytes than the counts say"
fault_words Form = codes "no state, or one of another version"
fault_words Limit = codes "a node limit that is not admitted"
fault_words Counts = codes "counts that the node limit does not admit"
fault_words Checksum = codes "a checksum that is not that of the bytes"
fault_words Block = codes "a block with a wrong name or size"
fault_words Unused = codes "an unused name that is wrong"
fault_words Free = codes "a name that is not that of one block more"
fault_words Neighbours = codes "two free blocks side by side"
