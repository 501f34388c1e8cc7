-- The texts of what is wrong with the bytes of a state with tickets.
use Rattle.std.specs.Prelude.{codes, ℕ, List}
use Rattle.offset_allocator.specs.Saving.Faults as allocator
use Rattle.offset_guarded.specs.declared.state.StateFaultKind.{StateFaultKind}
use Rattle.offset_guarded.specs.declared.state.StateFaultKind.TheVariants.{Length, Form, Realm, Step, Checksum, Serial, Allocator}

abbrev pub fault_words : StateFaultKind → List ℕ
fault_words Length = codes "fewer bytes than the counts say"
fault_words Form = codes "no state with tickets, or one of another version"
fault_words Realm = codes "a realm of more than 32 bits"
fault_words Step = codes "a step of more than 32 bits"
fault_words Checksum = codes "a checksum that is not that of the tickets"
fault_words Serial = codes "a serial that was not given, or none for a live range"
fault_words (Allocator kind) = allocator.fault_words kind
