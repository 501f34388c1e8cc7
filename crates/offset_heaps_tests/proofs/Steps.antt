-- A heap is changed by less than what is known.
use Rattle.std.proofs.Common.{ℕ}
use Rattle.offset_guarded.specs.Guard.{Guard}
use Rattle.offset_heaps.specs.Changing.{Alters}
use Rattle.offset_heaps.specs.Heaps.{Heaps}

pub part_of : (k : ℕ) (P Q : Guard → Guard → Type 0) (hs ks : Heaps) → ((g h : Guard) → P g h → Q g h) → Alters k P hs ks → Alters k Q hs ks
part_of k P Q hs ks weaker a = record { before = a.before; after = a.after; heap = a.heap; by = weaker a.before a.after a.by; heaps = a.heaps }
