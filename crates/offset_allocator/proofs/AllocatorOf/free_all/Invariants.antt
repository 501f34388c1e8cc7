use Rattle.offset_allocator.proofs.Common.{◌≤◌, ◌+◌, ◌*◌, View, count_used}
use Rattle.offset_allocator.specs.Relations.{FreesLast}
use Rattle.offset_allocator.proofs.AllocatorOf.free_all.Given as goal

abbrev pub invariant-loop-name : goal.invariant-loop-name
invariant-loop-name g l = record {
  freed : (w : View) → FreesLast (count_used l.self.blocks) l.self w → FreesLast (count_used l.initial.self.blocks) l.initial.self w;
  least : l.initial.self.accesses ≤ l.self.accesses;
  most : l.self.accesses + 38 * count_used l.self.blocks ≤ l.initial.self.accesses + 38 * count_used l.initial.self.blocks;
}

abbrev pub decreases-loop-name : goal.decreases-loop-name
decreases-loop-name g l = count_used l.self.blocks
