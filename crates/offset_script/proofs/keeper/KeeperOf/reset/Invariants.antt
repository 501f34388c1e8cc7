use Rattle.offset_script.proofs.Common.{◌≡◌, ◌<◌, ℕ, None, slice_index_or, length}
use Rattle.offset_script.proofs.keeper.KeeperOf.reset.Given as goal

-- the handles so far are gone
abbrev pub invariant-loop-i : goal.invariant-loop-i
invariant-loop-i g l = record {
  space : l.self.space ≡ l.initial.self.space;
  length : length l.self.handles.items ≡ length l.fn.self.handles.items;
  swept : (k : ℕ) → k < l.i → slice_index_or l.self.handles.items k None ≡ None;
}
