use Rattle.offset_allocator.proofs.Common.{◌≡◌, ◌-◌, ◌<◌, ◌≤◌, [], ℕ, List, length, drop, Block, IsChain, count_named, times}
use Rattle.offset_allocator.specs.{Saving.Building.AreOrdered, Saving.State.filed, Saving.State.freed, Store.AreBinned, Store.bins_of}
use Rattle.offset_allocator.proofs.states.building.free_names.Given as goal

-- the names from here on are freed
abbrev pub invariant-loop-i : goal.invariant-loop-i
invariant-loop-i g l = record {
  chain : (m : ℕ) (bs : List Block) → freed [] bs ≡ bs → IsChain (g.T.Tables.cells l.fn.store.tables).chain m l.fn.store.last l.fn.store.spare_count bs
      → IsChain (g.T.Tables.cells l.store.tables).chain m l.store.last l.store.spare_count (freed (drop (length l.words - l.i) l.words) bs)
      × (bins_of g.T.Tables.cells g.T.Index.NodeIndex.MAX l.store ≡ filed bs (drop (length l.words - l.i) l.words))
      × ((x : ℕ) → times x (drop (length l.words - l.i) l.words) ≤ count_named x bs)
      × AreOrdered bs l.most (drop (length l.words - l.i) l.words)
      × ((n : ℕ) → n < 256 → AreOrdered bs n (drop (length l.words - l.i) l.words) → n ≤ l.most);
  binned : AreBinned g.T.Tables.cells g.T.Index.NodeIndex.MAX l.store;
  nodes : length (g.T.Tables.cells l.store.tables).chain.nodes ≡ length (g.T.Tables.cells l.fn.store.tables).chain.nodes;
  last : l.store.last ≡ l.fn.store.last;
  count : l.store.spare_count ≡ l.fn.store.spare_count;
  spare : (g.T.Tables.cells l.store.tables).chain.spare ≡ (g.T.Tables.cells l.fn.store.tables).chain.spare;
}
