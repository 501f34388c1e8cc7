use Rattle.offset_allocator.proofs.Common.{◌≡◌, ◌-◌, ◌≤◌, None, Some, take, drop, sum, last_or, starts_free, free_sizes, count_used, AreCoalesced, Block, List}
use Rattle.offset_allocator.specs.Chain.{blocks as blocks_in}
use Rattle.offset_allocator.proofs.states.building.look_over.Given as goal

-- what the blocks have that were passed
abbrev pub invariant-loop-i : goal.invariant-loop-i
invariant-loop-i g l =
    let bs : List Block = blocks_in (g.T.Tables.cells l.tables).chain l.fn.last in
    record {
      at : 1 ≤ l.blocks - l.i → last_or None (take (l.blocks - l.i) bs) ≡ Some l.name;
      apart : AreCoalesced (drop (l.blocks - l.i) bs);
      first : l.is_free_after ≡ starts_free (drop (l.blocks - l.i) bs);
      free_units : l.found.free_units ≡ sum (free_sizes (drop (l.blocks - l.i) bs));
      used : l.found.used ≡ count_used (drop (l.blocks - l.i) bs);
    }
