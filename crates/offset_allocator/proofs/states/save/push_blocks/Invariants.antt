use Rattle.offset_allocator.proofs.Common.{◌≡◌, ◌-◌, ◌≤◌, ◌++◌, None, Some, take, drop, last_or, Block, List}
use Rattle.offset_allocator.specs.Chain.{blocks as blocks_in}
use Rattle.offset_allocator.specs.Saving.State.{block_words}
use Rattle.offset_allocator.proofs.states.save.push_blocks.Given as goal

abbrev pub invariant-loop-i : goal.invariant-loop-i
invariant-loop-i g l =
    let bs : List Block = blocks_in (g.T.Tables.cells l.tables).chain l.fn.last in
    record {
      at : 1 ≤ l.blocks - l.i → last_or None (take (l.blocks - l.i) bs) ≡ Some l.name;
      items : l.words.items ≡ l.fn.words.items ++ block_words (drop (l.blocks - l.i) bs);
    }
