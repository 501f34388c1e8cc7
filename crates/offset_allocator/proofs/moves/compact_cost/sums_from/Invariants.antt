use Rattle.offset_allocator.proofs.Common.{◌≡◌, ◌≢◌, ◌↔◌, ◌⊎◌, ◌+◌, ◌-◌, ◌*◌, ◌≤◌, ℕ, List, [], ◌++◌, None, Some, true, length, Block, IsSpace, blocks, first_or, count_used, used_units}
use Rattle.offset_allocator.specs.Moving.BySteps.{given_up, used_up}
use Rattle.offset_allocator.proofs.moves.compact_cost.sums_from.Given as goal

-- the blocks of `passed` are in the sums, those of `left` are not
abbrev pub invariant-loop-at : goal.invariant-loop-at
invariant-loop-at g l = record {
  grows : l.initial.count ≤ l.count;
  at : (last spare : ℕ) (front run : List Block) → IsSpace (g.T.Tables.cells l.tables).chain last spare
      → blocks (g.T.Tables.cells l.tables).chain last ≡ front ++ run → first_or None run ≡ Some l.first
      → (passed left : List Block) × (run ≡ passed ++ left) × (first_or None left ≡ l.at)
      × (l.sums.units + used_units left ≡ used_units run) × (l.sums.ranges + count_used left ≡ count_used run)
      × (l.sums.given + given_up l.step left ≡ given_up l.step run)
      × (((l.sums.empties ≡ true) ⊎ (used_up l.step left ≢ [])) ↔ (used_up l.step run ≢ []))
      × (l.count ≤ l.initial.count + 3 * length passed);
}

abbrev pub decreases-loop-at : goal.decreases-loop-at
decreases-loop-at g l = (l.initial.count + 3 * length (g.T.Tables.cells l.tables).chain.nodes) - l.count
