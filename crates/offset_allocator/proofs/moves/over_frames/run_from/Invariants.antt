use Rattle.offset_allocator.proofs.Common.{◌≡◌, ◌+◌, ◌-◌, ◌*◌, ◌≤◌, ℕ, List, ◌++◌, ◌∷◌, None, Some, false, length, Block, IsSpace, blocks, ends_used, first_or, last_or, count_used, used_units}
use Rattle.offset_allocator.specs.Moving.Budget.{IsWithin}
use Rattle.offset_allocator.proofs.Moving.Budgeted.{IsFollowed}
use Rattle.offset_allocator.proofs.moves.over_frames.run_from.Given as goal

-- the blocks of `rest` were passed, those in `left` are left
abbrev pub invariant-loop-at : goal.invariant-loop-at
invariant-loop-at g l = record {
  grows : l.initial.count ≤ l.count;
  at : (last spare : ℕ) (front : List Block) (b : Block) (after : List Block) → IsSpace (g.T.Tables.cells l.tables).chain last spare
      → blocks (g.T.Tables.cells l.tables).chain last ≡ front ++ b ∷ after → b.name ≡ l.first → b.used ≡ false
      → (rest left : List Block) × (after ≡ rest ++ left) × (first_or None left ≡ l.at) × IsWithin l.most_units l.most_ranges rest
      × (last_or None (b ∷ rest) ≡ Some l.reach.end) × (ends_used (b ∷ rest) ≡ l.reach.end_used)
      × IsFollowed l.step l.admits l.reach.follows (b ∷ rest)
      × (l.reach.progress ≡ record { units = used_units rest; ranges = count_used rest; next = None })
      × (l.count ≤ l.initial.count + 3 * length rest);
}

abbrev pub decreases-loop-at : goal.decreases-loop-at
decreases-loop-at g l = (l.initial.count + 3 * length (g.T.Tables.cells l.tables).chain.nodes) - l.count
