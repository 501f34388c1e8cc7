use Rattle.offset_allocator.proofs.Common.{◌≡◌, ◌++◌, ◌+◌, ◌-◌, ◌*◌, List, length, Block}
use Rattle.offset_allocator.specs.Moving.Spans.{HaveSteps, IsLeft, IsSpan, IsWay}
use Rattle.offset_allocator.proofs.moves.runs.shorten.Given as goal

-- the blocks that are left, and those that are gone
abbrev pub invariant-loop-sums : goal.invariant-loop-sums
invariant-loop-sums g l = record {
  at : (bs rest : List Block) → IsWay (g.T.Tables.cells l.tables).chain l.back (bs ++ rest) → IsSpan l.step l.initial.span bs → HaveSteps l.step l.need l.few bs
      → (t : IsLeft l.step l.need l.few l.span bs) × (l.count ≡ l.initial.count + 3 * length t.gone);
}

abbrev pub decreases-loop-sums : goal.decreases-loop-sums
decreases-loop-sums g l = (l.initial.count + 3 * length (g.T.Tables.cells l.tables).chain.nodes) - l.count
