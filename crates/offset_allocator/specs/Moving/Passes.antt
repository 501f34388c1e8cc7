-- A pass of compactions within budgets, one call after the other.
use Rattle.std.specs.Prelude.{◌≡◌, ℕ, List, map, Some, None, if◌then◌else◌}
use Rattle.offset_allocator.specs.declared.moves.over_frames.Progress.{Progress}
use Rattle.offset_allocator.specs.Moving.Budget.{SlidesWithin, first_from}
use Rattle.offset_allocator.specs.Relations.{SameState}
use Rattle.offset_allocator.specs.View.{View, Block, IsWellFormed, free_block}

-- blocks, without the names of the free ones
abbrev pub nameless : List Block → List Block
nameless bs = map (λ (b : Block). if b.used then b else free_block 0 b.size) bs

-- a pass by steps of s units from an offset on: each call goes on from where the one before it came, with any budget, and
-- the last one comes to the end, or finds nothing to do
pub data IsPass (s : ℕ) : ℕ → View → View → Type 0 where
  nothing : {from : ℕ} {v w : View} → first_from s from 0 v.blocks ≡ None → SameState v w → IsPass s from v w
  ends : {from u r : ℕ} {v w : View} {p : Progress} → SlidesWithin s from u r v w p → p.next ≡ None → IsPass s from v w
  goes_on : {from u r o : ℕ} {v w x : View} {p : Progress} → SlidesWithin s from u r v w p → p.next ≡ Some o → IsWellFormed w → IsPass s o w x → IsPass s from v x
