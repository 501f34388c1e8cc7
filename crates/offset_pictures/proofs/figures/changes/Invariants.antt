use Rattle.std.proofs.Common.{◌≡◌, ℕ, ◌<◌, All, length, take, get_or}
use Rattle.offset_pictures.specs.declared.figures.Count.{Count}
use Rattle.offset_pictures.specs.Counting.{IsChange}
use Rattle.offset_pictures.proofs.figures.changes.Given as goal

-- the changes by the lives so far
abbrev pub invariant-loop-life : goal.invariant-loop-life
invariant-loop-life l = record {
  len : length l.changes.items ≡ l.calls;
  changes : (c : ℕ) (d : Count) → c < l.calls → IsChange c (take l.life-index l.lives) (get_or l.changes.items c d);
  sizes : All (λ x. x.size < 4294967296) (take l.life-index l.lives);
}
