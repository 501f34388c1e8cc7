-- Why a request is refused.
use Rattle.offset_allocator.proofs.{Sound.Fields, Sound.AreSound, Sound.shown, Reporting.Counting.class_within, Taken.HasFit, Joints.free_most, Tallies.free_sum}
use Rattle.offset_allocator.proofs.Common.{◌≡◌, ℕ, ◌+◌, ◌<◌, ◌≤◌, length, sum, sym, ap, arith, View, free_sizes, IsWellFormed, AdmitsBlocks}

-- where a class fits, a free block has the units, which are no more than those of the space
pub fit_small : (n : ℕ) (v : View) → IsWellFormed v → HasFit n v → n ≤ v.size
fit_small n v w h = omega (arith, class_within v w n h.0 h.1 h.2, free_sum v.blocks, free_most v.blocks, w.whole)

module _ (it : Fields) (s : AreSound it) (more n : ℕ) where
  pub is_open : {v : View} {left : ℕ} → shown it ≡ v → left + length v.blocks ≡ v.max_allocs → more < left → AdmitsBlocks more (shown it)
  is_open e h l = omega (arith, h, l, ap (λ (u : View). length u.blocks) e, ap (λ (u : View). u.max_allocs) e)

  pub total_is : it.free ≡ sum (free_sizes (shown it).blocks)
  total_is = sym s.total
