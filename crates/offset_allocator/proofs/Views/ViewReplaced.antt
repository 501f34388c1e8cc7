-- A view stays well formed where some of its blocks give way to others.
use Rattle.offset_allocator.proofs.Common.{◌≡◌, ℕ, ◌+◌, ◌≤◌, ◌⊎◌, List, ◌++◌, length, nat_eq, ap, ◌∙◌, arith, length-append, eq-zero-or-pos, Block, View, one, units, times, count_named, count_in_bin}
use Rattle.offset_allocator.proofs.Common.{count_used, bin_at, AreCoalesced, IsWellFormed, IsNew, remove_all, replace, max_size, common_steps}
use Rattle.offset_allocator.proofs.{Tallies.tally_three, Tallies.units_three, Tallies.new_absent, Tallies.listed_named, Views.ViewBins.times_put_all, Views.ViewBins.times_remove_all}
use Rattle.offset_allocator.proofs.{Views.ViewBins.length_put_all, Views.ViewBins.length_remove_all}

-- what new blocks have to be that take the place of old ones
pub record IsReplacement (v : View) (before old new after : List Block) : Type 0 where
  pub list_is : v.blocks ≡ before ++ (old ++ after)
  pub some : 1 ≤ length new
  pub distinct : (x : ℕ) → count_named x new ≤ 1
  pub names : (x : ℕ) → 1 ≤ count_named x new → (1 ≤ count_named x old) ⊎ IsNew x v
  pub apart : AreCoalesced (before ++ (new ++ after))
  pub room : length (before ++ (new ++ after)) + 1 ≤ v.max_allocs
  pub few_used : count_used (before ++ (new ++ after)) + 2 ≤ v.max_allocs

pub bins_replaced : (v : View) (before old new after : List Block) → IsWellFormed v → v.blocks ≡ before ++ (old ++ after) → (c x : ℕ)
    → times x (bin_at (remove_all old v.bins) c) + count_in_bin c x old ≡ times x (bin_at v.bins c)
bins_replaced v before old new after w e = grind (arith, times_remove_all, listed_named, tally_three)

pub well_replaced : (v : View) (before old new after : List Block) (size : ℕ) → IsWellFormed v → IsReplacement v before old new after
    → units new + v.size ≡ units old + size → size ≤ max_size
    → IsWellFormed (record (replace v before old new after) { size = size })
well_replaced v before old new after size w r sized fits = record {
  some = omega (arith, r.some, length-append before (new ++ after), length-append new after);
  distinct = λ x. distinct x;
  below = λ x l. below x l;
  whole = omega (arith, sized, w.whole, ap units r.list_is, units_three before old after, units_three before new after);
  fits = fits;
  apart = r.apart;
  classes = length_put_all new _ ∙ length_remove_all old v.bins ∙ w.classes;
  binned = grind (arith, common_steps, times_put_all, length_remove_all, bins_replaced, tally_three);
  room = r.room;
  few_used = r.few_used;
}
  where
    before_after : (x : ℕ) → (count_named x v.blocks ≡ count_named x before + (count_named x old + count_named x after))
        × (count_named x (before ++ (new ++ after)) ≡ count_named x before + (count_named x new + count_named x after))
    before_after x = (ap (count_named x) r.list_is ∙ tally_three (λ (b : Block). one (nat_eq x b.name)) before old after, tally_three (λ (b : Block). one (nat_eq x b.name)) before new after)

    distinct : (x : ℕ) → count_named x (before ++ (new ++ after)) ≤ 1
    distinct x = grind (arith, common_steps, before_after, eq-zero-or-pos, new_absent)

    below : (x : ℕ) → v.max_allocs ≤ x → count_named x (before ++ (new ++ after)) ≡ 0
    below x l = grind (arith, common_steps, before_after, eq-zero-or-pos, new_absent)
