-- A release, more units at the end, and one free block leave a view well formed.
use Rattle.offset_allocator.proofs.Common.{◌≡◌, ℕ, suc, ◌+◌, ◌<◌, ◌≤◌, false, ◌⊎◌, List, [], ◌∷◌, ◌++◌, replicate, length, refl, sym, ap, subst, ◌∙◌, inl, inr, arith, length-append, append-nil}
use Rattle.offset_allocator.proofs.Common.{get_or-replicate, get_or_past, length-replicate, cases_lt, down, Block, View, tally, one, max_size, free_block, units, times, count_named, count_used, bin_at}
use Rattle.offset_allocator.proofs.Common.{AreCoalesced, IsWellFormed, IsNew, free_start, without_start, free_end, without_end, push, replace, Frees, common_steps}
use Rattle.offset_allocator.proofs.Tallies.{tally_three, tally_append, hit_cases}
use Rattle.offset_allocator.proofs.Views.ViewApart.{ends_free, no_end, apart_parts, apart_coalesced, coalesced_parts, end_parts, start_parts}
use Rattle.offset_allocator.proofs.{Views.ViewBins.times_put, Views.ViewBins.length_put, Views.ViewReplaced.well_replaced, Sound.well_same, Classes.down_small}

-- what becomes free, coalesced with its free neighbours
pub tally_end : (f : Block → ℕ) (bs : List Block) → tally f bs ≡ tally f (without_end bs) + tally f (free_end bs)
tally_end f bs = ap (tally f) (end_parts bs) ∙ tally_append f (without_end bs) (free_end bs)

pub tally_start : (f : Block → ℕ) (bs : List Block) → tally f bs ≡ tally f (free_start bs) + tally f (without_start bs)
tally_start f bs = ap (tally f) (start_parts bs) ∙ tally_append f (free_start bs) (without_start bs)

-- n units under a name x, between two lists
pub well_coalesced : (v : View) (before old after : List Block) (x n size : ℕ) → IsWellFormed v → v.blocks ≡ before ++ (old ++ after) → AreCoalesced before → AreCoalesced after
    → (1 ≤ count_named x (free_end before ++ (old ++ free_start after))) ⊎ IsNew x v → (1 ≤ length old + length (free_end before)) ⊎ (length v.blocks + 1 < v.max_allocs)
    → n + v.size ≡ units (free_end before ++ (old ++ free_start after)) + size → size ≤ max_size
    → IsWellFormed (record (replace v (without_end before) (free_end before ++ (old ++ free_start after)) (free_block x n ∷ []) (without_start after)) { size = size })
well_coalesced v before old after x n size w e apart_before apart_after name spare sized fits = well_replaced v (without_end before) gone (free_block x n ∷ []) (without_start after) size w
    (record {
      list_is = e ∙ coalesced_parts before old after;
      some = omega arith;
      distinct = λ y. let h = hit_cases y x in elim h [ inl i ↦ let k = i.1 in omega arith | inr i ↦ let k = i.1 in omega arith ];
      names = grind (arith, common_steps, hit_cases, gone);
      apart = apart_coalesced before (free_block x n) after apart_before apart_after;
      room = grind (arith, common_steps, lengths, old_lengths);
      few_used = let s = w.few_used in omega (arith, s, used_new, used_old);
    })
    (let s = sized in omega arith)
    fits
  where
    gone : List Block
    gone = free_end before ++ (old ++ free_start after)

    lengths : length (without_end before ++ (free_block x n ∷ without_start after)) ≡ length (without_end before) + suc (length (without_start after))
    lengths = length-append (without_end before) _

    old_lengths : length v.blocks ≡ (length (without_end before) + length (free_end before)) + (length old + (length (free_start after) + length (without_start after)))
    old_lengths = omega (
      arith,
      ap length e,
      length-append before (old ++ after),
      length-append old after,
      ap length (end_parts before) ∙ length-append (without_end before) (free_end before),
      ap length (start_parts after) ∙ length-append (free_start after) (without_start after),
    )

    used_new : count_used (without_end before ++ (free_block x n ∷ without_start after)) ≡ count_used (without_end before) + count_used (without_start after)
    used_new = omega (arith, tally_append (λ (b : Block). one b.used) (without_end before) (free_block x n ∷ without_start after))

    used_old : count_used (without_end before) + count_used (without_start after) ≤ count_used v.blocks
    used_old = omega (arith, ap count_used e, tally_three (λ (b : Block). one b.used) before old after, tally_end (λ (b : Block). one b.used) before, tally_start (λ (b : Block). one b.used) after)

-- the used block named x, and free ones beside it, become one free block
pub well_frees : (x : ℕ) (v w : View) → IsWellFormed v → Frees x v w → IsWellFormed w
well_frees x v w k f = well_same (replace v f.before old (free_block x (units old) ∷ []) f.after) w f.view (well_replaced v f.before old (free_block x (units old) ∷ []) f.after v.size k
    (record {
      list_is = f.blocks;
      some = omega arith;
      distinct = λ y. elim (hit_cases y x) [ inl i ↦ omega (arith, i.1) | inr i ↦ omega (arith, i.1) ];
      names = grind (arith, common_steps, hit_cases, named, old);
      apart = subst AreCoalesced (ap (λ (u : View). u.blocks) f.view) f.apart;
      room = grind (arith, common_steps, length-append, old);
      few_used = grind (arith, common_steps, tally_three, old, tally_append);
    })
    (omega arith) k.fits)
  where
    old : List Block
    old = f.left ++ (f.block ∷ f.right)

    named : 1 ≤ count_named x old
    named = grind (arith, common_steps, hit_cases, tally_append)

-- more units at the end
-- a free block in the place of what is at the end, after blocks that end in none that is free
pub well_added : (v : View) → IsWellFormed v → (more x : ℕ) (before last : List Block) → v.blocks ≡ before ++ last → ends_free before ≡ false → (1 ≤ count_named x last) ⊎ IsNew x v
    → (1 ≤ length last) ⊎ (length v.blocks + 1 < v.max_allocs) → v.size + more ≤ max_size
    → IsWellFormed (record (replace v before last (free_block x (units last + more) ∷ []) []) { size = v.size + more })
well_added v w more x before last e closed name spare fits =
    subst (λ bs. IsWellFormed (record (replace v bs last (free_block x (units last + more) ∷ []) []) { size = v.size + more })) none.1
    (subst (λ gone. IsWellFormed (record (replace v (without_end before) gone (free_block x (units last + more) ∷ []) []) { size = v.size + more })) same
    (well_coalesced v before last [] x (units last + more) (v.size + more) w (e ∙ ap (λ l. before ++ l) (sym (append-nil last))) (apart_parts before last (subst AreCoalesced e w.apart)).0 tt
    (subst (λ gone. (1 ≤ count_named x gone) ⊎ IsNew x v) (sym same) name)
    (elim spare [ inl l ↦ inl (omega (arith, l)) | inr r ↦ inr r ])
    (omega (arith, ap units same))
    fits))
  where
    none : (free_end before ≡ []) × (without_end before ≡ before)
    none = no_end before closed

    same : free_end before ++ (last ++ []) ≡ last
    same = ap (λ fe. fe ++ (last ++ [])) none.0 ∙ append-nil last

-- one free block
pub replicate_none : (x c : ℕ) → times x (bin_at (replicate 256 []) c) ≡ 0
replicate_none x c = elim (cases_lt c 256) [
  | inl l ↦ ap (times x) (get_or-replicate 256 c [] [] l)
  | inr l ↦ ap (times x) (get_or_past (replicate 256 []) c [] l)
]

pub well_alone : (v : View) (x n accesses : ℕ) (unused : List ℕ) → 2 ≤ v.max_allocs → x < v.max_allocs → n ≤ max_size
    → IsWellFormed (record { size = n; max_allocs = v.max_allocs; blocks = free_block x n ∷ []; bins = push (down n) x (replicate 256 []); unused = unused; accesses = accesses })
well_alone v x n accesses unused m l fits = record {
  some = omega arith;
  distinct = λ y. elim (hit_cases y x) [ inl i ↦ let k = i.1 in omega arith | inr i ↦ let k = i.1 in omega arith ];
  below = λ y b. elim (hit_cases y x) [ inl i ↦ absurd (let k = i.0 in omega arith) | inr i ↦ let k = i.1 in omega arith ];
  whole = omega arith;
  fits = fits;
  apart = (refl, tt);
  classes = length_put (down n) x (replicate 256 []) ∙ length-replicate {A = List ℕ} 256 [];
  binned = λ c y. times_put (down n) x c y (replicate 256 []) (length-replicate {A = List ℕ} 256 []) (down_small n) ∙ (let r = replicate_none y c in omega arith);
  room = omega arith;
  few_used = omega arith;
}
