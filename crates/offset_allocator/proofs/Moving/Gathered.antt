-- The whole allocator after a run has slid by steps of one unit: its first block, a free one, comes last, with the units of
-- the others.
use Rattle.offset_allocator.proofs.{Filing.Filed.filed_out, Linking.Exchange.each-le, Linking.Places.placed, Sound.AreSound, Sound.Fields, Sound.shown, Sound.well_counted}
use Rattle.offset_allocator.proofs.{Tallies.one-same, Tallies.times-append, Views.ViewBins.length_remove}
use Rattle.offset_allocator.proofs.Moving.OneStep.{given_one, kept_one, stepped_one}
use Rattle.offset_allocator.proofs.Moving.Sliding.{live_idle}
use Rattle.offset_allocator.proofs.Moving.Stepped.{refiled, split_filed, split_length, split_steps, stepped_fewer}
use Rattle.offset_allocator.proofs.Moving.Stepping.{freed_now, given_free}
use Rattle.offset_allocator.proofs.Common.{◌≡◌, ℕ, ◌+◌, ◌<◌, Bool, true, false, not, List, [], ◌∷◌, ◌++◌, if◌then◌else◌, sym, ap, ap₂, subst, ◌∙◌, arith, sum, Block, Cells, AreInBins, HasPlace}
use Rattle.offset_allocator.proofs.Common.{IsBinned, IsWellFormed, SameSpace, blocks, bins_in, count_named, down, free_block, free_sizes, live, push, push_all, remove, remove_all, replace, starts_free}
use Rattle.offset_allocator.specs.Moving.BySteps.{AreFiled, given_up, stepped}
use Rattle.std.proofs.Math.Nat.{mod-one}

module _ (f : Fields) (s : AreSound f) (front : List Block) (b : Block) (rest back : List Block) (is : blocks f.cells.chain f.last ≡ front ++ ((b ∷ rest) ++ back)) (idle : b.used ≡ false) where
  abbrev run : List Block
  run = b ∷ rest

  abbrev ls : List (List ℕ)
  ls = bins_in f.max f.cells.bins

  w : IsWellFormed (shown f)
  w = well_counted (shown (record f { accesses = 0 })) f.accesses s.well

  -- before it slides
  pub gathered_place : {x : ℕ} → b.name ≡ x → HasPlace f.cells.chain f.cells.chain.reserved f.last f.count x (record { before = front; block = b; after = rest ++ back })
  gathered_place named = placed (rw is at s.space) named

  -- the bins without the first block, or what they would be
  pub gathered_filed : {in_bins : Bool} {lists : List (List ℕ)} → (in_bins ≡ true → lists ≡ remove (down b.size) b.name (bins_in f.max f.cells.bins))
      → AreFiled in_bins (front ++ (rest ++ back)) (remove (down b.size) b.name (bins_in f.max f.cells.bins)) lists
  gathered_filed now = (
    filed_out front (rest ++ back) b ls (split_filed f s 1 front run back is) idle w.classes (λ y. omega (arith, w.distinct y, ap (count_named y) is)),
    length_remove (down b.size) b.name ls ∙ w.classes,
    λ u. sym (now u),
  )

  -- what is left
  module _ (apart : starts_free back ≡ false) (d : Cells) (last count y n : ℕ)
      (there : HasPlace d.chain f.cells.chain.reserved last count y (record { before = front ++ stepped 1 rest; block = free_block y n; after = back })) (sized : n ≡ b.size + given_up 1 rest) where
    stepped_is : stepped 1 run ≡ stepped 1 rest
    stepped_is = stepped_one run ∙ live_idle b rest idle ∙ sym (stepped_one rest)

    pub gathered_given : given_up 1 (b ∷ rest) ≡ n
    gathered_given = omega (arith, given_free 1 b rest idle, kept_one b.size rest, sized)

    pub gathered_refiled : refiled 1 (b ∷ rest) (bins_in f.max f.cells.bins) ≡ push_all (stepped 1 rest) (remove_all rest (remove (down b.size) b.name (bins_in f.max f.cells.bins)))
    gathered_refiled = ap₂ (λ (l : List Block) (bins : List (List ℕ)). push_all l bins) stepped_is (ap (λ (u : Bool). remove_all rest (if u then ls else remove (down b.size) b.name ls)) idle)

    -- the name of the block at the end is its own
    pub gathered_absent : count_named y (front ++ (live (b ∷ rest) ++ back)) ≡ 0
    gathered_absent = omega (
      arith,
      each-le d.chain _ last count _ there.chain y,
      one-same y,
      times-append y (front ++ stepped 1 rest) (free_block y n ∷ back),
      times-append y front (stepped 1 rest),
      times-append y front (live run ++ back),
      times-append y (live run) back,
      ap (count_named y) (sym (stepped_one run) ∙ stepped_is),
    )

    pub gathered_below : y < f.limit
    gathered_below = omega (arith, there.below, there.chain.within, s.memory)

    pub gathered_steps : {top accesses : ℕ} {lists : List (List ℕ)} → IsBinned f.max d.bins top → lists ≡ push_all (stepped 1 rest) (remove_all rest (remove (down b.size) b.name (bins_in f.max f.cells.bins)))
        → bins_in f.max d.bins ≡ push (down n) y lists
        → AreInBins ((front ++ stepped 1 rest) ++ back) (push_all (stepped 1 rest) (remove_all rest (remove (down b.size) b.name (bins_in f.max f.cells.bins))))
        → AreSound (record f { cells = d; last = last; count = count; top = top; accesses = accesses })
        × SameSpace (replace (shown f) front (b ∷ rest) (stepped 1 (b ∷ rest) ++ free_block y (given_up 1 (b ∷ rest)) ∷ []) back) (shown (record f { cells = d; last = last; count = count; top = top; accesses = accesses }))
    gathered_steps binned same lists filed = split_steps f s 1 front run back is (ap not idle) apart
        (omega (arith, w.room, split_length f s 1 front run back is, stepped_fewer 1 run (freed_now 1 b rest idle (mod-one b.size)))) d last count y
        (subst (λ (l : List Block). HasPlace d.chain f.cells.chain.reserved last count y (record { before = front ++ l; block = free_block y (given_up 1 run); after = back })) (sym stepped_is)
        (subst (λ k. HasPlace d.chain f.cells.chain.reserved last count y (record { before = front ++ stepped 1 rest; block = free_block y k; after = back })) (sym gathered_given) there))
        binned (lists ∙ ap₂ (λ (k : ℕ) (bins : List (List ℕ)). push (down k) y bins) (sym gathered_given) (same ∙ sym gathered_refiled))
        (subst (λ (l : List Block). AreInBins ((front ++ l) ++ back) (refiled 1 run ls)) (sym stepped_is) (subst (λ bins. AreInBins ((front ++ stepped 1 rest) ++ back) bins) (sym gathered_refiled) filed))

-- in the words of a plain slide
pub gathered_is : (y : ℕ) (run : List Block) → stepped 1 run ++ free_block y (given_up 1 run) ∷ [] ≡ live run ++ free_block y (sum (free_sizes run)) ∷ []
gathered_is y run = ap₂ (λ (l : List Block) (n : ℕ). l ++ free_block y n ∷ []) (stepped_one run) (given_one run)
