-- The whole allocator after its live ranges were moved to the front: one run that slides by steps of one unit, from the first
-- free block on.
use Rattle.offset_allocator.proofs.{Sound.AreSound, Sound.Fields, Sound.shown, Sound.well_counted, Views.ViewBins.length_put_all, Views.ViewBins.length_remove, Views.ViewBins.length_remove_all}
use Rattle.offset_allocator.proofs.Moving.Compacting.{AreUsed, IsFirst, live_are_used, none_filed, used_append}
use Rattle.offset_allocator.proofs.Moving.Gathered.{gathered_absent, gathered_below, gathered_filed, gathered_given, gathered_place, gathered_refiled, gathered_steps}
use Rattle.offset_allocator.proofs.Moving.OneStep.{given_one, stepped_one, used_up_one}
use Rattle.offset_allocator.proofs.{Moving.Refiled.push_all-append, Moving.Sliding.live_idle}
use Rattle.offset_allocator.proofs.Common.{◌≡◌, ℕ, ◌+◌, false, Some, List, [], ◌∷◌, ◌++◌, refl, sym, ap, ap₂, subst, ◌∙◌, arith, append_assoc, append-nil, replicate, sum, take, true≢false}
use Rattle.offset_allocator.proofs.Common.{AreInBins, Block, Cells, Compacts, HasPlace, IsBinned, Place, View, bins_in, blocks, count_named, down, first_free, free_block, free_sizes, gathered, live, push, push_all, remove, remove_all}
use Rattle.offset_allocator.specs.Moving.BySteps.{AreFiled, given_up, stepped, used_up}
use Rattle.offset_allocator.specs.Names.{names_of}

module _ (f : Fields) (s : AreSound f) {x : ℕ} (o : IsFirst (blocks f.cells.chain f.last) x) where
  abbrev p : Place
  p = o.place

  abbrev v : View
  v = shown f

  abbrev run : List Block
  run = p.block ∷ p.after

  abbrev lists : List (List ℕ)
  lists = push_all (stepped 1 p.after) (remove_all p.after (remove (down p.block.size) p.block.name (bins_in f.max f.cells.bins)))

  whole : blocks f.cells.chain f.last ≡ p.before ++ (run ++ [])
  whole = o.is ∙ ap (λ (l : List Block). p.before ++ l) (sym (append-nil run))

  pub first_held : HasPlace f.cells.chain f.cells.chain.reserved f.last f.count x (record { before = o.place.before; block = o.place.block; after = o.place.after ++ [] })
  first_held = gathered_place f s p.before p.block p.after [] whole o.idle o.name

  -- no free block is in a bin
  pub first_filed : {bins : List (List ℕ)} → AreFiled false (o.place.before ++ (o.place.after ++ [])) (remove (down o.place.block.size) o.place.block.name (bins_in f.max f.cells.bins)) bins
  first_filed = gathered_filed f s p.before p.block p.after [] whole o.idle (λ u. absurd (true≢false (sym u)))

  module _ (d : Cells) (last count hole size : ℕ)
      (there : HasPlace d.chain f.cells.chain.reserved last count hole (record { before = o.place.before ++ stepped 1 o.place.after; block = free_block hole size; after = [] }))
      (sized : size ≡ o.place.block.size + given_up 1 o.place.after)
      (filed : AreInBins ((o.place.before ++ stepped 1 o.place.after) ++ [])
      (push_all (stepped 1 o.place.after) (remove_all o.place.after (remove (down o.place.block.size) o.place.block.name (bins_in f.max f.cells.bins))))) where
    are_used : AreUsed ((p.before ++ stepped 1 p.after) ++ [])
    are_used = subst AreUsed (sym (append-nil (p.before ++ stepped 1 p.after)))
        (used_append p.before (stepped 1 p.after) o.used (subst AreUsed (sym (stepped_one p.after)) (live_are_used p.after)))

    empty : lists ≡ replicate 256 []
    empty = none_filed lists ((p.before ++ stepped 1 p.after) ++ []) (length_put_all (stepped 1 p.after) (remove_all p.after (remove (down p.block.size) p.block.name (bins_in f.max f.cells.bins)))
        ∙ length_remove_all p.after (remove (down p.block.size) p.block.name (bins_in f.max f.cells.bins)) ∙ length_remove (down p.block.size) p.block.name (bins_in f.max f.cells.bins)
        ∙ (well_counted (shown (record f { accesses = 0 })) f.accesses s.well).classes) are_used filed

    given : given_up 1 run ≡ size
    given = gathered_given f s p.before p.block p.after [] whole o.idle refl d last count hole size there sized

    live_is : stepped 1 run ≡ live p.after
    live_is = stepped_one run ∙ live_idle p.block p.after o.idle

    gathers : gathered hole (free_sizes v.blocks) ≡ free_block hole size ∷ []
    gathers = let all : size ≡ p.block.size + sum (free_sizes p.after) = omega (arith, sized, given_one p.after) in ap (gathered hole) o.sizes ∙ ap (λ n. free_block hole n ∷ []) (sym all)

    blocks_are : p.before ++ ((stepped 1 run ++ free_block hole (given_up 1 run) ∷ []) ++ []) ≡ live v.blocks ++ gathered hole (free_sizes v.blocks)
    blocks_are = ap (λ (l : List Block). p.before ++ l) (append-nil (stepped 1 run ++ free_block hole (given_up 1 run) ∷ []) ∙ ap₂ (λ (l : List Block) (n : ℕ). l ++ free_block hole n ∷ []) live_is given)
        ∙ sym (append_assoc p.before (live p.after) (free_block hole size ∷ [])) ∙ ap₂ (λ (l m : List Block). l ++ m) (sym o.live) (sym gathers)

    bins_are : push_all (stepped 1 run ++ free_block hole (given_up 1 run) ∷ []) (remove_all run v.bins) ≡ push_all (gathered hole (free_sizes v.blocks)) (replicate 256 [])
    bins_are = push_all-append (stepped 1 run) (free_block hole (given_up 1 run) ∷ []) (remove_all run v.bins)
        ∙ ap₂ (λ (n : ℕ) (ls : List (List ℕ)). push_all (free_block hole n ∷ []) ls) given (gathered_refiled f s p.before p.block p.after [] whole o.idle refl d last count hole size there sized ∙ empty)
        ∙ ap (λ (l : List Block). push_all l (replicate 256 [])) (sym gathers)

    pub packs : {top accesses : ℕ} → IsBinned f.max d.bins top → bins_in f.max d.bins ≡ push (down size) hole (replicate 256 []) → hole ≡ x
        → take count d.chain.spare ≡ take f.count f.cells.chain.spare ++ names_of (used_up 1 o.place.after) → first_free (blocks f.cells.chain f.last) ≡ Some x
        → AreSound (record f { cells = d; last = last; count = count; top = top; accesses = accesses })
        × Compacts (shown f) (shown (record f { cells = d; last = last; count = count; top = top; accesses = accesses }))
    packs {top} {accesses} binned put named unused first =
        let r = gathered_steps f s p.before p.block p.after [] whole o.idle refl d last count hole size there sized {top = top} {accesses = accesses} binned (sym empty) put filed in (
          r.0,
          record {
            name = hole;
            below = gathered_below f s p.before p.block p.after [] whole o.idle refl d last count hole size there sized;
            first = rw first named;
            names = unused ∙ ap (λ (bs : List Block). v.unused ++ names_of bs) (used_up_one p.after ∙ sym o.rest);
            absent = ap (count_named hole) (o.live ∙ ap (λ (l : List Block). p.before ++ l) (sym (append-nil (live run) ∙ live_idle p.block p.after o.idle)))
                ∙ gathered_absent f s p.before p.block p.after [] whole o.idle refl d last count hole size there sized;
            view = r.1 ∙ ap₂ (λ (bs : List Block) (ls : List (List ℕ)). record v { blocks = bs; bins = ls; unused = take count d.chain.spare; accesses = accesses }) blocks_are bins_are;
          },
        )
