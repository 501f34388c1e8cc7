-- A fresh space.
use Rattle.offset_allocator.proofs.{Filing.Binned.binned, Views.ViewTaken.well_alone, Tallies.one-eq, Tallies.one-other, Tallies.free_units, Tallies.free_sum}
use Rattle.offset_allocator.proofs.Common.{◌≡◌, ℕ, zero, suc, ◌+◌, ◌/◌, ◌%◌, ◌<◌, ◌≤◌, ◌^◌, false, None, List, [], ◌∷◌, length, get_or, replicate, refl, sym, ◌∙◌, ap, ap₂, subst, arith, slice_index}
use Rattle.offset_allocator.proofs.Common.{length-replicate, get_or-replicate, bit_at-zero, cases_eq, nat_tests, down, Cells, BinCells, ChainCells, Node, blank, node, put, AreEmpty, IsBare, AreShaped}
use Rattle.offset_allocator.proofs.Common.{Block, View, IsWellFormed, free_block, push, bin_at, IsChain, IsSpace, blocks, HasBins, AreMasks, IsBinned, bins_in, IsAmong, IsUnlisted, IsSound, view_of}
use Rattle.offset_allocator.proofs.Linking.Nodes.{node-put, node-put_other, length-put, spare-put, reserved-put}

-- one free block of the whole size
abbrev pub fresh : ℕ → ℕ → View
fresh size limit = record { size = size; max_allocs = limit; blocks = free_block 0 size ∷ []; bins = push (down size) 0 (replicate 256 []); unused = []; accesses = 0 }

-- a node whose block is the whole space
abbrev pub whole_node : ℕ → Node
whole_node size = record { offset = 0; size = size; used = false; before = None; after = None }

module _ {m : ℕ} {t : ChainCells} (e : IsBare m t) where
  pub bare_length : length t.nodes ≡ 1
  bare_length = rw e.nodes refl

  pub bare_idle : (x : ℕ) → (node t x).used ≡ false
  unfolding node
  bare_idle x = rw e.nodes (go x)
    where
      go : (x : ℕ) → (get_or (blank ∷ []) x blank).used ≡ false
      go zero = refl
      go (suc x) = refl

  pub start-chain : (size : ℕ) → 0 < m → size < 2 ^ 32 → (d : ChainCells) → d ≡ put t 0 (whole_node size) → IsChain d m 0 0 (free_block 0 size ∷ [])
  start-chain size some small d q = grind (arith, bare_length, length-put, spare-put, reserved-put, node-put, cases_eq, nat_tests, one-eq, one-other, node-put_other, bare_idle)

-- no bin has a name
empty_at : (c : ℕ) → c < 256 → bin_at (replicate 256 []) c ≡ []
empty_at c h = get_or-replicate 256 c [] [] h

pub empty_unlisted : (x : ℕ) {ls : List (List ℕ)} → ls ≡ replicate 256 [] → IsUnlisted x ls
empty_unlisted x e c h a = absurd (omega (arith, subst (λ l. IsAmong x l) (ap (λ o. bin_at o c) e ∙ empty_at c h) a))

module _ {max : ℕ} (k : BinCells) (older : length k.older ≡ length k.newer) (small : length k.newer ≤ max) (heads : k.heads ≡ replicate 256 max) (masks : k.masks ≡ replicate 4 0) where
  mask_at : (w : ℕ) → w < 4 → slice_index k.masks w ≡ 0
  mask_at w h = rw masks (get_or-replicate 4 w 0 0 h)

  empty_linked : HasBins max k (replicate 256 [])
  empty_linked = record {
    older_len = older;
    names_small = small;
    heads_len = rw heads (length-replicate {A = ℕ} 256 max);
    lists_len = length-replicate {A = List ℕ} 256 [];
    heads = λ c h. rw (empty_at c h, heads) (get_or-replicate 256 c max 0 h);
    links = λ c h. rw (empty_at c h) tt;
    once = λ c d x h l _. rw (empty_at c h, empty_at d l) (omega arith);
  }

  empty_masked : AreMasks (replicate 256 []) k.masks 0
  empty_masked = record {
    masks_len = rw masks (length-replicate {A = ℕ} 4 0);
    bits = λ c h. rw (mask_at (c / 64) (omega arith), empty_at c h) (bit_at-zero (c % 64));
    tops = λ w h. rw (mask_at w h) (bit_at-zero w);
    top_small = omega arith;
    words_small = λ w h. rw (mask_at w h) (omega arith);
  }

  pub empty_binned : IsBinned max k 0 × (bins_in max k ≡ replicate 256 [])
  empty_binned = binned empty_linked empty_masked

pub fresh_binned : {max : ℕ} {t : Cells} → AreShaped max t → AreEmpty max t.bins → IsBinned max t.bins 0 × (bins_in max t.bins ≡ replicate 256 [])
fresh_binned {t = t} s e = empty_binned t.bins (s.older ∙ sym s.newer) (omega (arith, s.newer, s.within, s.limit)) e.heads e.masks

-- the only block is free
pub first_idle : {c : ChainCells} {size : ℕ} → IsSpace c 0 0 → blocks c 0 ≡ free_block 0 size ∷ [] → (node c 0).used ≡ false
first_idle {c} s e = ap (λ (n : Node). n.used) (rw e at s.row).0

-- the fields of a fresh allocator
pub started : (max m size : ℕ) (d : Cells) (top : ℕ) → 2 ≤ m → m + 1 < max → size ≤ 4294967295 → d.chain.reserved ≡ m → IsSpace d.chain 0 0
    → blocks d.chain 0 ≡ free_block 0 size ∷ [] → IsBinned max d.bins top
    → bins_in max d.bins ≡ push (down size) 0 (replicate 256 []) → IsSound max size m d 0 0 top size × (view_of max size m d 0 0 0 ≡ fresh size m)
started max m size d top two least sized memory space eb bins lists =
    let ev : view_of max size m d 0 0 0 ≡ fresh size m =
    ap₂ (λ (b : List Block) (o : List (List ℕ)). let u : View = record { size = size; max_allocs = m; blocks = b; bins = o; unused = []; accesses = 0 } in u) eb lists in (
      record {
        memory = memory;
        admitted = least;
        space = space;
        bins = bins;
        well = subst IsWellFormed (sym ev) (well_alone (fresh size m) 0 size 0 [] two (omega arith) sized);
        total = free_sum (blocks d.chain 0) ∙ ap free_units eb ∙ omega arith;
      },
      ev,
    )
