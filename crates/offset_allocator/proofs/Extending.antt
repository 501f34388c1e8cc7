-- What more units at the end leave of the whole allocator.
use Rattle.offset_allocator.proofs.{Sound.well_unused, Sound.Fields, Sound.AreSound, Sound.shown, Sound.well_counted, Sound.well_same, Linking.Ends.Ended, Linking.Ends.ended, Linking.Places.at_place}
use Rattle.offset_allocator.proofs.{Linking.Places.end_place, Filing.Filed.share, Filing.Filed.counts_once, Views.ViewApart.ends_free, Views.ViewApart.apart_parts, Views.ViewApart.left_false}
use Rattle.offset_allocator.proofs.{Views.ViewBins.times_remove_all, Views.ViewTaken.well_added, Ranges.adds_keep}
use Rattle.offset_allocator.proofs.Common.{ap₂, take, ◌≡◌, ◌↔◌, ℕ, ◌+◌, ◌-◌, ◌<◌, ◌≤◌, ◌^◌, Bool, true, false, not, ◌⊎◌, List, [], ◌∷◌, ◌++◌, length, refl, sym, ap, subst, ◌∙◌, inl, inr, arith}
use Rattle.offset_allocator.proofs.Common.{slice_set, append-nil, true≢false, false≢true, AllByRecursion, down, Cells, ChainCells, Node, node, Block, View, count_named, bin_at, count_in_bin}
use Rattle.offset_allocator.proofs.Common.{AreCoalesced, IsWellFormed, IsNew, free_block, units, replace, remove_all, push, remove, times, ends_used, AdmitsBlocks, KeepsAll, Adds, CanExtend, Extends}
use Rattle.offset_allocator.proofs.Common.{IsChain, HasPlace, blocks, IsAmong, IsUnlisted, bins_in, IsBinned}
use Rattle.offset_allocator.proofs.Tallies.{listed_named, tally_append, units-append, times-append, one-eq, without, counted_none, free_units, free_sum}
use Rattle.offset_allocator.proofs.Joints.{stepped, free_most, unused_unlisted, remove_free, free_units-append, free_units-free}
use Rattle.offset_allocator.specs.Names.{AreTaken, IsTaken, names_of}

pub ends_last : (fs : List Block) (b : Block) → ends_used (fs ++ b ∷ []) ≡ b.used
ends_last [] b = refl
ends_last (f ∷ []) b = refl
ends_last (f ∷ g ∷ fs) b = ends_last (g ∷ fs) b

ends_free_last : (fs : List Block) (b : Block) → ends_free (fs ++ b ∷ []) ≡ not b.used
ends_free_last [] b = refl
ends_free_last (f ∷ []) b = refl
ends_free_last (f ∷ g ∷ fs) b = ends_free_last (g ∷ fs) b

-- the units of free blocks are free
idle_units : (bs : List Block) → AllByRecursion (λ b. b.used ≡ false) bs → free_units bs ≡ units bs
idle_units [] i = refl
idle_units (b ∷ bs) i = let ih = idle_units bs i.1 in free_units-free b bs i.0 ∙ ap (λ n. b.size + n) ih

-- the end of the space
module _ (it : Fields) (more : ℕ) (s : AreSound it) where
  abbrev old : List Block
  old = blocks it.cells.chain it.last

  pub used_at_end : (node it.cells.chain it.last).used ≡ ends_used (blocks it.cells.chain it.last)
  used_at_end = let f = ended old it.last s.space.ends in ap (λ (n : Node). n.used) (at_place (end_place s.space)) ∙ sym (ap ends_used f.is ∙ ends_last f.front f.last)

  -- it can have more where its last block is free
  pub can_widen : it.size + more ≤ 4294967295 → ends_used (blocks it.cells.chain it.last) ≡ false → CanExtend more (shown it)
  can_widen fits e = let f = ended old it.last s.space.ends in (fits, inr (f.front, f.last, f.is, sym (ap ends_used f.is ∙ ends_last f.front f.last) ∙ e))

  pub cannot_append : ends_used (blocks it.cells.chain it.last) ≡ true → it.limit ≤ length (shown it).blocks + 1 → CanExtend more (shown it) → ⊥
  cannot_append e full c = grind (arith, true≢false, ends_last)

-- a request that is done: sound fields, and whether the last block is used
pub record Growth (it : Fields) (more : ℕ) (used : Bool) : Type 0 where
  pub sound : AreSound it
  pub some : 0 < more
  pub fits : it.size + more ≤ 4294967295
  pub ends : ends_used (blocks it.cells.chain it.last) ≡ used

module _ {it : Fields} {more : ℕ} {used : Bool} (r : Growth it more used) where
  s : AreSound it
  s = r.sound

  abbrev v : View
  v = shown it

  abbrev bs : List Block
  bs = blocks it.cells.chain it.last

  abbrev ls : List (List ℕ)
  ls = bins_in it.max it.cells.bins

  w : IsWellFormed v
  w = well_counted (shown (record it { accesses = 0 })) it.accesses s.well

  -- the last block
  abbrev pub end : Ended it.last (blocks it.cells.chain it.last)
  end = ended (blocks it.cells.chain it.last) it.last r.sound.space.ends

  abbrev fs : List Block
  fs = end.front

  abbrev b : Block
  b = end.last

  pub end_held : {d : ChainCells} → d ≡ it.cells.chain → HasPlace d it.cells.chain.reserved it.last it.count it.last (record { before = end.front; block = end.last; after = [] })
  end_held e = rw e (end_place r.sound.space)

  size_at_end : (node it.cells.chain it.last).size ≡ b.size
  size_at_end = ap (λ (n : Node). n.size) (at_place (end_held refl))

  pub b_used : end.last.used ≡ used
  b_used = sym (ends_last fs b) ∙ ap ends_used (sym end.is) ∙ r.ends

  pub units_fit : units (blocks it.cells.chain it.last) + more < 2 ^ 32
  units_fit = omega (arith, s.well.whole, r.fits)

  pub end_small : (node it.cells.chain it.last).size + more < 2 ^ 32
  end_small = omega (arith, units_fit, ap units end.is, units-append fs (b ∷ []), size_at_end)

  pub free_fits : it.free + more < 2 ^ 32
  free_fits = omega (arith, s.total, free_sum bs, free_most bs, units_fit)

  -- what it leaves, with any number of accesses counted
  abbrev pub Grown : Cells → ℕ → ℕ → ℕ → ℕ → Type 0
  Grown d last count top k =
      let new : Fields = record it { size = it.size + more; cells = d; last = last; count = count; top = top; free = it.free + more; accesses = k } in
      AreSound new × Adds more (shown it) (shown new) × KeepsAll (shown it) (shown new)

  grown : (d : Cells) {last count top : ℕ} (k x : ℕ) (before old : List Block) → bs ≡ before ++ old → ends_free before ≡ false → AllByRecursion (λ b. b.used ≡ false) old
      → AllByRecursion (λ b. b.name ≡ x) old
      → (1 ≤ count_named x old) ⊎ IsNew x v → (1 ≤ length old) ⊎ (length bs + 1 < it.limit) → (old ≡ [] → IsNew x v)
      → IsChain d.chain it.cells.chain.reserved last count (before ++ free_block x (units old + more) ∷ []) → IsBinned it.max d.bins top
      → bins_in it.max d.bins ≡ push (down (units old + more)) x (remove_all old ls)
      → AreTaken (length bs) (take it.count it.cells.chain.spare ++ names_of old) (x ∷ []) (take count d.chain.spare) → Grown d last count top k
  grown d {last} {count} {top} k x before old e closed idle named name spare new chain bins lists taken =
      let left_view : View = record (replace v before old (free_block x (units old + more) ∷ []) []) { size = v.size + more; unused = take count d.chain.spare } in
      let well = well_unused (record (replace v before old (free_block x (units old + more) ∷ []) []) { size = v.size + more }) (take count d.chain.spare) v.accesses
      (well_added v w more x before old e closed name spare r.fits) in
      let total = free_units-append before old in
      let left = stepped it s left_view d (it.free + more) k well refl chain refl bins lists
      (free_units-append before (free_block x (units old + more) ∷ [])
      ∙ omega (arith, r.sound.total, free_sum bs, ap free_units e, total, idle_units old idle, free_units-free (free_block x (units old + more)) [] refl)) in
      let added : Adds more v (shown (record it { size = it.size + more; cells = d; last = last; count = count; top = top; free = it.free + more; accesses = k })) = record {
        before = before;
        last = old;
        blocks = e;
        free = idle;
        name = x;
        named = named;
        new = new;
        names = taken;
        view = left.1;
        apart = left.0.well.apart;
      } in
      (left.0, added, adds_keep v _ w (well_same left_view _ left.1 well) more added)

-- after a used block
module _ {it : Fields} {more : ℕ} (r : Growth it more true) where
  pub split_fits : (y n : ℕ) → n ≡ (node it.cells.chain it.last).size → units ((end r).front ++ record (end r).last { size = n } ∷ free_block y ((end r).last.size - n) ∷ []) + more < 2 ^ 32
  split_fits y n e = omega (
    arith,
    e,
    size_at_end r,
    units_fit r,
    ap units (end r).is,
    units-append (end r).front ((end r).last ∷ []),
    units-append (end r).front (record (end r).last { size = n } ∷ free_block y ((end r).last.size - n) ∷ []),
  )

  pub append_unlisted : (y : ℕ) → count_named y ((end r).front ++ (end r).last ∷ []) ≡ 0 → IsUnlisted y (bins_in it.max it.cells.bins)
  append_unlisted y e = unused_unlisted (shown it) (w r) y (ap (count_named y) (end r).is ∙ e)

  pub appended : (d : Cells) (k : ℕ) {last count top y n : ℕ} → AdmitsBlocks 1 (shown it) → n ≡ (node it.cells.chain it.last).size
      → IsChain d.chain it.cells.chain.reserved last count (((end r).front ++ record (end r).last { size = n } ∷ []) ++ free_block y (((end r).last.size - n) + more) ∷ [])
      → IsBinned it.max d.bins top
      → bins_in it.max d.bins ≡ push (down more) y (bins_in it.max it.cells.bins) → count_named y ((end r).front ++ (end r).last ∷ []) ≡ 0 → y < length d.chain.nodes
      → IsTaken (length (blocks it.cells.chain it.last)) (take it.count it.cells.chain.spare) y (take count d.chain.spare)
      → Grown r d last count top k
  appended d k {count = count} {y = y} {n = n} room e chain bins eo new below taken =
      let whole : n ≡ (end r).last.size = e ∙ size_at_end r in
      let none : (end r).last.size - (end r).last.size ≡ 0 = omega arith in
      let sum : 0 + more ≡ more = omega arith in
      let unused : IsNew y (shown it) = record {
        below = omega (arith, below, chain.within, r.sound.memory);
        absent = counted_none y (shown it).blocks (ap (count_named y) (end r).is ∙ new);
      } in
      grown r d k y ((end r).front ++ (end r).last ∷ []) [] ((end r).is ∙ sym (append-nil _)) (ends_free_last (end r).front (end r).last ∙ ap not (b_used r)) tt tt
      (inr unused) (inr room) (λ _. unused)
      (rw (whole, none) at chain) bins (rw sum eo) (rw (append-nil (take it.count it.cells.chain.spare)) (take count d.chain.spare, taken, refl))

-- fields whose last block is free
pub record EndsFree (it : Fields) : Type 0 where
  pub sound : AreSound it
  pub ends : ends_used (blocks it.cells.chain it.last) ≡ false

module _ {it : Fields} (r : EndsFree it) where
  abbrev pub last_of : Ended it.last (blocks it.cells.chain it.last)
  last_of = ended (blocks it.cells.chain it.last) it.last r.sound.space.ends

  pub known_of : IsWellFormed (shown it)
  known_of = well_counted (shown (record it { accesses = 0 })) it.accesses r.sound.well

  pub last_held : {d : ChainCells} → d ≡ it.cells.chain → HasPlace d it.cells.chain.reserved it.last it.count it.last (record { before = last_of.front; block = last_of.last; after = [] })
  last_held e = rw e (end_place r.sound.space)

  pub last_size : (node it.cells.chain it.last).size ≡ last_of.last.size
  last_size = ap (λ (n : Node). n.size) (at_place (last_held refl))

  pub last_free : last_of.last.used ≡ false
  last_free = sym (ends_last last_of.front last_of.last) ∙ ap ends_used (sym last_of.is) ∙ r.ends

  -- its name leaves its bin
  abbrev pub last_left : List (List ℕ)
  last_left = slice_set (bins_in it.max it.cells.bins) (down (node it.cells.chain it.last).size) (without it.last (bin_at (bins_in it.max it.cells.bins) (down (node it.cells.chain it.last).size)))

  pub last_removed : last_left ≡ remove_all (last_of.last ∷ []) (bins_in it.max it.cells.bins)
  last_removed = rw last_size (sym (remove_free last_of.last (bins_in it.max it.cells.bins) last_free ∙ ap (λ i. remove (down last_of.last.size) i (bins_in it.max it.cells.bins)) last_of.name))

  pub last_listed : IsAmong it.last (bin_at (bins_in it.max it.cells.bins) (down (node it.cells.chain it.last).size))
  last_listed =
      let k : ℕ = down (node it.cells.chain it.last).size in
      let there = counts_once (last_held refl) (ap (λ (n : Node). n.used) (at_place (last_held refl)) ∙ last_free) in
      omega (arith, there, known_of.binned k it.last, ap (count_in_bin k it.last) last_of.is, tally_append (share k it.last) last_of.front (last_of.last ∷ []))

  pub last_unlisted : IsUnlisted it.last last_left
  last_unlisted d dh a =
      let l : List (List ℕ) = bins_in it.max it.cells.bins in
      let bs : List Block = blocks it.cells.chain it.last in
      let split : (k y : ℕ) → count_in_bin k y bs ≡ count_in_bin k y last_of.front + count_in_bin k y (last_of.last ∷ []) = λ k y. ap (count_in_bin k y) last_of.is
      ∙ tally_append (share k y) last_of.front (last_of.last ∷ []) in
      let left = times_remove_all (last_of.last ∷ []) l known_of.classes (λ k y. omega (arith, known_of.binned k y, known_of.distinct y, listed_named k y bs))
      (λ k y. omega (arith, known_of.binned k y, split k y)) d it.last in
      let alone : count_named it.last last_of.front ≡ 0 = omega (
        arith,
        known_of.distinct it.last,
        ap (count_named it.last) last_of.is,
        times-append it.last last_of.front (last_of.last ∷ []),
        one-eq it.last last_of.last.name last_of.name,
      ) in
      let there : 1 ≤ times it.last (bin_at (remove_all (last_of.last ∷ []) l) d) = rw last_removed at a in
      omega (arith, there, left, known_of.binned d it.last, split d it.last, listed_named d it.last last_of.front, alone)

-- the last block is free
module _ {it : Fields} {more : ℕ} (r : Growth it more false) where
  abbrev free : EndsFree it
  free = record { sound = r.sound; ends = r.ends }

  abbrev pub widen_left : List (List ℕ)
  widen_left = last_left free

  is_left : widen_left ≡ remove_all ((end r).last ∷ []) (bins_in it.max it.cells.bins)
  is_left = last_removed free

  pub widen_listed : IsAmong it.last (bin_at (bins_in it.max it.cells.bins) (down (node it.cells.chain it.last).size))
  widen_listed = last_listed free

  pub widen_unlisted : IsUnlisted it.last widen_left
  widen_unlisted = last_unlisted free

  pub widened : (d : Cells) (k : ℕ) {count top : ℕ} → IsChain d.chain it.cells.chain.reserved it.last count ((end r).front ++ record (end r).last { size = (end r).last.size + more } ∷ [])
      → IsBinned it.max d.bins top
      → bins_in it.max d.bins ≡ push (down ((node it.cells.chain it.last).size + more)) it.last widen_left → take count d.chain.spare ≡ take it.count it.cells.chain.spare
      → Grown r d it.last count top k
  widened d k {count} chain bins eo unused =
      let size_is : (node it.cells.chain it.last).size ≡ units ((end r).last ∷ []) = omega (arith, size_at_end r) in
      let sum : (end r).last.size + more ≡ units ((end r).last ∷ []) + more = omega arith in
      let named = (end r).name in
      let parts = apart_parts (end r).front ((end r).last ∷ []) (subst AreCoalesced (end r).is (w r).apart) in
      grown r d k it.last (end r).front ((end r).last ∷ []) (end r).is (left_false (ends_free (end r).front) (not (end r).last.used) parts.2 (ap not (b_used r))) (b_used r, tt) (named, tt)
      (inl (omega (arith, one-eq it.last (end r).last.name named))) (inl (omega arith)) (λ n. absurd (cc))
      (rw (b_used r, named, sum) at chain) bins (rw (← is_left, ← size_is) eo)
      (take count d.chain.spare, inl (ap₂ (λ (l : List ℕ) (i : ℕ). l ++ i ∷ []) (sym unused) named), refl)

-- what was counted before changes nothing of it
pub adds_counted : (more : ℕ) (v w : View) (accesses : ℕ) → Adds more (record v { accesses = accesses }) w → Adds more v w
adds_counted more v w accesses g = record {
  before = g.before;
  last = g.last;
  blocks = g.blocks;
  free = g.free;
  name = g.name;
  named = g.named;
  new = λ e. let n = g.new e in record { below = n.below; absent = n.absent };
  names = g.names;
  view = g.view;
  apart = g.apart;
}

-- when it is done
pub extends_done : (more : ℕ) (v w : View) (done : Bool) → Extends more v w done → (done ≡ true) ↔ (1 ≤ more → CanExtend more v)
extends_done more v w true e = (λ h l. elim e [ inl z ↦ absurd (let n = z.0 in omega arith) | inr g ↦ g.1 ], λ h. refl)
extends_done more v w false e = (λ h. absurd (false≢true h), λ h. absurd (e.1 (h e.0)))
