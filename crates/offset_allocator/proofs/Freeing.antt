-- The whole allocator after a block was freed.
use Rattle.offset_allocator.proofs.Common.{take, ◌≡◌, ℕ, ◌+◌, ◌<◌, ◌^◌, Bool, true, not, ◌&&◌, List, [], ◌∷◌, ◌++◌, Option, Some, None, if◌then◌else◌, refl, sym, ap, ap₂, subst, ◌∙◌, arith, nat_eq}
use Rattle.offset_allocator.proofs.Common.{false≢true, down, Cells, Block, View, Place, one, count_named, count_in_bin, IsWellFormed, units, place_of, is_used_at, free_end, without_end, free_start}
use Rattle.offset_allocator.proofs.Common.{without_start, remove_all, push, free_block, replace, AreCoalesced, remove, IsChain, HasPlace, blocks, bins_in, IsBinned, IsSound, view_of, AreInBins}
use Rattle.offset_allocator.proofs.{Common.SameSpace, Common.Frees, Common.common_steps, Filing.Filed.share, Sound.Fields, Sound.AreSound, Sound.shown, Sound.well_counted, Linking.Places.located}
use Rattle.offset_allocator.proofs.{Views.ViewPlaces.place_at, Views.ViewTaken.well_frees, Views.ViewTaken.tally_end, Views.ViewTaken.tally_start, Views.ViewApart.apart_parts}
use Rattle.offset_allocator.proofs.{Views.ViewApart.apart_coalesced, Views.ViewApart.coalesced_parts, Released.idle_append, Released.idle_end, Released.idle_start, Joints.stepped, Joints.free_most}
use Rattle.offset_allocator.proofs.{Joints.free_units-append, Joints.free_units-free, Joints.free_units-used, Tallies.tally_append, Tallies.units-append, Tallies.free_units, Tallies.free_sum}
use Rattle.offset_allocator.specs.Names.{names_of}

share_used : (k y : ℕ) (b : Block) → b.used ≡ true → share k y b ≡ 0
share_used k y b e = ap (λ (u : Bool). one (not u && (nat_eq k (down b.size) && nat_eq y b.name))) e

pub remove_all-append : (ys zs : List Block) (o : List (List ℕ)) → remove_all (ys ++ zs) o ≡ remove_all zs (remove_all ys o)
remove_all-append [] zs o = refl
remove_all-append (a ∷ ys) zs o = remove_all-append ys zs (if a.used then o else remove (down a.size) a.name o)

pub remove_used : (b : Block) (zs : List Block) (o : List (List ℕ)) → b.used ≡ true → remove_all (b ∷ zs) o ≡ remove_all zs o
remove_used b zs o e = ap (λ (u : Bool). remove_all zs (if u then o else remove (down b.size) b.name o)) e

-- free blocks alone
units_end : (l : List Block) → free_units (free_end l) ≡ units (free_end l)
units_end [] = grind arith
units_end (b ∷ []) = grind (arith, free_units-free)
units_end (b ∷ d ∷ l) = grind (arith, units_end (d ∷ l))

pub units_start : (l : List Block) → free_units (free_start l) ≡ units (free_start l)
units_start [] = grind arith
units_start (b ∷ l) = grind (arith, free_units-free)

-- the handle names a used block, as the fields see it
pub named_live : (u v : View) (x y : ℕ) → u ≡ v → y ≡ x → is_used_at (place_of y v.blocks) ≡ true → is_used_at (place_of x u.blocks) ≡ true
named_live u v x y e q h = ap₂ (λ (i : ℕ) (z : View). is_used_at (place_of i z.blocks)) (sym q) e ∙ h

-- where it is
pub record IsAt (f : Fields) (x : ℕ) : Type 0 where
  pub place : Place
  pub is : place_of x (blocks f.cells.chain f.last) ≡ Some place
  pub list_is : blocks f.cells.chain f.last ≡ place.before ++ place.block ∷ place.after
  pub alone : count_named x place.before ≡ 0
  pub held : HasPlace f.cells.chain f.cells.chain.reserved f.last f.count x place

-- a release: sound fields, and the name of a used block
pub record Release (f : Fields) (x : ℕ) : Type 0 where
  pub sound : AreSound f
  pub live : is_used_at (place_of x (blocks f.cells.chain f.last)) ≡ true

module _ {f : Fields} {x : ℕ} (r : Release f x) where
  s : AreSound f
  s = r.sound

  abbrev max : ℕ
  max = f.max

  abbrev c : Cells
  c = f.cells

  abbrev last : ℕ
  last = f.last

  abbrev total : ℕ
  total = f.free

  abbrev v : View
  v = shown f

  abbrev bs : List Block
  bs = blocks c.chain last

  abbrev ls : List (List ℕ)
  ls = bins_in max c.bins

  pub w : IsWellFormed (shown f)
  w = well_counted (shown (record f { accesses = 0 })) f.accesses s.well

  pub at : IsAt f x
  at = go (place_of x bs) refl
    where
      go : (o : Option Place) → place_of x bs ≡ o → IsAt f x
      go None e = absurd (false≢true (sym (ap is_used_at e) ∙ r.live))
      go (Some p) e = let a = place_at x bs p e in record { place = p; is = e; list_is = a.0; alone = a.2; held = located s.space e }

  abbrev fs : List Block
  fs = at.place.before

  abbrev b : Block
  b = at.place.block

  abbrev cs : List Block
  cs = at.place.after

  pub used : at.place.block.used ≡ true
  used = sym (ap is_used_at at.is) ∙ r.live

  pub room_for : f.free + at.place.block.size < 2 ^ 32
  room_for = grind (arith, free_units-append, free_units-used, used, units-append, free_most, free_sum)

  -- the bins hold the other free blocks
  pub filed : AreInBins (at.place.before ++ at.place.after) (bins_in f.max f.cells.bins)
  filed k y = omega (arith, w.binned k y, ap (count_in_bin k y) at.list_is, tally_append (share k y) fs (b ∷ cs), share_used k y b used, tally_append (share k y) fs cs)

  -- the size of the whole block, and the bins without the blocks that are coalesced into it
  abbrev pub whole : ℕ
  whole = (units (free_end at.place.before) + at.place.block.size) + units (free_start at.place.after)

  abbrev pub left : List (List ℕ)
  left = remove_all (free_start at.place.after) (remove_all (free_end at.place.before) (bins_in f.max f.cells.bins))

  pub freed : (d : Cells) (last' count' top' acc' : ℕ)
      → IsChain d.chain f.cells.chain.reserved last' count' (without_end at.place.before ++ free_block at.place.block.name whole ∷ without_start at.place.after) → IsBinned max d.bins top'
      → bins_in f.max d.bins ≡ push (down whole) x left
      → take count' d.chain.spare ≡ take f.count f.cells.chain.spare ++ names_of (free_end at.place.before ++ free_start at.place.after)
      → IsSound f.max f.size f.limit d last' count' top' (f.free + at.place.block.size) × Frees x (shown f) (view_of f.max f.size f.limit d last' count' acc')
  freed d last' count' top' acc' chain bins eo unused =
      let gone : List Block = free_end fs ++ (b ∷ free_start cs) in
      let sum : units gone ≡ (units (free_end fs) + b.size) + units (free_start cs) = units-append (free_end fs) (b ∷ free_start cs) ∙ omega arith in
      let removes : remove_all gone ls ≡ remove_all (free_start cs) (remove_all (free_end fs) ls) = grind (arith, common_steps, remove_all-append, remove_used, used) in
      let was = ap free_units at.list_is ∙ free_units-append fs (b ∷ cs) ∙ ap (λ k. free_units fs + k) (free_units-used b cs used) in
      let freed : Block = free_block x (units gone) in
      let total = free_units-append (without_end fs) (freed ∷ without_start cs) ∙ ap (λ k. free_units (without_end fs) + k) (free_units-free freed (without_start cs) refl) in
      let left_view : View = record (replace v (without_end fs) gone (freed ∷ []) (without_start cs)) { unused = take count' d.chain.spare } in
      let apart = apart_parts fs (b ∷ cs) (subst AreCoalesced at.list_is w.apart) in
      let frees : (u : View) → SameSpace left_view u → u.unused ≡ take count' d.chain.spare → Frees x v u = λ u same names. record {
        before = without_end fs;
        left = free_end fs;
        block = b;
        right = free_start cs;
        after = without_start cs;
        blocks = at.list_is ∙ coalesced_parts fs (b ∷ []) cs;
        named = at.held.name;
        used = used;
        free = idle_append (free_end fs) (free_start cs) (idle_end fs) (idle_start cs);
        names = names ∙ unused;
        view = same;
        apart = subst AreCoalesced (sym (ap (λ (u : View). u.blocks) same)) (apart_coalesced fs freed cs apart.0 apart.1.1);
      } in
      let named : IsChain d.chain f.cells.chain.reserved last' count' (without_end fs ++ free_block x whole ∷ without_start cs) =
      subst (λ y. IsChain d.chain f.cells.chain.reserved last' count' (without_end fs ++ free_block y whole ∷ without_start cs)) at.held.name chain in
      let left = stepped f s left_view d (f.free + b.size) acc' (well_frees x v left_view w (frees left_view refl refl)) refl (rw sum named) refl bins (rw (removes, sum) eo)
      (omega (
        arith,
        s.total,
        free_sum bs,
        was,
        total,
        sum,
        units_end fs,
        units_start cs,
        tally_end (λ (d : Block). if d.used then 0 else d.size) fs,
        tally_start (λ (d : Block). if d.used then 0 else d.size) cs,
      )) in
      (left.0, frees _ left.1 refl)
