-- Where a grant would begin, and what a relocation leaves.
use Rattle.offset_allocator.proofs.{Sound.Fields, Sound.AreSound, Sound.shown, Classes.down_small, Linking.Places.placed, Linking.Places.at_place, Common.size_of, Common.Grants, Common.slice_index}
use Rattle.offset_allocator.proofs.Served.{one_aligns, aligns_counted, aligned_serves, grants, multiple}
use Rattle.offset_allocator.proofs.{Refusals.fit_small, Taken.HasFit, Views.ViewPlaces.place_at, Ranges.live_inside}
use Rattle.offset_allocator.proofs.Common.{◌-◌, ◌%◌, ◌++◌, Bool, true, false, option_map, option_and_then, unwrap_or, if◌then◌else◌, units, place_of, padding_to, blocks_needed, units_needed}
use Rattle.offset_allocator.proofs.Common.{Block, Place, Splits, AdmitsBlocks, CanGrant, max_size}
use Rattle.offset_allocator.proofs.Common.{◌≡◌, ℕ, ◌+◌, ◌<◌, ◌≤◌, List, [], ◌∷◌, length, Option, None, Some, IfSome, refl, sym, ap, subst, ◌∙◌, arith, inl, inr, cases_lt, up, down, Node, node, View}
use Rattle.offset_allocator.proofs.Common.{Handle, HasPlace, IsChain, IsFoundFrom, IsLinked, first_of, bin_at, bins_in, Allocates, Aligns, IsWellFormed, Range, range_of}
use Rattle.offset_allocator.specs.{Relations.SameState, Moving.Relocating.WouldBegin, Moving.Relocating.offset_of, Moving.Relocating.Relocates, Moving.Relocating.RelocatesAligned}

module _ (it : Fields) (s : AreSound it) (n o : ℕ) (b : WouldBegin n (shown it) o) where
  class_small : down b.block.size < 256
  class_small = omega (arith, down_small b.block.size)

  -- no class holds it where none was found
  pub none_begins : IsFoundFrom (up n) (shown it).bins None → ⊥
  none_begins found = let e = sym b.newest ∙ found (down b.block.size) b.fits class_small in absurd (cc)

  -- the class that was found is that of the block
  found_same : (c : ℕ) → IsFoundFrom (up n) (shown it).bins (Some c) → c ≡ down b.block.size
  found_same c found = elim (cases_lt c (down b.block.size)) [
    | inl l ↦ absurd (found.2 (b.smallest c found.0 l))
    | inr l ↦ elim (cases_lt (down b.block.size) c) [
      | inl k ↦ let e = sym b.newest ∙ found.3 (down b.block.size) b.fits k in absurd (cc)
      | inr k ↦ omega (arith, l, k)
    ]
  ]

  there : HasPlace it.cells.chain it.cells.chain.reserved it.last it.count b.block.name (record { before = b.before; block = b.block; after = b.after })
  there = placed (subst (λ (l : List Block). IsChain it.cells.chain it.cells.chain.reserved it.last it.count l) b.blocks s.space) refl

  begins_at : (node it.cells.chain b.block.name).offset ≡ o
  begins_at = ap (λ (v : Node). v.offset) (at_place there) ∙ sym b.begins

  pub some_begins : (c : ℕ) → IsFoundFrom (up n) (shown it).bins (Some c) → (node it.cells.chain (slice_index it.cells.bins.heads c)).offset ≡ o
  some_begins c found =
      let head : slice_index it.cells.bins.heads c ≡ b.block.name =
      s.bins.linked.heads c found.1 ∙ ap (λ (k : ℕ). first_of it.max (bin_at (bins_in it.max it.cells.bins) k)) (found_same c found) ∙ ap (first_of it.max) b.newest in
      ap (λ (x : ℕ). (node it.cells.chain x).offset) head ∙ begins_at

-- the block of a grant begins where it would
pub split_begins : {needed n : ℕ} {padding_at : ℕ → ℕ} {v w : View} {g : Handle} → AdmitsBlocks 1 v → (s : Splits needed n padding_at v w g) → WouldBegin needed v (units s.before)
split_begins room s = record {
  before = s.before;
  block = s.block;
  after = s.after;
  blocks = s.blocks;
  room = room;
  fits = s.fits;
  smallest = s.smallest;
  older = s.older;
  newest = s.newest;
  begins = refl;
}

pub grant_begins : (n : ℕ) (v w : View) (g : Handle) → Allocates n v w (Some g) → WouldBegin n v g.offset
grant_begins n v w g a =
    subst (λ (o : ℕ). WouldBegin n v o) (let e = ap (λ (h : Handle). h.offset) a.1.grant in omega (arith, e, a.1.padded)) (split_begins a.0 a.1)

pub aligned_begins : (n align : ℕ) (v w : View) (g : Handle) → 1 ≤ align → (a : Aligns n align v w (Some g)) → WouldBegin (units_needed n align) v (units a.1.before)
aligned_begins n align v w g some a = split_begins (let r = a.0 in omega (arith, r, some)) a.1

-- where it would begin, it can be granted, if there is room
pub begins_fits : (n o : ℕ) (v : View) → WouldBegin n v o → HasFit n v
begins_fits n o v b = (down b.block.size, b.fits, λ q. let f = sym b.newest ∙ q in absurd (cc))

-- so a grant could be made
pub aligned_can : (n align : ℕ) (v w : View) (g : Handle) → 1 ≤ align → Aligns n align v w (Some g) → CanGrant (blocks_needed align) (units_needed n align) v
aligned_can n align v w g some a = (a.0, begins_fits (units_needed n align) (units a.1.before) v (aligned_begins n align v w g some a))

-- it begins at the padded start of its block
pub aligned_start : (n align : ℕ) (v w : View) (g : Handle) (a : Aligns n align v w (Some g)) → g.offset ≡ units a.1.before + padding_to align (units a.1.before)
aligned_start n align v w g a = ap (λ (h : Handle). h.offset) a.1.grant ∙ ap (λ (p : ℕ). units a.1.before + p) a.1.padded

-- whichever names are unused, and however many accesses were counted
pub begins_still : (n o : ℕ) (v : View) (unused : List ℕ) (k : ℕ) → WouldBegin n v o → WouldBegin n (record v { unused = unused; accesses = k }) o
begins_still n o v unused k b = record {
  before = b.before;
  block = b.block;
  after = b.after;
  blocks = b.blocks;
  room = b.room;
  fits = b.fits;
  smallest = b.smallest;
  older = b.older;
  newest = b.newest;
  begins = b.begins;
}

-- the newest name of a bin that has some is its head
pub head_first : (it : Fields) → AreSound it → (c : ℕ) → c < 256 → (bin_at (bins_in it.max it.cells.bins) c ≡ [] → ⊥)
    → (older : List ℕ) × (bin_at (bins_in it.max it.cells.bins) c ≡ slice_index it.cells.bins.heads c ∷ older)
head_first it s c l some = go (bin_at (bins_in it.max it.cells.bins) c) refl
  where
    go : (xs : List ℕ) → bin_at (bins_in it.max it.cells.bins) c ≡ xs → (older : List ℕ) × (bin_at (bins_in it.max it.cells.bins) c ≡ slice_index it.cells.bins.heads c ∷ older)
    go [] e = absurd (some e)
    go (x ∷ xs) e = (xs, e ∙ ap (λ (y : ℕ). y ∷ xs) (sym (s.bins.linked.heads c l ∙ ap (first_of it.max) e)))

-- the newest name of a bin that has some is that of a node
pub head_below : (it : Fields) → AreSound it → length it.cells.bins.newer ≡ length it.cells.chain.nodes → (c : ℕ) → c < 256 → (bin_at (bins_in it.max it.cells.bins) c ≡ [] → ⊥)
    → slice_index it.cells.bins.heads c < length it.cells.chain.nodes
head_below it s newer c l some = go (bin_at (bins_in it.max it.cells.bins) c) refl (s.bins.linked.links c l)
  where
    go : (xs : List ℕ) → bin_at (bins_in it.max it.cells.bins) c ≡ xs → IsLinked it.max it.cells.bins it.max xs → slice_index it.cells.bins.heads c < length it.cells.chain.nodes
    go [] e k = absurd (some e)
    go (x ∷ xs) e k = omega (arith, k.0, newer, s.bins.linked.heads c l ∙ ap (first_of it.max) e)

module _ (v : View) (x align n o : ℕ) (some : 1 ≤ align) (units_are : n ≡ size_of x v) (begins : o ≡ offset_of x v) where
  -- what was found of the block that a request would take
  abbrev pub Begins : Option ℕ → Type 0
  Begins r = (k : ℕ) × ((m : ℕ) → WouldBegin (n + (align - 1)) (record v { accesses = k }) m → r ≡ Some m)

  needed_is : units_needed (size_of x v) align ≡ n + (align - 1)
  needed_is = omega (arith, some, units_are)

  as_asked : (k m : ℕ) → WouldBegin (units_needed (size_of x v) align) v m → WouldBegin (n + (align - 1)) (record v { accesses = k }) m
  as_asked k m b = begins_still (n + (align - 1)) m v v.unused k (subst (λ (z : ℕ). WouldBegin z v m) needed_is b)

  -- more units are needed than a space can have
  pub far_refuses : IsWellFormed v → max_size < n + (align - 1) → (m : ℕ) → WouldBegin (units_needed (size_of x v) align) v m → offset_of x v ≤ m
  far_refuses known far m b =
      let small = fit_small (units_needed (size_of x v) align) v known (begins_fits (units_needed (size_of x v) align) m v b) in
      absurd (omega (arith, far, small, known.fits, needed_is))

  pub none_relocates : (r : Option ℕ) → Begins r → r ≡ None → (w : View) → SameState v w → RelocatesAligned x align v w None
  none_relocates r b e w same = ((λ m room a. let f = sym e ∙ b.1 m (as_asked b.0 m a) in absurd (cc)), same)

  pub later_relocates : (r : Option ℕ) → Begins r → (m : ℕ) → r ≡ Some m → o ≤ m → (w : View) → SameState v w → RelocatesAligned x align v w None
  later_relocates r b m e l w same = ((λ i room a. let f : Some m ≡ Some i = sym e ∙ b.1 i (as_asked b.0 i a) in grind (arith, l, begins, f)), same)

  pub earlier_relocates : (r : Option ℕ) → Begins r → (m : ℕ) → r ≡ Some m → m < o → (k : ℕ) (w : View) (h : Option Handle) → Aligns n align (record v { accesses = k }) w h
      → RelocatesAligned x align v w h
  earlier_relocates r b m e l k w None a =
      let al = aligns_counted n align v w k None a in
      ((λ i room c. absurd (al.0 (room, begins_fits (units_needed n align) i v (subst (λ (z : ℕ). WouldBegin (units_needed z align) v i) (sym units_are) c)))), al.1)
  earlier_relocates r b m e l k w (Some g) a =
      let al : Aligns n align v w (Some g) = aligns_counted n align v w k (Some g) a in
      let there = aligned_begins n align v w g some al in
      let asked : WouldBegin (n + (align - 1)) (record v { accesses = b.0 }) (units al.1.before) =
      begins_still (n + (align - 1)) (units al.1.before) v v.unused b.0 (let same : units_needed n align ≡ n + (align - 1) = omega (arith, some) in subst (λ (z : ℕ). WouldBegin z v (units al.1.before)) same there) in
      let f : Some m ≡ Some (units al.1.before) = sym e ∙ b.1 (units al.1.before) asked in
      let early : units al.1.before < offset_of x v = grind (arith, l, begins, f) in
      subst (λ (z : ℕ). (c : Aligns z align v w (Some g)) × (units c.1.before < offset_of x v)) units_are (al, early)

-- a block that begins before another ends where that one begins, or before
earlier_ends : (f g h k : List Block) (a b : Block) → f ++ (a ∷ h) ≡ g ++ (b ∷ k) → units f < units g → units f + a.size ≤ units g
earlier_ends [] [] h k a b e l = absurd (omega (arith, l))
earlier_ends (c ∷ f) [] h k a b e l = absurd (omega (arith, l))
earlier_ends [] (d ∷ g) h k a b e l = let same : a ≡ d = cc in omega (arith, ap (λ (z : Block). z.size) same)
earlier_ends (c ∷ f) (d ∷ g) h k a b e l =
    let same : c ≡ d = cc in
    let rest : f ++ (a ∷ h) ≡ g ++ (b ∷ k) = cc in
    let size = ap (λ (z : Block). z.size) same in
    let ih = earlier_ends f g h k a b rest (omega (arith, l, size)) in
    omega (arith, ih, size)

-- where the range at a place begins
abbrev offset_at : Option Place → ℕ
offset_at q = unwrap_or (option_map (λ (r : Range). r.offset) (option_and_then (λ (p : Place). if p.block.used then Some (record { offset = units p.before; size = p.block.size }) else None) q)) 0

abbrev offset_if : Bool → Place → ℕ
offset_if u p = unwrap_or (option_map (λ (r : Range). r.offset) (if u then Some (record { offset = units p.before; size = p.block.size }) else None)) 0

-- what a relocation grants
module _ (x align : ℕ) (v w : View) (some : 1 ≤ align) (known : IsWellFormed v) where
  pub relocated_grants : (h : Option Handle) → RelocatesAligned x align v w h → IfSome h (Grants (size_of x v) v w)
  relocated_grants None r = tt
  relocated_grants (Some g) r =
      grants (blocks_needed align) (units_needed (size_of x v) align) (size_of x v) (padding_to align) v w known (omega (arith, some)) (λ o l. omega arith) (Some g)
      (aligned_serves (size_of x v) align v w (Some g) r.0)

  pub relocated_aligned : (h : Option Handle) → RelocatesAligned x align v w h → IfSome h (λ (g : Handle). g.offset % align ≡ 0)
  relocated_aligned None r = tt
  relocated_aligned (Some g) r = multiple (size_of x v) align v w (Some g) some r.0

  pub relocated_same : (h : Option Handle) → RelocatesAligned x align v w h → h ≡ None → SameState v w
  relocated_same None r e = r.1
  relocated_same (Some g) r e = absurd (cc)

  pub relocated_before : (h : Option Handle) → RelocatesAligned x align v w h → IfSome h (λ (g : Handle). g.offset + size_of x v ≤ offset_of x v)
  relocated_before None r = tt
  relocated_before (Some g) r =
      let s = r.0.1 in
      let far : units s.before + s.block.size ≤ offset_of x v = at (place_of x v.blocks) refl s.before s.block s.after s.blocks r.1 in
      let offset = ap (λ (h : Handle). h.offset) s.grant in
      omega (arith, far, offset, s.whole)
    where
      here : (u : Bool) (p : Place) (j z : ℕ) → j < offset_if u p → (j < units p.before → j + z ≤ units p.before) → j + z ≤ offset_if u p
      here true p j z l f = f l
      here false p j z l f = absurd (omega (arith, l))

      at : (q : Option Place) → place_of x v.blocks ≡ q → (f : List Block) (a : Block) (h : List Block) → v.blocks ≡ f ++ (a ∷ h) → units f < offset_at q → units f + a.size ≤ offset_at q
      at None e f a h is l = absurd (omega (arith, l))
      at (Some p) e f a h is l = here p.block.used p (units f) a.size l (λ j. earlier_ends f p.before h p.after a p.block (sym is ∙ (place_at x v.blocks p e).0) j)

-- with an alignment of 1
pub one_relocates : (x : ℕ) (v w : View) (h : Option Handle) → RelocatesAligned x 1 v w h → Relocates x v w h
one_relocates x v w None r =
    ((λ o b. let same : size_of x v ≡ units_needed (size_of x v) 1 = omega arith in r.0 o b.room (subst (λ (z : ℕ). WouldBegin z v o) same b)), r.1)
one_relocates x v w (Some g) r =
    let s = r.0.1 in
    let offset = ap (λ (h : Handle). h.offset) s.grant in
    (one_aligns (size_of x v) v w (Some g) r.0, let l = r.1 in omega (arith, l, offset, s.padded))

-- a live range is no longer than the space
pub live_small : (x : ℕ) (v : View) → IsWellFormed v → size_of x v ≤ max_size
live_small x v known = go (range_of x v) refl
  where
    go : (q : Option Range) → range_of x v ≡ q → unwrap_or (option_map (λ (r : Range). r.size) q) 0 ≤ max_size
    go None e = omega arith
    go (Some q) e = omega (arith, live_inside v known x q e, known.fits)
