-- The same request in the same state has the same result, and leaves the same state.
use Rattle.std.proofs.Common.{subst₂}
use Rattle.offset_allocator.proofs.{Moving.Begins.begins_still, Moving.Begins.grant_begins, Moving.Begins.aligned_begins, Holding.at_first, Holding.well_first, Holding.block_listed, Holding.fills_counted, Holding.holder}
use Rattle.offset_allocator.proofs.{Linking.Names.names-length, Ranges.split_grants, Served.Serves, Served.plain_serves, Served.aligned_serves, Served.can_grant, Served.split_as}
use Rattle.offset_allocator.proofs.{Served.aligns_counted, Views.ViewUndo.one_place, Common.blocks_needed, Common.units_needed, Common.size_of, Common.Grants}
use Rattle.offset_allocator.proofs.Common.{◌≡◌, true, ℕ, zero, suc, ◌+◌, ◌≤◌, List, [], ◌∷◌, ◌++◌, length, Option, Some, None, refl, sym, ap, ap₂, subst, ◌∙◌, inl, inr, arith, length-append, cases_lt}
use Rattle.offset_allocator.proofs.Common.{value, down, Block, View, Handle, units, times, bin_at, remove, push_all, free_part, padding_to, IsWellFormed, SameSpace, Splits, Allocates, Aligns}
use Rattle.offset_allocator.specs.{Names.AreTaken, Names.IsTaken, Names.Renames, Names.names_of, Relations.SameState, Moving.Relocating.Relocates, Moving.Relocating.RelocatesAligned}
use Rattle.offset_allocator.specs.Tight.{AlignsTight, FillsFirst, CanHold, with_first}

-- ---- views
-- where both calls leave the state as it was
pub both_stay : (v w w' : View) → SameState v w → SameState v w' → SameState w w'
both_stay v w w' a b = b ∙ sym (ap (λ (y : View). record y { accesses = w'.accesses }) a)

-- where both leave the same blocks and bins, and the same names unused
pub both_leave : (v z w w' : View) → SameSpace v w → SameSpace z w' → SameSpace v z → w.unused ≡ w'.unused → SameState w w'
both_leave v z w w' a b c e =
    b
    ∙ ap (λ (y : View). record y { unused = w'.unused; accesses = w'.accesses }) c
    ∙ ap (λ (l : List ℕ). record v { unused = l; accesses = w'.accesses }) (sym e)
    ∙ sym (ap (λ (y : View). record y { accesses = w'.accesses }) a)

-- ---- names
pub last_same : {A : Type 0} (l m : List A) (x y : A) → l ++ x ∷ [] ≡ m ++ y ∷ [] → (x ≡ y) × (l ≡ m)
last_same [] [] x y e = (cc, refl)
last_same [] (b ∷ m) x y e = absurd (omega (arith, ap length e, length-append m (y ∷ [])))
last_same (a ∷ l) [] x y e = absurd (omega (arith, ap length e, length-append l (x ∷ [])))
last_same {A} (a ∷ l) (b ∷ m) x y e =
    let first : a ≡ b = cc in
    let rest : l ++ x ∷ [] ≡ m ++ y ∷ [] = cc in
    let r = last_same l m x y rest in
    (r.0, ap₂ (λ (c : A) (k : List A). c ∷ k) first r.1)

pub one_name : (k : ℕ) (u : List ℕ) (x y : ℕ) (l m : List ℕ) → IsTaken k u x l → IsTaken k u y m → (x ≡ y) × (l ≡ m)
one_name k u x y l m (inl e) (inl f) = last_same l m x y (sym e ∙ f)
one_name k u x y l m (inl e) (inr f) = absurd (omega (arith, ap length (sym e ∙ f.0), length-append l (x ∷ [])))
one_name k u x y l m (inr e) (inl f) = absurd (omega (arith, ap length (sym f ∙ e.0), length-append m (y ∷ [])))
one_name k u x y l m (inr e) (inr f) = (e.1 ∙ sym f.1, e.2 ∙ sym f.2)

pub same_taken : (xs ys : List ℕ) (k : ℕ) (u l m : List ℕ) → length xs ≡ length ys → AreTaken k u xs l → AreTaken k u ys m → (xs ≡ ys) × (l ≡ m)
same_taken [] [] k u l m e s t = (refl, s ∙ sym t)
same_taken [] (y ∷ ys) k u l m e s t = absurd (omega (arith, e))
same_taken (x ∷ xs) [] k u l m e s t = absurd (omega (arith, e))
same_taken (x ∷ xs) (y ∷ ys) k u l m e s t =
    let o = one_name k u x y s.0 t.0 s.1 t.1 in
    let r = same_taken xs ys (suc k) s.0 l m (omega (arith, e)) s.2 (subst (λ z. AreTaken (suc k) z ys m) (sym o.1) t.2) in
    (ap₂ (λ (a : ℕ) (l : List ℕ). a ∷ l) o.0 r.0, r.1)

-- of the blocks new only how many they are counts
pub same_renamed : (v : View) (old old' new new' : List Block) (w w' : View) → old ≡ old' → length new ≡ length new' → Renames v old new w → Renames v old' new' w'
    → (names_of new ≡ names_of new') × (w.unused ≡ w'.unused)
same_renamed v old old' new new' w w' e f s t =
    same_taken (names_of new) (names_of new') (length v.blocks) (v.unused ++ names_of old) w.unused w'.unused (names-length new ∙ f ∙ sym (names-length new')) s
    (subst (λ (bs : List Block). AreTaken (length v.blocks) (v.unused ++ names_of bs) (names_of new') w'.unused) (sym e) t)

parts_long : (p r x y x' y' : ℕ) → length (free_part x p ++ free_part y r) ≡ length (free_part x' p ++ free_part y' r)
parts_long zero zero x y x' y' = refl
parts_long zero (suc r) x y x' y' = refl
parts_long (suc p) zero x y x' y' = refl
parts_long (suc p) (suc r) x y x' y' = refl

parts_same : (p r x y x' y' : ℕ) → names_of (free_part x p ++ free_part y r) ≡ names_of (free_part x' p ++ free_part y' r) → (free_part x p ≡ free_part x' p) × (free_part y r ≡ free_part y' r)
parts_same zero zero x y x' y' e = (refl, refl)
parts_same zero (suc r) x y x' y' e = let s : y ≡ y' = cc in (refl, ap (λ z. free_part z (suc r)) s)
parts_same (suc p) zero x y x' y' e = let s : x ≡ x' = cc in (ap (λ z. free_part z (suc p)) s, refl)
parts_same (suc p) (suc r) x y x' y' e =
    let s : x ≡ x' = cc in
    let t : y ≡ y' = cc in
    (ap (λ z. free_part z (suc p)) s, ap (λ z. free_part z (suc r)) t)

-- ---- splits
module _ (needed n : ℕ) (padding_at : ℕ → ℕ) (v : View) (known : IsWellFormed v) (w w' : View) (g g' : Handle) (s : Splits needed n padding_at v w g) (t : Splits needed n padding_at v w' g') where
  same_class : down s.block.size ≡ down t.block.size
  same_class = elim (cases_lt (down s.block.size) (down t.block.size)) [
    | inl l ↦ absurd (let q = sym s.newest ∙ t.smallest (down s.block.size) s.fits l in cc)
    | inr l ↦ elim (cases_lt (down t.block.size) (down s.block.size)) [
      | inl m ↦ absurd (let q = sym t.newest ∙ s.smallest (down t.block.size) t.fits m in cc)
      | inr m ↦ omega (arith, l, m)
    ]
  ]

  same_name : s.block.name ≡ t.block.name
  same_name = let q : s.block.name ∷ s.older ≡ t.block.name ∷ t.older = sym s.newest ∙ ap (bin_at v.bins) same_class ∙ t.newest in cc

  here : (s.before ≡ t.before) × (s.block ≡ t.block) × (s.after ≡ t.after)
  here = one_place v known s.block.name s.before t.before s.after t.after s.block t.block s.blocks t.blocks refl (sym same_name)

  same_padding : s.padding ≡ t.padding
  same_padding = s.padded ∙ ap (λ (l : List Block). padding_at (units l)) here.0 ∙ sym t.padded

  same_remainder : s.remainder ≡ t.remainder
  same_remainder = omega (arith, s.whole, t.whole, same_padding, ap (λ (b : Block). b.size) here.1)

  abbrev parts' : List Block
  parts' = free_part t.padding_name s.padding ++ free_part t.remainder_name s.remainder

  names : (names_of (free_part s.padding_name s.padding ++ free_part s.remainder_name s.remainder) ≡ names_of parts') × (w.unused ≡ w'.unused)
  names = same_renamed v [] [] (free_part s.padding_name s.padding ++ free_part s.remainder_name s.remainder) parts' w w' refl
      (parts_long s.padding s.remainder s.padding_name s.remainder_name t.padding_name t.remainder_name) s.names
      (subst₂ (λ p r. Renames v [] (free_part t.padding_name p ++ free_part t.remainder_name r) w') (sym same_padding) (sym same_remainder) t.names)

  free_parts : (free_part s.padding_name s.padding ≡ free_part t.padding_name t.padding) × (free_part s.remainder_name s.remainder ≡ free_part t.remainder_name t.remainder)
  free_parts =
      let e = parts_same s.padding s.remainder s.padding_name s.remainder_name t.padding_name t.remainder_name names.0 in
      (e.0 ∙ ap (free_part t.padding_name) same_padding, e.1 ∙ ap (free_part t.remainder_name) same_remainder)

  same_parts : s.parts ≡ t.parts
  same_parts =
      s.made
      ∙ ap₂ (λ (p r : List Block). p ++ record s.block { size = n; used = true } ∷ r) free_parts.0 free_parts.1
      ∙ ap (λ (b : Block). free_part t.padding_name t.padding ++ record b { size = n; used = true } ∷ free_part t.remainder_name t.remainder) here.1
      ∙ sym t.made

  abbrev left : List Block → List Block → List Block → Block → View
  left before parts after b = record v { blocks = before ++ (parts ++ after); bins = push_all parts (remove (down b.size) b.name v.bins) }

  same_view : left s.before s.parts s.after s.block ≡ left t.before t.parts t.after t.block
  same_view =
      ap₂ (λ (before parts : List Block). left before parts s.after s.block) here.0 same_parts
      ∙ ap₂ (λ (after : List Block) (b : Block). left t.before t.parts after b) here.2 here.1

  pub splits_same : (g ≡ g') × SameState w w'
  splits_same = (
    s.grant
        ∙ ap₂ (λ (x o : ℕ). let h : Handle = record { name = x; offset = o } in h) same_name (ap₂ (λ (l : List Block) (p : ℕ). units l + p) here.0 same_padding)
        ∙ sym t.grant,
    both_leave (left s.before s.parts s.after s.block) (left t.before t.parts t.after t.block) w w' s.view t.view (sym same_view) names.1,
  )

-- ---- requests
serves_same : (blocks needed n : ℕ) (padding_at : ℕ → ℕ) (v : View) → IsWellFormed v → (w w' : View) (r r' : Option Handle) → Serves blocks needed n padding_at v w r → Serves blocks needed n padding_at v w' r'
    → (r ≡ r') × SameState w w'
serves_same blocks needed n padding_at v known w w' None None a b = (refl, both_stay v w w' a.1 b.1)
serves_same blocks needed n padding_at v known w w' None (Some g) a b = absurd (a.0 ((can_grant blocks needed n padding_at v w' known (Some g) b).0 refl))
serves_same blocks needed n padding_at v known w w' (Some g) None a b = absurd (b.0 ((can_grant blocks needed n padding_at v w known (Some g) a).0 refl))
serves_same blocks needed n padding_at v known w w' (Some g) (Some h) a b = let e = splits_same needed n padding_at v known w w' g h a.1 b.1 in (ap Some e.0, e.1)

-- what was counted before changes nothing
serves_counted : (blocks needed n : ℕ) (padding_at : ℕ → ℕ) (v : View) (k : ℕ) (w : View) (r : Option Handle) → Serves blocks needed n padding_at (record v { accesses = k }) w r → Serves blocks needed n padding_at v w r
serves_counted blocks needed n padding_at v k w None a = a
serves_counted blocks needed n padding_at v k w (Some g) a = (a.0, split_as a.1 v.accesses w.accesses padding_at (λ o. refl))

serves_decided : (blocks needed n : ℕ) (padding_at : ℕ → ℕ) (v v' w w' : View) → IsWellFormed v → SameState v v' → (r r' : Option Handle) → Serves blocks needed n padding_at v w r
    → Serves blocks needed n padding_at v' w' r' → (r ≡ r') × SameState w w'
serves_decided blocks needed n padding_at v v' w w' known same r r' a b =
    serves_same blocks needed n padding_at v known w w' r r' a
    (serves_counted blocks needed n padding_at v v'.accesses w' r' (subst (λ z. Serves blocks needed n padding_at z w' r') same b))

pub allocates_decided : (n : ℕ) (v v' w w' : View) → IsWellFormed v → SameState v v' → (r r' : Option Handle) → Allocates n v w r → Allocates n v' w' r' → (r ≡ r') × SameState w w'
allocates_decided n v v' w w' known same r r' a b = serves_decided 1 n n (λ o. 0) v v' w w' known same r r' (plain_serves n v w r a) (plain_serves n v' w' r' b)

pub aligns_decided : (n align : ℕ) (v v' w w' : View) → IsWellFormed v → SameState v v' → (r r' : Option Handle) → Aligns n align v w r → Aligns n align v' w' r' → (r ≡ r') × SameState w w'
aligns_decided n align v v' w w' known same r r' a b =
    serves_decided (blocks_needed align) (units_needed n align) n (padding_to align) v v' w w' known same r r' (aligned_serves n align v w r a) (aligned_serves n align v' w' r' b)

-- ---- any free block that is large enough
module _ (n align : ℕ) (v : View) (known : IsWellFormed v) where
  brought_well : (w : View) (g : Handle) (a : FillsFirst n align v w (Some g)) → IsWellFormed (with_first a.1.0 a.1.1 v)
  brought_well w g a =
      let s = a.1.3 in
      let at = at_first v known a.1.0 n a.1.1 (padding_to align) s in
      let listed = block_listed v known (record { before = s.before; block = s.block; after = s.after }) s.blocks s.free in
      let named = subst (λ y. 1 ≤ times y (bin_at v.bins (down s.block.size))) at.name listed in
      well_first v known a.1.0 a.1.1 at.small (subst (λ d. 1 ≤ times a.1.1 (bin_at v.bins d)) at.class named)

  -- the block that is first to hold it is the same, and so is its class
  fills_same : (w w' : View) (g g' : Handle) → FillsFirst n align v w (Some g) → FillsFirst n align v w' (Some g') → (g ≡ g') × SameState w w'
  fills_same w w' g g' a b =
      let c = a.1.0 in
      let x = a.1.1 in
      let s = a.1.3 in
      let t = b.1.3 in
      let at = at_first v known c n x (padding_to align) s in
      let there = at_first v known b.1.0 n b.1.1 (padding_to align) t in
      let named : x ≡ b.1.1 = let q = sym a.1.2 ∙ b.1.2 in cc in
      let same = one_place v known x s.before t.before s.after t.after s.block t.block s.blocks t.blocks at.name (there.name ∙ sym named) in
      let class : c ≡ b.1.0 = sym at.class ∙ ap (λ (d : Block). down d.size) same.1 ∙ there.class in
      splits_same (value c) n (padding_to align) (with_first c x v) (brought_well w g a) w w' g g' s
      (subst₂ (λ d y. Splits (value d) n (padding_to align) (with_first d y v) w' g') (sym class) (sym named) t)

  pub filled_grants : (w : View) → IsWellFormed w → (g : Handle) → FillsFirst n align v w (Some g) → Grants n v w g
  filled_grants w after g a =
      let k = split_grants a.1.3 (brought_well w g a) after in
      record { not_live = k.not_live; range = k.range; within = k.within; disjoint = k.disjoint; others = k.others }

  tight_holds : (w : View) (g : Handle) → AlignsTight n align v w (Some g) → CanHold n align v
  tight_holds w g (inl a) =
      let s = a.1 in
      (a.0, (record { before = s.before; block = s.block; after = s.after }, s.blocks, s.free, omega (arith, s.whole, s.padded)))
  tight_holds w g (inr a) = let h = holder v known n align a.1.1.1 a.1.1.2 in (a.1.0, (h.place, h.there, h.free, h.holds))

  tight_same : (w w' : View) (r r' : Option Handle) → AlignsTight n align v w r → AlignsTight n align v w' r' → (r ≡ r') × SameState w w'
  tight_same w w' None None a b = (refl, both_stay v w w' a.1 b.1)
  tight_same w w' None (Some g) a b = absurd (a.0 (tight_holds w' g b))
  tight_same w w' (Some g) None a b = absurd (b.0 (tight_holds w g a))
  tight_same w w' (Some g) (Some h) (inl a) (inl b) = serves_same (blocks_needed align) (units_needed n align) n (padding_to align) v known w w' (Some g) (Some h) a b
  tight_same w w' (Some g) (Some h) (inl a) (inr b) = absurd (b.0 ((can_grant (blocks_needed align) (units_needed n align) n (padding_to align) v w known (Some g) a).0 refl))
  tight_same w w' (Some g) (Some h) (inr a) (inl b) = absurd (a.0 ((can_grant (blocks_needed align) (units_needed n align) n (padding_to align) v w' known (Some h) b).0 refl))
  tight_same w w' (Some g) (Some h) (inr a) (inr b) = let e = fills_same w w' g h a.1 b.1 in (ap Some e.0, e.1)

tight_counted : (n align : ℕ) (v : View) (k : ℕ) (w : View) (r : Option Handle) → AlignsTight n align (record v { accesses = k }) w r → AlignsTight n align v w r
tight_counted n align v k w None a = a
tight_counted n align v k w (Some g) (inl a) = inl (aligns_counted n align v w k (Some g) a)
tight_counted n align v k w (Some g) (inr a) = inr (a.0, fills_counted n align v w k (Some g) a.1)

pub tight_decided : (n align : ℕ) (v v' w w' : View) → IsWellFormed v → SameState v v' → (r r' : Option Handle) → AlignsTight n align v w r → AlignsTight n align v' w' r' → (r ≡ r') × SameState w w'
tight_decided n align v v' w w' known same r r' a b =
    tight_same n align v known w w' r r' a (tight_counted n align v v'.accesses w' r' (subst (λ z. AlignsTight n align z w' r') same b))

-- ---- a second range
relocates_same : (x : ℕ) (v : View) → IsWellFormed v → (k : ℕ) (w w' : View) (r r' : Option Handle) → Relocates x v w r → Relocates x (record v { accesses = k }) w' r' → (r ≡ r') × SameState w w'
relocates_same x v known k w w' None None a b = (refl, both_stay v w w' a.1 b.1)
relocates_same x v known k w w' None (Some g) a b = absurd (omega (arith, b.1, a.0 g.offset (begins_still (size_of x v) g.offset (record v { accesses = k }) v.unused v.accesses (grant_begins (size_of x v) (record v { accesses = k }) w' g b.0))))
relocates_same x v known k w w' (Some g) None a b = absurd (omega (arith, a.1, b.0 g.offset (begins_still (size_of x v) g.offset v v.unused k (grant_begins (size_of x v) v w g a.0))))
relocates_same x v known k w w' (Some g) (Some h) a b = allocates_decided (size_of x v) v (record v { accesses = k }) w w' known refl (Some g) (Some h) a.0 b.0

pub relocates_decided : (x : ℕ) (v v' w w' : View) → IsWellFormed v → SameState v v' → (r r' : Option Handle) → Relocates x v w r → Relocates x v' w' r' → (r ≡ r') × SameState w w'
relocates_decided x v v' w w' known same r r' a b = relocates_same x v known v'.accesses w w' r r' a (subst (λ z. Relocates x z w' r') same b)

aligned_same : (x align : ℕ) (v : View) → 1 ≤ align → IsWellFormed v → (k : ℕ) (w w' : View) (r r' : Option Handle) → RelocatesAligned x align v w r
    → RelocatesAligned x align (record v { accesses = k }) w' r' → (r ≡ r') × SameState w w'
aligned_same x align v some known k w w' None None a b = (refl, both_stay v w w' a.1 b.1)
aligned_same x align v some known k w w' None (Some g) a b =
    let n = units_needed (size_of x v) align in
    let o = units b.0.1.before in
    let room = b.0.0 in
    let before = b.1 in
    absurd (omega (arith, before, a.0 o room (begins_still n o (record v { accesses = k }) v.unused v.accesses (aligned_begins (size_of x v) align (record v { accesses = k }) w' g some b.0))))
aligned_same x align v some known k w w' (Some g) None a b =
    let n = units_needed (size_of x v) align in
    let o = units a.0.1.before in
    let room = a.0.0 in
    let before = a.1 in
    absurd (omega (arith, before, b.0 o room (begins_still n o v v.unused k (aligned_begins (size_of x v) align v w g some a.0))))
aligned_same x align v some known k w w' (Some g) (Some h) a b = aligns_decided (size_of x v) align v (record v { accesses = k }) w w' known refl (Some g) (Some h) a.0 b.0

pub relocates_aligned_decided : (x align : ℕ) (v v' w w' : View) → 1 ≤ align → IsWellFormed v → SameState v v' → (r r' : Option Handle) → RelocatesAligned x align v w r
    → RelocatesAligned x align v' w' r' → (r ≡ r') × SameState w w'
relocates_aligned_decided x align v v' w w' some known same r r' a b =
    aligned_same x align v some known v'.accesses w w' r r' a (subst (λ z. RelocatesAligned x align z w' r') same b)
