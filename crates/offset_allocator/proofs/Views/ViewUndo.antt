-- A request that is granted, and released at once, leaves no trace.
use Rattle.offset_allocator.specs.Relations.{SameState}
use Rattle.offset_allocator.proofs.Common.{◌≡◌, ℕ, zero, suc, ◌<◌, ◌≤◌, Bool, true, false, not, ◌&&◌, List, [], ◌∷◌, ◌++◌, length, Some, slice_set, refl, sym, ap, ap₂, subst, ◌∙◌, arith, append_assoc}
use Rattle.offset_allocator.proofs.Common.{set-get_or, AllByRecursion, down, Block, View, Place, Handle, used_block, free_block, units, times, count_named, starts_free, AreCoalesced, bin_at, push}
use Rattle.offset_allocator.proofs.{Common.remove, Served.split_as, Served.well_served, Linking.Walks.without_first, Ranges.beside, Released.idle_parts, Released.end_is, Released.start_is}
use Rattle.offset_allocator.proofs.{Classes.down_small, Views.ViewBins.names_same, Views.ViewBins.length_remove, Views.ViewBins.times_remove, Views.ViewPlaces.place_here, Tallies.listed_named}
use Rattle.offset_allocator.proofs.Tallies.{part_sums, new_absent, one-same}
use Rattle.offset_allocator.proofs.Common.{push_all, remove_all, replace, free_start, without_start, free_end, without_end, free_part, IsWellFormed, place_of, SameSpace, Splits, Frees, Allocates}
use Rattle.offset_allocator.proofs.Views.ViewApart.{ends_free, apart_parts, left_false, right_false, no_end, no_start}

set_again : (bins : List (List ℕ)) (c : ℕ) (l m : List ℕ) → slice_set (slice_set bins c l) c m ≡ slice_set bins c m
set_again [] c l m = refl
set_again (o ∷ bins) zero l m = refl
set_again (o ∷ bins) (suc c) l m = ap (λ z. o ∷ z) (set_again bins c l m)

-- a name that is put in and leaves
remove_put : (c x : ℕ) (bins : List (List ℕ)) → length bins ≡ 256 → c < 256 → times x (bin_at bins c) ≡ 0 → remove c x (push c x bins) ≡ bins
remove_put c x bins h b e = grind (arith, set_again, names_same, without_first, one-same, set-get_or)

-- a first name that leaves and is put in
put_remove : (c x : ℕ) (xs : List ℕ) (bins : List (List ℕ)) → length bins ≡ 256 → c < 256 → bin_at bins c ≡ x ∷ xs → times x xs ≡ 0 → push c x (remove c x bins) ≡ bins
put_remove c x xs bins h b e z = grind (arith, set_again, names_same, without_first, one-same, set-get_or)

part_start : (x n : ℕ) (bs : List Block) → starts_free bs ≡ false → (free_start (free_part x n ++ bs) ≡ free_part x n) × (without_start (free_part x n ++ bs) ≡ bs)
part_start x zero bs e = no_start bs e
part_start x (suc n) bs e = (refl, refl)

bins_back : (x n : ℕ) (bins : List (List ℕ)) → length bins ≡ 256 → (1 ≤ n → times x (bin_at bins (down n)) ≡ 0)
    → remove_all (free_part x n) (push_all (free_part x n) bins) ≡ bins
bins_back x zero bins h e = refl
bins_back x (suc n) bins h e = remove_put (down (suc n)) x bins h (down_small (suc n)) (e (omega arith))

-- a name of a well-formed space is at one place
pub one_place : (v : View) → IsWellFormed v → (x : ℕ) (fs gs cs ds : List Block) (b d : Block) → v.blocks ≡ fs ++ (b ∷ cs) → v.blocks ≡ gs ++ (d ∷ ds) → b.name ≡ x → d.name ≡ x
    → (fs ≡ gs) × (b ≡ d) × (cs ≡ ds)
one_place v w x fs gs cs ds b d e f p q =
    let at : (hs es : List Block) (c : Block) → v.blocks ≡ hs ++ (c ∷ es) → c.name ≡ x → place_of x v.blocks ≡ Some (record { before = hs; block = c; after = es }) = λ hs es c g r.
    ap (place_of x) g ∙ place_here x hs c es (beside x hs c es (sym r) (omega (arith, w.distinct x, ap (count_named x) g))).0 (sym r) in
    let same : (let z : Place = record { before = fs; block = b; after = cs } in z) ≡ record { before = gs; block = d; after = ds } = let h = sym (at fs cs b e p) ∙ at gs ds d f q in cc in
    (ap (λ (z : Place). z.before) same, ap (λ (z : Place). z.block) same, ap (λ (z : Place). z.after) same)

-- a grant without padding, and its release
module _ (n : ℕ) (v w u : View) (g : Handle) (known : IsWellFormed v) (left : IsWellFormed w) (s : Splits n n (λ offset. 0) v w g) (f : Frees g.name w u) where
  abbrev x : ℕ
  x = s.block.name

  abbrev size : ℕ
  size = s.block.size

  abbrev remainder : List Block
  remainder = free_part s.remainder_name s.remainder

  abbrev bins : List (List ℕ)
  bins = remove (down size) x v.bins

  named : g.name ≡ x
  named = ap (λ (h : Handle). h.name) s.grant

  old : s.block ≡ free_block x size
  old = ap (λ (u : Bool). record { name = s.block.name; size = s.block.size; used = u }) s.free

  -- what the grant leaves
  split : w ≡ record v { blocks = s.before ++ (used_block x n ∷ (remainder ++ s.after)); bins = push_all remainder bins; unused = w.unused; accesses = w.accesses }
  split = grind (arith, old, s.made)

  -- the release takes the block as the grant left it
  here : (s.before ≡ f.before ++ f.left) × (used_block x n ≡ f.block) × (remainder ++ s.after ≡ f.right ++ f.after)
  here = one_place w left x s.before (f.before ++ f.left) (remainder ++ s.after) (f.right ++ f.after) (used_block x n) f.block (ap (λ (z : View). z.blocks) split) (f.blocks
      ∙ simp append_assoc) refl (f.named ∙ named)

  -- nothing free was beside the block
  parts : AreCoalesced s.before × AreCoalesced (s.block ∷ s.after) × ((ends_free s.before && not s.block.used) ≡ false)
  parts = apart_parts s.before (s.block ∷ s.after) (subst AreCoalesced s.blocks known.apart)

  left_parts : AreCoalesced (f.before ++ f.left) × AreCoalesced (f.block ∷ (f.right ++ f.after)) × ((ends_free (f.before ++ f.left) && not f.block.used) ≡ false)
  left_parts = apart_parts (f.before ++ f.left) (f.block ∷ (f.right ++ f.after)) (subst AreCoalesced (f.blocks ∙ simp append_assoc) left.apart)

  abbrev freed : Block
  freed = free_block g.name (units (f.left ++ (f.block ∷ f.right)))

  freed_parts : AreCoalesced f.before × AreCoalesced (freed ∷ f.after) × ((ends_free f.before && true) ≡ false)
  freed_parts = apart_parts f.before (freed ∷ f.after) (subst AreCoalesced (ap (λ (z : View). z.blocks) f.view) f.apart)

  idle : AllByRecursion (λ b. b.used ≡ false) f.left × AllByRecursion (λ b. b.used ≡ false) f.right
  idle = idle_parts f.left f.right f.free

  left_end : (f.left ≡ []) × (f.before ≡ s.before)
  left_end =
      let none = no_end s.before (left_false (ends_free s.before) (not s.block.used) parts.2 (ap not s.free)) in
      let is = end_is f.before f.left idle.0 left_parts.0 (left_false (ends_free f.before) true freed_parts.2 refl) in
      (sym is.0 ∙ ap free_end (sym here.0) ∙ none.0, sym is.1 ∙ ap without_end (sym here.0) ∙ none.1)

  right_start : (f.right ≡ remainder) × (f.after ≡ s.after)
  right_start =
      let some = part_start s.remainder_name s.remainder s.after (right_false (not s.block.used) (starts_free s.after) parts.1.0 (ap not s.free)) in
      let is = start_is f.right f.after idle.1 left_parts.1.1 (right_false true (starts_free f.after) freed_parts.1.0 refl) in
      (sym is.0 ∙ ap free_start (sym here.2) ∙ some.0, sym is.1 ∙ ap without_start (sym here.2) ∙ some.1)

  once : times x (bin_at v.bins (down size)) ≡ 1
  once = omega (arith, known.binned (down size) x, known.distinct x, listed_named (down size) x v.blocks, ap (times x) s.newest, one-same x)

  older_absent : times x s.older ≡ 0
  older_absent = omega (arith, once, ap (times x) s.newest, one-same x)

  rest_absent : 1 ≤ s.remainder → times s.remainder_name (bin_at bins (down s.remainder)) ≡ 0
  rest_absent l = grind (arith, times_remove, down_small, once, listed_named, new_absent)

  sized : units (used_block x n ∷ remainder) ≡ size
  sized = omega (arith, s.whole, s.padded, (part_sums s.remainder_name s.remainder).1)

  pub undone : SameSpace v u
  undone =
      f.view
      ∙ ap₂ (λ (l r : List Block). record (replace w f.before (l ++ (f.block ∷ r)) (free_block g.name (units (l ++ (f.block ∷ r))) ∷ []) f.after)
      { unused = u.unused; accesses = u.accesses }) left_end.0 right_start.0
      ∙ ap₂ (λ (l r : List Block). record (replace w l (f.block ∷ remainder) (free_block g.name (units (f.block ∷ remainder)) ∷ []) r) { unused = u.unused; accesses = u.accesses }) left_end.1 right_start.1
      ∙ ap₂ (λ (i : ℕ) (b : Block). record (replace w s.before (b ∷ remainder) (free_block i (units (b ∷ remainder)) ∷ []) s.after) { unused = u.unused; accesses = u.accesses }) named (sym here.1)
      ∙ ap (λ (z : View). record (replace z s.before (used_block x n ∷ remainder) (free_block x (units (used_block x n ∷ remainder)) ∷ []) s.after) { unused = u.unused; accesses = u.accesses }) split
      ∙ ap (λ m. record v { blocks = s.before ++ (free_block x m ∷ s.after); bins = push (down m) x (remove_all remainder (push_all remainder bins)); unused = u.unused; accesses = u.accesses }) sized
      ∙ ap₂ (λ bs o. record v { blocks = bs; bins = o; unused = u.unused; accesses = u.accesses }) (ap (λ b. s.before ++ (b ∷ s.after)) (sym old) ∙ sym s.blocks)
      (ap (push (down size) x) (bins_back s.remainder_name s.remainder bins (length_remove (down size) x v.bins ∙ known.classes) rest_absent)
      ∙ put_remove (down size) x s.older v.bins known.classes (down_small size) s.newest older_absent)

-- the same, for contracts
pub is_undone : (n : ℕ) (v : View) → IsWellFormed v → (w u : View) (g : Handle) → Allocates n v w (Some g) → Frees g.name w u → SameSpace v u
is_undone n v known w u g a f = undone n v w u g known (well_served 1 n n (λ offset. 0) v w known (omega arith) (λ o l. absurd (omega arith)) g a) a.1 f

-- a grant leaves no trace where it is released, though other requests were refused between
pub taken_back : (n : ℕ) (v w u z : View) (g : Handle) → IsWellFormed v → Allocates n v w (Some g) → SameState w u → Frees g.name u z → SameSpace v z
taken_back n v w u z g known a same f =
    is_undone n v known (record w { accesses = u.accesses }) z g (a.0, split_as a.1 v.accesses u.accesses (λ offset. 0) (λ o. refl)) (subst (λ x. Frees g.name x z) same f)
