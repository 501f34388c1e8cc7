-- A release, a reset, a change of a size or of the end, and a compaction: in the same state each leaves the same state.
use Rattle.offset_allocator.proofs.{Decided.both_leave, Decided.both_stay, Decided.last_same, Decided.same_renamed, Views.ViewUndo.one_place, Views.ViewTaken.well_frees, Sound.well_counted}
use Rattle.offset_allocator.proofs.{Holding.place_there, Reading.size_is, Reading.size_at, Released.end_is, Released.start_is, Released.idle_parts, Released.two_free}
use Rattle.offset_allocator.proofs.Common.{◌≡◌, ◌≢◌, ℕ, zero, suc, ◌+◌, ◌-◌, Bool, true, false, not, List, [], ◌∷◌, ◌++◌, length, Some, IfSome, refl, sym, ap, ap₂, subst, ◌∙◌, inl, inr, arith}
use Rattle.offset_allocator.proofs.Common.{append_assoc, if◌then◌else◌, drop, replicate, cases_lt, AllByRecursion, Block, View, units, count_used, free_block, free_part, used_block, starts_free}
use Rattle.offset_allocator.proofs.Common.{AreCoalesced, IsWellFormed, replace, free_start, without_start, free_end, without_end, free_sizes, push_all, size_of, live, gathered, first_free, Frees}
use Rattle.offset_allocator.proofs.Common.{Resets, Adds, Extends, Resizes, Shrinks, Grows, Compacts}
use Rattle.offset_allocator.proofs.Views.ViewApart.{ends_free, apart_parts, left_false, right_false, no_start}
use Rattle.offset_allocator.specs.{Names.Renames, Names.names_of, Names.free_blocks, Relations.SameState, Relations.FreesLast, View.last_used}
use Rattle.offset_allocator.specs.Moving.Retracting.{Cuts, Retracts, end_part}

-- ---- releases
-- a release, whose block goes with the free blocks at the ends of the lists around it
record Sides {x : ℕ} {v w : View} (f : Frees x v w) : Type 0 where
  at : v.blocks ≡ (f.before ++ f.left) ++ (f.block ∷ (f.right ++ f.after))
  left : (free_end (f.before ++ f.left) ≡ f.left) × (without_end (f.before ++ f.left) ≡ f.before)
  right : (free_start (f.right ++ f.after) ≡ f.right) × (without_start (f.right ++ f.after) ≡ f.after)

sides : {x : ℕ} {v w : View} → IsWellFormed v → (f : Frees x v w) → Sides f
sides {x} {v} {w} known f =
    let at : v.blocks ≡ (f.before ++ f.left) ++ (f.block ∷ (f.right ++ f.after)) = f.blocks ∙ simp append_assoc in
    let around = apart_parts (f.before ++ f.left) (f.block ∷ (f.right ++ f.after)) (subst AreCoalesced at known.apart) in
    let freed : Block = free_block x (units (f.left ++ (f.block ∷ f.right))) in
    let now = apart_parts f.before (freed ∷ f.after) (subst AreCoalesced (ap (λ (z : View). z.blocks) f.view) f.apart) in
    let idle = idle_parts f.left f.right f.free in
    record {
      at = at;
      left = end_is f.before f.left idle.0 around.0 (left_false (ends_free f.before) true now.2 refl);
      right = start_is f.right f.after idle.1 around.1.1 (right_false true (starts_free f.after) now.1.0 refl);
    }

module _ (x : ℕ) (v : View) (known : IsWellFormed v) (a : ℕ) (w w' : View) (f : Frees x v w) (k : Frees x (record v { accesses = a }) w') where
  s : Sides f
  s = sides known f

  t : Sides k
  t = sides (well_counted v a known) k

  here : (f.before ++ f.left ≡ k.before ++ k.left) × (f.block ≡ k.block) × (f.right ++ f.after ≡ k.right ++ k.after)
  here = one_place v known x (f.before ++ f.left) (k.before ++ k.left) (f.right ++ f.after) (k.right ++ k.after) f.block k.block s.at t.at f.named k.named

  same_left : (f.left ≡ k.left) × (f.before ≡ k.before)
  same_left = (sym s.left.0 ∙ ap free_end here.0 ∙ t.left.0, sym s.left.1 ∙ ap without_end here.0 ∙ t.left.1)

  same_right : (f.right ≡ k.right) × (f.after ≡ k.after)
  same_right = (sym s.right.0 ∙ ap free_start here.2 ∙ t.right.0, sym s.right.1 ∙ ap without_start here.2 ∙ t.right.1)

  abbrev freed : View → List Block → List Block → Block → List Block → List Block → View
  freed z before left b right after = replace z before (left ++ (b ∷ right)) (free_block x (units (left ++ (b ∷ right))) ∷ []) after

  same_freed : freed v f.before f.left f.block f.right f.after ≡ freed v k.before k.left k.block k.right k.after
  same_freed =
      ap₂ (λ (before left : List Block). freed v before left f.block f.right f.after) same_left.1 same_left.0
      ∙ ap (λ (b : Block). freed v k.before k.left b f.right f.after) here.1
      ∙ ap₂ (λ (right after : List Block). freed v k.before k.left k.block right after) same_right.0 same_right.1

  frees_same : SameState w w'
  frees_same = both_leave (freed v f.before f.left f.block f.right f.after) (freed (record v { accesses = a }) k.before k.left k.block k.right k.after) w w' f.view k.view
      (ap (λ (z : View). record z { accesses = a }) (sym same_freed))
      (same_renamed v (f.left ++ f.right) (k.left ++ k.right) [] [] w w' (ap₂ (λ (l r : List Block). l ++ r) same_left.0 same_right.0) refl f.names k.names).1

pub frees_decided : (x : ℕ) (v v' w w' : View) → IsWellFormed v → SameState v v' → Frees x v w → Frees x v' w' → SameState w w'
frees_decided x v v' w w' known same f k = frees_same x v known v'.accesses w w' f (subst (λ z. Frees x z w') same k)

-- ---- resets
frees_last_decided : (n : ℕ) (v v' w w' : View) → IsWellFormed v → SameState v v' → FreesLast n v w → FreesLast n v' w' → SameState w w'
frees_last_decided zero v v' w w' known same f k =
    k ∙ ap (λ (z : View). record z { accesses = w'.accesses }) same ∙ sym (ap (λ (z : View). record z { accesses = w'.accesses }) f)
frees_last_decided (suc n) v v' w w' known same f k =
    let one : f.0 ≡ k.0 = let q = sym f.2 ∙ sym (ap (λ (z : View). last_used z.blocks) same) ∙ k.2 in cc in
    let step = frees_decided f.0 v v' f.1 k.1 known same f.3 (subst (λ x. Frees x v' k.1) (sym one) k.3) in
    frees_last_decided n f.1 k.1 w w' (well_frees f.0 v f.1 known f.3) step f.4 k.4

resets_same : (v : View) → IsWellFormed v → (a : ℕ) (w w' : View) → Resets v w → Resets (record v { accesses = a }) w' → SameState w w'
resets_same v known a w w' f k = elim (cases_lt 5 (length v.blocks)) [
  | inl l ↦
      let m = f.many l in
      let n = k.many l in
      let empty : View → ℕ → View = λ z x. record z { blocks = free_block x v.size ∷ []; bins = push_all (free_block x v.size ∷ []) (replicate 256 []) } in
      both_leave (empty v f.name) (empty (record v { accesses = a }) k.name) w w' f.view k.view (ap (empty (record v { accesses = a })) (n.0 ∙ sym m.0)) (m.1 ∙ sym n.1)
  | inr l ↦ frees_last_decided (count_used v.blocks) v (record v { accesses = a }) w w' known refl (f.few l) (k.few l)
]

pub resets_decided : (v v' w w' : View) → IsWellFormed v → SameState v v' → Resets v w → Resets v' w' → SameState w w'
resets_decided v v' w w' known same f k = resets_same v known v'.accesses w w' f (subst (λ z. Resets z w') same k)

-- ---- more units at the end
-- what the new units coalesce with is the free block at the end
added_to : {more : ℕ} {v w : View} → IsWellFormed v → (f : Adds more v w) → (free_end v.blocks ≡ f.last) × (without_end v.blocks ≡ f.before)
added_to {more} {v} {w} known f =
    let added : Block = free_block f.name (units f.last + more) in
    let now = apart_parts f.before (added ∷ []) (subst AreCoalesced (ap (λ (z : View). z.blocks) f.view) f.apart) in
    let e = end_is f.before f.last f.free (subst AreCoalesced f.blocks known.apart) (left_false (ends_free f.before) true now.2 refl) in
    (ap free_end f.blocks ∙ e.0, ap without_end f.blocks ∙ e.1)

module _ (more : ℕ) (v : View) (known : IsWellFormed v) (a : ℕ) (w w' : View) (f : Adds more v w) (k : Adds more (record v { accesses = a }) w') where
  same_last : f.last ≡ k.last
  same_last = sym (added_to known f).0 ∙ (added_to (well_counted v a known) k).0

  same_before : f.before ≡ k.before
  same_before = sym (added_to known f).1 ∙ (added_to (well_counted v a known) k).1

  renamed : (names_of (free_block f.name (units f.last + more) ∷ []) ≡ names_of (free_block k.name (units k.last + more) ∷ [])) × (w.unused ≡ w'.unused)
  renamed = same_renamed v f.last k.last (free_block f.name (units f.last + more) ∷ []) (free_block k.name (units k.last + more) ∷ []) w w' same_last refl f.names k.names

  same_name : f.name ≡ k.name
  same_name = let q = renamed.0 in cc

  abbrev added : View → List Block → List Block → ℕ → View
  added z before last x = record (replace z before last (free_block x (units last + more) ∷ []) []) { size = v.size + more }

  adds_same : SameState w w'
  adds_same = both_leave (added v f.before f.last f.name) (added (record v { accesses = a }) k.before k.last k.name) w w' f.view k.view
      (ap₂ (λ (before last : List Block). added (record v { accesses = a }) before last k.name) (sym same_before) (sym same_last)
      ∙ ap (added (record v { accesses = a }) f.before f.last) (sym same_name))
      renamed.1

extends_same : (more : ℕ) (v : View) → IsWellFormed v → (a : ℕ) (w w' : View) (r r' : Bool) → Extends more v w r → Extends more (record v { accesses = a }) w' r' → (r ≡ r') × SameState w w'
extends_same more v known a w w' true true (inl e) (inl f) = (refl, both_stay v w w' e.1 f.1)
extends_same more v known a w w' true true (inl e) (inr f) = absurd (omega (arith, e.0, f.0))
extends_same more v known a w w' true true (inr e) (inl f) = absurd (omega (arith, e.0, f.0))
extends_same more v known a w w' true true (inr e) (inr f) = (refl, adds_same more v known a w w' e.2 f.2)
extends_same more v known a w w' true false (inl e) f = absurd (omega (arith, e.0, f.0))
extends_same more v known a w w' true false (inr e) f = absurd (f.1 e.1)
extends_same more v known a w w' false true e (inl f) = absurd (omega (arith, e.0, f.0))
extends_same more v known a w w' false true e (inr f) = absurd (e.1 f.1)
extends_same more v known a w w' false false e f = (refl, both_stay v w w' e.2 f.2)

pub extends_decided : (more : ℕ) (v v' w w' : View) → IsWellFormed v → SameState v v' → (r r' : Bool) → Extends more v w r → Extends more v' w' r' → (r ≡ r') × SameState w w'
extends_decided more v v' w w' known same r r' f k = extends_same more v known v'.accesses w w' r r' f (subst (λ z. Extends more z w' r') same k)

-- ---- fewer units at the end
module _ (less : ℕ) (v : View) (a : ℕ) (w w' : View) (f : Cuts less v w) (k : Cuts less (record v { accesses = a }) w') where
  same_end : (f.last ≡ k.last) × (f.before ≡ k.before)
  same_end = last_same f.before k.before f.last k.last (sym f.blocks ∙ k.blocks)

  abbrev rest : List Block → Block → List Block
  rest before last = end_part before last.name (last.size - less)

  abbrev cut : View → List Block → Block → View
  cut z before last = record (replace z before (last ∷ []) (rest before last) []) { size = v.size - less }

  cuts_same : SameState w w'
  cuts_same = both_leave (cut v f.before f.last) (cut (record v { accesses = a }) k.before k.last) w w' f.view k.view
      (ap₂ (λ (before : List Block) (last : Block). cut (record v { accesses = a }) before last) (sym same_end.1) (sym same_end.0))
      (same_renamed v (f.last ∷ []) (k.last ∷ []) (rest f.before f.last) (rest k.before k.last) w w' (ap (λ (b : Block). b ∷ []) same_end.0)
      (ap₂ (λ (before : List Block) (last : Block). length (rest before last)) same_end.1 same_end.0) f.names k.names).1

retracts_same : (less : ℕ) (v : View) (a : ℕ) (w w' : View) (r r' : Bool) → Retracts less v w r → Retracts less (record v { accesses = a }) w' r' → (r ≡ r') × SameState w w'
retracts_same less v a w w' true true (inl e) (inl f) = (refl, both_stay v w w' e.1 f.1)
retracts_same less v a w w' true true (inl e) (inr f) = absurd (omega (arith, e.0, f.0))
retracts_same less v a w w' true true (inr e) (inl f) = absurd (omega (arith, e.0, f.0))
retracts_same less v a w w' true true (inr e) (inr f) = (refl, cuts_same less v a w w' e.1 f.1)
retracts_same less v a w w' true false (inl e) f = absurd (omega (arith, e.0, f.0))
retracts_same less v a w w' true false (inr e) f = absurd (let c = e.1 in f.1 (c.before, c.last, c.blocks, c.free, c.enough))
retracts_same less v a w w' false true e (inl f) = absurd (omega (arith, e.0, f.0))
retracts_same less v a w w' false true e (inr f) = absurd (let c = f.1 in e.1 (c.before, c.last, c.blocks, c.free, c.enough))
retracts_same less v a w w' false false e f = (refl, both_stay v w w' e.2 f.2)

pub retracts_decided : (less : ℕ) (v v' w w' : View) → SameState v v' → (r r' : Bool) → Retracts less v w r → Retracts less v' w' r' → (r ≡ r') × SameState w w'
retracts_decided less v v' w w' same r r' f k = retracts_same less v v'.accesses w w' r r' f (subst (λ z. Retracts less z w' r') same k)

-- ---- another size
-- the free block after the one that is resized, where its size is another afterwards
next_is : (next after before : List Block) (left name n : ℕ) (b u : Block) → AllByRecursion (λ d. d.used ≡ false) next → AreCoalesced (next ++ after) → n + left ≡ units (b ∷ next) → n ≢ b.size
    → AreCoalesced (before ++ (u ∷ (free_part name left ++ after))) → (free_start (next ++ after) ≡ next) × (without_start (next ++ after) ≡ after)
next_is [] after before zero name n b u i apart whole other now = absurd (other (omega (arith, whole)))
next_is [] after before (suc left) name n b u i apart whole other now =
    no_start after (right_false true (starts_free after) (apart_parts before (u ∷ (free_part name (suc left) ++ after)) now).1.1.0 refl)
next_is (d ∷ []) after before left name n b u i apart whole other now = start_is (d ∷ []) after i apart (right_false (not d.used) (starts_free after) apart.0 (ap not i.0))
next_is (d ∷ c ∷ next) after before left name n b u i apart whole other now = absurd (two_free d c (next ++ after) i.0 i.1.0 apart)

resized_next : {x n : ℕ} {v w : View} → IsWellFormed v → (f : Resizes x n v w) → n ≢ f.block.size → (free_start (f.next ++ f.after) ≡ f.next) × (without_start (f.next ++ f.after) ≡ f.after)
resized_next {x} {n} {v} known f other =
    next_is f.next f.after f.before f.left f.name n f.block (used_block x n) f.free (apart_parts f.before (f.block ∷ (f.next ++ f.after)) (subst AreCoalesced f.blocks known.apart)).1.1 f.whole other
    (subst AreCoalesced (ap (λ (z : View). z.blocks) f.view) f.apart)

-- the size that the block has
resized_size : {x n : ℕ} {v w : View} → IsWellFormed v → (f : Resizes x n v w) → size_of x v ≡ f.block.size
resized_size {x} {n} {v} known f =
    size_is x v ∙ ap size_at (place_there v known (record { before = f.before; block = f.block; after = f.next ++ f.after }) x f.blocks f.named) ∙ ap (λ (u : Bool). if u then f.block.size else 0) f.used

part_same : (n x y : ℕ) → names_of (free_part x n) ≡ names_of (free_part y n) → free_part x n ≡ free_part y n
part_same zero x y e = refl
part_same (suc n) x y e = let s : x ≡ y = cc in ap (λ z. free_part z (suc n)) s

part_long : (n x y : ℕ) → length (free_part x n) ≡ length (free_part y n)
part_long zero x y = refl
part_long (suc n) x y = refl

module _ (x n : ℕ) (v : View) (known : IsWellFormed v) (a : ℕ) (w w' : View) (other : n ≢ size_of x v) (f : Resizes x n v w) (k : Resizes x n (record v { accesses = a }) w') where
  at : (f.before ≡ k.before) × (f.block ≡ k.block) × (f.next ++ f.after ≡ k.next ++ k.after)
  at = one_place v known x f.before k.before (f.next ++ f.after) (k.next ++ k.after) f.block k.block f.blocks k.blocks f.named k.named

  same_next : (f.next ≡ k.next) × (f.after ≡ k.after)
  same_next =
      let known' : IsWellFormed (record v { accesses = a }) = well_counted v a known in
      let s = resized_next known f (λ e. other (e ∙ sym (resized_size known f))) in
      let t = resized_next known' k (λ e. other (e ∙ sym (resized_size known' k))) in
      (sym s.0 ∙ ap free_start at.2 ∙ t.0, sym s.1 ∙ ap without_start at.2 ∙ t.1)

  same_units : f.left ≡ k.left
  same_units = omega (arith, f.whole, k.whole, ap₂ (λ (b : Block) (l : List Block). units (b ∷ l)) at.1 same_next.0)

  renames : (names_of (free_part f.name f.left) ≡ names_of (free_part k.name f.left)) × (w.unused ≡ w'.unused)
  renames = same_renamed v f.next k.next (free_part f.name f.left) (free_part k.name f.left) w w' same_next.0 (part_long f.left f.name k.name) f.names
      (subst (λ m. Renames v k.next (free_part k.name m) w') (sym same_units) k.names)

  same_part : free_part f.name f.left ≡ free_part k.name k.left
  same_part = part_same f.left f.name k.name renames.0 ∙ ap (free_part k.name) same_units

  abbrev resized : View → List Block → Block → List Block → List Block → List Block → View
  resized z before b next part after = replace z before (b ∷ next) (used_block x n ∷ part) after

  same_resized : resized v f.before f.block f.next (free_part f.name f.left) f.after ≡ resized v k.before k.block k.next (free_part k.name k.left) k.after
  same_resized =
      ap₂ (λ (before : List Block) (b : Block). resized v before b f.next (free_part f.name f.left) f.after) at.0 at.1
      ∙ ap₂ (λ (next part : List Block). resized v k.before k.block next part f.after) same_next.0 same_part
      ∙ ap (resized v k.before k.block k.next (free_part k.name k.left)) same_next.1

  resizes_same : SameState w w'
  resizes_same = both_leave (resized v f.before f.block f.next (free_part f.name f.left) f.after) (resized (record v { accesses = a }) k.before k.block k.next (free_part k.name k.left) k.after) w w' f.view k.view
      (ap (λ (z : View). record z { accesses = a }) (sym same_resized)) renames.1

shrinks_same : (x n : ℕ) (v : View) → IsWellFormed v → (a : ℕ) (w w' : View) (r r' : Bool) → Shrinks x n v w r → Shrinks x n (record v { accesses = a }) w' r' → (r ≡ r') × SameState w w'
shrinks_same x n v known a w w' true true (inl e) (inl f) = (refl, both_stay v w w' e.1 f.1)
shrinks_same x n v known a w w' true true (inl e) (inr f) = absurd (omega (arith, e.0, f.0))
shrinks_same x n v known a w w' true true (inr e) (inl f) = absurd (omega (arith, e.0, f.0))
shrinks_same x n v known a w w' true true (inr e) (inr f) = (refl, resizes_same x n v known a w w' (λ q. omega (arith, q, e.0)) e.2 f.2)
shrinks_same x n v known a w w' true false (inl e) f = absurd (f.0 (omega (arith, e.0), λ l. absurd (omega (arith, e.0, l))))
shrinks_same x n v known a w w' true false (inr e) f = absurd (f.0 e.1)
shrinks_same x n v known a w w' false true e (inl f) = absurd (e.0 (omega (arith, f.0), λ l. absurd (omega (arith, f.0, l))))
shrinks_same x n v known a w w' false true e (inr f) = absurd (e.0 f.1)
shrinks_same x n v known a w w' false false e f = (refl, both_stay v w w' e.1 f.1)

pub shrinks_decided : (x n : ℕ) (v v' w w' : View) → IsWellFormed v → SameState v v' → (r r' : Bool) → Shrinks x n v w r → Shrinks x n v' w' r' → (r ≡ r') × SameState w w'
shrinks_decided x n v v' w w' known same r r' f k = shrinks_same x n v known v'.accesses w w' r r' f (subst (λ z. Shrinks x n z w' r') same k)

grows_same : (x n : ℕ) (v : View) → IsWellFormed v → (a : ℕ) (w w' : View) (r r' : Bool) → Grows x n v w r → Grows x n (record v { accesses = a }) w' r' → (r ≡ r') × SameState w w'
grows_same x n v known a w w' true true (inl e) (inl f) = (refl, both_stay v w w' e.1 f.1)
grows_same x n v known a w w' true true (inl e) (inr f) = absurd (omega (arith, e.0, f.0))
grows_same x n v known a w w' true true (inr e) (inl f) = absurd (omega (arith, e.0, f.0))
grows_same x n v known a w w' true true (inr e) (inr f) = (refl, resizes_same x n v known a w w' (λ q. omega (arith, q, e.0)) e.2 f.2)
grows_same x n v known a w w' true false (inl e) f = absurd (f.0 (omega (arith, e.0), omega (arith, e.0)))
grows_same x n v known a w w' true false (inr e) f = absurd (f.0 e.1)
grows_same x n v known a w w' false true e (inl f) = absurd (e.0 (omega (arith, f.0), omega (arith, f.0)))
grows_same x n v known a w w' false true e (inr f) = absurd (e.0 f.1)
grows_same x n v known a w w' false false e f = (refl, both_stay v w w' e.1 f.1)

pub grows_decided : (x n : ℕ) (v v' w w' : View) → IsWellFormed v → SameState v v' → (r r' : Bool) → Grows x n v w r → Grows x n v' w' r' → (r ≡ r') × SameState w w'
grows_decided x n v v' w w' known same r r' f k = grows_same x n v known v'.accesses w w' r r' f (subst (λ z. Grows x n z w' r') same k)

-- ---- compactions
-- the free units have the name of the first free block
same_gathered : (x y : ℕ) (bs : List Block) → IfSome (first_free bs) (λ z. x ≡ z) → IfSome (first_free bs) (λ z. y ≡ z) → gathered x (free_sizes bs) ≡ gathered y (free_sizes bs)
same_gathered x y [] a b = refl
same_gathered x y (d ∷ bs) a b =
    elim d.used as (λ u. IfSome (if u then first_free bs else Some d.name) (λ z. x ≡ z) → IfSome (if u then first_free bs else Some d.name) (λ z. y ≡ z)
    → gathered x (if u then free_sizes bs else d.size ∷ free_sizes bs) ≡ gathered y (if u then free_sizes bs else d.size ∷ free_sizes bs)) [
      | true ↦ λ a b. same_gathered x y bs a b
      | false ↦ λ a b. ap (λ z. gathered z (d.size ∷ free_sizes bs)) (a ∙ sym b)
    ] a b

compacts_same : (v : View) (a : ℕ) (w w' : View) → Compacts v w → Compacts (record v { accesses = a }) w' → SameState w w'
compacts_same v a w w' f k =
    let packed : View → List Block → View = λ z free. record z { blocks = live v.blocks ++ free; bins = push_all free (replicate 256 []) } in
    both_leave (packed v (gathered f.name (free_sizes v.blocks))) (packed (record v { accesses = a }) (gathered k.name (free_sizes v.blocks))) w w' f.view k.view
    (ap (packed (record v { accesses = a })) (same_gathered k.name f.name v.blocks k.first f.first))
    (same_renamed v (drop 1 (free_blocks v.blocks)) (drop 1 (free_blocks v.blocks)) [] [] w w' refl refl f.names k.names).1

pub compacts_decided : (v v' w w' : View) → SameState v v' → Compacts v w → Compacts v' w' → SameState w w'
compacts_decided v v' w w' same f k = compacts_same v v'.accesses w w' f (subst (λ z. Compacts z w') same k)
