-- A space whose used blocks are freed one after the other, from its end on: each is the last block or the one before
-- it, and where none is left the space is one free block.
use Rattle.offset_allocator.proofs.Common.{zero, suc, if◌then◌else◌, ◌≡◌, ℕ, ◌+◌, ◌*◌, append_assoc, ◌<◌, ◌≤◌, Bool, true, false, not, List, [], ◌∷◌, ◌++◌, length, replicate, Option, Some, None}
use Rattle.offset_allocator.proofs.Common.{IfSome, nat_eq, refl, sym, ap}
use Rattle.offset_allocator.proofs.Common.{ap₂, subst, ◌∙◌, arith, inl, inr, length-replicate, ext_get_or, cases_lt, false≢true, not-false, down, Block, View, one, free_block, units}
use Rattle.offset_allocator.proofs.Common.{count_named, count_used, times, count_in_bin, bin_at, push, AreCoalesced, IsWellFormed, place_of, is_used_at, Frees, Resets, push_all, last_or, IsLive}
use Rattle.std.specs.{List.AllByRecursion, Option.option_or}
use Rattle.offset_allocator.specs.{Relations.FreesLast, Relations.IsEmpty, Relations.SameState, View.last_used}
use Rattle.offset_allocator.proofs.Views.ViewBins.{hit_at, hit_other, names_same, names_other, length_put}
use Rattle.offset_allocator.proofs.{Linking.Ends.Ended, Linking.Ends.ended, Linking.Ends.last_none, Classes.down_small, Reading.used_live, Views.ViewApart.apart_parts, Views.ViewApart.left_false}
use Rattle.offset_allocator.proofs.{Tallies.hit_cases, Tallies.tally_append, Tallies.one-same, Tallies.one-eq, Views.ViewPlaces.place_here, Views.ViewTaken.replicate_none}

-- lists of names
pub no_name : (l : List ℕ) → ((y : ℕ) → times y l ≡ 0) → l ≡ []
no_name [] h = refl
no_name (y ∷ l) h = absurd (omega (arith, h y, one-same y))

one_name : (x : ℕ) (l : List ℕ) → ((y : ℕ) → times y l ≡ one (nat_eq y x)) → l ≡ x ∷ []
one_name x [] h = absurd (omega (arith, h x, one-same x))
one_name x (z ∷ l) h = elim (hit_cases z x) [
  | inl f ↦ ap₂ (λ (a : ℕ) (b : List ℕ). a ∷ b) f.0 (no_name l (λ y. omega (arith, h y, ap (λ (n : ℕ). one (nat_eq y n)) f.0)))
  | inr f ↦ absurd (omega (arith, h z, one-same z, f.1))
]

pub none_at : (c : ℕ) → bin_at (replicate 256 []) c ≡ []
none_at c = no_name (bin_at (replicate 256 []) c) (λ y. replicate_none y c)

-- no block is used
unused : (f : Bool) → one f ≡ 0 → f ≡ false
unused true e = absurd (omega arith)
unused false e = refl

lone : (bs : List Block) → 1 ≤ length bs → AreCoalesced bs → count_used bs ≡ 0 → (b : Block) × (bs ≡ free_block b.name b.size ∷ [])
lone [] s a u = absurd (omega arith)
lone (b ∷ []) s a u = (b, ap (λ (f : Bool). record { name = b.name; size = b.size; used = f } ∷ []) (unused b.used (omega arith)))
lone (b ∷ d ∷ bs) s a u = absurd (false≢true (sym (rw (unused b.used (omega arith), unused d.used (omega arith)) at a.0)))

-- of two neighbours one is used
pub half_used : (bs : List Block) → AreCoalesced bs → length bs ≤ 2 * count_used bs + 1
half_used [] a = grind arith
half_used (b ∷ []) a = grind arith
half_used (b ∷ d ∷ bs) a = grind (arith, not-false, half_used (d ∷ bs) a.1, half_used bs a.1.1)

pub emptied : (v : View) → IsWellFormed v → count_used v.blocks ≡ 0 → (x : ℕ) × (x < v.max_allocs)
    × (v ≡ record v { blocks = free_block x v.size ∷ []; bins = push (down v.size) x (replicate 256 []) })
emptied v w u =
    let l = lone v.blocks w.some w.apart u in
    let x : ℕ = l.0.name in
    let n : ℕ = l.0.size in
    let sized : n ≡ v.size = omega (arith, w.whole, ap units l.1) in
    let below : x < v.max_allocs = elim (cases_lt x v.max_allocs) [
      | inl b ↦ b
      | inr b ↦ absurd (omega (arith, w.below x b, ap (count_named x) l.1, one-same x))
    ] in
    let bins : v.bins ≡ push (down n) x (replicate 256 []) =
    ext_get_or [] v.bins _ (w.classes ∙ sym (length_put (down n) x (replicate 256 []) ∙ length-replicate {A = List ℕ} 256 []))
    (λ c _. same_at v.bins x n c (λ y. w.binned c y ∙ ap (count_in_bin c y) l.1)) in (
      x,
      below,
      ap₂ (λ (bs : List Block) (o : List (List ℕ)). record v { blocks = bs; bins = o }) l.1 bins
          ∙ ap (λ (k : ℕ). record v { blocks = free_block x k ∷ []; bins = push (down k) x (replicate 256 []) }) sized,
    )
  where
    same_at : (bins : List (List ℕ)) (x n c : ℕ) → ((y : ℕ) → times y (bin_at bins c) ≡ count_in_bin c y (free_block x n ∷ []))
        → bin_at bins c ≡ bin_at (push (down n) x (replicate 256 [])) c
    same_at bins x n c h =
        let long = length-replicate {A = List ℕ} 256 [] in
        elim (hit_cases c (down n)) [
          | inl f ↦
              one_name x (bin_at bins c) (λ y. h y ∙ (let k = hit_at c (down n) y x f.0 in omega arith))
              ∙ sym (ap (bin_at (push (down n) x (replicate 256 []))) f.0 ∙ names_same (replicate 256 []) (down n) (x ∷ bin_at (replicate 256 []) (down n)) long (down_small n)
              ∙ ap (λ (l : List ℕ). x ∷ l) (none_at (down n)))
          | inr f ↦
              no_name (bin_at bins c) (λ y. h y ∙ (let k = hit_other c (down n) y x f.0 in omega arith))
              ∙ sym (names_other (replicate 256 []) (down n) c (x ∷ bin_at (replicate 256 []) (down n)) f.0 ∙ none_at c)
        ]

-- the last used block of a list with one more at its end
pub last_used_end : (fs : List Block) (b : Block) → last_used (fs ++ b ∷ []) ≡ (if b.used then Some b.name else last_used fs)
last_used_end [] b = refl
last_used_end (f ∷ fs) b = ap (λ (o : Option ℕ). option_or o (if f.used then Some f.name else None)) (last_used_end fs b) ∙ go b.used
  where
    go : (u : Bool) → option_or (if u then Some b.name else last_used fs) (if f.used then Some f.name else None) ≡ (if u then Some b.name else last_used (f ∷ fs))
    go true = refl
    go false = refl

pub last_used_there : (fs : List Block) (b : Block) → b.used ≡ true → last_used (fs ++ b ∷ []) ≡ Some b.name
last_used_there fs b u = last_used_end fs b ∙ ap (λ (t : Bool). if t then Some b.name else last_used fs) u

-- where the last block is free
module _ (bs : List Block) (last : ℕ) (ends : last_or None bs ≡ Some last) (each : (k : ℕ) → count_named k bs ≤ 1) (apart : AreCoalesced bs) (idle : is_used_at (place_of last bs) ≡ false) where
  abbrev end : Ended last bs
  end = ended bs last ends

  abbrev front : List Block
  front = end.front

  abbrev b : Block
  b = end.last

  alone : count_named b.name front ≡ 0
  alone = omega (arith, one-same b.name, each b.name, ap (count_named b.name) end.is, tally_append (λ (d : Block). one (nat_eq b.name d.name)) front (b ∷ []))

  is_idle : b.used ≡ false
  is_idle = sym (ap is_used_at (ap (place_of last) end.is ∙ place_here last front b [] (ap (λ (k : ℕ). count_named k front) (sym end.name) ∙ alone) (sym end.name))) ∙ idle

  pub before_used : (x : ℕ) → last_or None (ended bs last ends).front ≡ Some x → is_used_at (place_of x bs) ≡ true
  before_used x e =
      let e2 = ended front x e in
      let d : Block = e2.last in
      let is : bs ≡ e2.front ++ (d ∷ b ∷ []) = end.is ∙ ap (λ (l : List Block). l ++ b ∷ []) e2.is ∙ append_assoc e2.front (d ∷ []) (b ∷ []) in
      let parts = apart_parts e2.front (d ∷ b ∷ []) (subst AreCoalesced is apart) in
      let used : d.used ≡ true = not-false d.used (left_false (not d.used) (not b.used) parts.1.0 (ap not is_idle)) in
      let absent : count_named x e2.front ≡ 0 =
      omega (arith, one-eq x d.name e2.name, each x, ap (count_named x) is, tally_append (λ (d : Block). one (nat_eq x d.name)) e2.front (d ∷ b ∷ [])) in
      ap is_used_at (ap (place_of x) is ∙ place_here x e2.front d (b ∷ []) absent (sym e2.name)) ∙ used

  pub none_used : last_or None (ended bs last ends).front ≡ None → count_used bs ≡ 0
  none_used e = omega (arith, ap count_used (end.is ∙ ap (λ (l : List Block). l ++ b ∷ []) (last_none front e)), ap one is_idle)

  pub last_before : last_used bs ≡ last_or None (ended bs last ends).front
  last_before = ap last_used end.is ∙ last_used_end front b ∙ ap (λ (t : Bool). if t then Some b.name else last_used front) is_idle ∙ go (last_or None front) refl
    where
      go : (o : Option ℕ) → last_or None front ≡ o → last_used front ≡ last_or None front
      go None e = ap last_used (last_none front e) ∙ sym (ap (last_or None) (last_none front e))
      go (Some x) e =
          let e2 = ended front x e in
          let d : Block = e2.last in
          let parts = apart_parts e2.front (d ∷ b ∷ []) (subst AreCoalesced (end.is ∙ ap (λ (l : List Block). l ++ b ∷ []) e2.is ∙ append_assoc e2.front (d ∷ []) (b ∷ [])) apart) in
          let used : d.used ≡ true = not-false d.used (left_false (not d.used) (not b.used) parts.1.0 (ap not is_idle)) in
          ap last_used e2.is ∙ last_used_there e2.front d used ∙ ap (λ (i : ℕ). Some i) e2.name ∙ sym e

  pub before_live : (v : View) → v.blocks ≡ bs → (o : Option ℕ) → o ≡ last_or None (ended bs last ends).front → IfSome o (λ x. IsLive x v)
  before_live v is None e = tt
  before_live v is (Some x) e = used_live x v (ap (λ (l : List Block). is_used_at (place_of x l)) is ∙ before_used x (sym e))

-- a release leaves one used block fewer
pub freed_one : (x : ℕ) (v w : View) → Frees x v w → count_used v.blocks ≡ suc (count_used w.blocks)
freed_one x v w f = grind (arith, tally_append, idle_used)
  where
    idle_used : (bs : List Block) → AllByRecursion (λ (b : Block). b.used ≡ false) bs → count_used bs ≡ 0
    idle_used [] a = refl
    idle_used (b ∷ bs) a = omega (arith, ap one a.0, idle_used bs a.1)

-- however many accesses were counted before
frees_counted : (x : ℕ) (v w : View) (k : ℕ) → Frees x (record v { accesses = k }) w → Frees x v w
frees_counted x v w k f = record {
  before = f.before;
  left = f.left;
  block = f.block;
  right = f.right;
  after = f.after;
  blocks = f.blocks;
  named = f.named;
  used = f.used;
  free = f.free;
  names = f.names;
  view = f.view;
  apart = f.apart;
}

-- one more range was freed first
pub freed_first : (x : ℕ) (v was u w : View) → SameState v was → last_used v.blocks ≡ Some x → Frees x was u → FreesLast (count_used u.blocks) u w → FreesLast (count_used v.blocks) v w
freed_first x v was u w same last f rest =
    let first = frees_counted x v u was.accesses (subst (λ (z : View). Frees x z u) same f) in
    subst (λ k. FreesLast k v w) (sym (freed_one x v u first)) (x, u, last, first, rest)

-- nothing is freed where nothing is live
pub freed_none : (v w : View) → SameState v w → IsEmpty w → FreesLast (count_used v.blocks) v w
freed_none v w same e =
    let none : count_used v.blocks ≡ 0 = ap (λ (u : View). count_used u.blocks) (sym same) ∙ ap (λ (u : View). count_used u.blocks) e.view in
    subst (λ k. FreesLast k v w) (sym none) same

-- the size and the node limit stay
pub freed_sizes : (k : ℕ) (v w : View) → FreesLast k v w → (w.size ≡ v.size) × (w.max_allocs ≡ v.max_allocs)
freed_sizes zero v w e = (ap (λ (u : View). u.size) e, ap (λ (u : View). u.max_allocs) e)
freed_sizes (suc k) v w f =
    let rest = freed_sizes k f.1 w f.4 in
    (rest.0 ∙ ap (λ (u : View). u.size) f.3.view, rest.1 ∙ ap (λ (u : View). u.max_allocs) f.3.view)

-- a space without a used block
pub as_empty : (w : View) → IsWellFormed w → count_used w.blocks ≡ 0 → IsEmpty w
as_empty w well none = let e = emptied w well none in record { name = e.0; below = e.1; view = e.2 }

-- at most five blocks
pub few_reset : (v w : View) → length v.blocks ≤ 5 → FreesLast (count_used v.blocks) v w → IsEmpty w → Resets v w
few_reset v w few f e =
    let same = freed_sizes (count_used v.blocks) v w f in
    record {
      name = e.name;
      below = omega (arith, e.below, same.1);
      few = λ _. f;
      many = λ l. absurd (omega (arith, few, l));
      view = e.view ∙ ap₂ (λ (n m : ℕ). record v { size = n; max_allocs = m; blocks = free_block e.name n ∷ []; bins = push_all (free_block e.name n ∷ []) (replicate 256 []); unused = w.unused; accesses = w.accesses }) same.0 same.1;
    }
