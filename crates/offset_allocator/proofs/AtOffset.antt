-- Requests at an offset: the last free block that begins there or before is the one to ask.
use Rattle.std.specs.Prelude.{max, cond, is_some, nat_lt, not, option_and_then, ◌&&◌}
use Rattle.std.specs.List.{AllByRecursion, find}
use Rattle.std.proofs.Common.{lt-ltb, le-ltb}
use Rattle.offset_allocator.proofs.{Decided.both_stay, Decided.splits_same, Holding.at_first, Holding.block_listed, Holding.place_there, Holding.well_first, Ranges.split_grants, Served.split_as, Tallies.units-append}
use Rattle.offset_allocator.proofs.{Views.Split.well_divided, Views.Split.part_length}
use Rattle.offset_allocator.proofs.Common.{◌≡◌, ◌↔◌, ℕ, ◌+◌, ◌-◌, ◌<◌, ◌≤◌, ◌⊎◌, inl, inr, Bool, true, false, List, [], ◌∷◌, ◌++◌, length, Option, Some, None, IsSome, IfSome, if◌then◌else◌, refl, sym, ap, ap₂, subst, ◌∙◌, arith, cases_lt, reverse, reverse-append}
use Rattle.offset_allocator.proofs.Common.{false≢true, AreCoalesced, Block, View, Place, Placed, placed_at, Handle, Grants, IsWellFormed, Splits, bin_at, free_part, down, units, value, placed}
use Rattle.offset_allocator.specs.{AtOffset.AllocatesAt, AtOffset.BeginAfter, AtOffset.CanGrantAt, AtOffset.GrantsAt, AtOffset.HoldsAt, AtOffset.IsFreeAt, AtOffset.blocks_added, AtOffset.in_the_way, AtOffset.is_in_the_way}
use Rattle.offset_allocator.specs.{Relations.SameState, Reporting.Listing.listing, Tight.with_first}

-- ---- the walk
-- a block is passed that is used, or begins after the offset
pub passed : (offset : ℕ) (fs : List Block) (b : Block) (bs : List Block) → (b.used ≡ false → offset < units fs) → BeginAfter offset (placed (units (fs ++ b ∷ [])) bs)
    → BeginAfter offset (placed (units fs) (b ∷ bs))
passed offset fs b bs begins after = (
  elim b.used as (λ u. b.used ≡ u → (let h : Option Handle = if u then Some (record { name = b.name; offset = units fs }) else None in h) ≡ None → offset < units fs) [
    | true ↦ λ h e. absurd (cc)
    | false ↦ λ h e. begins h
  ] refl,
  subst (λ (o : ℕ). BeginAfter offset (placed o bs)) (omega (arith, units-append fs (b ∷ []))) after,
)

-- what was passed, if it is free, begins after the offset
begins_after : (offset o : ℕ) (ms : List Block) (c : Block) (cs : List Block) → BeginAfter offset (placed o (ms ++ c ∷ cs)) → c.used ≡ false → offset < o + units ms
begins_after offset o [] c cs h e = omega (arith, h.0 (ap (λ (u : Bool). if u then Some (record { name = c.name; offset = o }) else None) e))
begins_after offset o (m ∷ ms) c cs h e = omega (arith, begins_after offset (o + m.size) ms c cs h.1 e)

-- ---- two blocks of a space
-- the second one is the first one, or comes after it, or before it
pub record IsAfter (fs : List Block) (b : Block) (bs gs : List Block) (c : Block) (cs : List Block) : Type 0 where
  pub between : List Block
  pub front : gs ≡ fs ++ b ∷ between
  pub back : bs ≡ between ++ c ∷ cs

pub two_blocks : (fs gs : List Block) (b c : Block) (bs cs : List Block) → fs ++ b ∷ bs ≡ gs ++ c ∷ cs
    → ((fs ≡ gs) × (b ≡ c) × (bs ≡ cs)) ⊎ IsAfter fs b bs gs c cs ⊎ IsAfter gs c cs fs b bs
two_blocks [] [] b c bs cs e = inl (refl, (cc), (cc))
two_blocks [] (g ∷ gs) b c bs cs e = inr (inl (record { between = gs; front = ap (λ (x : Block). x ∷ gs) (let s : b ≡ g = cc in sym s); back = (cc) }))
two_blocks (f ∷ fs) [] b c bs cs e = inr (inr (record { between = fs; front = ap (λ (x : Block). x ∷ fs) (let s : f ≡ c = cc in s); back = (let s : fs ++ b ∷ bs ≡ cs = cc in sym s) }))
two_blocks (f ∷ fs) (g ∷ gs) b c bs cs e =
    let head : f ≡ g = cc in
    let rest : fs ++ b ∷ bs ≡ gs ++ c ∷ cs = cc in
    elim (two_blocks fs gs b c bs cs rest) [
      | inl h ↦ inl (ap₂ (λ (x : Block) (xs : List Block). x ∷ xs) head h.0, h.1, h.2)
      | inr (inl h) ↦ inr (inl (record { between = h.between; front = ap₂ (λ (x : Block) (xs : List Block). x ∷ xs) (sym head) h.front; back = h.back }))
      | inr (inr h) ↦ inr (inr (record { between = h.between; front = ap₂ (λ (x : Block) (xs : List Block). x ∷ xs) head h.front; back = h.back }))
    ]

-- if any free block holds the units, then the last one that begins at their offset or before, and it needs no more room
pub record IsServed (offset n : ℕ) (p q : Place) : Type 0 where
  pub holds : HoldsAt offset n p
  pub added : max 1 (blocks_added offset n p) ≤ max 1 (blocks_added offset n q)

module _ (v : View) (offset n : ℕ) (p : Place) (there : v.blocks ≡ p.before ++ (p.block ∷ p.after)) (begins : units p.before ≤ offset)
    (last : BeginAfter offset (placed (units p.before + p.block.size) p.after)) where
  pub serves : (a : IsFreeAt offset n v) → IsServed offset n p a.place
  serves a = elim (two_blocks p.before a.place.before p.block a.place.block p.after a.place.after (sym there ∙ a.there)) [
    | inl h ↦
        let before = ap units h.0 in
        let size = ap (λ (b : Block). b.size) h.1 in
        record { holds = (begins, omega (arith, before, size, a.holds.1)); added = omega (arith, before, size) }
    | inr (inl h) ↦ absurd (omega (
      arith,
      begins_after offset (units p.before + p.block.size) h.between a.place.block a.place.after (subst (λ (bs : List Block). BeginAfter offset (placed (units p.before + p.block.size) bs)) h.back last) a.free,
      a.holds.0,
      ap units h.front,
      units-append p.before (p.block ∷ h.between),
    ))
    | inr (inr h) ↦
        let front = ap units h.front in
        let sum = units-append a.place.before (a.place.block ∷ h.between) in
        record { holds = (begins, omega (arith, front, sum, begins, a.holds.1)); added = omega (arith, front, sum, begins, a.holds.1) }
  ]

-- where none begins there or before, none holds them
pub none_serves : (v : View) (offset n : ℕ) → BeginAfter offset (placed 0 v.blocks) → IsFreeAt offset n v → ⊥
none_serves v offset n h a =
    omega (arith, begins_after offset 0 a.place.before a.place.block a.place.after (subst (λ (bs : List Block). BeginAfter offset (placed 0 bs)) a.there h) a.free, a.holds.0)

-- ---- the newest block of a class, and the part of it that is taken
abbrev pub IsWhole : ℕ → ℕ → ℕ → ℕ → ℕ → View → Type 0
IsWhole class start padding n remainder v = (p : Place) (older : List ℕ) → v.blocks ≡ p.before ++ (p.block ∷ p.after) → bin_at v.bins class ≡ p.block.name ∷ older
    → (start ≡ units p.before + padding) × (padding + n + remainder ≡ p.block.size)

-- ---- what contracts say of a request, from the relation that says it all
-- what was counted before changes nothing
pub at_counted : (offset n : ℕ) (v w : View) (k : ℕ) (r : Option Handle) → AllocatesAt offset n (record v { accesses = k }) w r → AllocatesAt offset n v w r
at_counted offset n v w k None a = (λ h. a.0 (record { at = record { place = h.at.place; there = h.at.there; free = h.at.free; holds = h.at.holds }; room = h.room }), a.1)
at_counted offset n v w k (Some g) a = record {
  at = record { place = a.at.place; there = a.at.there; free = a.at.free; holds = a.at.holds };
  room = a.room;
  last = a.last;
  split = split_as a.split v.accesses w.accesses (λ begin. offset - begin) (λ o. refl);
}

module _ (offset n : ℕ) (v w : View) (known : IsWellFormed v) where
  pub at_can : (r : Option Handle) → AllocatesAt offset n v w r → IsSome r ↔ CanGrantAt offset n v
  at_can None a = (λ h. absurd (false≢true h), λ h. absurd (a.0 h))
  at_can (Some g) a = (λ h. record { at = a.at; room = a.room }, λ h. refl)

  pub at_same : (r : Option Handle) → AllocatesAt offset n v w r → r ≡ None → SameState v w
  at_same None a e = a.1
  at_same (Some g) a e = absurd (cc)

  -- what is split is that block
  split_there : (g : Handle) (a : GrantsAt offset n v w g) → record { before = a.split.before; block = a.split.block; after = a.split.after } ≡ a.at.place
  split_there g a =
      let p = a.at.place in
      let s = a.split in
      let here : Place = record { before = s.before; block = s.block; after = s.after } in
      let b = at_first v known (down p.block.size) n p.block.name (λ begin. offset - begin) s in
      let both : Some here ≡ Some p = sym (place_there v known here p.block.name s.blocks b.name) ∙ place_there v known p p.block.name a.at.there refl in
      cc

  pub at_grants : (r : Option Handle) → AllocatesAt offset n v w r → IfSome r (Grants n v w)
  at_grants None a = tt
  at_grants (Some g) a =
      let p = a.at.place in
      let c = down p.block.size in
      let s = a.split in
      let at = at_first v known c n p.block.name (λ begin. offset - begin) s in
      let first = well_first v known c p.block.name at.small (block_listed v known p a.at.there a.at.free) in
      let same = split_there g a in
      let before : units s.before ≡ units p.before = ap (λ (q : Place). units q.before) same in
      let size : s.block.size ≡ p.block.size = ap (λ (q : Place). q.block.size) same in
      let most : length (free_part s.padding_name s.padding) + length (free_part s.remainder_name s.remainder) ≤ max 1 (blocks_added offset n p) =
      omega (arith, part_length s.padding_name s.padding, part_length s.remainder_name s.remainder, s.padded, s.whole, before, size, a.at.holds.0, a.at.holds.1) in
      let k = split_grants s first (well_divided s (max 1 (blocks_added offset n p)) first a.room (omega arith) most) in
      record { not_live = k.not_live; range = k.range; within = k.within; disjoint = k.disjoint; others = k.others }

  pub at_begins : (r : Option Handle) → AllocatesAt offset n v w r → IfSome r (λ h. h.offset ≡ offset)
  at_begins None a = tt
  at_begins (Some g) a =
      let s = a.split in
      omega (arith, ap (λ (h : Handle). h.offset) s.grant, s.padded, ap (λ (q : Place). units q.before) (split_there g a), a.at.holds.0)

-- ---- the same request in the same state
-- the block that is asked is the same
one_block : (offset n : ℕ) (v w w' : View) (g g' : Handle) (a : GrantsAt offset n v w g) (b : GrantsAt offset n v w' g') → a.at.place.block ≡ b.at.place.block
one_block offset n v w w' g g' a b =
    let p = a.at.place in
    let q = b.at.place in
    elim (two_blocks p.before q.before p.block q.block p.after q.after (sym a.at.there ∙ b.at.there)) [
      | inl h ↦ h.1
      | inr (inl h) ↦ absurd (omega (
        arith,
        begins_after offset (units p.before + p.block.size) h.between q.block q.after (subst (λ (bs : List Block). BeginAfter offset (placed (units p.before + p.block.size) bs)) h.back a.last) b.at.free,
        b.at.holds.0,
        ap units h.front,
        units-append p.before (p.block ∷ h.between),
      ))
      | inr (inr h) ↦ absurd (omega (
        arith,
        begins_after offset (units q.before + q.block.size) h.between p.block p.after (subst (λ (bs : List Block). BeginAfter offset (placed (units q.before + q.block.size) bs)) h.back b.last) a.at.free,
        a.at.holds.0,
        ap units h.front,
        units-append q.before (q.block ∷ h.between),
      ))
    ]

at_both : (offset n : ℕ) (v : View) → IsWellFormed v → (w w' : View) (r r' : Option Handle) → AllocatesAt offset n v w r → AllocatesAt offset n v w' r' → (r ≡ r') × SameState w w'
at_both offset n v known w w' None None a b = (refl, both_stay v w w' a.1 b.1)
at_both offset n v known w w' None (Some g) a b = absurd (a.0 (record { at = b.at; room = b.room }))
at_both offset n v known w w' (Some g) None a b = absurd (b.0 (record { at = a.at; room = a.room }))
at_both offset n v known w w' (Some g) (Some h) a b =
    let p = a.at.place in
    let c = down p.block.size in
    let same = one_block offset n v w w' g h a b in
    let first = well_first v known c p.block.name (at_first v known c n p.block.name (λ begin. offset - begin) a.split).small (block_listed v known p a.at.there a.at.free) in
    let e = splits_same (value c) n (λ begin. offset - begin) (with_first c p.block.name v) first w w' g h a.split
    (subst (λ (k : Block). Splits (value (down k.size)) n (λ begin. offset - begin) (with_first (down k.size) k.name v) w' h) (sym same) b.split) in
    (ap Some e.0, e.1)

pub at_decided : (offset n : ℕ) (v v' w w' : View) → IsWellFormed v → SameState v v' → (r r' : Option Handle) → AllocatesAt offset n v w r → AllocatesAt offset n v' w' r' → (r ≡ r') × SameState w w'
at_decided offset n v v' w w' known same r r' a b = at_both offset n v known w w' r r' a (at_counted offset n v w' v'.accesses r' (subst (λ z. AllocatesAt offset n z w' r') same b))

-- ---- what is in the way
module _ {A : Type 0} (p : A → Bool) where
  none_push : (ys : List A) (x : A) → find p ys ≡ None → p x ≡ false → find p (ys ++ x ∷ []) ≡ None
  none_push [] x e q = rw q refl
  none_push (y ∷ ys) x e q = elim (p y) as (λ t. cond t (Some y) (find p ys) ≡ None → cond t (Some y) (find p (ys ++ x ∷ [])) ≡ None) [
    | true ↦ λ f. absurd (cc)
    | false ↦ λ f. none_push ys x f q
  ] e

  push_none : (ys : List A) (x : A) → find p (ys ++ x ∷ []) ≡ None → (find p ys ≡ None) × (p x ≡ false)
  push_none [] x e = elim (p x) as (λ t. cond t (Some x) None ≡ None → (find p [] ≡ None) × (t ≡ false)) [
    | true ↦ λ f. absurd (cc)
    | false ↦ λ f. (refl, refl)
  ] e
  push_none (y ∷ ys) x e = elim (p y) as (λ t. cond t (Some y) (find p (ys ++ x ∷ [])) ≡ None → (cond t (Some y) (find p ys) ≡ None) × (p x ≡ false)) [
    | true ↦ λ f. absurd (cc)
    | false ↦ λ f. push_none ys x f
  ] e

  pub none_back : (xs : List A) → AllByRecursion (λ x. p x ≡ false) xs → find p (reverse xs) ≡ None
  none_back [] a = refl
  none_back (x ∷ xs) a = subst (λ (l : List A). find p l ≡ None) (sym (reverse-append (x ∷ []) xs)) (none_push (reverse xs) x (none_back xs a.1) a.0)

  pub back_none : (xs : List A) → find p (reverse xs) ≡ None → AllByRecursion (λ x. p x ≡ false) xs
  back_none [] e = tt
  back_none (x ∷ xs) e = let h = push_none (reverse xs) x (subst (λ (l : List A). find p l ≡ None) (reverse-append (x ∷ []) xs) e) in (h.1, back_none xs h.0)

  found_holds : (xs : List A) (x : A) → find p xs ≡ Some x → p x ≡ true
  found_holds [] x e = absurd (cc)
  found_holds (y ∷ xs) x e = elim (p y) as (λ t. p y ≡ t → cond t (Some y) (find p xs) ≡ Some x → p x ≡ true) [
    | true ↦ λ q f. let s : y ≡ x = cc in subst (λ z. p z ≡ true) s q
    | false ↦ λ q f. found_holds xs x f
  ] refl e

no_first : (x y z : Bool) → x ≡ false → (x && y && z) ≡ false
no_first false y z e = refl
no_first true y z e = absurd (cc)

no_second : (x y z : Bool) → y ≡ false → (x && y && z) ≡ false
no_second false y z e = refl
no_second true false z e = refl
no_second true true z e = absurd (cc)

no_third : (x y z : Bool) → z ≡ false → (x && y && z) ≡ false
no_third false y z e = refl
no_third true false z e = refl
no_third true true z e = e

all_three : (x y z : Bool) → x ≡ true → y ≡ true → z ≡ true → (x && y && z) ≡ true
all_three true true z e f g = g
all_three true false z e f g = absurd (cc)
all_three false y z e f g = absurd (cc)

module _ (offset n : ℕ) where
  -- a block that is free, or ends where the units begin or before, or begins where they end or after
  clear_of : (o : ℕ) (b : Block) → (b.used ≡ false) ⊎ (o + b.size ≤ offset) ⊎ (offset + n ≤ o) → is_in_the_way offset n (placed_at o b) ≡ false
  clear_of o b (inl e) = no_first (is_some (placed_at o b).handle) (nat_lt o (offset + n)) (nat_lt offset (o + b.size))
      (ap (λ (u : Bool). is_some (if u then Some (let h : Handle = record { name = b.name; offset = o } in h) else None)) e)
  clear_of o b (inr (inl l)) = no_third (is_some (placed_at o b).handle) (nat_lt o (offset + n)) (nat_lt offset (o + b.size)) (le-ltb offset (o + b.size) l)
  clear_of o b (inr (inr l)) = no_second (is_some (placed_at o b).handle) (nat_lt o (offset + n)) (nat_lt offset (o + b.size)) (le-ltb o (offset + n) l)

  -- a used one that is none of these
  met : (o : ℕ) (b : Block) → b.used ≡ true → o < offset + n → offset < o + b.size → is_in_the_way offset n (placed_at o b) ≡ true
  met o b e l m = all_three (is_some (placed_at o b).handle) (nat_lt o (offset + n)) (nat_lt offset (o + b.size))
      (ap (λ (u : Bool). is_some (if u then Some (let h : Handle = record { name = b.name; offset = o } in h) else None)) e) (lt-ltb o (offset + n) l) (lt-ltb offset (o + b.size) m)

  -- none of these blocks, the first of which begins at o, is in the way
  abbrev AreClear : ℕ → List Block → Type 0
  AreClear o bs = AllByRecursion (λ (b : Placed). is_in_the_way offset n b ≡ false) (placed o bs)

  clear_after : (o : ℕ) (bs : List Block) → offset + n ≤ o → AreClear o bs
  clear_after o [] l = tt
  clear_after o (b ∷ bs) l = (clear_of o b (inr (inr l)), clear_after (o + b.size) bs (omega (arith, l)))

  clear_around : (o : ℕ) (fs : List Block) (b : Block) (bs : List Block) → b.used ≡ false → o + units fs ≤ offset → offset + n ≤ o + units fs + b.size → AreClear o (fs ++ b ∷ bs)
  clear_around o [] b bs e l m = (clear_of o b (inl e), clear_after (o + b.size) bs (omega (arith, m)))
  clear_around o (f ∷ fs) b bs e l m = (clear_of o f (inr (inl (omega (arith, l)))), clear_around (o + f.size) fs b bs e (omega (arith, l)) (omega (arith, m)))

  -- a free block of them holds the units
  record Holds (o : ℕ) (bs : List Block) : Type 0 where
    front : List Block
    block : Block
    after : List Block
    is : bs ≡ front ++ block ∷ after
    free : block.used ≡ false
    begins : o + units front ≤ offset
    ends : offset + n ≤ o + units front + block.size

  -- the block after a free one is used
  past_free : (o : ℕ) (b : Block) (bs : List Block) → b.used ≡ false → offset < o + b.size → o + b.size < offset + n → offset + n ≤ o + b.size + units bs
      → AreCoalesced (b ∷ bs) → AreClear (o + b.size) bs → ⊥
  past_free o b [] e l m k apart c = omega (arith, m, k)
  past_free o b (d ∷ bs) e l m k apart c =
      let used : d.used ≡ true = elim d.used as (λ u. (not b.used && not u) ≡ false → u ≡ true) [
        | true ↦ λ f. refl
        | false ↦ λ f. let g : not b.used ≡ true = ap not e in absurd (false≢true (sym f ∙ ap (λ t. t && true) g))
      ] apart.0 in
      false≢true (sym c.0 ∙ met (o + b.size) d used m (omega (arith, l)))

  holds_clear : (o : ℕ) (bs : List Block) → 1 ≤ n → o ≤ offset → offset + n ≤ o + units bs → AreCoalesced bs → AreClear o bs → Holds o bs
  holds_clear o [] some l m apart c = absurd (omega (arith, some, l, m))
  holds_clear o (b ∷ bs) some l m apart c = elim (cases_lt offset (o + b.size)) [
    | inl here ↦ elim b.used as (λ u. b.used ≡ u → Holds o (b ∷ bs)) [
      | true ↦ λ e. absurd (false≢true (sym c.0 ∙ met o b e (omega (arith, l, some)) here))
      | false ↦ λ e. elim (cases_lt (o + b.size) (offset + n)) [
        | inl past ↦ absurd (past_free o b bs e here past (omega (arith, m)) apart c.1)
        | inr within ↦ record { front = []; block = b; after = bs; is = refl; free = e; begins = omega (arith, l); ends = omega (arith, within) }
      ]
    ] refl
    | inr past ↦
        let r = holds_clear (o + b.size) bs some past (omega (arith, m)) apart.1 c.1 in
        record { front = b ∷ r.front; block = r.block; after = r.after; is = ap (λ (l : List Block). b ∷ l) r.is; free = r.free; begins = omega (arith, r.begins); ends = omega (arith, r.ends) }
  ]

  none_found : (v : View) → in_the_way offset n v ≡ None → find (is_in_the_way offset n) (listing v) ≡ None
  none_found v e = elim (find (is_in_the_way offset n) (listing v)) as (λ r. find (is_in_the_way offset n) (listing v) ≡ r → option_and_then (λ (b : Placed). b.handle) r ≡ None → find (is_in_the_way offset n) (listing v) ≡ None) [
    | None ↦ λ q f. q
    | Some b ↦ λ q f. absurd (false≢true (
        sym (no_first (is_some b.handle) (nat_lt b.offset (offset + n)) (nat_lt offset (b.offset + b.size)) (ap (λ (h : Option Handle). is_some h) f))
        ∙ found_holds (is_in_the_way offset n) (listing v) b q
        ))
  ] refl e

  pub free_where_clear : (v : View) → IsWellFormed v → 1 ≤ n → offset + n ≤ v.size → IsFreeAt offset n v ↔ (in_the_way offset n v ≡ None)
  free_where_clear v known some l = (
    λ f.
        let all = clear_around 0 f.place.before f.place.block f.place.after f.free (omega (arith, f.holds.0)) (omega (arith, f.holds.1)) in
        ap (option_and_then (λ (b : Placed). b.handle)) (none_back (is_in_the_way offset n) (placed 0 v.blocks) (subst (λ (bs : List Block). AreClear 0 bs) (sym f.there) all)),
    λ e.
        let h = holds_clear 0 v.blocks some (omega arith) (omega (arith, l, known.whole)) known.apart (back_none (is_in_the_way offset n) (placed 0 v.blocks) (none_found v e)) in
        record {
          place = record { before = h.front; block = h.block; after = h.after };
          there = h.is;
          free = h.free;
          holds = (omega (arith, h.begins), omega (arith, h.ends));
        },
  )
