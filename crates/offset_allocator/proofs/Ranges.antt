-- What each call leaves of the ranges of live handles.
use Rattle.offset_allocator.proofs.{Views.ViewPlaces.place_at, Views.ViewPlaces.no_place, Released.idle_parts, Reading.range_at, Views.Split.split_view, Common.HasUnits, Common.SameSpace}
use Rattle.offset_allocator.proofs.{Common.Splits, Common.Frees, Common.Adds, Common.common_steps, Tallies.part_sums, Tallies.tally_append, Tallies.hit_cases, Tallies.units-append}
use Rattle.offset_allocator.proofs.Common.{◌-◌, ◌≡◌, ◌≢◌, ℕ, IfSome, zero, suc, ◌+◌, ◌≤◌, Bool, true, false, ◌&&◌, List, [], ◌∷◌, ◌++◌, Option, Some, None, nat_eq, if◌then◌else◌, refl, sym, ap, subst}
use Rattle.offset_allocator.proofs.Common.{◌∙◌, inl, inr, arith, append_assoc, add-zero, add_assoc, eq-eqb, ne_eqb, false≢true, and_right, AllByRecursion, Block, View, Place, Handle, one, units}
use Rattle.offset_allocator.proofs.Common.{count_named, used_block, free_block, free_part, IsWellFormed, place_of, Range, range_of, AreDisjoint, Grants, KeepsAll, KeepsOthers, KeepsRanges, Resizes}
use Rattle.offset_allocator.specs.Moving.Retracting.{Cuts, end_part}

-- the range of the used block named x, where the first of the blocks has this offset
abbrev range_from : ℕ → ℕ → List Block → Option Range
range_from x offset [] = None
range_from x offset (b ∷ bs) = if b.used && nat_eq x b.name then Some (record { offset = offset; size = b.size }) else range_from x (offset + b.size) bs

-- no used block of these is named x
abbrev HasNone : ℕ → List Block → Type 0
HasNone x [] = Unit {0}
HasNone x (b ∷ bs) = ((b.used && nat_eq x b.name) ≡ false) × HasNone x bs

pass : (x offset : ℕ) (b : Block) (bs : List Block) → (b.used && nat_eq x b.name) ≡ false → range_from x offset (b ∷ bs) ≡ range_from x (offset + b.size) bs
pass x offset b bs e = ap (λ (t : Bool). if t then Some (record { offset = offset; size = b.size }) else range_from x (offset + b.size) bs) e

past : (x offset : ℕ) (bs cs : List Block) → HasNone x bs → range_from x offset (bs ++ cs) ≡ range_from x (offset + units bs) cs
past x offset [] cs h = rw (add-zero offset)
past x offset (b ∷ bs) cs h = pass x offset b (bs ++ cs) h.0 ∙ past x (offset + b.size) bs cs h.1 ∙ rw (add_assoc offset b.size (units bs)) refl

-- blocks of the same units in the place of others
swapped : (x offset : ℕ) (fs old new cs : List Block) → units new ≡ units old → HasNone x old → HasNone x new
    → range_from x offset (fs ++ (new ++ cs)) ≡ range_from x offset (fs ++ (old ++ cs))
swapped x offset [] old new cs e h k = past x offset new cs k ∙ ap (λ n. range_from x (offset + n) cs) e ∙ sym (past x offset old cs h)
swapped x offset (f ∷ fs) old new cs e h k = ap (λ r. if f.used && nat_eq x f.name then Some (record { offset = offset; size = f.size }) else r) (swapped x (offset + f.size) fs old new cs e h k)

none_named : (x : ℕ) (bs : List Block) → count_named x bs ≡ 0 → HasNone x bs
none_named x [] e = tt
none_named x (b ∷ bs) e = elim (hit_cases x b.name) [
  | inl h ↦ absurd (let k = h.1 in omega arith)
  | inr n ↦ (ap (λ t. b.used && t) (ne_eqb x b.name n.0) ∙ and_right b.used false refl, none_named x bs (let k = n.1 in omega arith))
]

none_free : (x y n : ℕ) → HasNone x (free_part y n)
none_free x y zero = tt
none_free x y (suc n) = (refl, tt)

none_append : (x : ℕ) (bs cs : List Block) → HasNone x bs → HasNone x cs → HasNone x (bs ++ cs)
none_append x [] cs h k = k
none_append x (b ∷ bs) cs h k = (h.0, none_append x bs cs h.1 k)

-- a name that is there once is nowhere beside its block
pub beside : (x : ℕ) (before : List Block) (b : Block) (after : List Block) → x ≡ b.name → count_named x (before ++ b ∷ after) ≤ 1 → (count_named x before ≡ 0)
    × (count_named x after ≡ 0)
beside x before b after e most = grind (arith, hit_cases, tally_append)

-- a name that no used block of these has
nothing : (x offset : ℕ) (bs : List Block) → HasNone x bs → range_from x offset bs ≡ None
nothing x offset [] h = refl
nothing x offset (b ∷ bs) h = pass x offset b bs h.0 ∙ nothing x (offset + b.size) bs h.1

none_idle : (x : ℕ) (b : Block) → b.used ≡ false → HasNone x (b ∷ [])
none_idle x b e = (ap (λ (u : Bool). u && nat_eq x b.name) e, tt)

-- a used block, found
found : (x offset n : ℕ) (cs : List Block) → range_from x offset (used_block x n ∷ cs) ≡ Some (record { offset = offset; size = n })
found x offset n cs = ap (λ (t : Bool). if t then Some (record { offset = offset; size = n }) else range_from x (offset + n) cs) (eq-eqb x x refl)

-- a name that is there once, at a block that is used or not
placed : (x : ℕ) (before : List Block) (b : Block) (after : List Block) → x ≡ b.name → count_named x (before ++ b ∷ after) ≤ 1
    → range_from x 0 (before ++ b ∷ after) ≡ (if b.used then Some (record { offset = units before; size = b.size }) else None)
placed x before b after e most =
    let alone = beside x before b after e most in
    past x 0 before (b ∷ after) (none_named x before alone.0)
    ∙ ap (λ (t : Bool). if b.used && t then Some (record { offset = 0 + units before; size = b.size }) else range_from x (0 + units before + b.size) after) (eq-eqb x b.name e)
    ∙ either b.used (nothing x (0 + units before + b.size) after (none_named x after alone.1))
  where
    zeroed : 0 + units before ≡ units before
    zeroed = omega arith

    either : (u : Bool) → range_from x (0 + units before + b.size) after ≡ None
        → (if u && true then Some (record { offset = 0 + units before; size = b.size }) else range_from x (0 + units before + b.size) after) ≡ (if u then Some
        (record { offset = units before; size = b.size }) else None)
    either true f = ap (λ (o : ℕ). Some (record { offset = o; size = b.size })) zeroed
    either false f = f

range_go : (x : ℕ) (bs : List Block) → count_named x bs ≤ 1 → (o : Option Place) → place_of x bs ≡ o → range_at o ≡ range_from x 0 bs
range_go x bs most None e = sym (nothing x 0 bs (none_named x bs (no_place x bs e)))
range_go x bs most (Some p) e =
    let at = place_at x bs p e in
    sym (ap (λ l. range_from x 0 l) at.0 ∙ placed x p.before p.block p.after at.1 (let k = ap (count_named x) at.0 in omega arith))

range_is : (x : ℕ) (v : View) → IsWellFormed v → range_of x v ≡ range_from x 0 v.blocks
range_is x v f = range_go x v.blocks (f.distinct x) (place_of x v.blocks) refl

-- two ranges
beyond : (x offset : ℕ) (bs : List Block) (r : Range) → range_from x offset bs ≡ Some r → (offset ≤ r.offset) × (r.offset + r.size ≤ offset + units bs)
beyond x offset [] r e = absurd (cc)
beyond x offset (b ∷ bs) r e = either (b.used && nat_eq x b.name) (beyond x (offset + b.size) bs r) e
  where
    either : (t : Bool) → (range_from x (offset + b.size) bs ≡ Some r → (offset + b.size ≤ r.offset) × (r.offset + r.size ≤ offset + b.size + units bs))
        → (if t then Some (record { offset = offset; size = b.size }) else range_from x (offset + b.size) bs) ≡ Some r → (offset ≤ r.offset)
        × (r.offset + r.size ≤ offset + (b.size + units bs))
    either true later e = grind (arith, common_steps)
    either false later e = grind (arith, common_steps)

both : (x y : ℕ) (u : Bool) (z : ℕ) → x ≢ y → (u && nat_eq x z) ≡ true → (u && nat_eq y z) ≡ true → ⊥
both x y true z d e f = grind (arith, hit_cases, false≢true, ne_eqb)
both x y false z d e f = grind (arith, false≢true)

apart : (x y offset : ℕ) (bs : List Block) (r s : Range) → x ≢ y → range_from x offset bs ≡ Some r → range_from y offset bs ≡ Some s → AreDisjoint r s
apart x y offset [] r s d e f = absurd (cc)
apart x y offset (b ∷ bs) r s d e f = either (b.used && nat_eq x b.name) (b.used && nat_eq y b.name) (both x y b.used b.name d) (apart x y (offset + b.size) bs r s d) e f
  where
    either : (t u : Bool) → (t ≡ true → u ≡ true → ⊥) → (range_from x (offset + b.size) bs ≡ Some r → range_from y (offset + b.size) bs ≡ Some s → AreDisjoint r s)
        → (if t then Some (record { offset = offset; size = b.size }) else range_from x (offset + b.size) bs) ≡ Some r
        → (if u then Some (record { offset = offset; size = b.size }) else range_from y (offset + b.size) bs) ≡ Some s → AreDisjoint r s
    either true true n later e f = grind (arith, common_steps)
    either true false n later e f = grind (arith, common_steps, beyond)
    either false true n later e f = grind (arith, common_steps, beyond)
    either false false n later e f = grind (arith, common_steps)

-- the ranges of two live handles share no unit
pub live_disjoint : (v : View) → IsWellFormed v → (x y : ℕ) (r s : Range) → x ≢ y → range_of x v ≡ Some r → range_of y v ≡ Some s → AreDisjoint r s
live_disjoint v f x y r s d e g = apart x y 0 v.blocks r s d (sym (range_is x v f) ∙ e) (sym (range_is y v f) ∙ g)

-- the range of a live handle lies in the space
pub live_inside : (v : View) → IsWellFormed v → (x : ℕ) (r : Range) → range_of x v ≡ Some r → r.offset + r.size ≤ v.size
live_inside v f x r e = let b = (beyond x 0 v.blocks r (sym (range_is x v f) ∙ e)).1 in let w = f.whole in omega arith

-- the range of a name that was not live is freed: all live ranges stay where they were
pub given_back : (x : ℕ) (v w z : View) → range_of x v ≡ None → KeepsRanges v w → KeepsOthers x w z → KeepsRanges v z
given_back x v w z fresh kept others y r e = grind (arith, hit_cases)

-- and a refusal too
pub call_keeps : (n : ℕ) (v w : View) (o : Option Handle) → IfSome o (Grants n v w) → (o ≡ None → SameSpace v w) → KeepsRanges v w
call_keeps n v w None h same = λ x r e. ap (range_of x) (same refl) ∙ e
call_keeps n v w (Some g) h same = given_back g.name v v w h.not_live (λ x r e. e) h.others

-- a grant has its units, in the space, where no live range is
module _ {needed n : ℕ} {padding_at : ℕ → ℕ} {v w : View} {g : Handle} (s : Splits needed n padding_at v w g) (f : IsWellFormed v) (after : IsWellFormed w) where
  abbrev x : ℕ
  x = s.block.name

  abbrev padding : List Block
  padding = free_part s.padding_name s.padding

  abbrev remainder : List Block
  remainder = free_part s.remainder_name s.remainder

  abbrev new : List Block
  new = padding ++ (used_block x n ∷ remainder)

  alone : (count_named x s.before ≡ 0) × (count_named x s.after ≡ 0)
  alone = beside x s.before s.block s.after refl (omega (arith, ap (count_named x) s.blocks, f.distinct x))

  same_units : units new ≡ units (s.block ∷ [])
  same_units = omega (arith, s.whole, units-append padding (used_block x n ∷ remainder), (part_sums s.padding_name s.padding).1, (part_sums s.remainder_name s.remainder).1)

  -- the ranges are those of the new blocks
  ranged : (y : ℕ) → range_of y w ≡ range_from y 0 (s.before ++ (new ++ s.after))
  ranged y = range_is y w after ∙ ap (λ (u : View). range_from y 0 u.blocks) (split_view s)

  not_live : range_of x v ≡ None
  not_live =
      range_is x v f ∙ ap (range_from x 0) s.blocks
      ∙ nothing x 0 (s.before ++ s.block ∷ s.after)
      (none_append x s.before (s.block ∷ s.after) (none_named x s.before alone.0) (none_append x (s.block ∷ []) s.after (none_idle x s.block s.free) (none_named x s.after alone.1)))

  range : range_of x w ≡ Some (record { offset = units s.before + s.padding; size = n })
  range =
      ranged x
      ∙ past x 0 s.before (new ++ s.after) (none_named x s.before alone.0)
      ∙ ap (λ o. range_from x o (new ++ s.after)) (let zeroed : 0 + units s.before ≡ units s.before = omega arith in zeroed)
      ∙ ap (range_from x (units s.before)) (append_assoc padding (used_block x n ∷ remainder) s.after)
      ∙ past x (units s.before) padding _ (none_free x s.padding_name s.padding)
      ∙ ap (λ o. range_from x (units s.before + o) (used_block x n ∷ (remainder ++ s.after))) (part_sums s.padding_name s.padding).1
      ∙ found x (units s.before + s.padding) n (remainder ++ s.after)

  others : KeepsOthers x v w
  others y d =
      ranged y
      ∙ swapped y 0 s.before (s.block ∷ []) new s.after same_units (none_idle y s.block s.free)
      (none_append y padding _ (none_free y s.padding_name s.padding) (none_append y (used_block x n ∷ []) remainder ((ne_eqb y x d, tt)) (none_free y s.remainder_name s.remainder)))
      ∙ sym (ap (range_from y 0) s.blocks) ∙ sym (range_is y v f)

  pub split_grants : Grants n v w g
  split_grants = subst (Grants n v w) (sym s.grant) (record {
    not_live = not_live;
    range = range;
    within = live_inside w after x _ range;
    disjoint = λ y r e. elim (hit_cases y x) [
      | inl h ↦ absurd (let same = ap (λ z. range_of z v) h.0 in let no : (let o : Option Range = None in o) ≡ Some r = sym not_live ∙ sym same ∙ e in cc)
      | inr h ↦ live_disjoint w after y x r _ h.0 (others y h.0 ∙ e) range
    ];
    others = others;
  })

none_idle_all : (x : ℕ) (bs : List Block) → AllByRecursion (λ b. b.used ≡ false) bs → HasNone x bs
none_idle_all x [] i = tt
none_idle_all x (b ∷ bs) i = (ap (λ (u : Bool). u && nat_eq x b.name) i.0, none_idle_all x bs i.1)

module _ (x : ℕ) (v w : View) (k : IsWellFormed v) (after : IsWellFormed w) (f : Frees x v w) where
  abbrev old : List Block
  old = f.left ++ (f.block ∷ f.right)

  abbrev freed : Block
  freed = free_block x (units old)

  remade : (y : ℕ) → range_of y w ≡ range_from y 0 (f.before ++ (freed ∷ f.after))
  remade y = range_is y w after ∙ ap (λ (u : View). range_from y 0 u.blocks) f.view

  pub frees_gone : range_of x w ≡ None
  frees_gone =
      let here : one (nat_eq x f.block.name) ≡ 1 = elim (hit_cases x f.block.name) [ inl h ↦ h.1 | inr h ↦ absurd (h.0 (sym f.named)) ] in
      let all = ap (count_named x) f.blocks ∙ tally_append (λ (b : Block). one (nat_eq x b.name)) f.before (old ++ f.after) in
      let middle = tally_append (λ (b : Block). one (nat_eq x b.name)) old f.after in
      let inner = tally_append (λ (b : Block). one (nat_eq x b.name)) f.left (f.block ∷ f.right) in
      remade x ∙ nothing x 0 _ (none_append x f.before (freed ∷ f.after) (none_named x f.before (omega (arith, k.distinct x, all, middle, inner, here)))
      (none_append x (freed ∷ []) f.after (none_idle x freed refl) (none_named x f.after (omega (arith, k.distinct x, all, middle, inner, here)))))

  pub frees_others : KeepsOthers x v w
  frees_others y d =
      let idle = idle_parts f.left f.right f.free in
      remade y
      ∙ swapped y 0 f.before old (freed ∷ []) f.after (omega arith)
      (none_append y f.left (f.block ∷ f.right) (none_idle_all y f.left idle.0)
      (none_append y (f.block ∷ []) f.right ((ap (λ t. f.block.used && t) (ne_eqb y f.block.name (λ k. d (k ∙ sym (sym f.named)))) ∙ and_right f.block.used false refl, tt))
      (none_idle_all y f.right idle.1)))
      (none_idle y freed refl)
      ∙ sym (ap (range_from y 0) f.blocks) ∙ sym (range_is y v k)

-- more units at the end
shut : (x offset : ℕ) (bs cs : List Block) → HasNone x cs → range_from x offset (bs ++ cs) ≡ range_from x offset bs
shut x offset [] cs h = nothing x offset cs h
shut x offset (b ∷ bs) cs h = ap (λ r. if b.used && nat_eq x b.name then Some (record { offset = offset; size = b.size }) else r) (shut x (offset + b.size) bs cs h)

pub adds_keep : (v w : View) → IsWellFormed v → IsWellFormed w → (more : ℕ) → Adds more v w → KeepsAll v w
adds_keep v w f after more s x = grind (arith, range_is, shut, none_idle, none_idle_all)

-- fewer units at the end
none_end : (y : ℕ) (fs : List Block) (x n : ℕ) → HasNone y (end_part fs x n ++ [])
none_end y [] x n = none_idle y (free_block x n) refl
none_end y (b ∷ bs) x zero = tt
none_end y (b ∷ bs) x (suc n) = none_idle y (free_block x (suc n)) refl

pub cuts_keep : (v w : View) → IsWellFormed v → IsWellFormed w → (less : ℕ) → Cuts less v w → KeepsAll v w
cuts_keep v w f after less s x =
    range_is x w after
    ∙ ap (λ (u : View). range_from x 0 u.blocks) s.view
    ∙ shut x 0 s.before (end_part s.before s.last.name (s.last.size - less) ++ []) (none_end x s.before s.last.name (s.last.size - less))
    ∙ sym (shut x 0 s.before (s.last ∷ []) (none_idle x s.last s.free))
    ∙ sym (ap (range_from x 0) s.blocks) ∙ sym (range_is x v f)

-- fewer units, or more
module _ (x n : ℕ) (v w : View) (k : IsWellFormed v) (after : IsWellFormed w) (s : Resizes x n v w) where
  abbrev gone : List Block
  gone = s.block ∷ s.next

  abbrev made : List Block
  made = used_block x n ∷ free_part s.name s.left

  refitted : (y : ℕ) → range_of y w ≡ range_from y 0 (s.before ++ (made ++ s.after))
  refitted y = range_is y w after ∙ ap (λ (u : View). range_from y 0 u.blocks) s.view

  pub resizes_units : HasUnits x n v w
  resizes_units r e = grind (arith, range_is, placed, refitted)

  pub resizes_others : KeepsOthers x v w
  resizes_others y d =
      refitted y
      ∙ swapped y 0 s.before gone made s.after (omega (arith, s.whole, (part_sums s.name s.left).1))
      (none_append y (s.block ∷ []) s.next ((ap (λ t. s.block.used && t) (ne_eqb y s.block.name (λ e. d (e ∙ s.named))) ∙ and_right s.block.used false refl, tt))
      (none_idle_all y s.next s.free))
      (none_append y (used_block x n ∷ []) (free_part s.name s.left) ((ne_eqb y x d, tt)) (none_free y s.name s.left))
      ∙ sym (ap (range_from y 0) s.blocks) ∙ sym (range_is y v k)
