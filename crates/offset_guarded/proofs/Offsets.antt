-- Where live blocks begin, before and after they move by whole steps.
use Rattle.std.proofs.Common.{◌≡◌, ℕ, zero, suc, ◌+◌, ◌%◌, ◌≤◌, Bool, true, false, ◌&&◌, List, [], ◌∷◌, ◌++◌, Option, Some, None, nat_eq, option_map, if◌then◌else◌}
use Rattle.std.proofs.Common.{refl, sym, ap, ap₂, subst, ◌∙◌, arith, inl, inr, append-nil, ne_eqb, eq-eqb}
use Rattle.std.proofs.Math.Nat.{add-mod, mod-mod, dvd-mod_iff}
use Rattle.std.specs.Int.{◌∣◌}
use Rattle.offset_allocator.specs.View.{Block, View, Place, IsWellFormed, count_named, free_block, free_part, place_of, units}
use Rattle.offset_allocator.specs.Ranges.{Range, range_of}
use Rattle.std.proofs.lemmas.Bool.{cases_lt}
use Rattle.std.specs.Prelude.{unwrap_or}
use Rattle.offset_allocator.specs.Moving.Relocating.{offset_of}
use Rattle.offset_allocator.specs.Relations.{SameState}
use Rattle.offset_allocator.specs.declared.moves.room.RoomCost.{RoomCost}
use Rattle.offset_allocator.specs.Moving.{Compacting.Move, BySteps.CompactsBy, Budget.CompactsWithin, RoomBySteps.MakesRoomBy}
use Rattle.offset_guarded.specs.Guard as guarded
use Rattle.offset_guarded.specs.Guard.{Guard, KeepsAlignments, KeepsDivisors, Ticket, fits}
use Rattle.offset_allocator.specs.Moving.{BySteps.SlidesBy, BySteps.given_up, BySteps.kept, BySteps.stepped, Budget.SlidesWithin, RoomBySteps.SlidesRunBy}
use Rattle.offset_allocator.specs.declared.moves.over_frames.Progress.{Progress}
use Rattle.offset_allocator.proofs.{Reading.range_at, Tallies.hit_cases, Tallies.units-append, Moving.Stepped.stepped_units}

-- where the live block named x begins, of blocks that begin at o
abbrev pub begins : ℕ → ℕ → List Block → Option ℕ
begins x o [] = None
begins x o (b ∷ bs) = if b.used && nat_eq x b.name then Some o else begins x (o + b.size) bs

begins_hit : (x o : ℕ) (b : Block) (bs : List Block) (u h : Bool) → b.used ≡ u → nat_eq x b.name ≡ h → begins x o (b ∷ bs) ≡ (if u && h then Some o else begins x (o + b.size) bs)
begins_hit x o b bs u h e f = ap₂ (λ (u h : Bool). if u && h then Some o else begins x (o + b.size) bs) e f

-- the first, or else the second
abbrev or_else : Option ℕ → Option ℕ → Option ℕ
or_else None q = q
or_else (Some n) q = Some n

or_else-append : (x o : ℕ) (xs ys : List Block) → begins x o (xs ++ ys) ≡ or_else (begins x o xs) (begins x (o + units xs) ys)
or_else-append x o [] ys = ap (λ (n : ℕ). begins x n ys) {x = o} {y = o + 0} (omega arith)
or_else-append x o (b ∷ xs) ys =
    let ih = or_else-append x (o + b.size) xs ys ∙ ap (λ (n : ℕ). or_else (begins x (o + b.size) xs) (begins x n ys)) {x = o + b.size + units xs} {y = o + units (b ∷ xs)} (omega arith) in
    elim (b.used && nat_eq x b.name) as (λ t. (if t then Some o else begins x (o + b.size) (xs ++ ys)) ≡ or_else (if t then Some o else begins x (o + b.size) xs) (begins x (o + units (b ∷ xs)) ys)) [
      | true ↦ refl
      | false ↦ ih
    ]

-- what whole steps leave of where it begins
abbrev rest : ℕ → Option ℕ → Option ℕ
rest s o = option_map (λ (n : ℕ). n % s) o

rest-or : (s : ℕ) (o p q : Option ℕ) → rest s p ≡ rest s q → rest s (or_else o p) ≡ rest s (or_else o q)
rest-or s None p q e = e
rest-or s (Some n) p q e = refl

rest-first : (s : ℕ) (o p q : Option ℕ) → rest s o ≡ rest s p → rest s (or_else o q) ≡ rest s (or_else p q)
rest-first s None None q e = refl
rest-first s None (Some m) q e = absurd (cc)
rest-first s (Some n) None q e = absurd (cc)
rest-first s (Some n) (Some m) q e = e

or-none : (o : Option ℕ) → or_else o None ≡ o
or-none None = refl
or-none (Some n) = refl

same_rest : (s i j n : ℕ) → i % s ≡ j % s → (i + n) % s ≡ (j + n) % s
same_rest s i j n e = add-mod i n s ∙ ap (λ (k : ℕ). (k + n % s) % s) e ∙ sym (add-mod j n s)

same_kept : (s i j n : ℕ) → i % s ≡ j % s → (i + n) % s ≡ (j + n % s) % s
same_kept s i j n e = same_rest s i j n e ∙ add-mod j n s ∙ ap (λ (k : ℕ). (j % s + k) % s) (sym (mod-mod n s)) ∙ sym (add-mod j (n % s) s)

-- a free block is not live
behind_free : (x o name n : ℕ) (bs : List Block) → begins x o (free_part name n ++ bs) ≡ begins x (o + n) bs
behind_free x o name zero bs = ap (λ (k : ℕ). begins x k bs) {x = o} {y = o + 0} (omega arith)
behind_free x o name (suc n) bs = refl

-- the blocks of a run that slides
run_rests : (s x from to : ℕ) (bs : List Block) → from % s ≡ to % s → rest s (begins x from bs) ≡ rest s (begins x to (stepped s bs))
run_rests s x from to [] e = refl
run_rests s x from to (b ∷ bs) e =
    go b.used refl (run_rests s x (from + b.size) (to + b.size) bs (same_rest s from to b.size e))
    (gone bs (run_rests s x (from + b.size) (to + b.size % s) bs (same_kept s from to b.size e)))
  where
    left : Bool → List Block
    left u = (if u then b ∷ [] else free_part b.name (kept s b.size bs)) ++ stepped s bs

    gone : (cs : List Block) → rest s (begins x (from + b.size) cs) ≡ rest s (begins x (to + b.size % s) (stepped s cs))
        → rest s (begins x (from + b.size) cs) ≡ rest s (begins x (to + kept s b.size cs) (stepped s cs))
    gone [] ih = refl
    gone (c ∷ cs) ih = ih

    go : (u : Bool) → b.used ≡ u → rest s (begins x (from + b.size) bs) ≡ rest s (begins x (to + b.size) (stepped s bs))
        → rest s (begins x (from + b.size) bs) ≡ rest s (begins x (to + kept s b.size bs) (stepped s bs)) → rest s (begins x from (b ∷ bs)) ≡ rest s (begins x to (left b.used))
    go true d ih free =
        ap (λ (u : Bool). rest s (if u && nat_eq x b.name then Some from else begins x (from + b.size) bs)) d
        ∙ (elim (nat_eq x b.name) as (λ h. rest s (if h then Some from else begins x (from + b.size) bs) ≡ rest s (if h then Some to else begins x (to + b.size) (stepped s bs))) [
          | true ↦ ap Some e
          | false ↦ ih
        ])
        ∙ sym (ap (λ (u : Bool). rest s (if u && nat_eq x b.name then Some to else begins x (to + b.size) (stepped s bs))) d)
        ∙ sym (ap (λ (u : Bool). rest s (begins x to (left u))) d)
    go false d ih free =
        ap (λ (u : Bool). rest s (if u && nat_eq x b.name then Some from else begins x (from + b.size) bs)) d
        ∙ free
        ∙ sym (ap (rest s) (behind_free x to b.name (kept s b.size bs) (stepped s bs)))
        ∙ sym (ap (λ (u : Bool). rest s (begins x to (left u))) d)

-- blocks of which a run slides, and a free block at its end has what it gives up
slid_rests : (s x name : ℕ) (front run back : List Block)
    → rest s (begins x 0 (front ++ (run ++ back))) ≡ rest s (begins x 0 (front ++ ((stepped s run ++ free_block name (given_up s run) ∷ []) ++ back)))
slid_rests s x name front run back =
    let o : ℕ = 0 + units front in
    let new : List Block = stepped s run ++ free_block name (given_up s run) ∷ [] in
    let same : begins x o new ≡ begins x o (stepped s run) =
    or_else-append x o (stepped s run) (free_block name (given_up s run) ∷ []) ∙ or-none (begins x o (stepped s run)) in
    let long : units new ≡ units run = omega (arith, stepped_units s run, units-append (stepped s run) (free_block name (given_up s run) ∷ [])) in
    let run_is : rest s (begins x o run) ≡ rest s (begins x o new) = run_rests s x o o run refl ∙ sym (ap (rest s) same) in
    ap (rest s) (or_else-append x 0 front (run ++ back))
    ∙ rest-or s (begins x 0 front) (begins x o (run ++ back)) (begins x o (new ++ back))
    (ap (rest s) (or_else-append x o run back) ∙ rest-first s (begins x o run) (begins x o new) (begins x (o + units run) back) run_is
    ∙ ap (λ (n : ℕ). rest s (or_else (begins x o new) (begins x (o + n) back))) (sym long) ∙ sym (ap (rest s) (or_else-append x o new back)))
    ∙ sym (ap (rest s) (or_else-append x 0 front (new ++ back)))

-- every live block begins a multiple of the step before where it began, or where it did
abbrev pub IsStepwise : ℕ → List Block → List Block → Type 0
IsStepwise s bs cs = (x : ℕ) → rest s (begins x 0 bs) ≡ rest s (begins x 0 cs)

pub by_steps : (s : ℕ) (v w : View) → SlidesBy s v w → IsStepwise s v.blocks w.blocks
by_steps s v w h x =
    ap (λ (l : List Block). rest s (begins x 0 l)) (h.is ∙ ap (λ (l : List Block). h.front ++ l) (sym (append-nil (h.first ∷ h.rest))))
    ∙ slid_rests s x h.name h.front (h.first ∷ h.rest) []
    ∙ sym (ap (λ (u : View). rest s (begins x 0 u.blocks)) h.view)

pub by_steps_within : (s from u r : ℕ) (v w : View) (p : Progress) → SlidesWithin s from u r v w p → IsStepwise s v.blocks w.blocks
by_steps_within s from u r v w p h x =
    ap (λ (l : List Block). rest s (begins x 0 l)) h.reached.is ∙ slid_rests s x h.name h.front (h.first ∷ h.rest) h.back ∙ sym (ap (λ (u : View). rest s (begins x 0 u.blocks)) h.view)

pub by_steps_for_room : (s want short : ℕ) (v w : View) → SlidesRunBy s want short v w → IsStepwise s v.blocks w.blocks
by_steps_for_room s want short v w h x =
    ap (λ (l : List Block). rest s (begins x 0 l)) h.is ∙ slid_rests s x h.name h.front h.run h.back ∙ sym (ap (λ (u : View). rest s (begins x 0 u.blocks)) h.view)

-- ---- ranges
-- where the range of a place begins, after o units
abbrev shifted : ℕ → Option Place → Option ℕ
shifted o q = option_map (λ (r : Range). o + r.offset) (range_at q)

none_begins : (x o : ℕ) (bs : List Block) → count_named x bs ≡ 0 → begins x o bs ≡ None
none_begins x o [] e = refl
none_begins x o (b ∷ bs) e = elim (hit_cases x b.name) [
  | inl h ↦ absurd (let one = h.1 in omega (arith, e))
  | inr n ↦ begins_hit x o b bs b.used false refl (ne_eqb x b.name n.0) ∙ miss b.used ∙ none_begins x (o + b.size) bs (let none = n.1 in omega (arith, e))
]
  where
    miss : (u : Bool) → (if u && false then Some o else begins x (o + b.size) bs) ≡ begins x (o + b.size) bs
    miss true = refl
    miss false = refl

begins_is : (x o : ℕ) (bs : List Block) → count_named x bs ≤ 1 → shifted o (place_of x bs) ≡ begins x o bs
begins_is x o [] l = refl
begins_is x o (b ∷ bs) l = elim (hit_cases x b.name) [
  | inl h ↦
      ap (λ (t : Bool). shifted o (if t then Some (record { before = []; block = b; after = bs }) else option_map (λ (p : Place). record p { before = b ∷ p.before }) (place_of x bs))) (eq-eqb x b.name h.0)
      ∙ here b.used (none_begins x (o + b.size) bs (let one = h.1 in omega (arith, l)))
      ∙ sym (begins_hit x o b bs b.used true refl (eq-eqb x b.name h.0))
  | inr n ↦
      ap (λ (t : Bool). shifted o (if t then Some (record { before = []; block = b; after = bs }) else option_map (λ (p : Place). record p { before = b ∷ p.before }) (place_of x bs))) (ne_eqb x b.name n.0)
      ∙ later (place_of x bs) ∙ begins_is x (o + b.size) bs (let none = n.1 in omega (arith, l))
      ∙ sym (miss b.used) ∙ sym (begins_hit x o b bs b.used false refl (ne_eqb x b.name n.0))
]
  where
    here : (u : Bool) → begins x (o + b.size) bs ≡ None
        → option_map (λ (r : Range). o + r.offset) (if u then Some (record { offset = 0; size = b.size }) else None) ≡ (if u && true then Some o else begins x (o + b.size) bs)
    here true e = ap Some (omega arith)
    here false e = sym e

    miss : (u : Bool) → (if u && false then Some o else begins x (o + b.size) bs) ≡ begins x (o + b.size) bs
    miss true = refl
    miss false = refl

    later : (q : Option Place) → shifted o (option_map (λ (p : Place). record p { before = b ∷ p.before }) q) ≡ shifted (o + b.size) q
    later None = refl
    later (Some p) = both p.block.used
      where
        both : (u : Bool) → option_map (λ (r : Range). o + r.offset) (if u then Some (record { offset = units (b ∷ p.before); size = p.block.size }) else None)
            ≡ option_map (λ (r : Range). o + b.size + r.offset) (if u then Some (record { offset = units p.before; size = p.block.size }) else None)
        both true = ap Some (omega arith)
        both false = refl

begins_range : (x : ℕ) (v : View) (r : Range) → IsWellFormed v → range_of x v ≡ Some r → begins x 0 v.blocks ≡ Some r.offset
begins_range x v r w e = sym (begins_is x 0 v.blocks (w.distinct x)) ∙ ap (option_map (λ (r : Range). 0 + r.offset)) e ∙ ap Some (omega arith)

-- a range that moves by whole steps keeps each alignment that divides the step
pub keeps_divisor : (s a x : ℕ) (v w : View) (r q : Range) → IsWellFormed v → IsWellFormed w → IsStepwise s v.blocks w.blocks → range_of x v ≡ Some r → range_of x w ≡ Some q → a ∣ s → a ∣ r.offset → a ∣ q.offset
keeps_divisor s a x v w r q known formed is e f d p =
    let both : Some (r.offset % s) ≡ Some (q.offset % s) = sym (ap (rest s) (begins_range x v r known e)) ∙ is x ∙ ap (rest s) (begins_range x w q formed f) in
    let same : r.offset % s ≡ q.offset % s = cc in
    (dvd-mod_iff a d).0 (subst (λ (n : ℕ). a ∣ n) same ((dvd-mod_iff a d).1 p))

-- ---- calls
same_blocks : (s : ℕ) (v w : View) → SameState v w → IsStepwise s v.blocks w.blocks
same_blocks s v w e x = sym (ap (λ (u : View). rest s (begins x 0 u.blocks)) e)

pub compacted : (s : ℕ) (v w : View) (done : Bool) → CompactsBy s v w done → IsStepwise s v.blocks w.blocks
compacted s v w true (inl k) = same_blocks s v w k.1
compacted s v w true (inr k) = by_steps s v w k.1
compacted s v w false k = same_blocks s v w k.2

pub compacted_within : {F : Type 0} (R : F → Move → F → Type 0) (s from u r : ℕ) (v w : View) (f g : F) (p : Option Progress) → CompactsWithin R s from u r v f p w g → IsStepwise s v.blocks w.blocks
compacted_within R s from u r v w f g None k = same_blocks s v w k.0
compacted_within R s from u r v w f g (Some p) (inl k) = same_blocks s v w k.2
compacted_within R s from u r v w f g (Some p) (inr k) = by_steps_within s from u r v w p k.0

pub room_made : {F : Type 0} (R : F → Move → F → Type 0) (s want short : ℕ) (v w : View) (f g : F) (c : Option RoomCost) → MakesRoomBy R s want short v f c w g → IsStepwise s v.blocks w.blocks
room_made R s want short v w f g None k = same_blocks s v w k.0
room_made R s want short v w f g (Some c) k = elim (cases_lt 0 c.ranges) [
  | inl some ↦ by_steps_for_room s want short v w (k.1 some).0
  | inr none ↦ same_blocks s v w (k.0 (omega (arith, none))).0
]

-- ---- tickets
range_in : (t : Ticket) (g : Guard) (r : Range) → guarded.range_of t g ≡ Some r → range_of t.name g.space ≡ Some r
range_in t g r e = go (fits t g) e
  where
    go : (b : Bool) → (if b then range_of t.name g.space else None) ≡ Some r → range_of t.name g.space ≡ Some r
    go true e = e
    go false e = absurd (cc)

pub kept_divisors : (s : ℕ) (g h : Guard) → IsWellFormed g.space → IsWellFormed h.space → IsStepwise s g.space.blocks h.space.blocks → KeepsDivisors s g h
kept_divisors s g h known formed is t r q a e f d p = keeps_divisor s a t.name g.space h.space r q known formed is (range_in t g r e) (range_in t h q f) d p

-- the step stays, and with it what divides it
pub kept_alignments : (g h : Guard) → h.step ≡ g.step → KeepsDivisors g.step g h → KeepsAlignments g h
kept_alignments g h same kept t r q a e f d p = (subst (λ (n : ℕ). a ∣ n) (sym same) d, kept t r q a e f d p)

-- where nothing changes
pub same_aligned : (g : Guard) → KeepsAlignments g g
same_aligned g t r q a e f d p =
    let both : Some r ≡ Some q = sym e ∙ f in
    let same : r ≡ q = cc in
    (d, subst (λ (k : Range). a ∣ k.offset) same p)

pub offset_in : (t : Ticket) (g : Guard) (o : ℕ) → Some o ≡ option_map (λ (r : Range). r.offset) (guarded.range_of t g) → offset_of t.name g.space ≡ o
offset_in t g o e = go (fits t g) e
  where
    go : (b : Bool) → Some o ≡ option_map (λ (r : Range). r.offset) (if b then range_of t.name g.space else None) → unwrap_or (option_map (λ (r : Range). r.offset) (range_of t.name g.space)) 0 ≡ o
    go true e = ap (λ (q : Option ℕ). unwrap_or q 0) (sym e)
    go false e = absurd (cc)
