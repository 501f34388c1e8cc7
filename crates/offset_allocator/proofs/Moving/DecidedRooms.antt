-- What room costs is one cost, and in the same state room is made by the same moves, which leave the same state.
use Rattle.offset_allocator.proofs.{Decided.both_leave, Decided.both_stay, Decided.same_renamed, Tallies.tally_append, Views.ViewApart.ends_free, Views.ViewApart.apart_parts}
use Rattle.offset_allocator.proofs.{Views.ViewApart.right_false, Common.Move, Common.first_free}
use Rattle.offset_allocator.proofs.Common.{◌≡◌, ℕ, ◌≤◌, ◌⊎◌, Bool, true, false, not, List, [], ◌∷◌, ◌++◌, Option, Some, None, refl, sym, ap, ap₂, subst, ◌∙◌, inl, inr, arith, drop, sum, FoldsTo}
use Rattle.offset_allocator.proofs.Common.{cases_lt, true≢false, Block, View, one, units, count_used, free_sizes, free_block, starts_free, ends_used, AreCoalesced, IsWellFormed, replace, live, moves}
use Rattle.offset_allocator.specs.{Names.free_blocks, Relations.SameState, Moving.Room.IsAtMost, Moving.Room.IsLess, Moving.Room.IsLeastCost, Moving.Room.IsRun, Moving.Room.MakesRoom}
use Rattle.offset_allocator.proofs.{Moving.OneStep.least_by_one}
use Rattle.offset_allocator.specs.Moving.RoomBySteps.{IsLeastCostBy}
use Rattle.offset_allocator.specs.{Moving.Room.SlidesRun, Moving.Room.cost_of}
use Rattle.offset_allocator.specs.declared.moves.room.RoomCost.{RoomCost}

-- ---- costs
pub one_most : (c d : RoomCost) → IsAtMost c d → IsAtMost d c → c ≡ d
one_most c d (inl l) (inl m) = absurd (omega (arith, l, m))
one_most c d (inl l) (inr m) = absurd (omega (arith, l, m.0))
one_most c d (inr l) (inl m) = absurd (omega (arith, l.0, m))
one_most c d (inr l) (inr m) =
    let ranges : c.ranges ≡ d.ranges = omega (arith, l.1, m.1) in
    ap₂ (λ (u r : ℕ). let k : RoomCost = record { units = u; ranges = r } in k) l.0 ranges

pub least_by_decided : (s want short : ℕ) (bs : List Block) (c d : Option RoomCost) → IsLeastCostBy s want short bs c → IsLeastCostBy s want short bs d → c ≡ d
least_by_decided s want short bs None None a b = refl
least_by_decided s want short bs None (Some d) a b = absurd (a b.0.0 b.0.1 b.0.2)
least_by_decided s want short bs (Some c) None a b = absurd (b a.0.0 a.0.1 a.0.2)
least_by_decided s want short bs (Some c) (Some d) a b =
    ap Some (one_most c d (subst (IsAtMost c) (sym b.0.3) (a.1 b.0.0 b.0.1 b.0.2)) (subst (IsAtMost d) (sym a.0.3) (b.1 a.0.0 a.0.1 a.0.2)))

pub least_decided : (want : ℕ) (bs : List Block) (c d : Option RoomCost) → IsLeastCost want bs c → IsLeastCost want bs d → c ≡ d
least_decided want bs c d a b = least_by_decided 1 want 0 bs c d (least_by_one want bs c a) (least_by_one want bs d b)

pub none_less : (c : RoomCost) → IsLess c c → ⊥
none_less c (inl l) = omega (arith, l)
none_less c (inr l) = omega (arith, l.1)

-- ---- two splits of one list
-- the second begins later: after fs comes b, which is before gs ends
pub record IsPast (fs xs gs ys : List Block) : Type 0 where
  pub block : Block
  pub between : List Block
  pub front : gs ≡ fs ++ block ∷ between
  pub back : xs ≡ block ∷ (between ++ ys)

abbrev pub Meet : List Block → List Block → List Block → List Block → Type 0
Meet fs xs gs ys = ((fs ≡ gs) × (xs ≡ ys)) ⊎ (IsPast fs xs gs ys ⊎ IsPast gs ys fs xs)

pub meet : (fs xs gs ys : List Block) → fs ++ xs ≡ gs ++ ys → Meet fs xs gs ys
meet [] xs [] ys e = inl (refl, e)
meet [] xs (g ∷ gs) ys e = inr (inl (record { block = g; between = gs; front = refl; back = e }))
meet (f ∷ fs) xs [] ys e = inr (inr (record { block = f; between = fs; front = refl; back = sym e }))
meet (f ∷ fs) xs (g ∷ gs) ys e =
    let first : f ≡ g = cc in
    let rest : fs ++ xs ≡ gs ++ ys = cc in
    elim (meet fs xs gs ys rest) [
      | inl m ↦ inl (ap₂ (λ (b : Block) (l : List Block). b ∷ l) first m.0, m.1)
      | inr (inl p) ↦ inr (inl (record { block = p.block; between = p.between; front = ap₂ (λ (b : Block) (l : List Block). b ∷ l) (sym first) p.front; back = p.back }))
      | inr (inr p) ↦ inr (inr (record { block = p.block; between = p.between; front = ap₂ (λ (b : Block) (l : List Block). b ∷ l) first p.front; back = p.back }))
    ]

-- ---- runs
-- of two runs that serve at one cost neither begins later, since those that begin later cost more
begins_later : (Serve : List Block → Type 0) (front run back front' run' back' : List Block) → IsPast front (run ++ back) front' (run' ++ back') → cost_of run ≡ cost_of run' → starts_free run' ≡ true
    → ends_used run' ≡ false → Serve run' → ((q : List Block) → IsRun q (drop 1 (run ++ back)) → Serve q → IsLess (cost_of run) (cost_of q)) → ⊥
begins_later Serve front run back front' run' back' p same begins ends serves later =
    none_less (cost_of run) (subst (IsLess (cost_of run)) (sym same) (later run' (record {
      front = p.between;
      back = back';
      is = ap (drop 1) p.back;
      begins = begins;
      ends = ends;
    }) serves))

ends_of : (b : Block) (bs : List Block) → ends_free (b ∷ bs) ≡ not (ends_used (b ∷ bs))
ends_of b [] = refl
ends_of b (d ∷ bs) = ends_of d bs

pub ends_some : (bs : List Block) → starts_free bs ≡ true → ends_used bs ≡ false → ends_free bs ≡ true
ends_some [] s e = absurd (true≢false (sym s))
ends_some (b ∷ bs) s e = ends_of b bs ∙ ap not e

taken_one : (u : Bool) → not u ≡ false → one u ≡ 1
taken_one true e = refl
taken_one false e = absurd (true≢false e)

-- nor does one of two that begin at one block end later, since it would have one live range more
pub ends_later : (run back run' back' : List Block) → IsPast run back run' back' → cost_of run ≡ cost_of run' → starts_free run ≡ true → ends_used run ≡ false → AreCoalesced (run ++ back) → ⊥
ends_later run back run' back' p same begins ends apart =
    let sides = apart_parts run (p.block ∷ (p.between ++ back')) (subst (λ l. AreCoalesced (run ++ l)) p.back apart) in
    let used : one p.block.used ≡ 1 = taken_one p.block.used (right_false (ends_free run) (not p.block.used) sides.2 (ends_some run begins ends)) in
    omega (arith, ap (λ (c : RoomCost). c.ranges) same, ap count_used p.front, tally_append (λ (b : Block). one b.used) run (p.block ∷ p.between), used)

-- so they are one
module _ (Serve : List Block → Type 0) (bs front run back front' run' back' : List Block) (apart : AreCoalesced bs) (is : bs ≡ front ++ (run ++ back)) (is' : bs ≡ front' ++ (run' ++ back'))
    (begins : starts_free run ≡ true) (begins' : starts_free run' ≡ true) (ends : ends_used run ≡ false) (ends' : ends_used run' ≡ false) (serves : Serve run) (serves' : Serve run')
    (later : (q : List Block) → IsRun q (drop 1 (run ++ back)) → Serve q → IsLess (cost_of run) (cost_of q))
    (later' : (q : List Block) → IsRun q (drop 1 (run' ++ back')) → Serve q → IsLess (cost_of run') (cost_of q)) (same : cost_of run ≡ cost_of run') where
  begins_same : (front ≡ front') × (run ++ back ≡ run' ++ back')
  begins_same = elim (meet front (run ++ back) front' (run' ++ back') (sym is ∙ is')) [
    | inl m ↦ m
    | inr (inl p) ↦ absurd (begins_later Serve front run back front' run' back' p same begins' ends' serves' later)
    | inr (inr p) ↦ absurd (begins_later Serve front' run' back' front run back p (sym same) begins ends serves later')
  ]

  ends_same : (run ≡ run') × (back ≡ back')
  ends_same = elim (meet run back run' back' begins_same.1) [
    | inl m ↦ m
    | inr (inl p) ↦ absurd (ends_later run back run' back' p same begins ends (apart_parts front (run ++ back) (subst AreCoalesced is apart)).1)
    | inr (inr p) ↦ absurd (ends_later run' back' run back p (sym same) begins' ends' (apart_parts front' (run' ++ back') (subst AreCoalesced is' apart)).1)
  ]

  pub one_run : (front ≡ front') × (run ≡ run') × (back ≡ back')
  one_run = (begins_same.0, ends_same.0, ends_same.1)

module _ (want : ℕ) (v : View) (known : IsWellFormed v) (a : ℕ) (w w' : View) (f : SlidesRun want v w) (k : SlidesRun want (record v { accesses = a }) w') (same : cost_of f.run ≡ cost_of k.run) where
  both : (f.front ≡ k.front) × (f.run ≡ k.run) × (f.back ≡ k.back)
  both = one_run (λ q. want ≤ sum (free_sizes q)) v.blocks f.front f.run f.back k.front k.run k.back known.apart f.is k.is f.begins k.begins f.ends k.ends f.serves k.serves f.later k.later same

  same_name : f.name ≡ k.name
  same_name = let q = sym f.first ∙ ap first_free both.1 ∙ k.first in cc

  abbrev slid : View → List Block → List Block → List Block → ℕ → View
  slid z front run back x = replace z front run (live run ++ free_block x (sum (free_sizes run)) ∷ []) back

  same_slid : slid v f.front f.run f.back f.name ≡ slid v k.front k.run k.back k.name
  same_slid =
      ap₂ (λ (front run : List Block). slid v front run f.back f.name) both.0 both.1
      ∙ ap₂ (λ (back : List Block) (x : ℕ). slid v k.front k.run back x) both.2 same_name

  slides_same : SameState w w'
  slides_same = both_leave (slid v f.front f.run f.back f.name) (slid (record v { accesses = a }) k.front k.run k.back k.name) w w' f.view k.view
      (ap (λ (z : View). record z { accesses = a }) (sym same_slid))
      (same_renamed v (drop 1 (free_blocks f.run)) (drop 1 (free_blocks k.run)) [] [] w w' (ap (λ (l : List Block). drop 1 (free_blocks l)) both.1) refl f.names k.names).1

  same_moves : moves (units f.front) (units f.front) f.run ≡ moves (units k.front) (units k.front) k.run
  same_moves = ap₂ (λ (front run : List Block). moves (units front) (units front) run) both.0 both.1

-- steps that are each decided are so one after the other
pub folds_same : {F A : Type 0} (R : F → A → F → Type 0) → ((f g h : F) (x : A) → R f x g → R f x h → g ≡ h) → (f : F) (xs : List A) (g h : F) → FoldsTo R f xs g → FoldsTo R f xs h → g ≡ h
folds_same R one f [] g h a b = sym a ∙ b
folds_same R one f (x ∷ xs) g h a b = folds_same R one a.0 xs g h a.2 (subst (λ j. FoldsTo R j xs h) (sym (one f a.0 b.0 x a.1 b.1)) b.2)

makes_same : {F : Type 0} (R : F → Move → F → Type 0) → ((f g h : F) (m : Move) → R f m g → R f m h → g ≡ h) → (want : ℕ) (v : View) → IsWellFormed v → (a : ℕ) (w w' : View) (f g g' : F) (c : Option RoomCost)
    → MakesRoom R want v f c w g → MakesRoom R want (record v { accesses = a }) f c w' g' → (g ≡ g') × SameState w w'
makes_same R one want v known a w w' f g g' None s t = (s.1 ∙ sym t.1, both_stay v w w' s.0 t.0)
makes_same R one want v known a w w' f g g' (Some c) s t = elim (cases_lt 0 c.ranges) [
  | inr l ↦
      let e = s.0 (omega (arith, l)) in
      let k = t.0 (omega (arith, l)) in
      (e.1 ∙ sym k.1, both_stay v w w' e.0 k.0)
  | inl l ↦
      let e = s.1 l in
      let k = t.1 l in
      let same = sym e.1 ∙ k.1 in (
        folds_same R one f (moves (units e.0.front) (units e.0.front) e.0.run) g g' e.2
            (subst (λ xs. FoldsTo R f xs g') (sym (same_moves want v known a w w' e.0 k.0 same)) k.2),
        slides_same want v known a w w' e.0 k.0 same,
      )
]

pub makes_room_decided : {F : Type 0} (R : F → Move → F → Type 0) → ((f g h : F) (m : Move) → R f m g → R f m h → g ≡ h) → (want : ℕ) (v v' w w' : View) → IsWellFormed v → SameState v v' → (f g g' : F)
    (c : Option RoomCost) → MakesRoom R want v f c w g → MakesRoom R want v' f c w' g' → (g ≡ g') × SameState w w'
makes_room_decided R one want v v' w w' known same f g g' c s t = makes_same R one want v known v'.accesses w w' f g g' c s (subst (λ z. MakesRoom R want z f c w' g') same t)

-- the moves in their order
abbrev pub Notes : List Move → Move → List Move → Type 0
Notes xs x ys = ys ≡ xs ++ x ∷ []

pub noted_decided : (want : ℕ) (v v' w w' : View) → IsWellFormed v → SameState v v' → (c c' : Option RoomCost) (xs xs' : List Move) → IsLeastCost want v.blocks c → IsLeastCost want v'.blocks c'
    → MakesRoom Notes want v [] c w xs → MakesRoom Notes want v' [] c' w' xs' → (c ≡ c') × (xs ≡ xs') × SameState w w'
noted_decided want v v' w w' known same c c' xs xs' l m s t =
    let e = least_decided want v.blocks c c' l (subst (λ (z : View). IsLeastCost want z.blocks c') same m) in
    let r = makes_room_decided Notes (λ f g h x a b. a ∙ sym b) want v v' w w' known same [] xs xs' c s (subst (λ d. MakesRoom Notes want v' [] d w' xs') (sym e) t) in
    (e, r.0, r.1)
