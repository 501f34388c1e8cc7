-- What room costs by whole steps is one cost, and in the same state room is made by the same moves, which leave the same
-- state.
use Rattle.offset_allocator.proofs.{Decided.both_leave, Decided.both_stay, Decided.one_name}
use Rattle.offset_allocator.proofs.Moving.DecidedRooms.{Notes, folds_same, least_by_decided, one_run}
use Rattle.offset_allocator.proofs.Common.{◌≡◌, ℕ, List, [], ◌∷◌, ◌++◌, Option, Some, None, sym, ap, ap₂, subst, ◌∙◌, inl, inr, arith, length, FoldsTo}
use Rattle.offset_allocator.proofs.Common.{cases_lt, Block, View, units, free_block, replace, IsWellFormed, Move}
use Rattle.offset_allocator.specs.Moving.BySteps.{given_up, moves_by, stepped, used_up}
use Rattle.offset_allocator.specs.Moving.Room.{cost_of}
use Rattle.offset_allocator.specs.Moving.RoomBySteps.{IsLeastCostBy, MakesRoomBy, Serves, SlidesRunBy, names_short}
use Rattle.offset_allocator.specs.{Names.names_of, Relations.SameState}
use Rattle.offset_allocator.specs.declared.moves.room.RoomCost.{RoomCost}

module _ (s want short : ℕ) (v : View) (known : IsWellFormed v) (a : ℕ) (w w' : View) (f : SlidesRunBy s want short v w) (k : SlidesRunBy s want short (record v { accesses = a }) w')
    (same : cost_of f.run ≡ cost_of k.run) where
  both : (f.front ≡ k.front) × (f.run ≡ k.run) × (f.back ≡ k.back)
  both = one_run (Serves s want short) v.blocks f.front f.run f.back k.front k.run k.back known.apart f.is k.is f.begins k.begins f.ends k.ends f.serves k.serves f.later k.later same

  name : (f.name ≡ k.name) × (f.left ≡ k.left)
  name = one_name (length v.blocks) v.unused f.name k.name f.left k.left f.taken k.taken

  abbrev slid : View → List Block → List Block → List Block → ℕ → View
  slid z front run back x = replace z front run (stepped s run ++ free_block x (given_up s run) ∷ []) back

  same_slid : slid v f.front f.run f.back f.name ≡ slid v k.front k.run k.back k.name
  same_slid =
      ap₂ (λ (front run : List Block). slid v front run f.back f.name) both.0 both.1
      ∙ ap₂ (λ (back : List Block) (x : ℕ). slid v k.front k.run back x) both.2 name.0

  slides_same : SameState w w'
  slides_same = both_leave (slid v f.front f.run f.back f.name) (slid (record v { accesses = a }) k.front k.run k.back k.name) w w' f.view k.view
      (ap (λ (z : View). record z { accesses = a }) (sym same_slid))
      (f.names ∙ ap₂ (λ (l : List ℕ) (bs : List Block). l ++ names_of (used_up s bs)) name.1 both.1 ∙ sym k.names)

  same_moves : moves_by s (units f.front) (units f.front) f.run ≡ moves_by s (units k.front) (units k.front) k.run
  same_moves = ap₂ (λ (front run : List Block). moves_by s (units front) (units front) run) both.0 both.1

makes_same : {F : Type 0} (R : F → Move → F → Type 0) → ((f g h : F) (m : Move) → R f m g → R f m h → g ≡ h) → (s want short : ℕ) (v : View) → IsWellFormed v → (a : ℕ) (w w' : View) (f g g' : F)
    (c : Option RoomCost) → MakesRoomBy R s want short v f c w g → MakesRoomBy R s want short (record v { accesses = a }) f c w' g' → (g ≡ g') × SameState w w'
makes_same R one s want short v known a w w' f g g' None m n = (m.1 ∙ sym n.1, both_stay v w w' m.0 n.0)
makes_same R one s want short v known a w w' f g g' (Some c) m n = elim (cases_lt 0 c.ranges) [
  | inr l ↦
      let e = m.0 (omega (arith, l)) in
      let k = n.0 (omega (arith, l)) in
      (e.1 ∙ sym k.1, both_stay v w w' e.0 k.0)
  | inl l ↦
      let e = m.1 l in
      let k = n.1 l in
      let same = sym e.1 ∙ k.1 in (
        folds_same R one f (moves_by s (units e.0.front) (units e.0.front) e.0.run) g g' e.2
            (subst (λ xs. FoldsTo R f xs g') (sym (same_moves s want short v known a w w' e.0 k.0 same)) k.2),
        slides_same s want short v known a w w' e.0 k.0 same,
      )
]

pub noted_by_decided : (s want k : ℕ) (v v' w w' : View) → IsWellFormed v → SameState v v' → (c c' : Option RoomCost) (xs xs' : List Move) → IsLeastCostBy s want (names_short k v) v.blocks c
    → IsLeastCostBy s want (names_short k v') v'.blocks c' → MakesRoomBy Notes s want (names_short k v) v [] c w xs → MakesRoomBy Notes s want (names_short k v') v' [] c' w' xs'
    → (c ≡ c') × (xs ≡ xs') × SameState w w'
noted_by_decided s want k v v' w w' known same c c' xs xs' l m i j =
    let e = least_by_decided s want (names_short k v) v.blocks c c' l (subst (λ (z : View). IsLeastCostBy s want (names_short k z) z.blocks c') same m) in
    let r = makes_same Notes (λ f g h x a b. a ∙ sym b) s want (names_short k v) v known v'.accesses w w' [] xs xs' c i
    (subst (λ d. MakesRoomBy Notes s want (names_short k v) (record v { accesses = v'.accesses }) [] d w' xs') (sym e)
    (subst (λ (z : View). MakesRoomBy Notes s want (names_short k z) z [] c' w' xs') same j)) in
    (e, r.0, r.1)
