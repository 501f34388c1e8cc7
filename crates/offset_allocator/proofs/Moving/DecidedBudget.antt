-- A compaction within a budget: in the same state it comes as far, by the same moves, and leaves the same state.
use Rattle.offset_allocator.proofs.{Decided.both_leave, Decided.both_stay, Decided.one_name, Moving.DecidedRooms.IsPast, Moving.DecidedRooms.Notes, Moving.DecidedRooms.folds_same, Moving.DecidedRooms.meet}
use Rattle.offset_allocator.proofs.{Tallies.tally_append, Tallies.one-same}
use Rattle.offset_allocator.proofs.Common.{◌≡◌, ℕ, ◌+◌, ◌≤◌, true, List, [], ◌∷◌, ◌++◌, Option, Some, None, nat_eq, refl, sym, ap, ap₂, subst, ◌∙◌, inl, inr, arith, length, FoldsTo}
use Rattle.offset_allocator.proofs.Common.{Block, View, units, one, count_used, used_units, count_named, free_block, replace, append_assoc, IsWellFormed, Move, if◌then◌else◌}
use Rattle.offset_allocator.specs.Moving.BySteps.{CanFollow, given_up, moves_by, stepped, used_up}
use Rattle.offset_allocator.specs.Moving.Budget.{CompactsWithin, IsRunWithin, IsWithin, SlidesWithin, StopsAt, first_from, start_of}
use Rattle.offset_allocator.specs.{Names.names_of, Relations.SameState}
use Rattle.offset_allocator.specs.declared.moves.over_frames.Progress.{Progress}

-- one place has a name
there : (x : ℕ) (gs : List Block) (c : Block) (cs : List Block) → c.name ≡ x → 1 ≤ count_named x (gs ++ c ∷ cs)
there x gs c cs e =
    omega (arith, tally_append (λ (b : Block). one (nat_eq x b.name)) gs (c ∷ cs), one-same x, ap (λ (y : ℕ). one (nat_eq x y)) e)

pub same_named : (fs gs : List Block) (b c : Block) (bs cs : List Block) → fs ++ b ∷ bs ≡ gs ++ c ∷ cs → ((x : ℕ) → count_named x (fs ++ b ∷ bs) ≤ 1) → b.name ≡ c.name → (fs ≡ gs) × (b ≡ c) × (bs ≡ cs)
same_named [] [] b c bs cs e once n = let q : b ∷ bs ≡ c ∷ cs = e in (refl, cc, cc)
same_named [] (d ∷ gs) b c bs cs e once n =
    let q : b ∷ bs ≡ d ∷ (gs ++ c ∷ cs) = e in
    let rest : bs ≡ gs ++ c ∷ cs = cc in
    absurd (omega (arith, once b.name, one-same b.name, ap (count_named b.name) rest, there b.name gs c cs (sym n)))
same_named (d ∷ fs) [] b c bs cs e once n =
    let q : d ∷ (fs ++ b ∷ bs) ≡ c ∷ cs = e in
    let first : d ≡ c = cc in
    absurd (omega (arith, once b.name, one-same b.name, ap (λ (y : ℕ). one (nat_eq b.name y)) (n ∙ ap (λ (k : Block). k.name) (sym first)), there b.name fs b bs refl))
same_named (d ∷ fs) (k ∷ gs) b c bs cs e once n =
    let q : d ∷ (fs ++ b ∷ bs) ≡ k ∷ (gs ++ c ∷ cs) = e in
    let first : d ≡ k = cc in
    let rest : fs ++ b ∷ bs ≡ gs ++ c ∷ cs = cc in
    let r = same_named fs gs b c bs cs rest (λ x. omega (arith, once x)) n in
    (ap₂ (λ (i : Block) (t : List Block). i ∷ t) first r.0, r.1, r.2)

-- of two runs within one budget neither goes on where the other stops
goes_on : (u r : ℕ) (rest back rest' back' : List Block) → IsPast rest back rest' back' → StopsAt u r rest back → IsWithin u r rest' → ⊥
goes_on u r rest back rest' back' p stops w = go (subst (StopsAt u r rest) p.back stops)
  where
    is : rest' ≡ (rest ++ p.block ∷ []) ++ p.between
    is = p.front ∙ sym (append_assoc rest (p.block ∷ []) p.between)

    ranges : count_used rest' ≡ count_used (rest ++ p.block ∷ []) + count_used p.between
    ranges = omega (arith, ap count_used is, tally_append (λ (b : Block). one b.used) (rest ++ p.block ∷ []) p.between)

    live : used_units rest' ≡ used_units (rest ++ p.block ∷ []) + used_units p.between
    live = omega (arith, ap used_units is, tally_append (λ (b : Block). if b.used then b.size else 0) (rest ++ p.block ∷ []) p.between)

    some : p.block.used ≡ true → 1 ≤ count_used (rest ++ p.block ∷ [])
    some e = omega (arith, tally_append (λ (b : Block). one b.used) rest (p.block ∷ []), ap one e)

    go : StopsAt u r rest (p.block ∷ (p.between ++ back')) → ⊥
    go s = elim w [
      | inl alone ↦ s.1 (inl (omega (arith, alone, ranges, some s.0)))
      | inr few ↦ s.1 (inr (omega (arith, few.0, live), omega (arith, few.1, ranges)))
    ]

module _ (s from u r : ℕ) (v : View) (known : IsWellFormed v) (a : ℕ) where
  -- the run is one
  one_run : (fr : List Block) (b : Block) (rest back : List Block) (fr' : List Block) (b' : Block) (rest' back' : List Block) → IsRunWithin s from u r v fr b rest back
      → IsRunWithin s from u r (record v { accesses = a }) fr' b' rest' back' → (fr ≡ fr') × (b ≡ b') × (rest ≡ rest') × (back ≡ back')
  one_run fr b rest back fr' b' rest' back' f k =
      let name : Some b.name ≡ Some b'.name = sym f.begins ∙ k.begins in
      let at = same_named fr fr' b b' (rest ++ back) (rest' ++ back') (sym f.is ∙ k.is) (λ x. subst (λ (l : List Block). count_named x l ≤ 1) f.is (known.distinct x)) (cc) in
      let ends : (rest ≡ rest') × (back ≡ back') = elim (meet rest back rest' back' at.2) [
        | inl m ↦ m
        | inr (inl p) ↦ absurd (goes_on u r rest back rest' back' p f.stops k.within)
        | inr (inr p) ↦ absurd (goes_on u r rest' back' rest back p k.stops f.within)
      ] in
      (at.0, at.1, ends.0, ends.1)

  module _ (w w' : View) (p p' : Progress) (f : SlidesWithin s from u r v w p) (k : SlidesWithin s from u r (record v { accesses = a }) w' p') where
    at : (f.front ≡ k.front) × (f.first ≡ k.first) × (f.rest ≡ k.rest) × (f.back ≡ k.back)
    at = one_run f.front f.first f.rest f.back k.front k.first k.rest k.back f.reached k.reached

    run : f.first ∷ f.rest ≡ k.first ∷ k.rest
    run = ap₂ (λ (b : Block) (bs : List Block). b ∷ bs) at.1 at.2

    name : (f.name ≡ k.name) × (f.left ≡ k.left)
    name = one_name (length v.blocks) v.unused f.name k.name f.left k.left f.taken k.taken

    abbrev slid : View → List Block → List Block → List Block → ℕ → View
    slid z front bs back x = replace z front bs (stepped s bs ++ free_block x (given_up s bs) ∷ []) back

    same_slid : slid v f.front (f.first ∷ f.rest) f.back f.name ≡ slid v k.front (k.first ∷ k.rest) k.back k.name
    same_slid =
        ap₂ (λ (front bs : List Block). slid v front bs f.back f.name) at.0 run
        ∙ ap₂ (λ (back : List Block) (x : ℕ). slid v k.front (k.first ∷ k.rest) back x) at.3 name.0

    same_left : SameState w w'
    same_left = both_leave (slid v f.front (f.first ∷ f.rest) f.back f.name) (slid (record v { accesses = a }) k.front (k.first ∷ k.rest) k.back k.name) w w' f.view k.view
        (ap (λ (z : View). record z { accesses = a }) (sym same_slid))
        (f.names ∙ ap₂ (λ (l : List ℕ) (bs : List Block). l ++ names_of (used_up s bs)) name.1 run ∙ sym k.names)

    same_moves : moves_by s (units f.front) (units f.front) (f.first ∷ f.rest) ≡ moves_by s (units k.front) (units k.front) (k.first ∷ k.rest)
    same_moves = ap₂ (λ (front bs : List Block). moves_by s (units front) (units front) bs) at.0 run

    abbrev so_far : List Block → List Block → List Block → List Block → Progress
    so_far front bs rest back = record { units = used_units rest; ranges = count_used rest; next = start_of (units (front ++ bs)) back }

    same_progress : p ≡ p'
    same_progress =
        f.progress ∙ ap₂ (λ (front bs : List Block). so_far front bs f.rest f.back) at.0 run
        ∙ ap₂ (λ (rest back : List Block). so_far k.front (k.first ∷ k.rest) rest back) at.2 at.3 ∙ sym k.progress

  none_begins : (w : View) (p : Progress) → SlidesWithin s from u r v w p → first_from s from 0 v.blocks ≡ None → ⊥
  none_begins w p f e = let q = sym f.reached.begins ∙ e in absurd (cc)

  none_begins' : (w : View) (p : Progress) → SlidesWithin s from u r (record v { accesses = a }) w p → first_from s from 0 v.blocks ≡ None → ⊥
  none_begins' w p f e = let q = sym f.reached.begins ∙ e in absurd (cc)

  within_same : {F : Type 0} (R : F → Move → F → Type 0) → ((f g h : F) (m : Move) → R f m g → R f m h → g ≡ h) → (w w' : View) (f g g' : F) (c c' : Option Progress)
      → CompactsWithin R s from u r v f c w g → CompactsWithin R s from u r (record v { accesses = a }) f c' w' g' → (c ≡ c') × (g ≡ g') × SameState w w'
  within_same R o w w' f g g' None None m n = (refl, m.1 ∙ sym n.1, both_stay v w w' m.0 n.0)
  within_same R o w w' f g g' None (Some q) m (inl e) = let z = sym m.2.4.begins ∙ e.0 in absurd (cc)
  within_same R o w w' f g g' None (Some q) m (inr k) =
      let e = one_run m.2.0 m.2.1 m.2.2 m.2.3 k.0.front k.0.first k.0.rest k.0.back m.2.4 k.0.reached in
      absurd (m.2.5 (subst (CanFollow s v) (sym (ap₂ (λ (b : Block) (bs : List Block). b ∷ bs) e.1 e.2)) k.1))
  within_same R o w w' f g g' (Some p) None (inl e) n = let z = sym n.2.4.begins ∙ e.0 in absurd (cc)
  within_same R o w w' f g g' (Some p) None (inr k) n =
      let e = one_run k.0.front k.0.first k.0.rest k.0.back n.2.0 n.2.1 n.2.2 n.2.3 k.0.reached n.2.4 in
      absurd (n.2.5 (subst (CanFollow s v) (ap₂ (λ (b : Block) (bs : List Block). b ∷ bs) e.1 e.2) k.1))
  within_same R o w w' f g g' (Some p) (Some q) (inl e) (inl k) = (ap Some (e.1 ∙ sym k.1), e.3 ∙ sym k.3, both_stay v w w' e.2 k.2)
  within_same R o w w' f g g' (Some p) (Some q) (inl e) (inr k) = absurd (none_begins' w' q k.0 e.0)
  within_same R o w w' f g g' (Some p) (Some q) (inr e) (inl k) = absurd (none_begins w p e.0 k.0)
  within_same R o w w' f g g' (Some p) (Some q) (inr e) (inr k) = (
    ap Some (same_progress w w' p q e.0 k.0),
    folds_same R o f (moves_by s (units e.0.front) (units e.0.front) (e.0.first ∷ e.0.rest)) g g' e.2 (subst (λ xs. FoldsTo R f xs g') (sym (same_moves w w' p q e.0 k.0)) k.2),
    same_left w w' p q e.0 k.0,
  )

pub within_decided : (s from u r : ℕ) (v v' w w' : View) → IsWellFormed v → SameState v v' → (c c' : Option Progress) (xs xs' : List Move) → CompactsWithin Notes s from u r v [] c w xs
    → CompactsWithin Notes s from u r v' [] c' w' xs' → (c ≡ c') × (xs ≡ xs') × SameState w w'
within_decided s from u r v v' w w' known same c c' xs xs' i j =
    within_same s from u r v known v'.accesses Notes (λ f g h x a b. a ∙ sym b) w w' [] xs xs' c c' i (subst (λ (z : View). CompactsWithin Notes s from u r z [] c' w' xs') same j)
