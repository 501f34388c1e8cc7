-- Moves that a closure is called with can be noted in a list.
use Rattle.std.proofs.Common.{ℕ, Bool, List, [], ◌∷◌, ◌++◌, Option, Some, None, if◌then◌else◌, refl, sym, subst, inl, inr, arith}
use Rattle.std.proofs.lemmas.Bool.{cases_lt}
use Rattle.std.proofs.lemmas.List.{append_assoc, append-nil}
use Rattle.std.specs.List.{FoldsTo}
use Rattle.offset_allocator.specs.{Classes.up, Classes.value, Requests.blocks_needed, Requests.units_needed, View.View, View.units}
use Rattle.offset_allocator.specs.Moving.{Budget.CompactsWithin, BySteps.moves_by, Compacting.Move, Compacting.moves, Room.MakesRoom, RoomBySteps.MakesRoomBy, RoomBySteps.names_short}
use Rattle.offset_allocator.specs.declared.moves.over_frames.Progress.{Progress}
use Rattle.offset_allocator.specs.declared.moves.room.RoomCost.{RoomCost}
use Rattle.offset_guarded.specs.Answers as tickets
use Rattle.offset_guarded.specs.Answers.{Notes}
use Rattle.offset_guarded.specs.Guard.{Guard}

pub notes_all : (ys xs : List Move) → FoldsTo Notes ys xs (ys ++ xs)
notes_all ys [] = sym (append-nil ys)
notes_all ys (x ∷ xs) = (ys ++ x ∷ [], refl, subst (λ z. FoldsTo Notes (ys ++ x ∷ []) xs z) (append_assoc ys (x ∷ []) xs) (notes_all (ys ++ x ∷ []) xs))

module _ {F : Type 0} (R : F → Move → F → Type 0) (f g : F) where
  pub room_noted : (want : ℕ) (v w : View) (c : Option RoomCost) → MakesRoom R want v f c w g → (ms : List Move) × MakesRoom Notes want v [] c w ms
  room_noted want v w None m = ([], (m.0, refl))
  room_noted want v w (Some c) m = elim (cases_lt 0 c.ranges) [
    | inl l ↦
        let e = m.1 l in
        (moves (units e.0.front) (units e.0.front) e.0.run, (λ z. absurd (omega (arith, l, z)), λ _. (e.0, e.1, notes_all [] (moves (units e.0.front) (units e.0.front) e.0.run))))
    | inr l ↦ let e = m.0 (omega (arith, l)) in ([], (λ _. (e.0, refl), λ n. absurd (omega (arith, l, n))))
  ]

  pub room_by_noted : (s want short : ℕ) (v w : View) (c : Option RoomCost) → MakesRoomBy R s want short v f c w g → (ms : List Move) × MakesRoomBy Notes s want short v [] c w ms
  room_by_noted s want short v w None m = ([], (m.0, refl))
  room_by_noted s want short v w (Some c) m = elim (cases_lt 0 c.ranges) [
    | inl l ↦
        let e = m.1 l in
        let ms = moves_by s (units e.0.front) (units e.0.front) e.0.run in
        (ms, (λ z. absurd (omega (arith, l, z)), λ _. (e.0, e.1, notes_all [] ms)))
    | inr l ↦ let e = m.0 (omega (arith, l)) in ([], (λ _. (e.0, refl), λ n. absurd (omega (arith, l, n))))
  ]

  pub within_noted : (s from u r : ℕ) (v w : View) (p : Option Progress) → CompactsWithin R s from u r v f p w g → (ms : List Move) × CompactsWithin Notes s from u r v [] p w ms
  within_noted s from u r v w None m = ([], (m.0, refl, m.2))
  within_noted s from u r v w (Some p) (inl m) = ([], inl (m.0, m.1, m.2, refl))
  within_noted s from u r v w (Some p) (inr m) =
      let ms = moves_by s (units m.0.front) (units m.0.front) (m.0.first ∷ m.0.rest) in
      (ms, inr (m.0, m.1, notes_all [] ms))

  -- ---- the calls of a space with tickets
  pub compacts_noted : (g' h : Guard) (r : Bool) → tickets.Compacts R f g' h g r → (ms : List Move) × tickets.Compacts Notes [] g' h ms r
  compacts_noted g' h r x = let ms = if r then moves_by g'.step 0 0 g'.space.blocks else [] in (ms, record { sizes = x.sizes; aligned = x.aligned; none = x.none; step = x.step; serials = x.serials; accesses_max = x.accesses_max; moved = notes_all [] ms })

  pub compacts_by_noted : (s : ℕ) (g' h : Guard) (r : Bool) → tickets.CompactsBy R s f g' h g r → (ms : List Move) × tickets.CompactsBy Notes s [] g' h ms r
  compacts_by_noted s g' h r x = let ms = if r then moves_by s 0 0 g'.space.blocks else [] in (ms, record { sizes = x.sizes; divisors = x.divisors; step = x.step; serials = x.serials; accesses_max = x.accesses_max; moved = notes_all [] ms })

  pub unaligned_noted : (g' h : Guard) → tickets.CompactsUnaligned R f g' h g → (ms : List Move) × tickets.CompactsUnaligned Notes [] g' h ms
  unaligned_noted g' h x = let ms = moves 0 0 g'.space.blocks in (ms, record { sizes = x.sizes; step = x.step; serials = x.serials; accesses_max = x.accesses_max; moved = notes_all [] ms })

  pub compacts_within_noted : (from u n : ℕ) (g' h : Guard) (r : Option Progress) → tickets.CompactsWithin R from u n f g' h g r → (ms : List Move) × tickets.CompactsWithin Notes from u n [] g' h ms r
  compacts_within_noted from u n g' h r x = elim (cases_lt 0 g'.step) [
    | inl l ↦
        let m = within_noted g'.step from u n g'.space h.space r (x.step (omega (arith, l))) in
        (m.0, record { sizes = x.sizes; aligned = x.aligned; budget = x.budget; serials = x.serials; accesses_max = x.accesses_max; accesses_budget = x.accesses_budget; none = λ e. absurd (omega (arith, l, e)); step = λ some. m.1 })
    | inr l ↦
        let e = x.none (omega (arith, l)) in
        ([], record { sizes = x.sizes; aligned = x.aligned; budget = x.budget; serials = x.serials; accesses_max = x.accesses_max; accesses_budget = x.accesses_budget; none = λ z. (e.0, e.1, refl); step = λ some. absurd (omega (arith, l, some)) })
  ]

  pub compacts_within_by_noted : (s from u n : ℕ) (g' h : Guard) (r : Option Progress) → tickets.CompactsWithinBy R s from u n f g' h g r → (ms : List Move) × tickets.CompactsWithinBy Notes s from u n [] g' h ms r
  compacts_within_by_noted s from u n g' h r x = let m = within_noted s from u n g'.space h.space r x.step in (m.0, record { sizes = x.sizes; divisors = x.divisors; budget = x.budget; serials = x.serials; accesses_max = x.accesses_max; accesses_budget = x.accesses_budget; step = m.1 })

  pub makes_room_noted : (n align : ℕ) (g' h : Guard) (r : Option RoomCost) → tickets.MakesRoom R n align f g' h g r → (ms : List Move) × tickets.MakesRoom Notes n align [] g' h ms r
  makes_room_noted n align g' h r x = elim (cases_lt 0 g'.step) [
    | inl l ↦
        let m = room_by_noted g'.step (value (up (units_needed n align))) (names_short (blocks_needed align) g'.space) g'.space h.space r (x.step (omega (arith, l))) in
        (m.0, record { cost = x.cost; sizes = x.sizes; aligned = x.aligned; granted = x.granted; serials = x.serials; accesses_max = x.accesses_max; none = λ e. absurd (omega (arith, l, e)); step = λ some. m.1 })
    | inr l ↦
        let e = x.none (omega (arith, l)) in
        ([], record { cost = x.cost; sizes = x.sizes; aligned = x.aligned; granted = x.granted; serials = x.serials; accesses_max = x.accesses_max; none = λ z. (e.0, e.1, refl); step = λ some. absurd (omega (arith, l, some)) })
  ]

  pub makes_room_by_noted : (n align s : ℕ) (g' h : Guard) (r : Option RoomCost) → tickets.MakesRoomBy R n align s f g' h g r → (ms : List Move) × tickets.MakesRoomBy Notes n align s [] g' h ms r
  makes_room_by_noted n align s g' h r x =
      let m = room_by_noted s (value (up (units_needed n align))) (names_short (blocks_needed align) g'.space) g'.space h.space r x.step in
      (m.0, record { cost = x.cost; sizes = x.sizes; divisors = x.divisors; granted = x.granted; serials = x.serials; accesses_max = x.accesses_max; step = m.1 })

  pub makes_room_unaligned_noted : (n : ℕ) (g' h : Guard) (r : Option RoomCost) → tickets.MakesRoomUnaligned R n f g' h g r → (ms : List Move) × tickets.MakesRoomUnaligned Notes n [] g' h ms r
  makes_room_unaligned_noted n g' h r x = let m = room_noted (value (up n)) g'.space h.space r x.step in (m.0, record { cost = x.cost; sizes = x.sizes; granted = x.granted; serials = x.serials; accesses_max = x.accesses_max; step = m.1 })
