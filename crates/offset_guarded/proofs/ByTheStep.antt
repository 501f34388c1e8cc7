-- A call by the step of the space is that by its number, and does nothing where there is none.
use Rattle.std.proofs.Common.{◌≡◌, ℕ, ◌≤◌, Bool, false, Option, None, ap, arith, refl, subst}
use Rattle.offset_allocator.specs.Moving.Compacting.{Move}
use Rattle.offset_allocator.specs.declared.moves.over_frames.Progress.{Progress}
use Rattle.offset_allocator.specs.declared.moves.room.RoomCost.{RoomCost}
use Rattle.offset_guarded.specs.Answers.{Compacts, CompactsBy, CompactsWithin, CompactsWithinBy, MakesRoom, MakesRoomBy}
use Rattle.offset_guarded.specs.Guard.{Guard}
use Rattle.offset_guarded.proofs.Offsets.{kept_alignments, same_aligned}

module _ {F : Type 0} (R : F → Move → F → Type 0) (f : F) (g : Guard) where
  module _ (no : g.step ≡ 0) where
    pub none_compacted : Compacts R f g g f false
    none_compacted = record { sizes = λ t. refl; aligned = same_aligned g; moved = refl; none = λ e. (refl, refl); step = λ some. absurd (omega (arith, no, some)); serials = refl; accesses_max = omega arith }

    pub none_within : (from units ranges : ℕ) → CompactsWithin R from units ranges f g g f None
    none_within from units ranges =
        record { sizes = λ t. refl; aligned = same_aligned g; budget = tt; none = λ e. (refl, refl, refl); step = λ some. absurd (omega (arith, no, some)); serials = refl; accesses_max = omega arith; accesses_budget = omega arith }

    pub none_made : (n align : ℕ) → MakesRoom R n align f g g f None
    none_made n align =
        record { cost = λ some. absurd (omega (arith, no, some)); sizes = λ t. refl; aligned = same_aligned g; granted = tt; none = λ e. (refl, refl, refl); step = λ some. absurd (omega (arith, no, some)); serials = refl; accesses_max = omega arith }

  module _ (h : Guard) (f' : F) (s : ℕ) (is : s ≡ g.step) (some : 1 ≤ s) where
    pub compacted : (r : Bool) → CompactsBy R s f g h f' r → Compacts R f g h f' r
    compacted r x =
        let y : CompactsBy R g.step f g h f' r = subst (λ (n : ℕ). CompactsBy R n f g h f' r) is x in
        record { sizes = y.sizes; aligned = kept_alignments g h (ap (λ (k : Guard). k.step) y.serials) y.divisors; moved = y.moved; none = λ e. absurd (omega (arith, is, some, e)); step = λ _. y.step; serials = y.serials; accesses_max = y.accesses_max }

    pub within : (from units ranges : ℕ) (r : Option Progress) → CompactsWithinBy R s from units ranges f g h f' r → CompactsWithin R from units ranges f g h f' r
    within from units ranges r x =
        let y : CompactsWithinBy R g.step from units ranges f g h f' r = subst (λ (n : ℕ). CompactsWithinBy R n from units ranges f g h f' r) is x in
        record { sizes = y.sizes; aligned = kept_alignments g h (ap (λ (k : Guard). k.step) y.serials) y.divisors; budget = y.budget; none = λ e. absurd (omega (arith, is, some, e)); step = λ _. y.step; serials = y.serials; accesses_max = y.accesses_max; accesses_budget = y.accesses_budget }

    pub made : (n align : ℕ) (r : Option RoomCost) → MakesRoomBy R n align s f g h f' r → MakesRoom R n align f g h f' r
    made n align r x =
        let y : MakesRoomBy R n align g.step f g h f' r = subst (λ (k : ℕ). MakesRoomBy R n align k f g h f' r) is x in
        record { cost = λ _. y.cost; sizes = y.sizes; aligned = kept_alignments g h (ap (λ (k : Guard). k.step) y.serials) y.divisors; granted = y.granted; none = λ e. absurd (omega (arith, is, some, e)); step = λ _. y.step; serials = y.serials; accesses_max = y.accesses_max }
