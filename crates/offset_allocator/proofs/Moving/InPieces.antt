-- The pieces of a move.
use Rattle.offset_allocator.proofs.Common.{◌≡◌, ℕ, zero, suc, true, false, ◌+◌, ◌-◌, ◌<◌, ◌≤◌, List, [], ◌∷◌, nat_eq, if◌then◌else◌, refl, ap, ◌∙◌, arith, common_steps, nat_tests, AllByRecursion}
use Rattle.std.specs.Prelude.{min}
use Rattle.offset_allocator.specs.Moving.Pieces.{pieces, copied, all_copied, ArePieces}
use Rattle.offset_allocator.specs.declared.moves.pieces.Piece.{Piece}

-- a bound on their number that is large enough does not matter
pub bound : (j k most from to n : ℕ) → 0 < most → n ≤ j → n ≤ k → pieces j most from to n ≡ pieces k most from to n
bound zero zero most from to n some l m = refl
bound zero (suc k) most from to n some l m = grind (arith, nat_tests)
bound (suc j) zero most from to n some l m = grind (arith, nat_tests)
bound (suc j) (suc k) most from to n some l m =
    let ih = bound j k most (from + min most n) (to + min most n) (n - min most n) some in
    elim (nat_eq n 0) as (λ e. nat_eq n 0 ≡ e → (if e then [] else record { from = from; to = to; size = min most n } ∷ pieces j most (from + min most n) (to + min most n) (n - min most n))
    ≡ (if e then [] else record { from = from; to = to; size = min most n } ∷ pieces k most (from + min most n) (to + min most n) (n - min most n))) [
      | true ↦ λ _. refl
      | false ↦ λ e. ap (λ (ps : List Piece). record { from = from; to = to; size = min most n } ∷ ps) (ih (grind (arith, nat_tests, e)) (grind (arith, nat_tests, e)))
    ] refl

-- the first piece, and the others
pub stepped : (most from to n : ℕ) → 0 < most → 0 < n
    → pieces n most from to n ≡ record { from = from; to = to; size = min most n } ∷ pieces (n - min most n) most (from + min most n) (to + min most n) (n - min most n)
stepped most from to zero some l = grind arith
stepped most from to (suc n) some l =
    let no : nat_eq (suc n) 0 ≡ false = grind (arith, nat_tests) in
    ap (λ e. if e then [] else record { from = from; to = to; size = min most (suc n) } ∷ pieces n most (from + min most (suc n)) (to + min most (suc n)) (suc n - min most (suc n))) no
    ∙ ap (λ (ps : List Piece). record { from = from; to = to; size = min most (suc n) } ∷ ps)
    (bound n (suc n - min most (suc n)) most (from + min most (suc n)) (to + min most (suc n)) (suc n - min most (suc n)) some (omega (arith, some)) (omega arith))

-- the move of no units
none_copied : (from to i : ℕ) (held : ℕ → ℕ) → held i ≡ copied (record { from = from; to = to; size = 0 }) held i
none_copied from to i held = grind (arith, common_steps, nat_tests)

-- the lowest m units, and then the others
then_copied : (from to m n i : ℕ) (held : ℕ → ℕ) → to < from → m ≤ n
    → copied (record { from = from + m; to = to + m; size = n - m }) (copied (record { from = from; to = to; size = m }) held) i
    ≡ copied (record { from = from; to = to; size = n }) held i
then_copied from to m n i held down l = grind (arith, common_steps, nat_tests)

pub together : (k most from to n i : ℕ) (held : ℕ → ℕ) → 0 < most → to < from → n ≤ k
    → all_copied (pieces k most from to n) held i ≡ copied (record { from = from; to = to; size = n }) held i
together zero most from to n i held some down l = grind (arith, none_copied)
together (suc k) most from to n i held some down l =
    let m : ℕ = min most n in
    let ih = together k most (from + m) (to + m) (n - m) i (copied (record { from = from; to = to; size = m }) held) some (omega (arith, down)) in
    let both = then_copied from to m n i held down (omega arith) in
    elim (nat_eq n 0) as (λ e. nat_eq n 0 ≡ e → all_copied (if e then [] else record { from = from; to = to; size = m } ∷ pieces k most (from + m) (to + m) (n - m)) held i
    ≡ copied (record { from = from; to = to; size = n }) held i) [
      | true ↦ λ e. none_copied from to i held ∙ ap (λ (x : ℕ). copied (record { from = from; to = to; size = x }) held i) (grind (arith, nat_tests, e))
      | false ↦ λ e. ih (grind (arith, nat_tests, e, some)) ∙ both
    ] refl

-- all pieces from an offset on are read from there on
later : (k most from to n m : ℕ) → m ≤ from → AllByRecursion (λ (q : Piece). m ≤ q.from) (pieces k most from to n)
later zero most from to n m l = tt
later (suc k) most from to n m l =
    let ih = later k most (from + min most n) (to + min most n) (n - min most n) m (omega (arith, l)) in
    elim (nat_eq n 0) as (λ e. AllByRecursion (λ (q : Piece). m ≤ q.from) (if e then [] else record { from = from; to = to; size = min most n }
    ∷ pieces k most (from + min most n) (to + min most n) (n - min most n))) [
      | true ↦ tt
      | false ↦ (l, ih)
    ]

pub apart : (k most step from to n : ℕ) → 0 < step → step ≤ most → to + step ≤ from → ArePieces most (pieces k step from to n)
apart zero most step from to n some l down = tt
apart (suc k) most step from to n some l down =
    let ih = apart k most step (from + min step n) (to + min step n) (n - min step n) some l (omega (arith, down)) in
    let rest = later k step (from + min step n) (to + min step n) (n - min step n) (to + min step n) (omega (arith, down)) in
    elim (nat_eq n 0) as (λ e. nat_eq n 0 ≡ e
    → ArePieces most (if e then [] else record { from = from; to = to; size = min step n } ∷ pieces k step (from + min step n) (to + min step n) (n - min step n))) [
      | true ↦ λ _. tt
      | false ↦ λ e. (grind (arith, nat_tests, e, some), omega (arith, l), omega (arith, down), rest, ih)
    ] refl
