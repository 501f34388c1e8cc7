-- The heap with the fewest live units, number by number.
use Rattle.std.proofs.Common.{◌≡◌, ℕ, ◌+◌, List, Option, Some, None, MatchOption, inl, inr, arith, subst, le-ltb}
use Rattle.std.proofs.lemmas.Bool.{cases_eq, cases_lt, lt-ltb}
use Rattle.offset_guarded.specs.Guard.{Guard}
use Rattle.offset_heaps.specs.{Heaps.live_units_of, Heaps.part, Heaps.slot, Relocating.HasLive, Relocating.IsEmptiest, Relocating.NoneLive, Slots.IsEmptier}

-- the emptiest of the first n heaps, and its live units
abbrev pub IsSoFar : ℕ → List (Option Guard) → Option (ℕ × ℕ) → Type 0
IsSoFar n slots None = NoneLive n slots
IsSoFar n slots (Some f) = IsEmptiest n slots f.0 × (f.1 ≡ part live_units_of (slot f.0 slots))

-- a number in which nothing is live changes nothing
kept : (n : ℕ) (slots : List (Option Guard)) (found : Option (ℕ × ℕ)) → (HasLive (slot n slots) → ⊥) → IsSoFar n slots found → IsSoFar (n + 1) slots found
kept n slots None dead was = λ k l live. elim (cases_eq k n) [
  | inl e ↦ dead (subst (λ i. HasLive (slot i slots)) e live)
  | inr d ↦ was k (omega (arith, l, d)) live
]
kept n slots (Some f) dead was = let at = was.0.before in (
  record {
    before = omega (arith, at);
    live = was.0.live;
    fewest = λ j l live. elim (cases_eq j n) [
      | inl e ↦ absurd (dead (subst (λ i. HasLive (slot i slots)) e live))
      | inr d ↦ was.0.fewest j (omega (arith, l, d)) live
    ];
    last = λ j after l live. elim (cases_eq j n) [
      | inl e ↦ absurd (dead (subst (λ i. HasLive (slot i slots)) e live))
      | inr d ↦ was.0.last j after (omega (arith, l, d)) live
    ];
  },
  was.1,
)

pub one_more : (n : ℕ) (slots : List (Option Guard)) (found new : Option (ℕ × ℕ)) (live : Option ℕ)
    → MatchOption live (HasLive (slot n slots) → ⊥) (λ u. HasLive (slot n slots) × (u ≡ part live_units_of (slot n slots)))
    → IsEmptier found n live new → IsSoFar n slots found → IsSoFar (n + 1) slots new
one_more n slots found new None dead e was = rw e (kept n slots found dead was)
one_more n slots None new (Some u) live e was = rw e (
  record {
    before = omega arith;
    live = live.0;
    fewest = λ j l has. elim (cases_eq j n) [
      | inl same ↦ rw same (omega arith)
      | inr d ↦ absurd (was j (omega (arith, l, d)) has)
    ];
    last = λ j after l has. absurd (omega (arith, after, l));
  },
  live.1,
)
one_more n slots (Some f) new (Some u) live e was = elim (cases_lt f.1 u) [
  | inl less ↦
      let same : new ≡ Some f = rw (lt-ltb f.1 u less) at e in
      let at = was.0.before in
      let mine = was.1 in
      let his = live.1 in
      rw same (
        record {
          before = omega (arith, at);
          live = was.0.live;
          fewest = λ j l has. elim (cases_eq j n) [
            | inl here ↦ rw here (omega (arith, less, mine, his))
            | inr d ↦ was.0.fewest j (omega (arith, l, d)) has
          ];
          last = λ j after l has. elim (cases_eq j n) [
            | inl here ↦ rw here (omega (arith, less, mine, his))
            | inr d ↦ was.0.last j after (omega (arith, l, d)) has
          ];
        },
        was.1,
      )
  | inr most ↦
      let same : new ≡ Some (n, u) = rw (le-ltb f.1 u most) at e in
      let mine = was.1 in
      let his = live.1 in
      rw same (
        record {
          before = omega arith;
          live = live.0;
          fewest = λ j l has. elim (cases_eq j n) [
            | inl here ↦ rw here (omega arith)
            | inr d ↦ let fewest = was.0.fewest j (omega (arith, l, d)) has in omega (arith, fewest, most, mine, his)
          ];
          last = λ j after l has. absurd (omega (arith, after, l));
        },
        live.1,
      )
]
