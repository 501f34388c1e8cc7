-- What finds the heap for a request, on twins the same: the first one that has room, or that holds it, or a new one.
use Rattle.std.proofs.Common.{◌≡◌, ℕ, ◌+◌, ◌<◌, ◌≤◌, ◌⊎◌, Option, Some, ap, sym, subst, subst₂, ◌∙◌, inl, inr, arith}
use Rattle.std.proofs.lemmas.Bool.{cases_lt}
use Rattle.offset_allocator.specs.{Requests.blocks_needed, View.View}
use Rattle.offset_guarded.specs.Guard.{Guard}
use Rattle.offset_guarded.specs.Twins.{IsTwin}
use Rattle.offset_guarded.proofs.Twins.{as_twin}
use Rattle.offset_heaps.specs.declared.limits.Limits.{Limits}
use Rattle.offset_heaps.specs.declared.refusal.Refusal.{Refusal}
use Rattle.offset_heaps.specs.declared.refusal.Refusal.TheVariants.{Empty, TooLarge, Full, Memory}
use Rattle.offset_heaps.specs.Heaps.{Heaps, IsFirstFit, IsRaisedAsNeeded, IsRaisedWhere, IsNext, IsSpareLarger, IsSpareUsual, IsUsual, IsWhyBy, MayEverFit, MustRaise, MustRaiseIn, NoneFits, raised_limit, heap_at, room_of, usual_room}
use Rattle.offset_heaps.specs.{Slots.CanHoldIn, Tight.IsFirstHolding, Tight.NoneHolds, Twins.AreTwins}
use Rattle.offset_heaps.proofs.Twins.{in_twin, none_twins, room_twins, twins_sym}

-- ---- which heap serves a request
-- where one does, not none do; one at most is the first; and twins have the same
pub record IsFinder (NoneServes : Heaps → Type 0) (FirstServes : ℕ → Heaps → Type 0) : Type 0 where
  pub apart : (k : ℕ) (hs : Heaps) → NoneServes hs → FirstServes k hs → ⊥
  pub one : (k j : ℕ) (hs : Heaps) → FirstServes k hs → FirstServes j hs → k ≡ j
  pub none : (hs ks : Heaps) → AreTwins hs ks → NoneServes hs → NoneServes ks
  pub first : (k : ℕ) (hs ks : Heaps) → AreTwins hs ks → FirstServes k hs → FirstServes k ks

-- of the first numbers there is one
pub one_first : (P : ℕ → Type 0) (k j : ℕ) → P k → ((i : ℕ) → i < k → P i → ⊥) → P j → ((i : ℕ) → i < j → P i → ⊥) → k ≡ j
one_first P k j a first b least = elim (cases_lt k j) [
  | inl l ↦ absurd (least k l a)
  | inr m ↦ elim (cases_lt j k) [
    | inl l ↦ absurd (first j l b)
    | inr n ↦ omega (arith, m, n)
  ]
]

-- one that has room
pub fits : (blocks units : ℕ) → IsFinder (NoneFits blocks units) (IsFirstFit blocks units)
fits blocks units = record {
  apart = λ k hs none first. let less = none k in let room = first.0 in omega (arith, less, room);
  one = λ k j hs a b. one_first (λ i. units ≤ room_of hs.limits i blocks (heap_at i hs)) k j a.0 (λ i l u. let less = a.1 i l in omega (arith, less, u)) b.0 (λ i l u. let less = b.1 i l in omega (arith, less, u));
  none = λ hs ks t none k. subst (λ n. n < units) (sym (room_twins hs ks t blocks k)) (none k);
  first = λ k hs ks t f. (
    subst (λ n. units ≤ n) (sym (room_twins hs ks t blocks k)) f.0,
    λ j l. subst (λ n. n < units) (sym (room_twins hs ks t blocks j)) (f.1 j l),
  );
}

-- one that holds it
held_twins : (size align : ℕ) (hs ks : Heaps) → AreTwins hs ks → (k : ℕ) → CanHoldIn hs.limits k size align (heap_at k hs) → CanHoldIn ks.limits k size align (heap_at k ks)
held_twins size align hs ks t k c =
    let Can : Option Guard → Type 0 = CanHoldIn hs.limits k size align in
    subst (λ (l : Limits). CanHoldIn l k size align (heap_at k ks)) (sym t.limits) (in_twin Can (heap_at k hs) (heap_at k ks) (λ g h u x. subst (λ (z : Guard). Can (Some z)) (sym (as_twin g h u)) x) (t.heaps k) c)

pub holds : (size align : ℕ) → IsFinder (NoneHolds size align) (IsFirstHolding size align)
holds size align = record {
  apart = λ k hs none first. none k first.0;
  one = λ k j hs a b. one_first (λ i. CanHoldIn hs.limits i size align (heap_at i hs)) k j a.0 a.1 b.0 b.1;
  none = λ hs ks t none k c. none k (held_twins size align ks hs (twins_sym hs ks t) k c);
  first = λ k hs ks t f. (held_twins size align hs ks t k f.0, λ j l c. f.1 j l (held_twins size align ks hs (twins_sym hs ks t) j c));
}

-- ---- a new heap
module _ (hs ks : Heaps) (t : AreTwins hs ks) where
  pub usual_twins : (units : ℕ) → IsUsual units hs → IsUsual units ks
  usual_twins units u = subst (λ (l : Limits). IsUsual units (record hs { limits = l })) (sym t.limits) u

  pub may_twins : (units : ℕ) → MayEverFit units hs → MayEverFit units ks
  may_twins units m = subst (λ (l : Limits). MayEverFit units (record hs { limits = l })) (sym t.limits) m

  spare_usual_twins : (units k : ℕ) → IsSpareUsual units k hs → IsSpareUsual units k ks
  spare_usual_twins units k s = (
    subst (λ (l : Limits). k < l.most) (sym t.limits) s.0,
    none_twins hs ks t k s.1,
    subst (λ (l : Limits). units ≤ usual_room l k) (sym t.limits) s.2,
  )

  spare_larger_twins : (k : ℕ) → IsSpareLarger k hs → IsSpareLarger k ks
  spare_larger_twins k s = (
    subst (λ (l : Limits). l.most ≤ k) (sym t.limits) s.0,
    subst (λ (l : Limits). k < l.most + l.most_larger) (sym t.limits) s.1,
    none_twins hs ks t k s.2,
  )

pub next_twins : (hs ks : Heaps) → AreTwins hs ks → (units k : ℕ) → IsNext units k hs → IsNext units k ks
next_twins hs ks t units k n =
    let s = twins_sym hs ks t in (
      omega (arith, n.0, t.made),
      elim n.1 [
        | inl u ↦ inl (usual_twins hs ks t units u.0, spare_usual_twins hs ks t units k u.1, λ j l a. u.2 j l (spare_usual_twins ks hs s units j a))
        | inr u ↦ inr (λ a. u.0 (usual_twins ks hs s units a), spare_larger_twins hs ks t k u.1, λ j l a. u.2 j l (spare_larger_twins ks hs s j a))
      ],
    )

pub one_next : (units k j : ℕ) (hs : Heaps) → IsNext units k hs → IsNext units j hs → k ≡ j
one_next units k j hs a b = go a.1 b.1
  where
    go : ((IsUsual units hs × IsSpareUsual units k hs × ((i : ℕ) → i < k → IsSpareUsual units i hs → ⊥)) ⊎ ((IsUsual units hs → ⊥) × IsSpareLarger k hs × ((i : ℕ) → i < k → IsSpareLarger i hs → ⊥)))
        → ((IsUsual units hs × IsSpareUsual units j hs × ((i : ℕ) → i < j → IsSpareUsual units i hs → ⊥)) ⊎ ((IsUsual units hs → ⊥) × IsSpareLarger j hs × ((i : ℕ) → i < j → IsSpareLarger i hs → ⊥)))
        → k ≡ j
    go (inl a) (inl b) = one_first (λ i. IsSpareUsual units i hs) k j a.1 a.2 b.1 b.2
    go (inl a) (inr b) = absurd (b.0 a.0)
    go (inr a) (inl b) = absurd (a.0 b.0)
    go (inr a) (inr b) = one_first (λ i. IsSpareLarger i hs) k j a.1 a.2 b.1 b.2

-- ---- a heap whose node limit has to be raised
must_twin : (limits : Limits) (k blocks : ℕ) (g h : Guard) → IsTwin g h → MustRaise limits k blocks g → MustRaise limits k blocks h
must_twin limits k blocks g h t must = subst (MustRaise limits k blocks) (sym (as_twin g h t)) must

pub must_in_twins : (hs ks : Heaps) → AreTwins hs ks → (k blocks : ℕ) → MustRaiseIn hs.limits k blocks (heap_at k hs) → MustRaiseIn ks.limits k blocks (heap_at k ks)
must_in_twins hs ks t k blocks must = subst (λ (l : Limits). MustRaiseIn l k blocks (heap_at k ks)) (sym t.limits)
    (in_twin (MustRaiseIn hs.limits k blocks) (heap_at k hs) (heap_at k ks) (must_twin hs.limits k blocks) (t.heaps k) must)

-- under the doubled limit it is a twin of the other one under it
raised_twin : (limit limit' : ℕ) (g h : Guard) → limit' ≡ limit → IsTwin g h
    → IsTwin (record g { space = record g.space { max_allocs = limit; accesses = 0 } }) (record h { space = record h.space { max_allocs = limit'; accesses = 0 } })
raised_twin limit limit' g h same t = record {
  space = ap (λ (v : View). record v { max_allocs = limit'; accesses = 0 }) t.space ∙ ap (λ (m : ℕ). record g.space { max_allocs = m; accesses = 0 }) same;
  serials = t.serials;
  given = t.given;
  realm = t.realm;
  step = t.step;
}

pub where_twins : (Must : Guard → Type 0) (limits : Limits) → ((g h : Guard) → IsTwin g h → Must g → Must h) → (g g' h h' : Guard) → IsTwin g g' → IsTwin g' g
    → IsRaisedWhere Must limits g h → IsRaisedWhere Must limits g' h' → IsTwin h h'
where_twins Must limits keeps g g' h h' t s (inl a) (inl b) =
    subst₂ IsTwin (sym a.1) (sym b.1) (raised_twin (raised_limit limits g) (raised_limit limits g') g g' (ap (raised_limit limits) (as_twin g g' t)) t)
where_twins Must limits keeps g g' h h' t s (inl a) (inr b) = absurd (b.0 (keeps g g' t a.0))
where_twins Must limits keeps g g' h h' t s (inr a) (inl b) = absurd (a.0 (keeps g' g s b.0))
where_twins Must limits keeps g g' h h' t s (inr a) (inr b) = subst₂ IsTwin (sym a.1) (sym b.1) t

pub raised_twins : (limits : Limits) (k blocks : ℕ) (g g' h h' : Guard) → IsTwin g g' → IsTwin g' g → IsRaisedAsNeeded limits k blocks g h → IsRaisedAsNeeded limits k blocks g' h' → IsTwin h h'
raised_twins limits k blocks = where_twins (MustRaise limits k blocks) limits (must_twin limits k blocks)

-- ---- why a request is refused
pub why_twins : {NoneServes : Heaps → Type 0} {FirstServes : ℕ → Heaps → Type 0} → IsFinder NoneServes FirstServes → (hs ks : Heaps) → AreTwins hs ks → (size align : ℕ) (r : Refusal)
    → IsWhyBy NoneServes FirstServes size align hs r → IsWhyBy NoneServes FirstServes size align ks r
why_twins f hs ks t size align Empty w = w
why_twins f hs ks t size align TooLarge w = ((w.0.0, f.none hs ks t w.0.1), λ m. w.1 (may_twins ks hs (twins_sym hs ks t) size m))
why_twins f hs ks t size align Full w = ((w.0.0, f.none hs ks t w.0.1), may_twins hs ks t size w.1, λ k n. w.2 k (next_twins ks hs (twins_sym hs ks t) size k n))
why_twins f hs ks t size align Memory (inl w) = inl ((w.0.0, f.none hs ks t w.0.1), (w.1.0, next_twins hs ks t size w.1.0 w.1.1))
why_twins f hs ks t size align Memory (inr w) = inr (w.0, (w.1.0, f.first w.1.0 hs ks t w.1.1, must_in_twins hs ks t w.1.0 (blocks_needed align) w.1.2))
