-- Tight requests: a heap that has room holds them, and what a request that none holds is answered.
use Rattle.std.proofs.Common.{◌≡◌, ℕ, ◌+◌, ◌<◌, ◌≤◌, true, Some, Result, Ok, Err, IfOk, IfErr, subst, inl, inr, arith}
use Rattle.std.proofs.lemmas.Bool.{cases_lt}
use Rattle.offset_allocator.specs.{Requests.blocks_needed, Requests.units_needed, Tight.CanHold, View.IsWellFormed}
use Rattle.offset_allocator.proofs.{Holding.grant_holds, Raised.under, Raised.well_under, Taken.HasFit, Views.ViewFits.fits_exactly, Views.ViewFits.largest_small}
use Rattle.offset_guarded.specs.Guard.{Guard, Ticket}
use Rattle.offset_heaps.specs.declared.limits.Limits.{Limits}
use Rattle.offset_heaps.specs.declared.place.Granted.{Granted}
use Rattle.offset_heaps.specs.declared.refusal.Refusal.{Refusal}
use Rattle.offset_heaps.specs.declared.refusal.Refusal.TheVariants.{Empty, TooLarge, Full, Memory}
use Rattle.offset_heaps.specs.Heaps.{Heaps, GrantsBy, IsNext, IsSame, IsWhy, NoneFits, room, top_limit}
use Rattle.offset_heaps.specs.Slots.{CanHoldIn}
use Rattle.offset_heaps.specs.Tight.{IsWhyTight, NoneHolds}
use Rattle.offset_heaps.proofs.{Finders.fits, Grants.granted_new, Grants.granted_since, Rooms.room_left}

-- ---- what a heap holds
-- under some limit a request is granted where there is room for it, and so a free block holds it
room_holds : (limits : Limits) (k size align : ℕ) (g : Guard) → IsWellFormed g.space → 1 ≤ size → 1 ≤ align → units_needed size align ≤ room limits k (blocks_needed align) g → CanHoldIn limits k size align (Some g)
room_holds limits k size align g known some power fits =
    let n : ℕ = units_needed size align in
    let one : 1 ≤ n = omega (arith, some, power) in
    let has = room_left limits k (blocks_needed align) n g one fits in
    let limit : ℕ = g.space.max_allocs + top_limit limits k g in
    let small = largest_small g.space known known.fits n one has.2 in
    let fit : HasFit n g.space = (fits_exactly g.space known n small known.fits one).1 has.2 in
    let held : CanHold size align (under limit g.space) = grant_holds (under limit g.space) (well_under g.space limit (omega arith) known) size align power (omega (arith, has.1), fit) in
    (has.0, has.1, held.1)

-- where no free block holds a request, there is no room for it
pub holds_less : (limits : Limits) (k size align : ℕ) (g : Guard) → IsWellFormed g.space → 1 ≤ size → 1 ≤ align → (CanHoldIn limits k size align (Some g) → ⊥)
    → room limits k (blocks_needed align) g < units_needed size align
holds_less limits k size align g known some power none = elim (cases_lt (room limits k (blocks_needed align) g) (units_needed size align)) [
  | inl less ↦ less
  | inr fits ↦ absurd (none (room_holds limits k size align g known some power fits))
]

-- ---- where no heap holds it, and so none has room
module _ (size align : ℕ) (hs ks : Heaps) (same : IsSame hs ks) where
  -- it is refused as a request that none has room for
  why_held : (r : Refusal) → NoneHolds size align hs → NoneFits (blocks_needed align) (units_needed size align) hs → IsWhy size align (record hs { accesses = ks.accesses }) r → IsWhyTight size align hs r
  why_held Empty none less why = why
  why_held TooLarge none less why = ((why.0.0, none), why.1)
  why_held Full none less why = ((why.0.0, none), why.1, why.2)
  why_held Memory none less (inl why) = inl ((why.0.0, none), why.1)
  why_held Memory none less (inr why) = absurd ((fits (blocks_needed align) (units_needed size align)).apart why.1.0 hs less why.1.1)

  pub why_since : (r : Result Granted Refusal) → NoneHolds size align hs → NoneFits (blocks_needed align) (units_needed size align) hs → IfErr r (IsWhy size align ks) → IfErr r (IsWhyTight size align hs)
  why_since (Ok g) none less why = tt
  why_since (Err w) none less why = why_held w none less (subst (λ (k : Heaps). IsWhy size align k w) same why)

  -- or granted in a new heap
  pub made_since : (r : Result Granted Refusal) → NoneHolds size align hs → IfOk r (λ g. (g.is_new ≡ true) × IsNext size g.place.heap ks) → IfOk r (λ g. g.is_new ≡ true → NoneHolds size align hs × IsNext size g.place.heap hs)
  made_since (Ok g) none h = λ _. (none, subst (λ (k : Heaps). IsNext size g.place.heap k) same h.1)
  made_since (Err why) none h = tt

  pub grants_since : (Call Other : Ticket → Guard → Guard → Type 0) (ls : Heaps) (r : Result Granted Refusal) → IfOk r (λ g. (g.is_new ≡ true) × IsNext size g.place.heap ks) → IfOk r (GrantsBy Other size align ks ls)
      → IfOk r (GrantsBy Call size align hs ls)
  grants_since Call Other ls (Ok g) made h = granted_new Call size align Other hs ls g made.0 (granted_since Other size align hs ks ls g same h)
  grants_since Call Other ls (Err why) made h = tt

  -- a heap that holds it is asked with another count of accesses
  pub why_first_since : (r : Result Granted Refusal) → IfErr r (IsWhyTight size align ks) → IfErr r (IsWhyTight size align hs)
  why_first_since (Ok g) why = tt
  why_first_since (Err w) why = same_why w (subst (λ (k : Heaps). IsWhyTight size align k w) same why)
    where
      same_why : (w : Refusal) → IsWhyTight size align (record hs { accesses = ks.accesses }) w → IsWhyTight size align hs w
      same_why Empty w = w
      same_why TooLarge w = w
      same_why Full w = w
      same_why Memory w = w
