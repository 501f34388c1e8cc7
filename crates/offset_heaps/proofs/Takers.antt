-- The first heap that takes a range of another one.
use Rattle.std.proofs.Common.{◌≡◌, ℕ, ◌%◌, ◌<◌, ◌≤◌, length, List, max, Option, Some, None, IfSome, IsSome, MatchOption, refl, sym, ap, ◌∙◌, subst, inl, inr, arith}
use Rattle.std.proofs.lemmas.Bool.{cases_lt}
use Rattle.offset_allocator.specs.Requests.{blocks_needed, units_needed}
use Rattle.offset_guarded.specs.Answers as tickets
use Rattle.offset_guarded.specs.Guard.{Guard, Ticket}
use Rattle.offset_heaps.specs.declared.limits.Limits.{Limits}
use Rattle.offset_heaps.specs.Places.{Place, ticket_of}
use Rattle.offset_heaps.specs.Heaps.{Heaps, Grants, IsSame, heap_at, live_units_of, part, range_in, room_of, slot, step_at, step_of}
use Rattle.offset_heaps.specs.declared.place.Granted.{Granted}
use Rattle.offset_heaps.specs.Calls.{Relocates}
use Rattle.offset_allocator.specs.Ranges.{Range}
use Rattle.std.proofs.Math.Nat.{dvd_of_mod-eq-zero, dvd_trans}
use Rattle.std.specs.Int.{◌∣◌, IsGcd}
use Rattle.offset_heaps.specs.Relocating.{IsOwnAlign, TakesUnits, TakesRange, live_units_at, offset_in, offset_of, units_in, size_of}
use Rattle.offset_heaps.proofs.{Grants.granted_since, Grants.now, Grants.step_joined, Numbers.room_there, Places.same_realm}

-- before the first heap that has room, and behind the last number, none takes a range
pub all_takers : (limits : Limits) (own size align live from count : ℕ) (slots : List (Option Guard)) (r : Option ℕ) → length slots ≡ count
    → ((j : ℕ) → j < from → room_of limits j (blocks_needed align) (slot j slots) < max 1 (units_needed size align))
    → MatchOption r ((k : ℕ) → from ≤ k → k < count → TakesUnits limits own size align live slots k → ⊥)
    (λ k. (k < count) × TakesUnits limits own size align live slots k × ((j : ℕ) → from ≤ j → j < k → TakesUnits limits own size align live slots j → ⊥))
    → MatchOption r ((k : ℕ) → TakesUnits limits own size align live slots k → ⊥) (λ k. TakesUnits limits own size align live slots k × ((j : ℕ) → j < k → TakesUnits limits own size align live slots j → ⊥))
all_takers limits own size align live from count slots None long before h = λ k t. elim (cases_lt k from) [
  | inl l ↦ let low = before k l in let room = t.room in absurd (omega (arith, low, room))
  | inr past ↦ let there = room_there limits slots (blocks_needed align) k (max 1 (units_needed size align)) (omega arith) t.room in h k past (omega (arith, long, there)) t
]
all_takers limits own size align live from count slots (Some i) long before h = (
  h.1,
  λ j l t. elim (cases_lt j from) [
    | inl front ↦ let low = before j front in let room = t.room in absurd (omega (arith, low, room))
    | inr past ↦ h.2 j past l t
  ],
)

pub taker_there : (limits : Limits) (own size align live count : ℕ) (from : ℕ) (slots : List (Option Guard)) (r : Option ℕ) → length slots ≡ count
    → MatchOption r ((k : ℕ) → from ≤ k → k < count → TakesUnits limits own size align live slots k → ⊥)
    (λ k. (k < count) × TakesUnits limits own size align live slots k × ((j : ℕ) → from ≤ j → j < k → TakesUnits limits own size align live slots j → ⊥))
    → IfSome r (λ k. k < length slots)
taker_there limits own size align live count from slots None long h = tt
taker_there limits own size align live count from slots (Some i) long h = let l = h.0 in omega (arith, long, l)

module _ (p : Place) (align : ℕ) (hs : Heaps) (size live : ℕ) (here : p.realm ≡ hs.realm) (u : size ≡ units_in (range_in (ticket_of p) (heap_at p.heap hs))) (l : live ≡ part live_units_of (heap_at p.heap hs)) where
  pub size_here : size ≡ size_of p hs
  size_here = u ∙ ap units_in (sym (same_realm p hs here))

  pub takes_range : (k : ℕ) → IsSome (range_in (ticket_of p) (heap_at p.heap hs)) → TakesUnits hs.limits p.heap size align live hs.slots k → TakesRange p align hs k
  takes_range k some t = (
    subst IsSome (sym (same_realm p hs here)) some,
    subst (λ n. TakesUnits hs.limits p.heap n align (live_units_at p.heap hs) hs.slots k) size_here (subst (λ n. TakesUnits hs.limits p.heap size align n hs.slots k) l t),
  )

  pub takes_units : (k : ℕ) → TakesRange p align hs k → TakesUnits hs.limits p.heap size align live hs.slots k
  takes_units k t = subst (λ n. TakesUnits hs.limits p.heap n align live hs.slots k) (sym size_here) (subst (λ n. TakesUnits hs.limits p.heap (size_of p hs) align n hs.slots k) (sym l) t.1)

-- ---- at the alignment that the range has
pub own_here : (p : Place) (hs : Heaps) (d : Option ℕ) → p.realm ≡ hs.realm → IfSome d (IsGcd (offset_in (range_in (ticket_of p) (heap_at p.heap hs))) (part step_of (heap_at p.heap hs))) → IfSome d (IsOwnAlign p hs)
own_here p hs d here own = subst (λ (o : Option Range). IfSome d (IsGcd (offset_in o) (step_at p.heap hs))) (sym (same_realm p hs here)) own

grants_since : (n align : ℕ) (hs ks ls : Heaps) (r : Option Granted) → IsSame hs ks → IfSome r (Grants n align ks ls) → IfSome r (Grants n align hs ls)
grants_since n align hs ks ls None same g = tt
grants_since n align hs ks ls (Some grant) same g = granted_since (λ t g h. tickets.AllocatesAligned n align g h (Some t)) n align hs ks ls grant same g

-- a count of accesses changes nothing of it
pub relocates_since : (p : Place) (align : ℕ) (hs ks ls : Heaps) (r : Option Granted) → IsSame hs ks → Relocates p align ks ls r → Relocates p align hs ls r
relocates_since p align hs ks ls r same f =
    let g : Relocates p align (record hs { accesses = ks.accesses }) ls r = subst (λ (k : Heaps). Relocates p align k ls r) same f in
    record {
      none = g.none;
      same = g.same;
      first = g.first;
      found = g.found;
      grants = grants_since (size_of p hs) align hs (record hs { accesses = ks.accesses }) ls r refl g.grants;
    }

-- each alignment of the first range that divides the step of its heap is one of the second
pub relocated_aligned : (p : Place) (align : ℕ) (hs ls : Heaps) (n : ℕ) (r : Option Granted) → IsOwnAlign p hs align → IfSome r (λ g. g.offset % align ≡ 0) → IfSome r (Grants n align hs ls)
    → IfSome r (λ g. (a : ℕ) → a ∣ step_at p.heap hs → a ∣ offset_of p hs → (a ∣ g.offset) × (a ∣ step_at g.place.heap ls))
relocated_aligned p align hs ls n None own begins g = tt
relocated_aligned p align hs ls n (Some grant) own begins g = λ a d o.
    let divides : a ∣ align = own.2 a o d in
    let Call : Ticket → Guard → Guard → Type 0 = λ t g h. tickets.AllocatesAligned n align g h (Some t) in
    let here : heap_at grant.place.heap ls ≡ Some g.after = now Call n align (λ t g h a. a.request) hs ls grant g in
    (dvd_trans a divides (dvd_of_mod-eq-zero align begins), subst (λ o. a ∣ part step_of o) (sym here) (dvd_trans a divides (step_joined Call n align (λ t g h a. a.request) hs ls grant g (λ t g h a. a.aligns))))
