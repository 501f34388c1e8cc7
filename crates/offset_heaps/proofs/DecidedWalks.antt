-- The places that walks of live ranges meet, of twins.
use Rattle.std.proofs.Common.{◌≡◌, ℕ, ◌≤◌, ◌++◌, Bool, true, false, List, [], ◌∷◌, Option, Some, None, IfSome, IsSome, is_some, if◌then◌else◌, nat_eq, option_map, reverse, refl, sym, ap, ap₂, subst}
use Rattle.std.proofs.Common.{◌∙◌, inl, inr, arith}
use Rattle.std.proofs.lemmas.List.{reverse-append}
use Rattle.std.specs.List.{AllByRecursion}
use Rattle.offset_allocator.specs.Reporting.Walking.{HasOffset, IsWalk, last_live, live_before, live_handles}
use Rattle.offset_allocator.specs.{Ranges.Range, View.Handle, View.IsWellFormed, View.View, View.one, View.tally}
use Rattle.offset_allocator.specs.Ranges as named
use Rattle.offset_allocator.proofs.{Reporting.AlongLive.all_met, Reporting.AlongLive.backward, Tallies.hit_cases, Tallies.tally_append}
use Rattle.offset_guarded.proofs.Guards.{live_name}
use Rattle.offset_guarded.specs.Guard.{Guard}
use Rattle.offset_guarded.specs.Twins.{IsTwin}
use Rattle.offset_heaps.specs.Places.{Place, ticket_of}
use Rattle.offset_heaps.specs.{Heaps.Heaps, Heaps.IsLive, Heaps.heap_at, Heaps.range_in, Relocating.found_in, Relocating.last_live_in, Relocating.live_before_in, Relocating.place_in, Twins.AreTwins}
use Rattle.offset_heaps.specs.Twins.{IsTwinIn}
use Rattle.offset_heaps.specs.State as state
use Rattle.offset_heaps.proofs.Decided.{known, known_at}

-- ---- walks
module _ (P : Handle → Type 0) (next : ℕ → Option Handle) where
  walk_at : (at : Option Handle) (hs : List Handle) → IsWalk next at hs → AllByRecursion P hs → IfSome at P
  walk_at at [] w all = subst (λ o. IfSome o P) (sym w) tt
  walk_at at (h ∷ hs) w all = subst (λ o. IfSome o P) (sym w.0) all.0

  walk_next : (at : Option Handle) (hs : List Handle) → IsWalk next at hs → AllByRecursion P hs → (x : ℕ) → 1 ≤ tally (λ (h : Handle). one (nat_eq x h.name)) hs → IfSome (next x) P
  walk_next at [] w all x l = absurd (omega (arith, l))
  walk_next at (h ∷ hs) w all x l = elim (hit_cases x h.name) [
    | inl e ↦ subst (λ y. IfSome (next y) P) (sym e.0) (walk_at (next h.name) hs w.1 all.1)
    | inr n ↦ walk_next (next h.name) hs w.1 all.1 x (omega (arith, l, n.1))
  ]

  all_append : (hs ks : List Handle) → AllByRecursion P hs → AllByRecursion P ks → AllByRecursion P (hs ++ ks)
  all_append [] ks a b = b
  all_append (h ∷ hs) ks a b = (a.0, all_append hs ks a.1 b)

  all_back : (hs : List Handle) → AllByRecursion P hs → AllByRecursion P (reverse hs)
  all_back [] a = tt
  all_back (h ∷ hs) a = subst (AllByRecursion P) (sym (reverse-append (h ∷ []) hs)) (all_append (reverse hs) (h ∷ []) (all_back hs a.1) (a.0, tt))

count_back : (f : Handle → ℕ) (hs : List Handle) → tally f (reverse hs) ≡ tally f hs
count_back f [] = refl
count_back f (h ∷ hs) =
    let rest = count_back f hs in
    let split = tally_append f (reverse hs) (h ∷ []) in
    ap (tally f) (reverse-append (h ∷ []) hs) ∙ omega (arith, rest, split)

abbrev IsLiveHandle : View → Handle → Type 0
IsLiveHandle v h = named.IsLive h.name v

all_live : (v : View) (hs : List Handle) → AllByRecursion (HasOffset v) hs → AllByRecursion (IsLiveHandle v) hs
all_live v [] a = tt
all_live v (h ∷ hs) a = (some (named.range_of h.name v) a.0, all_live v hs a.1)
  where
    some : (o : Option Range) → option_map (λ (r : Range). r.offset) o ≡ Some h.offset → IsSome o
    some None e = absurd (cc)
    some (Some r) e = refl

module _ (v : View) (w : IsWellFormed v) where
  met : AllByRecursion (IsLiveHandle v) (reverse (live_handles v))
  met = all_back (IsLiveHandle v) (λ x. None) (live_handles v) (all_live v (live_handles v) (all_met v w).offsets)

  last_is_live : IfSome (last_live v) (IsLiveHandle v)
  last_is_live = walk_at (IsLiveHandle v) (λ x. live_before x v) (last_live v) (reverse (live_handles v)) (backward v w) met

  before_is_live : (x : ℕ) → named.IsLive x v → IfSome (live_before x v) (IsLiveHandle v)
  before_is_live x live =
      let once = (all_met v w).once x in
      let here : one (is_some (named.range_of x v)) ≡ 1 = ap one live in
      walk_next (IsLiveHandle v) (λ x. live_before x v) (last_live v) (reverse (live_handles v)) (backward v w) met x
      (omega (arith, count_back (λ (h : Handle). one (nat_eq x h.name)) (live_handles v), once, here))

-- ---- places
placed_twin : (k realm : ℕ) (g h : Guard) → IsTwin g h → (o : Option Handle) → IfSome o (IsLiveHandle g.space) → option_map (place_in k realm h) o ≡ option_map (place_in k realm g) o
placed_twin k realm g h t None live = refl
placed_twin k realm g h t (Some a) live =
    ap₂ (λ (s m : ℕ). let p : Option Place = Some (record { heap = k; realm = realm; name = a.name; serial = s; heap_realm = m }) in p)
    (t.serials a.name live) t.realm

found_twin : (find : View → Option Handle) → ((v : View) (n : ℕ) → find (record v { accesses = n }) ≡ find v) → (k realm : ℕ) (o p : Option Guard) → ((g : Guard) → o ≡ Some g → IfSome (find g.space) (IsLiveHandle g.space))
    → IsTwinIn o p → found_in find k realm p ≡ found_in find k realm o
found_twin find same k realm None p live t = ap (found_in find k realm) t
found_twin find same k realm (Some g) p live t =
    ap (found_in find k realm) t.1
    ∙ ap (option_map (place_in k realm t.0)) (ap find t.2.space ∙ same g.space t.0.space.accesses)
    ∙ placed_twin k realm g t.0 t.2 (find g.space) (live g refl)

pub last_decided : (k : ℕ) (hs hs' : Heaps) → state.IsWellFormed hs → AreTwins hs hs' → last_live_in k hs'.realm (heap_at k hs') ≡ last_live_in k hs.realm (heap_at k hs)
last_decided k hs hs' is t =
    ap (λ r. last_live_in k r (heap_at k hs')) t.realm
    ∙ found_twin last_live (λ v n. refl) k hs.realm (heap_at k hs) (heap_at k hs') (λ g e. last_is_live g.space (known_at hs (known hs is) k g e)) (t.heaps k)

only_if : (b : Bool) (o : Option Range) → IsSome (if b then o else None) → IsSome o
only_if true o h = h
only_if false o h = cc

pub before_decided : (p : Place) (hs hs' : Heaps) → state.IsWellFormed hs → AreTwins hs hs' → IsLive p hs
    → live_before_in p.heap hs'.realm (ticket_of p) (heap_at p.heap hs') ≡ live_before_in p.heap hs.realm (ticket_of p) (heap_at p.heap hs)
before_decided p hs hs' is t live =
    ap (λ r. live_before_in p.heap r (ticket_of p) (heap_at p.heap hs')) t.realm
    ∙ found_twin (live_before p.name) (λ v n. refl) p.heap hs.realm (heap_at p.heap hs) (heap_at p.heap hs')
    (λ g e. before_is_live g.space (known_at hs (known hs is) p.heap g e) p.name (live_name (ticket_of p) g (subst (λ o. IsSome (range_in (ticket_of p) o)) e (only_if (nat_eq p.realm hs.realm) (range_in (ticket_of p) (heap_at p.heap hs)) live))))
    (t.heaps p.heap)
