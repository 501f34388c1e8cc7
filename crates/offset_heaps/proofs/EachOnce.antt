-- A walk over all heaps meets each live place once.
use Rattle.std.proofs.Common.{◌≡◌, ℕ, zero, suc, ◌+◌, ◌<◌, Bool, true, false, ◌&&◌, if◌then◌else◌, length, List, [], ◌∷◌, ◌++◌, Option, Some, None, IfSome, drop, is_some, map, nat_eq, option_map, refl, sym, ap, ap₂, subst, ◌∙◌, inl, inr, arith}
use Rattle.std.proofs.Common.{add-one, eq-eqb, ne_eqb}
use Rattle.std.specs.Option.{option_or}
use Rattle.std.proofs.lemmas.Bool.{cases_eq, cases_lt}
use Rattle.std.proofs.Math.Seq.{drop-cons}
use Rattle.std.proofs.lemmas.List.{drop_all}
use Rattle.offset_allocator.specs.Reporting.Walking.{IsWalk, first_live, live_after, live_handles}
use Rattle.offset_allocator.specs.{Ranges.Range, View.Handle, View.IsWellFormed, View.one, View.tally}
use Rattle.offset_allocator.specs.Ranges as named
use Rattle.offset_allocator.proofs.{Reporting.AlongLive.all_met as handles_met, Reporting.AlongLive.forward, Tallies.tally_append}
use Rattle.offset_guarded.specs.Guard.{Guard, serial_of}
use Rattle.offset_heaps.specs.Places.{Place, ticket_of}
use Rattle.offset_heaps.specs.Heaps.{Heaps, heap_at, range_in, slot}
use Rattle.offset_heaps.specs.Numbering.{AreOfLive, MeetsPlaces, first_from, first_live_in, is_alike, live_places, next_place, places_from, places_in}
use Rattle.offset_heaps.specs.Relocating.{place_in}
use Rattle.offset_heaps.specs.State as state
use Rattle.offset_heaps.proofs.{Along.first_past, Along.first_step, Decided.known}

-- ---- the walk
module _ (hs : Heaps) where
  abbrev next : Place → Option Place
  next p = next_place p hs

  -- in one heap, and on from there
  heap_met : (k : ℕ) (g : Guard) → heap_at k hs ≡ Some g → (at : Option Handle) (xs : List Handle) → IsWalk (λ x. live_after x g.space) at xs → (rest : List Place)
      → MeetsPlaces next (first_from (k + 1) hs) rest
      → MeetsPlaces next (option_or (option_map (place_in k hs.realm g) at) (first_from (k + 1) hs)) (map (place_in k hs.realm g) xs ++ rest)
  heap_met k g there at [] walk rest met = subst (λ o. MeetsPlaces next (option_or (option_map (place_in k hs.realm g) o) (first_from (k + 1) hs)) rest) (sym walk) met
  heap_met k g there at (x ∷ xs) walk rest met = (
    ap (λ o. option_or (option_map (place_in k hs.realm g) o) (first_from (k + 1) hs)) walk.0,
    subst (λ o. MeetsPlaces next o (map (place_in k hs.realm g) xs ++ rest)) (sym (after x)) (heap_met k g there (live_after x.name g.space) xs walk.1 rest met),
  )
    where
      after : (x : Handle) → next (place_in k hs.realm g x) ≡ option_or (option_map (place_in k hs.realm g) (live_after x.name g.space)) (first_from (k + 1) hs)
      after x = rw there refl

  slot_met : (k : ℕ) (o : Option Guard) → heap_at k hs ≡ o → IfSome o (λ g. IsWellFormed g.space) → (rest : List Place) → MeetsPlaces next (first_from (k + 1) hs) rest
      → MeetsPlaces next (option_or (first_live_in k hs.realm o) (first_from (k + 1) hs)) (places_in k hs.realm o ++ rest)
  slot_met k None there known rest met = met
  slot_met k (Some g) there known rest met = heap_met k g there (first_live g.space) (live_handles g.space) (forward g.space known) rest met

  from_met : ((k : ℕ) → IfSome (heap_at k hs) (λ g. IsWellFormed g.space)) → (k : ℕ) (slots : List (Option Guard)) → drop k hs.slots ≡ slots → MeetsPlaces next (first_from k hs) (places_from k hs.realm slots)
  from_met known k [] e = elim (cases_lt k (length hs.slots)) [
    | inl l ↦ absurd (let f = sym e ∙ drop-cons hs.slots k None l in cc)
    | inr past ↦ first_past k hs past
  ]
  from_met known k (o ∷ slots) e = elim (cases_lt k (length hs.slots)) [
    | inl l ↦
        let f = sym e ∙ drop-cons hs.slots k None l in
        let here : heap_at k hs ≡ o = cc in
        let rest : drop (k + 1) hs.slots ≡ slots = rw add-one (cc) in
        subst (λ x. MeetsPlaces next x (places_in k hs.realm o ++ places_from (k + 1) hs.realm slots))
        (sym (first_step k hs ∙ ap (λ p. option_or (first_live_in k hs.realm p) (first_from (k + 1) hs)) here))
        (slot_met k o here (subst (λ p. IfSome p (λ g. IsWellFormed g.space)) here (known k)) (places_from (k + 1) hs.realm slots) (from_met known (k + 1) slots rest))
    | inr past ↦ absurd (let f = sym e ∙ drop_all k hs.slots past in cc)
  ]

pub all_met : (hs : Heaps) → state.IsWellFormed hs → MeetsPlaces (λ p. next_place p hs) (first_from 0 hs) (live_places hs)
all_met hs is = from_met hs (known hs is).heaps 0 hs.slots refl

-- ---- each once
joined : (b c r s : Bool) (n : ℕ) → one (b && (c && (r && (s && true)))) + (if b && (c && (r && s)) then n else 0) ≡ (if b && (c && (r && s)) then 1 + n else 0)
joined true true true true n = refl
joined true true true false n = refl
joined true true false s n = refl
joined true false r s n = refl
joined false c r s n = refl

apart : (b c r s : Bool) → one (b && (c && (r && (s && false)))) ≡ 0
apart true true true true = refl
apart true true true false = refl
apart true true false s = refl
apart true false r s = refl
apart false c r s = refl

skipped : (b : Bool) (n : ℕ) → 0 + (if b then n else 0) ≡ (if b then 0 + n else 0)
skipped true n = refl
skipped false n = refl

none_if : (b : Bool) → ◌≡◌ {A = ℕ} (if b then 0 else 0) 0
none_if true = refl
none_if false = refl

module _ (p : Place) where
  abbrev hits : Place → ℕ
  hits q = one (is_alike p q)

  abbrev fits_in : ℕ → ℕ → Guard → Bool
  fits_in k realm g = nat_eq p.heap k && (nat_eq p.realm realm && (nat_eq p.heap_realm g.realm && nat_eq p.serial (serial_of p.name g)))

  names_met : (k realm : ℕ) (g : Guard) (xs : List Handle) → tally hits (map (place_in k realm g) xs)
      ≡ (if fits_in k realm g then tally (λ (h : Handle). one (nat_eq p.name h.name)) xs else 0)
  names_met k realm g [] = sym (none_if (fits_in k realm g))
  names_met k realm g (x ∷ xs) =
      let rest = names_met k realm g xs in
      let n = tally (λ (h : Handle). one (nat_eq p.name h.name)) xs in
      elim (cases_eq p.name x.name) [
        | inl e ↦
            ap₂ (λ (a b : ℕ). a + b)
            (ap₂ (λ (s : ℕ) (t : Bool). one (nat_eq p.heap k && (nat_eq p.realm realm && (nat_eq p.heap_realm g.realm && (nat_eq p.serial s && t))))) (ap (λ y. serial_of y g) (sym e)) (eq-eqb p.name x.name e)) rest
            ∙ joined (nat_eq p.heap k) (nat_eq p.realm realm) (nat_eq p.heap_realm g.realm) (nat_eq p.serial (serial_of p.name g)) n
            ∙ ap (λ (t : Bool). if fits_in k realm g then one t + n else 0) (sym (eq-eqb p.name x.name e))
        | inr d ↦
            ap₂ (λ (a b : ℕ). a + b)
            (ap (λ (t : Bool). one (nat_eq p.heap k && (nat_eq p.realm realm && (nat_eq p.heap_realm g.realm && (nat_eq p.serial (serial_of x.name g) && t))))) (ne_eqb p.name x.name d)
            ∙ apart (nat_eq p.heap k) (nat_eq p.realm realm) (nat_eq p.heap_realm g.realm) (nat_eq p.serial (serial_of x.name g))) rest
            ∙ skipped (fits_in k realm g) n
            ∙ ap (λ (t : Bool). if fits_in k realm g then one t + n else 0) (sym (ne_eqb p.name x.name d))
      ]

  -- the range of a place, where its heap has this number
  abbrev range_if : Bool → Option Range → Option Range
  range_if b o = if b then o else None

  live_one : (b c r s : Bool) (o : Option Range) → (if b && (c && (r && s)) then one (is_some o) else 0) ≡ one (b && is_some (range_if c (range_if (r && s) o)))
  live_one true true true true o = refl
  live_one true true true false o = refl
  live_one true true false s o = refl
  live_one true false r s o = refl
  live_one false c r s o = refl

  heap_once : (k realm : ℕ) (o : Option Guard) → IfSome o (λ g. IsWellFormed g.space) → tally hits (places_in k realm o)
      ≡ one (nat_eq p.heap k && is_some (range_if (nat_eq p.realm realm) (range_in (ticket_of p) o)))
  heap_once k realm None known = sym (none (nat_eq p.heap k) (nat_eq p.realm realm))
    where
      none : (b c : Bool) → one (b && is_some (range_if c None)) ≡ 0
      none true true = refl
      none true false = refl
      none false c = refl
  heap_once k realm (Some g) known =
      names_met k realm g (live_handles g.space)
      ∙ ap (λ (n : ℕ). if fits_in k realm g then n else 0) ((handles_met g.space known).once p.name)
      ∙ live_one (nat_eq p.heap k) (nat_eq p.realm realm) (nat_eq p.heap_realm g.realm) (nat_eq p.serial (serial_of p.name g)) (named.range_of p.name g.space)

  -- none behind its heap
  none_behind : (k realm : ℕ) (slots : List (Option Guard)) → ((j : ℕ) → IfSome (slot j slots) (λ g. IsWellFormed g.space)) → p.heap < k → tally hits (places_from k realm slots) ≡ 0
  none_behind k realm [] known l = refl
  none_behind k realm (o ∷ slots) known l =
      let here : tally hits (places_in k realm o) ≡ 0 =
      heap_once k realm o (known 0) ∙ ap (λ (b : Bool). one (b && is_some (range_if (nat_eq p.realm realm) (range_in (ticket_of p) o)))) (ne_eqb p.heap k (λ e. omega arith)) in
      let rest = none_behind (k + 1) realm slots (λ j. known (suc j)) (omega arith) in
      tally_append hits (places_in k realm o) (places_from (k + 1) realm slots) ∙ omega (arith, here, rest)

  place_once : (j k realm : ℕ) (slots : List (Option Guard)) → ((j : ℕ) → IfSome (slot j slots) (λ g. IsWellFormed g.space)) → p.heap ≡ k + j
      → tally hits (places_from k realm slots) ≡ one (is_some (range_if (nat_eq p.realm realm) (range_in (ticket_of p) (slot j slots))))
  place_once j k realm [] known e = sym (none (nat_eq p.realm realm))
    where
      none : (c : Bool) → one (is_some (range_if c None)) ≡ 0
      none true = refl
      none false = refl
  place_once zero k realm (o ∷ slots) known e =
      let here : tally hits (places_in k realm o) ≡ one (is_some (range_if (nat_eq p.realm realm) (range_in (ticket_of p) o))) =
      heap_once k realm o (known 0) ∙ ap (λ (b : Bool). one (b && is_some (range_if (nat_eq p.realm realm) (range_in (ticket_of p) o)))) (eq-eqb p.heap k (omega (arith, e))) in
      let rest = none_behind (k + 1) realm slots (λ j. known (suc j)) (omega (arith, e)) in
      tally_append hits (places_in k realm o) (places_from (k + 1) realm slots) ∙ omega (arith, here, rest)
  place_once (suc j) k realm (o ∷ slots) known e =
      let here : tally hits (places_in k realm o) ≡ 0 =
      heap_once k realm o (known 0) ∙ ap (λ (b : Bool). one (b && is_some (range_if (nat_eq p.realm realm) (range_in (ticket_of p) o)))) (ne_eqb p.heap k (λ f. omega (arith, e, f))) in
      let rest = place_once j (k + 1) realm slots (λ i. known (suc i)) (omega (arith, e)) in
      tally_append hits (places_in k realm o) (places_from (k + 1) realm slots) ∙ omega (arith, here, rest)

pub all_once : (hs : Heaps) → state.IsWellFormed hs → AreOfLive (live_places hs) hs
all_once hs is p = place_once p p.heap 0 hs.realm hs.slots (known hs is).heaps (omega arith)
