-- What a request is answered is what was foretold, and the units of a heap that is made for it.
use Rattle.std.proofs.Common.{◌≡◌, ℕ, ◌+◌, true, Option, Some, None, MatchOption, Result, Ok, Err, IfErr, option_map, ap, sym, ◌∙◌, inl, inr}
use Rattle.offset_allocator.specs.View.{View}
use Rattle.offset_guarded.specs.Answers as tickets
use Rattle.offset_guarded.specs.Guard.{Guard, Ticket}
use Rattle.offset_heaps.specs.declared.place.Granted.{Granted}
use Rattle.offset_heaps.specs.declared.refusal.Refusal.{Refusal}
use Rattle.offset_heaps.specs.declared.refusal.Refusal.TheVariants.{Memory}
use Rattle.offset_heaps.specs.{Asking.IsServedBy, Calls.AllocatesBy}
use Rattle.offset_heaps.specs.Heaps.{Heaps, Grants, GrantsNew, IsUsual, IsWhyBy, heap_at, larger_limit, units_of_heap, ticket_in, usual_size}
use Rattle.offset_heaps.proofs.{Finders.IsFinder, Grants.now, Refusals.first_memory, Refusals.next_memory, Refusals.one_reason, Refusals.refused, Shapes.size_aligned, Shapes.size_tight}

module _ {NoneServes : Heaps → Type 0} {FirstServes : ℕ → Heaps → Type 0} {Call : Ticket → Guard → Guard → Type 0} (f : IsFinder NoneServes FirstServes) (size align : ℕ) (hs ks : Heaps) where
  pub foretold : (why : Option Refusal) (r : Result Granted Refusal) → MatchOption why (IsServedBy NoneServes FirstServes size hs) (λ w. IsWhyBy NoneServes FirstServes size align hs w × (w ≡ Memory → ⊥))
      → AllocatesBy NoneServes FirstServes Call size align hs ks r → MatchOption why (IfErr r (λ w. w ≡ Memory)) (λ w. r ≡ Err w)
  foretold None (Ok g) served x = tt
  foretold None (Err w) served x = elim served.1 [
    | inl found ↦ (first_memory f size align hs found.0 w served.0 found.1 x.why).0
    | inr made ↦ next_memory f size align hs made.1.0 w served.0 made.1.1 x.why
  ]
  foretold (Some w) (Ok g) why x = absurd (refused f size align hs w g (λ e. let q = x.empty e in cc) why.0 why.1 x.found (λ e. (x.made e).1))
  foretold (Some w) (Err v) why x = ap Err (one_reason f size align hs v w x.why why.0)

-- the heap that is made for a grant has the units of its kind
module _ (size align : ℕ) (hs ks : Heaps) (grant : Granted) (g : Grants size align hs ks grant) (new : grant.is_new ≡ true) where
  here : option_map units_of_heap (heap_at grant.place.heap ks) ≡ Some g.after.space.size
  here = ap (option_map units_of_heap) (now (λ t g h. tickets.AllocatesAligned size align g h (Some t)) size align (λ t g h a. a.request) hs ks grant g)

  made : (New : Guard → Guard → Type 0) (n limit realm : ℕ) → ((v w : Guard) → New v w → w.space.size ≡ v.space.size) → GrantsNew New n limit realm align g.after → g.after.space.size ≡ n
  made New n limit realm same s = ap (λ (z : Guard). z.space.size) s.by.2.rest ∙ same s.before s.by.0 s.by.1 ∙ ap (λ (v : View). v.size) s.new.space.view

  pub usual_units : IsUsual size hs → option_map units_of_heap (heap_at grant.place.heap ks) ≡ Some (usual_size hs.limits grant.place.heap)
  usual_units usual = here ∙ ap Some (elim g.step [
    | inl old ↦ absurd (let e = sym new ∙ old.0 in cc)
    | inr is ↦ elim is.2 [
      | inl u ↦ made (λ g h. tickets.AllocatesAligned size 1 g h (Some (ticket_in grant))) (usual_size hs.limits grant.place.heap) hs.limits.first_allocs (hs.made + 1) (size_aligned size 1 (ticket_in grant)) u.1
      | inr l ↦ absurd (l.0 usual)
    ]
  ])

  pub larger_units : (IsUsual size hs → ⊥) → option_map units_of_heap (heap_at grant.place.heap ks) ≡ Some size
  larger_units unusual = here ∙ ap Some (elim g.step [
    | inl old ↦ absurd (let e = sym new ∙ old.0 in cc)
    | inr is ↦ elim is.2 [
      | inl u ↦ absurd (unusual u.0)
      | inr l ↦ made (λ g h. tickets.AllocatesTight size g h (Some (ticket_in grant))) size larger_limit (hs.made + 1) (size_tight size (ticket_in grant)) l.1
    ]
  ])
