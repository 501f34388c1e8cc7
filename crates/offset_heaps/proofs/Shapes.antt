-- A heap that was made has the size and the node limit of its kind.
use Rattle.std.proofs.Common.{◌≡◌, ℕ, ◌<◌, ◌≤◌, Some, refl, ap, inl, inr, arith}
use Rattle.offset_allocator.specs.View.{View}
use Rattle.offset_guarded.specs.Answers as tickets
use Rattle.offset_guarded.specs.Guard.{Guard, Ticket}
use Rattle.offset_heaps.specs.declared.limits.Limits.{Limits}
use Rattle.offset_heaps.specs.Heaps.{GrantsNew, IsFirstLimit, IsOfKind, larger_limit, usual_size}
use Rattle.offset_heaps.proofs.Limited.{IsLimited, asks_aligned, asks_tight, kind_kept, raises}

-- a request leaves all units
pub size_aligned : (n align : ℕ) (t : Ticket) (g h : Guard) → tickets.AllocatesAligned n align g h (Some t) → h.space.size ≡ g.space.size
size_aligned n align t g h a = ap (λ (v : View). v.size) (a.step (a.can_grant.0 refl).0).1.view

pub size_tight : (n : ℕ) (t : Ticket) (g h : Guard) → tickets.AllocatesTight n g h (Some t) → h.space.size ≡ g.space.size
size_tight n t g h a = elim (a.step (a.can_hold.0 refl).0) [ inl s ↦ ap (λ (v : View). v.size) s.1.view | inr f ↦ ap (λ (v : View). v.size) f.1.1.3.view ]

-- a heap keeps its kind after its first grant
made_kind : (New : Guard → Guard → Type 0) (limits : Limits) (k n limit realm align : ℕ) (h : Guard) → ((v w : Guard) → New v w → IsLimited v w) → (s : GrantsNew New n limit realm align h) → IsOfKind limits k s.before → IsOfKind limits k h
made_kind New limits k n limit realm align h limited s kind = kind_kept limits k s.by.0 h (raises align s.by.0 h s.by.2).space (kind_kept limits k s.before s.by.0 (limited s.before s.by.0 s.by.1).space kind)

pub kind_usual : (limits : Limits) (k realm size align : ℕ) (t : Ticket) (h : Guard) → k < limits.most → IsFirstLimit limits
    → GrantsNew (λ g h. tickets.AllocatesAligned size 1 g h (Some t)) (usual_size limits k) limits.first_allocs realm align h → IsOfKind limits k h
kind_usual limits k realm size align t h l first s =
    let units = ap (λ (v : View). v.size) s.new.space.view in
    let limit = ap (λ (v : View). v.max_allocs) s.new.space.view in
    made_kind (λ g h. tickets.AllocatesAligned size 1 g h (Some t)) limits k (usual_size limits k) limits.first_allocs realm align h (λ v w. asks_aligned size 1 v w (Some t)) s
    (inl (l, omega (arith, units), (omega (arith, limit), omega (arith, limit, first.1))))

pub kind_larger : (limits : Limits) (k realm size align : ℕ) (t : Ticket) (h : Guard) → limits.most ≤ k → 1 ≤ size
    → GrantsNew (λ g h. tickets.AllocatesTight size g h (Some t)) size larger_limit realm align h → IsOfKind limits k h
kind_larger limits k realm size align t h l some s = made_kind (λ g h. tickets.AllocatesTight size g h (Some t)) limits k size larger_limit realm align h (λ v w. asks_tight size v w (Some t)) s
    (inr (l, let units = ap (λ (v : View). v.size) s.new.space.view in omega (arith, units, some), ap (λ (v : View). v.max_allocs) s.new.space.view))
