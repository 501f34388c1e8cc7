-- Heaps whose space becomes larger in place.
use Rattle.std.proofs.Common.{◌≡◌, ◌↔◌, ℕ, suc, ◌+◌, ◌<◌, ◌≤◌, ◌⊎◌, Bool, true, false, List, [], ◌∷◌, ◌++◌, Some, None, length, length-append, reverse, if◌then◌else◌, refl, sym, ap, subst, ◌∙◌, inl, inr, arith}
use Rattle.std.proofs.lemmas.Bool.{cases_Bool}
use Rattle.offset_allocator.specs.{Relations.CanExtend, Reporting.Listing.Placed, Reporting.Listing.listing, Reporting.Listing.placed, Reporting.Listing.placed_at, Requests.AdmitsBlocks, View.Block, View.Handle, View.IsWellFormed, View.View, View.units}
use Rattle.offset_allocator.proofs.Reporting.Nearby.{back}
use Rattle.offset_guarded.specs.Guard.{Guard}
use Rattle.offset_guarded.specs.Guard as guarded
use Rattle.offset_guarded.specs.Answers as tickets
use Rattle.offset_guarded.proofs.Twins.{range_twin, same_twin}
use Rattle.offset_heaps.specs.declared.limits.Limits.{Limits}
use Rattle.offset_heaps.specs.Extending.{CanExtendIn, EndsFree, ExtendsIf, MustExtend}
use Rattle.offset_heaps.specs.Heaps.{IsOfKind, IsRaisedWhere, raised_limit, top_limit}
use Rattle.offset_heaps.proofs.{Limited.extends, Limited.kind_kept, Limited.same_limited, Raising.where_kind, Raising.where_same, Rooms.admitted, Rooms.top_above, Rooms.top_usual}

-- ---- whether the last block is free
abbrev LastFree : List Block → Type 0
LastFree bs = (before : List Block) × (last : Block) × (bs ≡ before ++ last ∷ []) × (last.used ≡ false)

last_or : (bs : List Block) → LastFree bs ⊎ (LastFree bs → ⊥)
last_or [] = inr (λ f. let e = ap length f.2 ∙ length-append f.0 (f.1 ∷ []) in omega (arith, e))
last_or (b ∷ []) = elim (cases_Bool b.used) [
  | inr free ↦ inl ([], b, refl, free)
  | inl used ↦ inr (λ f. go used f.0 f.1 f.2 f.3)
]
  where
    go : b.used ≡ true → (before : List Block) (last : Block) → b ∷ [] ≡ before ++ last ∷ [] → last.used ≡ false → ⊥
    go used [] last e free = let same : b ≡ last = cc in let no : true ≡ false = sym used ∙ ap (λ (z : Block). z.used) same ∙ free in cc
    go used (x ∷ xs) last e free = let n = ap length e ∙ ap suc (length-append xs (last ∷ [])) in omega (arith, n)
last_or (b ∷ c ∷ cs) = elim (last_or (c ∷ cs)) [
  | inl f ↦ inl (b ∷ f.0, f.1, ap (λ (bs : List Block). b ∷ bs) f.2, f.3)
  | inr n ↦ inr (λ f. go n f.0 f.1 f.2 f.3)
]
  where
    go : (LastFree (c ∷ cs) → ⊥) → (before : List Block) (last : Block) → b ∷ c ∷ cs ≡ before ++ last ∷ [] → last.used ≡ false → ⊥
    go n [] last e free = let l = ap length e in omega (arith, l)
    go n (x ∷ xs) last e free = n (xs, last, (let t : c ∷ cs ≡ xs ++ last ∷ [] = cc in t), free)

-- the block that an iterator over the blocks yields first says it
pub ends_free : (v : View) (p : Placed) (rest : List Placed) → listing v ≡ p ∷ rest → (p.handle ≡ None) ↔ EndsFree v
ends_free v p rest first = (
  λ none. elim (last_or v.blocks) [
    | inl f ↦ f
    | inr n ↦ absurd (snoc v.blocks n none first)
  ],
  λ f.
      let e : p ∷ rest ≡ placed_at (units f.0) f.1 ∷ reverse (placed 0 f.0) = sym first ∙ ap (λ bs. reverse (placed 0 bs)) f.2 ∙ back f.0 f.1 in
      let here : p ≡ placed_at (units f.0) f.1 = cc in
      ap (λ (z : Placed). z.handle) here ∙ ap (λ (b : Bool). if b then Some (record { name = f.1.name; offset = units f.0 }) else None) f.3,
)
  where
    some_used : (b : Bool) (h : Handle) → (if b then Some h else None) ≡ None → b ≡ false
    some_used true h e = cc
    some_used false h e = refl

    split : (b : Block) (bs : List Block) → (before : List Block) × (last : Block) × (b ∷ bs ≡ before ++ last ∷ [])
    split b [] = ([], b, refl)
    split b (c ∷ cs) = let s = split c cs in (b ∷ s.0, s.1, ap (λ (bs : List Block). b ∷ bs) s.2)

    snoc : (bs : List Block) → (LastFree bs → ⊥) → p.handle ≡ None → reverse (placed 0 bs) ≡ p ∷ rest → ⊥
    snoc [] n none e = absurd (cc)
    snoc (b ∷ bs) n none e =
        let s = split b bs in
        let q : p ∷ rest ≡ placed_at (units s.0) s.1 ∷ reverse (placed 0 s.0) = sym e ∙ ap (λ bs. reverse (placed 0 bs)) s.2 ∙ back s.0 s.1 in
        let here : p ≡ placed_at (units s.0) s.1 = cc in
        n (s.0, s.1, s.2, some_used s.1.used (record { name = s.1.name; offset = units s.0 }) (sym (ap (λ (z : Placed). z.handle) here) ∙ none))

pub ends_none : (v : View) → listing v ≡ [] → EndsFree v → ⊥
ends_none v none f = let e : [] ≡ placed_at (units f.0) f.1 ∷ reverse (placed 0 f.0) = sym none ∙ ap (λ bs. reverse (placed 0 bs)) f.2 ∙ back f.0 f.1 in absurd (cc)

-- ---- whether it can be done
may : (limits : Limits) (k more : ℕ) (g : Guard) → MustExtend limits k more g → (k < limits.most) × (g.space.max_allocs < limits.max_allocs)
may limits k more g must = (must.2.0, must.2.1)

-- a heap whose node limit has to be raised has nodes for a further block under the largest one
pub can_raised : (limits : Limits) (k more : ℕ) (g : Guard) → IsWellFormed g.space → MustExtend limits k more g → g.space.size + more ≤ 4294967295 → CanExtendIn limits k more (Some g)
can_raised limits k more g known must fits = λ _. (fits, inl (omega (arith, top_usual limits k g must.2.0, known.room, must.2.1)))

pub can_extend : (limits : Limits) (k more : ℕ) (g h : Guard) → IsWellFormed g.space → IsOfKind limits k g → g.space.size + more ≤ 4294967295 → IsRaisedWhere (MustExtend limits k more) limits g h
    → (1 ≤ more → CanExtend more h.space) ↔ CanExtendIn limits k more (Some g)
can_extend limits k more g h known kind fits (inl up) =
    let size : h.space.size ≡ g.space.size = ap (λ (z : Guard). z.space.size) up.1 in
    let limit : h.space.max_allocs ≡ raised_limit limits g = ap (λ (z : Guard). z.space.max_allocs) up.1 in
    let blocks : length h.space.blocks ≡ length g.space.blocks = ap (λ (z : Guard). length z.space.blocks) up.1 in (
      λ _. can_raised limits k more g known up.0 fits,
      λ _ _. (omega (arith, fits, size), inl (omega (arith, limit, blocks, known.room, known.few_used, up.0.2.1))),
    )
can_extend limits k more g h known kind fits (inr kept) = (
  λ c some. elim (subst (λ (z : Guard). CanExtend more z.space) kept.1 (c some)).1 [
    | inl l ↦ (fits, inl (omega (arith, l, top_above limits k g kind)))
    | inr free ↦ (fits, inr free)
  ],
  λ c some. subst (λ (z : Guard). CanExtend more z.space) (sym kept.1) (fits, room (c some).1 some),
)
  where
    room : (length g.space.blocks + 1 < top_limit limits k g) ⊎ EndsFree g.space → 1 ≤ more → AdmitsBlocks 1 g.space ⊎ EndsFree g.space
    room (inr free) some = inr free
    room (inl l) some = elim (last_or g.space.blocks) [
      | inl free ↦ inr free
      | inr used ↦ inl (admitted limits k 1 g kind (λ must. kept.0 (some, used, must)) l)
    ]

-- what the step of its space leaves
longer_same : {A : Type 0} (limits : Limits) (k more : ℕ) (f : Guard → A) → ((limit : ℕ) (g : Guard) → f (record g { space = record g.space { max_allocs = limit; accesses = 0 } }) ≡ f g) → (g h : Guard)
    → IsRaisedWhere (MustExtend limits k more) limits g h → f h ≡ f g
longer_same limits k more f same g h raised = where_same (MustExtend limits k more) limits k (may limits k more) f same g h raised

pub extends_if : (limits : Limits) (k more : ℕ) (done : Bool) (g b h : Guard) → IsWellFormed g.space → IsOfKind limits k g → g.space.size + more ≤ 4294967295
    → IsRaisedWhere (MustExtend limits k more) limits g b → tickets.Extends more b h done → ExtendsIf limits k more done g h
extends_if limits k more true g b h known kind fits raised x = record { between = b; raised = raised; by = x }
extends_if limits k more false g b h known kind fits (inl up) x =
    absurd (let e : false ≡ true = x.done.1 ((can_extend limits k more g b known kind fits (inl up)).1 (can_raised limits k more g known up.0 fits)) in cc)
extends_if limits k more false g b h known kind fits (inr stays) x = inr (subst (λ (z : Guard). tickets.Extends more z h false) stays.1 x)

-- where it is refused, or not asked, all is as it was
pub refused_same : (limits : Limits) (k more : ℕ) (g h : Guard) → ExtendsIf limits k more false g h → guarded.IsSame g h
refused_same limits k more g h (inl e) = subst (guarded.IsSame g) (sym e) (refl, record { cells = λ x. refl; given = refl; realm = refl; step = refl })
refused_same limits k more g h (inr x) = x.same refl

pub serials_longer : (limits : Limits) (k more : ℕ) (done : Bool) (g h : Guard) → ExtendsIf limits k more done g h → guarded.KeepsSerials g h
serials_longer limits k more true g h e =
    let s = e.by.serials in
    record {
      cells = λ x. s.cells x ∙ longer_same limits k more (guarded.serial_of x) (λ limit g. refl) g e.between e.raised;
      given = s.given ∙ longer_same limits k more (λ (z : Guard). z.given) (λ limit g. refl) g e.between e.raised;
      realm = s.realm ∙ longer_same limits k more (λ (z : Guard). z.realm) (λ limit g. refl) g e.between e.raised;
      step = s.step ∙ longer_same limits k more (λ (z : Guard). z.step) (λ limit g. refl) g e.between e.raised;
    }
serials_longer limits k more false g h e = (refused_same limits k more g h e).1

-- ---- the heap is of its kind, and keeps its realm
pub kind_longer : (limits : Limits) (k more : ℕ) (done : Bool) (g h : Guard) → ExtendsIf limits k more done g h → IsOfKind limits k g → IsOfKind limits k h
kind_longer limits k more true g h e kind =
    kind_kept limits k e.between h (extends more e.between h true e.by).space (where_kind (MustExtend limits k more) limits k (may limits k more) g e.between e.raised kind)
kind_longer limits k more false g h e kind = kind_kept limits k g h (same_limited g h (refused_same limits k more g h e)).space kind

pub realm_longer : (limits : Limits) (k more : ℕ) (done : Bool) (g h : Guard) → ExtendsIf limits k more done g h → h.realm ≡ g.realm
realm_longer limits k more done g h e = (serials_longer limits k more done g h e).realm

-- every ticket keeps its range, and where it is not done, every later call returns the same for both heaps
pub range_longer : (limits : Limits) (k more : ℕ) (done : Bool) (g h : Guard) → ExtendsIf limits k more done g h → guarded.KeepsAll g h
range_longer limits k more true g h e = λ t. e.by.kept t ∙ longer_same limits k more (guarded.range_of t) (λ limit g. refl) g e.between e.raised
range_longer limits k more false g h e = λ t. range_twin t g h (same_twin g h (refused_same limits k more g h e))
