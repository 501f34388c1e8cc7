-- Why a request would be refused.
use Rattle.std.proofs.Common.{◌≡◌, ◌↔◌, ℕ, ◌<◌, ◌≤◌, true, false, Option, Some, None, Result, Ok, Err, IfOk, IfErr, IfSome, IsSome, MatchOption, is_some, refl, sym, subst, inl, inr, arith}
use Rattle.std.proofs.lemmas.Bool.{cases_Bool, cases_eq}
use Rattle.offset_allocator.specs.Requests.{blocks_needed}
use Rattle.offset_heaps.specs.declared.place.Granted.{Granted}
use Rattle.offset_heaps.specs.declared.refusal.Refusal.{Refusal}
use Rattle.offset_heaps.specs.declared.refusal.Refusal.TheVariants.{Empty, TooLarge, Full, Memory}
use Rattle.offset_heaps.specs.Asking.{IsServedBy, IsWhyNone}
use Rattle.offset_heaps.specs.Heaps.{Heaps, IsForRoom, IsNext, IsSpareLarger, IsSpareUsual, IsUsual, IsWhyBy, MayEverFit, MustRaiseIn, heap_at, last_realm}
use Rattle.offset_heaps.proofs.Finders.{IsFinder}

-- ---- why no heap is made
module _ (size : ℕ) (hs : Heaps) where
  pub why_usual : (s : Option ℕ) (r : Option Refusal) → IsUsual size hs
      → MatchOption s ((k : ℕ) → IsSpareUsual size k hs → ⊥) (λ k. IsSpareUsual size k hs × ((j : ℕ) → j < k → IsSpareUsual size j hs → ⊥))
      → IfSome r (λ why. (why ≡ Full) × (IsSome s → hs.made ≡ last_realm)) → (r ≡ None → IsSome s × (hs.made < last_realm)) → IsWhyNone size hs r
  why_usual None None usual first full left = absurd (let no = (left refl).0 in cc)
  why_usual None (Some why) usual first full left =
      subst (λ w. IsWhyNone size hs (Some w)) (sym full.0) (inl usual, λ k next. elim next.1 [ inl a ↦ first k a.1 | inr b ↦ b.0 usual ])
  why_usual (Some k) None usual first full left = (k, ((left refl).1, inl (usual, first.0, first.1)))
  why_usual (Some k) (Some why) usual first full left =
      subst (λ w. IsWhyNone size hs (Some w)) (sym full.0) (inl usual, λ j next. let all = full.1 refl in let below = next.0 in omega arith)

  pub why_larger : (s : Option ℕ) (r : Option Refusal) → (IsUsual size hs → ⊥) → 1 ≤ hs.limits.most_larger
      → MatchOption s ((k : ℕ) → IsSpareLarger k hs → ⊥) (λ k. IsSpareLarger k hs × ((j : ℕ) → j < k → IsSpareLarger j hs → ⊥))
      → IfSome r (λ why. (why ≡ Full) × (IsSome s → hs.made ≡ last_realm)) → (r ≡ None → IsSome s × (hs.made < last_realm)) → IsWhyNone size hs r
  why_larger None None unusual some first full left = absurd (let no = (left refl).0 in cc)
  why_larger None (Some why) unusual some first full left =
      subst (λ w. IsWhyNone size hs (Some w)) (sym full.0) (inr some, λ k next. elim next.1 [ inl a ↦ unusual a.0 | inr b ↦ first k b.1 ])
  why_larger (Some k) None unusual some first full left = (k, ((left refl).1, inr (unusual, first.0, first.1)))
  why_larger (Some k) (Some why) unusual some first full left =
      subst (λ w. IsWhyNone size hs (Some w)) (sym full.0) (inr some, λ j next. let all = full.1 refl in let below = next.0 in omega arith)

-- what is made for a request may be large enough for it
next_fits : (units k : ℕ) (hs : Heaps) → IsNext units k hs → MayEverFit units hs
next_fits units k hs next = elim next.1 [
  | inl usual ↦ inl usual.0
  | inr larger ↦ let from = larger.1.0 in let to = larger.1.1 in inr (omega arith)
]

module _ {NoneServes : Heaps → Type 0} {FirstServes : ℕ → Heaps → Type 0} (f : IsFinder NoneServes FirstServes) (size align : ℕ) (hs : Heaps) where
  abbrev Why : Refusal → Type 0
  Why r = IsWhyBy NoneServes FirstServes size align hs r

  -- ---- a request has one reason at most
  pub one_reason : (r s : Refusal) → Why r → Why s → r ≡ s
  one_reason Empty Empty a b = refl
  one_reason Empty TooLarge a b = absurd (omega (arith, a, b.0.0))
  one_reason Empty Full a b = absurd (omega (arith, a, b.0.0))
  one_reason Empty Memory a (inl b) = absurd (omega (arith, a, b.0.0))
  one_reason Empty Memory a (inr b) = absurd (omega (arith, a, b.0))
  one_reason TooLarge TooLarge a b = refl
  one_reason TooLarge Full a b = absurd (a.1 b.1)
  one_reason TooLarge Memory a (inl b) = absurd (a.1 (next_fits size b.1.0 hs b.1.1))
  one_reason TooLarge Memory a (inr b) = absurd (f.apart b.1.0 hs a.0.1 b.1.1)
  one_reason Full Full a b = refl
  one_reason Full Memory a (inl b) = absurd (a.2 b.1.0 b.1.1)
  one_reason Full Memory a (inr b) = absurd (f.apart b.1.0 hs a.0.1 b.1.1)
  one_reason Memory Memory a b = refl
  one_reason TooLarge Empty a b = absurd (omega (arith, a.0.0, b))
  one_reason Full Empty a b = absurd (omega (arith, a.0.0, b))
  one_reason Full TooLarge a b = absurd (b.1 a.1)
  one_reason Memory Empty (inl a) b = absurd (omega (arith, a.0.0, b))
  one_reason Memory Empty (inr a) b = absurd (omega (arith, a.0, b))
  one_reason Memory TooLarge (inl a) b = absurd (b.1 (next_fits size a.1.0 hs a.1.1))
  one_reason Memory TooLarge (inr a) b = absurd (f.apart a.1.0 hs b.0.1 a.1.1)
  one_reason Memory Full (inl a) b = absurd (b.2 a.1.0 a.1.1)
  one_reason Memory Full (inr a) b = absurd (f.apart a.1.0 hs b.0.1 a.1.1)

  -- where a heap serves it, none but memory, for more nodes of the first
  pub first_memory : (k : ℕ) (r : Refusal) → 1 ≤ size → FirstServes k hs → Why r → (r ≡ Memory) × MustRaiseIn hs.limits k (blocks_needed align) (heap_at k hs)
  first_memory k Empty some first why = absurd (omega (arith, some, why))
  first_memory k TooLarge some first why = absurd (f.apart k hs why.0.1 first)
  first_memory k Full some first why = absurd (f.apart k hs why.0.1 first)
  first_memory k Memory some first (inl why) = absurd (f.apart k hs why.0.1 first)
  first_memory k Memory some first (inr why) = (refl, subst (λ j. MustRaiseIn hs.limits j (blocks_needed align) (heap_at j hs)) (f.one why.1.0 k hs why.1.1 first) why.1.2)

  -- and where another heap may be made, no reason but its memory
  pub next_memory : (k : ℕ) (r : Refusal) → 1 ≤ size → IsNext size k hs → Why r → r ≡ Memory
  next_memory k Empty some next why = absurd (omega (arith, some, why))
  next_memory k TooLarge some next why = absurd (why.1 (next_fits size k hs next))
  next_memory k Full some next why = absurd (why.2 k next)
  next_memory k Memory some next why = refl

  -- what is granted is refused for nothing but memory
  pub refused : (why : Refusal) (g : Granted) → (size ≡ 0 → ⊥) → Why why → (why ≡ Memory → ⊥) → (g.is_new ≡ false → FirstServes g.place.heap hs) → (g.is_new ≡ true → IsNext size g.place.heap hs) → ⊥
  refused why g some w other found made =
      let one : 1 ≤ size = elim (cases_eq size 0) [ inl e ↦ absurd (some e) | inr d ↦ omega (arith, d) ] in
      elim (cases_Bool g.is_new) [
        | inl e ↦ other (next_memory g.place.heap why one (made e) w)
        | inr e ↦ other (first_memory g.place.heap why one (found e) w).0
      ]

  -- ---- when it is for room
  pub no_room : (r : Result Granted Refusal) → (size ≡ 0 → r ≡ Err Empty) → IfErr r (IsWhyBy NoneServes FirstServes size align hs) → IfOk r (λ g. g.is_new ≡ false → FirstServes g.place.heap hs)
      → IfOk r (λ g. g.is_new ≡ true → NoneServes hs × IsNext size g.place.heap hs) → IsForRoom r ↔ ((1 ≤ size) × NoneServes hs × ((k : ℕ) → IsNext size k hs → ⊥))
  no_room (Err Full) empty why found made = (λ e. (why.0.0, why.0.1, why.2), λ h. inl refl)
  no_room (Err TooLarge) empty why found made = (λ e. (why.0.0, why.0.1, λ k next. why.1 (next_fits size k hs next)), λ h. inr refl)
  no_room (Err Empty) empty why found made = (λ e. elim e [ inl e ↦ absurd (cc) | inr e ↦ absurd (cc) ], λ h. absurd (let some = h.0 in omega (arith, why)))
  no_room (Err Memory) empty (inl why) found made = (λ e. elim e [ inl e ↦ absurd (cc) | inr e ↦ absurd (cc) ], λ h. absurd (h.2 why.1.0 why.1.1))
  no_room (Err Memory) empty (inr why) found made = (λ e. elim e [ inl e ↦ absurd (cc) | inr e ↦ absurd (cc) ], λ h. absurd (f.apart why.1.0 hs h.1 why.1.1))
  no_room (Ok g) empty why found made = (
    λ e. elim e [ inl e ↦ absurd (cc) | inr e ↦ absurd (cc) ],
    λ h. elim (cases_Bool g.is_new) [ inl e ↦ absurd (h.2 g.place.heap (made e).1) | inr e ↦ absurd (f.apart g.place.heap hs h.1 (found e)) ],
  )

  -- ---- what would be answered
  pub served : (r : Option ℕ) → 1 ≤ size → MatchOption r (NoneServes hs) (λ k. FirstServes k hs) → is_some r ≡ true → IsServedBy NoneServes FirstServes size hs
  served None some h e = absurd (cc)
  served (Some k) some h e = (some, inl (k, h))

  pub unserved : (r : Option ℕ) → MatchOption r (NoneServes hs) (λ k. FirstServes k hs) → is_some r ≡ false → NoneServes hs
  unserved None h e = h
  unserved (Some k) h e = absurd (cc)

  pub answered : (r : Option Refusal) → 1 ≤ size → NoneServes hs → IsWhyNone size hs r → MatchOption r (IsServedBy NoneServes FirstServes size hs) (λ w. Why w × (w ≡ Memory → ⊥))
  answered None some none why = (some, inr ((some, none), why))
  answered (Some Empty) some none why = absurd why
  answered (Some TooLarge) some none why = (((some, none), why), λ e. cc)
  answered (Some Full) some none why = (((some, none), why.0, why.1), λ e. cc)
  answered (Some Memory) some none why = absurd why
