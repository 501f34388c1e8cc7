-- What compacting all heaps leaves, and the moves that a closure is called with.
use Rattle.std.proofs.Common.{◌≡◌, ℕ, suc, ◌+◌, ◌*◌, ◌<◌, ◌≤◌, Bool, true, false, not, ◌&&◌, ◌||◌, nat_lt, inl, inr, eq-eqb, ne_eqb, List, [], ◌∷◌, ◌++◌, Option, Some, None, length, drop, nat_eq, option_map, if◌then◌else◌, refl, sym, ap, subst, ◌∙◌, arith}
use Rattle.std.proofs.Math.Seq.{drop-cons}
use Rattle.std.specs.List.{FoldsTo}
use Rattle.offset_allocator.specs.{Moving.Compacting.Move, Ranges.Range, View.View}
use Rattle.offset_guarded.specs.Guard.{Guard, Ticket}
use Rattle.offset_guarded.specs.Guard as guarded
use Rattle.std.proofs.lemmas.Bool.{cases_eq, cases_lt, le-ltb, lt-ltb}
use Rattle.offset_allocator.specs.Moving.BySteps.{CompactsBy, run_by, used_up}
use Rattle.offset_heaps.specs.Changing.{CompactsAll, CompactsIn, CompactsSlot, KeepsSizes, can_compact, can_slide, moves_from, moves_in, numbered}
use Rattle.offset_heaps.specs.Places.{ticket_of}
use Rattle.offset_heaps.specs.Heaps.{Heaps, heap_at, range_in, slot}

-- ---- whether a heap can be compacted
or_true : (b : Bool) → (b || true) ≡ true
or_true true = refl
or_true false = refl

some_length : {A : Type 0} (xs : List A) → (xs ≡ [] → ⊥) → 0 < length xs
some_length [] some = absurd (some refl)
some_length (x ∷ xs) some = omega arith

no_length : {A : Type 0} (xs : List A) → length xs ≡ 0 → xs ≡ []
no_length [] e = refl
no_length (x ∷ xs) e = absurd (omega (arith, e))

slides_is : (s : ℕ) (v w : View) (done : Bool) → CompactsBy s v w done → done ≡ can_slide s v (run_by s v.blocks)
slides_is s v w true (inl e) = sym (ap (can_slide s v) e.0)
slides_is s v w true (inr e) = elim e.0 [
  | inl l ↦ rw (lt-ltb (length v.blocks + 1) v.max_allocs l) (sym (or_true (nat_eq (length (run_by s v.blocks)) 0)))
  | inr used ↦
      rw (lt-ltb 0 (length (used_up s (run_by s v.blocks))) (some_length (used_up s (run_by s v.blocks)) used))
      (sym (ap (λ (b : Bool). nat_eq (length (run_by s v.blocks)) 0 || b) (or_true (nat_lt (length v.blocks + 1) v.max_allocs)) ∙ or_true (nat_eq (length (run_by s v.blocks)) 0)))
]
slides_is s v w false e =
    let full : v.max_allocs ≤ length v.blocks + 1 = elim (cases_lt (length v.blocks + 1) v.max_allocs) [ inl l ↦ absurd (e.1 (inl l)) | inr past ↦ past ] in
    let none : length (used_up s (run_by s v.blocks)) ≤ 0 =
    elim (cases_lt 0 (length (used_up s (run_by s v.blocks)))) [ inl l ↦ absurd (e.1 (inr (λ e. omega (arith, l, ap length e)))) | inr past ↦ past ] in
    rw (ne_eqb (length (run_by s v.blocks)) 0 (λ z. e.0 (no_length (run_by s v.blocks) z)), le-ltb (length v.blocks + 1) v.max_allocs full, le-ltb 0 (length (used_up s (run_by s v.blocks))) none) refl

pub done_is : (g h : Guard) (done : Bool) → (1 ≤ g.step → CompactsBy g.step g.space h.space done) → (g.step ≡ 0 → (done ≡ false) × (h ≡ g)) → done ≡ can_compact g
done_is g h done step none = elim (cases_eq g.step 0) [
  | inl e ↦ (none e).0 ∙ sym (ap (λ (b : Bool). not b && can_slide g.step g.space (run_by g.step g.space.blocks)) (eq-eqb g.step 0 e))
  | inr d ↦
      slides_is g.step g.space h.space done (step (omega (arith, d)))
      ∙ sym (ap (λ (b : Bool). not b && can_slide g.step g.space (run_by g.step g.space.blocks)) (ne_eqb g.step 0 d))
]

pub compacts : (g h : Guard) (done : Bool) → done ≡ can_compact g → (1 ≤ g.step → CompactsBy g.step g.space h.space done) → (g.step ≡ 0 → (done ≡ false) × (h ≡ g)) → h ≡ record g { space = h.space }
    → guarded.KeepsSizes g h → guarded.KeepsAlignments g h → h.space.accesses ≤ g.space.accesses + 21 * length g.space.blocks + 40 → CompactsIn g h
compacts g h done is step none serials sizes aligned few = record {
  step = λ some. subst (CompactsBy g.step g.space h.space) is (step some);
  none = λ e. (none e).1;
  serials = serials;
  sizes = sizes;
  aligned = aligned;
  accesses = few;
}

-- ---- what is compacted
-- every place has as many units as it had
abbrev units_in : Option Range → Option ℕ
units_in r = option_map (λ (r : Range). r.size) r

sized_if : (b : Bool) (o q : Option Range) → units_in o ≡ units_in q → units_in (if b then o else None) ≡ units_in (if b then q else None)
sized_if true o q e = e
sized_if false o q e = refl

sized_in : (t : Ticket) (o new : Option Guard) → CompactsSlot o new → units_in (range_in t new) ≡ units_in (range_in t o)
sized_in t None new e = ap (λ q. units_in (range_in t q)) e
sized_in t (Some g) new r = ap (λ q. units_in (range_in t q)) r.1 ∙ r.2.sizes t

pub sizes_compacted : (hs ks : Heaps) → CompactsAll hs ks → KeepsSizes hs ks
sizes_compacted hs ks all p =
    ap (λ r. units_in (if nat_eq p.realm r then range_in (ticket_of p) (heap_at p.heap ks) else None)) (ap (λ (h : Heaps). h.realm) all.rest)
    ∙ sized_if (nat_eq p.realm hs.realm) (range_in (ticket_of p) (heap_at p.heap ks)) (range_in (ticket_of p) (heap_at p.heap hs))
    (sized_in (ticket_of p) (heap_at p.heap hs) (heap_at p.heap ks) (all.heaps p.heap))

-- ---- the moves
-- those of the heap of a number, and of those behind it
pub moves_step : (slots : List (Option Guard)) (k : ℕ) → k < length slots → moves_from k (drop k slots) ≡ numbered k (moves_in (slot k slots)) ++ moves_from (k + 1) (drop (k + 1) slots)
moves_step slots k l =
    let e : suc k ≡ k + 1 = omega arith in
    ap (moves_from k) (drop-cons slots k None l) ∙ ap (λ (j : ℕ). numbered k (moves_in (slot k slots)) ++ moves_from (k + 1) (drop j slots)) e

-- steps one after another
pub folds_append : {F X : Type 0} (R : F → X → F → Type 0) (f g h : F) (xs ys : List X) → FoldsTo R f xs g → FoldsTo R g ys h → FoldsTo R f (xs ++ ys) h
folds_append R f g h [] ys a b = subst (λ z. FoldsTo R z ys h) (sym a) b
folds_append R f g h (x ∷ xs) ys a b = (a.0, a.1, folds_append R a.0 g h xs ys a.2 b)

-- what each step keeps is kept
pub kept_along : {F X : Type 0} (R : F → X → F → Type 0) (P : F → Type 0) → ((f : F) (x : X) (g : F) → R f x g → P f → P g) → (xs : List X) (f g : F) → FoldsTo R f xs g → P f → P g
kept_along R P each [] f g a h = subst P a h
kept_along R P each (x ∷ xs) f g a h = kept_along R P each xs a.0 g a.2 (each f x a.0 a.1 h)

-- steps of a closure that calls another one with a number too: `see` is that one, and each call keeps its place and what it
-- has the number of
pub numbered_steps : {C F N B : Type 0} (R : C → Move → C → Type 0) (Q : F → ℕ × Move → F → Type 0) (see : C → F) (place : C → N) (own : C → B) (number : B → ℕ)
    → ((p : C) (x : Move) (q : C) → R p x q → Q (see p) (number (own p), x) (see q) × (place q ≡ place p) × (own q ≡ own p)) → (xs : List Move) (p q : C) → FoldsTo R p xs q
    → FoldsTo Q (see p) (numbered (number (own p)) xs) (see q) × (place q ≡ place p)
numbered_steps R Q see place own number each [] p q e = (ap see e, ap place (sym e))
numbered_steps R Q see place own number each (x ∷ xs) p q f =
    let one = each p x f.0 f.1 in
    let rest = numbered_steps R Q see place own number each xs f.0 q f.2 in
    ((see f.0, one.0, subst (λ n. FoldsTo Q (see f.0) (numbered (number n) xs) (see q)) one.2 rest.0), rest.1 ∙ one.1)

pub given : {A B : Type 0} → A → (A → B) → B
given a f = f a
