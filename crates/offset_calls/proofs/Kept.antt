-- The numbers of grants by their names, from one call to the next.
use Rattle.offset_calls.proofs.Common.{◌≡◌, ℕ, zero, suc, ◌+◌, ◌-◌, ◌<◌, ◌≤◌, ◌⊎◌, List, [], ◌∷◌, ◌++◌, length, Option, Some, None, nat_eq, if◌then◌else◌, sym, ap, subst, ◌∙◌, inl, inr, arith}
use Rattle.offset_calls.proofs.Common.{slice_set, option_map, eq-eqb, ne_eqb, cases_eq, cases_lt, length-append, add-one, get_or, get_or_past, Handle, View, IsWellFormed, kept_name, IfNamed, IsKept}
use Rattle.offset_calls.proofs.Common.{Call, Reply, Takes, Command, IsTrue, is_valid, leb-true}
use Rattle.std.specs.List.{slice_index}
use Rattle.std.proofs.lemmas.List.{get_or_default, get_or-set_other, get_or-set_same, set_past, length-set}
use Rattle.offset_allocator.specs.{Relations.Splits, Relations.Allocates, Relations.Aligns, Tight.AlignsTight, Moving.Relocating.Relocates, Moving.Relocating.RelocatesAligned}
use Rattle.offset_allocator.specs.AtOffset.{AllocatesAt}
use Rattle.offset_allocator.proofs.{AtOffset.at_grants, Holding.grants_tight, Ranges.split_grants}
use Rattle.offset_script.specs.Steps.{AreLive}
use Rattle.offset_script.proofs.Simulation.{kept_push}
use Rattle.offset_calls.specs.Steps.{AreNumbers}
use Rattle.offset_script.specs.declared.scripts.Command.TheVariants as command
use Rattle.offset_calls.specs.declared.calls.Call.TheVariants as call
use Rattle.offset_script.specs.Machine as machine
use Rattle.offset_script.specs.Steps as script

-- a handle that is kept is among the handles
pub kept_within : (handles : List (Option Handle)) (k x : ℕ) → kept_name handles k ≡ Some x → k ≤ length handles
kept_within handles zero x e = omega arith
kept_within handles (suc k) x e = elim (cases_lt k (length handles)) [
  | inl l ↦ omega (arith, l)
  | inr m ↦ absurd (let none = ap (option_map (λ (h : Handle). h.name)) (get_or_past handles k None m) in cc)
]

-- a number that is looked up by its name is that of a grant with this name
pub number_kept : (handles : List (Option Handle)) (numbers : List ℕ) (k n x y : ℕ) → AreNumbers handles (length handles) numbers → kept_name handles k ≡ Some x → n ≡ slice_index numbers y → y ≡ x
    → kept_name handles n ≡ Some x
number_kept handles numbers k n x y a h e f = subst (λ j. kept_name handles j ≡ Some x) (sym (e ∙ ap (slice_index numbers) f ∙ a.numbered k x (kept_within handles k x h) h)) h

-- no grants were read, and there are none
pub numbers_begin : (handles : List (Option Handle)) (read : ℕ) (numbers : List ℕ) → handles ≡ [] → read ≡ 0 → AreNumbers handles read numbers
numbers_begin handles read numbers none e =
    let nothing : (k x : ℕ) → kept_name handles k ≡ Some x → ⊥ = λ k x h.
    let i = kept_within handles k x h in let l = ap length none in let z : k ≡ 0 = omega arith in let f = subst (λ j. kept_name handles j ≡ Some x) z h in cc in
    record {
      within = omega (arith, e);
      apart = λ j k x h i. absurd (nothing j x h);
      numbered = λ k x l h. absurd (nothing k x h);
    }

module _ (handles : List (Option Handle)) (i : ℕ) (d : Option Handle) (numbers now : List ℕ) (within : i < length handles) (a : AreNumbers handles i numbers) where
  read_at : kept_name handles (i + 1) ≡ option_map (λ (h : Handle). h.name) (get_or handles i d)
  read_at = ap (kept_name handles) (add-one i) ∙ ap (option_map (λ (h : Handle). h.name)) (get_or_default handles i None d within)

  -- one more handle is read, and there is none
  pub read_none : get_or handles i d ≡ None → ((x : ℕ) → slice_index now x ≡ slice_index numbers x) → AreNumbers handles (i + 1) now
  read_none none same =
      let gone : kept_name handles (i + 1) ≡ None = read_at ∙ ap (option_map (λ (h : Handle). h.name)) none in
      record {
        within = omega (arith, within);
        apart = a.apart;
        numbered = λ k x h e. elim (cases_eq k (i + 1)) [
          | inl s ↦ absurd (let f = subst (λ j. kept_name handles j ≡ Some x) s e in cc)
          | inr n ↦ same x ∙ a.numbered k x (omega (arith, h, n)) e
        ];
      }

  -- one more handle is read, and its number is put at its name
  pub read_one : (h : Handle) (y : ℕ) → get_or handles i d ≡ Some h → y ≡ h.name → ((x : ℕ) → slice_index now x ≡ (if nat_eq x y then i + 1 else slice_index numbers x))
      → AreNumbers handles (i + 1) now
  read_one h y is named put =
      let own : kept_name handles (i + 1) ≡ Some y = read_at ∙ ap (option_map (λ (h : Handle). h.name)) is ∙ ap Some (sym named) in
      record {
        within = omega (arith, within);
        apart = a.apart;
        numbered = λ k x l e. elim (cases_eq x y) [
          | inl s ↦ put x ∙ ap (λ b. if b then i + 1 else slice_index numbers x) (eq-eqb x y s) ∙ a.apart (i + 1) k x (own ∙ ap Some (sym s)) e
          | inr n ↦ put x ∙ ap (λ b. if b then i + 1 else slice_index numbers x) (ne_eqb x y n)
              ∙ a.numbered k x (elim (cases_eq k (i + 1)) [ inl s ↦ absurd (n (let f = subst (λ j. kept_name handles j ≡ Some x) s e in cc)) | inr m ↦ omega (arith, l, m) ]) e
        ];
      }

-- a call makes no grant, and no name becomes kept; or it makes one, whose name was not kept
abbrev pub IsNext : List (Option Handle) → List (Option Handle) → Type 0
IsNext hs left = ((length left ≡ length hs) × ((k x : ℕ) → kept_name left k ≡ Some x → kept_name hs k ≡ Some x))
    ⊎ ((h : Handle) × (left ≡ hs ++ Some h ∷ []) × ((k : ℕ) → kept_name hs k ≡ Some h.name → ⊥))

next_same : (hs left : List (Option Handle)) → left ≡ hs → IsNext hs left
next_same hs left e = inl (ap length e, λ k x h. sym (ap (λ l. kept_name l k) e) ∙ h)

-- a handle is removed
kept_before : (hs : List (Option Handle)) (i k x : ℕ) → kept_name (slice_set hs i None) k ≡ Some x → kept_name hs k ≡ Some x
kept_before hs i zero x e = e
kept_before hs i (suc k) x e = elim (cases_eq k i) [
  | inr n ↦ sym (ap (option_map (λ (h : Handle). h.name)) (get_or-set_other hs i k None None n)) ∙ e
  | inl s ↦ elim (cases_lt i (length hs)) [
    | inl l ↦ absurd (let gone = ap (option_map (λ (h : Handle). h.name)) (get_or-set_same hs i None None l) in let f = subst (λ j. kept_name (slice_set hs i None) (suc j) ≡ Some x) s e in cc)
    | inr m ↦ sym (ap (λ l. kept_name l (suc k)) (set_past hs i None m)) ∙ e
  ]
]

next_without : (hs left : List (Option Handle)) (i : ℕ) → left ≡ slice_set hs i None → IsNext hs left
next_without hs left i e = inl (ap length e ∙ length-set hs i None, λ k x h. kept_before hs i k x (sym (ap (λ l. kept_name l k) e) ∙ h))

-- what is so where a name is kept, and where none is
pub either : (o : Option ℕ) (P : ℕ → Type 0) (Q A : Type 0) → ((x : ℕ) → P x → A) → (Q → A) → IfNamed o P Q → A
either None P Q A f g t = g t
either (Some x) P Q A f g t = f x t

module _ (v w : View) (hs left : List (Option Handle)) (before : IsWellFormed v) (after : IsWellFormed w) (live : AreLive v hs) where
  -- the name of a grant was not kept
  not_kept : (needed n : ℕ) (padding_at : ℕ → ℕ) (h : Handle) → Splits needed n padding_at v w h → (k : ℕ) → kept_name hs k ≡ Some h.name → ⊥
  not_kept needed n padding_at h s k e = let none = (split_grants s before after).not_live in let some = live k h.name e in cc

  next_granted : (needed n : ℕ) (padding_at : ℕ → ℕ) (h : Handle) → Splits needed n padding_at v w h → left ≡ hs ++ Some h ∷ [] → IsNext hs left
  next_granted needed n padding_at h s e = inr (h, e, not_kept needed n padding_at h s)

  next_allocated : (n : ℕ) (a : machine.Answer) (r : Option Handle) → Allocates n v w r → IsKept r hs left a → IsNext hs left
  next_allocated n a None t k = next_same hs left k.0
  next_allocated n a (Some h) t k = next_granted _ _ _ h t.1 k.0

  next_aligned : (n align : ℕ) (a : machine.Answer) (r : Option Handle) → Aligns n align v w r → IsKept r hs left a → IsNext hs left
  next_aligned n align a None t k = next_same hs left k.0
  next_aligned n align a (Some h) t k = next_granted _ _ _ h t.1 k.0

  next_tight : (n align : ℕ) → 1 ≤ align → (a : machine.Answer) (r : Option Handle) → AlignsTight n align v w r → IsKept r hs left a → IsNext hs left
  next_tight n align some a None t k = next_same hs left k.0
  next_tight n align some a (Some h) t k = inr (h, k.0, λ j e. let none = (grants_tight n align v w before some (Some h) t).not_live in let kept = live j h.name e in cc)

  next_at : (offset n : ℕ) (a : machine.Answer) (r : Option Handle) → AllocatesAt offset n v w r → IsKept r hs left a → IsNext hs left
  next_at offset n a None t k = next_same hs left k.0
  next_at offset n a (Some h) t k = inr (h, k.0, λ j e. let none = (at_grants offset n v w before (Some h) t).not_live in let kept = live j h.name e in cc)

  next_relocated : (x : ℕ) (a : machine.Answer) (r : Option Handle) → Relocates x v w r → IsKept r hs left a → IsNext hs left
  next_relocated x a None t k = next_same hs left k.0
  next_relocated x a (Some h) t k = next_granted _ _ _ h t.0.1 k.0

  next_relocated_aligned : (x align : ℕ) (a : machine.Answer) (r : Option Handle) → RelocatesAligned x align v w r → IsKept r hs left a → IsNext hs left
  next_relocated_aligned x align a None t k = next_same hs left k.0
  next_relocated_aligned x align a (Some h) t k = next_granted _ _ _ h t.0.1 k.0

  next_command : (c : Command) (a : machine.Answer) → script.Takes c v hs w left a → IsNext hs left
  next_command (command.Alloc n) a t = next_allocated n a t.0 t.1 t.2
  next_command (command.Free k) a t = either (kept_name hs k) _ _ _ (λ x u. next_without hs left (k - 1) u.1) (λ u. next_same hs left u.0.1) t
  next_command (command.Size k) a t = next_same hs left t.0.1
  next_command command.Report a t = next_same hs left t.0.1
  next_command command.Full a t = next_same hs left t.0.1
  next_command command.Reset a t = inl (t.1, λ k x e. absurd (let none = t.2 k in cc))
  next_command (command.Align n align) a t = next_aligned n align a t.0 t.1 t.2
  next_command (command.Extend more) a t = next_same hs left t.2

  pub next_call : (c : Call) (r : Reply) → IsTrue (is_valid c) → Takes c v hs w left r → IsNext hs left
  next_call (call.Command c) r valid t = next_command c t.0 t.1
  next_call (call.Shrink k n) r valid t = either (kept_name hs k) _ _ _ (λ x u. next_same hs left u.2) (λ u. next_same hs left u.0.1) t
  next_call (call.Grow k n) r valid t = either (kept_name hs k) _ _ _ (λ x u. next_same hs left u.2) (λ u. next_same hs left u.0.1) t
  next_call call.Compact r valid t = next_same hs left t.1
  next_call (call.CompactBy n) r valid t = next_same hs left t.1
  next_call (call.CompactWithin n from u m) r valid t = next_same hs left t.1
  next_call (call.Offset k) r valid t = next_same hs left t.0.1
  next_call (call.Refusal n) r valid t = next_same hs left t.0.1
  next_call (call.RefusalAligned n align) r valid t = next_same hs left t.0.1
  next_call (call.AllocateTight n) r valid t = next_tight n 1 (omega arith) t.1 t.0 t.2 t.3
  next_call (call.AllocateTightAligned n align) r valid t = next_tight n align (leb-true 1 align valid) t.1 t.0 t.2 t.3
  next_call (call.AllocateAt offset n) r valid t = next_at offset n t.1 t.0 t.2 t.3
  next_call (call.RefusalTight n) r valid t = next_same hs left t.0.1
  next_call (call.RefusalTightAligned n align) r valid t = next_same hs left t.0.1
  next_call (call.MakeRoom n) r valid t = next_same hs left t.1
  next_call (call.MakeRoomBy n align m) r valid t = next_same hs left t.1
  next_call (call.WouldBegin n align) r valid t = next_same hs left t.0.1
  next_call (call.RoomCost n) r valid t = next_same hs left t.0.1
  next_call (call.RoomCostBy n align m) r valid t = next_same hs left t.0.1
  next_call (call.Relocate k) r valid t = either (kept_name hs k) _ _ _ (λ x u. next_relocated x u.1 u.0 u.2 u.3) (λ u. next_same hs left u.0.1) t
  next_call (call.RelocateAligned k align) r valid t = either (kept_name hs k) _ _ _ (λ x u. next_relocated_aligned x align u.1 u.0 u.2 u.3) (λ u. next_same hs left u.0.1) t.1
  next_call (call.Retract n) r valid t = next_same hs left t.2
  next_call call.FirstLive r valid t = next_same hs left t.0.1
  next_call call.LastLive r valid t = next_same hs left t.0.1
  next_call (call.LiveBefore k) r valid t = next_same hs left t.0.1
  next_call (call.LiveAfter k) r valid t = next_same hs left t.0.1

-- the numbers that were read stay right
pub numbers_next : (hs left : List (Option Handle)) (read : ℕ) (numbers : List ℕ) → IsNext hs left → AreNumbers hs read numbers → AreNumbers left read numbers
numbers_next hs left read numbers (inl r) a = record {
  within = omega (arith, r.0, a.within);
  apart = λ j k x d e. a.apart j k x (r.1 j x d) (r.1 k x e);
  numbered = λ k x l e. a.numbered k x l (r.1 k x e);
}
numbers_next hs left read numbers (inr r) a = record {
  within = omega (arith, a.within, more);
  apart = λ j k x d e. elim (cases_eq j (length hs + 1)) [
    | inl s ↦ elim (cases_eq k (length hs + 1)) [
      | inl t ↦ s ∙ sym t
      | inr t ↦ absurd (r.2 k (old k x t e ∙ sym (own j x s d)))
    ]
    | inr s ↦ elim (cases_eq k (length hs + 1)) [
      | inl t ↦ absurd (r.2 j (old j x s d ∙ sym (own k x t e)))
      | inr t ↦ a.apart j k x (old j x s d) (old k x t e)
    ]
  ];
  numbered = λ k x l e. a.numbered k x l (old k x (λ s. omega (arith, s, l, a.within)) e);
}
  where
    more : length left ≡ length hs + 1
    more = ap length r.1 ∙ length-append hs (Some r.0 ∷ [])

    kept : (k x : ℕ) → kept_name left k ≡ Some x → (if nat_eq k (length hs + 1) then Some r.0.name else kept_name hs k) ≡ Some x
    kept k x e = sym (ap (λ l. kept_name l k) r.1 ∙ kept_push hs r.0 k) ∙ e

    old : (k x : ℕ) → (k ≡ length hs + 1 → ⊥) → kept_name left k ≡ Some x → kept_name hs k ≡ Some x
    old k x n e = sym (ap (λ b. if b then Some r.0.name else kept_name hs k) (ne_eqb k (length hs + 1) n)) ∙ kept k x e

    own : (k x : ℕ) → k ≡ length hs + 1 → kept_name left k ≡ Some x → Some r.0.name ≡ Some x
    own k x s e = sym (ap (λ b. if b then Some r.0.name else kept_name hs k) (eq-eqb k (length hs + 1) s)) ∙ kept k x e
