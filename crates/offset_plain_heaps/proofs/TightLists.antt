-- When the plain machine grants a tight request.
use Rattle.std.proofs.Common.{◌≡◌, ℕ, ◌+◌, ◌≤◌, length, true, false, not, Option, Some, None, is_some, nat_le, if◌then◌else◌, refl, sym, ap, ◌∙◌, inl, inr, arith}
use Rattle.std.proofs.lemmas.Bool.{cases_lt, false≢true, le-leb, lt-leb}
use Rattle.std.specs.Option.{option_or}
use Rattle.offset_allocator.specs.{Requests.blocks_needed, Requests.units_needed, Tight.CanHold, Tight.HasBlockFor, View.View, View.padding_to}
use Rattle.offset_allocator.specs.View as view
use Rattle.offset_script.specs.Agreement.{HasBlocksOf}
use Rattle.offset_script.specs.Machine.{State, Place, chosen_place, is_short_of}
use Rattle.offset_script.specs.Machine as machine
use Rattle.offset_script.proofs.{Agreed.has_room, Agreed.labelled, Chosen.named_place, Well.IsWell}
use Rattle.offset_calls.specs.Calls.{Answer, step}
use Rattle.offset_calls.specs.PlainLists.{is_no}
use Rattle.offset_calls.specs.Tight.{allocate_tight, holding_place, request_tight}
use Rattle.offset_calls.specs.declared.calls.Call.TheVariants as call
use Rattle.offset_calls.proofs.Filled.{held_spot, held_there, there, tight_agrees}

tight_is : (s : State) (n align : ℕ) → 1 ≤ align → allocate_tight n align s ≡ request_tight s (blocks_needed align) (units_needed n align) n align
tight_is s n align some = elim (cases_lt 1 align) [
  | inl l ↦ let b : blocks_needed align ≡ 2 = omega (arith, l) in rw (b, lt-leb align 1 l) refl
  | inr m ↦
      let b : blocks_needed align ≡ 1 = omega (arith, m, some) in
      let u : units_needed n align ≡ n = omega (arith, m, some) in
      rw (b, u, le-leb align 1 m) refl
]

-- a request that some block holds
held_answer : (s : State) (b needed n align : ℕ) → is_short_of b s ≡ false → is_some (holding_place n align 0 s.blocks) ≡ true → is_no (Answer (request_tight s b needed n align).answer) ≡ false
held_answer s b needed n align room held = go (chosen_place needed s.blocks) (holding_place n align 0 s.blocks) held room
  where
    go : (c h : Option Place) → is_some h ≡ true → is_short_of b s ≡ false
        → is_no (Answer (if is_short_of b s then machine.returns_only s machine.Refused else machine.grant_or_refuse s n (padding_to align) (option_or c h)).answer) ≡ false
    go c None e r = absurd (false≢true e)
    go None (Some q) e r = rw r refl
    go (Some p) (Some q) e r = rw r refl

module _ (v : View) (kept_name : ℕ → Option ℕ) (s : State) (w : view.IsWellFormed v) (ws : IsWell s) (g : HasBlocksOf v kept_name s) (n align : ℕ) (some : 1 ≤ align) where
  pub block_for : (q : Place) → holding_place n align 0 s.blocks ≡ Some q → HasBlockFor n align v
  block_for q e =
      let r = held_spot v w g.labels (labelled v kept_name s w ws g) n align q (sym (ap (holding_place n align 0) g.state) ∙ e) in
      (named_place r.0, there v w g.labels (labelled v kept_name s w ws g) n align r.0 r.1, ap not r.3, r.4)

  pub block_found : HasBlockFor n align v → is_some (holding_place n align 0 s.blocks) ≡ true
  block_found b = ap (λ bs. is_some (holding_place n align 0 bs)) g.state ∙ held_there v w g.labels (labelled v kept_name s w ws g) n align b.0 b.1 b.2 b.3

  pub tight_grants : CanHold n align v → is_no (step (call.AllocateTightAligned n align) s).reply ≡ false
  tight_grants can =
      ap (λ (o : machine.Outcome). is_no (Answer o.answer)) (tight_is s n align some)
      ∙ held_answer s (blocks_needed align) (units_needed n align) n align (has_room v kept_name s w ws g (blocks_needed align) can.0) (block_found can.1)

  pub tight_refuses : (CanHold n align v → ⊥) → is_no (step (call.AllocateTightAligned n align) s).reply ≡ true
  tight_refuses none = ap (λ a. is_no (Answer a)) (tight_agrees v kept_name s w ws g n align some v w None (none, refl)).answer

-- under a larger limit a grant is the same
tight_under : (s : State) (l m b needed n align : ℕ) (k o : ℕ) → l ≤ m → (request_tight (record s { limit = l }) b needed n align).answer ≡ machine.Grant k o
    → (request_tight (record s { limit = m }) b needed n align).answer ≡ machine.Grant k o
tight_under s l m b needed n align k o most e = elim (cases_lt (length s.blocks + b) l) [
  | inl lt ↦ sym (same (option_or (chosen_place needed s.blocks) (holding_place n align 0 s.blocks)) (lt-leb l (length s.blocks + b) lt) (lt-leb m (length s.blocks + b) (omega (arith, lt, most)))) ∙ e
  | inr full ↦ absurd (let no : machine.Refused ≡ machine.Grant k o = sym (short (le-leb l (length s.blocks + b) full)) ∙ e in cc)
]
  where
    short : nat_le l (length s.blocks + b) ≡ true → (request_tight (record s { limit = l }) b needed n align).answer ≡ machine.Refused
    short h = rw h refl

    same : (p : Option Place) → nat_le l (length s.blocks + b) ≡ false → nat_le m (length s.blocks + b) ≡ false
        → (if nat_le l (length s.blocks + b) then machine.returns_only (record s { limit = l }) machine.Refused else machine.grant_or_refuse (record s { limit = l }) n (padding_to align) p).answer
        ≡ (if nat_le m (length s.blocks + b) then machine.returns_only (record s { limit = m }) machine.Refused else machine.grant_or_refuse (record s { limit = m }) n (padding_to align) p).answer
    same None h h' = rw (h, h') refl
    same (Some p) h h' = rw (h, h') refl

pub tight_at : (s : State) (l m n align : ℕ) (k o : ℕ) → 1 ≤ align → l ≤ m → (step (call.AllocateTightAligned n align) (record s { limit = l })).reply ≡ Answer (machine.Grant k o)
    → (step (call.AllocateTightAligned n align) (record s { limit = m })).reply ≡ Answer (machine.Grant k o)
tight_at s l m n align k o some most e = ap Answer (ap (λ (o : machine.Outcome). o.answer) (tight_is (record s { limit = m }) n align some)
    ∙ tight_under s l m (blocks_needed align) (units_needed n align) n align k o most (ap (λ (o : machine.Outcome). o.answer) (sym (tight_is (record s { limit = l }) n align some)) ∙ answer_of e))
  where
    answer_of : {a b : machine.Answer} → Answer a ≡ Answer b → a ≡ b
    answer_of e = cc
