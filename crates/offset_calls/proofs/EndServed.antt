-- Calls at the end of the space, with tickets.
use Rattle.offset_calls.proofs.Common.{◌≡◌, ◌≤◌, ℕ, Bool, List, Option, None, Some, IfSome, is_some, option_map, if◌then◌else◌, refl, ap, ◌∙◌, inl, Handle, Ticket, Guard, AreKept, Reply, Answer, Resized}
use Rattle.offset_calls.proofs.Common.{Grants, IsLive, IsSame, KeepsAll, handle_in, kept_name, IfNamed, AreAllTickets, IsStored, TakesTicket, IsNumberOf, handles_of}
use Rattle.offset_allocator.specs.{Reporting.Walking.first_live, Reporting.Walking.last_live, Reporting.Walking.live_before, Reporting.Walking.live_after, Ranges.size_of, Moving.Relocating.Relocates}
use Rattle.offset_allocator.specs.{Moving.Retracting.Retracts, Moving.Relocating.RelocatesAligned}
use Rattle.offset_guarded.specs.Guard.{ticket_at}
use Rattle.offset_guarded.specs.Step.{IsJoined}
use Rattle.offset_script.proofs.Simulation.{if_none, if_some}
use Rattle.offset_calls.proofs.Common.{live_name, range_of, true, false}
use Rattle.offset_calls.specs.declared.calls.LiveRange.{LiveRange}
use Rattle.offset_calls.specs.{Calls.Found, Steps.Finds, Steps.IsKeptSome}
use Rattle.offset_calls.proofs.{Beside.front_kept, Beside.last_kept, Beside.before_kept, Beside.after_kept, Beside.are_serials}
use Rattle.offset_calls.proofs.Tickets.{asked_serves, kept_serials, same_handles, same_ledger, stored, stored_serials, stored_step, live_named_by}
use Rattle.offset_script.specs.Machine as machine
use Rattle.offset_calls.specs.declared.calls.Call.TheVariants as call

-- units off the end
pub retract_serves : (n : ℕ) (g h : Guard) (ts : List Ticket) (done : Bool) (r : Reply) → AreAllTickets g ts → Retracts n g.space h.space done → KeepsAll g h → h ≡ record g { space = h.space }
    → r ≡ (if done then Resized else Answer machine.Refused) → TakesTicket (call.Retract n) g ts h ts r
retract_serves n g h ts done r is t keeps same e = record {
  takes = (done, t, same_handles g h ts (λ u. ap is_some (keeps u)), e);
  all_tickets = same_ledger g h ts is (ap (λ (g : Guard). g.realm) same) (ap (λ (g : Guard). g.given) same);
  grown = inl refl;
  serials = kept_serials (call.Retract n) g h ts r (λ _ cells. refl) same;
  realm = ap (λ (g : Guard). g.realm) same;
  step = ap (λ (g : Guard). g.step) same;
}

-- a second grant for a live ticket
pub relocate_serves : (g h : Guard) (ts us : List Ticket) (t : Ticket) (r : Option Ticket) (a : machine.Answer) (k : ℕ) → AreAllTickets g ts → IsLive t g → IsNumberOf k (Some t) g ts
    → IfSome r (Grants (size_of t.name g.space) g h) → (r ≡ None → IsSame g h) → (r ≡ None → h ≡ record g { space = h.space }) → h.step ≡ g.step → Relocates t.name g.space h.space (option_map handle_in r) → IsStored r ts us a
    → TakesTicket (call.Relocate k) g ts h us (Answer a)
relocate_serves g h ts us t r a k is live number some none cells same step kept =
    let s = stored (size_of t.name g.space) g h ts us r a is some none kept in
    record {
      takes = if_some (kept_name (handles_of g ts) k) t.name _ _ (number ∙ live_named_by t g live) (option_map handle_in r, a, step, s.0, refl);
      all_tickets = s.1;
      grown = s.2;
      serials = stored_serials (size_of t.name g.space) (call.Relocate k) g h ts us r a (λ _ cells. refl) some cells kept;
      realm = s.3;
      step = same;
    }

-- a second grant from a multiple of an alignment on, for a live ticket
pub relocate_aligned_serves : (g h : Guard) (ts us : List Ticket) (t : Ticket) (r : Option Ticket) (a : machine.Answer) (k align : ℕ) → 1 ≤ align → AreAllTickets g ts → IsLive t g → IsNumberOf k (Some t) g ts
    → IfSome r (Grants (size_of t.name g.space) g h) → (r ≡ None → IsSame g h) → (r ≡ None → h ≡ record g { space = h.space }) → IfSome r (λ _. IsJoined g.step align h.step)
    → RelocatesAligned t.name align g.space h.space (option_map handle_in r) → IsStored r ts us a
    → TakesTicket (call.RelocateAligned k align) g ts h us (Answer a)
relocate_aligned_serves g h ts us t r a k align least is live number some none cells joined step kept =
    let s = stored (size_of t.name g.space) g h ts us r a is some none kept in
    record {
      takes = (least, if_some (kept_name (handles_of g ts) k) t.name _ _ (number ∙ live_named_by t g live) (option_map handle_in r, a, step, s.0, refl));
      all_tickets = s.1;
      grown = s.2;
      serials = stored_serials (size_of t.name g.space) (call.RelocateAligned k align) g h ts us r a (λ _ cells. refl) some cells kept;
      realm = s.3;
      step = stored_step align g h ts us r a joined cells kept;
    }

-- a ticket that is not live has no name
pub dead_name : (t : Ticket) (g : Guard) → (IsLive t g → ⊥) → live_name (Some t) g ≡ None
dead_name t g f = go (is_some (range_of t g)) refl
  where
    go : (b : Bool) → is_some (range_of t g) ≡ b → live_name (Some t) g ≡ None
    go true e = absurd (f e)
    go false e = ap (λ (b : Bool). option_map (λ (h : Handle). h.name) (if b then Some (handle_in t) else None)) e

-- there is no live grant of this number
pub relocate_aligned_gone : (g : Guard) (ts : List Ticket) (o : Option Ticket) (k align : ℕ) → 1 ≤ align → AreAllTickets g ts → IsNumberOf k o g ts → live_name o g ≡ None
    → TakesTicket (call.RelocateAligned k align) g ts g ts (Answer machine.Gone)
relocate_aligned_gone g ts o k align least is number none = asked_serves (call.RelocateAligned k align) g ts (Answer machine.Gone) (λ _ cells. refl) (λ s. refl) is
    (least, if_none (kept_name (handles_of g ts) k) _ _ (number ∙ none) ((refl, refl), refl))

-- the range of a ticket
abbrev pub range_at : Ticket → LiveRange
range_at t = record { number = t.serial; offset = t.offset }

-- questions for the live ranges beside one another
module _ (g : Guard) (ts : List Ticket) (is : AreAllTickets g ts) (kept : AreKept g.space (handles_of g ts)) (o : Option Ticket) (r : Reply) (f : r ≡ Found (option_map range_at o)) where
  finds : (h : Option Handle) → IsKeptSome (handles_of g ts) h → o ≡ option_map (λ (h : Handle). ticket_at h g) h → Finds (handles_of g ts) h r
  finds h k e = (_, are_serials g ts h is k, f ∙ ap (λ o. Found (option_map range_at o)) e)

  pub first_serves : o ≡ option_map (λ (h : Handle). ticket_at h g) (first_live g.space) → TakesTicket call.FirstLive g ts g ts r
  first_serves e = asked_serves call.FirstLive g ts r (λ _ cells. refl) (λ s. refl) is ((refl, refl), finds _ (front_kept g.space (handles_of g ts) kept) e)

  pub last_serves : o ≡ option_map (λ (h : Handle). ticket_at h g) (last_live g.space) → TakesTicket call.LastLive g ts g ts r
  last_serves e = asked_serves call.LastLive g ts r (λ _ cells. refl) (λ s. refl) is ((refl, refl), finds _ (last_kept g.space (handles_of g ts) kept) e)

  module _ (t : Ticket) (k : ℕ) (live : IsLive t g) (number : IsNumberOf k (Some t) g ts) where
    of_live : (P : ℕ → Type 0) (Q : Type 0) → P t.name → IfNamed (kept_name (handles_of g ts) k) P Q
    of_live P Q p = if_some (kept_name (handles_of g ts) k) t.name P Q (number ∙ live_named_by t g live) p

    pub before_serves : o ≡ option_map (λ (h : Handle). ticket_at h g) (live_before t.name g.space) → TakesTicket (call.LiveBefore k) g ts g ts r
    before_serves e = asked_serves (call.LiveBefore k) g ts r (λ _ cells. refl) (λ s. refl) is
        ((refl, refl), of_live (λ x. Finds (handles_of g ts) (live_before x g.space) r) _ (finds _ (before_kept t.name g.space (handles_of g ts) kept) e))

    pub after_serves : o ≡ option_map (λ (h : Handle). ticket_at h g) (live_after t.name g.space) → TakesTicket (call.LiveAfter k) g ts g ts r
    after_serves e = asked_serves (call.LiveAfter k) g ts r (λ _ cells. refl) (λ s. refl) is
        ((refl, refl), of_live (λ x. Finds (handles_of g ts) (live_after x g.space) r) _ (finds _ (after_kept t.name g.space (handles_of g ts) kept) e))
