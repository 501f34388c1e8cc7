-- The same call in the same guarded allocator, with the same tickets, has the same reply, and leaves the same tickets.
use Rattle.offset_calls.proofs.Common.{◌≡◌, ℕ, ◌+◌, ◌-◌, Bool, true, false, ◌⊎◌, List, [], ◌∷◌, ◌++◌, length, Option, Some, None, refl, sym, ap, ap₂, subst, subst₂, ◌∙◌, inl, inr, arith, length-append}
use Rattle.offset_calls.proofs.Common.{length-map, map-append, if◌then◌else◌, View, Handle, IsWellFormed, kept_name, IsKept, Call, Command, Reply, Answer, Takes, Guard, Ticket, handle_in, handle_of, handles_of}
use Rattle.offset_calls.proofs.{Common.meant, Common.AreInOrder, Common.IsGrown, Common.AreAllTickets, Common.TakesTicket, Decided.takes_decided, Kept.either, Tickets.kept_serial, Tickets.same_ledger}
use Rattle.offset_calls.proofs.Common.{slice_set}
use Rattle.offset_guarded.specs.Guard.{covering, nodes}
use Rattle.offset_calls.specs.Tickets.{AreSerials, IsJoinedBy, IsStepAfter, serials_kept}
use Rattle.offset_guarded.proofs.Divisors.{one_joined}
use Rattle.std.proofs.lemmas.List.{length-set}
use Rattle.offset_allocator.specs.Relations.{SameState}
use Rattle.offset_allocator.proofs.Decided.{last_same}
use Rattle.offset_script.specs.Steps.{AreNamedApart}
use Rattle.offset_script.specs.Steps as script
use Rattle.offset_script.specs.Machine as machine
use Rattle.offset_script.specs.declared.scripts.Command.TheVariants as command
use Rattle.offset_calls.specs.declared.calls.Call.TheVariants as call
use Rattle.offset_calls.specs.declared.guarded.TicketCall.{TicketCall}
use Rattle.offset_calls.specs.Tickets.{AreServed}
use Rattle.offset_guarded.specs.State.{SameGuard}

-- ---- handles
-- as many handles as before, or the one of a grant after them
abbrev AreMore : List (Option Handle) → List (Option Handle) → Type 0
AreMore hs left = (length left ≡ length hs) ⊎ ((a : Handle) × (left ≡ hs ++ Some a ∷ []))

module _ (v w : View) (hs left : List (Option Handle)) where
  same : left ≡ hs → AreMore hs left
  same e = inl (ap length e)

  more : (r : Option Handle) (a : machine.Answer) → IsKept r hs left a → AreMore hs left
  more None a k = same k.0
  more (Some h) a k = inr (h, k.0)

  more_command : (c : Command) (a : machine.Answer) → script.Takes c v hs w left a → AreMore hs left
  more_command (command.Alloc n) a t = more t.0 a t.2
  more_command (command.Free i) a t = either (kept_name hs i) _ _ _ (λ x u. inl (ap length u.1 ∙ length-set hs (i - 1) None)) (λ u. same u.0.1) t
  more_command (command.Size i) a t = same t.0.1
  more_command command.Report a t = same t.0.1
  more_command command.Full a t = same t.0.1
  more_command command.Reset a t = inl t.1
  more_command (command.Align n align) a t = more t.0 a t.2
  more_command (command.Extend more) a t = same t.2

  more_call : (c : Call) (r : Reply) → Takes c v hs w left r → AreMore hs left
  more_call (call.Command c) r t = more_command c t.0 t.1
  more_call (call.Shrink i n) r t = either (kept_name hs i) _ _ _ (λ x u. same u.2) (λ u. same u.0.1) t
  more_call (call.Grow i n) r t = either (kept_name hs i) _ _ _ (λ x u. same u.2) (λ u. same u.0.1) t
  more_call call.Compact r t = same t.1
  more_call (call.CompactBy n) r t = same t.1
  more_call (call.CompactWithin n from u k) r t = same t.1
  more_call (call.Offset i) r t = same t.0.1
  more_call (call.Refusal n) r t = same t.0.1
  more_call (call.RefusalAligned n align) r t = same t.0.1
  more_call (call.AllocateTight n) r t = more t.0 t.1 t.3
  more_call (call.AllocateTightAligned n align) r t = more t.0 t.1 t.3
  more_call (call.AllocateAt offset n) r t = more t.0 t.1 t.3
  more_call (call.RefusalTight n) r t = same t.0.1
  more_call (call.RefusalTightAligned n align) r t = same t.0.1
  more_call (call.MakeRoom n) r t = same t.1
  more_call (call.MakeRoomBy n align m) r t = same t.1
  more_call (call.WouldBegin n align) r t = same t.0.1
  more_call (call.RoomCost n) r t = same t.0.1
  more_call (call.RoomCostBy n align m) r t = same t.0.1
  more_call (call.Relocate i) r t = either (kept_name hs i) _ _ _ (λ x u. more u.0 u.1 u.3) (λ u. same u.0.1) t
  more_call (call.RelocateAligned i align) r t = either (kept_name hs i) _ _ _ (λ x u. more u.0 u.1 u.3) (λ u. same u.0.1) t.1
  more_call (call.Retract n) r t = same t.2
  more_call call.FirstLive r t = same t.0.1
  more_call call.LastLive r t = same t.0.1
  more_call (call.LiveBefore i) r t = same t.0.1
  more_call (call.LiveAfter i) r t = same t.0.1

-- ---- tickets
last_realm : (realm n : ℕ) (ts : List Ticket) (t : Ticket) → AreInOrder realm n (ts ++ t ∷ []) → t.realm ≡ realm
last_realm realm n [] t o = o.1
last_realm realm n (x ∷ ts) t o = last_realm realm (n + 1) ts t o.2

-- the handle of a live ticket has its name
handle_name : (h : Guard) (t : Ticket) (a : Handle) → handle_of h t ≡ Some a → t.name ≡ a.name
handle_name h t a e = go _ e
  where
    go : (b : Bool) → (if b then Some (handle_in t) else None) ≡ Some a → t.name ≡ a.name
    go true e = let q : handle_in t ≡ a = cc in ap (λ (x : Handle). x.name) q
    go false e = absurd (cc)

-- of the last ticket, after one more handle
last_name : (h : Guard) (ts : List Ticket) (t : Ticket) (hs : List (Option Handle)) (a : Handle) → handles_of h (ts ++ t ∷ []) ≡ hs ++ Some a ∷ [] → t.name ≡ a.name
last_name h ts t hs a e = handle_name h t a (last_same (handles_of h ts) hs (handle_of h t) (Some a) (sym (map-append (handle_of h) ts (t ∷ [])) ∙ e)).0

pub named_apart : (g : Guard) (ts : List Ticket) → AreAllTickets g ts → AreNamedApart (handles_of g ts)
named_apart g ts is j k x d e = sym (kept_serial g ts j x is d) ∙ kept_serial g ts k x is e

-- ---- one step
same_joined : (r : Reply) (align s t u : ℕ) → IsJoinedBy r align s t → IsJoinedBy r align s u → t ≡ u
same_joined (Answer (machine.Grant k o)) align s t u p q = one_joined s align t u p q
same_joined other align s t u p q = p ∙ sym q

-- a call with one reply leaves one step
same_step : (c : Call) (r : Reply) (s t u : ℕ) → IsStepAfter c r s t → IsStepAfter c r s u → t ≡ u
same_step (call.Command (command.Align n align)) r s t u p q = same_joined r align s t u p q
same_step (call.AllocateTightAligned n align) r s t u p q = same_joined r align s t u p q
same_step (call.RelocateAligned k align) r s t u p q = same_joined r align s t u p q
same_step other r s t u p q = p ∙ sym q

-- two guarded allocators alike, whose spaces are so in this way: the tickets of all grants are the same
pub record AreTwins (R : View → View → Type 0) (g g' : Guard) (ts : List Ticket) : Type 0 where
  pub state : R g.space g'.space
  pub handles : handles_of g ts ≡ handles_of g' ts
  pub serials : g.serials ≡ g'.serials
  pub realm : g.realm ≡ g'.realm
  pub step : g.step ≡ g'.step
  pub all_tickets : AreAllTickets g ts
  pub all_others : AreAllTickets g' ts

module _ (R : View → View → Type 0) (counted : (v w : View) → R v w → nodes v ≡ nodes w) (c : Call) (g g' h h' : Guard) (ts us us' : List Ticket) (r r' : Reply) (twins : AreTwins R g g' ts)
    (s : TakesTicket c g ts h us r) (t : TakesTicket c g' ts h' us' r') (step : (r ≡ r') × R h.space h'.space × (handles_of h us ≡ handles_of h' us')) where
  lengths : length us ≡ length us'
  lengths = sym (length-map us (handle_of h)) ∙ ap length step.2 ∙ length-map us' (handle_of h')

  -- the tickets of two grants
  same_ticket : (a b : Ticket) → us ≡ ts ++ a ∷ [] → us' ≡ ts ++ b ∷ [] → r ≡ Answer (machine.Grant a.serial a.offset) → r' ≡ Answer (machine.Grant b.serial b.offset) → a ≡ b
  same_ticket a b e f k l = elim (more_call g.space h.space (handles_of g ts) (handles_of h us) c r s.takes) [
    | inl n ↦ absurd (omega (arith, sym (length-map us (handle_of h)) ∙ n ∙ length-map ts (handle_of g), ap length e, length-append ts (a ∷ [])))
    | inr n ↦
        let q : Answer (machine.Grant a.serial a.offset) ≡ Answer (machine.Grant b.serial b.offset) = sym k ∙ step.0 ∙ l in
        let serial : a.serial ≡ b.serial = cc in
        let offset : a.offset ≡ b.offset = cc in
        let one : a.realm ≡ h.realm = last_realm h.realm 0 ts a (subst (AreInOrder h.realm 0) e s.all_tickets.order) in
        let other : b.realm ≡ h'.realm = last_realm h'.realm 0 ts b (subst (AreInOrder h'.realm 0) f t.all_tickets.order) in
        let realm : a.realm ≡ b.realm = one ∙ s.realm ∙ twins.realm ∙ sym t.realm ∙ sym other in
        let first = last_name h ts a (handles_of g ts) n.0 (ap (handles_of h) (sym e) ∙ n.1) in
        let second = last_name h' ts b (handles_of g ts) n.0 (ap (handles_of h') (sym f) ∙ sym step.2 ∙ n.1) in
        let name : a.name ≡ b.name = first ∙ sym second in
        ap₂ (λ (o x : ℕ). let u : Ticket = record a { offset = o; name = x } in u) offset name
        ∙ ap₂ (λ (n m : ℕ). let u : Ticket = record b { serial = n; realm = m } in u) serial realm
  ]

  same_tickets : IsGrown ts us r → IsGrown ts us' r' → us ≡ us'
  same_tickets (inl a) (inl b) = a ∙ sym b
  same_tickets (inl a) (inr b) = absurd (omega (arith, ap length (sym a) ∙ lengths ∙ ap length b.1, length-append ts (b.0 ∷ [])))
  same_tickets (inr a) (inl b) = absurd (omega (arith, ap length (sym a.1) ∙ lengths ∙ ap length b, length-append ts (a.0 ∷ [])))
  same_tickets (inr a) (inr b) = a.1 ∙ ap (λ (u : Ticket). ts ++ u ∷ []) (same_ticket a.0 b.0 a.1 b.1 a.2 b.2) ∙ sym b.1

  -- the cells of serials
  same_cells : covering (nodes h.space) g.serials ≡ covering (nodes h'.space) g'.serials
  same_cells = ap₂ covering (counted h.space h'.space step.1) twins.serials

  same_serials : us ≡ us' → AreSerials c g ts h us r → AreSerials c g' ts h' us' r' → h.serials ≡ h'.serials
  same_serials e (inl a) (inl b) =
      a.1 ∙ ap (λ (x : Reply). serials_kept c x (nodes h.space) g.serials) step.0 ∙ ap₂ (serials_kept c r') (counted h.space h'.space step.1) twins.serials ∙ sym b.1
  same_serials e (inl a) (inr b) = absurd (omega (arith, ap length (sym a.0) ∙ lengths ∙ ap length b.1, length-append ts (b.0 ∷ [])))
  same_serials e (inr a) (inl b) = absurd (omega (arith, ap length (sym a.1) ∙ lengths ∙ ap length b.0, length-append ts (a.0 ∷ [])))
  same_serials e (inr a) (inr b) =
      let last : a.0 ≡ b.0 = (last_same ts ts a.0 b.0 (sym a.1 ∙ e ∙ b.1)).0 in
      a.2 ∙ ap₂ (λ (cells : List ℕ) (u : Ticket). slice_set cells u.name u.serial) same_cells last ∙ sym b.2

  pub served : (r ≡ r') × (us ≡ us') × AreTwins R h h' us
  served =
      let same = same_tickets s.grown t.grown in (
        step.0,
        same,
        record {
          state = step.1;
          handles = step.2 ∙ ap (handles_of h') (sym same);
          serials = same_serials same s.serials t.serials;
          realm = s.realm ∙ twins.realm ∙ sym t.realm;
          step = same_step c r g.step h.step h'.step s.step (subst₂ (λ (x : Reply) (n : ℕ). IsStepAfter c x n h'.step) (sym step.0) (sym twins.step) t.step);
          all_tickets = s.all_tickets;
          all_others = subst (AreAllTickets h') (sym same) t.all_tickets;
        },
      )

-- what the fields of twins say of both
pub same_given : (R : View → View → Type 0) (g g' : Guard) (ts : List Ticket) → AreTwins R g g' ts → g.given ≡ g'.given
same_given R g g' ts t = sym t.all_tickets.all ∙ t.all_others.all

-- twins in the same state are the same
state_counted : (v w : View) → SameState v w → nodes v ≡ nodes w
state_counted v w e = sym (ap nodes e)

twins_same : (g g' : Guard) (ts : List Ticket) → AreTwins SameState g g' ts → SameGuard g g'
twins_same g g' ts t =
    let space : g'.space ≡ record g.space { accesses = g'.space.accesses } = t.state in
    ap₂ (λ (v : View) (l : List ℕ). let u : Guard = record g' { space = v; serials = l } in u) space (sym t.serials)
    ∙ ap (λ (s : ℕ). let u : Guard = record g' { space = record g.space { accesses = g'.space.accesses }; serials = g.serials; step = s } in u) (sym t.step)
    ∙ ap₂ (λ (n m : ℕ). let u : Guard = record g { space = record g.space { accesses = g'.space.accesses }; given = n; realm = m } in u) (sym (same_given SameState g g' ts t)) (sym t.realm)

-- ---- runs
served_alike : (cs : List TicketCall) (g g' h h' : Guard) (ts us us' : List Ticket) (rs rs' : List Reply) → IsWellFormed g.space → AreTwins SameState g g' ts → AreServed g ts cs rs h us → AreServed g' ts cs rs' h' us'
    → (rs ≡ rs') × SameGuard h h' × (us ≡ us')
served_alike [] g g' h h' ts us us' [] [] known twins s t = (refl, subst₂ SameGuard (sym s.0) (sym t.0) (twins_same g g' ts twins), s.1 ∙ sym t.1)
served_alike [] g g' h h' ts us us' [] (r ∷ rs') known twins s t = absurd t
served_alike [] g g' h h' ts us us' (r ∷ rs) rs' known twins s t = absurd s
served_alike (c ∷ cs) g g' h h' ts us us' [] rs' known twins s t = absurd s
served_alike (c ∷ cs) g g' h h' ts us us' (r ∷ rs) [] known twins s t = absurd t
served_alike (c ∷ cs) g g' h h' ts us us' (r ∷ rs) (r' ∷ rs') known twins s t =
    let step = takes_decided (meant ts c) g.space g'.space s.0.space t.0.space known twins.state (handles_of g ts) (handles_of s.0 s.1) (handles_of t.0 t.1) (named_apart g ts twins.all_tickets) r r' s.2.takes
    (subst (λ l. Takes (meant ts c) g'.space l t.0.space (handles_of t.0 t.1) r') (sym twins.handles) t.2.takes) in
    let e = served SameState state_counted (meant ts c) g g' s.0 t.0 ts s.1 t.1 r r' twins s.2 t.2 step in
    let later = served_alike cs s.0 t.0 h h' s.1 us us' rs rs' s.3 e.2 s.4 (subst (λ now. AreServed t.0 now cs rs' h' us') (sym e.1) t.4) in
    (ap₂ (λ (a : Reply) (l : List Reply). a ∷ l) e.0 later.0, later.1, later.2)

pub guarded_decided : (g g' h h' : Guard) (ts us us' : List Ticket) (cs : List TicketCall) (rs rs' : List Reply) → IsWellFormed g.space → SameGuard g g' → AreAllTickets g ts → AreServed g ts cs rs h us
    → AreServed g' ts cs rs' h' us' → (rs ≡ rs') × SameGuard h h' × (us ≡ us')
guarded_decided g g' h h' ts us us' cs rs rs' known same is s t = served_alike cs g g' h h' ts us us' rs rs' known
    (record {
      state = ap (λ (z : Guard). z.space) same;
      handles = sym (ap (λ (z : Guard). handles_of z ts) same);
      serials = sym (ap (λ (z : Guard). z.serials) same);
      realm = sym (ap (λ (z : Guard). z.realm) same);
      step = sym (ap (λ (z : Guard). z.step) same);
      all_tickets = is;
      all_others = same_ledger g g' ts is (ap (λ (z : Guard). z.realm) same) (ap (λ (z : Guard). z.given) same);
    })
    s t
