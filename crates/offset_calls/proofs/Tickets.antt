-- The handles of tickets, and what each call leaves of them.
use Rattle.offset_calls.proofs.Common.{◌≡◌, ◌≢◌, ℕ, zero, suc, ◌+◌, ◌<◌, Bool, ◌&&◌, List, [], ◌∷◌, ◌++◌, length, Option, Some, None, IfSome, is_some, nat_eq, slice_get, slice_index_or, slice_set}
use Rattle.offset_calls.proofs.Common.{option_map, if◌then◌else◌, refl, sym, ap, ap₂, subst, ◌∙◌, inl, inr, arith, length-append, false≢true, map-append, length-map, Handle, View, Ticket, Guard}
use Rattle.offset_calls.proofs.Common.{AreAlike, Grants, IsLive, IsSame, KeepsAll, KeepsLive, KeepsOthers, KeepsSerials, KeepsSizes, handle_in, range_of, serial_of, Extends, Frees, Resets, Command}
use Rattle.offset_calls.proofs.Common.{kept_name, IsKept, Call, Answer, Reply, Takes, renumber, AreInOrder, IsGrown, AreAllTickets, IsStored, TakesTicket, IsNumberOf}
use Rattle.offset_calls.proofs.Common.{IsTrue, handle_of, handles_of, live_name, ticket_of}
use Rattle.offset_calls.specs.Calling.{slides}
use Rattle.offset_calls.specs.Tickets.{AreSerials, IsJoinedBy, IsStepAfter, serials_kept}
use Rattle.offset_guarded.specs.Guard.{CoversNodes, covering, nodes}
use Rattle.offset_guarded.specs.Step.{IsJoined}
use Rattle.offset_allocator.specs.{View.free_sizes, Reporting.FreeSizes.rows_below}
use Rattle.offset_guarded.proofs.Guards.{live_fits}
use Rattle.offset_script.proofs.Simulation.{if_some}
use Rattle.offset_allocator.specs.Ranges as named
use Rattle.offset_script.specs.declared.scripts.Command.TheVariants as command
use Rattle.offset_script.specs.Histories as script
use Rattle.offset_script.specs.Machine as machine
use Rattle.offset_calls.specs.declared.calls.Call.TheVariants as call

-- ---- tickets in order

-- the serial of a ticket is its number
pub in_order : (realm n : ℕ) (ts : List Ticket) → AreInOrder realm n ts → (i : ℕ) (u : Ticket) → slice_get ts i ≡ Some u → (u.serial ≡ n + i + 1) × (u.realm ≡ realm)
in_order realm n [] o i u e = absurd (cc)
in_order realm n (t ∷ ts) o zero u e = let same : t ≡ u = cc in (let s = o.0 in let z = ap (λ (t : Ticket). t.serial) same in omega arith, sym (ap (λ (t : Ticket). t.realm) same) ∙ o.1)
in_order realm n (t ∷ ts) o (suc i) u e = let r = in_order realm (n + 1) ts o.2 i u e in (let s = r.0 in omega arith, r.1)

pub order-append : (realm n : ℕ) (ts : List Ticket) (t : Ticket) → AreInOrder realm n ts → t.serial ≡ n + length ts + 1 → t.realm ≡ realm → AreInOrder realm n (ts ++ t ∷ [])
order-append realm n [] t o s r = (omega arith, r, tt)
order-append realm n (x ∷ ts) t o s r = (o.0, o.1, order-append realm (n + 1) ts t o.2 (omega arith) r)

-- ---- handles

-- the handle of a ticket, if it is live
abbrev handle_if : Bool → Ticket → Option Handle
handle_if b t = if b then Some (handle_in t) else None

-- handles stay where tickets do
pub same_handles : (g h : Guard) (ts : List Ticket) → KeepsLive g h → handles_of h ts ≡ handles_of g ts
same_handles g h [] k = refl
same_handles g h (t ∷ ts) k = ap₂ (λ b l. handle_if b t ∷ l) (k t) (same_handles g h ts k)

-- all tickets but one stay, and it is none of these
other_handles : (g h : Guard) (t : Ticket) (realm n : ℕ) (ts : List Ticket) → AreInOrder realm n ts → KeepsOthers t g h → ((i : ℕ) → i < length ts → n + i + 1 ≢ t.serial)
    → handles_of h ts ≡ handles_of g ts
other_handles g h t realm n [] o k apart = refl
other_handles g h t realm n (x ∷ ts) o k apart =
    ap₂ (λ b l. handle_if b x ∷ l) (ap is_some (k x (λ a. apart 0 (omega arith) (let s = o.0 in let z = a.1 in omega arith))))
    (other_handles g h t realm (n + 1) ts o.2 k (λ i l e. apart (suc i) (omega arith) (omega arith)))

pub alike_range : (t u : Ticket) (g : Guard) → AreAlike t u → range_of t g ≡ range_of u g
alike_range t u g a = ap₂ (λ x b. if b then named.range_of x g.space else None) a.0 (ap₂ (λ r c. nat_eq r g.realm && c) a.2 (ap₂ nat_eq a.1 (ap (λ x. serial_of x g) a.0)))

-- the handle of a ticket that is freed is removed
pub freed_handles : (g h : Guard) (t u : Ticket) (realm n : ℕ) (ts : List Ticket) (i : ℕ) → AreInOrder realm n ts → slice_get ts i ≡ Some u → AreAlike u t → KeepsOthers t g h → range_of t h ≡ None
    → handles_of h ts ≡ slice_set (handles_of g ts) i None
freed_handles g h t u realm n [] i o e a k gone = absurd (cc)
freed_handles g h t u realm n (x ∷ ts) zero o e a k gone =
    let same : x ≡ u = cc in
    ap₂ (λ b l. handle_if b x ∷ l) (ap is_some (ap (λ x. range_of x h) same ∙ alike_range u t h a ∙ gone))
    (other_handles g h t realm (n + 1) ts o.2 k (λ i l d. let s = o.0 in let z = ap (λ (t : Ticket). t.serial) same in let y = a.1 in omega arith))
freed_handles g h t u realm n (x ∷ ts) (suc i) o e a k gone = search (arith, (freed_handles g h t u realm (n + 1) ts i o.2 e a k gone), is_some, in_order)

-- one more ticket has one more handle
pub more_handles : (size : ℕ) (g h : Guard) (ts : List Ticket) (t : Ticket) → AreAllTickets g ts → Grants size g h t → handles_of h (ts ++ t ∷ []) ≡ handles_of g ts ++ Some (handle_in t) ∷ []
more_handles size g h ts t is n =
    map-append (handle_of h) ts (t ∷ [])
    ∙ ap₂ (λ b l. l ++ handle_if b t ∷ []) (ap is_some n.range) (other_handles g h t g.realm 0 ts is.order n.others (λ i l d. let s = n.serial in let a = is.all in omega arith))

pub more_ledger : (size : ℕ) (g h : Guard) (ts : List Ticket) (t : Ticket) → AreAllTickets g ts → Grants size g h t → AreAllTickets h (ts ++ t ∷ [])
more_ledger size g h ts t is n = search (arith, order-append, length-append)

-- at the start there is none
pub no_tickets : (g : Guard) (ts : List Ticket) → ts ≡ [] → g.given ≡ 0 → AreAllTickets g ts
no_tickets g ts e n = record { order = subst (AreInOrder g.realm 0) (sym e) tt; all = ap length e ∙ sym n }

-- the tickets stay those of all grants
pub same_ledger : (g h : Guard) (ts : List Ticket) → AreAllTickets g ts → h.realm ≡ g.realm → h.given ≡ g.given → AreAllTickets h ts
same_ledger g h ts is r n = record { order = subst (λ r. AreInOrder r 0 ts) (sym r) is.order; all = is.all ∙ sym n }

-- ---- numbers

-- the name kept for a number is that of its ticket
pub kept_of : (g : Guard) (ts : List Ticket) (k : ℕ) → kept_name (handles_of g ts) k ≡ live_name (ticket_of ts k) g
kept_of g ts zero = refl
kept_of g ts (suc k) = at ts k
  where
    at : (ts : List Ticket) (k : ℕ) → option_map (λ (h : Handle). h.name) (slice_index_or (handles_of g ts) k None) ≡ live_name (slice_get ts k) g
    at [] k = refl
    at (t ∷ ts) zero = refl
    at (t ∷ ts) (suc k) = at ts k

-- a number with a kept name is that of a live ticket with this name
pub kept_ticket : (g : Guard) (ts : List Ticket) (k x : ℕ) → kept_name (handles_of g ts) k ≡ Some x → (u : Ticket) × (ticket_of ts k ≡ Some u) × (u.name ≡ x) × IsLive u g
kept_ticket g ts k x e = search (arith, option_map, kept_of, is_some)

-- and this name is live
pub kept_live : (g : Guard) (ts : List Ticket) (k x : ℕ) → kept_name (handles_of g ts) k ≡ Some x → named.range_of x g.space ≡ None → ⊥
kept_live g ts k x e none = search (arith, kept_ticket, false≢true, is_some)

-- it is the serial of that ticket
pub kept_serial : (g : Guard) (ts : List Ticket) (k x : ℕ) → AreAllTickets g ts → kept_name (handles_of g ts) k ≡ Some x → serial_of x g ≡ k
kept_serial g ts zero x is e = absurd (cc)
kept_serial g ts (suc k) x is e =
    let u = kept_ticket g ts (suc k) x e in
    let s = (in_order g.realm 0 ts is.order k u.0 u.1).0 in
    let f = (live_fits u.0 g u.3).1 in
    let n = ap (λ x. serial_of x g) u.2 in
    omega arith

-- ---- calls

-- a refusal leaves all tickets as they were
pub same_live : (g h : Guard) → IsSame g h → KeepsLive g h
same_live g h same t = search (arith, is_some, nat_eq)

-- a request
pub stored : (n : ℕ) (g h : Guard) (ts us : List Ticket) (r : Option Ticket) (a : machine.Answer) → AreAllTickets g ts → IfSome r (Grants n g h) → (r ≡ None → IsSame g h) → IsStored r ts us a
    → IsKept (option_map handle_in r) (handles_of g ts) (handles_of h us) a × AreAllTickets h us × IsGrown ts us (Answer a) × (h.realm ≡ g.realm)
stored n g h ts us None a is some none f = search (arith, same_handles, same_live, same_ledger)
stored n g h ts us (Some t) a is some none f = (
  (ap (handles_of h) f.0 ∙ more_handles n g h ts t is some, f.1 ∙ ap (λ k. machine.Grant k t.offset) (sym (length-map us (handle_of h)))),
  subst (AreAllTickets h) (sym f.0) (more_ledger n g h ts t is some),
  inr (t, f.0, ap Answer (f.1 ∙ ap (λ k. machine.Grant k t.offset) (ap length f.0 ∙ omega (arith, length-append ts (t ∷ []), is.all, some.serial)))),
  some.realm.1,
)

-- a call with this reply makes no cells, where it gives no ticket
abbrev pub IsQuiet : Call → Reply → Type 0
IsQuiet c r = (n : ℕ) (cells : List ℕ) → serials_kept c r n cells ≡ cells

-- serials after a request
pub stored_serials : (n : ℕ) (c : Call) (g h : Guard) (ts us : List Ticket) (r : Option Ticket) (a : machine.Answer) → IsQuiet c (Answer a) → IfSome r (Grants n g h) → (r ≡ None → h ≡ record g { space = h.space })
    → IsStored r ts us a → AreSerials c g ts h us (Answer a)
stored_serials n c g h ts us None a quiet some none f = inl (f.0, ap (λ (g : Guard). g.serials) (none refl) ∙ sym (quiet (nodes h.space) g.serials))
stored_serials n c g h ts us (Some t) a quiet some none f = inr (t, f.0, some.serials)

-- the step after a request for an alignment
pub stored_step : (align : ℕ) (g h : Guard) (ts us : List Ticket) (r : Option Ticket) (a : machine.Answer) → IfSome r (λ _. IsJoined g.step align h.step) → (r ≡ None → h ≡ record g { space = h.space })
    → IsStored r ts us a → IsJoinedBy (Answer a) align g.step h.step
stored_step align g h ts us None a some none f = subst (λ (a : machine.Answer). IsJoinedBy (Answer a) align g.step h.step) (sym f.1) (ap (λ (g : Guard). g.step) (none refl))
stored_step align g h ts us (Some t) a some none f = subst (λ (a : machine.Answer). IsJoinedBy (Answer a) align g.step h.step) (sym f.1) some

-- and after a call that gives none
pub kept_serials : (c : Call) (g h : Guard) (ts : List Ticket) (r : Reply) → IsQuiet c r → h ≡ record g { space = h.space } → AreSerials c g ts h ts r
kept_serials c g h ts r quiet same = inl (refl, ap (λ (g : Guard). g.serials) same ∙ sym (quiet (nodes h.space) g.serials))

-- the live name of a live ticket
pub live_named_by : (t : Ticket) (g : Guard) → IsLive t g → live_name (Some t) g ≡ Some t.name
live_named_by t g h = ap (λ b. option_map (λ (h : Handle). h.name) (handle_if b t)) h

-- two live tickets with one name are of one grant
pub alike : (t u : Ticket) (g : Guard) → IsLive t g → IsLive u g → u.name ≡ t.name → AreAlike u t
alike t u g lt lu e = search (arith, live_fits)

-- a release
pub freed : (g h : Guard) (ts : List Ticket) (t : Ticket) (k : ℕ) → AreAllTickets g ts → IsNumberOf k (Some t) g ts → IsLive t g → Frees t.name g.space h.space → KeepsOthers t g h → range_of t h ≡ None
    → h ≡ record g { space = h.space }
    → TakesTicket (call.Command (command.Free k)) g ts h ts (Answer machine.Freed)
freed g h ts t k is is_number live frees others gone same =
    let takes : Takes (call.Command (command.Free k)) g.space (handles_of g ts) h.space (handles_of h ts) (Answer machine.Freed) =
    search (arith, if_some, live_named_by, kept_ticket, slice_set, freed_handles, alike) in
    record {
      takes = takes;
      all_tickets = same_ledger g h ts is (ap (λ (g : Guard). g.realm) same) (ap (λ (g : Guard). g.given) same);
      grown = inl refl;
      serials = kept_serials (call.Command (command.Free k)) g h ts (Answer machine.Freed) (λ _ l. refl) same;
      realm = ap (λ (g : Guard). g.realm) same;
      step = ap (λ (g : Guard). g.step) same;
    }

-- a reset
pub emptied : (g h : Guard) (ts : List Ticket) → AreAllTickets g ts → Resets g.space h.space → ((t : Ticket) → range_of t h ≡ None) → h ≡ record g { space = h.space; step = 1 }
    → TakesTicket (call.Command command.Reset) g ts h ts (Answer machine.Reset)
emptied g h ts is resets gone same =
    let takes : Takes (call.Command command.Reset) g.space (handles_of g ts) h.space (handles_of h ts) (Answer machine.Reset) = search (arith, length-map, kept_of, option_map, is_some) in
    record {
      takes = takes;
      all_tickets = same_ledger g h ts is (ap (λ (g : Guard). g.realm) same) (ap (λ (g : Guard). g.given) same);
      grown = inl refl;
      serials = inl (refl, ap (λ (g : Guard). g.serials) same);
      realm = ap (λ (g : Guard). g.realm) same;
      step = ap (λ (g : Guard). g.step) same;
    }

-- the serials after a call that makes a cell for each node
covered_serials : (c : Call) (g h : Guard) (ts : List Ticket) (r : Reply) → ((n : ℕ) (cells : List ℕ) → serials_kept c r n cells ≡ covering n cells) → CoversNodes g h → AreSerials c g ts h ts r
covered_serials c g h ts r covers same = inl (refl, ap (λ (g : Guard). g.serials) same ∙ sym (covers (nodes h.space) g.serials))

-- an extension
pub extended : (more : ℕ) (g h : Guard) (ts : List Ticket) (done : Bool) (a : machine.Answer) → AreAllTickets g ts → Extends more g.space h.space done → KeepsAll g h → KeepsSerials g h → CoversNodes g h
    → a ≡ (if done then machine.Extended else machine.Refused)
    → TakesTicket (call.Command (command.Extend more)) g ts h ts (Answer a)
extended more g h ts done a is extends keeps same covers e = record {
  takes = (a, (done, extends, same_handles g h ts (λ t. ap is_some (keeps t)), e), refl);
  all_tickets = same_ledger g h ts is same.realm same.given;
  grown = inl refl;
  serials = covered_serials (call.Command (command.Extend more)) g h ts (Answer a) (λ m l. refl) covers;
  realm = same.realm;
  step = same.step;
}

-- where sizes stay, tickets do
pub sizes_live : (g h : Guard) → KeepsSizes g h → KeepsLive g h
sizes_live g h same t = search (arith, is_some, option_map)

-- a call that gives no ticket, and leaves serials, sizes and handles
pub slid_serves : (c : Call) (g h : Guard) (ts : List Ticket) (r : Reply) → IsQuiet c r → ((s : ℕ) → IsStepAfter c r s s) → AreAllTickets g ts → KeepsSizes g h → h ≡ record g { space = h.space }
    → Takes c g.space (handles_of g ts) h.space (handles_of g ts) r → TakesTicket c g ts h ts r
slid_serves c g h ts r quiet still is sizes serials t = record {
  takes = subst (λ l. Takes c g.space (handles_of g ts) h.space l r) (sym (same_handles g h ts (sizes_live g h sizes))) t;
  all_tickets = same_ledger g h ts is (ap (λ (g : Guard). g.realm) serials) (ap (λ (g : Guard). g.given) serials);
  grown = inl refl;
  serials = kept_serials c g h ts r quiet serials;
  realm = ap (λ (g : Guard). g.realm) serials;
  step = subst (λ (t : ℕ). IsStepAfter c r g.step t) (sym (ap (λ (g : Guard). g.step) serials)) (still g.step);
}

-- so is one that may slide ranges
quiet_slide : (c : Call) (r : Reply) → IsTrue (slides c) → IsQuiet c r × ((s : ℕ) → IsStepAfter c r s s)
quiet_slide call.Compact r s = (λ n l. refl, λ t. refl)
quiet_slide (call.CompactBy n) r s = (λ n l. refl, λ t. refl)
quiet_slide (call.CompactWithin n from u m) r s = (λ n l. refl, λ t. refl)
quiet_slide (call.MakeRoom n) r s = (λ n l. refl, λ t. refl)
quiet_slide (call.MakeRoomBy n align m) r s = (λ n l. refl, λ t. refl)
quiet_slide other r s = absurd (false≢true s)

pub slide_serves : (c : Call) (g h : Guard) (ts : List Ticket) (r : Reply) → IsTrue (slides c) → AreAllTickets g ts → KeepsSizes g h → h ≡ record g { space = h.space }
    → Takes c g.space (handles_of g ts) h.space (handles_of g ts) r → TakesTicket c g ts h ts r
slide_serves c g h ts r s is sizes serials t = let q = quiet_slide c r s in slid_serves c g h ts r q.0 q.1 is sizes serials t

-- after it the number of a name is its serial, and the name is live
module _ (g h : Guard) (ts : List Ticket) (is : AreAllTickets g ts) (sizes : KeepsSizes g h) (serials : h ≡ record g { space = h.space }) (k x : ℕ) (e : kept_name (handles_of g ts) k ≡ Some x) where
  pub slid_serial : serial_of x h ≡ k
  slid_serial = ap (serial_of x) serials ∙ kept_serial g ts k x is e

  pub slid_live : named.range_of x h.space ≡ None → ⊥
  slid_live = kept_live h ts k x (ap (λ l. kept_name l k) (same_handles g h ts (sizes_live g h sizes)) ∙ e)

-- a question
pub asked_serves : (c : Call) (g : Guard) (ts : List Ticket) (r : Reply) → IsQuiet c r → ((s : ℕ) → IsStepAfter c r s s) → AreAllTickets g ts → Takes c g.space (handles_of g ts) g.space (handles_of g ts) r → TakesTicket c g ts g ts r
asked_serves c g ts r quiet still is t = slid_serves c g g ts r quiet still is (λ t. refl) refl t

-- one that the allocator answers, with no ticket
pub question_serves : (q c : Call) (g : Guard) (ts : List Ticket) (k : ℕ) (v : View) (r : Reply) → IsQuiet q r → ((s : ℕ) → IsStepAfter q r s s) → AreAllTickets g ts → c ≡ q → renumber (λ j. k) q ≡ q → v ≡ g.space
    → ((hs : List (Option Handle)) → Takes q v hs v hs r) → TakesTicket (renumber (λ j. k) c) g ts g ts r
question_serves q c g ts k v r quiet still is e same f t = subst (λ c. TakesTicket c g ts g ts r) (sym (ap (renumber (λ j. k)) e ∙ same))
    (asked_serves q g ts r quiet still is (subst (λ v. Takes q v (handles_of g ts) v (handles_of g ts) r) f (t (handles_of g ts))))

-- a full report
pub full_serves : (g : Guard) (ts : List Ticket) (c : Command) (k : ℕ) (v : View) (a : machine.Answer) → AreAllTickets g ts → c ≡ command.Full → v ≡ g.space
    → a ≡ machine.Full (rows_below 256 (free_sizes v.blocks)) → TakesTicket (call.Command (script.renumber (λ j. k) c)) g ts g ts (Answer a)
full_serves g ts c k v a is e f r = search (arith)
