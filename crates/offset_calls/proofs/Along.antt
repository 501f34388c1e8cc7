-- Calls on a guarded allocator, played one after the other: whatever tickets they pass.
use Rattle.offset_calls.proofs.Common.{◌≡◌, ℕ, zero, suc, ◌+◌, ◌<◌, ◌≤◌, Bool, true, false, ◌&&◌, List, [], ◌∷◌, ◌++◌, length, map, take, All, get_or, Option, Some, None, IsTrue, is_some, nat_eq}
use Rattle.offset_calls.proofs.Common.{slice_get, option_map, if◌then◌else◌, refl, sym, ap, ap₂, subst, ◌∙◌, inl, inr, arith, eq-eqb, ne_eqb, append-nil, append_assoc, length-append, AllByRecursion}
use Rattle.offset_calls.proofs.Common.{cases_eq, eqb-true, and_parts, false≢true, length-map, map-append, take_more, Block, Handle, Place, IsWellFormed, is_used_at, IsFresh, Ticket, Guard, AreAlike}
use Rattle.offset_calls.proofs.Common.{IsLive, range_of, kept_name, State, start, Call, Reply, after, is_valid, replies, reply_view, step, renumber, AreKept, IsGrantOf, IsGrown, AreAllTickets, TakesTicket}
use Rattle.offset_calls.proofs.Common.{IsNumberOf, handle_of, handles_of, is_that, live_name, meant, number_in, number_of, passed, ticket_of}
use Rattle.std.specs.Option.{option_map_or}
use Rattle.std.proofs.lemmas.List.Elements.{All-append, All-get_or, Contains-append_left, Contains-append_right}
use Rattle.offset_allocator.specs.View.{place_of}
use Rattle.offset_allocator.proofs.Reading.{live_used}
use Rattle.offset_guarded.proofs.Guards.{live_fits, live_name as live_named}
use Rattle.offset_script.specs.Agreement.{IsAtState}
use Rattle.offset_script.proofs.{Simulation.fresh_represents, Well.well_start}
use Rattle.offset_calls.specs.Playing.{IsAppended}
use Rattle.offset_calls.specs.declared.guarded.TicketCall.{TicketCall}
use Rattle.offset_calls.proofs.Tickets.{alike, alike_range, kept_of, kept_serial, kept_ticket, live_named_by}
use Rattle.offset_calls.proofs.{Compacted.all_kept, Followed.follows, Followed.well_calls}
use Rattle.offset_script.specs.declared.scripts.Command.TheVariants as command
use Rattle.offset_calls.specs.declared.calls.Call.TheVariants as call
use Rattle.offset_calls.specs.declared.calls.Reply as program

-- ---- which grant a ticket means

-- the ticket of a grant stays that with more tickets
ticket_more : (ts more : List Ticket) (k : ℕ) (u : Ticket) → ticket_of ts k ≡ Some u → ticket_of (ts ++ more) k ≡ Some u
ticket_more ts more zero u e = absurd (cc)
ticket_more ts more (suc k) u e = at ts k e
  where
    at : (ts : List Ticket) (k : ℕ) → slice_get ts k ≡ Some u → slice_get (ts ++ more) k ≡ Some u
    at [] k e = absurd (cc)
    at (t ∷ ts) zero e = e
    at (t ∷ ts) (suc k) e = at ts k e

is_used_after : (b : Block) (o : Option Place) → is_used_at (option_map (λ (p : Place). record p { before = b ∷ p.before }) o) ≡ is_used_at o
is_used_after b None = refl
is_used_after b (Some p) = refl

-- a live name is kept for some number
pub live_kept : (hs : List (Option Handle)) (x : ℕ) (bs : List Block) → AllByRecursion (λ (b : Block). b.used ≡ true → (k : ℕ) × (kept_name hs k ≡ Some b.name)) bs → is_used_at (place_of x bs) ≡ true
    → (k : ℕ) × (kept_name hs k ≡ Some x)
live_kept hs x [] a h = absurd (false≢true h)
live_kept hs x (b ∷ bs) a h = search (arith, cases_eq, eq-eqb, ne_eqb, is_used_after, (live_kept hs x bs a.1))

-- tickets of one grant
that_alike : (t u : Ticket) → AreAlike u t → is_that t (Some u) ≡ true
that_alike t u a = ap₂ (λ b c. b && c) (eq-eqb t.name u.name (sym a.0)) (ap₂ (λ b c. b && c) (eq-eqb t.serial u.serial (sym a.1)) (eq-eqb t.realm u.realm (sym a.2)))

alike_that : (t u : Ticket) → is_that t (Some u) ≡ true → AreAlike u t
alike_that t u h = search (arith, and_parts, nat_eq, eqb-true)

module _ (g : Guard) (ts more : List Ticket) (is : AreAllTickets g ts) (kept : AreKept g.space (handles_of g ts)) where
  -- any ticket means the grant that gave it, also where its number was not given yet
  number_any : (t : Ticket) → kept_name (handles_of g ts) (number_of (ts ++ more) t) ≡ live_name (Some t) g
  number_any t = go (is_some (range_of t g)) refl
    where
      live : IsLive t g → kept_name (handles_of g ts) (number_of (ts ++ more) t) ≡ live_name (Some t) g
      live l =
          let k = live_kept (handles_of g ts) t.name g.space.blocks kept (live_used t.name g.space (live_named t g l)) in
          let u = kept_ticket g ts k.0 t.name k.1 in
          let s : t.serial ≡ k.0 = (live_fits t g l).1 ∙ kept_serial g ts k.0 t.name is k.1 in
          let that : is_that t (ticket_of (ts ++ more) t.serial) ≡ true =
          ap (is_that t) (ap (ticket_of (ts ++ more)) s ∙ ticket_more ts more k.0 u.0 u.1) ∙ that_alike t u.0 (alike t u.0 g l u.3 u.2) in
          ap (λ b. kept_name (handles_of g ts) (if b then t.serial else 0)) that ∙ ap (kept_name (handles_of g ts)) s ∙ k.1 ∙ sym (live_named_by t g l)

      dead : is_some (range_of t g) ≡ false → kept_name (handles_of g ts) (number_of (ts ++ more) t) ≡ None
      dead d = search (arith, kept_of, option_map, is_some, alike_range, alike_that, ticket_more)

      go : (b : Bool) → is_some (range_of t g) ≡ b → kept_name (handles_of g ts) (number_of (ts ++ more) t) ≡ live_name (Some t) g
      go true e = live e
      go false e = dead e ∙ sym (ap (λ b. option_map (λ (h : Handle). h.name) (if b then Some (Rattle.offset_guarded.specs.Guard.handle_in t) else None)) e)

  -- so does the number of a call
  pub is_number : (c : TicketCall) → IsNumberOf (option_map_or (number_of (ts ++ more)) c.ticket (number_in c.call)) (passed ts c) g ts
  is_number c = search (arith, kept_of, number_any)

-- a call is renumbered at its number alone
renumber_at : (r : ℕ → ℕ) (c : Call) → renumber r c ≡ renumber (λ j. r (number_in c)) c
renumber_at r (call.Command (command.Free k)) = refl
renumber_at r other = refl

-- and its alignment stays
renumber_valid : (r : ℕ → ℕ) (c : Call) → is_valid (renumber r c) ≡ is_valid c
renumber_valid r (call.Command (command.Free k)) = refl
renumber_valid r other = refl

-- ---- calls one after the other

-- the plain machine, after the calls that these mean, whatever tickets are given later
pub record IsPlayed (size limit : ℕ) (g : Guard) (ts : List Ticket) (calls : List TicketCall) (found : List program.Reply) : Type 0 where
  pub represents : (more : List Ticket) → IsAtState g.space (handles_of g ts) (after (map (meant (ts ++ more)) calls) (start size limit))
  pub replied : (more : List Ticket) → map reply_view found ≡ replies (map (meant (ts ++ more)) calls) (start size limit)

pub starts : (size limit : ℕ) (g : Guard) (ts : List Ticket) (found : List program.Reply) → IsWellFormed g.space → IsFresh size limit g.space → ts ≡ [] → found ≡ []
    → IsPlayed size limit g ts [] found
starts size limit g ts found w f e none = record {
  represents = λ more. fresh_represents g.space w size limit (handles_of g ts) f (ap (map (handle_of g)) e);
  replied = λ more. ap (map reply_view) none;
}

pub all_kept_played : (size limit : ℕ) (g : Guard) (ts : List Ticket) (calls : List TicketCall) (found : List program.Reply) → 2 ≤ limit → IsPlayed size limit g ts calls found
    → AreKept g.space (handles_of g ts)
all_kept_played size limit g ts calls found low p =
    let r = p.represents [] in
    all_kept _ _ _ r.formed (well_calls (map (meant (ts ++ [])) calls) _ (well_start size limit low)) r.agrees

pub after-append : (xs ys : List Call) (s : State) → after (xs ++ ys) s ≡ after ys (after xs s)
after-append [] ys s = refl
after-append (c ∷ xs) ys s = after-append xs ys (step c s).state

pub replies-append : (xs ys : List Call) (s : State) → replies (xs ++ ys) s ≡ replies xs s ++ replies ys (after xs s)
replies-append [] ys s = refl
replies-append (c ∷ xs) ys s = ap (λ l. (step c s).reply ∷ l) (replies-append xs ys (step c s).state)

-- later tickets, from before the call on
later : (ts us more : List Ticket) (r : Reply) → IsGrown ts us r → (all : List Ticket) × (us ++ more ≡ ts ++ all)
later ts us more r (inl e) = (more, ap (λ l. l ++ more) e)
later ts us more r (inr e) = (e.0 ∷ more, ap (λ l. l ++ more) e.1 ∙ append_assoc ts (e.0 ∷ []) more)

pub few_more : (ts us : List Ticket) (r : Reply) (i : ℕ) → IsGrown ts us r → length ts ≤ i → length us ≤ i + 1
few_more ts us r i (inl e) h = let l = ap length e in omega arith
few_more ts us r i (inr e) h = let l = ap length e.1 in omega (arith, length-append ts (e.0 ∷ []))

-- each ticket is that of a grant which is replied
pub more_granted : (ts us : List Ticket) (rs : List Reply) (r : Reply) → IsGrown ts us r → All (IsGrantOf rs) ts → All (IsGrantOf (rs ++ r ∷ [])) us
more_granted ts us rs r (inl e) h = subst (All (IsGrantOf (rs ++ r ∷ []))) (sym e) (λ k d l. Contains-append_left rs (r ∷ []) _ (h k d l))
more_granted ts us rs r (inr e) h = subst (All (IsGrantOf (rs ++ r ∷ []))) (sym e.1)
    (All-append (IsGrantOf (rs ++ r ∷ [])) ts (e.0 ∷ []) (λ k d l. Contains-append_left rs (r ∷ []) _ (h k d l)) one)
  where
    one : All (IsGrantOf (rs ++ r ∷ [])) (e.0 ∷ [])
    one zero d l = Contains-append_right rs (r ∷ []) _ (0, omega arith, e.2)
    one (suc k) d l = absurd (omega arith)

pub none_granted : (ts : List Ticket) (rs : List Reply) → ts ≡ [] → All (IsGrantOf rs) ts
none_granted ts rs e k d l = absurd (let n = ap length e in omega arith)

module _ (size limit : ℕ) (low : 2 ≤ limit) (g h : Guard) (ts us : List Ticket) (calls : List TicketCall) (c : TicketCall) (found left : List program.Reply) (x : program.Reply)
    (is : AreAllTickets g ts) (p : IsPlayed size limit g ts calls found) (formed : IsWellFormed h.space) (valid : IsTrue (is_valid c.call)) (more_found : left ≡ found ++ x ∷ [])
    (serves : (k : ℕ) → IsNumberOf k (passed ts c) g ts → TakesTicket (renumber (λ j. k) c.call) g ts h us (reply_view x)) where
  pub served : TakesTicket (renumber (λ j. option_map_or (number_of (ts ++ [])) c.ticket (number_in c.call)) c.call) g ts h us (reply_view x)
  served = serves (option_map_or (number_of (ts ++ [])) c.ticket (number_in c.call)) (is_number g ts [] is (all_kept_played size limit g ts calls found low p) c)

  module _ (more : List Ticket) where
    -- the tickets given from before the call on
    all : List Ticket
    all = (later ts us more (reply_view x) served.grown).0

    all_is : us ++ more ≡ ts ++ all
    unfolding all
    all_is = (later ts us more (reply_view x) served.grown).1

    -- the plain machine takes the call that this one means
    next : (reply_view x ≡ (step (meant (ts ++ all) c) (after (map (meant (ts ++ all)) calls) (start size limit))).reply)
        × IsAtState h.space (handles_of h us) (step (meant (ts ++ all) c) (after (map (meant (ts ++ all)) calls) (start size limit))).state
    next =
        let r : ℕ → ℕ = λ j. option_map_or (number_of (ts ++ all)) c.ticket j in
        let s = serves (r (number_in c.call)) (is_number g ts all is (all_kept_played size limit g ts calls found low p) c) in
        follows g.space h.space (handles_of g ts) (handles_of h us) (reply_view x) (after (map (meant (ts ++ all)) calls) (start size limit)) formed
        (well_calls (map (meant (ts ++ all)) calls) _ (well_start size limit low)) (p.represents all)
        (renumber r c.call) (renumber_valid r c.call ∙ valid)
        (subst (λ c. Rattle.offset_calls.specs.Steps.Takes c g.space (handles_of g ts) h.space (handles_of h us) (reply_view x)) (sym (renumber_at r c.call)) s.takes)

    calls_more : map (meant (us ++ more)) (calls ++ c ∷ []) ≡ map (meant (ts ++ all)) calls ++ meant (ts ++ all) c ∷ []
    calls_more = ap (λ l. map (meant l) (calls ++ c ∷ [])) all_is ∙ map-append (meant (ts ++ all)) calls (c ∷ [])

    represents_more : IsAtState h.space (handles_of h us) (after (map (meant (us ++ more)) (calls ++ c ∷ [])) (start size limit))
    represents_more = search (arith, calls_more, after-append, map, all, next)

    replied_more : map reply_view left ≡ replies (map (meant (us ++ more)) (calls ++ c ∷ [])) (start size limit)
    replied_more = search (arith, map, map-append, all, next, calls_more, replies-append)

  pub played_more : IsPlayed size limit h us (calls ++ c ∷ []) left
  played_more = record { represents = represents_more; replied = replied_more }

-- a loop over calls: one more
pub goes_on : (size limit realm : ℕ) → 2 ≤ limit → (g h : Guard) (ts us : List Ticket) (calls : List TicketCall) (i : ℕ) (d : TicketCall) (found left : List program.Reply)
    → AreAllTickets g ts → length ts ≤ i → IsPlayed size limit g ts (take i calls) found → g.realm ≡ realm → All (IsGrantOf (map reply_view found)) ts
    → IsWellFormed h.space → i < length calls → All (λ c. IsTrue (is_valid c.call)) calls
    → IsAppended (λ r. (k : ℕ) → IsNumberOf k (passed ts (get_or calls i d)) g ts → TakesTicket (renumber (λ j. k) (get_or calls i d).call) g ts h us r) found left
    → record {
      all_tickets : AreAllTickets h us;
      few : length us ≤ i + 1;
      played : IsPlayed size limit h us (take (i + 1) calls) left;
      realm : h.realm ≡ realm;
      granted : All (IsGrantOf (map reply_view left)) us;
    }
goes_on size limit realm low g h ts us calls i d found left is few p same_realm granted formed within valid more =
    let v = All-get_or (λ c. IsTrue (is_valid c.call)) calls i d within valid in
    let s = served size limit low g h ts us (take i calls) (get_or calls i d) found left more.0 is p formed v more.1 more.2 in
    record {
      all_tickets = s.all_tickets;
      few = few_more ts us (reply_view more.0) i s.grown few;
      played = subst (λ cs. IsPlayed size limit h us cs left) (sym (take_more calls i d within))
          (played_more size limit low g h ts us (take i calls) (get_or calls i d) found left more.0 is p formed v more.1 more.2);
      realm = s.realm ∙ same_realm;
      granted = subst (λ rs. All (IsGrantOf rs) us) (sym (ap (map reply_view) more.1 ∙ map-append reply_view found (more.0 ∷ [])))
          (more_granted ts us (map reply_view found) (reply_view more.0) s.grown granted);
    }

-- all calls are played
pub ends : (size limit : ℕ) (g : Guard) (ts : List Ticket) (before calls : List TicketCall) (found : List program.Reply) → IsPlayed size limit g ts before found → before ≡ calls
    → map reply_view found ≡ replies (map (meant ts) calls) (start size limit)
ends size limit g ts before calls found p e = p.replied [] ∙ ap₂ (λ l cs. replies (map (meant l) cs) (start size limit)) (append-nil ts) e

-- and there is a ticket for each grant
pub all_granted : (size limit : ℕ) (g : Guard) (ts : List Ticket) (before calls : List TicketCall) (found : List program.Reply) → IsPlayed size limit g ts before found → before ≡ calls
    → length ts ≡ (after (map (meant ts) calls) (start size limit)).grants
all_granted size limit g ts before calls found p e =
    sym (length-map ts (handle_of g)) ∙ (p.represents []).grants ∙ ap₂ (λ l cs. (after (map (meant l) cs) (start size limit)).grants) (append-nil ts) e
