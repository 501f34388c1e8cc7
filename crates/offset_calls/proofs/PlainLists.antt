-- Each call of a space with tickets is one of the plain machine, or none.
use Rattle.offset_calls.proofs.Common.{◌≡◌, ℕ, ◌≤◌, Bool, true, false, not, List, [], ◌∷◌, ◌++◌, length, map, Option, Some, None, IfSome, IsTrue, is_some, if◌then◌else◌}
use Rattle.offset_calls.proofs.Common.{refl, sym, ap, ap₂, subst, subst₂, ◌∙◌, inl, inr, arith, option_map, cases_eq, cases_lt, eq-eqb, ne_eqb, le-leb, le-ltb, lt-ltb, length-append, true≢false, AllByRecursion, Handle, View, IsWellFormed, IsFresh, Ticket, Guard, Grants}
use Rattle.offset_calls.proofs.Common.{IsLive, IsSame, KeepsSizes, handle_in, range_of, kept_name, IsKept, State, start, step, Answer, Reply, Call, Takes, AreKept, AreNumbered, is_valid}
use Rattle.offset_calls.proofs.Common.{AreAllTickets, IsStored, handles_of, size_of}
use Rattle.std.specs.Prelude.{IsSome, max, ◌&&◌, ◌↔◌}
use Rattle.std.proofs.lemmas.Bool.{cases_Bool}
use Rattle.offset_allocator.specs.Moving.Compacting.{Move}
use Rattle.offset_allocator.specs.Moving.Relocating.{RelocatesAligned, offset_of}
use Rattle.offset_allocator.specs.{Classes.up, Classes.value, Moving.Budget.CompactsWithin, Moving.BySteps.CompactsBy, Moving.BySteps.moves_by, Moving.RoomBySteps.IsLeastCostBy, Moving.RoomBySteps.MakesRoomBy, Moving.RoomBySteps.names_short, Requests.blocks_needed, Requests.units_needed}
use Rattle.offset_allocator.specs.declared.moves.over_frames.Progress.{Progress}
use Rattle.offset_allocator.specs.declared.moves.room.RoomCost.{RoomCost}
use Rattle.offset_allocator.proofs.{Raised.under, Raised.well_under, Sound.well_counted}
use Rattle.offset_allocator.proofs.Reading.{live_used}
use Rattle.offset_guarded.specs.Answers as tickets
use Rattle.offset_guarded.specs.Answers.{IsAdmitted, Requests, RequestsSecond}
use Rattle.offset_guarded.specs.Answers.Answer.{Nothing, Progressed, Requested, Room_made, Was_done}
use Rattle.offset_guarded.specs.Answers.Call.{Allocate, Allocate_aligned, Allocate_tight, Allocate_tight_aligned, Allocate_at, Relocate, Relocate_aligned, Relocate_unaligned, Free, Shrink, Grow_in_place, Extend, Retract, Raise_step, Reset, Compact, Compact_by, Compact_unaligned, Compact_within, Compact_within_by, Make_room, Make_room_by, Make_room_unaligned}
use Rattle.offset_guarded.specs.Guard.{HasSerialLeft, IsRaised, last_serial}
use Rattle.offset_guarded.proofs.{Divisors.gcd_there, Guards.live_fits, Guards.live_name as live_named}
use Rattle.offset_script.specs.Agreement.{HasBlocksOf, IsAtState}
use Rattle.offset_script.specs.Machine as machine
use Rattle.offset_script.proofs.{Agreed.agrees_but, Simulation.fresh_represents, Simulation.if_some, Well.IsWell, Well.well_start}
use Rattle.offset_script.specs.declared.scripts.Command.TheVariants as command
use Rattle.offset_calls.specs.Calling.{slides}
use Rattle.offset_calls.specs.Calls.{Resized}
use Rattle.offset_calls.specs.PlainLists.{Change, Called, Raised, IsCall, IsPlain, Plays, Says, SaysNo, all_changed, by_step, changed, is_no, moves_in, number, numbered, while_left}
use Rattle.offset_calls.specs.{Slides.IsSlid, Slides.done, Slides.slid_reply, Slides.so_far}
use Rattle.offset_calls.specs.declared.calls.Call.TheVariants as call
use Rattle.offset_calls.specs.declared.sliding.Slid.{Slid}
use Rattle.offset_calls.specs.declared.sliding.Slid.TheVariants as came
use Rattle.offset_calls.proofs.{Along.live_kept, Collected.slid_have, Collected.slide_step, Compacted.all_kept, EndServed.retract_serves, Followed.follows, Followed.well_call, Rooms.noted}
use Rattle.offset_calls.proofs.Tickets.{emptied, extended, freed, kept_serial, live_named_by, same_handles, same_ledger, same_live, sizes_live, stored}

-- ---- plain lists

all_changed-append : (cs : List Change) (c : Change) (s : State) → all_changed (cs ++ c ∷ []) s ≡ changed c (all_changed cs s)
all_changed-append [] c s = refl
all_changed-append (d ∷ cs) c s = all_changed-append cs c (changed d s)

well_changed : (c : Change) (s : State) → IsWell s → IsWell (changed c s)
well_changed (Called c) s w = well_call c s w
well_changed (Raised limit) s w = record { some = w.some; apart = w.apart; once = w.once; old = w.old; room = omega (arith, w.room) }

well_all : (cs : List Change) (s : State) → IsWell s → IsWell (all_changed cs s)
well_all [] s w = w
well_all (c ∷ cs) s w = well_all cs (changed c s) (well_changed c s w)

-- a larger node limit
raised_agrees : (v : View) (limit : ℕ) (kept_name : ℕ → Option ℕ) (s : State) (n : ℕ) → n ≡ limit → HasBlocksOf v kept_name s
    → HasBlocksOf (record v { max_allocs = limit; accesses = 0 }) kept_name (record s { limit = n })
raised_agrees v limit kept_name s n e b = record { labels = b.labels; view = b.view; state = b.state; limit = e; newest = b.newest; handles = b.handles }

-- a fresh space
pub plain_fresh : (size limit : ℕ) (g : Guard) → 2 ≤ limit → IsWellFormed g.space → IsFresh size limit g.space → g.given ≡ 0 → IsPlain g (start size limit)
plain_fresh size limit g low formed fresh none = record {
  size = size;
  limit = limit;
  low = low;
  changes = [];
  made = refl;
  tickets = [];
  all = record { order = tt; all = sym none };
  shows = fresh_represents g.space formed size limit [] fresh refl;
}

module _ (g : Guard) (s : State) (p : IsPlain g s) where
  pub well : IsWell s
  well = subst IsWell (sym p.made) (well_all p.changes (start p.size p.limit) (well_start p.size p.limit p.low))

  -- a space with other tickets, and the same handles, that shows what a change leaves
  plainly : (c : Change) (h : Guard) (us : List Ticket) → AreAllTickets h us → IsAtState h.space (handles_of h us) (changed c s) → IsPlain h (changed c s)
  plainly c h us all shows = record {
    size = p.size;
    limit = p.limit;
    low = p.low;
    changes = p.changes ++ c ∷ [];
    made = ap (changed c) p.made ∙ sym (all_changed-append p.changes c (start p.size p.limit));
    tickets = us;
    all = all;
    shows = shows;
  }

  -- a question
  pub plain_question : (q : Call) (r : Reply) → IsTrue (is_valid q) → Takes q g.space (handles_of g p.tickets) g.space (handles_of g p.tickets) r → r ≡ (step q s).reply
  plain_question q r valid t = (follows g.space g.space (handles_of g p.tickets) (handles_of g p.tickets) r s p.shows.formed well p.shows q valid t).0

  -- the same with another step
  pub with_step : (n : ℕ) → IsPlain (record g { step = n }) s
  with_step n = record {
    size = p.size;
    limit = p.limit;
    low = p.low;
    changes = p.changes;
    made = p.made;
    tickets = p.tickets;
    all = record { order = p.all.order; all = p.all.all };
    shows = p.shows;
  }

  -- another node limit
  pub plain_raised : (limit : ℕ) (h : Guard) → g.space.max_allocs ≤ limit → IsRaised limit g h → IsPlain h (record s { limit = limit })
  plain_raised limit h most raised =
      let high : max s.limit limit ≡ limit = let e = p.shows.agrees.limit in omega arith in
      subst (λ z. IsPlain z (record s { limit = limit })) (sym raised) (subst (λ n. IsPlain raised_guard (record s { limit = n })) high
      (plainly (Raised limit) raised_guard p.tickets (record { order = p.all.order; all = p.all.all })
      (record { formed = well_counted (under limit g.space) 0 (well_under g.space limit most p.shows.formed); agrees = raised_agrees g.space limit (kept_name (handles_of g p.tickets)) s (max s.limit limit) high p.shows.agrees; grants = p.shows.grants })))
    where
      raised_guard : Guard
      raised_guard = record g { space = record g.space { max_allocs = limit; accesses = 0 } }

-- the same space, however many accesses are counted
same_plain : (g h : Guard) (s : State) → IsPlain g s → IsSame g h → IsWellFormed h.space → IsPlain h s
same_plain g h s p same formed =
    let hs = same_handles g h p.tickets (same_live g h same) in
    record {
      size = p.size;
      limit = p.limit;
      low = p.low;
      changes = p.changes;
      made = p.made;
      tickets = p.tickets;
      all = same_ledger g h p.tickets p.all same.1.realm same.1.given;
      shows = subst (λ l. IsAtState h.space l s) (sym hs) (record { formed = formed; agrees = agrees_but g.space h.space (kept_name (handles_of g p.tickets)) s same.0 p.shows.agrees; grants = p.shows.grants });
    }

-- all stays
all_same : (g h : Guard) → h ≡ g → IsSame g h
all_same g h e = subst (IsSame g) (sym e) (refl, record { cells = λ x. refl; given = refl; realm = refl; step = refl })

-- ---- one call of the plain machine

-- what a call of tickets comes to: a call of the plain machine with this answer and these moves, and the list that is left
abbrev Comes : Call → Guard → Guard → tickets.Answer → List Move → State → Type 0
Comes d g h a ms s = (t : State) × Plays (Some d) g a ms s t × IsPlain h t

-- or to none
abbrev ComesTo : tickets.Call → Guard → Guard → tickets.Answer → List Move → State → Type 0
ComesTo c g h a ms s = (o : Option Call) × IsCall c g o × (t : State) × Plays o g a ms s t × IsPlain h t

-- a call that the handles of tickets show
comes : (g h : Guard) (s : State) (p : IsPlain g s) → IsWellFormed h.space → (d : Call) → IsTrue (is_valid d) → (us : List Ticket) (r : Reply) → AreAllTickets h us → Takes d g.space (handles_of g p.tickets) h.space (handles_of h us) r
    → (a : tickets.Answer) (ms : List Move) → Says a r → moves_in r ≡ map (numbered g) ms → Comes d g h a ms s
comes g h s p formed d valid us r all takes a ms says moves =
    let f = follows g.space h.space (handles_of g p.tickets) (handles_of h us) r s formed (well g s p) p.shows d valid takes in
    ((step d s).state, (subst (Says a) f.0 says, ap moves_in (sym f.0) ∙ moves, refl), plainly g s p (Called d) h us all f.1)

module _ (g h : Guard) (s : State) (p : IsPlain g s) (formed : IsWellFormed h.space) where
  abbrev ts : List Ticket
  ts = p.tickets

  abbrev hs : List (Option Handle)
  hs = handles_of g p.tickets

  -- each used block has a ticket
  kept : AreKept g.space hs
  kept = all_kept g.space hs s p.shows.formed (well g s p) p.shows.agrees

  -- that of a live ticket has its name
  live_number : (t : Ticket) → IsLive t g → kept_name hs (number g t) ≡ Some t.name
  live_number t live =
      let k = live_kept hs t.name g.space.blocks kept (live_used t.name g.space (live_named t g live)) in
      let same : t.serial ≡ k.0 = (live_fits t g live).1 ∙ kept_serial g ts k.0 t.name p.all k.1 in
      ap (λ b. kept_name hs (if b then t.serial else 0)) live ∙ ap (kept_name hs) same ∙ k.1

  dead_number : (t : Ticket) → is_some (range_of t g) ≡ false → number g t ≡ 0
  dead_number t dead = ap (λ b. if b then t.serial else 0) dead

  -- ---- requests

  -- the tickets of all grants after a request with this result, and the answer
  abbrev tickets_after : Option Ticket → List Ticket
  tickets_after None = ts
  tickets_after (Some t) = ts ++ t ∷ []

  abbrev answer_to : Option Ticket → machine.Answer
  answer_to None = machine.Refused
  answer_to (Some t) = machine.Grant (length (ts ++ t ∷ [])) t.offset

  is_stored : (r : Option Ticket) → IsStored r ts (tickets_after r) (answer_to r)
  is_stored None = (refl, refl)
  is_stored (Some t) = (refl, refl)

  says_so : (n : ℕ) (r : Option Ticket) → IfSome r (Grants n g h) → Says (Requested r) (Answer (answer_to r))
  says_so n None some = refl
  says_so n (Some t) some = ap (λ k. Answer (machine.Grant k t.offset)) (omega (arith, length-append ts (t ∷ []), p.all.all, some.serial))

  request : (d : Call) → IsTrue (is_valid d) → (n : ℕ) (r : Option Ticket) → Requests n g h r
      → ((us : List Ticket) (a : machine.Answer) → IsKept (option_map handle_in r) hs (handles_of h us) a → Takes d g.space hs h.space (handles_of h us) (Answer a))
      → Comes d g h (Requested r) [] s
  request d valid n r q takes =
      let k = stored n g h ts (tickets_after r) r (answer_to r) p.all q.grants q.same (is_stored r) in
      comes g h s p formed d valid (tickets_after r) (Answer (answer_to r)) k.1 (takes (tickets_after r) (answer_to r) k.0) (Requested r) [] (says_so n r q.grants) refl

  -- while a serial is left it is a call, and else it is refused
  asks : (c : tickets.Call) (d : Call) → ((o : Option Call) → o ≡ while_left g d → IsCall c g o) → (n : ℕ) (r : Option Ticket) → Requests n g h r → (IsSome r → HasSerialLeft g)
      → (HasSerialLeft g → Comes d g h (Requested r) [] s) → ComesTo c g h (Requested r) [] s
  asks c d is n r q left some = elim (cases_lt g.given last_serial) [
    | inl l ↦ let x = some l in (Some d, is (Some d) (sym (ap (λ b. if b then Some d else None) (lt-ltb g.given last_serial l))), x.0, x.1, x.2)
    | inr m ↦ none r left q.same (is None (sym (ap (λ b. if b then Some d else None) (le-ltb g.given last_serial m)))) m
  ]
    where
      none : (r : Option Ticket) → (IsSome r → HasSerialLeft g) → (r ≡ None → IsSame g h) → IsCall c g None → last_serial ≤ g.given → ComesTo c g h (Requested r) [] s
      none None left same is m = (None, is, s, (refl, refl, refl), same_plain g h s p (same refl) formed)
      none (Some t) left same is m = absurd (let l = left refl in omega (arith, l, m))

  -- ---- tickets that are passed

  -- one that is not live has no number
  gone : (d : Call) → IsTrue (is_valid d) → IsSame g h → Takes d h.space (handles_of h ts) h.space (handles_of h ts) (Answer machine.Gone) → (a : tickets.Answer) → Says a (Answer machine.Gone) → Comes d g h a [] s
  unfolding same_plain
  gone d valid same takes a says = let q = same_plain g h s p same formed in comes h h s q formed d valid ts (Answer machine.Gone) q.all takes a [] says refl

  -- a second range
  second : (d : ℕ → Call) → ((k : ℕ) → IsTrue (is_valid (d k))) → (t : Ticket) (r : Option Ticket) → RequestsSecond t g h r
      → (IsLive t g → (us : List Ticket) (a : machine.Answer) → IsKept (option_map handle_in r) hs (handles_of h us) a → Takes (d (number g t)) g.space hs h.space (handles_of h us) (Answer a))
      → Takes (d 0) h.space (handles_of h ts) h.space (handles_of h ts) (Answer machine.Gone) → Comes (d (number g t)) g h (Requested r) [] s
  second d valid t r q takes takes_none = elim (cases_Bool (is_some (range_of t g))) [
    | inl live ↦ request (d (number g t)) (valid (number g t)) (size_of t.name g.space) r q.request (takes live)
    | inr dead ↦ subst (λ k. Comes (d k) g h (Requested r) [] s) (sym (dead_number t dead)) (none r q.live q.request.same dead)
  ]
    where
      none : (r : Option Ticket) → (IsSome r → IsLive t g × HasSerialLeft g) → (r ≡ None → IsSame g h) → is_some (range_of t g) ≡ false → Comes (d 0) g h (Requested r) [] s
      none None live same dead = gone (d 0) (valid 0) (same refl) takes_none (Requested None) refl
      none (Some u) live same dead = absurd (true≢false (sym (live refl).0 ∙ dead))

  -- where the range of a ticket is resized, or not
  resizes : (d : ℕ → Call) → ((k : ℕ) → IsTrue (is_valid (d k))) → (t : Ticket) (n : ℕ) (Can : View → Type 0) (Step : View → View → Bool → Type 0) (r : Option Bool) → tickets.Resizes t n Can Step g h r
      → ((d' : Bool) → r ≡ Some d' → Step g.space h.space d' → handles_of h ts ≡ hs → kept_name hs (number g t) ≡ Some t.name
      → Takes (d (number g t)) g.space hs h.space (handles_of h ts) (if d' then Resized else Answer machine.Refused))
      → Takes (d 0) h.space (handles_of h ts) h.space (handles_of h ts) (Answer machine.Gone) → Comes (d (number g t)) g h (tickets.Answer.Resized r) [] s
  resizes d valid t n Can Step r x takes takes_none = go r refl x.live x.not_live x.step
    where
      none_in : (was : Bool) → moves_in (if was then Resized else Answer machine.Refused) ≡ []
      none_in true = refl
      none_in false = refl

      dead : IsSome r ↔ IsLive t g → r ≡ None → is_some (range_of t g) ≡ false
      dead l e = elim (cases_Bool (is_some (range_of t g))) [ inl live ↦ absurd (true≢false (sym (l.1 live) ∙ ap is_some e)) | inr not_live ↦ not_live ]

      go : (o : Option Bool) → r ≡ o → IsSome o ↔ IsLive t g → (o ≡ None → h ≡ g) → IfSome o (Step g.space h.space) → Comes (d (number g t)) g h (tickets.Answer.Resized o) [] s
      go None e live same by = subst (λ k. Comes (d k) g h (tickets.Answer.Resized None) [] s) (sym (dead_number t (dead x.live e))) (gone (d 0) (valid 0) (all_same g h (same refl)) takes_none (tickets.Answer.Resized None) refl)
      go (Some was) e live same by =
          comes g h s p formed (d (number g t)) (valid (number g t)) ts (if was then Resized else Answer machine.Refused) (same_ledger g h ts p.all x.serials.realm x.serials.given)
          (takes was e by (same_handles g h ts x.kept) (live_number t (live.0 refl))) (tickets.Answer.Resized (Some was)) [] refl (none_in was)

  -- ---- ranges that move

  -- moves of ranges with tickets, by their numbers
  numbered_all : (ms : List Move) → AllByRecursion (λ (m : Move). (k : ℕ) × (kept_name hs k ≡ Some m.name)) ms → AreNumbered hs ms (map (numbered g) ms)
  numbered_all [] a = tt
  numbered_all (m ∷ ms) a = (ap (kept_name hs) (kept_serial g ts a.0.0 m.name p.all a.0.1) ∙ a.0.1, refl, refl, refl, numbered_all ms a.1)

  slide : (d : Call) → IsTrue (is_valid d) → IsTrue (slides d) → (o : Slid) (ms : List Move) → IsSlid d g.space o h.space ms → KeepsSizes g h → h ≡ record g { space = h.space }
      → (a : tickets.Answer) → Says a (slid_reply o (map (numbered g) ms)) → moves_in (slid_reply o (map (numbered g) ms)) ≡ map (numbered g) ms → Comes d g h a ms s
  slide d valid is o ms slid sizes serials a says moves =
      comes g h s p formed d valid ts (slid_reply o (map (numbered g) ms)) (same_ledger g h ts p.all (ap (λ (g : Guard). g.realm) serials) (ap (λ (g : Guard). g.given) serials))
      (slide_step d g.space h.space hs (handles_of h ts) (slid_reply o (map (numbered g) ms)) is (o, ms, slid, map (numbered g) ms, numbered_all ms (slid_have d g.space h.space o ms hs slid kept), refl) (same_handles g h ts (sizes_live g h sizes)))
      a ms says moves

  slid_by : (n : ℕ) → 1 ≤ n → (r : Bool) (ms : List Move) → ms ≡ (if r then moves_by n 0 0 g.space.blocks else []) → CompactsBy n g.space h.space r → KeepsSizes g h → h ≡ record g { space = h.space }
      → Comes (call.CompactBy n) g h (Was_done r) ms s
  slid_by n some true ms e by sizes serials = slide (call.CompactBy n) (le-leb 1 n some) refl (done true) ms (true, by, refl, e) sizes serials (Was_done true) refl refl
  slid_by n some false ms e by sizes serials = slide (call.CompactBy n) (le-leb 1 n some) refl (done false) ms (false, by, refl, e) sizes serials (Was_done false) refl (ap (map (numbered g)) (sym e))

  slid_within : (n from units ranges : ℕ) → 1 ≤ n → (r : Option Progress) (ms : List Move) → CompactsWithin tickets.Notes n from units ranges g.space [] r h.space ms → KeepsSizes g h → h ≡ record g { space = h.space }
      → Comes (call.CompactWithin n from units ranges) g h (Progressed r) ms s
  slid_within n from units ranges some None ms by sizes serials =
      slide (call.CompactWithin n from units ranges) (le-leb 1 n some) refl (so_far None) ms (None, by, refl) sizes serials (Progressed None) refl (ap (map (numbered g)) (sym by.1))
  slid_within n from units ranges some (Some r) ms by sizes serials =
      slide (call.CompactWithin n from units ranges) (le-leb 1 n some) refl (so_far (Some r)) ms (Some r, by, refl) sizes serials (Progressed (Some r)) (map (numbered g) ms, refl) refl

  made_room : (n align m : ℕ) → 1 ≤ align → 1 ≤ m → (c : Option RoomCost) (ms : List Move) → IsLeastCostBy m (value (up (units_needed n align))) (names_short (blocks_needed align) g.space) g.space.blocks c
      → MakesRoomBy tickets.Notes m (value (up (units_needed n align))) (names_short (blocks_needed align) g.space) g.space [] c h.space ms → KeepsSizes g h → h ≡ record g { space = h.space }
      → Comes (call.MakeRoomBy n align m) g h (Room_made c) ms s
  made_room n align m some least c ms cost by sizes serials =
      slide (call.MakeRoomBy n align m) (ap₂ (λ x y. x && y) (le-leb 1 align some) (le-leb 1 m least)) refl (came.RoomMade c) ms (c, cost, by, refl) sizes serials (Room_made c) (map (numbered g) ms, refl) refl

  -- a call that goes by the step, where there is one; else all stays
  steps : (c : tickets.Call) (d : Call) → ((o : Option Call) → o ≡ by_step g d → IsCall c g o) → (a : tickets.Answer) (ms : List Move)
      → (1 ≤ g.step → Comes d g h a ms s) → (g.step ≡ 0 → SaysNo a × (ms ≡ []) × (h ≡ g)) → ComesTo c g h a ms s
  steps c d is a ms some none = elim (cases_eq g.step 0) [
    | inl e ↦ let x = none e in (None, is None (sym (ap (λ b. if b then None else Some d) (eq-eqb g.step 0 e))), s, (x.0, x.1, refl), subst (λ z. IsPlain z s) (sym x.2) p)
    | inr n ↦ let x = some (omega (arith, n)) in (Some d, is (Some d) (sym (ap (λ b. if b then None else Some d) (ne_eqb g.step 0 n))), x.0, x.1, x.2)
  ]

  -- one that is always a call
  always : (c : tickets.Call) (d : Call) → IsCall c g (Some d) → (a : tickets.Answer) (ms : List Move) → Comes d g h a ms s → ComesTo c g h a ms s
  always c d is a ms x = (Some d, is, x.0, x.1, x.2)

  -- ---- each call

  as_is : (c : tickets.Call) {a b : tickets.Answer} {ms ns : List Move} → a ≡ b → ms ≡ ns → ComesTo c g h b ns s → ComesTo c g h a ms s
  as_is c e f x = subst₂ (λ a ms. ComesTo c g h a ms s) (sym e) (sym f) x

  says_done : (d : Bool) (a : machine.Answer) → is_no (Answer a) ≡ false → Says (Was_done d) (Answer (if d then a else machine.Refused))
  says_done true a e = ap not (sym e)
  says_done false a e = refl

  relocated : (t : Ticket) (align : ℕ) → 1 ≤ align → (r : Option Ticket) → RequestsSecond t g h r → (IsLive t g → RelocatesAligned t.name align g.space h.space (option_map handle_in r))
      → Comes (call.RelocateAligned (number g t) align) g h (Requested r) [] s
  relocated t align some r q step = second (λ k. call.RelocateAligned k align) (λ k. le-leb 1 align some) t r q
      (λ live us a k. (some, if_some (kept_name hs (number g t)) t.name _ _ (live_number t live) (option_map handle_in r, a, step live, k, refl)))
      (some, ((refl, refl), refl))

  pub plain_call : (c : tickets.Call) (a : tickets.Answer) (ms : List Move) → IsAdmitted c → tickets.Answers c g h a ms → ComesTo c g h a ms s
  plain_call (Allocate n) a ms some x = as_is (Allocate n) x.1 x.3 (asks (Allocate n) (call.Command (command.Alloc n)) (λ o e. e) n x.0 x.2.request (λ y. (x.2.can_grant.0 y).0)
      (λ l. request (call.Command (command.Alloc n)) refl n x.0 x.2.request (λ us a k. (a, (option_map handle_in x.0, x.2.step l, k), refl))))
  plain_call (Allocate_aligned n align) a ms some x = as_is (Allocate_aligned n align) x.1 x.3 (asks (Allocate_aligned n align) (call.Command (command.Align n align)) (λ o e. e) n x.0 x.2.request (λ y. (x.2.can_grant.0 y).0)
      (λ l. request (call.Command (command.Align n align)) (le-leb 1 align some) n x.0 x.2.request (λ us a k. (a, (option_map handle_in x.0, x.2.step l, k), refl))))
  plain_call (Allocate_tight n) a ms some x = as_is (Allocate_tight n) x.1 x.3 (asks (Allocate_tight n) (call.AllocateTight n) (λ o e. e) n x.0 x.2.request (λ y. (x.2.can_hold.0 y).0)
      (λ l. request (call.AllocateTight n) refl n x.0 x.2.request (λ us a k. (option_map handle_in x.0, a, x.2.step l, k, refl))))
  plain_call (Allocate_tight_aligned n align) a ms some x = as_is (Allocate_tight_aligned n align) x.1 x.3 (asks (Allocate_tight_aligned n align) (call.AllocateTightAligned n align) (λ o e. e) n x.0 x.2.request (λ y. (x.2.can_hold.0 y).0)
      (λ l. request (call.AllocateTightAligned n align) (le-leb 1 align some) n x.0 x.2.request (λ us a k. (option_map handle_in x.0, a, x.2.step l, k, refl))))
  plain_call (Allocate_at offset n) a ms some x = as_is (Allocate_at offset n) x.1 x.3 (asks (Allocate_at offset n) (call.AllocateAt offset n) (λ o e. e) n x.0 x.2.request (λ y. (x.2.granted.0 y).0)
      (λ l. request (call.AllocateAt offset n) refl n x.0 x.2.request (λ us a k. (option_map handle_in x.0, a, x.2.step l, k, refl))))
  plain_call (Relocate t) a ms some x = as_is (Relocate t) x.1 x.3 (elim (cases_eq g.step 0) [
    | inl e ↦ let y = x.2.none e in (None, inl (e, refl), s, (y.0, refl, refl), subst (λ z. IsPlain z s) (sym y.1) p)
    | inr d ↦
        let least : 1 ≤ g.step = omega (arith, d) in
        let align = gcd_there (offset_of t.name g.space) g.step least in
        asks (Relocate t) (call.RelocateAligned (number g t) align.0) (λ o e. inr (least, align.0, align.2, e)) (size_of t.name g.space) x.0 x.2.second.request (λ y. (x.2.second.live y).1)
        (λ l. relocated t align.0 align.1 x.0 x.2.second (λ live. x.2.step live l least align.0 align.2))
  ])
  plain_call (Relocate_aligned t align) a ms some x = as_is (Relocate_aligned t align) x.1 x.3 (asks (Relocate_aligned t align) (call.RelocateAligned (number g t) align) (λ o e. e) (size_of t.name g.space) x.0 x.2.second.request
      (λ y. (x.2.second.live y).1) (λ l. relocated t align some x.0 x.2.second (λ live. x.2.step live l)))
  plain_call (Relocate_unaligned t) a ms some x = as_is (Relocate_unaligned t) x.1 x.3 (asks (Relocate_unaligned t) (call.Relocate (number g t)) (λ o e. e) (size_of t.name g.space) x.0 x.2.second.request (λ y. (x.2.second.live y).1)
      (λ l. second (λ k. call.Relocate k) (λ k. refl) t x.0 x.2.second
      (λ live us a k. if_some (kept_name hs (number g t)) t.name _ _ (live_number t live) (option_map handle_in x.0, a, x.2.step live l, k, refl)) ((refl, refl), refl)))
  plain_call (Free t) a ms some x = as_is (Free t) x.1 x.3 (always (Free t) (call.Command (command.Free (number g t))) refl (Was_done x.0) [] (frees x.0 x.2))
    where
      frees : (r : Bool) → tickets.Frees t g h r → Comes (call.Command (command.Free (number g t))) g h (Was_done r) [] s
      frees true f =
          let live = f.done.0 refl in
          let k = freed g h ts t (number g t) p.all (live_number t live ∙ sym (live_named_by t g live)) live (f.step refl) f.others f.gone f.serials in
          comes g h s p formed (call.Command (command.Free (number g t))) refl ts (Answer machine.Freed) k.all_tickets k.takes (Was_done true) [] refl refl
      frees false f = subst (λ k. Comes (call.Command (command.Free k)) g h (Was_done false) [] s) (sym (dead_number t (dead f.done))) (gone (call.Command (command.Free 0)) refl (all_same g h (f.same refl)) (machine.Gone, ((refl, refl), refl), refl) (Was_done false) refl)
        where
          dead : IsTrue false ↔ IsLive t g → is_some (range_of t g) ≡ false
          dead d = elim (cases_Bool (is_some (range_of t g))) [ inl live ↦ absurd (true≢false (sym (d.1 live))) | inr not_live ↦ not_live ]
  plain_call (Shrink t n) a ms some x = as_is (Shrink t n) x.1 x.3 (always (Shrink t n) (call.Shrink (number g t) n) refl (tickets.Answer.Resized x.0) [] (resizes (λ k. call.Shrink k n) (λ k. refl) t n _ _ x.0 x.2
      (λ was e by same named. if_some (kept_name hs (number g t)) t.name _ _ named (was, by, same, refl)) ((refl, refl), refl)))
  plain_call (Grow_in_place t n) a ms some x = as_is (Grow_in_place t n) x.1 x.3 (always (Grow_in_place t n) (call.Grow (number g t) n) refl (tickets.Answer.Resized x.0) [] (resizes (λ k. call.Grow k n) (λ k. refl) t n _ _ x.0 x.2
      (λ was e by same named. if_some (kept_name hs (number g t)) t.name _ _ named (was, by, same, refl)) ((refl, refl), refl)))
  plain_call (Extend more) a ms some x =
      let k = extended more g h ts x.0 (if x.0 then machine.Extended else machine.Refused) p.all x.2.step x.2.kept x.2.serials x.2.table refl in
      as_is (Extend more) x.1 x.3 (always (Extend more) (call.Command (command.Extend more)) refl (Was_done x.0) []
      (comes g h s p formed (call.Command (command.Extend more)) refl ts (Answer (if x.0 then machine.Extended else machine.Refused)) k.all_tickets k.takes (Was_done x.0) [] (says_done x.0 machine.Extended refl) refl))
  plain_call (Retract less) a ms some x =
      let k = retract_serves less g h ts x.0 (if x.0 then Resized else Answer machine.Refused) p.all x.2.step x.2.kept x.2.serials refl in
      as_is (Retract less) x.1 x.3 (always (Retract less) (call.Retract less) refl (Was_done x.0) []
      (comes g h s p formed (call.Retract less) refl ts (if x.0 then Resized else Answer machine.Refused) k.all_tickets k.takes (Was_done x.0) [] (says x.0) (none x.0)))
    where
      says : (d : Bool) → Says (Was_done d) (if d then Resized else Answer machine.Refused)
      says true = refl
      says false = refl

      none : (d : Bool) → moves_in (if d then Resized else Answer machine.Refused) ≡ []
      none true = refl
      none false = refl
  plain_call (Raise_step align) a ms some x = as_is (Raise_step align) x.0 x.2 (None, refl, s, (tt, refl, refl), subst (λ z. IsPlain z s) (sym x.1.rest) (with_step g s p h.step))
  plain_call Reset a ms some x =
      let k = emptied g h ts p.all x.1.step x.1.gone x.1.serials in
      as_is Reset x.0 x.2 (always Reset (call.Command command.Reset) refl Nothing [] (comes g h s p formed (call.Command command.Reset) refl ts (Answer machine.Reset) k.all_tickets k.takes Nothing [] refl refl))
  plain_call Compact a ms some x =
      let seen = noted _ [] ms x.2.moved in
      as_is Compact x.1 refl (steps Compact (call.CompactBy g.step) (λ o e. e) (Was_done x.0) ms (λ l. slid_by g.step l x.0 ms seen (x.2.step l) x.2.sizes x.2.serials)
      (λ e. let y = x.2.none e in (y.0, seen ∙ ap (λ b. if b then moves_by g.step 0 0 g.space.blocks else []) y.0, y.1)))
  plain_call (Compact_by n) a ms some x =
      as_is (Compact_by n) x.1 refl (always (Compact_by n) (call.CompactBy n) refl (Was_done x.0) ms (slid_by n some x.0 ms (noted _ [] ms x.2.moved) x.2.step x.2.sizes x.2.serials))
  plain_call Compact_unaligned a ms some x =
      as_is Compact_unaligned x.0 refl (always Compact_unaligned call.Compact refl Nothing ms
      (slide call.Compact refl refl came.Compacted ms (x.1.step, refl, noted _ [] ms x.1.moved) x.1.sizes x.1.serials Nothing refl refl))
  plain_call (Compact_within from units ranges) a ms some x =
      as_is (Compact_within from units ranges) x.1 refl (steps (Compact_within from units ranges) (call.CompactWithin g.step from units ranges) (λ o e. e) (Progressed x.0) ms
      (λ l. slid_within g.step from units ranges l x.0 ms (x.2.step l) x.2.sizes x.2.serials) (λ e. let y = x.2.none e in (y.0, y.2, y.1)))
  plain_call (Compact_within_by n from units ranges) a ms some x =
      as_is (Compact_within_by n from units ranges) x.1 refl (always (Compact_within_by n from units ranges) (call.CompactWithin n from units ranges) refl (Progressed x.0) ms
      (slid_within n from units ranges some x.0 ms x.2.step x.2.sizes x.2.serials))
  plain_call (Make_room n align) a ms some x =
      as_is (Make_room n align) x.1 refl (steps (Make_room n align) (call.MakeRoomBy n align g.step) (λ o e. e) (Room_made x.0) ms
      (λ l. made_room n align g.step some l x.0 ms (x.2.cost l) (x.2.step l) x.2.sizes x.2.serials) (λ e. let y = x.2.none e in (y.0, y.2, y.1)))
  plain_call (Make_room_by n align m) a ms some x =
      as_is (Make_room_by n align m) x.1 refl (always (Make_room_by n align m) (call.MakeRoomBy n align m) refl (Room_made x.0) ms (made_room n align m some.0 some.1 x.0 ms x.2.cost x.2.step x.2.sizes x.2.serials))
  plain_call (Make_room_unaligned n) a ms some x =
      as_is (Make_room_unaligned n) x.1 refl (always (Make_room_unaligned n) (call.MakeRoom n) refl (Room_made x.0) ms
      (slide (call.MakeRoom n) refl refl (came.RoomMade x.0) ms (x.0, x.2.cost, x.2.step, refl) x.2.sizes x.2.serials (Room_made x.0) (map (numbered g) ms, refl) refl))
