-- Lists of calls on a guarded allocator and on the same one under a larger node limit.
use Rattle.offset_calls.proofs.Common.{◌≡◌, ℕ, ◌≤◌, List, [], ◌∷◌, refl, sym, ap, ap₂, subst, subst₂, ◌∙◌, arith, View, IsWellFormed, Reply, Takes, Guard, Ticket, handles_of, meant, AreAllTickets}
use Rattle.offset_allocator.specs.Relations.{SameUnder}
use Rattle.offset_calls.proofs.{DecidedTickets.AreTwins, DecidedTickets.named_apart, DecidedTickets.same_given, DecidedTickets.served, Raised.takes_limit, Raised.takes_raised, Tickets.same_ledger}
use Rattle.offset_calls.specs.declared.guarded.TicketCall.{TicketCall}
use Rattle.offset_calls.specs.Limits.{AreServedWithNodes, SameGuardUnder}
use Rattle.offset_calls.specs.Tickets.{AreServed}
use Rattle.offset_guarded.specs.Guard.{IsRaised, nodes}

counted : (limit : ℕ) (v w : View) → SameUnder limit v w → nodes v ≡ nodes w
counted limit v w e = sym (ap nodes e)

-- twins under the limit are the same under it
twins_under : (limit : ℕ) (g g' : Guard) (ts : List Ticket) → AreTwins (SameUnder limit) g g' ts → SameGuardUnder limit g g'
twins_under limit g g' ts t =
    let space : g'.space ≡ record g.space { max_allocs = limit; accesses = g'.space.accesses } = t.state in
    ap₂ (λ (v : View) (l : List ℕ). let u : Guard = record g' { space = v; serials = l } in u) space (sym t.serials)
    ∙ ap (λ (s : ℕ). let u : Guard = record g' { space = record g.space { max_allocs = limit; accesses = g'.space.accesses }; serials = g.serials; step = s } in u) (sym t.step)
    ∙ ap₂ (λ (n m : ℕ). let u : Guard = record g { space = record g.space { max_allocs = limit; accesses = g'.space.accesses }; given = n; realm = m } in u)
    (sym (same_given (SameUnder limit) g g' ts t)) (sym t.realm)

served_raised : (limit : ℕ) (cs : List TicketCall) (g g' h h' : Guard) (ts us us' : List Ticket) (rs rs' : List Reply) → IsWellFormed g.space → g.space.max_allocs ≤ limit → AreTwins (SameUnder limit) g g' ts
    → AreServedWithNodes g ts cs rs h us → AreServed g' ts cs rs' h' us' → (rs ≡ rs') × SameGuardUnder limit h h' × (us ≡ us')
served_raised limit [] g g' h h' ts us us' [] [] known l twins s t = (refl, subst₂ (SameGuardUnder limit) (sym s.0) (sym t.0) (twins_under limit g g' ts twins), s.1 ∙ sym t.1)
served_raised limit [] g g' h h' ts us us' [] (r ∷ rs') known l twins s t = absurd t
served_raised limit [] g g' h h' ts us us' (r ∷ rs) rs' known l twins s t = absurd s
served_raised limit (c ∷ cs) g g' h h' ts us us' [] rs' known l twins s t = absurd s
served_raised limit (c ∷ cs) g g' h h' ts us us' (r ∷ rs) [] known l twins s t = absurd t
served_raised limit (c ∷ cs) g g' h h' ts us us' (r ∷ rs) (r' ∷ rs') known l twins s t =
    let step = takes_raised limit (meant ts c) g.space g'.space s.0.space t.0.space known l twins.state (handles_of g ts) (handles_of s.0 s.1) (handles_of t.0 t.1) (named_apart g ts twins.all_tickets) r r' s.3 s.2.takes
    (subst (λ l. Takes (meant ts c) g'.space l t.0.space (handles_of t.0 t.1) r') (sym twins.handles) t.2.takes) in
    let e = served (SameUnder limit) (counted limit) (meant ts c) g g' s.0 t.0 ts s.1 t.1 r r' twins s.2 t.2 step in
    let m = takes_limit g.space s.0.space (handles_of g ts) (handles_of s.0 s.1) (meant ts c) r s.2.takes in
    let later = served_raised limit cs s.0 t.0 h h' s.1 us us' rs rs' s.4 (omega (arith, l, m)) e.2 s.5 (subst (λ now. AreServed t.0 now cs rs' h' us') (sym e.1) t.4) in
    (ap₂ (λ (a : Reply) (l : List Reply). a ∷ l) e.0 later.0, later.1, later.2)

pub guarded_raised : (limit : ℕ) (g g' h h' : Guard) (ts us us' : List Ticket) (cs : List TicketCall) (rs rs' : List Reply) → IsWellFormed g.space → g.space.max_allocs ≤ limit → SameGuardUnder limit g g'
    → AreAllTickets g ts → AreServedWithNodes g ts cs rs h us → AreServed g' ts cs rs' h' us' → (rs ≡ rs') × SameGuardUnder limit h h' × (us ≡ us')
guarded_raised limit g g' h h' ts us us' cs rs rs' known l same is s t = served_raised limit cs g g' h h' ts us us' rs rs' known l
    (record {
      state = ap (λ (z : Guard). z.space) same;
      handles = sym (ap (λ (z : Guard). handles_of z ts) same);
      serials = sym (ap (λ (z : Guard). z.serials) same);
      realm = sym (ap (λ (z : Guard). z.realm) same);
      step = sym (ap (λ (z : Guard). z.step) same);
      all_tickets = is;
      all_others = same_ledger g g' ts is (ap (λ (z : Guard). z.realm) same) (ap (λ (z : Guard). z.given) same);
    })
    s t

-- what is raised has counted no access
pub same_raised : (limit : ℕ) (g h : Guard) → IsRaised limit g h → SameGuardUnder limit g h
same_raised limit g h e = e ∙ ap (λ (k : ℕ). let u : Guard = record g { space = record g.space { max_allocs = limit; accesses = k } } in u) (sym (ap (λ (z : Guard). z.space.accesses) e))
