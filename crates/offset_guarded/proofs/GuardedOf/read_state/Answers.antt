use Rattle.std.proofs.Common.{◌≡◌, ◌∙◌, ◌+◌, ◌*◌, ◌≤◌, ap, refl, sym, subst, arith, drop, length, List, ℕ}
use Rattle.std.proofs.lemmas.List.{length-drop}
use Rattle.offset_allocator.specs.Ranges as named
use Rattle.offset_allocator.specs.Saving.State as allocator
use Rattle.offset_allocator.specs.View.{View}
use Rattle.offset_guarded.specs.{Guard.Guard, Guard.cell, Numbers.number_at, Numbers.numbers, StateFaults.IsFaultOf, StateFaults.IsSerialFault}
use Rattle.offset_allocator.proofs.Saving.FaultPlaces.{fault_within}
use Rattle.offset_allocator.specs.Saving.StateFaults as faults
use Rattle.offset_guarded.proofs.{Headed.headed, Guards.guard, Bytes.length-numbers, Bytes.numbers_sliced, Bytes.rest_of, States.parts, States.serials_of, States.tickets_read}
use Rattle.offset_guarded.proofs.GuardedOf.read_state.Goals as goal

pub returns-in-Err-Fault-clause-refused : goal.returns-in-Err-Fault-clause-refused
returns-in-Err-Fault-clause-refused g c v w admitted asked st =
    let bs : List ℕ = c.args.bytes.now in
    let count : c.in-Ok.header.count ≡ length v.serials = sym c.in-Ok.ensures.header.count ∙ (parts v bs st).count in
    let b = rw c.in-Err-Fault.field-0-is at c.in-Err-Fault.ensures.refused in
    let state : allocator.IsStateOf v.space (drop (56 + 8 * c.in-Ok.header.count) bs) = subst (λ n. allocator.IsStateOf v.space (drop (56 + 8 * n) bs)) (sym count) st.space in
    b v.space w.space w.names admitted asked (subst (allocator.IsStateOf v.space) (sym (rest_of (56 + 8 * c.in-Ok.header.count) bs)) state)

pub returns-in-Err-clause-fault : goal.returns-in-Err-clause-fault
returns-in-Err-clause-fault g c = rw c.in-Err.is at (c.header_of.ensures.fault g.T.Index.NodeIndex.MAX c.args.most_allocs)

pub returns-in-Err-Fault-clause-fault : goal.returns-in-Err-Fault-clause-fault
returns-in-Err-Fault-clause-fault g c =
    let bs : List ℕ = c.args.bytes.now in
    let hd = c.in-Ok.ensures.header in
    let end : ℕ = 56 + 8 * c.in-Ok.header.count in
    let b = rw c.in-Err-Fault.field-0-is at c.in-Err-Fault.ensures.fault in
    let wrong = subst (λ k. faults.IsFault g.T.Index.NodeIndex.MAX c.args.most_allocs k c.in-Err-Fault.fault) (rest_of end bs) b in
    let within = fault_within g.T.Index.NodeIndex.MAX c.args.most_allocs (drop end bs) c.in-Err-Fault.fault wrong in
    rw c.in-Err-Fault.fault-is (
      headed hd,
      (
        c.in-Err-Fault.fault.at,
        omega (arith, hd.count, hd.long, within, length-drop end bs),
        subst (λ n. faults.IsFault g.T.Index.NodeIndex.MAX c.args.most_allocs (drop (56 + 8 * n) bs) c.in-Err-Fault.fault) (sym hd.count) wrong,
      ),
    )

pub returns-in-Some-clause-fault : goal.returns-in-Some-clause-fault
returns-in-Some-clause-fault g c =
    let bs : List ℕ = c.args.bytes.now in
    let hd = c.in-Ok.ensures.header in
    let count : ℕ = c.in-Ok.header.count in
    let at : ℕ = c.in-Some.fault.at in
    let v : View = c.in-Ok-read_state.space in
    let b = rw c.in-Ok-read_state.is at c.read_state.ensures.read in
    let state = subst (allocator.IsStateOf v) (rest_of (56 + 8 * count) bs) b.0 in
    let given : c.in_ok-serials.serials.given ≡ number_at bs 3 = c.in_ok-serials.ensures.given ∙ sym hd.given in
    let cells : c.in_ok-serials.serials.cells ≡ numbers (number_at bs 2) (drop 48 bs) =
    c.in_ok-serials.ensures.cells ∙ numbers_sliced count _ (drop 48 bs) (omega arith) (omega (arith, hd.long, length-drop 48 bs)) ∙ ap (λ n. numbers n (drop 48 bs)) (sym hd.count) in
    subst (λ k. IsFaultOf g.T.Index.NodeIndex.MAX c.args.most_allocs bs at k) (sym c.in-Some.ensures.serial) (
      headed hd,
      (
        v,
        record {
          state = subst (λ n. allocator.IsStateOf v (drop (56 + 8 * n) bs)) (sym hd.count) state;
          formed = c.a_state_is_read_back.ensures.formed;
          names = c.a_state_is_read_back.ensures.names;
          admitted = (c.a_state_is_read_back.ensures.admitted, b.2);
        },
        subst (λ n. IsSerialFault v n (numbers (number_at bs 2) (drop 48 bs)) at) given
            (subst (λ ks. IsSerialFault v c.in_ok-serials.serials.given ks at) cells c.in-Some.ensures.fault),
      ),
    )

pub returns-in-Some-clause-refused : goal.returns-in-Some-clause-refused
returns-in-Some-clause-refused g c v w admitted asked st =
    let bs : List ℕ = c.args.bytes.now in
    let hd = c.in-Ok.ensures.header in
    let p = parts v bs st in
    let count : c.in-Ok.header.count ≡ length v.serials = sym hd.count ∙ p.count in
    let b = rw c.in-Ok-read_state.is at c.read_state.ensures.read in
    let state : allocator.IsStateOf c.in-Ok-read_state.space (drop (56 + 8 * c.in-Ok.header.count) bs) = subst (allocator.IsStateOf c.in-Ok-read_state.space) (rest_of (56 + 8 * c.in-Ok.header.count) bs) b.0 in
    let same = c.a_state_is_read_back.ensures.one v.space c.in-Ok-read_state.space (drop (56 + 8 * length v.serials) bs) w.space c.a_state_is_read_back.ensures.formed st.space
    (subst (λ n. allocator.IsStateOf c.in-Ok-read_state.space (drop (56 + 8 * n) bs)) count state) in
    let cells : c.in_ok-serials.serials.cells ≡ v.serials =
    c.in_ok-serials.ensures.cells ∙ numbers_sliced c.in-Ok.header.count _ (drop 48 bs) (omega arith) (omega (arith, hd.long, length-drop 48 bs))
    ∙ ap (λ n. numbers n (drop 48 bs)) count ∙ serials_of v bs st in
    let given : c.in_ok-serials.serials.given ≡ v.given = c.in_ok-serials.ensures.given ∙ sym hd.given ∙ p.given in
    c.in-Some.ensures.some refl
    (λ x l. subst (λ (k : List ℕ). 1 ≤ cell x k) (sym cells) (w.live x (subst (λ (u : View). named.IsLive x u) same l)))
    (λ x. omega (arith, w.given x, given, ap (cell x) cells))

pub invariant_of-result : goal.invariant_of-result
invariant_of-result g c =
    let ok = c.in_default.ensures.none refl in
    record {
      live = ok.0;
      given = ok.1;
      memory = omega (arith, c.in_ok-serials.ensures.room, c.max_allocs.ensures);
      admitted = omega (arith, c.a_state_is_read_back.ensures.admitted);
    }

pub returns-clause-read : goal.returns-clause-read
returns-clause-read g c =
    let bs : List ℕ = c.args.bytes.now in
    let hd = c.in-Ok.ensures.header in
    let b = rw c.in-Ok-read_state.is at c.read_state.ensures.read in
    let v : Guard = guard c.in-Ok-read_state.space c.in_ok-serials.serials c.in-Ok.header.realm c.in-Ok.header.step in
    let cells : v.serials ≡ numbers c.in-Ok.header.count (drop 48 bs) =
    c.in_ok-serials.ensures.cells ∙ numbers_sliced c.in-Ok.header.count _ (drop 48 bs) (omega arith) (omega (arith, hd.long, length-drop 48 bs)) in
    let count : length v.serials ≡ c.in-Ok.header.count = ap length cells ∙ length-numbers c.in-Ok.header.count (drop 48 bs) in (
      record {
        tickets = tickets_read bs c.in-Ok.header v hd cells c.in_ok-serials.ensures.given refl refl;
        space = subst (λ n. allocator.IsStateOf v.space (drop (56 + 8 * n) bs)) (sym count) (subst (allocator.IsStateOf v.space) (rest_of (56 + 8 * c.in-Ok.header.count) bs) b.0);
      },
      b.1,
      b.2,
    )

pub returns-clause-formed : goal.returns-clause-formed
returns-clause-formed g c =
    let ok = c.in_default.ensures.none refl in
    record { space = c.a_state_is_read_back.ensures.formed; names = c.a_state_is_read_back.ensures.names; live = ok.0; given = ok.1; realm = c.in-Ok.ensures.header.fits.0; step = c.in-Ok.ensures.header.fits.1 }
