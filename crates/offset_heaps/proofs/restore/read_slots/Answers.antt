use Rattle.std.proofs.Common.{◌∙◌, ◌≡◌, ◌+◌, ◌-◌, ◌≤◌, ap, arith, drop, inl, inr, length, refl, subst, sym, take, List, ℕ}
use Rattle.std.proofs.lemmas.List.{length-drop, length-set, length-take-le}
use Rattle.offset_guarded.specs.Numbers.{number_at}
use Rattle.offset_heaps.specs.{Heaps.slot, State.IsHeapReadAt, State.IsHeapState, StateFaults.IsHeapFault}
use Rattle.offset_heaps.proofs.{FaultPlaces.heap_within, States.put_more}
use Rattle.offset_heaps.proofs.restore.read_slots.Goals.{then-from-to-via-then-from-to, then-from-to-via-else-from-to+then-to-states}
use Rattle.offset_heaps.proofs.restore.read_slots.Goals as goal

pub returns-then-from-to-clause-refused : goal.returns-then-from-to-clause-refused
returns-then-from-to-clause-refused g c _ slots long heaps formed admitted =
    let at = heaps c.loop-k.k c.loop-k-test.true in
    elim c.then-from-to.branch [
      | then-from-to-via-then-from-to w ↦ omega (arith, w.if-from-to, at.order, c.number-from.ensures, c.number-to.ensures)
      | then-from-to-via-else-from-to+then-to-states w ↦ omega (arith, w.if-to-states, at.within, c.number-to.ensures)
    ]

pub returns-in-Err-clause-refused : goal.returns-in-Err-clause-refused
returns-in-Err-clause-refused g c _ slots long heaps formed admitted =
    let k : ℕ = c.loop-k.k in
    let bs : List ℕ = c.args.bytes.now in
    let states : List ℕ = c.args.states.now in
    let at = heaps k c.loop-k-test.true in
    let b = rw c.in-Err.is at c.in_ok-wrong.ensures.refused in
    b refl (slot k slots) (formed k) (admitted k)
    (subst (λ a. IsHeapState (slot k slots) (take (c.number-to.result - a) (drop a states))) (sym c.number-from.ensures)
    (subst (λ t. IsHeapState (slot k slots) (take (t - number_at bs (10 + k)) (drop (number_at bs (10 + k)) states))) (sym c.number-to.ensures) at.state))

pub loop-k-preserved : goal.loop-k-preserved
loop-k-preserved g c =
    let k : ℕ = c.loop-k.k in
    let bs : List ℕ = c.args.bytes.now in
    let states : List ℕ = c.args.states.now in
    let old = c.loop-k.slots in
    let made : ℕ = c.args.made in
    let most : ℕ = c.args.most_allocs in
    let r = rw c.in-Ok.is at c.in_ok-wrong.ensures.read in
    let here : IsHeapReadAt c.args.limits g.T.Index.NodeIndex.MAX made most k (number_at bs (10 + k)) (number_at bs (11 + k)) states c.in-Ok.heap =
    subst (λ a. IsHeapReadAt c.args.limits g.T.Index.NodeIndex.MAX made most k a (number_at bs (11 + k)) states c.in-Ok.heap) c.number-from.ensures
    (subst (λ t. IsHeapReadAt c.args.limits g.T.Index.NodeIndex.MAX made most k c.number-from.result t states c.in-Ok.heap) c.number-to.ensures record {
      state = record { order = omega (arith, c.if-from-to.false); within = omega (arith, c.if-to-states.false); state = r.state };
      formed = r.formed;
      admitted = r.admitted;
      rests = r.rests;
    }) in
    record {
      long = ap length c.put.ensures.heaps ∙ length-set old k c.in-Ok.heap ∙ c.loop-k.invariant.long;
      read = rw c.put.ensures.heaps (put_more (λ i o. IsHeapReadAt c.args.limits g.T.Index.NodeIndex.MAX made most i (number_at bs (10 + i)) (number_at bs (11 + i)) states o) old k c.in-Ok.heap
          (omega (arith, c.loop-k.invariant.long, c.loop-k-test.true)) here c.loop-k.invariant.read);
    }

pub returns-then-from-to-clause-fault : goal.returns-then-from-to-clause-fault
returns-then-from-to-clause-fault g c =
    let k : ℕ = c.loop-k.k in
    record {
      number = k;
      below = c.loop-k-test.true;
      before = λ j l. (slot j c.loop-k.slots, c.loop-k.invariant.read j l);
      fault = inl (
        refl,
        refl,
        λ placed. elim c.then-from-to.branch [
          | then-from-to-via-then-from-to w ↦ omega (arith, w.if-from-to, placed.0, c.number-from.ensures, c.number-to.ensures)
          | then-from-to-via-else-from-to+then-to-states w ↦ omega (arith, w.if-to-states, placed.1, c.number-to.ensures)
        ],
      );
    }

pub returns-in-Err-clause-fault : goal.returns-in-Err-clause-fault
returns-in-Err-clause-fault g c =
    let k : ℕ = c.loop-k.k in
    let bs : List ℕ = c.args.bytes.now in
    let states : List ℕ = c.args.states.now in
    let made : ℕ = c.args.made in
    let most : ℕ = c.args.most_allocs in
    let wrong = c.in-Err.wrong in
    let from : ℕ = c.number-from.result in
    let to : ℕ = c.number-to.result in
    let f = rw c.in-Err.is at c.in_ok-wrong.ensures.fault in
    let ordered : from ≤ to = omega (arith, c.if-from-to.false) in
    let inside : to ≤ length states = omega (arith, c.if-to-states.false) in
    let long : length (take (to - from) (drop from states)) ≡ to - from = length-take-le (to - from) (drop from states) (omega (arith, ordered, inside, length-drop from states)) in
    let within = heap_within c.args.limits g.T.Index.NodeIndex.MAX made most k (take (to - from) (drop from states)) wrong.at wrong.kind f in
    record {
      number = k;
      below = c.loop-k-test.true;
      before = λ j l. (slot j c.loop-k.slots, c.loop-k.invariant.read j l);
      fault = inr (
        (omega (arith, c.if-from-to.false, c.number-from.ensures, c.number-to.ensures), omega (arith, c.if-to-states.false, c.number-to.ensures)),
        (
          wrong.at,
          omega (arith, c.number-from.ensures, c.requires.long, within, long, ordered, inside),
          subst (λ a. IsHeapFault c.args.limits g.T.Index.NodeIndex.MAX made most k (take (number_at bs (11 + k) - a) (drop a states)) wrong.at wrong.kind) c.number-from.ensures
              (subst (λ t. IsHeapFault c.args.limits g.T.Index.NodeIndex.MAX made most k (take (t - c.number-from.result) (drop c.number-from.result states)) wrong.at wrong.kind) c.number-to.ensures f),
        ),
      );
    }
