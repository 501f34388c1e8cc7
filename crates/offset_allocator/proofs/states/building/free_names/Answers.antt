use Rattle.offset_allocator.proofs.{Linking.Exchange.each-le, Linking.Exchange.there-below, Saving.Freed.drop_at, Saving.Freed.times_drop, Saving.Freed.times-filed, Saving.Freed.used_now}
use Rattle.offset_allocator.proofs.{Saving.Freed.unused_now, Tallies.one-same, Tallies.one-eq, Tallies.one-other, Classes.down_small, Saving.Saved.ordered_below, Saving.Saved.ordered_drop}
use Rattle.offset_allocator.proofs.{Saving.Firsts.free_behind, Saving.Firsts.own_class, Saving.Firsts.past_order, Common.inl, Common.inr}
use Rattle.offset_allocator.proofs.Common.{◌≡◌, ◌∙◌, ◌+◌, ◌-◌, ◌≤◌, ◌<◌, ap, ap₂, sym, subst, length, get_or, drop, arith, ℕ, List, push, down, bin_at, count_named, times, IsAmong, cases_eq, cases_lt}
use Rattle.offset_allocator.specs.{Saving.State.filed, Saving.State.size_named, Saving.Building.AreOrdered}
use Rattle.offset_allocator.proofs.states.building.free_names.Goals as goal
use Rattle.offset_allocator.proofs.states.building.free_names.Goals.{then-name-nodes-via-then-name-nodes, then-name-nodes-via-else-name-nodes+then-not-used}

pub returns-then-name-nodes-clause-wrong : goal.returns-then-name-nodes-clause-wrong
returns-then-name-nodes-clause-wrong g c _ m bs plain h once order =
    let i = c.loop-i.invariant in
    let ws : List ℕ = c.args.words.now in
    let at : ℕ = length ws - 1 - c.loop-i.i in
    let name : ℕ = get_or ws at 0 in
    let from = drop_at ws c.loop-i.i at (omega (arith, c.loop-i-test.true)) in
    let now = i.chain m bs plain h in
    let some : times name (drop (length ws - c.loop-i.i) ws) + 1 ≤ count_named name bs =
    omega (arith, ap (times name) from, times_drop name (length ws - (c.loop-i.i + 1)) ws, once name, one-same name) in
    elim c.then-name-nodes.branch [
      | then-name-nodes-via-then-name-nodes w ↦ omega (arith, some, there-below _ m _ _ name bs h (omega (arith, some)), w.if-name-nodes.true, c.len-nodes.ensures)
      | then-name-nodes-via-else-name-nodes+then-not-used w ↦
          let listed = unused_now name (drop (length ws - c.loop-i.i) ws) bs now.0 (sym w.used.ensures.cell ∙ w.if-not-used.true) (omega (arith, some)) in
          omega (arith, some, listed, each-le _ m _ _ bs h name)
    ]

pub free_name-requires-clause-unlisted : goal.free_name-requires-clause-unlisted
free_name-requires-clause-unlisted g c k small there =
    let ws : List ℕ = c.args.words.now in
    let name : ℕ = get_or ws (length ws - 1 - c.loop-i.i) 0 in
    let xs : List ℕ = drop (length ws - c.loop-i.i) ws in
    let r = c.requires.chain in
    let now = c.loop-i.invariant.chain r.0 r.1 r.2 r.3 in
    let used = used_now name xs r.1 now.0 (sym c.used.ensures.cell ∙ c.if-not-used.false) in
    omega (arith, subst (λ (ls : List (List ℕ)). IsAmong name (bin_at ls k)) now.1 there, times-filed name k r.1 xs small, used.1)

pub returns-then-class-most-clause-wrong : goal.returns-then-class-most-clause-wrong
returns-then-class-most-clause-wrong g c _ m bs plain h once order =
    let i = c.loop-i.invariant in
    let ws : List ℕ = c.args.words.now in
    let at : ℕ = length ws - 1 - c.loop-i.i in
    let name : ℕ = get_or ws at 0 in
    let from = drop_at ws c.loop-i.i at (omega (arith, c.loop-i-test.true)) in
    let now = i.chain m bs plain h in
    let used = used_now name (drop (length ws - c.loop-i.i) ws) bs now.0 (sym c.used.ensures.cell ∙ c.if-not-used.false) in
    let rest = ordered_drop bs 0 (length ws - (c.loop-i.i + 1)) ws order in
    let here = subst (AreOrdered bs rest.0) from rest.1 in
    let class : c.uint_to_float_round_down-class.result ≡ down (size_named name bs) = c.uint_to_float_round_down-class.ensures.is ∙ ap down (c.size-size.ensures.cell ∙ used.2) in
    omega (arith, c.if-class-most.true, class, now.4 (down (size_named name bs)) (down_small (size_named name bs)) here.1)

pub loop-i-preserved : goal.loop-i-preserved
loop-i-preserved g c =
    let i = c.loop-i.invariant in
    let ws : List ℕ = c.args.words.now in
    let at : ℕ = length ws - 1 - c.loop-i.i in
    let name : ℕ = get_or ws at 0 in
    let xs : List ℕ = drop (length ws - c.loop-i.i) ws in
    let from = drop_at ws c.loop-i.i at (omega (arith, c.loop-i-test.true)) in
    let f = c.free_name.ensures in
    record {
      chain = λ m bs plain h.
          let now = i.chain m bs plain h in
          let used = used_now name xs bs now.0 (sym c.used.ensures.cell ∙ c.if-not-used.false) in
          let class : c.uint_to_float_round_down-class.result ≡ down (size_named name bs) = c.uint_to_float_round_down-class.ensures.is ∙ ap down (c.size-size.ensures.cell ∙ used.2) in (
            rw from (f.chain m xs bs now.0 used.0),
            f.lists ∙ ap₂ (λ (n : ℕ) (ls : List (List ℕ)). push n name ls) class now.1 ∙ ap (filed bs) (sym from),
            λ x. elim (cases_eq x name) [
              | inl e ↦ omega (arith, ap (times x) from, one-eq x name (sym e), ap (λ y. times y xs) e, used.1, ap (λ y. count_named y bs) e, used.0)
              | inr ne ↦ omega (arith, ap (times x) from, one-other x name ne, now.2 x)
            ],
            subst (AreOrdered bs c.uint_to_float_round_down-class.result) (sym from)
                (omega (arith, class), ordered_below bs _ _ xs (omega (arith, class, c.if-class-most.false)) now.3),
            λ n l o. omega (arith, class, (subst (AreOrdered bs n) from o).0),
          );
      binned = f.binned;
      nodes = f.nodes ∙ i.nodes;
      last = f.same.0 ∙ i.last;
      count = f.same.1 ∙ i.count;
      spare = f.same.2 ∙ i.spare;
    }

pub returns-clause-chain : goal.returns-clause-chain
returns-clause-chain g c _ m bs plain h =
    let ws : List ℕ = c.args.words.now in
    let none : length ws - c.loop-i.i ≡ 0 = omega (arith, c.loop-i-test.false) in
    let now = c.loop-i.invariant.chain m bs plain h in
    let all : drop (length ws - c.loop-i.i) ws ≡ ws = ap (λ n. drop n ws) none in
    (rw all at now.0, now.1 ∙ ap (filed bs) all, λ x. rw all at (now.2 x), ordered_below bs 0 _ ws (omega arith) (rw all at now.3))

-- the names behind one that is wrong are right
pub returns-then-name-nodes-clause-fault : goal.returns-then-name-nodes-clause-fault
returns-then-name-nodes-clause-fault g c m bs plain h =
    let i = c.loop-i.invariant in
    let ws : List ℕ = c.args.words.now in
    let at : ℕ = length ws - 1 - c.loop-i.i in
    let name : ℕ = get_or ws at 0 in
    let now = i.chain m bs plain h in
    let next : length ws - c.loop-i.i ≡ at + 1 = omega (arith, c.loop-i-test.true) in (
      omega (arith, c.loop-i-test.true),
      elim (cases_eq (count_named name bs) 0) [
        | inl none ↦ inl none
        | inr some ↦ inr (inl (elim c.then-name-nodes.branch [
          | then-name-nodes-via-then-name-nodes w ↦ omega (arith, there-below _ m _ _ name bs h (omega (arith, some)), w.if-name-nodes.true, c.len-nodes.ensures)
          | then-name-nodes-via-else-name-nodes+then-not-used w ↦ rw next at
              (unused_now name (drop (length ws - c.loop-i.i) ws) bs now.0 (sym w.used.ensures.cell ∙ w.if-not-used.true) (omega (arith, some)))
        ]))
      ],
      λ j l within. free_behind bs ws (length ws - c.loop-i.i) c.loop-i.most j now.2 (λ x. omega (arith, each-le _ m _ _ bs h x)) now.3 (omega (arith, l, next)) within,
    )

pub returns-then-class-most-clause-fault : goal.returns-then-class-most-clause-fault
returns-then-class-most-clause-fault g c m bs plain h =
    let i = c.loop-i.invariant in
    let ws : List ℕ = c.args.words.now in
    let at : ℕ = length ws - 1 - c.loop-i.i in
    let name : ℕ = get_or ws at 0 in
    let now = i.chain m bs plain h in
    let next : length ws - c.loop-i.i ≡ at + 1 = omega (arith, c.loop-i-test.true) in
    let used = used_now name (drop (length ws - c.loop-i.i) ws) bs now.0 (sym c.used.ensures.cell ∙ c.if-not-used.false) in
    let class : c.uint_to_float_round_down-class.result ≡ down (size_named name bs) = c.uint_to_float_round_down-class.ensures.is ∙ ap down (c.size-size.ensures.cell ∙ used.2) in
    let more : c.loop-i.most < down (size_named name bs) = omega (arith, class, c.if-class-most.true) in
    let behind : at + 1 < length ws = elim (cases_lt (at + 1) (length ws)) [
      | inl l ↦ l
      | inr past ↦ absurd (omega (arith, more, down_small (size_named name bs), now.4 255 (omega arith) (past_order bs 255 (length ws - c.loop-i.i) ws (omega (arith, past, next)))))
    ] in
    let after : ℕ = down (size_named (get_or ws (at + 1) 0) bs) in
    let below : after ≤ c.loop-i.most = now.4 after (down_small _) (rw next (own_class bs c.loop-i.most ws (at + 1) (rw next at now.3) behind)) in (
      omega (arith, c.loop-i-test.true),
      inr (inr (behind, omega (arith, more, below))),
      λ j l within. free_behind bs ws (length ws - c.loop-i.i) c.loop-i.most j now.2 (λ x. omega (arith, each-le _ m _ _ bs h x)) now.3 (omega (arith, l, next)) within,
    )
