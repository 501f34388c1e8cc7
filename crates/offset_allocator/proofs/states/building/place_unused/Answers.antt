use Rattle.offset_allocator.proofs.{Saving.Marks.times_at, Saving.Firsts.unused_before}
use Rattle.offset_allocator.proofs.Common.{◌≡◌, ◌∙◌, ◌+◌, ◌++◌, ◌∷◌, [], ap, subst, sym, refl, ℕ, List, take, take_more, get_or, arith, one, cases_eq, count_named, inl, inr}
use Rattle.offset_allocator.specs.Saving.Building.{HasBack}
use Rattle.offset_allocator.proofs.states.building.place_unused.Goals as goal
use Rattle.offset_allocator.proofs.states.building.place_unused.Goals.{then-name-nodes-via-then-name-nodes, then-name-nodes-via-else-name-nodes+then-used}

pub returns-then-name-nodes-clause-wrong : goal.returns-then-name-nodes-clause-wrong
returns-then-name-nodes-clause-wrong g c _ o bs h once below =
    let ws : List ℕ = c.args.words.now in
    let name : ℕ = get_or ws c.loop-i.i 0 in
    let at = times_at name c.loop-i.i ws (omega (arith, c.loop-i-test.true)) refl in
    elim c.then-name-nodes.branch [
      | then-name-nodes-via-then-name-nodes w ↦ omega (arith, at, below name (omega (arith, w.if-name-nodes.true, c.len-nodes.ensures)))
      | then-name-nodes-via-else-name-nodes+then-used w ↦
          omega (arith, at, once name, (c.loop-i.invariant.back o bs h).marks name, ap one (sym w.used.ensures.cell ∙ w.if-used.true))
    ]

pub loop-i-preserved : goal.loop-i-preserved
loop-i-preserved g c =
    let i = c.loop-i.invariant in
    let ws : List ℕ = c.args.words.now in
    let more : take c.loop-i.i ws ++ get_or ws c.loop-i.i 0 ∷ [] ≡ take (c.loop-i.i + 1) ws = sym (take_more ws c.loop-i.i 0 (omega (arith, c.loop-i-test.true))) in
    record {
      back = λ o bs h. subst (HasBack (g.T.Tables.cells c.put_unused.new.tables) o bs) more (c.put_unused.ensures.back o bs (take c.loop-i.i ws) (i.back o bs h) i.spare).0;
      spare = let r = c.requires.back in (c.put_unused.ensures.back r.0 r.1 (take c.loop-i.i ws) (i.back r.0 r.1 r.2) i.spare).1 ∙ more;
      made = λ n m h. c.put_unused.ensures.made n m (i.made n m h);
      nodes = c.put_unused.ensures.nodes ∙ i.nodes;
    }

pub returns-then-name-nodes-clause-fault : goal.returns-then-name-nodes-clause-fault
returns-then-name-nodes-clause-fault g c o bs h =
    let i = c.loop-i.invariant in
    let ws : List ℕ = c.args.words.now in
    let name : ℕ = get_or ws c.loop-i.i 0 in
    let back = i.back o bs h in (
      c.loop-i-test.true,
      elim c.then-name-nodes.branch [
        | then-name-nodes-via-then-name-nodes w ↦ inl (omega (arith, w.if-name-nodes.true, c.len-nodes.ensures))
        | then-name-nodes-via-else-name-nodes+then-used w ↦ inr (elim (cases_eq (count_named name bs) 0) [
          | inl none ↦ inr (omega (arith, none, back.marks name, ap one (sym w.used.ensures.cell ∙ w.if-used.true)))
          | inr some ↦ inl (omega (arith, some))
        ])
      ],
      λ j l. unused_before _ c.loop-i.i j ws back (sym i.nodes) l (omega (arith, c.loop-i-test.true)),
    )
