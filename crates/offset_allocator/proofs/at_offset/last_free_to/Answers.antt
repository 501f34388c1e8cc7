use Rattle.offset_allocator.proofs.{AtOffset.passed, Linking.Ends.Ended, Linking.Ends.ended, Linking.Ends.last_none, Linking.Places.at_place, Moving.Sliding.walked, Tallies.units-append}
use Rattle.offset_allocator.proofs.Common.{◌≡◌, ℕ, subst, List, [], ◌∷◌, ◌++◌, Some, None, sym, ap, ◌∙◌, arith, append-nil, append_assoc, Node, Block, blocks, last_or, units, placed}
use Rattle.offset_allocator.specs.AtOffset.{BeginAfter}
use Rattle.offset_allocator.proofs.at_offset.last_free_to.Goals as goal
use Rattle.offset_allocator.proofs.at_offset.last_free_to.Goals.{then-not-is_used+else-offset, else-not-is_used}

pub loop-at-init : goal.loop-at-init
loop-at-init g c = record {
  front = blocks (g.T.Tables.cells c.args.tables.now).chain c.args.last;
  met = [];
  is = sym (append-nil _);
  ends = c.requires.space.1.ends;
  after = tt;
  least = omega arith;
  accesses = omega arith;
}

pub is_used-requires : goal.is_used-requires
is_used-requires g c = let i = c.loop-at.invariant in (walked c.requires.space.1 i.front i.met i.is (i.ends ∙ c.in-Some.is)).below

pub offset-requires : goal.offset-requires
offset-requires g c = let i = c.loop-at.invariant in (walked c.requires.space.1 i.front i.met i.is (i.ends ∙ c.in-Some.is)).below

pub before-at-requires : goal.before-at-requires
before-at-requires g c = let i = c.loop-at.invariant in (walked c.requires.space.1 i.front i.met i.is (i.ends ∙ c.in-Some.is)).below

pub returns-then-offset-clause-found : goal.returns-then-offset-clause-found
returns-then-offset-clause-found g c =
    let i = c.loop-at.invariant in
    let e : last_or None i.front ≡ Some c.in-Some.name = i.ends ∙ c.in-Some.is in
    let f : Ended c.in-Some.name i.front = ended i.front c.in-Some.name e in
    let at = at_place (walked c.requires.space.1 i.front i.met i.is e) in (
      record { before = f.front; block = f.last; after = i.met },
      i.is ∙ ap (λ (l : List Block). l ++ i.met) f.is ∙ append_assoc f.front (f.last ∷ []) i.met,
      f.name,
      sym (ap (λ (n : Node). n.used) at) ∙ sym c.is_used.ensures.cell ∙ c.if-not-is_used.true,
      omega (arith, c.offset.ensures.cell, ap (λ (n : Node). n.offset) at, c.if-offset.true),
      subst (λ (o : ℕ). BeginAfter c.args.offset (placed o i.met)) (omega (arith, ap units f.is, units-append f.front (f.last ∷ []))) i.after,
    )

pub loop-at-preserved : goal.loop-at-preserved
loop-at-preserved g c =
    let i = c.loop-at.invariant in
    let e : last_or None i.front ≡ Some c.in-Some.name = i.ends ∙ c.in-Some.is in
    let f : Ended c.in-Some.name i.front = ended i.front c.in-Some.name e in
    let h = walked c.requires.space.1 i.front i.met i.is e in
    let at = at_place h in
    let used : c.is_used.result ≡ f.last.used = c.is_used.ensures.cell ∙ ap (λ (n : Node). n.used) at in
    let after : BeginAfter c.args.offset (placed (units (f.front ++ f.last ∷ [])) i.met) = rw (← f.is) i.after in
    record {
      front = f.front;
      met = f.last ∷ i.met;
      is = i.is ∙ ap (λ (l : List Block). l ++ i.met) f.is ∙ append_assoc f.front (f.last ∷ []) i.met;
      ends = sym (c.before-at.ensures.before ∙ ap (λ (n : Node). n.before) at);
      after = passed c.args.offset f.front f.last i.met
          (λ free. elim c.if-not-is_used.branch [
            | then-not-is_used+else-offset w ↦ omega (arith, w.offset.ensures.cell, ap (λ (n : Node). n.offset) at, w.if-offset.false)
            | else-not-is_used w ↦ absurd (let t = used ∙ free in cc)
          ])
          after;
      least = elim c.if-not-is_used.branch [
        | then-not-is_used+else-offset w ↦ omega (arith, i.least, c.is_used.ensures.accesses, w.offset.ensures.accesses, w.count-is, c.before-at.ensures.accesses)
        | else-not-is_used w ↦ omega (arith, i.least, c.is_used.ensures.accesses, w.count-is, c.before-at.ensures.accesses)
      ];
      accesses = elim c.if-not-is_used.branch [
        | then-not-is_used+else-offset w ↦ omega (arith, i.accesses, c.is_used.ensures.accesses, w.offset.ensures.accesses, w.count-is, c.before-at.ensures.accesses)
        | else-not-is_used w ↦ omega (arith, i.accesses, c.is_used.ensures.accesses, w.count-is, c.before-at.ensures.accesses)
      ];
    }

pub returns-clause-none : goal.returns-clause-none
returns-clause-none g c n =
    let i = c.loop-at.invariant in
    let none = last_none i.front (i.ends ∙ c.in_default.is) in
    rw (i.is, none) (rw none at i.after)
