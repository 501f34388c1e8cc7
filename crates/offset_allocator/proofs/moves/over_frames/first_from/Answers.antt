use Rattle.offset_allocator.proofs.Common.{◌≡◌, ◌+◌, ◌<◌, ◌^◌, ℕ, Bool, true, false, not, ◌&&◌, nat_le, List, [], ◌∷◌, ◌++◌, Some, None, refl, sym, ap, ap₂, ◌∙◌, arith, append-nil, append_assoc, length, length-append, Node, Block}
use Rattle.offset_allocator.proofs.Common.{last_or, blocks, units}
use Rattle.offset_allocator.proofs.{Linking.Ends.Ended, Linking.Ends.ended, Linking.Ends.last_none, Linking.Places.at_place, Linking.Places.end_fits, Moving.Sliding.walked, Moving.Budgeted.from_here, Moving.Budgeted.from_past, Moving.Budgeted.behind, Moving.Budgeted.both, Tallies.units-append}
use Rattle.offset_allocator.specs.Moving.Budget.{first_from}
use Rattle.offset_allocator.proofs.moves.over_frames.first_from.Goals.{then-has_step, else-has_step, After-offset}
use Rattle.offset_allocator.proofs.moves.over_frames.first_from.Given.{Over}
use Rattle.offset_allocator.proofs.moves.over_frames.first_from.Goals as goal

pub before-at-requires : goal.before-at-requires
before-at-requires g c = let h = c.requires.space.1 in (walked h (blocks (g.T.Tables.cells c.args.tables.now).chain c.args.last) [] (sym (append-nil _)) h.ends).below

pub loop-at-init : goal.loop-at-init
loop-at-init g c =
    let h = c.requires.space.1 in
    let all = blocks (g.T.Tables.cells c.args.tables.now).chain c.args.last in
    let f : Ended c.args.last all = ended all c.args.last h.ends in
    record {
      front = f.front;
      met = f.last ∷ [];
      is = f.is;
      ends = sym (c.before-at.ensures.before ∙ ap (λ (n : Node). n.before) (at_place (walked h all [] (sym (append-nil _)) h.ends)));
      some = λ e. let k : f.last ∷ [] ≡ [] = e in absurd (cc);
      first = refl;
      grows = omega arith;
      least = omega arith;
      most = omega arith;
    }

pub offset-requires : goal.offset-requires
offset-requires g c = let i = c.loop-at.invariant in (walked c.requires.space.1 i.front i.met i.is (i.ends ∙ c.in-Some.is)).below

pub size-size-requires : goal.size-size-requires
size-size-requires g c = let i = c.loop-at.invariant in (walked c.requires.space.1 i.front i.met i.is (i.ends ∙ c.in-Some.is)).below

-- where the block ends
module _ (g : Over) (c : After-offset g) where
  abbrev front : List Block
  front = c.loop-at.invariant.front

  abbrev f : Ended c.in-Some.name c.loop-at.invariant.front
  f = ended c.loop-at.invariant.front c.in-Some.name (c.loop-at.invariant.ends ∙ c.in-Some.is)

  numbers : (c.offset.result ≡ units f.front) × (c.size-size.result ≡ f.last.size) × (units front ≡ units f.front + f.last.size) × (units f.front + f.last.size < 2 ^ 32)
  numbers =
      let i = c.loop-at.invariant in
      let h = walked c.requires.space.1 front i.met i.is (i.ends ∙ c.in-Some.is) in (
        c.offset.ensures.cell ∙ ap (λ (n : Node). n.offset) (at_place h),
        c.size-size.ensures.cell ∙ ap (λ (n : Node). n.size) (at_place h),
        omega (arith, ap units f.is, units-append f.front (f.last ∷ [])),
        end_fits h,
      )

pub overflow_add-end : goal.overflow_add-end
overflow_add-end g c = let n = numbers g c in omega (arith, n.0, n.1, n.3)

pub returns-then-end-from-clause-first : goal.returns-then-end-from-clause-first
returns-then-end-from-clause-first g c =
    let i = c.loop-at.invariant in
    let n = numbers g (goal.at.returns-then-end-from-clause-first g c).After-offset in
    let zero_more : 0 + units i.front ≡ units i.front = omega arith in
    i.first ∙ sym (from_past c.args.step c.args.from 0 i.front i.met i.some (omega (arith, n.0, n.1, n.2, c.if-end-from.true)) ∙ ap (λ (k : ℕ). first_from c.args.step c.args.from k i.met) zero_more)
    ∙ ap (first_from c.args.step c.args.from 0) (sym i.is)

pub returns-then-end-from-clause-accesses : goal.returns-then-end-from-clause-accesses
returns-then-end-from-clause-accesses g c =
    let i = c.loop-at.invariant in
    let f : Ended c.in-Some.name i.front = ended i.front c.in-Some.name (i.ends ∙ c.in-Some.is) in
    let all = ap (λ (l : List Block). length l) i.is in
    let more = ap (λ (l : List Block). length l) f.is in (
      omega (arith, i.grows, c.before-at.ensures.accesses, c.size-size.ensures.accesses, c.offset.ensures.accesses),
      omega (arith, i.most, c.before-at.ensures.accesses, c.size-size.ensures.accesses, c.offset.ensures.accesses, all, more, length-append i.front i.met, length-append f.front (f.last ∷ [])),
    )

pub returns-then-end-from-clause-accesses_all : goal.returns-then-end-from-clause-accesses_all
returns-then-end-from-clause-accesses_all g c zero = absurd (omega (arith, zero, c.if-end-from.true))

pub has_step-requires : goal.has_step-requires
has_step-requires g c = let i = c.loop-at.invariant in (walked c.requires.space.1 i.front i.met i.is (i.ends ∙ c.in-Some.is)).below

pub before-at-requires-in-Some : goal.before-at-requires-in-Some
before-at-requires-in-Some g c = let i = c.loop-at.invariant in (walked c.requires.space.1 i.front i.met i.is (i.ends ∙ c.in-Some.is)).below

pub loop-at-preserved : goal.loop-at-preserved
loop-at-preserved g c =
    let i = c.loop-at.invariant in
    let e : last_or None i.front ≡ Some c.in-Some.name = i.ends ∙ c.in-Some.is in
    let l : Ended c.in-Some.name i.front = ended i.front c.in-Some.name e in
    let h = walked c.requires.space.1 i.front i.met i.is e in
    let n = numbers g (goal.at.loop-at-preserved g c).After-offset in
    let found : c.has_step.result ≡ (not l.last.used && nat_le c.args.step l.last.size) =
    c.has_step.ensures.is ∙ ap₂ (λ (u : Bool) (k : ℕ). not u && nat_le c.args.step k) (ap (λ (n : Node). n.used) (at_place h)) n.1 in
    let late : nat_le c.args.from (units l.front + l.last.size) ≡ true = behind c.args.from (units l.front + l.last.size) (omega (arith, n.0, n.1, c.if-end-from.false)) in
    let here : (t : Bool) → c.has_step.result ≡ t → t ≡ (not l.last.used && (nat_le c.args.step l.last.size && nat_le c.args.from (units l.front + l.last.size))) =
    λ t w. sym w ∙ found ∙ sym (ap (λ (v : Bool). not l.last.used && (nat_le c.args.step l.last.size && v)) late ∙ both (not l.last.used) (nat_le c.args.step l.last.size)) in
    record {
      front = l.front;
      met = l.last ∷ i.met;
      is = i.is ∙ ap (λ (l : List Block). l ++ i.met) l.is ∙ append_assoc l.front (l.last ∷ []) i.met;
      ends = sym (c.before-at-in-Some.ensures.before ∙ ap (λ (n : Node). n.before) (at_place h));
      some = λ k. absurd (cc);
      first = elim c.if-has_step.branch [
        | then-has_step w ↦ w.first-is ∙ ap (λ k. Some k) (sym l.name) ∙ sym (from_here c.args.step c.args.from (units l.front) l.last i.met i.some true (here true w.if-has_step.true))
        | else-has_step w ↦ w.first-is ∙ i.first ∙ ap (λ (k : ℕ). first_from c.args.step c.args.from k i.met) n.2 ∙ sym (from_here c.args.step c.args.from (units l.front) l.last i.met i.some false (here false w.if-has_step.false))
      ];
      grows = omega (arith, i.grows, c.has_step.ensures.accesses, c.before-at-in-Some.ensures.accesses, c.offset.ensures.accesses, c.size-size.ensures.accesses);
      least = omega (arith, i.least, c.has_step.ensures.accesses, c.before-at-in-Some.ensures.accesses, c.offset.ensures.accesses, c.size-size.ensures.accesses);
      most = omega (arith, i.most, c.has_step.ensures.accesses, c.before-at-in-Some.ensures.accesses, c.offset.ensures.accesses, c.size-size.ensures.accesses);
    }

pub returns-clause-first : goal.returns-clause-first
returns-clause-first g c =
    let i = c.loop-at.invariant in
    let n = last_none i.front (i.ends ∙ c.in_default.is) in
    i.first ∙ ap (λ (k : ℕ). first_from c.args.step c.args.from k i.met) (ap units n) ∙ ap (first_from c.args.step c.args.from 0) (sym (i.is ∙ ap (λ (l : List Block). l ++ i.met) n))

pub returns-clause-accesses : goal.returns-clause-accesses
returns-clause-accesses g c =
    let i = c.loop-at.invariant in
    let all = ap (λ (l : List Block). length l) i.is in
    (omega (arith, i.grows, c.before-at.ensures.accesses), omega (arith, i.most, all, length-append i.front i.met, c.before-at.ensures.accesses))

pub returns-clause-accesses_all : goal.returns-clause-accesses_all
returns-clause-accesses_all g c zero =
    let i = c.loop-at.invariant in
    let n = last_none i.front (i.ends ∙ c.in_default.is) in
    omega (arith, i.least, c.before-at.ensures.accesses, ap (λ (l : List Block). length l) i.is, ap (λ (l : List Block). length l) n, length-append i.front i.met)
