use Rattle.offset_allocator.proofs.Common.{Bool, if◌then◌else◌, ◌≡◌, ◌∙◌, List, [], ◌∷◌, ◌++◌, Some, None, length, sym, ap, arith, append-nil, append_assoc, length-append, Node, Block, blocks, first_or, last_or}
use Rattle.offset_allocator.proofs.{Linking.Ends.Ended, Linking.Ends.ended, Linking.Ends.last_none, Linking.Places.at_place, Moving.Sliding.walked}
use Rattle.offset_allocator.proofs.moves.runs.begin.Goals as goal

pub before-at-requires : goal.before-at-requires
before-at-requires g c = let h = c.requires.space.1 in (walked h (blocks (g.T.Tables.cells c.args.tables.now).chain c.args.last) [] (sym (append-nil _)) h.ends).below

pub loop-at-init : goal.loop-at-init
loop-at-init g c =
    let h = c.requires.space.1 in
    let all = blocks (g.T.Tables.cells c.args.tables.now).chain c.args.last in
    let f : Ended c.args.last all = ended all c.args.last h.ends in
    record {
      front = f.front;
      met = f.last ∷ [];
      is = f.is;
      ends = sym (c.before-at.ensures.before ∙ ap (λ (n : Node). n.before) (at_place (walked h all [] (sym (append-nil _)) h.ends)));
      first = ap (λ k. Some k) f.name;
      counted = omega (arith, c.before-at.ensures.accesses);
    }

pub before-at-requires-in-Some : goal.before-at-requires-in-Some
before-at-requires-in-Some g c = let i = c.loop-at.invariant in (walked c.requires.space.1 i.front i.met i.is (i.ends ∙ c.in-Some.is)).below

pub loop-at-preserved : goal.loop-at-preserved
loop-at-preserved g c =
    let i = c.loop-at.invariant in
    let e : last_or None i.front ≡ Some c.in-Some.name = i.ends ∙ c.in-Some.is in
    let f : Ended c.in-Some.name i.front = ended i.front c.in-Some.name e in
    let h = walked c.requires.space.1 i.front i.met i.is e in
    record {
      front = f.front;
      met = f.last ∷ i.met;
      is = i.is ∙ ap (λ (l : List Block). l ++ i.met) f.is ∙ append_assoc f.front (f.last ∷ []) i.met;
      ends = sym (c.before-at-in-Some.ensures.before ∙ ap (λ (n : Node). n.before) (at_place h));
      first = ap (λ k. Some k) f.name;
      counted = omega (arith, i.counted, c.before-at-in-Some.ensures.accesses);
    }

pub returns-clause-first : goal.returns-clause-first
returns-clause-first g c =
    let i = c.loop-at.invariant in
    let n = last_none i.front (i.ends ∙ c.in_default.is) in
    let all = blocks (g.T.Tables.cells c.args.tables.now).chain c.args.last in
    ap (λ (v : Bool). if v then last_or None all else first_or None all) c.if-back.false ∙ ap (first_or None) (i.is ∙ ap (λ (l : List Block). l ++ i.met) n) ∙ i.first

pub returns-clause-accesses : goal.returns-clause-accesses
returns-clause-accesses g c =
    let i = c.loop-at.invariant in
    let n = last_none i.front (i.ends ∙ c.in_default.is) in
    let all = blocks (g.T.Tables.cells c.args.tables.now).chain c.args.last in
    omega (arith, i.counted, ap (λ (l : List Block). length l) (i.is ∙ ap (λ (l : List Block). l ++ i.met) n), ap (λ (v : Bool). if v then 0 else length all) c.if-back.false)

pub loop-at-smaller : goal.loop-at-smaller
loop-at-smaller g c =
    let i = c.loop-at.invariant in
    let f = ended i.front c.in-Some.name (i.ends ∙ c.in-Some.is) in
    omega (
      arith,
      i.counted,
      ap (λ (l : List Block). length l) i.is,
      ap (λ (l : List Block). length l) f.is,
      length-append i.front i.met,
      length-append f.front (f.last ∷ []),
      c.before-at-in-Some.ensures.accesses,
    )
