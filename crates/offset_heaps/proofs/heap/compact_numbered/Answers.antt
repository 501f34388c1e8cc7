use Rattle.std.proofs.Common.{◌≡◌, Some, rules, of_calls, refl, subst}
use Rattle.std.specs.List.{FoldsTo}
use denote.Param.Always.{mut_by, mut_next}
use Rattle.offset_heaps.specs.Changing.{IsCalledAt, moves_in, numbered}
use Rattle.offset_heaps.proofs.Compacted.{given, kept_along, numbered_steps}
use Rattle.offset_heaps.proofs.heap.compact_numbered.Goals as goal

pub compact_one-requires : goal.compact_one-requires
compact_one-requires g c = record {
  callable = mut_by _ (λ s. goal.F-IsAlwaysCallable g s.0.now) (λ s a i. search (of_calls, rules)) (λ s a r t i e. mut_next g.F.FnMut s.0.now (s.1.now, (a.0, tt)) tt t.0.now t.0.now (search rules) refl i)
      _ c.requires.callable;
}

pub returns-clause-moved : goal.returns-clause-moved
returns-clause-moved g c = given
    (numbered_steps _ (IsCalledAt g.NI.NonMax.NodeIndexNonMax.number (λ f k range h. goal.F-step g f k range tt h)) (λ q. q.0.now) (λ q. q.0.ghost_name) (λ q. q.1) (λ n. n.now)
    (λ p x q k.
    let s : goal.F-step g p.0.now p.1.now k.0 tt q.0.now = search rules in
    let n : q.0.ghost_name ≡ p.0.ghost_name = search rules in
    let m : q.1 ≡ p.1 = search rules in
    ((k.0, k.1, s), n, m)) _ _ _ c.compact_one.ensures.moved) (λ ran.
    let f : FoldsTo (IsCalledAt g.NI.NonMax.NodeIndexNonMax.number (λ f k range h. goal.F-step g f k range tt h)) c.args.moved.now (numbered c.args.number (moves_in (Some c.args.heap.now))) c.compact_one.new.moved.0.now =
    ran.0 in
    subst (λ m. FoldsTo (IsCalledAt g.NI.NonMax.NodeIndexNonMax.number (λ f k range h. goal.F-step g f k range tt h)) c.args.moved.now (numbered c.args.number (moves_in (Some c.args.heap.now))) m)
    (search (rules, ran.1)) f)

pub returns-clause-callable : goal.returns-clause-callable
returns-clause-callable g c = given
    (numbered_steps _ (IsCalledAt g.NI.NonMax.NodeIndexNonMax.number (λ f k range h. goal.F-step g f k range tt h)) (λ q. q.0.now) (λ q. q.0.ghost_name) (λ q. q.1) (λ n. n.now)
    (λ p x q k.
    let s : goal.F-step g p.0.now p.1.now k.0 tt q.0.now = search rules in
    let n : q.0.ghost_name ≡ p.0.ghost_name = search rules in
    let m : q.1 ≡ p.1 = search rules in
    ((k.0, k.1, s), n, m)) _ _ _ c.compact_one.ensures.moved) (λ ran.
    let f : goal.F-IsAlwaysCallable g c.compact_one.new.moved.0.now =
    kept_along (IsCalledAt g.NI.NonMax.NodeIndexNonMax.number (λ f k range h. goal.F-step g f k range tt h)) (goal.F-IsAlwaysCallable g)
    (λ f x h s may. mut_next g.F.FnMut f (x.0, (s.0, tt)) tt h h s.2 refl may) _ c.args.moved.now c.compact_one.new.moved.0.now ran.0 c.requires.callable in
    search (rules, ran.1, f))
