use Rattle.std.proofs.Common.{◌<◌, All, List, nat_eq, take, get_or, arith, subst, take_all}
use Rattle.std.proofs.lemmas.List.{length-take}
use Rattle.std.proofs.lemmas.List.Elements.{All-more}
use Rattle.offset_pictures.specs.declared.living.Life.{Life}
use Rattle.offset_pictures.proofs.Counted.{changed_more, near, not_less}
use Rattle.offset_pictures.proofs.figures.changes.Goals as goal

pub begin-requires-clause-units : goal.begin-requires-clause-units
begin-requires-clause-units c =
    let lives : List Life = c.args.lives.now in
    let i = c.loop-life.life-index in
    λ k d less.
    let bound = near k (take i lives) (get_or c.loop-life.changes.items k d) (c.loop-life.invariant.changes k d (omega arith)) c.loop-life.invariant.sizes in
    omega (arith, bound.2, length-take i lives)

pub end-requires-clause-units : goal.end-requires-clause-units
end-requires-clause-units c =
    let lives : List Life = c.args.lives.now in
    let i = c.loop-life.life-index in
    let none : Life = record { number = 0; offset = 0; size = 0; first = 0; last = 0; lived = 0 } in
    λ k d less.
    let before = get_or c.loop-life.changes.items k d in
    let bound = near k (take i lives) before (c.loop-life.invariant.changes k d (omega arith)) c.loop-life.invariant.sizes in
    let begun = not_less (nat_eq (get_or lives i none).first k) before (get_or c.begin.new.changes.items k d) (get_or lives i none).size (c.begin.ensures.counts k d (omega arith)) in
    omega (arith, bound.3, begun.1, length-take i lives)

pub loop-life-preserved : goal.loop-life-preserved
loop-life-preserved c =
    let lives : List Life = c.args.lives.now in
    let i = c.loop-life.life-index in
    let none : Life = record { number = 0; offset = 0; size = 0; first = 0; last = 0; lived = 0 } in
    record {
      len = omega arith;
      changes = λ k d less.
          let before = get_or c.loop-life.changes.items k d in
          let bound = near k (take i lives) before (c.loop-life.invariant.changes k d less) c.loop-life.invariant.sizes in
          changed_more k lives i none before (get_or c.begin.new.changes.items k d) (get_or c.end.new.changes.items k d) (omega arith)
          (c.loop-life.invariant.changes k d less) (omega (arith, bound.1, length-take i lives)) (omega (arith, bound.3, length-take i lives))
          (c.begin.ensures.counts k d (omega arith)) (c.end.ensures.counts k d (omega arith));
      sizes = All-more (λ x. x.size < 4294967296) lives i none (omega arith) c.loop-life.invariant.sizes (omega arith);
    }

pub returns-clause-sizes : goal.returns-clause-sizes
returns-clause-sizes c =
    let lives : List Life = c.args.lives.now in
    subst (All (λ x. x.size < 4294967296)) (take_all c.loop-life.life-index lives (omega arith)) c.loop-life.invariant.sizes
