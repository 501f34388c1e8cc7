use Rattle.offset_allocator.proofs.{Common.ℕ, Common.refl, Common.sym, Common.ap, Common.◌∙◌, Common.arith, Common.Move, Moving.Sliding.moved_one}
use Rattle.offset_allocator.proofs.moves.slide.report.Goals as goal

pub returns-clause-called : goal.returns-clause-called
returns-clause-called g c used =
    let e = c.make.ensures in
    rw (moved_one c.args.from c.args.to (record { name = c.args.name; size = c.args.size; used = used }) (omega arith)) (
      _,
      (
        c.make.result,
        rw (e.0, e.1, e.2, e.3) (sym (ap (λ (n : ℕ). let x : Move = record { name = n; from = c.args.from; to = c.args.to; size = c.args.size } in x) (c.to_name.ensures ∙ c.from_u32.ensures.kept (omega arith)))),
        c.moved.ensures,
      ),
      refl,
    )
