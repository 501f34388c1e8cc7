use Rattle.offset_calls.proofs.{Common.◌+◌, Common.◌≤◌, Common.refl, Common.sym, Common.subst, Common.arith, Kept.read_one, Kept.read_none}
use Rattle.offset_calls.specs.Steps.{AreNumbers}
use Rattle.offset_calls.specs.declared.numbers.Numbers.{Numbers}
use Rattle.offset_calls.proofs.numbers.Numbers.read.Goals.{in-Some+in_ok-set, in_default}
use Rattle.offset_calls.proofs.numbers.Numbers.read.Goals as goal

pub loop-i-preserved : goal.loop-i-preserved
loop-i-preserved g c =
    let P : Numbers → Type 0 = λ n. AreNumbers c.args.handles.now (c.loop-i.i + 1) n.by_name.items in
    record {
      numbers = elim c.match-handles-i.branch [
        | in-Some+in_ok-set w ↦ subst P (sym w.self-is)
            (read_one c.args.handles.now c.loop-i.i _ _ _ c.loop-i-test.true c.loop-i.invariant.numbers w.in-Some.handle _ w.in-Some.is w.to_parts.ensures.parts.1 w.in_ok-set.ensures.names)
        | in_default w ↦ subst P (sym w.self-is) (read_none c.args.handles.now c.loop-i.i _ _ _ c.loop-i-test.true c.loop-i.invariant.numbers w.in_default.is (λ x. refl))
      ];
      behind = elim c.match-handles-i.branch [
        | in-Some+in_ok-set w ↦ subst (λ (n : Numbers). n.grants ≤ c.loop-i.i + 1) (sym w.self-is) (omega (arith, w.set.ensures.grants, c.loop-i.invariant.behind))
        | in_default w ↦ subst (λ (n : Numbers). n.grants ≤ c.loop-i.i + 1) (sym w.self-is) (omega (arith, c.loop-i.invariant.behind))
      ];
    }
