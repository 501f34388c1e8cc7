use Rattle.std.proofs.Common.{rules, ◌≡◌, ◌^◌, ◌<◌, ◌≤◌, length, arith, ap, subst}
use Rattle.std.proofs.Math.Pow.{pow_mono}
use Rattle.offset_heaps.specs.Maxima.{Row, AreBelow, cell}
use Rattle.offset_heaps.proofs.Trees.{none_enough, step_left, step_right, in_width}
use Rattle.offset_heaps.proofs.maxima.Maxima.first_at_least.Goals.{then-read-least-2, else-read-least-2}
use Rattle.offset_heaps.proofs.maxima.Maxima.first_at_least.Goals as goal

pub returns-then-read-least-clause-first : goal.returns-then-read-least-clause-first
returns-then-read-least-clause-first c =
    let low : cell 1 c.self.inside.cells.items < c.args.least = omega (arith, c.read.ensures.cell, c.if-read-least.true) in
    subst (λ (r : Row). AreBelow c.args.least r.keys) c.self.view_is (none_enough c.self.inside.height c.args.least c.self.inside.cells.items c.self.invariant c.requires low)

pub read-requires-in-loop-level : goal.read-requires-in-loop-level
read-requires-in-loop-level c =
    in_width c.self.inside.height c.loop-level._level c.args.least c.loop-level.place c.self.inside.cells.items c.self.invariant c.loop-level-test.true c.loop-level.invariant.is_first

pub loop-level-preserved : goal.loop-level-preserved
loop-level-preserved c = elim c.if-read-least-2.branch [
  | then-read-least-2 w ↦ record {
    is_first = rw w.place-is (step_right c.self.inside.height c.loop-level._level c.args.least c.loop-level.place c.self.inside.cells.items c.self.invariant c.loop-level-test.true
        c.loop-level.invariant.is_first
        (let less = w.if-read-least-2.true in let cell = c.read-in-loop-level.ensures.cell in omega arith));
    accesses = omega arith;
  }
  | else-read-least-2 w ↦ record {
    is_first = rw w.place-is (step_left c.self.inside.height c.loop-level._level c.args.least c.loop-level.place c.self.inside.cells.items c.self.invariant c.loop-level-test.true
        c.loop-level.invariant.is_first
        (let enough = w.if-read-least-2.false in let cell = c.read-in-loop-level.ensures.cell in omega arith));
    accesses = omega arith;
  }
]

pub overflow_cast-result : goal.overflow_cast-result
overflow_cast-result c =
    let to = c.loop-level.invariant.is_first.to in
    let e : c.loop-level._level ≡ c.self.inside.height = omega arith in
    let same : 2 ^ c.loop-level._level ≡ 2 ^ c.self.inside.height = ap (λ k. 2 ^ k) e in
    let power : 2 ^ c.self.inside.height ≤ 2 ^ 32 = pow_mono c.self.invariant.low in
    let wide = c.self.invariant.wide in
    let len : c.len.result ≡ length c.self.inside.cells.items = search rules in
    record { fits = omega arith }
