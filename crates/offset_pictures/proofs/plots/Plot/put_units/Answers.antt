use Rattle.std.proofs.Common.{◌≡◌, ◌*◌, ◌∙◌, ◌<◌, ◌≤◌, List, ℕ, ap, subst, sym, arith}
use Rattle.std.specs.Prelude.{string_bytes}
use Rattle.offset_pictures.specs.declared.plots.Plot.{Plot}
use Rattle.offset_pictures.specs.Ticks.{units_tick}
use Rattle.offset_pictures.proofs.Ticked.{some_step, tick_is_left_out, tick_is_put, units_tick_is_put}
use Rattle.offset_pictures.proofs.plots.Plot.put_units.Goals as goal
use Rattle.offset_pictures.proofs.plots.Plot.put_units.Goals.{then-value-from+in_ok-write+in_ok-writeln, else-value-from}

pub loop-k-preserved : goal.loop-k-preserved
loop-k-preserved c =
    let p : Plot = c.args.self.now in
    let step : ℕ = c.from-step.result in
    let old : List ℕ = string_bytes c.args.out.now in
    let out : List ℕ = string_bytes c.loop-k.out in
    let enough : p.units.most ≤ c.round_step.result * c.args.count = c.round_step.ensures.most in
    let positive : 0 < p.units.most = p.units.positive in
    let exact : step ≡ c.round_step.result = c.from-step.ensures in
    let some : 0 < step = subst (λ (n : ℕ). 0 < n) (sym exact) (some_step c.round_step.result c.args.count p.units.most positive enough) in
    elim c.if-value-from.branch [
      | then-value-from+in_ok-write+in_ok-writeln w ↦
          let within : c.loop-k.k * step ≤ p.units.most = omega (arith, w.if-value-from.true, c.from.ensures) in
          tick_is_put (units_tick p) step c.loop-k.k p.units.most old out (string_bytes c.if-value-from.out) some within c.loop-k.invariant
          (ap string_bytes w.out-is
          ∙ units_tick_is_put p (c.loop-k.k * step) w.up-y.result c.saturating_sub.result out _ _ w.up-y.ensures.exact c.saturating_sub.ensures w.in_ok-write.ensures.bytes
          w.in_ok-writeln.ensures.bytes)
      | else-value-from w ↦
          let beyond : p.units.most < c.loop-k.k * step = omega (arith, w.if-value-from.false, c.from.ensures) in
          ap string_bytes w.out-is ∙ tick_is_left_out (units_tick p) step c.loop-k.k p.units.most old out some beyond c.loop-k.invariant
    ]
