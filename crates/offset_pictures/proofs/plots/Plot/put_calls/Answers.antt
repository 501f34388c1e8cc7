use Rattle.std.proofs.Common.{◌≡◌, ◌+◌, ◌-◌, ◌*◌, ◌++◌, ◌∙◌, ◌<◌, ◌≤◌, List, [], ◌∷◌, ℕ, codes, ap, ap₂, subst, sym, arith}
use Rattle.std.specs.Prelude.{OnOk, flat_map, string_bytes}
use Rattle.offset_pictures.specs.declared.plots.Plot.{Plot}
use Rattle.offset_pictures.specs.{Scales.round_step, Numerals.pixels_text, Ticks.calls_tick, Ticks.multiples_to}
use Rattle.offset_pictures.proofs.Texts.{in_a_row, is_ended}
use Rattle.offset_pictures.proofs.Ticked.{all_ticks, calls_tick_is_put, some_step, tick_is_left_out, tick_is_put}
use Rattle.offset_pictures.proofs.plots.Plot.put_calls.Goals as goal
use Rattle.offset_pictures.proofs.plots.Plot.put_calls.Goals.{then-value-from+in_ok-write+in_ok-writeln, else-value-from}

pub loop-k-preserved : goal.loop-k-preserved
loop-k-preserved c =
    let p : Plot = c.args.self.now in
    let step : ℕ = c.from-step.result in
    let old : List ℕ = string_bytes c.args.out.now in
    let out : List ℕ = string_bytes c.loop-k.out in
    let enough : p.calls.most ≤ c.round_step.result * c.args.count = c.round_step.ensures.most in
    let positive : 0 < p.calls.most = p.calls.positive in
    let exact : step ≡ c.round_step.result = c.from-step.ensures in
    let some : 0 < step = subst (λ (n : ℕ). 0 < n) (sym exact) (some_step c.round_step.result c.args.count p.calls.most positive enough) in
    elim c.if-value-from.branch [
      | then-value-from+in_ok-write+in_ok-writeln w ↦
          let within : c.loop-k.k * step ≤ p.calls.most - 1 = omega (arith, w.if-value-from.true, c.from.ensures) in
          tick_is_put (calls_tick p) step c.loop-k.k (p.calls.most - 1) old out (string_bytes c.if-value-from.out) some within c.loop-k.invariant
          (ap string_bytes w.out-is ∙ calls_tick_is_put p (c.loop-k.k * step) w.right.result c.bottom.result c.bottom-2.result out _ _ w.right.ensures.exact c.bottom.ensures.is c.bottom-2.ensures.is
          w.in_ok-write.ensures.bytes w.in_ok-writeln.ensures.bytes)
      | else-value-from w ↦
          let beyond : p.calls.most - 1 < c.loop-k.k * step = omega (arith, w.if-value-from.false, c.from.ensures) in
          ap string_bytes w.out-is ∙ tick_is_left_out (calls_tick p) step c.loop-k.k (p.calls.most - 1) old out some beyond c.loop-k.invariant
    ]

pub returns : goal.returns
returns c =
    let p : Plot = c.args.self.now in
    let step : ℕ = c.from-step.result in
    let old : List ℕ = string_bytes c.args.out.now in
    let out : List ℕ = string_bytes c.loop-k.out in
    let new : List ℕ = string_bytes c.writeln-2.new.self in
    let most : p.calls.most ≤ c.round_step.result * c.args.count = c.round_step.ensures.most in
    let positive : 0 < p.calls.most = p.calls.positive in
    let exact : step ≡ c.round_step.result = c.from-step.ensures in
    let some : 0 < step = subst (λ (n : ℕ). 0 < n) (sym exact) (some_step c.round_step.result c.args.count p.calls.most positive most) in
    let enough : p.calls.most - 1 ≤ step * c.args.count = subst (λ (n : ℕ). p.calls.most - 1 ≤ n * c.args.count) (sym exact) (omega arith) in
    let every : c.args.count + 1 ≤ c.loop-k.k = omega (arith, c.loop-k-test.false, c.from-k-end.ensures) in
    let marked : out ≡ old ++ flat_map (calls_tick p) (multiples_to (round_step p.calls.most c.args.count) (p.calls.most - 1)) =
    all_ticks (calls_tick p) step c.args.count c.loop-k.k (p.calls.most - 1) old out some enough every c.loop-k.invariant
    ∙ ap (λ (n : ℕ). old ++ flat_map (calls_tick p) (multiples_to n (p.calls.most - 1))) (exact ∙ c.round_step.ensures.is) in
    let a : List ℕ = codes "<text class='end' x='" in
    let b : List ℕ = codes "'>call</text>\n" in
    let put : OnOk c.writeln-2.result (new ≡ out ++ in_a_row a (pixels_text (p.calls.start - 800) ∷ codes "' y='" ∷ pixels_text (p.units.start + p.units.span + 2600) ∷ b ∷ [])) =
    subst (λ (t : List ℕ). OnOk c.writeln-2.result (new ≡ t))
    (ap₂ (λ (x y : ℕ). out ++ in_a_row a (pixels_text x ∷ codes "' y='" ∷ pixels_text (y + 2600) ∷ b ∷ [])) c.saturating_sub.ensures c.bottom-2.ensures.is) c.writeln-2.ensures.bytes in
    is_ended c.writeln-2.result (flat_map (calls_tick p) (multiples_to (round_step p.calls.most c.args.count) (p.calls.most - 1))) a
    (pixels_text (p.calls.start - 800) ∷ codes "' y='" ∷ pixels_text (p.units.start + p.units.span + 2600) ∷ b ∷ []) old out new marked put
