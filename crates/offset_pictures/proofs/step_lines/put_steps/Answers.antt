use Rattle.std.proofs.Common.{◌≡◌, ℕ, ◌+◌, ◌≤◌, ◌++◌, ◌∙◌, List, append_assoc, codes, drop, length, ne_eqb, sym, ap, ap₂, subst, arith}
use Rattle.std.proofs.lemmas.List.{length_push}
use Rattle.std.proofs.lemmas.Slice.Zip.{zip_turn, zip_end}
use Rattle.std.specs.Prelude.{string_bytes}
use Rattle.offset_pictures.specs.declared.axes.Axis.{Axis}
use Rattle.offset_pictures.specs.declared.step_lines.Group.{Group}
use Rattle.offset_pictures.specs.{Numerals.pixels_text, StepLines.group_before, StepLines.groups_from, StepLines.groups_text, StepLines.IsAt, Axes.x_of}
use Rattle.offset_pictures.proofs.Grouped.{state_joins, state_begins, state_is_first, last_group, no_group, no_open, steps_are_put}
use Rattle.offset_pictures.proofs.step_lines.put_steps.Goals as goal
use Rattle.offset_pictures.proofs.step_lines.put_steps.Goals.{in_default-via-in-Some-group+else-group-x, in_default-via-in_default, in-Some-group-2+in_ok-pen-in_default, in_default-group}
use Rattle.offset_pictures.proofs.step_lines.put_steps.Goals.{in-Some-group-3+in_ok-put, in_default-group-2}

pub loop-value-preserved-then-group-x : goal.loop-value-preserved-then-group-x
loop-value-preserved-then-group-x c =
    let units : Axis = c.args.plot.now.units in
    let calls : Axis = c.args.plot.now.calls in
    let i : ℕ = length c.loop-value.yielded in
    let t = zip_turn c.args.values.now c.args.xs.now c.loop-value.yielded _ _ c.next.new.self _ (cc) (cc) c.loop-value.yielded_by
    (c.in-Some.value, c.in-Some.x) c.in-Some.is c.next.ensures.steps in
    let at : c.in-Some.x.now ≡ x_of calls i = t.3 0 ∙ c.requires.xs i t.1 in
    let n = length_push c.loop-value.yielded (c.in-Some.value, c.in-Some.x) in
    record {
      at = c.loop-value.invariant.at;
      text = rw n (state_joins units calls i c.in-Some.value.now c.in-Some.x.now c.loop-value.pen.y c.loop-value.group c.in-Some-group.group c.add.new.self c.args.values.now
          (string_bytes c.loop-value.out) _ t.0 (t.2 c.in-Some.value.now) at c.if-group-x.true c.add.ensures.left c.add.ensures.least c.add.ensures.most c.add.ensures.last c.in-Some-group.is
          c.loop-value.invariant.text);
    }

pub loop-value-preserved : goal.loop-value-preserved
loop-value-preserved c =
    let units : Axis = c.args.plot.now.units in
    let calls : Axis = c.args.plot.now.calls in
    let i : ℕ = length c.loop-value.yielded in
    let v = c.in-Some.value.now in
    let x : ℕ = c.in-Some.x.now in
    let values : List ℕ = c.args.values.now in
    let out : List ℕ = string_bytes c.loop-value.out in
    let t = zip_turn values c.args.xs.now c.loop-value.yielded _ _ c.next.new.self _ (cc) (cc) c.loop-value.yielded_by (c.in-Some.value, c.in-Some.x) c.in-Some.is c.next.ensures.steps in
    let at : x ≡ x_of calls i = t.3 0 ∙ c.requires.xs i t.1 in
    let n = length_push c.loop-value.yielded (c.in-Some.value, c.in-Some.x) in
    let text : string_bytes c.match-group-2.out ++ groups_text units c.match-group-2.pen.y (group_before c.new.result (groups_from calls (i + 1) (drop (i + 1) values)))
    ≡ string_bytes c.write.new.self ++ groups_text units c.args.base (groups_from calls 0 values) =
    elim c.match-group-2.branch [
      | in-Some-group-2+in_ok-pen-in_default w ↦
          let g = w.in-Some-group-2.group in
          let put = ap string_bytes w.out-is ∙ w.in_ok-pen-in_default.ensures.text in
          let y = ap (λ p. p.y) w.pen-is ∙ w.in_ok-pen-in_default.ensures.pen in
          elim c.in_default.branch [
            | in_default-via-in-Some-group+else-group-x u ↦
                let same : g ≡ u.in-Some-group.group = let e = u.group-is in let f = w.in-Some-group-2.is in cc in
                let other = ne_eqb g.left x (λ e. u.if-group-x.false (ap (λ x. x.left) (sym same) ∙ e)) in
                ap₂ (λ (h : ℕ) (x : Group). string_bytes c.match-group-2.out ++ groups_text units h (group_before x (groups_from calls (i + 1) (drop (i + 1) values)))) y c.new.ensures
                ∙ state_begins units calls i v x c.loop-value.pen.y c.loop-value.group g values out _ _ t.0 (t.2 v) at other put
                (u.in-Some-group.is ∙ sym u.group-is ∙ w.in-Some-group-2.is) c.loop-value.invariant.text
            | in_default-via-in_default u ↦ absurd (u.in_default.not-Some g (sym u.group-is ∙ w.in-Some-group-2.is))
          ]
      | in_default-group w ↦
          elim c.in_default.branch [
            | in_default-via-in-Some-group+else-group-x u ↦ absurd (w.in_default-group.not-Some u.in-Some-group.group u.group-is)
            | in_default-via-in_default u ↦
                ap₂ (λ (o : List ℕ) (h : ℕ). o ++ groups_text units h (group_before c.new.result (groups_from calls (i + 1) (drop (i + 1) values)))) (ap string_bytes w.out-is)
                (ap (λ p. p.y) w.pen-is)
                ∙ ap (λ (x : Group). out ++ groups_text units c.loop-value.pen.y (group_before x (groups_from calls (i + 1) (drop (i + 1) values)))) c.new.ensures
                ∙ state_is_first units calls i v x c.loop-value.pen.y c.loop-value.group values out _ t.0 (t.2 v) at
                (no_open c.loop-value.group u.in_default.not-Some) c.loop-value.invariant.text
          ]
    ] in
    record {
      at = elim c.match-group-2.branch [
        | in-Some-group-2+in_ok-pen-in_default w ↦ subst (IsAt units) (sym w.pen-is) w.in_ok-pen-in_default.ensures.at
        | in_default-group w ↦ subst (IsAt units) (sym w.pen-is) c.loop-value.invariant.at
      ];
      text = rw n text;
    }

pub returns : goal.returns
returns c =
    let units : Axis = c.args.plot.now.units in
    let calls : Axis = c.args.plot.now.calls in
    let values : List ℕ = c.args.values.now in
    let i : ℕ = length c.loop-value.yielded in
    let end = zip_end values c.args.xs.now c.loop-value.yielded _ _ c.next.new.self _ (cc) (cc) c.loop-value.yielded_by c.in-None.is c.next.ensures.steps in
    let every : length values ≤ i = omega (arith, end, c.requires.enough) in
    let drawn : string_bytes c.match-group-3.out ≡ string_bytes c.write.new.self ++ groups_text units c.args.base (groups_from calls 0 values) =
    elim c.match-group-3.branch [
      | in-Some-group-3+in_ok-put w ↦ last_group units calls i c.loop-value.pen.y c.loop-value.group w.in-Some-group-3.group values (string_bytes c.loop-value.out) _ _ every
          (ap string_bytes w.out-is ∙ w.in_ok-put.ensures.text) w.in-Some-group-3.is c.loop-value.invariant.text
      | in_default-group-2 w ↦ ap string_bytes w.out-is ∙ no_group units calls i c.loop-value.pen.y c.loop-value.group values (string_bytes c.loop-value.out) _ every
          (no_open c.loop-value.group w.in_default-group-2.not-Some) c.loop-value.invariant.text
    ] in
    let begun : string_bytes c.write.new.self ≡ string_bytes c.args.out.now ++ (codes "M" ++ pixels_text calls.start ++ codes " " ++ pixels_text c.args.base) = c.in_ok-write.ensures.bytes
    ∙ simp append_assoc in
    let text = steps_are_put c.args.plot.now c.args.base values (string_bytes c.args.out.now) (string_bytes c.write.new.self) (string_bytes c.match-group-3.out) begun drawn in
    let ended : string_bytes c.write-2.new.self ≡ string_bytes c.match-group-3.out ++ (codes "H" ++ pixels_text (calls.start + calls.span) ++ codes "V" ++ pixels_text c.args.base) =
    c.in_ok-write-2.ensures.bytes ∙ simp append_assoc in
    ended ∙ text
