use Rattle.std.proofs.Common.{◌≡◌, ℕ, ◌+◌, ◌-◌, ◌++◌, ◌∙◌, List, length, Some, nat_lt, le-ltb, lt-ltb, refl, ap, subst, sym, arith, rules}
use Rattle.std.specs.{Prelude.string_bytes, Bool.then_some}
use Rattle.offset_pictures.specs.declared.living.Life.{Life}
use Rattle.offset_pictures.specs.declared.plots.Plot.{Plot}
use Rattle.offset_pictures.specs.declared.shapes.Shape.{Shape}
use Rattle.offset_pictures.specs.{Merging.AreMerged, Rectangles.AreRectangles, Rectangles.ages_text}
use Rattle.offset_pictures.proofs.Held.{age_is_put, few_lives, group_is_put, held, many_lives, no_age_to_come, plain_held, titled_held}
use Rattle.offset_pictures.proofs.rectangles.put_rectangles.Goals as goal
use Rattle.offset_pictures.proofs.rectangles.put_rectangles.Goals.{then-is_merged+in_ok-shapes, else-is_merged+in_ok-shapes-2, then-is_merged-3+in_ok-put_plain, else-is_merged-3+in_ok-put_titled}

pub loop-age-preserved : goal.loop-age-preserved
loop-age-preserved c =
    let lives : List Life = c.args.lives.now in
    let shapes : List Shape = c.if-is_merged.shapes.items in
    let h : ℕ → List ℕ = held (nat_lt 20000 (length lives)) c.args.calls shapes lives in
    let age = c.loop-age.age - 1 in
    let filled : string_bytes c.if-is_merged-3.out ≡ string_bytes c.writeln.new.self ++ h age =
    elim c.if-is_merged-3.branch [
      | then-is_merged-3+in_ok-put_plain w ↦ plain_held _ c.args.calls lives age _ _ _ _ (lt-ltb 20000 (length lives) w.if-is_merged-3.true) w.deref.ensures.value (ap string_bytes w.out-is
          ∙ w.in_ok-put_plain.ensures)
      | else-is_merged-3+in_ok-put_titled w ↦ titled_held _ c.args.calls lives age _ _ _ _ (le-ltb _ _ w.if-is_merged-3.false) w.deref-else-is_merged-3.ensures.value
          (ap string_bytes w.out-is ∙ w.in_ok-put_titled.ensures)
    ] in
    age_is_put h c.loop-age.age (string_bytes c.loop-age.out) _ _ (omega arith)
    (group_is_put h age (age + 1) _ (string_bytes c.writeln.new.self) (string_bytes c.if-is_merged-3.out) _ refl c.in_ok-writeln.ensures.bytes filled c.in_ok-writeln-2.ensures.bytes)
    c.loop-age.invariant

pub returns : goal.returns
returns c =
    let plot : Plot = c.args.plot.now in
    let lives : List Life = c.args.lives.now in
    let shapes : List Shape = c.if-is_merged.shapes.items in
    let h : ℕ → List ℕ = held (nat_lt 20000 (length lives)) c.args.calls shapes lives in
    let ended = no_age_to_come h c.loop-age.age (string_bytes c.loop-age.out) _ (omega arith) c.loop-age.invariant in
    let count : c.len-2.result ≡ length shapes = search rules in
    let are : AreRectangles plot lives c.args.calls c.then_some.result (ages_text h) =
    elim c.if-is_merged.branch [
      | then-is_merged+in_ok-shapes w ↦
          let many = lt-ltb 20000 (length lives) w.if-is_merged.true in
          many_lives plot lives c.args.calls shapes c.then_some.result many (subst (AreMerged plot lives) (sym (ap (λ v. v.items) w.shapes-is)) w.in_ok-shapes.ensures)
          (c.then_some.ensures ∙ ap (λ b. then_some b c.len-2.result) many ∙ ap Some count)
      | else-is_merged+in_ok-shapes-2 w ↦
          let few = le-ltb 20000 (length lives) w.if-is_merged.false in
          few_lives plot lives c.args.calls shapes c.then_some.result few (ap (λ v. v.items) w.shapes-is ∙ w.in_ok-shapes-2.ensures) (c.then_some.ensures ∙ ap (λ b. then_some b c.len-2.result) few)
    ] in
    (ages_text h, ended ∙ ap (λ (o : List ℕ). o ++ ages_text h) c.reserve.ensures.bytes, are)
