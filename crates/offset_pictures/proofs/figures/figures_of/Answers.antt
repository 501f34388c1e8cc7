use Rattle.std.proofs.Common.{◌≡◌, ℕ, ◌-◌, List, arith, ap, sym, ◌∙◌, subst}
use Rattle.std.proofs.lemmas.List.{get_or-map}
use Rattle.std.proofs.lemmas.Grind.{get_or_default_zero}
use Rattle.offset_allocator.specs.declared.reports.StorageReport.{StorageReport}
use Rattle.offset_pictures.specs.declared.course.Course.{Course}
use Rattle.offset_pictures.specs.declared.living.Life.{Life}
use Rattle.offset_pictures.specs.declared.figures.Count.{Count}
use Rattle.offset_pictures.specs.{Figures.counted, Lives.is_on, Lives.life_view}
use Rattle.offset_pictures.proofs.{Counted.IsCount, Counted.none_yet, Counted.none_on, Counted.joins, Peaks.HasSeen, Peaks.has_seen, Peaks.has_seen_none, Peaks.all_seen}
use Rattle.offset_pictures.proofs.figures.figures_of.Goals as goal
use Rattle.offset_pictures.proofs.figures.figures_of.Goals.{then-state-gt0, else-state-gt0}

pub loop-state-init : goal.loop-state-init
loop-state-init c =
    let ls : List Life = c.args.course.now.lives.items in
    record {
      seen = has_seen_none c.start-found.result c.args.course.now c.start-found.ensures (ap counted (none_on (λ _. 1) ls)) (ap counted (none_on (λ l. l.size) ls));
      on = none_yet ls;
    }

pub change-requires-clause-lives : goal.change-requires-clause-lives
change-requires-clause-lives c =
    let before = c.loop-state.state - 1 in
    let d : Count = c.index.result.now in
    let after = joins before c.loop-state.state c.args.course.now.lives.items c.deref.result.now c.in_ok-changes.changes.items c.loop-state.on d (omega arith) c.requires c.deref.ensures.value
    c.in_ok-changes.ensures.sizes c.in_ok-changes.ensures.few c.loop-state.invariant.on (c.in_ok-changes.ensures.changes before d (omega arith)) c.index.ensures in
    omega (arith, after.0)

pub change-requires-clause-units : goal.change-requires-clause-units
change-requires-clause-units c =
    let before = c.loop-state.state - 1 in
    let d : Count = c.index.result.now in
    let after = joins before c.loop-state.state c.args.course.now.lives.items c.deref.result.now c.in_ok-changes.changes.items c.loop-state.on d (omega arith) c.requires c.deref.ensures.value
    c.in_ok-changes.ensures.sizes c.in_ok-changes.ensures.few c.loop-state.invariant.on (c.in_ok-changes.ensures.changes before d (omega arith)) c.index.ensures in
    omega (arith, after.1)

pub change-requires-clause-few_units : goal.change-requires-clause-few_units
change-requires-clause-few_units c =
    let before = c.loop-state.state - 1 in
    let d : Count = c.index.result.now in
    let after = joins before c.loop-state.state c.args.course.now.lives.items c.deref.result.now c.in_ok-changes.changes.items c.loop-state.on d (omega arith) c.requires c.deref.ensures.value
    c.in_ok-changes.ensures.sizes c.in_ok-changes.ensures.few c.loop-state.invariant.on (c.in_ok-changes.ensures.changes before d (omega arith)) c.index.ensures in
    omega (arith, after.3)

pub loop-state-preserved : goal.loop-state-preserved
loop-state-preserved c =
    let course : Course = c.args.course.now in
    let ls : List Life = course.lives.items in
    let s = c.loop-state.state in
    let r : StorageReport = c.index-in-loop-state-2.result.now in
    let here : (n : ℕ) → Type 0 = λ n. IsCount (λ x. is_on n (life_view x)) ls c.if-state-gt0.on in
    let on : here s =
    elim c.if-state-gt0.branch [
      | then-state-gt0 w ↦
          let before = c.loop-state.state - 1 in
          let d : Count = w.index.result.now in
          let after = joins before c.loop-state.state c.args.course.now.lives.items c.deref.result.now c.in_ok-changes.changes.items c.loop-state.on d (omega arith) c.requires c.deref.ensures.value
          c.in_ok-changes.ensures.sizes c.in_ok-changes.ensures.few c.loop-state.invariant.on (c.in_ok-changes.ensures.changes before d (omega arith)) w.index.ensures in
          record {
            lives = omega (arith, ap (λ x. x.lives) w.on-is, w.change.ensures.lives, after.0);
            units = omega (arith, ap (λ x. x.units) w.on-is, w.change.ensures.units, after.1);
          }
      | else-state-gt0 w ↦ subst here (omega arith)
          (record { lives = ap (λ x. x.lives) w.on-is ∙ c.loop-state.invariant.on.lives; units = ap (λ x. x.units) w.on-is ∙ c.loop-state.invariant.on.units })
    ] in
    record {
      seen = has_seen s c.loop-state.found c.see.new.self course r _ _ _ _ c.see.ensures c.counted.ensures (c.counted-live.ensures ∙ ap counted on.lives)
          (c.counted_units-used.ensures ∙ ap counted on.units) (c.index-in-loop-state.ensures ∙ get_or_default_zero course.sizes.items s c.index-in-loop-state.result.now (omega arith))
          (ap (λ (x : StorageReport). x.largest_free_region) c.index-in-loop-state-2.ensures ∙ sym (get_or-map (λ (x : StorageReport). x.largest_free_region) course.reports.items s r 0 (omega arith)))
          (ap (λ (x : StorageReport). x.total_free_space) c.index-in-loop-state-2.ensures ∙ sym (get_or-map (λ (x : StorageReport). x.total_free_space) course.reports.items s r 0 (omega arith)))
          c.loop-state.invariant.seen;
      on = subst here (omega arith) on;
    }

pub returns : goal.returns
returns c = let done : c.loop-state.state ≡ c.min-states.result = omega arith in
    all_seen c.loop-state.found c.args.course.now (subst (λ n. HasSeen n c.loop-state.found c.args.course.now) (done ∙ c.min-states.ensures ∙ (omega arith)) c.loop-state.invariant.seen)
