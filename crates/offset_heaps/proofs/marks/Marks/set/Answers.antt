use Rattle.std.proofs.Common.{◌<◌, ◌≤◌, length, arith, ap}
use Rattle.offset_heaps.specs.Maxima.{Row}
use Rattle.offset_heaps.proofs.Counting.{mark_counted, marks_set}
use Rattle.offset_heaps.proofs.marks.Marks.set.Goals.{then-mark, else-mark}
use Rattle.offset_heaps.proofs.marks.Marks.set.Goals as goal

pub overflow_add-self : goal.overflow_add-self
overflow_add-self c =
    let there : c.args.at < length c.self.inside.row.keys = let l = c.requires in let e = ap (λ (r : Row). length r.keys) c.self.view_is in omega (arith, l, e) in
    let counted = mark_counted c.self.inside.marked c.self.inside.row.keys c.args.at c.self.invariant there in
    let few = c.set-was.ensures.few in
    elim c.if-mark.branch [
      | then-mark w ↦ record { fits = omega (arith, counted.1, few, w.key-is) }
      | else-mark w ↦ record { fits = omega (arith, counted.1, few, w.key-is) }
    ]

pub invariant_of-self : goal.invariant_of-self
invariant_of-self c =
    let there : c.args.at < length c.self.inside.row.keys = let l = c.requires in let e = ap (λ (r : Row). length r.keys) c.self.view_is in omega (arith, l, e) in
    let counted = mark_counted c.self.inside.marked c.self.inside.row.keys c.args.at c.self.invariant there in
    let low : c.if-mark.key ≤ 1 = elim c.if-mark.branch [ then-mark w ↦ omega (arith, w.key-is) | else-mark w ↦ omega (arith, w.key-is) ] in
    rw c.set-was.ensures.keys
    (marks_set c.self.inside.marked _ c.self.inside.row.keys c.args.at c.if-mark.key c.self.invariant there low (omega (arith, counted.0, c.set-was.ensures.was)))
