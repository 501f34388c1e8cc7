use Rattle.std.proofs.Common.{◌+◌, ◌≤◌, ap, arith, subst}
use Rattle.offset_allocator.specs.View.{IsWellFormed, View}
use Rattle.offset_heaps.proofs.Longer.{can_extend, extends_if}
use Rattle.offset_heaps.proofs.heap.extend_heap.Goals as goal

pub returns-clause-done : goal.returns-clause-done
returns-clause-done g c =
    let fits : c.args.heap.now.space.size + c.args.more ≤ 4294967295 = omega (arith, ap (λ (v : View). v.size) c.allocator.ensures) in
    let known = subst IsWellFormed c.allocator-2.ensures c.is_well_formed.ensures in
    let can = can_extend c.args.limits c.args.number c.args.more c.args.heap.now c.raise_for.new.heap known c.requires.kind fits c.in_ok-raise_for.ensures.raises in
    (λ done. can.0 (c.extend.ensures.done.0 done), λ may. c.extend.ensures.done.1 (can.1 may))

pub returns-clause-change : goal.returns-clause-change
returns-clause-change g c =
    let fits : c.args.heap.now.space.size + c.args.more ≤ 4294967295 = omega (arith, ap (λ (v : View). v.size) c.allocator.ensures) in
    let known = subst IsWellFormed c.allocator-2.ensures c.is_well_formed.ensures in
    extends_if c.args.limits c.args.number c.args.more c.extend.result c.args.heap.now c.raise_for.new.heap c.extend.new.self known c.requires.kind fits c.in_ok-raise_for.ensures.raises
    c.extend.ensures
