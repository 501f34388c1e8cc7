use Rattle.std.proofs.Common.{◌↔◌, ◌+◌, ◌≤◌, ℕ, IsTrue, rules, subst}
use Rattle.offset_allocator.specs.Moving.Retracting.{CanRetract}
use Rattle.offset_guarded.specs.Guard.{Guard}
use Rattle.offset_heaps.specs.Heaps.{Heaps, least_units}
use Rattle.offset_heaps.proofs.Limited.{sound_shorter}
use Rattle.offset_heaps.proofs.heap_mut.HeapMut.retract.Goals as goal

pub invariant_of-heaps : goal.invariant_of-heaps
invariant_of-heaps g c =
    let before : Guard = c.heap_mut.result.now in
    let after : Guard = c.retract_to-result.new.heap in
    let done = subst (λ (n : ℕ). IsTrue c.retract_to-result.result ↔ ((n + c.args.less ≤ before.space.size) × (1 ≤ c.args.less → CanRetract c.args.less before.space))) c.least_units-least.ensures c.retract_to-result.ensures.done in
    sound_shorter g.T.Index.NodeIndex.MAX c.heaps.inside.slots c.heaps.inside.limits c.heaps.inside.made c.heaps.inside.index c.note.new.self c.args.self.now.number before after c.heaps.invariant
    c.heap_mut.ensures.heap c.args.less c.retract_to-result.result done c.retract_to-result.ensures.step c.retract_to-result.ensures.same
    c.note.ensures.wide c.note.ensures.here c.note.ensures.others c.note.ensures.levels

pub returns-clause-change : goal.returns-clause-change
returns-clause-change g c =
    let e = c.retract_to-result.ensures in
    let before : Guard = c.heap_mut.result.now in
    record {
      before = before;
      after = c.retract_to-result.new.heap;
      heap = search rules;
      by = record {
        done = subst (λ (hs : Heaps). IsTrue c.retract_to-result.result
            ↔ ((least_units hs.limits c.args.self.now.number + c.args.less ≤ before.space.size) × (1 ≤ c.args.less → CanRetract c.args.less before.space))) c.heaps.view_is
            (subst (λ (n : ℕ). IsTrue c.retract_to-result.result ↔ ((n + c.args.less ≤ before.space.size) × (1 ≤ c.args.less → CanRetract c.args.less before.space))) c.least_units-least.ensures e.done);
        step = e.step;
        same = e.same;
        serials = e.serials;
        accesses = e.accesses;
      };
      heaps = search rules;
    }
