use Rattle.offset_allocator.proofs.Common.{arith}
use Rattle.offset_allocator.proofs.Moving.Begins.{one_relocates, relocated_grants, relocated_before, relocated_same, live_small}
use Rattle.offset_allocator.proofs.AllocatorOf.relocate.Goals as goal

pub returns-clause-step : goal.returns-clause-step
returns-clause-step g c = one_relocates c.args.allocation.name c.args.self.now c.relocate_to.new.self c.relocate_to.result c.relocate_to.ensures.step

pub returns-clause-grants : goal.returns-clause-grants
returns-clause-grants g c = relocated_grants c.args.allocation.name 1 c.args.self.now c.relocate_to.new.self (omega arith) c.relocate_to.ensures.formed c.relocate_to.result c.relocate_to.ensures.step

pub returns-clause-before : goal.returns-clause-before
returns-clause-before g c = relocated_before c.args.allocation.name 1 c.args.self.now c.relocate_to.new.self (omega arith) c.relocate_to.ensures.formed c.relocate_to.result c.relocate_to.ensures.step

pub returns-clause-same : goal.returns-clause-same
returns-clause-same g c = relocated_same c.args.allocation.name 1 c.args.self.now c.relocate_to.new.self (omega arith) c.relocate_to.ensures.formed c.relocate_to.result c.relocate_to.ensures.step

pub returns-clause-accesses : goal.returns-clause-accesses
returns-clause-accesses g c =
    let small = live_small c.args.allocation.name c.args.self.now c.relocate_to.ensures.formed in
    let least = c.relocate_to.ensures.accesses_min (omega (arith, small)) in
    (least, omega (arith, c.relocate_to.ensures.accesses.1))
