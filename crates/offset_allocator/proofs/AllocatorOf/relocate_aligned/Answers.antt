use Rattle.offset_allocator.proofs.Moving.Begins.{relocated_aligned, relocated_grants, relocated_before, relocated_same}
use Rattle.offset_allocator.proofs.AllocatorOf.relocate_aligned.Goals as goal

pub relocate_to-requires-clause-alignment : goal.relocate_to-requires-clause-alignment
relocate_to-requires-clause-alignment g c = c.requires.alignment

pub returns-clause-grants : goal.returns-clause-grants
returns-clause-grants g c =
    relocated_grants c.args.allocation.name c.args.align c.args.self.now c.relocate_to.new.self c.requires.alignment c.relocate_to.ensures.formed c.relocate_to.result
    c.relocate_to.ensures.step

pub returns-clause-aligned : goal.returns-clause-aligned
returns-clause-aligned g c =
    relocated_aligned c.args.allocation.name c.args.align c.args.self.now c.relocate_to.new.self c.requires.alignment c.relocate_to.ensures.formed c.relocate_to.result
    c.relocate_to.ensures.step

pub returns-clause-before : goal.returns-clause-before
returns-clause-before g c =
    relocated_before c.args.allocation.name c.args.align c.args.self.now c.relocate_to.new.self c.requires.alignment c.relocate_to.ensures.formed c.relocate_to.result
    c.relocate_to.ensures.step

pub returns-clause-same : goal.returns-clause-same
returns-clause-same g c =
    relocated_same c.args.allocation.name c.args.align c.args.self.now c.relocate_to.new.self c.requires.alignment c.relocate_to.ensures.formed c.relocate_to.result
    c.relocate_to.ensures.step
