use Rattle.offset_allocator.proofs.Common.{arith, padding_to, blocks_needed, units_needed}
use Rattle.offset_allocator.proofs.{Served.aligned_serves, Served.same, Served.granted, Served.can_grant, Served.grants, Served.nearly, Served.refused, Served.multiple}
use Rattle.offset_allocator.proofs.AllocatorOf.allocate_aligned.Goals as goal

pub serve-requires : goal.serve-requires
serve-requires g c = c.requires.alignment

pub returns-clause-aligned : goal.returns-clause-aligned
returns-clause-aligned g c = multiple c.args.size c.args.align c.args.self.now c.serve.new.self c.serve.result c.requires.alignment c.serve.ensures.step

pub returns-clause-can_grant : goal.returns-clause-can_grant
returns-clause-can_grant g c =
    can_grant (blocks_needed c.args.align) (units_needed c.args.size c.args.align) c.args.size (padding_to c.args.align) c.args.self.now c.serve.new.self c.serve.ensures.formed c.serve.result
    (aligned_serves c.args.size c.args.align c.args.self.now c.serve.new.self c.serve.result c.serve.ensures.step)

pub returns-clause-same : goal.returns-clause-same
returns-clause-same g c =
    same (blocks_needed c.args.align) (units_needed c.args.size c.args.align) c.args.size (padding_to c.args.align) c.args.self.now c.serve.new.self c.serve.ensures.formed c.serve.result
    (aligned_serves c.args.size c.args.align c.args.self.now c.serve.new.self c.serve.result c.serve.ensures.step)

pub returns-clause-nearly : goal.returns-clause-nearly
returns-clause-nearly g c =
    nearly (blocks_needed c.args.align) (units_needed c.args.size c.args.align) c.args.size (padding_to c.args.align) c.args.self.now c.serve.new.self c.serve.ensures.formed c.serve.result
    (aligned_serves c.args.size c.args.align c.args.self.now c.serve.new.self c.serve.result c.serve.ensures.step)

pub returns-clause-refused : goal.returns-clause-refused
returns-clause-refused g c =
    refused (blocks_needed c.args.align) (units_needed c.args.size c.args.align) c.args.size (padding_to c.args.align) c.args.self.now c.serve.new.self c.serve.ensures.formed c.serve.result
    (aligned_serves c.args.size c.args.align c.args.self.now c.serve.new.self c.serve.result c.serve.ensures.step)

pub returns-clause-granted : goal.returns-clause-granted
returns-clause-granted g c = granted (blocks_needed c.args.align) (units_needed c.args.size c.args.align) c.args.size (padding_to c.args.align) c.args.self.now c.serve.new.self c.serve.ensures.formed
    (let some = c.requires.alignment in omega arith) c.serve.result
    (aligned_serves c.args.size c.args.align c.args.self.now c.serve.new.self c.serve.result c.serve.ensures.step)

pub returns-clause-grants : goal.returns-clause-grants
returns-clause-grants g c = grants (blocks_needed c.args.align) (units_needed c.args.size c.args.align) c.args.size (padding_to c.args.align) c.args.self.now c.serve.new.self c.serve.ensures.formed
    (let some = c.requires.alignment in omega arith) (λ o l. omega arith) c.serve.result
    (aligned_serves c.args.size c.args.align c.args.self.now c.serve.new.self c.serve.result c.serve.ensures.step)
