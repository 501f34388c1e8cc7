use Rattle.offset_allocator.proofs.{Common.arith, Served.one_aligns, Served.plain_serves, Served.reported_room, Served.same, Served.granted, Served.can_grant, Served.grants, Served.nearly}
use Rattle.offset_allocator.proofs.{Served.refused}
use Rattle.offset_allocator.proofs.AllocatorOf.allocate.Goals as goal

pub returns-clause-step : goal.returns-clause-step
returns-clause-step g c = one_aligns c.args.size c.args.self.now c.serve.new.self c.serve.result c.serve.ensures.step

pub returns-clause-can_grant : goal.returns-clause-can_grant
returns-clause-can_grant g c =
    can_grant 1 c.args.size c.args.size (λ offset. 0) c.args.self.now c.serve.new.self c.serve.ensures.formed c.serve.result
    (plain_serves c.args.size c.args.self.now c.serve.new.self c.serve.result (returns-clause-step g c))

pub returns-clause-same : goal.returns-clause-same
returns-clause-same g c =
    same 1 c.args.size c.args.size (λ offset. 0) c.args.self.now c.serve.new.self c.serve.ensures.formed c.serve.result
    (plain_serves c.args.size c.args.self.now c.serve.new.self c.serve.result (returns-clause-step g c))

pub returns-clause-nearly : goal.returns-clause-nearly
returns-clause-nearly g c =
    nearly 1 c.args.size c.args.size (λ offset. 0) c.args.self.now c.serve.new.self c.serve.ensures.formed c.serve.result
    (plain_serves c.args.size c.args.self.now c.serve.new.self c.serve.result (returns-clause-step g c))

pub returns-clause-refused : goal.returns-clause-refused
returns-clause-refused g c =
    refused 1 c.args.size c.args.size (λ offset. 0) c.args.self.now c.serve.new.self c.serve.ensures.formed c.serve.result
    (plain_serves c.args.size c.args.self.now c.serve.new.self c.serve.result (returns-clause-step g c))

pub returns-clause-granted : goal.returns-clause-granted
returns-clause-granted g c l =
    let served = plain_serves c.args.size c.args.self.now c.serve.new.self c.serve.result (returns-clause-step g c) in
    grind (arith, granted, served, reported_room)

pub returns-clause-grants : goal.returns-clause-grants
returns-clause-grants g c =
    let served = plain_serves c.args.size c.args.self.now c.serve.new.self c.serve.result (returns-clause-step g c) in
    grind (arith, grants, served)
