use Rattle.offset_allocator.proofs.Always.{reports_nothing}
use Rattle.offset_allocator.proofs.laws.a_full_space_refuses.Goals as goal

pub returns-clause-reports : goal.returns-clause-reports
returns-clause-reports g c full = reports_nothing c.args.allocator.now full
