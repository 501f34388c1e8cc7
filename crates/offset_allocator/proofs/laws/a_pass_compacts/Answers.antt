use Rattle.offset_allocator.proofs.Moving.PassDone.{pass_compacts}
use Rattle.offset_allocator.proofs.laws.a_pass_compacts.Goals as goal

pub returns : goal.returns
returns c = λ s v w x some known pass by. pass_compacts s some v w x known pass by
