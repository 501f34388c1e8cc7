use Rattle.offset_allocator.proofs.Common.{◌∙◌, ◌≡◌, inr, subst}
use Rattle.offset_allocator.proofs.Saving.Reads.{no_fault}
use Rattle.offset_allocator.specs.{Saving.State.words_in, Saving.StateFaults.IsFaultOf}
use Rattle.offset_allocator.proofs.AllocatorOf.read_state.Goals as goal

pub returns-in_err-words-clause-refused : goal.returns-in_err-words-clause-refused
returns-in_err-words-clause-refused g c = no_fault _ c.from_residual.result c.from_residual.ensures.1

pub returns-in_err-words-clause-fault : goal.returns-in_err-words-clause-fault
returns-in_err-words-clause-fault g c = no_fault _ c.from_residual.result c.from_residual.ensures.1

pub returns-in_err-fault-clause-refused : goal.returns-in_err-fault-clause-refused
returns-in_err-fault-clause-refused g c = no_fault _ c.from_residual-in_err-fault.result c.from_residual-in_err-fault.ensures.1

pub returns-in_err-fault-clause-fault : goal.returns-in_err-fault-clause-fault
returns-in_err-fault-clause-fault g c = no_fault _ c.from_residual-in_err-fault.result c.from_residual-in_err-fault.ensures.1

pub returns-in-Err-clause-fault : goal.returns-in-Err-clause-fault
returns-in-Err-clause-fault g c =
    let words : c.deref.result.now ≡ words_in c.args.bytes.now = c.deref.ensures.value ∙ c.in_ok-words.ensures in
    let b = rw c.in-Err.is at c.in_ok-fault.ensures.fault in
    inr (c.if-bytes-ne0.false, subst (λ ws. IsFaultOf g.T.Index.NodeIndex.MAX c.args.most_allocs ws c.in-Err.fault.at c.in-Err.fault.kind) words b)
