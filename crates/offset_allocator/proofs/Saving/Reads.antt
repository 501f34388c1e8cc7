-- What is said of a fault where memory ran out: nothing.
use Rattle.std.specs.Prelude.{◌≡◌, IfErr, IsErrAnd, Result}
use Rattle.std.proofs.lemmas.Result.{err_from_is_err_and}
use Rattle.offset_allocator.specs.declared.states.state.ReadError.{ReadError}
use Rattle.offset_allocator.specs.declared.states.state.ReadError.TheVariants.{Memory}
use Rattle.offset_allocator.specs.Saving.StateFaults.{IfFault}

pub no_fault : {T F : Type 0} (holds : F → Type 0) (r : Result T (ReadError F)) → IsErrAnd r (λ e. e ≡ Memory) → IfErr r (λ e. IfFault e holds)
no_fault holds r h = let p = err_from_is_err_and r h in rw (p.1, p.2) tt
