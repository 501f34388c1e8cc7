use Rattle.offset_heaps.proofs.Spaces.{call_goes, spaces_stay}
use Rattle.offset_heaps.proofs.laws.each_heap_is_a_space.Goals as goal

pub returns-clause-call : goal.returns-clause-call
returns-clause-call c = call_goes

pub returns-clause-calls : goal.returns-clause-calls
returns-clause-calls c = spaces_stay
