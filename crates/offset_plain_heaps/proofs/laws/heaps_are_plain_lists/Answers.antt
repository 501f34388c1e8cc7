use Rattle.offset_plain_heaps.proofs.Following.{call_follows, calls_follow, heap_follows}
use Rattle.offset_plain_heaps.proofs.laws.heaps_are_plain_lists.Goals as goal

pub returns-clause-call : goal.returns-clause-call
returns-clause-call l c hs ks r lists valid first last p t = call_follows c hs ks r lists valid first last p t

pub returns-clause-on_heap : goal.returns-clause-on_heap
returns-clause-on_heap l = heap_follows

pub returns-clause-calls : goal.returns-clause-calls
returns-clause-calls l = calls_follow
