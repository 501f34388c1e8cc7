use Rattle.std.proofs.Common.{◌≤◌, IfSome, subst}
use Rattle.offset_guarded.specs.Guard.{Guard}
use Rattle.offset_heaps.specs.Heaps.{Heaps, heap_at}
use Rattle.offset_heaps.proofs.Histories.{dropped_gone, gone_dead, never_live, realm_keeps, stays_gone}
use Rattle.offset_heaps.proofs.laws.dropped_heaps_stay_dropped.Goals as goal

pub returns-clause-never : goal.returns-clause-never
returns-clause-never g c p guard dropped later there own puts steps =
    let realms = subst (λ (hs : Heaps). IfSome (heap_at p.heap hs) (λ (h : Guard). h.realm ≤ hs.made)) c.heaps.view_is (c.heaps.invariant.realms p.heap) in
    let made = subst (λ o. IfSome o (λ (h : Guard). h.realm ≤ c.args.heaps.now.made)) there realms in
    never_live p dropped later (dropped_gone p guard c.args.heaps.now dropped there made own puts) steps

pub returns-clause-step : goal.returns-clause-step
returns-clause-step g c p hs ks gone step = stays_gone p hs ks gone step

pub returns-clause-dead : goal.returns-clause-dead
returns-clause-dead g c p hs gone live = gone_dead p hs gone live

pub returns-clause-on_heap : goal.returns-clause-on_heap
returns-clause-on_heap g c p k hs ks gone alters = realm_keeps p k hs ks alters gone
