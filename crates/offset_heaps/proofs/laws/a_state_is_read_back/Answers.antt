use Rattle.std.proofs.Common.{◌+◌, ◌<◌, ap, arith, subst, sym, ℕ, IfSome}
use Rattle.offset_guarded.specs.State as guarded
use Rattle.offset_heaps.specs.{Heaps.Heaps, Heaps.heap_at, State.IsWellFormed}
use Rattle.offset_heaps.proofs.States.{formed, one_of_many, text_of_many}
use Rattle.offset_heaps.proofs.laws.a_state_is_read_back.Goals as goal

pub returns-clause-one : goal.returns-clause-one
returns-clause-one g c hs ks bytes w v s t = one_of_many hs ks bytes w v s t

pub returns-clause-bytes : goal.returns-clause-bytes
returns-clause-bytes g c hs ks bs small few s t = text_of_many hs ks bs small few s t

pub returns-clause-formed : goal.returns-clause-formed
returns-clause-formed g c =
    let f = c.heaps.inside in
    let each = subst (λ (hs : Heaps). (k : ℕ) → k < c.loop-number.number → IfSome (heap_at k hs) (λ h. guarded.IsWellFormed h × (h.space.max_allocs + 1 < g.T.Index.NodeIndex.MAX)))
    (sym c.heaps.view_is) c.loop-number.invariant in
    subst IsWellFormed c.heaps.view_is (formed g.T.Index.NodeIndex.MAX f.slots f.limits f.made f.realm f.accesses f.index c.heaps.invariant
    (λ k l. each k (omega (arith, l, c.loop-number-test.false, c.heaps.invariant.numbers))) (omega arith)
    (omega (arith, ap (λ (hs : Heaps). hs.made) c.heaps.view_is, c.made.ensures, c.made.type_inv)) (omega (arith, ap (λ (hs : Heaps). hs.realm) c.heaps.view_is, c.realm.ensures, c.realm.type_inv)))
