use Rattle.std.proofs.Common.{◌≡◌, true, ap, sym, ◌∙◌, subst, arith}
use Rattle.offset_heaps.specs.Heaps.{Heaps, heap_at, is_empty, numbers, slot}
use Rattle.offset_heaps.proofs.{Empties.empty_there, Places.dropped_keeps, Places.shown}
use Rattle.offset_heaps.proofs.HeapsOf.drop_heap.Goals as goal

pub returns-clause-done : goal.returns-clause-done
returns-clause-done g c =
    let empty : is_empty (slot c.args.number c.self.inside.slots) ≡ true = sym c.is_empty_at.ensures.empty ∙ c.if-not-is_empty_at.false in (
      λ _. subst (λ (hs : Heaps). is_empty (heap_at c.args.number hs) ≡ true) c.self.view_is empty,
      λ _. c.give_up.ensures.done.1 (empty_there (slot c.args.number c.self.inside.slots) empty),
    )

pub returns-clause-heaps : goal.returns-clause-heaps
returns-clause-heaps g c t = rw (← c.self.view_is) (c.give_up.ensures.heaps t)

pub returns-clause-places : goal.returns-clause-places
returns-clause-places g c p =
    let old = shown c.self.inside.slots c.self.inside.limits c.self.inside.made c.self.inside.realm c.is_empty_at.new.count in
    let empty : is_empty (slot c.args.number c.self.inside.slots) ≡ true = sym c.is_empty_at.ensures.empty ∙ c.if-not-is_empty_at.false in
    let done = c.give_up.ensures.done.1 (empty_there (slot c.args.number c.self.inside.slots) empty) in
    let realm : c.give_up.new.self.realm ≡ old.realm = ap (λ (h : Heaps). h.realm) (c.give_up.ensures.heaps done) in
    rw (← c.self.view_is) (dropped_keeps old c.give_up.new.self c.args.number empty c.give_up.ensures.gone realm c.give_up.ensures.others p)

pub returns-clause-accesses : goal.returns-clause-accesses
returns-clause-accesses g c bits enough =
    let all = ap numbers c.self.view_is in
    let start = ap (λ (h : Heaps). h.accesses) c.self.view_is in
    let asked = c.is_empty_at.ensures.accesses in
    let few = c.give_up.ensures.accesses bits (omega arith) in
    omega arith
