use Rattle.std.proofs.Common.{◌≡◌, true, inl, inr, ap, arith, refl}
use Rattle.std.proofs.lemmas.Bool.{cases_Bool}
use Rattle.offset_heaps.specs.Heaps.{Heaps, empties, is_empty, slot}
use Rattle.offset_heaps.proofs.{Counting.key_empty, Counting.marks_of, Counting.sum_below, Places.dropped_keeps, Places.shown}
use Rattle.offset_heaps.proofs.HeapsOf.drop_empty.Goals as goal

pub returns-then-count-keep-clause-kept : goal.returns-then-count-keep-clause-kept
returns-then-count-keep-clause-kept g c =
    let marks = marks_of c.self.inside.slots c.self.inside.index.empty.keys c.self.invariant.wide.empty (λ k. (c.self.invariant.noted k).empty) in
    let all = ap (λ (h : Heaps). empties h.slots) c.self.view_is in
    (λ _. omega (arith, marks, all, c.count.ensures, c.if-count-keep.true), λ _. refl)

pub returns-in_err-last-clause-kept : goal.returns-in_err-last-clause-kept
returns-in_err-last-clause-kept g c =
    let marks = marks_of c.self.inside.slots c.self.inside.index.empty.keys c.self.invariant.wide.empty (λ k. (c.self.invariant.noted k).empty) in
    let all = ap (λ (h : Heaps). empties h.slots) c.self.view_is in
    let none = sum_below c.self.inside.index.empty.keys c.in_err-last.ensures.last in
    (λ _. omega (arith, marks, all, none), λ _. c.from_residual.ensures)

pub returns-clause-kept : goal.returns-clause-kept
returns-clause-kept g c =
    let marks = marks_of c.self.inside.slots c.self.inside.index.empty.keys c.self.invariant.wide.empty (λ k. (c.self.invariant.noted k).empty) in
    let all = ap (λ (h : Heaps). empties h.slots) c.self.view_is in
    (λ e. absurd (cc), λ few. absurd (omega (arith, few, marks, all, c.count.ensures, c.if-count-keep.false)))

pub returns-clause-places : goal.returns-clause-places
returns-clause-places g c p =
    let key = (c.self.invariant.noted c.in_ok-last.last).empty in
    let some = c.in_ok-last.ensures.last.1 in
    let empty : is_empty (slot c.in_ok-last.last c.self.inside.slots) ≡ true = key_empty (slot c.in_ok-last.last c.self.inside.slots) (omega (arith, key, some)) in
    let old = shown c.self.inside.slots c.self.inside.limits c.self.inside.made c.self.inside.realm c.last.new.count in
    let realm : c.give_up.new.self.realm ≡ old.realm = elim (cases_Bool c.give_up.result) [
      | inl t ↦ ap (λ (h : Heaps). h.realm) (c.give_up.ensures.heaps t)
      | inr f ↦ ap (λ (h : Heaps). h.realm) (c.give_up.ensures.same f)
    ] in
    rw (← c.self.view_is) (dropped_keeps old c.give_up.new.self c.in_ok-last.last empty c.give_up.ensures.gone realm c.give_up.ensures.others p)
