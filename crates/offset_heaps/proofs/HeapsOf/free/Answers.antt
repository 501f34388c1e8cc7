use Rattle.std.proofs.Common.{true, refl, sym, subst, ap, ◌∙◌}
use Rattle.std.proofs.lemmas.Bool.{false≢true}
use Rattle.offset_guarded.specs.Answers as tickets
use Rattle.offset_heaps.specs.Heaps.{Heaps, IsLive}
use Rattle.offset_heaps.specs.Places.{ticket_of}
use Rattle.offset_heaps.proofs.Places.{live_place, live_ticket, not_live_elsewhere, other_realm, same_slots, shown}
use Rattle.offset_heaps.proofs.{Changes.altered, Changes.freed_gone, Changes.freed_others, Limited.frees, Limited.sound_altered, Sound.wide_put}
use Rattle.offset_heaps.proofs.HeapsOf.free.Goals as goal

pub returns-then-realm-self-clause-done : goal.returns-then-realm-self-clause-done
returns-then-realm-self-clause-done g c = (
  λ h. absurd (false≢true h),
  λ live. absurd (not_live_elsewhere c.args.place c.args.self.now (λ e. (rw c.split-number.ensures at c.if-realm-self.true) (e ∙ sym (ap (λ (h : Heaps). h.realm) c.self.view_is))) live),
)

pub returns-then-realm-self-clause-gone : goal.returns-then-realm-self-clause-gone
returns-then-realm-self-clause-gone g c =
    other_realm c.args.place c.args.self.now (λ e. (rw c.split-number.ensures at c.if-realm-self.true) (e ∙ sym (ap (λ (h : Heaps). h.realm) c.self.view_is)))

pub returns-then-not-free-clause-done : goal.returns-then-not-free-clause-done
returns-then-not-free-clause-done g c = (
  λ h. absurd (false≢true h),
  λ live. absurd (false≢true (sym c.if-not-free.true
      ∙ (rw c.split-number.ensures at c.free.ensures.done.1) (live_ticket c.args.place (shown c.self.inside.slots c.self.inside.limits c.self.inside.made c.self.inside.realm c.self.inside.accesses) (rw c.split-number.ensures at c.if-realm-self.false)
      (subst (λ (hs : Heaps). IsLive c.args.place hs) (sym c.self.view_is) live)))),
)

pub returns-then-not-free-clause-others : goal.returns-then-not-free-clause-others
returns-then-not-free-clause-others g c q apart = rw (← c.self.view_is) (same_slots q c.self.inside.realm _ _ (c.free.ensures.same c.if-not-free.true))

pub returns-then-not-free-clause-same : goal.returns-then-not-free-clause-same
returns-then-not-free-clause-same g c e = rw (← c.self.view_is)
    (ap (λ s. let h : Heaps = record { slots = s; limits = c.self.inside.limits; made = c.self.inside.made; realm = c.self.inside.realm; accesses = c.free.new.count } in h)
    (c.free.ensures.same c.if-not-free.true))

pub note-requires-clause-wide : goal.note-requires-clause-wide
note-requires-clause-wide g c =
    let change = c.free.ensures.change c.if-not-free.false in
    rw change.slots (wide_put c.self.inside.slots c.self.inside.index c.split-number.result.0 change.now c.self.invariant.wide)

pub invariant_of-self-2 : goal.invariant_of-self-2
invariant_of-self-2 g c =
    let change = c.free.ensures.change c.if-not-free.false in
    sound_altered _ _ _ _ _ _ _ _ _ c.self.invariant change (frees _ _ _ _ change.by.by) c.note.ensures.wide c.note.ensures.here c.note.ensures.others c.note.ensures.levels

pub returns-clause-done : goal.returns-clause-done
returns-clause-done g c = (
  λ _. subst (λ (hs : Heaps). IsLive c.args.place hs) c.self.view_is (live_place c.args.place (shown c.self.inside.slots c.self.inside.limits c.self.inside.made c.self.inside.realm
      c.self.inside.accesses) (rw c.split-number.ensures at c.if-realm-self.false) (rw c.split-number.ensures at (c.free.ensures.done.0 c.if-not-free.false))),
  λ _. refl,
)

pub returns-clause-gone : goal.returns-clause-gone
returns-clause-gone g c =
    let old = shown c.self.inside.slots c.self.inside.limits c.self.inside.made c.self.inside.realm c.self.inside.accesses in
    let new = shown c.free.new.self c.self.inside.limits c.self.inside.made c.self.inside.realm c.note.new.count in
    let a = altered c.args.place.heap (λ g h. tickets.Frees (ticket_of c.args.place) g h true) old new (rw c.split-number.ensures at (c.free.ensures.change c.if-not-free.false)) refl in
    freed_gone c.args.place old new (rw c.split-number.ensures at c.if-realm-self.false) a

pub returns-clause-others : goal.returns-clause-others
returns-clause-others g c =
    let old = shown c.self.inside.slots c.self.inside.limits c.self.inside.made c.self.inside.realm c.self.inside.accesses in
    let new = shown c.free.new.self c.self.inside.limits c.self.inside.made c.self.inside.realm c.note.new.count in
    let a = altered c.args.place.heap (λ g h. tickets.Frees (ticket_of c.args.place) g h true) old new (rw c.split-number.ensures at (c.free.ensures.change c.if-not-free.false)) refl in
    rw (← c.self.view_is) (freed_others c.args.place old new (rw c.split-number.ensures at c.if-realm-self.false) a)

pub returns-clause-step : goal.returns-clause-step
returns-clause-step g c e =
    let old = shown c.self.inside.slots c.self.inside.limits c.self.inside.made c.self.inside.realm c.self.inside.accesses in
    let new = shown c.free.new.self c.self.inside.limits c.self.inside.made c.self.inside.realm c.note.new.count in
    let a = altered c.args.place.heap (λ g h. tickets.Frees (ticket_of c.args.place) g h true) old new (rw c.split-number.ensures at (c.free.ensures.change c.if-not-free.false)) refl in
    rw (← c.self.view_is) a
