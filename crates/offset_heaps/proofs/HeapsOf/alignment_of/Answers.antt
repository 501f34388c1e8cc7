use Rattle.std.proofs.Common.{◌∙◌, ap, sym}
use Rattle.std.proofs.lemmas.Bool.{false≢true}
use Rattle.offset_heaps.specs.Heaps.{Heaps}
use Rattle.offset_heaps.proofs.{Places.live_place, Places.live_ticket, Places.not_live_elsewhere, Places.shown, Takers.own_here}
use Rattle.offset_heaps.proofs.HeapsOf.alignment_of.Goals as goal

pub returns-then-realm-self-clause-live : goal.returns-then-realm-self-clause-live
returns-then-realm-self-clause-live g c = (
  λ h. absurd (false≢true h),
  λ live. absurd (not_live_elsewhere c.args.place c.args.self.now (λ e. (rw c.split-own.ensures at c.if-realm-self.true) (e ∙ sym (ap (λ (h : Heaps). h.realm) c.self.view_is))) live.0),
)

pub returns-clause-live : goal.returns-clause-live
returns-clause-live g c =
    let old = shown c.self.inside.slots c.self.inside.limits c.self.inside.made c.self.inside.realm c.self.inside.accesses in
    let own = rw c.split-own.ensures at c.if-realm-self.false in
    let is = rw c.split-own.ensures at c.alignment_at.ensures.live in
    rw (← c.self.view_is) (
      λ some. (live_place c.args.place old own (is.0 some).0, (is.0 some).1),
      λ live. is.1 (live_ticket c.args.place old own live.0, live.1),
    )

pub returns-clause-own : goal.returns-clause-own
returns-clause-own g c =
    let old = shown c.self.inside.slots c.self.inside.limits c.self.inside.made c.self.inside.realm c.self.inside.accesses in
    rw (← c.self.view_is) (own_here c.args.place old c.alignment_at.result (rw c.split-own.ensures at c.if-realm-self.false) (rw c.split-own.ensures at c.alignment_at.ensures.own))
