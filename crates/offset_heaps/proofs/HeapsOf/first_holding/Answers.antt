use Rattle.std.proofs.Common.{◌<◌, ◌∙◌, IfSome, ap, length, subst, sym}
use Rattle.offset_heaps.specs.Heaps.{Heaps}
use Rattle.offset_heaps.proofs.HeapsOf.first_holding.Goals as goal

pub returns-clause-first : goal.returns-clause-first
returns-clause-first g c = rw (← c.self.view_is) c.first_holding.ensures.first

pub returns-clause-less : goal.returns-clause-less
returns-clause-less g c = rw (← c.self.view_is) c.first_holding.ensures.less

pub returns-clause-there : goal.returns-clause-there
returns-clause-there g c =
    subst (λ n. IfSome c.first_holding.result (λ k. k < n)) (sym c.self.invariant.numbers ∙ ap (λ (h : Heaps). length h.slots) c.self.view_is) c.first_holding.ensures.there
