use Rattle.offset_allocator.proofs.{Holding.holder, Holding.place_there, Holding.first_is, Classes.down_small, Granting.found_itself, Served.split_as}
use Rattle.offset_allocator.proofs.Common.{◌≡◌, ◌∷◌, Some, ap, arith, refl, sym, subst, ◌∙◌, value, bin_at, remove, View, Splits, padding_to, ◌<◌}
use Rattle.offset_allocator.specs.{Requests.Holds}
use Rattle.offset_allocator.proofs.AllocatorOf.grant_first.Goals as goal

pub bring_first-class-requires : goal.bring_first-class-requires
bring_first-class-requires g c =
    let h = holder c.args.self.now c.formed.ensures c.args.size c.args.align c.args.name c.requires.first in
    record { free = (h.place, h.there, h.name, h.free) }

pub grant-requires-clause-classed : goal.grant-requires-clause-classed
grant-requires-clause-classed g c =
    let h = holder c.args.self.now c.formed.ensures c.args.size c.args.align c.args.name c.requires.first in
    omega (arith, c.bring_first-class.ensures.class h.place h.there h.name, down_small h.place.block.size)

pub grant-requires-clause-filled : goal.grant-requires-clause-filled
grant-requires-clause-filled g c e =
    let h = holder c.args.self.now c.formed.ensures c.args.size c.args.align c.args.name c.requires.first in
    let small : c.bring_first-class.result < 256 = omega (arith, c.bring_first-class.ensures.class h.place h.there h.name, down_small h.place.block.size) in
    let k = c.bring_first-class.result in
    let first = first_is c.args.self.now c.formed.ensures k c.args.name small in
    let q = sym first ∙ sym (ap (λ (u : View). bin_at u.bins k) c.bring_first-class.ensures.first) ∙ e in
    absurd (cc)

pub grant-requires-clause-holds : goal.grant-requires-clause-holds
grant-requires-clause-holds g c p older is newest =
    let v = c.args.self.now in
    let h = holder v c.formed.ensures c.args.size c.args.align c.args.name c.requires.first in
    let small : c.bring_first-class.result < 256 = omega (arith, c.bring_first-class.ensures.class h.place h.there h.name, down_small h.place.block.size) in
    let k = c.bring_first-class.result in
    let first = first_is v c.formed.ensures k c.args.name small in
    let lists : c.args.name ∷ bin_at (remove k c.args.name v.bins) k ≡ p.block.name ∷ older = sym first ∙ sym (ap (λ (u : View). bin_at u.bins k) c.bring_first-class.ensures.first) ∙ newest in
    let named : p.block.name ≡ c.args.name = cc in
    let there = sym (ap (λ (u : View). u.blocks) c.bring_first-class.ensures.first) ∙ is in
    let both : Some p ≡ Some h.place = sym (place_there v c.formed.ensures p c.args.name there named) ∙ place_there v c.formed.ensures h.place c.args.name h.there h.name in
    let same : h.place ≡ p = cc in
    subst (Holds c.args.size c.args.align) same h.holds

pub returns-clause-step : goal.returns-clause-step
returns-clause-step g c =
    let v = c.args.self.now in
    let h = holder v c.formed.ensures c.args.size c.args.align c.args.name c.requires.first in
    let small : c.bring_first-class.result < 256 = omega (arith, c.bring_first-class.ensures.class h.place h.there h.name, down_small h.place.block.size) in
    let k = c.bring_first-class.result in
    let m = c.bring_first-class.new.self in
    let first = first_is v c.formed.ensures k c.args.name small in
    let same = c.bring_first-class.ensures.first in
    let found = found_itself k small (bin_at m.bins k) (λ e. let q = sym first ∙ sym (ap (λ (u : View). bin_at u.bins k) same) ∙ e in absurd (cc)) m.bins refl in
    let P : View → Type 0 = λ u. Splits (value k) c.args.size (padding_to c.args.align) u c.grant.new.self c.grant.result in
    (k, split_as (subst P same (c.grant.ensures.step (value k) found)) v.accesses c.grant.new.self.accesses (padding_to c.args.align) (λ o. refl))
