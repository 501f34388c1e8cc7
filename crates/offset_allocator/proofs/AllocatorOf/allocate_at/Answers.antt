use Rattle.offset_allocator.proofs.{AtOffset.at_can, AtOffset.at_begins, AtOffset.at_counted, AtOffset.at_grants, AtOffset.none_serves, Sound.Fields, Sound.fields_of, Sound.known_sound, Sound.shown}
use Rattle.offset_allocator.proofs.Common.{◌≡◌, None, false≢true, refl, subst, sym, IsWellFormed, View}
use Rattle.offset_allocator.specs.AtOffset.{AllocatesAt, CanGrantAt}
use Rattle.offset_allocator.proofs.AllocatorOf.allocate_at.Goals as goal
use Rattle.offset_allocator.proofs.AllocatorOf.allocate_at.{Goals.After-last_free_to, Goals.After-fill_at, Given.Over}

formed_here : (g : Over) (c : After-last_free_to g) → IsWellFormed c.args.self.now
formed_here g c = (known_sound (fields_of g.T.Tables.cells g.T.Index.NodeIndex.MAX c.self.inside) c.self.invariant c.args.self.now c.self.view_is).0

refuses : (g : Over) (c : After-last_free_to g) → c.last_free_to.result ≡ None → CanGrantAt c.args.offset c.args.size c.args.self.now → ⊥
refuses g c e h =
    let f : Fields = fields_of g.T.Tables.cells g.T.Index.NodeIndex.MAX c.self.inside in
    let there : CanGrantAt c.args.offset c.args.size (shown f) = subst (CanGrantAt c.args.offset c.args.size) (sym c.self.view_is) h in
    none_serves (shown f) c.args.offset c.args.size (c.last_free_to.ensures.none e) there.at

does : (g : Over) (c : After-fill_at g) → AllocatesAt c.args.offset c.args.size c.args.self.now c.fill_at.new.self c.fill_at.result
does g c =
    let f : Fields = fields_of g.T.Tables.cells g.T.Index.NodeIndex.MAX c.self.inside in
    let w = c.fill_at.new.self in
    subst (λ (u : View). AllocatesAt c.args.offset c.args.size u w c.fill_at.result) c.self.view_is
    (at_counted c.args.offset c.args.size (shown f) w c.last_free_to.new.count c.fill_at.result c.fill_at.ensures.step)

pub returns-in-None-clause-granted : goal.returns-in-None-clause-granted
returns-in-None-clause-granted g c = (λ h. absurd (false≢true h), λ h. absurd (refuses g (goal.at.returns-in-None-clause-granted g c).After-last_free_to c.in-None.is h))

pub returns-in-None-clause-step : goal.returns-in-None-clause-step
returns-in-None-clause-step g c =
    let f : Fields = fields_of g.T.Tables.cells g.T.Index.NodeIndex.MAX c.self.inside in
    let left : View = shown (record f { accesses = c.last_free_to.new.count }) in
    let at = (goal.at.returns-in-None-clause-step g c).After-last_free_to in
    subst (λ (u : View). AllocatesAt c.args.offset c.args.size u left None) c.self.view_is
    (λ h. refuses g at c.in-None.is (subst (CanGrantAt c.args.offset c.args.size) c.self.view_is h), refl)

pub returns-in-Some-clause-granted : goal.returns-in-Some-clause-granted
returns-in-Some-clause-granted g c =
    let at = goal.at.returns-in-Some-clause-granted g c in
    at_can c.args.offset c.args.size c.args.self.now c.fill_at.new.self (formed_here g at.After-last_free_to) c.fill_at.result (does g at.After-fill_at)

pub returns-in-Some-clause-grants : goal.returns-in-Some-clause-grants
returns-in-Some-clause-grants g c =
    let at = goal.at.returns-in-Some-clause-grants g c in
    at_grants c.args.offset c.args.size c.args.self.now c.fill_at.new.self (formed_here g at.After-last_free_to) c.fill_at.result (does g at.After-fill_at)

pub returns-in-Some-clause-begins : goal.returns-in-Some-clause-begins
returns-in-Some-clause-begins g c =
    let at = goal.at.returns-in-Some-clause-begins g c in
    at_begins c.args.offset c.args.size c.args.self.now c.fill_at.new.self (formed_here g at.After-last_free_to) c.fill_at.result (does g at.After-fill_at)

pub returns-in-Some-clause-step : goal.returns-in-Some-clause-step
returns-in-Some-clause-step g c = does g (goal.at.returns-in-Some-clause-step g c).After-fill_at
