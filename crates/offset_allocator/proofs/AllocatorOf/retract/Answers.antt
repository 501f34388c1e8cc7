use Rattle.offset_allocator.proofs.Common.{◌≡◌, ◌≤◌, ◌∙◌, refl, sym, subst, arith, false, false≢true, Bool, View, ends_used, blocks, ◌↔◌, KeepsAll}
use Rattle.std.specs.Bool.{IsTrue}
use Rattle.offset_allocator.specs.Moving.Retracting.{CanRetract, Retracts}
use Rattle.offset_allocator.proofs.{Sound.shown, Sound.fields_of, Sound.known_sound, Moving.Retracted.none_retracts, Moving.Retracted.retracts_counted, Moving.Retracted.retracts_size}
use Rattle.offset_allocator.proofs.{Extending.used_at_end, Reading.used_read, Linking.Places.end_place, AllocatorOf.retract.Goals.After-is_used, AllocatorOf.retract.Given.Over}
use Rattle.offset_allocator.proofs.AllocatorOf.retract.Goals as goal

pub is_used-requires : goal.is_used-requires
is_used-requires g c = (end_place c.self.invariant.space).below

-- what is read is whether the last block is used
read : (g : Over) (c : After-is_used g) → ends_used (blocks (g.T.Tables.cells c.self.inside.store.tables).chain c.self.inside.store.last) ≡ c.is_used.result
read g c = sym (used_at_end (fields_of g.T.Tables.cells g.T.Index.NodeIndex.MAX c.self.inside) c.args.less c.self.invariant) ∙ used_read _ _ _ _ c.self.invariant.space
    ∙ sym (c.is_used.ensures.used _ _ c.self.invariant.space)

pub take_end-requires-clause-free : goal.take_end-requires-clause-free
take_end-requires-clause-free g c = read g (goal.at.take_end-requires-clause-free g c).After-is_used ∙ c.if-is_used.false

pub returns-then-is_used-clause-step : goal.returns-then-is_used-clause-step
returns-then-is_used-clause-step g c =
    let used = read g (goal.at.returns-then-is_used-clause-step g c).After-is_used ∙ c.if-is_used.true in
    subst (λ (v : View). Retracts c.args.less v (shown (record (fields_of g.T.Tables.cells g.T.Index.NodeIndex.MAX c.self.inside) { accesses = c.is_used.new.count })) false) c.self.view_is
    (omega (arith, c.if-less-eq0.false), none_retracts c.args.less (shown (fields_of g.T.Tables.cells g.T.Index.NodeIndex.MAX c.self.inside)) used, refl)

pub returns-then-is_used-clause-done : goal.returns-then-is_used-clause-done
returns-then-is_used-clause-done g c =
    let used = read g (goal.at.returns-then-is_used-clause-done g c).After-is_used ∙ c.if-is_used.true in
    subst (λ (v : View). IsTrue false ↔ (1 ≤ c.args.less → CanRetract c.args.less v)) c.self.view_is
    (λ h. absurd (false≢true h), λ h. absurd (none_retracts c.args.less (shown (fields_of g.T.Tables.cells g.T.Index.NodeIndex.MAX c.self.inside)) used (h (omega (arith, c.if-less-eq0.false)))))

pub returns-clause-step : goal.returns-clause-step
returns-clause-step g c =
    subst (λ (v : View). Retracts c.args.less v c.take_end.new.self c.take_end.result) c.self.view_is
    (retracts_counted c.args.less (shown (fields_of g.T.Tables.cells g.T.Index.NodeIndex.MAX c.self.inside)) c.take_end.new.self c.is_used.new.count c.take_end.result c.take_end.ensures.step)

pub returns-clause-size : goal.returns-clause-size
returns-clause-size g c done =
    retracts_size c.args.less c.args.self.now c.take_end.new.self (known_sound (fields_of g.T.Tables.cells g.T.Index.NodeIndex.MAX c.self.inside) c.self.invariant c.args.self.now c.self.view_is).0
    (subst (λ (b : Bool). Retracts c.args.less c.args.self.now c.take_end.new.self b) done (returns-clause-step g c))

pub returns-clause-kept : goal.returns-clause-kept
returns-clause-kept g c = subst (λ (v : View). KeepsAll v c.take_end.new.self) c.self.view_is c.take_end.ensures.kept
