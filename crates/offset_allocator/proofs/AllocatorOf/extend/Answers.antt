use Rattle.offset_allocator.proofs.Common.{◌≡◌, ◌∙◌, true, false, length, refl, inr, arith, ap, subst, sym, View, Extends, ends_used, blocks}
use Rattle.offset_allocator.proofs.Extending.{used_at_end, can_widen, cannot_append, adds_counted, extends_done}
use Rattle.offset_allocator.proofs.{Sound.shown, Sound.Fields, Sound.fields_of, Linking.Places.end_place, Reading.used_read}
use Rattle.offset_allocator.proofs.AllocatorOf.extend.Goals as goal
use Rattle.offset_allocator.proofs.AllocatorOf.extend.{Goals.After-is_used-used, Given.Over}

pub is_used-used-requires : goal.is_used-used-requires
is_used-used-requires g c = (end_place c.self.invariant.space).below

pub returns-then-more-self-clause-step : goal.returns-then-more-self-clause-step
returns-then-more-self-clause-step g c = (omega arith, λ h. absurd (let l = h.0 in let s = ap (λ (u : View). u.size) c.self.view_is in omega arith), refl)

-- what is read is whether the last block is used
read : (g : Over) (c : After-is_used-used g) → ends_used (blocks (g.T.Tables.cells c.self.inside.store.tables).chain c.self.inside.store.last) ≡ c.is_used-used.result
read g c = sym (used_at_end (fields_of g.T.Tables.cells g.T.Index.NodeIndex.MAX c.self.inside) c.args.more c.self.invariant) ∙ used_read _ _ _ _ c.self.invariant.space
    ∙ sym (c.is_used-used.ensures.used _ _ c.self.invariant.space)

pub widen-requires-clause-free : goal.widen-requires-clause-free
widen-requires-clause-free g c = read g (goal.at.widen-requires-clause-free g c).After-is_used-used ∙ c.if-not-used.true

pub append-requires-clause-used : goal.append-requires-clause-used
append-requires-clause-used g c = read g (goal.at.append-requires-clause-used g c).After-is_used-used ∙ c.if-not-used.false

pub append-requires-clause-enough : goal.append-requires-clause-enough
append-requires-clause-enough g c = omega (arith, c.unused_nodes-left.ensures, ap (λ (u : View). length u.blocks) c.self.view_is, ap (λ (u : View). u.max_allocs) c.self.view_is)

pub returns-then-left-lt2-clause-step : goal.returns-then-left-lt2-clause-step
returns-then-left-lt2-clause-step g c =
    let f : Fields = fields_of g.T.Tables.cells g.T.Index.NodeIndex.MAX c.self.inside in
    let P : View → Type 0 = λ u. Extends c.args.more u (shown (record f { accesses = c.is_used-used.new.count })) false in
    subst P c.self.view_is (
      omega arith,
      cannot_append f c.args.more c.self.invariant (read g (goal.at.returns-then-left-lt2-clause-step g c).After-is_used-used
          ∙ c.if-not-used.false) (omega (arith, c.unused_nodes-left.ensures, ap (λ (u : View). length u.blocks) c.self.view_is, ap (λ (u : View). u.max_allocs) c.self.view_is)),
      refl,
    )

pub returns-then-not-used-clause-step : goal.returns-then-not-used-clause-step
returns-then-not-used-clause-step g c =
    let f : Fields = fields_of g.T.Tables.cells g.T.Index.NodeIndex.MAX c.self.inside in
    let P : View → Type 0 = λ u. Extends c.args.more u c.widen.new.self true in
    subst P c.self.view_is (inr (
      omega arith,
      can_widen f c.args.more c.self.invariant (omega arith) (read g (goal.at.returns-then-not-used-clause-step g c).After-is_used-used ∙ c.if-not-used.true),
      adds_counted c.args.more (shown f) c.widen.new.self c.is_used-used.new.count c.widen.ensures.step,
    ))

pub returns-clause-step : goal.returns-clause-step
returns-clause-step g c = grind (arith, adds_counted)

pub returns-then-more-self-clause-done : goal.returns-then-more-self-clause-done
returns-then-more-self-clause-done g c = extends_done c.args.more c.args.self.now c.args.self.now false (returns-then-more-self-clause-step g c)

pub returns-then-not-used-clause-done : goal.returns-then-not-used-clause-done
returns-then-not-used-clause-done g c = extends_done c.args.more c.args.self.now c.widen.new.self true (returns-then-not-used-clause-step g c)

pub returns-then-left-lt2-clause-done : goal.returns-then-left-lt2-clause-done
returns-then-left-lt2-clause-done g c = extends_done c.args.more c.args.self.now _ false (returns-then-left-lt2-clause-step g c)

pub returns-clause-done : goal.returns-clause-done
returns-clause-done g c = extends_done c.args.more c.args.self.now c.append.new.self true (returns-clause-step g c)

pub invariant_of-self : goal.invariant_of-self
invariant_of-self g c = c.self.invariant
