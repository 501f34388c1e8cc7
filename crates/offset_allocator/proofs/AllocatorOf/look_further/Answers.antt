use Rattle.offset_allocator.proofs.Common.{Some, None, refl, sym, subst, ◌∙◌, View, AdmitsBlocks, blocks_needed}
use Rattle.offset_allocator.proofs.{Sound.Fields, Sound.shown, Sound.fields_of, Sound.known_sound, Holding.chosen_is, Holding.none_holds, Holding.fills_counted}
use Rattle.offset_allocator.specs.Tight.{FillsFirst}
use Rattle.offset_allocator.proofs.AllocatorOf.look_further.Goals as goal

pub grant_first-requires-clause-first : goal.grant_first-requires-clause-first
grant_first-requires-clause-first g c =
    sym (chosen_is (fields_of g.T.Tables.cells g.T.Index.NodeIndex.MAX c.self.inside) c.self.invariant c.args.size c.args.align) ∙ sym c.in-Some.ensures.first

pub returns-in-None-clause-step : goal.returns-in-None-clause-step
returns-in-None-clause-step g c =
    let f : Fields = fields_of g.T.Tables.cells g.T.Index.NodeIndex.MAX c.self.inside in
    let left : View = shown (record f { accesses = c.choose.new.count }) in
    let e = sym (chosen_is f c.self.invariant c.args.size c.args.align) ∙ sym c.in-None.ensures.first in
    let w = (known_sound f c.self.invariant (shown f) refl).0 in
    subst (λ (u : View). FillsFirst c.args.size c.args.align u left None) c.self.view_is (λ h. none_holds (shown f) w c.args.size c.args.align e h.1.0 h.1.1 h.1.2 h.1.3, refl)

pub returns-in-Some-clause-step : goal.returns-in-Some-clause-step
returns-in-Some-clause-step g c =
    let f : Fields = fields_of g.T.Tables.cells g.T.Index.NodeIndex.MAX c.self.inside in
    let w = c.grant_first.new.self in
    let e = sym (chosen_is f c.self.invariant c.args.size c.args.align) ∙ sym c.in-Some.ensures.first in
    let room = subst (AdmitsBlocks (blocks_needed c.args.align)) (sym c.self.view_is) c.requires.enough in
    let step = c.grant_first.ensures.step in
    subst (λ (u : View). FillsFirst c.args.size c.args.align u w (Some c.grant_first.result)) c.self.view_is
    (fills_counted c.args.size c.args.align (shown f) w c.choose.new.count (Some c.grant_first.result) (room, (step.0, c.in-Some.name, e, step.1)))
