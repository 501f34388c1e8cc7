use Rattle.offset_allocator.proofs.Common.{ap, refl, sym, ◌∙◌, View}
use Rattle.offset_allocator.proofs.{Sound.Fields, Sound.fields_of, Holding.chosen_is, Holding.holder, Holding.none_holds}
use Rattle.offset_allocator.specs.Tight.{first_holding}
use Rattle.offset_allocator.proofs.tight.has_block_for_counted.Goals as goal

pub choose-requires-clause-alignment : goal.choose-requires-clause-alignment
choose-requires-clause-alignment g c = c.requires.alignment

pub returns-in-Some-clause-holds : goal.returns-in-Some-clause-holds
returns-in-Some-clause-holds g c =
    let v : View = c.args.allocator.now in
    let f : Fields = fields_of g.T.Tables.cells g.T.Index.NodeIndex.MAX c.allocator.inside in
    let seen = sym (ap (first_holding c.args.size c.args.align) c.allocator.view_is) ∙ sym (chosen_is f c.allocator.invariant c.args.size c.args.align) in
    let h = holder v c.formed.ensures c.args.size c.args.align c.in-Some.field-0 (seen ∙ sym c.in-Some.ensures.first) in
    (λ e. (h.place, h.there, h.free, h.holds), λ e. refl)

pub returns-in-None-clause-holds : goal.returns-in-None-clause-holds
returns-in-None-clause-holds g c =
    let v : View = c.args.allocator.now in
    let f : Fields = fields_of g.T.Tables.cells g.T.Index.NodeIndex.MAX c.allocator.inside in
    let seen = sym (ap (first_holding c.args.size c.args.align) c.allocator.view_is) ∙ sym (chosen_is f c.allocator.invariant c.args.size c.args.align) in
    let none = none_holds v c.formed.ensures c.args.size c.args.align (seen ∙ sym c.in-None.ensures.first) in
    (λ e. absurd (cc), λ h. absurd (none h.0 h.1 h.2 h.3))
