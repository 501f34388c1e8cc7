use Rattle.offset_allocator.proofs.Common.{ap, arith, refl, sym, ◌∙◌, sum, View, free_sizes, AdmitsBlocks, blocks_needed}
use Rattle.offset_allocator.proofs.{Sound.Fields, Sound.fields_of, Holding.chosen_is, Holding.holder, Holding.none_holds, Holding.hold_fits}
use Rattle.offset_allocator.specs.Tight.{first_holding}
use Rattle.offset_allocator.proofs.tight.refusal_tight_aligned_counted.Goals as goal

pub returns-then-size-allocator-clause-granted : goal.returns-then-size-allocator-clause-granted
returns-then-size-allocator-clause-granted g c =
    let v = c.args.allocator.now in
    (λ e. absurd (cc), λ h. absurd (omega (arith, hold_fits v c.formed.ensures c.args.size c.args.align h, c.if-size-allocator.true, ap (λ (u : View). u.size) c.allocator.view_is)))

pub choose-requires-clause-alignment : goal.choose-requires-clause-alignment
choose-requires-clause-alignment g c = c.requires.alignment

pub returns-in-Some-clause-granted : goal.returns-in-Some-clause-granted
returns-in-Some-clause-granted g c =
    let v : View = c.args.allocator.now in
    let f : Fields = fields_of g.T.Tables.cells g.T.Index.NodeIndex.MAX c.allocator.inside in
    let room : AdmitsBlocks (blocks_needed c.args.align) v = omega (arith, c.unused_nodes.ensures, c.min.ensures, c.if-unused_nodes-min.false) in
    let seen = sym (ap (first_holding c.args.size c.args.align) c.allocator.view_is) ∙ sym (chosen_is f c.allocator.invariant c.args.size c.args.align) in
    let h = holder v c.formed.ensures c.args.size c.args.align c.in-Some.field-0 (seen ∙ sym c.in-Some.ensures.first) in
    (λ e. (room, (h.place, h.there, h.free, h.holds)), λ e. refl)

pub returns-then-allocator-max-clause-granted : goal.returns-then-allocator-max-clause-granted
returns-then-allocator-max-clause-granted g c =
    let v : View = c.args.allocator.now in
    let f : Fields = fields_of g.T.Tables.cells g.T.Index.NodeIndex.MAX c.allocator.inside in
    let room : AdmitsBlocks (blocks_needed c.args.align) v = omega (arith, c.unused_nodes.ensures, c.min.ensures, c.if-unused_nodes-min.false) in
    let seen = sym (ap (first_holding c.args.size c.args.align) c.allocator.view_is) ∙ sym (chosen_is f c.allocator.invariant c.args.size c.args.align) in
    let none = none_holds v c.formed.ensures c.args.size c.args.align (seen ∙ sym c.in-None.ensures.first) in
    (λ e. absurd (cc), λ h. absurd (none h.1.0 h.1.1 h.1.2 h.1.3))

pub returns-then-allocator-max-clause-why : goal.returns-then-allocator-max-clause-why
returns-then-allocator-max-clause-why g c =
    let v : View = c.args.allocator.now in
    let f : Fields = fields_of g.T.Tables.cells g.T.Index.NodeIndex.MAX c.allocator.inside in
    let room : AdmitsBlocks (blocks_needed c.args.align) v = omega (arith, c.unused_nodes.ensures, c.min.ensures, c.if-unused_nodes-min.false) in
    let seen = sym (ap (first_holding c.args.size c.args.align) c.allocator.view_is) ∙ sym (chosen_is f c.allocator.invariant c.args.size c.args.align) in
    let none = none_holds v c.formed.ensures c.args.size c.args.align (seen ∙ sym c.in-None.ensures.first) in
    let free = c.allocator.invariant.total in
    let total = ap (λ (u : View). sum (free_sizes u.blocks)) c.allocator.view_is in
    let size = ap (λ (u : View). u.size) c.allocator.view_is in
    (room, omega (arith, size, c.if-size-allocator.false), omega (arith, free, total, c.max.ensures, c.if-allocator-max.true), λ h. none h.1.0 h.1.1 h.1.2 h.1.3)

pub returns-else-allocator-max-clause-granted : goal.returns-else-allocator-max-clause-granted
returns-else-allocator-max-clause-granted g c =
    let v : View = c.args.allocator.now in
    let f : Fields = fields_of g.T.Tables.cells g.T.Index.NodeIndex.MAX c.allocator.inside in
    let room : AdmitsBlocks (blocks_needed c.args.align) v = omega (arith, c.unused_nodes.ensures, c.min.ensures, c.if-unused_nodes-min.false) in
    let seen = sym (ap (first_holding c.args.size c.args.align) c.allocator.view_is) ∙ sym (chosen_is f c.allocator.invariant c.args.size c.args.align) in
    let none = none_holds v c.formed.ensures c.args.size c.args.align (seen ∙ sym c.in-None.ensures.first) in
    (λ e. absurd (cc), λ h. absurd (none h.1.0 h.1.1 h.1.2 h.1.3))

pub returns-else-allocator-max-clause-why : goal.returns-else-allocator-max-clause-why
returns-else-allocator-max-clause-why g c =
    let v : View = c.args.allocator.now in
    let f : Fields = fields_of g.T.Tables.cells g.T.Index.NodeIndex.MAX c.allocator.inside in
    let room : AdmitsBlocks (blocks_needed c.args.align) v = omega (arith, c.unused_nodes.ensures, c.min.ensures, c.if-unused_nodes-min.false) in
    let seen = sym (ap (first_holding c.args.size c.args.align) c.allocator.view_is) ∙ sym (chosen_is f c.allocator.invariant c.args.size c.args.align) in
    let none = none_holds v c.formed.ensures c.args.size c.args.align (seen ∙ sym c.in-None.ensures.first) in
    let free = c.allocator.invariant.total in
    let total = ap (λ (u : View). sum (free_sizes u.blocks)) c.allocator.view_is in
    let size = ap (λ (u : View). u.size) c.allocator.view_is in
    (room, omega (arith, free, total, c.max.ensures, c.if-allocator-max.false), λ h. none h.1.0 h.1.1 h.1.2 h.1.3)
