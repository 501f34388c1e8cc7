use Rattle.offset_allocator.proofs.{Common.ℕ, Common.Some, Common.refl, Common.sym, Common.ap, Common.◌∙◌, Common.Node, Common.View, Emptied.last_before, Emptied.last_used_there, Emptied.as_empty}
use Rattle.offset_allocator.proofs.{Emptied.before_live, Emptied.none_used, Linking.Ends.ended, Sound.shown, Sound.fields_of, Sound.known_sound, Linking.Places.at_place, Linking.Places.end_place}
use Rattle.offset_allocator.proofs.{Reading.used_live}
use Rattle.offset_allocator.specs.View.{last_used}
use Rattle.offset_allocator.proofs.AllocatorOf.last_used.Goals as goal

pub is_used-requires : goal.is_used-requires
is_used-requires g c = (end_place c.self.invariant.space).below

pub returns-then-is_used-clause-used : goal.returns-then-is_used-clause-used
returns-then-is_used-clause-used g c =
    used_live c.self.inside.store.last (shown (record (fields_of g.T.Tables.cells g.T.Index.NodeIndex.MAX c.self.inside) { accesses = c.is_used.new.count }))
    (sym (c.is_used.ensures.used _ _ c.self.invariant.space) ∙ c.if-is_used.true)

pub before-requires : goal.before-requires
before-requires g c = (end_place c.self.invariant.space).below

pub returns-clause-used : goal.returns-clause-used
returns-clause-used g c =
    let s = c.self.invariant in
    before_live _ _ s.space.ends s.well.distinct s.well.apart (sym (c.is_used.ensures.used _ _ s.space)
    ∙ c.if-is_used.false) (shown (record (fields_of g.T.Tables.cells g.T.Index.NodeIndex.MAX c.self.inside) { accesses = c.before-2.new.count })) refl _ (c.before-2.ensures.before
    ∙ ap (λ (n : Node). n.before) (at_place (end_place s.space)))

pub returns-clause-none : goal.returns-clause-none
returns-clause-none g c e =
    let s = c.self.invariant in
    let none = none_used _ _ s.space.ends s.well.distinct s.well.apart (sym (c.is_used.ensures.used _ _ s.space)
    ∙ c.if-is_used.false) (sym (c.before-2.ensures.before ∙ ap (λ (n : Node). n.before) (at_place (end_place s.space))) ∙ e) in
    let f = record (fields_of g.T.Tables.cells g.T.Index.NodeIndex.MAX c.self.inside) { accesses = c.before-2.new.count } in
    as_empty (shown f) (known_sound f s (shown f) refl).0 none

pub returns-then-is_used-clause-last : goal.returns-then-is_used-clause-last
returns-then-is_used-clause-last g c =
    let end = end_place c.self.invariant.space in
    let e = ended _ _ c.self.invariant.space.ends in
    let used = sym (ap (λ (n : Node). n.used) (at_place end)) ∙ sym c.is_used.ensures.cell ∙ c.if-is_used.true in
    ap (λ (i : ℕ). Some i) (sym e.name) ∙ sym (last_used_there e.front e.last used) ∙ ap last_used (sym e.is) ∙ ap (λ (u : View). last_used u.blocks) c.self.view_is

pub returns-clause-last : goal.returns-clause-last
returns-clause-last g c =
    let s = c.self.invariant in
    let last = last_before _ _ s.space.ends s.well.distinct s.well.apart (sym (c.is_used.ensures.used _ _ s.space) ∙ c.if-is_used.false) in
    c.before-2.ensures.before ∙ ap (λ (n : Node). n.before) (at_place (end_place s.space)) ∙ sym last ∙ ap (λ (u : View). last_used u.blocks) c.self.view_is
