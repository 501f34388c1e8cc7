use Rattle.offset_allocator.proofs.Common.{◌≡◌, ℕ, ◌+◌, ◌-◌, ◌<◌, ◌≤◌, ◌∙◌, None, Some, ap, arith, refl, subst, sym, up, View, max_size, units_needed, blocks_needed, AdmitsBlocks, Aligns}
use Rattle.offset_allocator.proofs.{Sound.Fields, Sound.shown, Sound.fields_of, Sound.known_sound, Classes.below_value_up, Granting.first_holds, Served.aligns_counted, Served.past_refuses}
use Rattle.offset_allocator.proofs.AllocatorOf.serve.Goals as goal

pub returns-then-size-align-clause-step : goal.returns-then-size-align-clause-step
returns-then-size-align-clause-step g c =
    let f : Fields = fields_of g.T.Tables.cells g.T.Index.NodeIndex.MAX c.self.inside in
    let P : View → Type 0 = λ u. Aligns c.args.size c.args.align u u None in
    let past : max_size < units_needed c.args.size c.args.align = omega arith in
    subst P c.self.view_is (past_refuses c.args.size c.args.align (shown f) (known_sound f c.self.invariant (shown f) refl).0 past f.accesses)

pub find_at_or_above-requires-clause-classed : goal.find_at_or_above-requires-clause-classed
find_at_or_above-requires-clause-classed g c = grind (arith, below_value_up)

pub returns-in-Some-clause-formed : goal.returns-in-Some-clause-formed
returns-in-Some-clause-formed g c = (known_sound (fields_of g.T.Tables.cells g.T.Index.NodeIndex.MAX c.self.inside) c.self.invariant c.args.self.now c.self.view_is).0

-- the class that is searched from is that of the units needed
low : (n align k : ℕ) → 1 ≤ align → k ≡ up (n + (align - 1)) → k ≡ up (units_needed n align)
low n align k l e = let same : n + (align - 1) ≡ units_needed n align = omega arith in e ∙ ap up same

-- the search for a class counts, and changes nothing else of the view
pub returns-in-Some-clause-step : goal.returns-in-Some-clause-step
returns-in-Some-clause-step g c =
    let f : Fields = fields_of g.T.Tables.cells g.T.Index.NodeIndex.MAX c.self.inside in
    let P : View → Type 0 = λ u. Aligns c.args.size c.args.align u c.grant.new.self (Some c.grant.result) in
    let from = low c.args.size c.args.align _ c.requires c.uint_to_float_round_up-smallest.ensures.is in
    let room = c.admits_blocks.ensures.0 c.if-not-admits_blocks.false in
    let enough : AdmitsBlocks (blocks_needed c.args.align) (shown f) = subst (AdmitsBlocks (blocks_needed c.args.align)) (sym c.self.view_is) (omega (arith, room, c.min.ensures)) in
    subst P c.self.view_is (aligns_counted c.args.size c.args.align (shown f) c.grant.new.self c.find_at_or_above.new.count (Some c.grant.result)
    (enough, c.grant.ensures.step (units_needed c.args.size c.args.align) (rw from at c.in-Some.ensures.smallest)))

pub grant-requires-clause-holds : goal.grant-requires-clause-holds
grant-requires-clause-holds g c =
    let f : Fields = fields_of g.T.Tables.cells g.T.Index.NodeIndex.MAX c.self.inside in
    let from = low c.args.size c.args.align _ c.requires c.uint_to_float_round_up-smallest.ensures.is in
    first_holds (shown f) (known_sound f c.self.invariant (shown f) refl).0 c.args.size c.args.align c.in-Some.class c.requires (rw from at c.in-Some.ensures.smallest).0

pub invariant_of-self : goal.invariant_of-self
invariant_of-self g c = c.self.invariant

pub invariant_of-self-in-Some : goal.invariant_of-self-in-Some
invariant_of-self-in-Some g c = c.self.invariant

pub returns-then-not-admits_blocks-clause-formed : goal.returns-then-not-admits_blocks-clause-formed
returns-then-not-admits_blocks-clause-formed g c = (known_sound (fields_of g.T.Tables.cells g.T.Index.NodeIndex.MAX c.self.inside) c.self.invariant c.args.self.now c.self.view_is).0

pub returns-then-size-align-clause-formed : goal.returns-then-size-align-clause-formed
returns-then-size-align-clause-formed g c = (known_sound (fields_of g.T.Tables.cells g.T.Index.NodeIndex.MAX c.self.inside) c.self.invariant c.args.self.now c.self.view_is).0

pub returns-in-None-clause-formed : goal.returns-in-None-clause-formed
returns-in-None-clause-formed g c = (known_sound (fields_of g.T.Tables.cells g.T.Index.NodeIndex.MAX c.self.inside) c.self.invariant c.args.self.now c.self.view_is).0
