use Rattle.offset_allocator.proofs.Common.{◌≡◌, ◌∙◌, ◌<◌, ◌≤◌, ◌+◌, ◌-◌, ◌^◌, ℕ, [], Some, Option, IsSome, refl, subst, sym, ap, arith, inl, inr, cases_lt, get_or_past, View, Node, node, up, ◌∷◌}
use Rattle.offset_allocator.proofs.Common.{CanGrant, IsFoundFrom, bins_in, bin_at, blocks_needed, units_needed, padding_to, units}
use Rattle.offset_allocator.proofs.{Sound.Fields, Sound.fields_of, Sound.known_sound, Sound.shown, Linking.Places.at_place, Classes.below_value_up, Refusals.fit_small}
use Rattle.offset_allocator.proofs.Granting.{Call, got, held, padding_fits, first_holds}
use Rattle.offset_allocator.proofs.Moving.Begins.{aligned_begins, aligned_can, aligned_start, head_first, some_begins}
use Rattle.offset_allocator.specs.{Moving.Relocating.WouldBegin, Requests.NewestHolds}
use Rattle.offset_allocator.proofs.reports.beginning.would_begin_counted.Goals as goal
use Rattle.offset_allocator.proofs.reports.beginning.would_begin_counted.{Goals.After-from_residual, Goals.After-offset-offset, Given.Over}

-- the class that is searched from is that of the units needed
low : (n align k : ℕ) → 1 ≤ align → k ≡ up (n + (align - 1)) → k ≡ up (units_needed n align)
low n align k l e = let same : n + (align - 1) ≡ units_needed n align = omega arith in e ∙ ap up same

pub returns-then-size-align-clause-granted : goal.returns-then-size-align-clause-granted
returns-then-size-align-clause-granted g c =
    (λ e. absurd (cc), λ h. absurd (omega (arith, fit_small (units_needed c.args.size c.args.align) c.args.allocator.now c.formed.ensures h.1, c.formed.ensures.fits, c.if-size-align.true, c.requires.alignment)))

pub returns-then-size-align-clause-begins : goal.returns-then-size-align-clause-begins
returns-then-size-align-clause-begins g c w h a =
    let e = (returns-then-size-align-clause-granted g c).1 (aligned_can c.args.size c.args.align c.args.allocator.now w h c.requires.alignment a) in absurd (cc)

pub overflow_sub-align-3 : goal.overflow_sub-align-3
overflow_sub-align-3 g c = c.requires.alignment

pub find_at_or_above-requires-clause-classed : goal.find_at_or_above-requires-clause-classed
find_at_or_above-requires-clause-classed g c = omega (arith, (below_value_up (c.args.size + (c.args.align - 1)) (omega (arith, c.if-size-align.false))).1, c.uint_to_float_round_up-smallest.ensures.is)

-- where no bin from the class on has a block
closed : (g : Over) (c : After-from_residual g) → CanGrant (blocks_needed c.args.align) (units_needed c.args.size c.args.align) c.args.allocator.now → ⊥
closed g c =
    let from = low c.args.size c.args.align _ c.requires.alignment c.uint_to_float_round_up-smallest.ensures.is in
    let P : View → Type 0 = λ u. CanGrant (blocks_needed c.args.align) (units_needed c.args.size c.args.align) u → ⊥ in
    subst P c.allocator.view_is (λ h. elim (cases_lt h.1.0 256)
    [ inl l ↦ h.1.2 (c.in_err-class.ensures.smallest h.1.0 (omega (arith, h.1.1, from)) l) | inr l ↦ h.1.2 (get_or_past _ h.1.0 [] (omega arith)) ])

pub returns-in_err-class-clause-granted : goal.returns-in_err-class-clause-granted
returns-in_err-class-clause-granted g c =
    let can : Type 0 = CanGrant (blocks_needed c.args.align) (units_needed c.args.size c.args.align) c.args.allocator.now in
    subst (λ (o : Option ℕ). (IsSome o → can) × (can → IsSome o)) (sym c.from_residual.ensures) (λ e. absurd (cc), λ h. absurd (closed g c h))

pub returns-in_err-class-clause-begins : goal.returns-in_err-class-clause-begins
returns-in_err-class-clause-begins g c w h a = absurd (closed g c (aligned_can c.args.size c.args.align c.args.allocator.now w h c.requires.alignment a))

pub nonzero_rem-result : goal.nonzero_rem-result
nonzero_rem-result g c = omega (arith, c.requires.alignment)

pub overflow_sub-result : goal.overflow_sub-result
overflow_sub-result g c = omega (arith, c.requires.alignment)

pub nonzero_rem-result-2 : goal.nonzero_rem-result-2
nonzero_rem-result-2 g c = omega (arith, c.requires.alignment)

-- the class that was found, as the view shows it
found : (g : Over) (c : After-offset-offset g) → IsFoundFrom (up (units_needed c.args.size c.args.align)) (bins_in g.T.Index.NodeIndex.MAX (g.T.Tables.cells c.allocator.inside.store.tables).bins) (Some c.in_ok-class.class)
found g c = rw (← low c.args.size c.args.align _ c.requires.alignment c.uint_to_float_round_up-smallest.ensures.is) c.in_ok-class.ensures.smallest

-- the block at its head
call : (g : Over) (c : After-offset-offset g) → Call (fields_of g.T.Tables.cells g.T.Index.NodeIndex.MAX c.allocator.inside) c.in_ok-class.class c.head-name.result
call g c =
    let f : Fields = fields_of g.T.Tables.cells g.T.Index.NodeIndex.MAX c.allocator.inside in
    let first = head_first f c.allocator.invariant c.in_ok-class.class (found g c).1 (found g c).2 in
    record { sound = c.allocator.invariant; classed = (found g c).1; older = first.0; newest = first.1 ∙ ap (λ (x : ℕ). x ∷ first.0) (sym c.head-name.ensures.cell) }

pub overflow_add-result : goal.overflow_add-result
overflow_add-result g c =
    let f : Fields = fields_of g.T.Tables.cells g.T.Index.NodeIndex.MAX c.allocator.inside in
    let p = call g c in
    let start : c.offset-offset.result ≡ units (got p).place.before = c.offset-offset.ensures.cell ∙ ap (λ (n : Node). n.offset) (at_place (held p refl)) in
    let holds : NewestHolds c.in_ok-class.class c.args.size c.args.align (shown f) =
    first_holds (shown f) (known_sound f c.allocator.invariant (shown f) refl).0 c.args.size c.args.align c.in_ok-class.class c.requires.alignment (found g c).0 in
    let fits : c.offset-offset.result + padding_to c.args.align c.offset-offset.result < 2 ^ 32 = subst (λ (o : ℕ). o + padding_to c.args.align o < 2 ^ 32) (sym start)
    (padding_fits p c.args.size (padding_to c.args.align) (holds (got p).place p.older (got p).list_is (p.newest ∙ ap (λ (y : ℕ). y ∷ p.older) (sym (got p).name)))) in
    omega (arith, fits)

pub returns-clause-granted : goal.returns-clause-granted
returns-clause-granted g c =
    let P : View → Type 0 = λ v. bin_at v.bins c.in_ok-class.class ≡ [] → ⊥ in
    (λ e. (omega (arith, c.unused_nodes.ensures, c.min.ensures, c.if-unused_nodes-min.false), (c.in_ok-class.class, (found g c).0, subst P c.allocator.view_is (found g c).2)), λ h. refl)

pub returns-clause-begins : goal.returns-clause-begins
returns-clause-begins g c w h a =
    let f : Fields = fields_of g.T.Tables.cells g.T.Index.NodeIndex.MAX c.allocator.inside in
    let P : View → Type 0 = λ v. (m : ℕ) → WouldBegin (units_needed c.args.size c.args.align) v m → c.offset-offset.result ≡ m in
    let begins = subst P c.allocator.view_is (λ m b. c.offset-offset.ensures.cell ∙ ap (λ (x : ℕ). (node (g.T.Tables.cells c.allocator.inside.store.tables).chain x).offset) c.head-name.ensures.cell
    ∙ some_begins f c.allocator.invariant (units_needed c.args.size c.args.align) m b c.in_ok-class.class (found g c)) in
    ap Some (ap (λ (o : ℕ). o + padding_to c.args.align o) (begins _ (aligned_begins c.args.size c.args.align c.args.allocator.now w h c.requires.alignment a))
    ∙ sym (aligned_start c.args.size c.args.align c.args.allocator.now w h a))

pub returns-then-size-align-clause-starts : goal.returns-then-size-align-clause-starts
returns-then-size-align-clause-starts g c o can b = let e = (returns-then-size-align-clause-granted g c).1 can in absurd (cc)

pub returns-in_err-class-clause-starts : goal.returns-in_err-class-clause-starts
returns-in_err-class-clause-starts g c o can b = absurd (closed g c can)

pub returns-clause-starts : goal.returns-clause-starts
returns-clause-starts g c o can b =
    let f : Fields = fields_of g.T.Tables.cells g.T.Index.NodeIndex.MAX c.allocator.inside in
    let P : View → Type 0 = λ v. (m : ℕ) → WouldBegin (units_needed c.args.size c.args.align) v m → c.offset-offset.result ≡ m in
    let begins = subst P c.allocator.view_is (λ m b. c.offset-offset.ensures.cell ∙ ap (λ (x : ℕ). (node (g.T.Tables.cells c.allocator.inside.store.tables).chain x).offset) c.head-name.ensures.cell
    ∙ some_begins f c.allocator.invariant (units_needed c.args.size c.args.align) m b c.in_ok-class.class (found g c)) in
    ap Some (ap (λ (o : ℕ). o + padding_to c.args.align o) (begins o b))
