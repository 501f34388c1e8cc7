use Rattle.offset_allocator.proofs.Common.{◌≡◌, ◌∙◌, ◌<◌, ◌≤◌, ◌+◌, ◌-◌, ◌^◌, ℕ, [], max, sum, subst, ap, arith, inl, inr, cases_lt, get_or_past, View, free_sizes, value, up, down, CanGrant}
use Rattle.offset_allocator.proofs.Common.{size_needed, blocks_needed, units_needed, common_steps}
use Rattle.offset_allocator.proofs.Classes.{past_words, down_law, value_small, below_value_up}
use Rattle.offset_allocator.proofs.{Sound.Fields, Sound.fields_of, Sound.known_sound, Advice.free_within, Advice.too_small, Refusals.is_open, Refusals.total_is}
use Rattle.offset_allocator.proofs.reports.refusal_aligned_counted.Goals as goal

-- the class that is searched from is that of the units needed
low_is : (n align k : ℕ) → 1 ≤ align → k ≡ up (n + (align - 1)) → k ≡ up (units_needed n align)
low_is n align k l e = let same : n + (align - 1) ≡ units_needed n align = omega arith in e ∙ ap up same

-- the class of some units is below that of the request, and of one unit: then the units are too few
few : (n s k d : ℕ) → s < 2 ^ 32 → k ≡ up n → d ≡ down s → d < max k 1 → s < size_needed n
few n s k d h e f l = elim (cases_lt s (size_needed n)) [
  | inl m ↦ m
  | inr m ↦
      let a = (down_law s k h).1 (omega (arith, m, ap value e)) in
      let b = (down_law s 1 h).1 (omega (arith, m, value_small 1 (omega arith))) in
      absurd (omega (arith, a, b, f, l))
]

enough : (n s k d : ℕ) → s < 2 ^ 32 → k ≡ up n → d ≡ down s → max k 1 ≤ d → size_needed n ≤ s
enough n s k d h e f l =
    let a = (down_law s k h).0 (omega (arith, f, l)) in
    let b = (down_law s 1 h).0 (omega (arith, f, l)) in
    omega (arith, a, b, ap value e, value_small 1 (omega arith))

pub returns-then-units-clause-why : goal.returns-then-units-clause-why
returns-then-units-clause-why g c = grind (arith, known_sound, past_words)

pub returns-then-units-clause-granted : goal.returns-then-units-clause-granted
returns-then-units-clause-granted g c =
    let known = known_sound (fields_of g.T.Tables.cells g.T.Index.NodeIndex.MAX c.allocator.inside) c.allocator.invariant c.args.allocator.now c.allocator.view_is in
    (λ e. absurd (cc), λ h. absurd (too_small c.args.allocator.now known.0 (blocks_needed c.args.align) (units_needed c.args.size c.args.align) (returns-then-units-clause-why g c).1 h))

pub returns-then-largest-smallest-clause-why : goal.returns-then-largest-smallest-clause-why
returns-then-largest-smallest-clause-why g c =
    let low = low_is c.args.size c.args.align _ c.requires.alignment c.uint_to_float_round_up-smallest.ensures.is in
    let size = ap (λ (v : View). v.size) c.allocator.view_is in
    grind (arith, common_steps, cases_lt)

pub returns-then-largest-smallest-clause-granted : goal.returns-then-largest-smallest-clause-granted
returns-then-largest-smallest-clause-granted g c =
    let known = known_sound (fields_of g.T.Tables.cells g.T.Index.NodeIndex.MAX c.allocator.inside) c.allocator.invariant c.args.allocator.now c.allocator.view_is in
    (λ e. absurd (cc), λ h. absurd (too_small c.args.allocator.now known.0 (blocks_needed c.args.align) (units_needed c.args.size c.args.align) (returns-then-largest-smallest-clause-why g c).1 h))

pub find_at_or_above-requires-clause-classed : goal.find_at_or_above-requires-clause-classed
find_at_or_above-requires-clause-classed g c = omega (arith, (below_value_up (c.args.size + (c.args.align - 1)) (omega arith)).1, c.uint_to_float_round_up-smallest.ensures.is)

pub returns-in-Some-clause-granted : goal.returns-in-Some-clause-granted
returns-in-Some-clause-granted g c =
    let low = low_is c.args.size c.args.align _ c.requires.alignment c.uint_to_float_round_up-smallest.ensures.is in
    grind (arith, common_steps, is_open)

-- where no bin from the class on has a block
refused : goal.returns-then-uint_to_float_round_down-max-clause-granted
refused g c =
    let low = low_is c.args.size c.args.align _ c.requires.alignment c.uint_to_float_round_up-smallest.ensures.is in
    let P : View → Type 0 = λ u. CanGrant (blocks_needed c.args.align) (units_needed c.args.size c.args.align) u → ⊥ in
    let none = subst P c.allocator.view_is (λ h. elim (cases_lt h.1.0 256)
    [ inl l ↦ h.1.2 (c.in-None.ensures.smallest h.1.0 (omega (arith, h.1.1)) l) | inr l ↦ h.1.2 (get_or_past _ h.1.0 [] (omega arith)) ]) in
    (λ e. absurd (cc), λ h. absurd (none h))

pub returns-then-uint_to_float_round_down-max-clause-granted : goal.returns-then-uint_to_float_round_down-max-clause-granted
returns-then-uint_to_float_round_down-max-clause-granted g c = refused g c

pub returns-then-uint_to_float_round_down-max-clause-why : goal.returns-then-uint_to_float_round_down-max-clause-why
returns-then-uint_to_float_round_down-max-clause-why g c =
    let f : Fields = fields_of g.T.Tables.cells g.T.Index.NodeIndex.MAX c.allocator.inside in
    let known = known_sound f c.allocator.invariant c.args.allocator.now c.allocator.view_is in
    let low = low_is c.args.size c.args.align _ c.requires.alignment c.uint_to_float_round_up-smallest.ensures.is in
    let free = total_is f c.allocator.invariant 0 0 ∙ ap (λ (v : View). sum (free_sizes v.blocks)) c.allocator.view_is in
    let size = ap (λ (v : View). v.size) c.allocator.view_is in
    let total = few (units_needed c.args.size c.args.align) c.allocator.inside.free_total c.uint_to_float_round_up-smallest.result c.uint_to_float_round_down.result
    (omega (arith, free, free_within c.args.allocator.now known.0, known.0.fits)) low c.uint_to_float_round_down.ensures.is
    (omega (arith, c.max.ensures, c.if-uint_to_float_round_down-max.true)) in
    grind (arith, common_steps, refused)

pub returns-else-uint_to_float_round_down-max-clause-granted : goal.returns-else-uint_to_float_round_down-max-clause-granted
returns-else-uint_to_float_round_down-max-clause-granted g c =
    let low = low_is c.args.size c.args.align _ c.requires.alignment c.uint_to_float_round_up-smallest.ensures.is in
    let P : View → Type 0 = λ u. CanGrant (blocks_needed c.args.align) (units_needed c.args.size c.args.align) u → ⊥ in
    let none = subst P c.allocator.view_is (λ h. elim (cases_lt h.1.0 256)
    [ inl l ↦ h.1.2 (c.in-None.ensures.smallest h.1.0 (omega (arith, h.1.1)) l) | inr l ↦ h.1.2 (get_or_past _ h.1.0 [] (omega arith)) ]) in
    (λ e. absurd (cc), λ h. absurd (none h))

pub returns-else-uint_to_float_round_down-max-clause-why : goal.returns-else-uint_to_float_round_down-max-clause-why
returns-else-uint_to_float_round_down-max-clause-why g c =
    let f : Fields = fields_of g.T.Tables.cells g.T.Index.NodeIndex.MAX c.allocator.inside in
    let known = known_sound f c.allocator.invariant c.args.allocator.now c.allocator.view_is in
    let low = low_is c.args.size c.args.align _ c.requires.alignment c.uint_to_float_round_up-smallest.ensures.is in
    let free = total_is f c.allocator.invariant 0 0 ∙ ap (λ (v : View). sum (free_sizes v.blocks)) c.allocator.view_is in
    let total = enough (units_needed c.args.size c.args.align) c.allocator.inside.free_total c.uint_to_float_round_up-smallest.result c.uint_to_float_round_down.result
    (omega (arith, free, free_within c.args.allocator.now known.0, known.0.fits)) low c.uint_to_float_round_down.ensures.is
    (omega (arith, c.max.ensures, c.if-uint_to_float_round_down-max.false)) in
    grind (arith, common_steps, returns-else-uint_to_float_round_down-max-clause-granted)
