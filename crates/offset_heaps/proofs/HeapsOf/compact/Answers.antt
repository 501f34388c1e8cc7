use Rattle.std.proofs.Common.{◌≡◌, ◌+◌, ◌*◌, ◌≤◌, ◌^◌, ap, arith, length, mul-le-mul_left, subst, sym, refl}
use Rattle.offset_heaps.proofs.{Alignments.compacts_keep, Compacted.sizes_compacted, Limited.compact_limited, Limited.sound_levels, Places.shown}
use Rattle.offset_heaps.proofs.HeapsOf.compact.Goals as goal

pub invariant_of-self : goal.invariant_of-self
invariant_of-self g c =
    let all = c.compact_all.ensures in
    sound_levels _ _ _ _ _ _ _ c.self.invariant all.len all.wide all.noted all.levels (λ k. compact_limited _ _ (all.done k))

pub returns-clause-sizes : goal.returns-clause-sizes
returns-clause-sizes g c =
    let old = shown c.self.inside.slots c.self.inside.limits c.self.inside.made c.self.inside.realm c.self.inside.accesses in
    let new = shown c.compact_all.new.slots c.self.inside.limits c.self.inside.made c.self.inside.realm c.compact_all.new.count in
    rw (← c.self.view_is) (sizes_compacted old new (record { heaps = c.compact_all.ensures.done; rest = refl }))

pub returns-clause-aligned : goal.returns-clause-aligned
returns-clause-aligned g c =
    let old = shown c.self.inside.slots c.self.inside.limits c.self.inside.made c.self.inside.realm c.self.inside.accesses in
    let new = shown c.compact_all.new.slots c.self.inside.limits c.self.inside.made c.self.inside.realm c.compact_all.new.count in
    rw (← c.self.view_is) (compacts_keep old new (record { heaps = c.compact_all.ensures.done; rest = refl }))

pub returns-clause-moved : goal.returns-clause-moved
returns-clause-moved g c = rw (← c.self.view_is) c.compact_all.ensures.moved

pub returns-clause-accesses : goal.returns-clause-accesses
returns-clause-accesses g c =
    let is = c.self.invariant in
    let all = c.compact_all.ensures.accesses in
    rw (← c.self.view_is) (λ bits enough.
    let low = is.low bits (subst (λ n. n ≤ 2 ^ bits) (sym is.numbers) enough) in
    let more : length c.self.inside.slots * (12 * c.self.inside.index.one.height + 10) ≤ length c.self.inside.slots * (12 * bits + 10) =
    mul-le-mul_left (length c.self.inside.slots) (omega (arith, low)) in
    let now : length c.self.inside.slots * (12 * bits + 10) ≡ (c.self.inside.limits.most + c.self.inside.limits.most_larger) * (12 * bits + 10) =
    ap (λ n. n * (12 * bits + 10)) is.numbers in
    omega (arith, more, now, all))

pub returns-clause-done : goal.returns-clause-done
returns-clause-done g c = rw (← c.self.view_is) c.compact_all.ensures.all
