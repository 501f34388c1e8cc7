use Rattle.std.proofs.Common.{rules, ◌≡◌, ◌^◌, ◌/◌, ◌<◌, ◌≤◌, arith, ◌∙◌, length, refl, sym, subst, ap, drop, slice_set}
use Rattle.std.proofs.lemmas.List.{drop-set-lt}
use Rattle.offset_heaps.specs.Maxima.{Row, cell}
use Rattle.offset_heaps.proofs.Trees.{cell_same, climbs, climbs_within, few_keys, kept, own_cell, place_within, raised}
use Rattle.offset_heaps.proofs.maxima.Maxima.set.Goals as goal

pub larger_of_two-larger-requires-clause-there : goal.larger_of_two-larger-requires-clause-there
larger_of_two-larger-requires-clause-there c =
    let low : c.loop-level._level < c.loop-level.self-inside.height = let e = ap (λ (r : Row). r.height) c.self.view_is in let k = c.loop-level.invariant.height in omega arith in
    let k = climbs_within c.loop-level.self-inside.height c.loop-level._level c.loop-level.place low c.loop-level.invariant.above in
    let wide = c.loop-level.invariant.tree.wide in
    omega (arith, k.1)

pub read-requires : goal.read-requires
read-requires c =
    let low : c.loop-level._level < c.loop-level.self-inside.height = let e = ap (λ (r : Row). r.height) c.self.view_is in let k = c.loop-level.invariant.height in omega arith in
    let k = climbs_within c.loop-level.self-inside.height c.loop-level._level c.loop-level.place low c.loop-level.invariant.above in
    let wide = c.loop-level.invariant.tree.wide in
    omega (arith, k.1)

pub loop-level-preserved : goal.loop-level-preserved
loop-level-preserved c =
    let low : c.loop-level._level < c.loop-level.self-inside.height = let e = ap (λ (r : Row). r.height) c.self.view_is in let k = c.loop-level.invariant.height in omega arith in
    let h = c.loop-level.self-inside.height in
    let k = climbs_within h c.loop-level._level c.loop-level.place low c.loop-level.invariant.above in
    let wide = c.loop-level.invariant.tree.wide in
    record {
      above = climbs h c.loop-level._level c.loop-level.place low c.loop-level.invariant.above;
      tree = rw c.write-in-loop-level.ensures.cells
          (raised h c.loop-level.place (c.loop-level.place / 2) c.larger_of_two-larger.result c.loop-level.self-inside.cells.items c.loop-level.invariant.tree refl k.0 k.1
          c.larger_of_two-larger.ensures.larger);
      larger = rw c.write-in-loop-level.ensures.cells
          (sym (cell_same c.loop-level.self-inside.cells.items (c.loop-level.place / 2) c.larger_of_two-larger.result (omega (arith, k.1, wide))));
      keys = ap (drop (2 ^ h)) c.write-in-loop-level.ensures.cells
          ∙ drop-set-lt (2 ^ h) c.loop-level.self-inside.cells.items (c.loop-level.place / 2) c.larger_of_two-larger.result k.1
          ∙ c.loop-level.invariant.keys;
      height = c.loop-level.invariant.height;
      accesses = omega arith;
    }

pub read-was-requires : goal.read-was-requires
read-was-requires c = place_within c.self.inside.height c.args.at c.len.result c.self.inside.cells.items c.self.invariant (search rules)
    (let e = ap (λ (r : Row). r.keys) c.self.view_is in rw e c.requires)

pub returns-then-was-key-clause-keys : goal.returns-then-was-key-clause-keys
returns-then-was-key-clause-keys c =
    let e = ap (λ (r : Row). r.keys) c.self.view_is in
    subst (λ ks. ks ≡ slice_set ks c.args.at c.args.key) e
    (kept c.self.inside.height c.args.at c.len.result c.args.key c.self.inside.cells.items c.self.invariant (search rules) (sym c.read-was.ensures.cell ∙ c.if-was-key.true))

pub returns-then-was-key-clause-was : goal.returns-then-was-key-clause-was
returns-then-was-key-clause-was c =
    c.read-was.ensures.cell ∙ own_cell c.self.inside.height c.args.at c.len.result c.self.inside.cells.items c.self.invariant (search rules)
    ∙ ap (λ (r : Row). cell c.args.at r.keys) c.self.view_is

pub returns-then-was-key-clause-few : goal.returns-then-was-key-clause-few
returns-then-was-key-clause-few c = subst (λ (r : Row). length r.keys ≤ 2 ^ 32) c.self.view_is (few_keys c.self.inside.height c.self.inside.cells.items c.self.invariant)

pub returns-then-read-larger-clause-was : goal.returns-then-read-larger-clause-was
returns-then-read-larger-clause-was c =
    c.read-was.ensures.cell ∙ own_cell c.self.inside.height c.args.at c.len.result c.self.inside.cells.items c.self.invariant (search rules)
    ∙ ap (λ (r : Row). cell c.args.at r.keys) c.self.view_is

pub returns-then-read-larger-clause-few : goal.returns-then-read-larger-clause-few
returns-then-read-larger-clause-few c = subst (λ (r : Row). length r.keys ≤ 2 ^ 32) c.self.view_is (few_keys c.self.inside.height c.self.inside.cells.items c.self.invariant)

pub returns-clause-was : goal.returns-clause-was
returns-clause-was c =
    c.read-was.ensures.cell ∙ own_cell c.self.inside.height c.args.at c.len.result c.self.inside.cells.items c.self.invariant (search rules)
    ∙ ap (λ (r : Row). cell c.args.at r.keys) c.self.view_is

pub returns-clause-few : goal.returns-clause-few
returns-clause-few c = subst (λ (r : Row). length r.keys ≤ 2 ^ 32) c.self.view_is (few_keys c.self.inside.height c.self.inside.cells.items c.self.invariant)
