use Rattle.offset_allocator.proofs.Common.{◌≡◌, ◌<◌, ℕ, None, Some, Option, length, sym, ap, subst, ◌∙◌, arith, node, View, IsFoundFrom, bins_in}
use Rattle.offset_allocator.proofs.{Sound.fields_of, Classes.below_value_up, Moving.Begins.head_below, Moving.Begins.some_begins, Moving.Begins.none_begins}
use Rattle.offset_allocator.specs.Moving.Relocating.{WouldBegin}
use Rattle.offset_allocator.proofs.AllocatorOf.block_begin.Goals as goal

pub find_at_or_above-requires-clause-classed : goal.find_at_or_above-requires-clause-classed
find_at_or_above-requires-clause-classed g c = grind (arith, below_value_up)

pub offset-requires : goal.offset-requires
offset-requires g c =
    subst (λ (x : ℕ). x < length (g.T.Tables.cells c.self.inside.store.tables).chain.nodes) (sym c.head-name.ensures.cell)
    (head_below (fields_of g.T.Tables.cells g.T.Index.NodeIndex.MAX c.self.inside) c.self.invariant c.shape.ensures.newer c.in_ok-class.class c.in_ok-class.ensures.smallest.1
    c.in_ok-class.ensures.smallest.2)

pub returns-in_err-class-clause-begins : goal.returns-in_err-class-clause-begins
returns-in_err-class-clause-begins g c =
    subst (λ (v : View). (m : ℕ) → WouldBegin c.args.size v m → c.from_residual.result ≡ Some m) c.self.view_is
    (λ m a. absurd (none_begins (fields_of g.T.Tables.cells g.T.Index.NodeIndex.MAX c.self.inside) c.self.invariant c.args.size m a
    (subst (λ (k : ℕ). IsFoundFrom k (bins_in g.T.Index.NodeIndex.MAX (g.T.Tables.cells c.self.inside.store.tables).bins) None) c.uint_to_float_round_up-smallest.ensures.is
    (subst (λ (o : Option ℕ). IsFoundFrom c.uint_to_float_round_up-smallest.result (bins_in g.T.Index.NodeIndex.MAX (g.T.Tables.cells c.self.inside.store.tables).bins) o) c.in_err-class.was
    c.find_at_or_above.ensures.smallest))))

pub returns-clause-begins : goal.returns-clause-begins
returns-clause-begins g c =
    subst (λ (v : View). (m : ℕ) → WouldBegin c.args.size v m → Some c.offset.result ≡ Some m) c.self.view_is
    (λ m a. ap Some (c.offset.ensures.cell ∙ ap (λ (x : ℕ). (node (g.T.Tables.cells c.self.inside.store.tables).chain x).offset) c.head-name.ensures.cell
    ∙ some_begins (fields_of g.T.Tables.cells g.T.Index.NodeIndex.MAX c.self.inside) c.self.invariant c.args.size m a c.in_ok-class.class
    (subst (λ (k : ℕ). IsFoundFrom k (bins_in g.T.Index.NodeIndex.MAX (g.T.Tables.cells c.self.inside.store.tables).bins) (Some c.in_ok-class.class)) c.uint_to_float_round_up-smallest.ensures.is
    c.in_ok-class.ensures.smallest)))
