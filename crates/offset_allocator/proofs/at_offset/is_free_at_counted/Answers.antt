use Rattle.offset_allocator.proofs.{AtOffset.none_serves, AtOffset.serves, Linking.Places.at_place, Linking.Places.placed}
use Rattle.offset_allocator.proofs.Common.{◌≡◌, ℕ, ◌+◌, ◌∷◌, ◌++◌, ◌∙◌, None, Some, false≢true, IsChain, HasPlace, List, ap, arith, refl, subst, sym, blocks, is_some, ◌-◌, ◌↔◌, IfSome, Block, Node, Place, View}
use Rattle.std.specs.Prelude.{IsTrue}
use Rattle.offset_allocator.specs.AtOffset.{IsFreeAt}
use Rattle.offset_allocator.proofs.at_offset.is_free_at_counted.Goals as goal
use Rattle.offset_allocator.proofs.at_offset.is_free_at_counted.{Goals.After-last_free_to, Given.Over}

-- a block of the space, in the tables
held : (g : Over) (c : After-last_free_to g) (p : Place) (x : ℕ) → blocks (g.T.Tables.cells c.allocator.inside.store.tables).chain c.allocator.inside.store.last ≡ p.before ++ (p.block ∷ p.after) → p.block.name ≡ x
    → HasPlace (g.T.Tables.cells c.allocator.inside.store.tables).chain (g.T.Tables.cells c.allocator.inside.store.tables).chain.reserved c.allocator.inside.store.last c.allocator.inside.store.spare_count x p
held g c p x is name =
    let t = g.T.Tables.cells c.allocator.inside.store.tables in
    let P : List Block → Type 0 = λ bs. IsChain t.chain t.chain.reserved c.allocator.inside.store.last c.allocator.inside.store.spare_count bs in
    placed (subst P is c.allocator.invariant.space) name

pub offset-begin-requires : goal.offset-begin-requires
offset-begin-requires g c = let f = c.in-Some.ensures.found in (held g (goal.at.offset-begin-requires g c).After-last_free_to f.0 c.in-Some.name f.1 f.2).below

pub size-whole-requires : goal.size-whole-requires
size-whole-requires g c = let f = c.in-Some.ensures.found in (held g (goal.at.size-whole-requires g c).After-last_free_to f.0 c.in-Some.name f.1 f.2).below

pub overflow_sub-offset : goal.overflow_sub-offset
overflow_sub-offset g c =
    let f = c.in-Some.ensures.found in
    let at = at_place (held g (goal.at.overflow_sub-offset g c).After-last_free_to f.0 c.in-Some.name f.1 f.2) in
    omega (arith, c.offset-begin.ensures.cell, ap (λ (v : Node). v.offset) at, f.4)

pub returns-in-None-clause-free : goal.returns-in-None-clause-free
returns-in-None-clause-free g c = (λ h. absurd (false≢true h), λ h. absurd (none_serves _ c.args.offset c.args.size (c.in-None.ensures.none refl) (subst (IsFreeAt c.args.offset c.args.size) (sym c.allocator.view_is) h)))

pub returns-in-Some-clause-free : goal.returns-in-Some-clause-free
returns-in-Some-clause-free g c =
    let f = c.in-Some.ensures.found in
    let at = at_place (held g (goal.at.returns-in-Some-clause-free g c).After-last_free_to f.0 c.in-Some.name f.1 f.2) in
    let v = c.args.allocator.now in
    let there : v.blocks ≡ f.0.before ++ (f.0.block ∷ f.0.after) = sym (ap (λ (u : View). u.blocks) c.allocator.view_is) ∙ f.1 in
    let begin = c.offset-begin.ensures.cell ∙ ap (λ (n : Node). n.offset) at in
    let whole = c.size-whole.ensures.cell ∙ ap (λ (n : Node). n.size) at in
    rw c.is_some.ensures (elim c.parts_of.result as (λ r. r ≡ c.parts_of.result → IsTrue (is_some r) ↔ IsFreeAt c.args.offset c.args.size v) [
      | None ↦ λ e. (
        λ h. absurd (false≢true h),
        λ h. absurd (omega (arith, (serves v c.args.offset c.args.size f.0 there f.4 f.5 h).holds.1, c.parts_of.ensures.none (sym e), begin, whole, f.4)),
      )
      | Some parts ↦ λ e.
          let p = subst (λ r. IfSome r (λ p. (p.padding ≡ c.args.offset - c.offset-begin.result) × (p.size ≡ c.args.size) × ((c.args.offset - c.offset-begin.result) + c.args.size + p.remainder ≡ c.size-whole.result))) (sym e) c.parts_of.ensures.parts in
          (λ h. record { place = f.0; there = there; free = f.3; holds = (f.4, omega (arith, p.2, begin, whole, f.4)) }, λ h. refl)
    ] refl)
