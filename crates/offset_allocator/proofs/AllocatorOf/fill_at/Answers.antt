use Rattle.offset_allocator.proofs.{AtOffset.at_counted, AtOffset.serves, Classes.down_small, Granting.found_itself, Holding.first_is, Holding.place_there, Linking.Places.at_place, Linking.Places.placed}
use Rattle.offset_allocator.proofs.{Served.split_as, Sound.Fields, Sound.fields_of, Sound.known_sound, Sound.shown, Sound.well_counted, Common.◌++◌, Common.IsWellFormed, Common.HasPlace, Common.IsChain, Common.List}
use Rattle.offset_allocator.proofs.Common.{◌≡◌, ℕ, ◌-◌, ◌<◌, ◌∷◌, ◌∙◌, None, Some, ap, arith, refl, subst, sym, bin_at, remove, units, value, Block, AdmitsBlocks, Node, node, Place, Splits, View}
use Rattle.offset_allocator.specs.{AtOffset.AllocatesAt, AtOffset.CanGrantAt, AtOffset.GrantsAt, AtOffset.blocks_added, Tight.with_first}
use Rattle.offset_allocator.proofs.Common.{◌+◌, ◌≤◌, max}
use Rattle.std.specs.Prelude.{min}
use Rattle.offset_allocator.proofs.AllocatorOf.fill_at.Goals as goal
use Rattle.offset_allocator.proofs.AllocatorOf.fill_at.{Goals.After-formed, Goals.After-size-whole, Given.Over}

-- what is split off the block where the units begin at an offset, in what the tables say of the block
module _ {begin whole padding n m offset : ℕ} (rest : ℕ) (p : Place) (begin_is : begin ≡ units p.before) (whole_is : whole ≡ p.block.size) (within : units p.before ≤ offset) (padding_is : padding ≡ offset - begin)
    (n_is : m ≡ n) (sum_is : (offset - begin) + n + rest ≡ whole) where
  -- the units
  held_units : offset + n ≤ units p.before + p.block.size
  held_units = omega (arith, begin_is, whole_is, within, sum_is)

  starts_at : {k : ℕ} → units p.before ≡ k → offset ≡ k + padding
  starts_at e = omega (arith, begin_is, within, padding_is, e)

  sums_to : {k : ℕ} → p.block.size ≡ k → padding + m + rest ≡ k
  sums_to e = omega (arith, whole_is, padding_is, n_is, sum_is, e)

  -- how many blocks are added
  added_is : {m₁ m₂ more : ℕ} → m₁ ≡ min padding 1 → m₂ ≡ min rest 1 → more ≡ max (m₁ + m₂) 1 → more ≡ max 1 (blocks_added offset n p)
  added_is a b c = omega (arith, begin_is, whole_is, within, padding_is, sum_is)

room_of : (i j k : ℕ) (v : View) → AdmitsBlocks j v → i ≤ j → k ≡ i → AdmitsBlocks k v
room_of i j k v a b c = omega arith

-- the block, in the tables
held : (g : Over) (c : After-formed g) → HasPlace (g.T.Tables.cells c.self.inside.store.tables).chain (g.T.Tables.cells c.self.inside.store.tables).chain.reserved c.self.inside.store.last
    c.self.inside.store.spare_count c.args.name c.requires.last.0
held g c =
    let t = g.T.Tables.cells c.self.inside.store.tables in
    let P : List Block → Type 0 = λ bs. IsChain t.chain t.chain.reserved c.self.inside.store.last c.self.inside.store.spare_count bs in
    placed (subst P (ap (λ (u : View). u.blocks) c.self.view_is ∙ c.requires.last.1) c.self.invariant.space) c.requires.last.2

its_offset : (g : Over) (c : After-formed g) (n : ℕ) → (node_is : n ≡ (node (g.T.Tables.cells c.self.inside.store.tables).chain c.args.name).offset) → n ≡ units c.requires.last.0.before
its_offset g c n e = e ∙ ap (λ (v : Node). v.offset) (at_place (held g c))

its_size : (g : Over) (c : After-formed g) (n : ℕ) → (node_is : n ≡ (node (g.T.Tables.cells c.self.inside.store.tables).chain c.args.name).size) → n ≡ c.requires.last.0.block.size
its_size g c n e = e ∙ ap (λ (v : Node). v.size) (at_place (held g c))

pub offset-begin-requires : goal.offset-begin-requires
offset-begin-requires g c = (held g (goal.at.offset-begin-requires g c).After-formed).below

pub size-whole-requires : goal.size-whole-requires
size-whole-requires g c = (held g (goal.at.size-whole-requires g c).After-formed).below

pub overflow_sub-offset : goal.overflow_sub-offset
overflow_sub-offset g c = omega (arith, its_offset g (goal.at.overflow_sub-offset g c).After-formed c.offset-begin.result c.offset-begin.ensures.cell, c.requires.last.4)

pub returns-in-None-clause-step : goal.returns-in-None-clause-step
returns-in-None-clause-step g c =
    let at = (goal.at.returns-in-None-clause-step g c).After-formed in
    let l = c.requires.last in
    let f : Fields = fields_of g.T.Tables.cells g.T.Index.NodeIndex.MAX c.self.inside in
    let left : View = shown (record f { accesses = c.size-whole.new.count }) in
    let begin = its_offset g at c.offset-begin.result c.offset-begin.ensures.cell in
    let whole = its_size g at c.size-whole.result c.size-whole.ensures.cell in
    let no : CanGrantAt c.args.offset c.args.size c.args.self.now → ⊥ =
    λ h. omega (arith, (serves c.args.self.now c.args.offset c.args.size l.0 l.1 l.4 l.5 h.at).holds.1, c.in-None.ensures.none refl, begin, whole, l.4) in
    subst (λ (u : View). AllocatesAt c.args.offset c.args.size u left None) c.self.view_is (λ h. no (subst (CanGrantAt c.args.offset c.args.size) c.self.view_is h), refl)

pub returns-then-not-admits_blocks-clause-step : goal.returns-then-not-admits_blocks-clause-step
returns-then-not-admits_blocks-clause-step g c =
    let at = (goal.at.returns-then-not-admits_blocks-clause-step g c).After-formed in
    let l = c.requires.last in
    let f : Fields = fields_of g.T.Tables.cells g.T.Index.NodeIndex.MAX c.self.inside in
    let left : View = shown (record f { accesses = c.size-whole.new.count }) in
    let begin = its_offset g at c.offset-begin.result c.offset-begin.ensures.cell in
    let whole = its_size g at c.size-whole.result c.size-whole.ensures.cell in
    let parts = c.in-Some.ensures.parts in
    let no : CanGrantAt c.args.offset c.args.size c.args.self.now → ⊥ = λ h.
    let s = serves c.args.self.now c.args.offset c.args.size l.0 l.1 l.4 l.5 h.at in
    let room = room_of _ _ c.max-more.result c.args.self.now h.room s.added (added_is c.in-Some.parts.remainder l.0 begin whole l.4 parts.0 parts.1 parts.2 c.min.ensures c.min-2.ensures c.max-more.ensures) in
    let t = c.admits_blocks.ensures.1 (subst (AdmitsBlocks c.max-more.result) (sym c.self.view_is) room) in
    let n = c.if-not-admits_blocks.true in
    absurd (cc) in
    subst (λ (u : View). AllocatesAt c.args.offset c.args.size u left None) c.self.view_is (λ h. no (subst (CanGrantAt c.args.offset c.args.size) c.self.view_is h), refl)

-- the space with the accesses that are counted then
abbrev counted : (g : Over) (c : After-size-whole g) → View
counted g c = shown (record (fields_of g.T.Tables.cells g.T.Index.NodeIndex.MAX c.self.inside) { accesses = c.size-whole.new.count })

formed_then : (g : Over) (c : After-size-whole g) → IsWellFormed (counted g c)
formed_then g c =
    let f : Fields = fields_of g.T.Tables.cells g.T.Index.NodeIndex.MAX c.self.inside in
    well_counted (shown f) c.size-whole.new.count (known_sound f c.self.invariant (shown f) refl).0

there_then : (g : Over) (c : After-size-whole g) → (counted g c).blocks ≡ c.requires.last.0.before ++ (c.requires.last.0.block ∷ c.requires.last.0.after)
there_then g c = ap (λ (u : View). u.blocks) c.self.view_is ∙ c.requires.last.1

pub grant_part-requires-clause-classed : goal.grant_part-requires-clause-classed
grant_part-requires-clause-classed g c =
    let at = (goal.at.grant_part-requires-clause-classed g c).After-size-whole in
    let l = c.requires.last in
    omega (arith, c.bring_first-class.ensures.class l.0 (there_then g at) l.2, down_small l.0.block.size)

pub grant_part-requires-clause-filled : goal.grant_part-requires-clause-filled
grant_part-requires-clause-filled g c e =
    let at = (goal.at.grant_part-requires-clause-filled g c).After-size-whole in
    let l = c.requires.last in
    let small : c.bring_first-class.result < 256 = omega (arith, c.bring_first-class.ensures.class l.0 (there_then g at) l.2, down_small l.0.block.size) in
    let k = c.bring_first-class.result in
    let first = first_is (counted g at) (formed_then g at) k c.args.name small in
    let q = sym first ∙ sym (ap (λ (u : View). bin_at u.bins k) c.bring_first-class.ensures.first) ∙ e in
    absurd (cc)

pub grant_part-requires-clause-whole : goal.grant_part-requires-clause-whole
grant_part-requires-clause-whole g c p older is newest =
    let at = (goal.at.grant_part-requires-clause-whole g c).After-size-whole in
    let at_first = (goal.at.grant_part-requires-clause-whole g c).After-formed in
    let v = counted g at in
    let formed = formed_then g at in
    let l = c.requires.last in
    let t = there_then g at in
    let small : c.bring_first-class.result < 256 = omega (arith, c.bring_first-class.ensures.class l.0 t l.2, down_small l.0.block.size) in
    let k = c.bring_first-class.result in
    let first = first_is v formed k c.args.name small in
    let lists : c.args.name ∷ bin_at (remove k c.args.name v.bins) k ≡ p.block.name ∷ older = sym first ∙ sym (ap (λ (u : View). bin_at u.bins k) c.bring_first-class.ensures.first) ∙ newest in
    let named : p.block.name ≡ c.args.name = cc in
    let there = sym (ap (λ (u : View). u.blocks) c.bring_first-class.ensures.first) ∙ is in
    let both : Some p ≡ Some l.0 = sym (place_there v formed p c.args.name there named) ∙ place_there v formed l.0 c.args.name t l.2 in
    let same : l.0 ≡ p = cc in
    let before : units l.0.before ≡ units p.before = ap (λ (q : Place). units q.before) same in
    let size : l.0.block.size ≡ p.block.size = ap (λ (q : Place). q.block.size) same in
    let parts = c.in-Some.ensures.parts in
    let begin = its_offset g at_first c.offset-begin.result c.offset-begin.ensures.cell in
    let whole = its_size g at_first c.size-whole.result c.size-whole.ensures.cell in
    (starts_at c.in-Some.parts.remainder l.0 begin whole l.4 parts.0 parts.1 parts.2 before, sums_to c.in-Some.parts.remainder l.0 begin whole l.4 parts.0 parts.1 parts.2 size)

pub returns-clause-step : goal.returns-clause-step
returns-clause-step g c =
    let at = (goal.at.returns-clause-step g c).After-size-whole in
    let at_first = (goal.at.returns-clause-step g c).After-formed in
    let f : Fields = fields_of g.T.Tables.cells g.T.Index.NodeIndex.MAX c.self.inside in
    let v = counted g at in
    let formed = formed_then g at in
    let l = c.requires.last in
    let p = l.0 in
    let t = there_then g at in
    let ke = c.bring_first-class.ensures.class p t l.2 in
    let small : c.bring_first-class.result < 256 = omega (arith, ke, down_small p.block.size) in
    let k = c.bring_first-class.result in
    let m = c.bring_first-class.new.self in
    let first = first_is v formed k c.args.name small in
    let same = c.bring_first-class.ensures.first in
    let found = found_itself k small (bin_at m.bins k) (λ e. let q = sym first ∙ sym (ap (λ (u : View). bin_at u.bins k) same) ∙ e in absurd (cc)) m.bins refl in
    let parts = c.in-Some.ensures.parts in
    let begin = its_offset g at_first c.offset-begin.result c.offset-begin.ensures.cell in
    let whole = its_size g at_first c.size-whole.result c.size-whole.ensures.cell in
    let P : View → Type 0 = λ u. Splits (value k) c.in-Some.parts.size (λ begin. c.args.offset - begin) u c.grant_part.new.self c.grant_part.result in
    let base = split_as (subst P same (c.grant_part.ensures.step (value k) found)) v.accesses c.grant_part.new.self.accesses (λ begin. c.args.offset - begin) (λ o. refl) in
    let S : ℕ → ℕ → ℕ → Type 0 = λ j n x. Splits (value j) n (λ begin. c.args.offset - begin) (with_first j x v) c.grant_part.new.self c.grant_part.result in
    let room : AdmitsBlocks c.max-more.result v = c.admits_blocks.ensures.0 c.if-not-admits_blocks.false in
    let r : GrantsAt c.args.offset c.args.size v c.grant_part.new.self c.grant_part.result = record {
      at = record { place = p; there = t; free = l.3; holds = (l.4, held_units c.in-Some.parts.remainder l.0 begin whole l.4 parts.0 parts.1 parts.2) };
      room = subst (λ (i : ℕ). AdmitsBlocks i v) (added_is c.in-Some.parts.remainder l.0 begin whole l.4 parts.0 parts.1 parts.2 c.min.ensures c.min-2.ensures c.max-more.ensures) room;
      last = l.5;
      split = subst (λ j. S j c.args.size p.block.name) ke (subst (λ n. S k n p.block.name) parts.1 (subst (λ x. S k c.in-Some.parts.size x) (sym l.2) base));
    } in
    subst (λ (u : View). AllocatesAt c.args.offset c.args.size u c.grant_part.new.self (Some c.grant_part.result)) c.self.view_is
    (at_counted c.args.offset c.args.size (shown f) c.grant_part.new.self c.size-whole.new.count (Some c.grant_part.result) r)
