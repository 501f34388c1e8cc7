-- What a read of cells says of the view.
use Rattle.offset_allocator.proofs.Common.{◌≡◌, ℕ, ◌<◌, inl, inr, length, arith, is_some, true, false, Option, None, Some, option_and_then, option_map, unwrap_or, if◌then◌else◌, refl, sym, ap, subst}
use Rattle.offset_allocator.proofs.Common.{◌∙◌, cases_lt, false≢true, ChainCells, Node, node, View, Place, units, place_of, is_used_at, Range, range_of, size_of, IsLive, blocks, IsRow, IsSpace}
use Rattle.offset_allocator.proofs.{Common.common_steps, Linking.Nodes.past_idle, Sound.Fields, Sound.AreSound, Sound.shown, Linking.Rows.node_at, Views.ViewPlaces.place_at, Views.ViewPlaces.no_place}

-- the range of the used block at a place
abbrev pub range_at : Option Place → Option Range
range_at o = option_and_then (λ (p : Place). if p.block.used then Some (record { offset = units p.before; size = p.block.size }) else None) o

-- the units of a range, or 0 where there is none
abbrev pub units_in : Option Range → ℕ
units_in o = unwrap_or (option_map (λ (r : Range). r.size) o) 0

-- where a range begins
abbrev offset_in : Option Range → Option ℕ
offset_in o = option_map (λ (r : Range). r.offset) o

-- the size of the used block at a place, or 0
abbrev pub size_at : Option Place → ℕ
size_at None = 0
size_at (Some p) = if p.block.used then p.block.size else 0

-- a name is live where its block is used
range_some : (o : Option Place) → is_some {T = Range} (range_at o) ≡ is_used_at o
range_some None = refl
range_some (Some p) = elim p.block.used as (λ u. is_some {T = Range} (if u then Some (record { offset = units p.before; size = p.block.size }) else None) ≡ u) [ true ↦ refl | false ↦ refl ]

range_units : (o : Option Place) → units_in (range_at o) ≡ size_at o
range_units None = grind arith
range_units (Some p) = grind arith

module _ (x : ℕ) (v : View) where
  pub live_is : is_some {T = Range} (range_of x v) ≡ is_used_at (place_of x v.blocks)
  live_is = range_some (place_of x v.blocks)

  pub size_is : size_of x v ≡ size_at (place_of x v.blocks)
  size_is = range_units (place_of x v.blocks)

  pub live_used : IsLive x v → is_used_at (place_of x v.blocks) ≡ true
  live_used h = sym live_is ∙ h

  pub used_live : is_used_at (place_of x v.blocks) ≡ true → IsLive x v
  used_live h = live_is ∙ h

module _ (c : ChainCells) (last count x : ℕ) (h : IsSpace c last count) where
  place_read : (p : Place) → place_of x (blocks c last) ≡ Some p → ((node c x).used ≡ p.block.used) × ((node c x).size ≡ p.block.size) × ((node c x).offset ≡ units p.before)
  place_read p e =
      let a = place_at x (blocks c last) p e in
      let n = node_at c p.before p.block p.after x (subst (λ l. IsRow c None 0 l None) a.0 h.row) (sym a.1) in
      (ap (λ (n : Node). n.used) n, ap (λ (n : Node). n.size) n, ap (λ (n : Node). n.offset) n)

  pub used_read : (node c x).used ≡ is_used_at (place_of x (blocks c last))
  used_read = go (place_of x (blocks c last)) refl
    where
      go : (o : Option Place) → place_of x (blocks c last) ≡ o → (node c x).used ≡ is_used_at o
      go None e = h.idle x (no_place x (blocks c last) e)
      go (Some p) e = (place_read p e).0

  size_read : (node c x).used ≡ true → (node c x).size ≡ size_at (place_of x (blocks c last))
  size_read u = go (place_of x (blocks c last)) refl
    where
      go : (o : Option Place) → place_of x (blocks c last) ≡ o → (node c x).size ≡ size_at o
      go None e = let f = sym (h.idle x (no_place x (blocks c last) e)) ∙ u in absurd (cc)
      go (Some p) e = let r = place_read p e in rw (sym r.0 ∙ u) r.1

  offset_read : (node c x).used ≡ true → offset_in (range_at (place_of x (blocks c last))) ≡ Some (node c x).offset
  offset_read u = go (place_of x (blocks c last)) refl
    where
      go : (o : Option Place) → place_of x (blocks c last) ≡ o → offset_in (range_at o) ≡ Some (node c x).offset
      go None e = grind (arith, common_steps, no_place)
      go (Some p) e = grind (arith, common_steps, place_read)

module _ (it : Fields) (x : ℕ) (s : AreSound it) where
  module _ (v : View) (e : shown it ≡ v) (live : IsLive x v) where
    used : is_used_at (place_of x (blocks it.cells.chain it.last)) ≡ true
    used = ap (λ (u : View). is_used_at (place_of x u.blocks)) e ∙ live_used x v live

    pub live_below : x < length it.cells.chain.nodes
    live_below = elim (cases_lt x (length it.cells.chain.nodes)) [
      | inl l ↦ l
      | inr l ↦ let f = sym (past_idle it.cells.chain x l) ∙ used_read it.cells.chain it.last it.count x s.space ∙ used in absurd (false≢true f)
    ]

    pub live_size : (node it.cells.chain x).size ≡ size_of x v
    live_size = size_read it.cells.chain it.last it.count x s.space (used_read it.cells.chain it.last it.count x s.space ∙ used)
        ∙ ap (λ (u : View). size_at (place_of x u.blocks)) e ∙ sym (size_is x v)

    pub live_offset : Some (node it.cells.chain x).offset ≡ option_map (λ (r : Range). r.offset) (range_of x v)
    live_offset = sym (offset_read it.cells.chain it.last it.count x s.space (used_read it.cells.chain it.last it.count x s.space ∙ used))
        ∙ ap (λ (u : View). option_map (λ (r : Range). r.offset) (range_of x u)) e
