-- The live ranges up to a block, and from one on.
use Rattle.offset_allocator.proofs.Common.{◌≡◌, ℕ, ◌+◌, ◌<◌, length, Bool, true, false, not, ◌&&◌, List, [], ◌∷◌, ◌++◌, Option, None, Some, reverse, reverse-append, refl, sym, ap, subst, ◌∙◌, arith}
use Rattle.offset_allocator.proofs.{Common.append_assoc, Common.false≢true, Sound.Fields, Sound.AreSound, Sound.shown, Reading.live_used, Reading.used_live, Views.ViewPlaces.place_at}
use Rattle.offset_allocator.proofs.{Linking.Ends.ended, Linking.Places.end_place, Linking.Places.located, Reporting.Listing.placed-push, Linking.Ends.last_none, Linking.Places.at_place}
use Rattle.offset_allocator.proofs.{Linking.Places.previous_place, Linking.Places.next_place, Views.ViewApart.left_false, Tallies.units-append}
use Rattle.offset_allocator.proofs.Common.{ChainCells, Node, node, HasPlace, Block, Place, Handle, units, AreCoalesced, Placed, placed, placed_at, first_or, View, IsLive, place_of, is_used_at, blocks}
use Rattle.offset_allocator.specs.Reporting.Walking.{first_handle, last_live, live_before, live_after}

-- the grants of blocks from the last one back
pub back : (fs : List Block) (b : Block) → reverse (placed 0 (fs ++ b ∷ [])) ≡ placed_at (units fs) b ∷ reverse (placed 0 fs)
back fs b = ap (reverse {A = Placed}) (placed-push 0 fs b) ∙ reverse-append (placed 0 fs) (placed_at (0 + units fs) b ∷ []) ∙ ap (λ (o : ℕ). placed_at o b ∷ reverse (placed 0 fs)) (omega arith)

-- a used block has the first grant of those from it on, and a free one has none
pub used_first : (o : ℕ) (b : Block) (rest : List Placed) → b.used ≡ true → first_handle (placed_at o b ∷ rest) ≡ Some (record { name = b.name; offset = o })
used_first o b rest e = grind (arith, e)

pub free_first : (o : ℕ) (b : Block) (rest : List Placed) → b.used ≡ false → first_handle (placed_at o b ∷ rest) ≡ first_handle rest
free_first o b rest e = grind (arith, e)

not_true : (u : Bool) → not u ≡ false → u ≡ true
not_true true e = refl
not_true false e = absurd (false≢true (sym e))

-- of two neighbours one is used
pub one_used : (fs : List Block) (a b : Block) (cs : List Block) → AreCoalesced (fs ++ a ∷ b ∷ cs) → (not a.used && not b.used) ≡ false
one_used [] a b cs h = h.0
one_used (f ∷ fs) a b cs h = one_used fs a b cs h.1

pub other_used : (a b : Bool) → (not a && not b) ≡ false → b ≡ false → a ≡ true
other_used a b h e = not_true a (left_false (not a) (not b) h (ap not e))

this_used : (a b : Bool) → (not a && not b) ≡ false → a ≡ false → b ≡ true
this_used true b h e = absurd (false≢true (sym e))
this_used false true h e = refl
this_used false false h e = absurd (false≢true (sym h))

no_first : (l : List Block) → first_or None l ≡ None → l ≡ []
no_first [] e = refl
no_first (b ∷ l) e = absurd (cc)

module _ {c : ChainCells} {m last count x : ℕ} {p : Place} (h : HasPlace c m last count x p) where
  pub used_back : (node c x).used ≡ true → Some (record { name = x; offset = (node c x).offset }) ≡ first_handle (reverse (placed 0 (p.before ++ p.block ∷ [])))
  used_back e =
      let n = at_place h in
      ap (λ (o : ℕ). Some (record { name = x; offset = o })) (ap (λ (v : Node). v.offset) n)
      ∙ ap (λ (y : ℕ). Some (record { name = y; offset = units p.before })) (sym h.name)
      ∙ sym (ap first_handle (back p.before p.block) ∙ used_first (units p.before) p.block (reverse (placed 0 p.before)) (sym (ap (λ (v : Node). v.used) n) ∙ e))

  pub none_back : (node c x).used ≡ false → None ≡ (node c x).before → None ≡ first_handle (reverse (placed 0 (p.before ++ p.block ∷ [])))
  none_back e q =
      let n = at_place h in
      sym (ap first_handle (back p.before p.block) ∙ free_first (units p.before) p.block (reverse (placed 0 p.before)) (sym (ap (λ (v : Node). v.used) n) ∙ e)
      ∙ ap (λ (l : List Block). first_handle (reverse (placed 0 l))) (last_none p.before (sym (q ∙ ap (λ (v : Node). v.before) n))))

  pub free_back : AreCoalesced (p.before ++ p.block ∷ p.after) → (node c x).used ≡ false → (y : ℕ) → Some y ≡ (node c x).before
      → Some (record { name = y; offset = (node c y).offset }) ≡ first_handle (reverse (placed 0 (p.before ++ p.block ∷ [])))
  free_back a e y q =
      let n = at_place h in
      let i = previous_place h q in
      let k = at_place i.place in
      let idle : p.block.used ≡ false = sym (ap (λ (v : Node). v.used) n) ∙ e in
      let apart = subst AreCoalesced (ap (λ (l : List Block). l ++ p.block ∷ p.after) i.is ∙ append_assoc i.front (i.block ∷ []) (p.block ∷ p.after)) a in
      let used : i.block.used ≡ true = other_used i.block.used p.block.used (one_used i.front i.block p.block p.after apart) idle in
      ap (λ (o : ℕ). Some (record { name = y; offset = o })) (ap (λ (v : Node). v.offset) k)
      ∙ ap (λ (z : ℕ). Some (record { name = z; offset = units i.front })) (sym i.place.name)
      ∙ sym (ap first_handle (back p.before p.block) ∙ free_first (units p.before) p.block (reverse (placed 0 p.before)) idle
      ∙ ap (λ (l : List Block). first_handle (reverse (placed 0 l))) i.is ∙ ap first_handle (back i.front i.block)
      ∙ used_first (units i.front) i.block (reverse (placed 0 i.front)) used)

  pub used_on : (node c x).used ≡ true → Some (record { name = x; offset = (node c x).offset }) ≡ first_handle (placed (units p.before) (p.block ∷ p.after))
  used_on e =
      let n = at_place h in
      ap (λ (o : ℕ). Some (record { name = x; offset = o })) (ap (λ (v : Node). v.offset) n)
      ∙ ap (λ (y : ℕ). Some (record { name = y; offset = units p.before })) (sym h.name)
      ∙ sym (used_first (units p.before) p.block (placed (units p.before + p.block.size) p.after) (sym (ap (λ (v : Node). v.used) n) ∙ e))

  pub none_on : (node c x).used ≡ false → None ≡ (node c x).after → None ≡ first_handle (placed (units p.before) (p.block ∷ p.after))
  none_on e q =
      let n = at_place h in
      sym (free_first (units p.before) p.block (placed (units p.before + p.block.size) p.after) (sym (ap (λ (v : Node). v.used) n) ∙ e)
      ∙ ap (λ (l : List Block). first_handle (placed (units p.before + p.block.size) l)) (no_first p.after (sym (q ∙ ap (λ (v : Node). v.after) n))))

  pub free_on : AreCoalesced (p.before ++ p.block ∷ p.after) → (node c x).used ≡ false → (y : ℕ) → Some y ≡ (node c x).after
      → Some (record { name = y; offset = (node c y).offset }) ≡ first_handle (placed (units p.before) (p.block ∷ p.after))
  free_on a e y q =
      let n = at_place h in
      let i = next_place h q in
      let k = at_place i.place in
      let idle : p.block.used ≡ false = sym (ap (λ (v : Node). v.used) n) ∙ e in
      let apart = subst AreCoalesced (ap (λ (l : List Block). p.before ++ p.block ∷ l) i.is) a in
      let used : i.block.used ≡ true = this_used p.block.used i.block.used (one_used p.before p.block i.block i.rest apart) idle in
      let start : (node c y).offset ≡ units p.before + p.block.size = omega (arith, ap (λ (v : Node). v.offset) k, units-append p.before (p.block ∷ [])) in
      ap (λ (o : ℕ). Some (record { name = y; offset = o })) start
      ∙ ap (λ (z : ℕ). Some (record { name = z; offset = units p.before + p.block.size })) (sym i.place.name)
      ∙ sym (free_first (units p.before) p.block (placed (units p.before + p.block.size) p.after) idle
      ∙ ap (λ (l : List Block). first_handle (placed (units p.before + p.block.size) l)) i.is
      ∙ used_first (units p.before + p.block.size) i.block (placed (units p.before + p.block.size + i.block.size) i.rest) used)

-- what is said of the live range up to a block, and of that from it on
abbrev pub IsUpTo : Option Handle → ChainCells → ℕ → Type 0
IsUpTo o c x = (m last spare : ℕ) (p : Place) → HasPlace c m last spare x p → AreCoalesced (p.before ++ p.block ∷ p.after) → o ≡ first_handle (reverse (placed 0 (p.before ++ p.block ∷ [])))

abbrev pub IsFrom : Option Handle → ChainCells → ℕ → Type 0
IsFrom o c x = (m last spare : ℕ) (p : Place) → HasPlace c m last spare x p → AreCoalesced (p.before ++ p.block ∷ p.after) → o ≡ first_handle (placed (units p.before) (p.block ∷ p.after))

-- a block that both may be asked of
abbrev pub IsThere : ChainCells → ℕ → Type 0
IsThere c x = (m last spare : ℕ) × (p : Place) × HasPlace c m last spare x p × AreCoalesced (p.before ++ p.block ∷ p.after)

module _ (it : Fields) (s : AreSound it) where
  pub last_there : IsThere it.cells.chain it.last
  last_there = let f = ended (blocks it.cells.chain it.last) it.last s.space.ends in (_, _, _, _, end_place s.space, subst AreCoalesced f.is s.well.apart)

  pub last_said : (o : Option Handle) → IsUpTo o it.cells.chain it.last → (v : View) → shown it ≡ v → o ≡ last_live v
  last_said o said v e =
      let f = ended (blocks it.cells.chain it.last) it.last s.space.ends in
      said _ _ _ _ (end_place s.space) (subst AreCoalesced f.is s.well.apart) ∙ ap (λ (l : List Block). first_handle (reverse (placed 0 l))) (sym f.is) ∙ ap last_live e

  module _ (x : ℕ) where
    -- the place of a live name
    record IsHeld (v : View) : Type 0 where
      pub p : Place
      pub at : place_of x v.blocks ≡ Some p
      pub used : p.block.used ≡ true
      pub place : HasPlace it.cells.chain it.cells.chain.reserved it.last it.count x p
      pub apart : AreCoalesced (p.before ++ p.block ∷ p.after)

    held_shown : IsLive x (shown it) → IsHeld (shown it)
    held_shown live = go (place_of x (blocks it.cells.chain it.last)) refl (live_used x (shown it) live)
      where
        go : (o : Option Place) → place_of x (blocks it.cells.chain it.last) ≡ o → is_used_at o ≡ true → IsHeld (shown it)
        go None e u = absurd (cc)
        go (Some p) e u = record { p = p; at = e; used = u; place = located s.space e; apart = subst AreCoalesced (place_at x (blocks it.cells.chain it.last) p e).0 s.well.apart }

    held : (v : View) → shown it ≡ v → IsLive x v → IsHeld v
    held v e = subst (λ (u : View). IsLive x u → IsHeld u) e held_shown

    -- nothing is before or after a name that is not live
    dead_before : (v : View) (o : Option Place) → (is_used_at o ≡ true → ⊥) → place_of x v.blocks ≡ o → None ≡ live_before x v
    dead_before v None n e = grind (arith, e)
    dead_before v (Some p) n e = grind (arith, e, n)

    pub none_before : (v : View) → (IsLive x v → ⊥) → None ≡ live_before x v
    none_before v n = dead_before v (place_of x v.blocks) (λ u. n (used_live x v u)) refl

    module _ (v : View) (e : shown it ≡ v) (live : IsLive x v) where
      pub live_place : x < length it.cells.chain.nodes
      live_place = (held v e live).place.below

      as_before : (h : IsHeld v) → live_before x v ≡ first_handle (reverse (placed 0 h.p.before))
      as_before h = grind (arith, h.at, h.used)

      as_after : (h : IsHeld v) → live_after x v ≡ first_handle (placed (units h.p.before + h.p.block.size) h.p.after)
      as_after h = grind (arith, h.at, h.used)

      pub first_before : None ≡ (node it.cells.chain x).before → None ≡ live_before x v
      first_before q =
          let h = held v e live in
          sym (as_before h ∙ ap (λ (l : List Block). first_handle (reverse (placed 0 l))) (last_none h.p.before (sym (q ∙ ap (λ (n : Node). n.before) (at_place h.place)))))

      pub there_before : (y : ℕ) → Some y ≡ (node it.cells.chain x).before → IsThere it.cells.chain y
      there_before y q =
          let h = held v e live in
          let i = previous_place h.place q in
          (_, _, _, _, i.place, subst AreCoalesced (ap (λ (l : List Block). l ++ h.p.block ∷ h.p.after) i.is ∙ append_assoc i.front (i.block ∷ []) (h.p.block ∷ h.p.after)) h.apart)

      pub said_before : (y : ℕ) → Some y ≡ (node it.cells.chain x).before → (o : Option Handle) → IsUpTo o it.cells.chain y → o ≡ live_before x v
      said_before y q o said =
          let h = held v e live in
          let i = previous_place h.place q in
          said _ _ _ _ i.place (subst AreCoalesced (ap (λ (l : List Block). l ++ h.p.block ∷ h.p.after) i.is ∙ append_assoc i.front (i.block ∷ []) (h.p.block ∷ h.p.after)) h.apart)
          ∙ ap (λ (l : List Block). first_handle (reverse (placed 0 l))) (sym i.is) ∙ sym (as_before h)

      pub last_after : None ≡ (node it.cells.chain x).after → None ≡ live_after x v
      last_after q =
          let h = held v e live in
          sym (as_after h ∙ ap (λ (l : List Block). first_handle (placed (units h.p.before + h.p.block.size) l)) (no_first h.p.after (sym (q ∙ ap (λ (n : Node). n.after) (at_place h.place)))))

      pub there_after : (y : ℕ) → Some y ≡ (node it.cells.chain x).after → IsThere it.cells.chain y
      there_after y q =
          let h = held v e live in
          let i = next_place h.place q in
          (_, _, _, _, i.place, subst AreCoalesced (ap (λ (l : List Block). h.p.before ++ h.p.block ∷ l) i.is ∙ sym (append_assoc h.p.before (h.p.block ∷ []) (i.block ∷ i.rest))) h.apart)

      pub said_after : (y : ℕ) → Some y ≡ (node it.cells.chain x).after → (o : Option Handle) → IsFrom o it.cells.chain y → o ≡ live_after x v
      said_after y q o said =
          let h = held v e live in
          let i = next_place h.place q in
          said _ _ _ _ i.place (subst AreCoalesced (ap (λ (l : List Block). h.p.before ++ h.p.block ∷ l) i.is ∙ sym (append_assoc h.p.before (h.p.block ∷ []) (i.block ∷ i.rest))) h.apart)
          ∙ ap (λ (n : ℕ). first_handle (placed n (i.block ∷ i.rest))) (omega (arith, units-append h.p.before (h.p.block ∷ [])))
          ∙ ap (λ (l : List Block). first_handle (placed (units h.p.before + h.p.block.size) l)) (sym i.is) ∙ sym (as_after h)
