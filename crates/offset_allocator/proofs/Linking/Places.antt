-- A block at its place, and the blocks beside it.
use Rattle.offset_allocator.proofs.Common.{◌≡◌, ℕ, ◌+◌, ◌<◌, ◌^◌, true, false, Option, None, Some, IfSome, List, [], ◌∷◌, ◌++◌, length, refl, sym, ◌∙◌, ap, arith, append_assoc, length-append, down}
use Rattle.offset_allocator.proofs.Common.{ChainCells, Node, node, first_or, last_or, IsChain, IsSpace, HasPlace, blocks, coalesced_before, coalesced_after, Block, Place, free_block, place_of, units}
use Rattle.offset_allocator.proofs.{Common.free_end, Common.free_start, Common.remove, Common.remove_all, Common.common_steps, Tallies.one-eq, Tallies.times-append, Tallies.units-append}
use Rattle.offset_allocator.proofs.{Linking.Rows.last_or-append, Linking.Rows.node_at, Linking.Exchange.there-below, Views.ViewPlaces.place_at}
use Rattle.offset_allocator.proofs.Linking.Ends.{ended, last_none, end_free, end_used, end_kept, start_kept}

pub placed : {c : ChainCells} {m last count x : ℕ} {p : Place} → IsChain c m last count (p.before ++ p.block ∷ p.after) → p.block.name ≡ x → HasPlace c m last count x p
placed {c} {m} {last} {count} {x} {p} h e = record {
  chain = h;
  name = e;
  below = there-below c m last count x _ h (omega (arith, times-append x p.before (p.block ∷ p.after), one-eq x p.block.name e));
}

pub located : {c : ChainCells} {last count x : ℕ} {p : Place} → IsSpace c last count → place_of x (blocks c last) ≡ Some p → HasPlace c c.reserved last count x p
located {c} {last} {count} {x} {p} h e = let a = place_at x (blocks c last) p e in placed (rw a.0 at h) (sym a.1)

-- the last block of a space
pub end_place : {c : ChainCells} {last count : ℕ} (h : IsSpace c last count)
    → HasPlace c c.reserved last count last (record { before = (ended (blocks c last) last h.ends).front; block = (ended (blocks c last) last h.ends).last; after = [] })
end_place {c} {last} h = let f = ended (blocks c last) last h.ends in placed (rw f.is at h) f.name

-- a block with no other after it is the last one
pub last_place : {c : ChainCells} {m last count x : ℕ} (fs : List Block) (b d : Block) → HasPlace c m last count x (record { before = fs; block = b; after = d ∷ [] })
    → HasPlace c m last count last (record { before = fs ++ b ∷ []; block = d; after = [] })
last_place fs b d h = let e = sym (last_or-append None fs (b ∷ d ∷ [])) ∙ h.chain.ends in placed (rw append_assoc h.chain) (cc)

-- the node of a block
abbrev pub node_of : Place → Node
node_of p = record { offset = units p.before; size = p.block.size; used = p.block.used; before = last_or None p.before; after = first_or None p.after }

pub at_place : {c : ChainCells} {m last count x : ℕ} {p : Place} → HasPlace c m last count x p → node c x ≡ node_of p
at_place {c} {x = x} {p = p} h = node_at c p.before p.block p.after x h.chain.row h.name

-- a free block beside a block
pub next_idle : {c : ChainCells} {m last count x y n : ℕ} {fs cs : List Block} {b : Block} → HasPlace c m last count x (record { before = fs; block = b; after = free_block y n ∷ cs })
    → (node c y).used ≡ false
next_idle {c} {m} {last} {count} {x} {y} {n} {fs} {cs} {b} h =
    let there : HasPlace c m last count y (record { before = fs ++ b ∷ []; block = free_block y n; after = cs }) = placed (rw append_assoc h.chain) refl in
    ap (λ (v : Node). v.used) (at_place there)

pub previous_idle : (y n : ℕ) (fs : List Block) {c : ChainCells} {m last count x : ℕ} {cs : List Block} {b : Block}
    → HasPlace c m last count x (record { before = fs ++ free_block y n ∷ []; block = b; after = cs }) → (node c y).used ≡ false
previous_idle y n fs {c} {m} {last} {count} {x} {cs} {b} h =
    let there : HasPlace c m last count y (record { before = fs; block = free_block y n; after = b ∷ cs }) = placed (rw append_assoc at h.chain) refl in
    ap (λ (v : Node). v.used) (at_place there)

pub end_fits : {c : ChainCells} {m last count x : ℕ} {p : Place} → HasPlace c m last count x p → units p.before + p.block.size < 2 ^ 32
end_fits {p = p} h = omega (arith, h.chain.fits, units-append p.before (p.block ∷ p.after))

-- the stack has room for the name of a block
pub spare_room : {c : ChainCells} {m last count x : ℕ} {p : Place} → HasPlace c m last count x p → count < length c.spare
spare_room {p = p} h = let long = h.chain.full in omega (arith, h.chain.stack, length-append p.before (p.block ∷ p.after))

-- the blocks beside a block
pub record IsNext (c : ChainCells) (m last count y : ℕ) (p : Place) : Type 0 where
  pub block : Block
  pub rest : List Block
  pub is : p.after ≡ block ∷ rest
  pub place : HasPlace c m last count y (record { before = p.before ++ p.block ∷ []; block = block; after = rest })

pub next_place : {c : ChainCells} {m last count x y : ℕ} {p : Place} → HasPlace c m last count x p → Some y ≡ (node c x).after → IsNext c m last count y p
next_place {c} {m} {last} {count} {x} {y} {p} h e = go p.after refl (e ∙ ap (λ (v : Node). v.after) (at_place h))
  where
    go : (l : List Block) → p.after ≡ l → Some y ≡ first_or None l → IsNext c m last count y p
    go [] is q = absurd (cc)
    go (b ∷ l) is q = record { block = b; rest = l; is = is; place = placed (rw append_assoc (rw is at h.chain)) (cc) }

pub record IsPrevious (c : ChainCells) (m last count y : ℕ) (p : Place) : Type 0 where
  pub block : Block
  pub front : List Block
  pub is : p.before ≡ front ++ block ∷ []
  pub place : HasPlace c m last count y (record { before = front; block = block; after = p.block ∷ p.after })

pub previous_place : {c : ChainCells} {m last count x y : ℕ} {p : Place} → HasPlace c m last count x p → Some y ≡ (node c x).before → IsPrevious c m last count y p
previous_place {c} {m} {last} {count} {x} {y} {p} h e =
    let f = ended p.before y (sym (e ∙ ap (λ (v : Node). v.before) (at_place h))) in
    record { block = f.last; front = f.front; is = f.is; place = placed (rw append_assoc at (rw f.is at h.chain)) f.name }

-- the links of a block are names of nodes
pub next_below : {c : ChainCells} {m last count x : ℕ} {p : Place} → HasPlace c m last count x p → IfSome (node c x).after (λ z. z < length c.nodes)
next_below {c} {x = x} h = go (node c x).after refl
  where
    go : (o : Option ℕ) → (node c x).after ≡ o → IfSome o (λ z. z < length c.nodes)
    go None e = tt
    go (Some z) e = (next_place h (sym e)).place.below

pub previous_below : {c : ChainCells} {m last count x : ℕ} {p : Place} → HasPlace c m last count x p → IfSome (node c x).before (λ z. z < length c.nodes)
previous_below {c} {x = x} h = go (node c x).before refl
  where
    go : (o : Option ℕ) → (node c x).before ≡ o → IfSome o (λ z. z < length c.nodes)
    go None e = tt
    go (Some z) e = (previous_place h (sym e)).place.below

-- the free block directly before a block
pub used_before : {c : ChainCells} {m last count x y : ℕ} {p : Place} → HasPlace c m last count x p → Some y ≡ (node c x).before → (node c y).used ≡ true → free_end p.before ≡ []
used_before h e u = let n = previous_place h e in ap free_end n.is ∙ (end_used n.front n.block (sym (ap (λ (v : Node). v.used) (at_place n.place)) ∙ u)).0

pub none_before : {c : ChainCells} {m last count x : ℕ} {p : Place} → HasPlace c m last count x p → None ≡ (node c x).before → free_end p.before ≡ []
none_before {p = p} h e = ap free_end (last_none p.before (sym (e ∙ ap (λ (v : Node). v.before) (at_place h))))

pub kept_before : {c : ChainCells} {m last count x : ℕ} {p : Place} → HasPlace c m last count x p → free_end p.before ≡ [] → HasPlace c m last count x (coalesced_before p)
kept_before {p = p} h e = let z : 0 + p.block.size ≡ p.block.size = omega arith in rw (e, end_kept p.before e, z) h

pub free_before : {c : ChainCells} {m last count x y : ℕ} {p : Place} → HasPlace c m last count x p → Some y ≡ (node c x).before → (node c y).used ≡ false
    → (units (free_end p.before) ≡ (node c y).size) × ((ls : List (List ℕ)) → remove_all (free_end p.before) ls ≡ remove (down (node c y).size) y ls)
free_before h e u =
    let n = previous_place h e in
    let at = at_place n.place in
    let idle : n.block.used ≡ false = sym (ap (λ (v : Node). v.used) at) ∙ u in
    let is = ap free_end n.is ∙ (end_free n.front n.block idle).0 in
    (ap units is ∙ omega (arith, ap (λ (v : Node). v.size) at), λ ls. ap (λ l. remove_all l ls) is ∙ rw (idle, n.place.name, ← ap (λ (v : Node). v.size) at) refl)

pub before_fits : {c : ChainCells} {m last count x y : ℕ} {p : Place} → HasPlace c m last count x p → Some y ≡ (node c x).before → (node c y).size + (node c x).size < 2 ^ 32
before_fits h e =
    let n = previous_place h e in
    omega (arith, end_fits h, ap units n.is, units-append n.front (n.block ∷ []), ap (λ (v : Node). v.size) (at_place n.place), ap (λ (v : Node). v.size) (at_place h))

-- the free block directly after a block
pub used_after : {c : ChainCells} {m last count x y : ℕ} {p : Place} → HasPlace c m last count x p → Some y ≡ (node c x).after → (node c y).used ≡ true → free_start p.after ≡ []
used_after h e u = let n = next_place h e in let used : n.block.used ≡ true = sym (ap (λ (v : Node). v.used) (at_place n.place)) ∙ u in rw (n.is, used) refl

pub none_after : {c : ChainCells} {m last count x : ℕ} {p : Place} → HasPlace c m last count x p → None ≡ (node c x).after → free_start p.after ≡ []
none_after {p = p} h e = go p.after (e ∙ ap (λ (v : Node). v.after) (at_place h))
  where
    go : (l : List Block) → None ≡ first_or None l → free_start l ≡ []
    go [] e = refl
    go (b ∷ l) e = absurd (cc)

pub kept_after : {c : ChainCells} {m last count x : ℕ} {p : Place} → HasPlace c m last count x p → free_start p.after ≡ [] → HasPlace c m last count x (coalesced_after p)
kept_after {p = p} h e = let z : p.block.size + 0 ≡ p.block.size = omega arith in rw (e, start_kept p.after e, z) h

pub free_after : {c : ChainCells} {m last count x y : ℕ} {p : Place} → HasPlace c m last count x p → Some y ≡ (node c x).after → (node c y).used ≡ false
    → (units (free_start p.after) ≡ (node c y).size) × ((ls : List (List ℕ)) → remove_all (free_start p.after) ls ≡ remove (down (node c y).size) y ls)
free_after h e u =
    let n = next_place h e in
    let at = at_place n.place in
    let idle : n.block.used ≡ false = sym (ap (λ (v : Node). v.used) at) ∙ u in
    grind (arith, common_steps)

pub after_fits : {c : ChainCells} {m last count x y : ℕ} {p : Place} → HasPlace c m last count x p → Some y ≡ (node c x).after → (node c x).size + (node c y).size < 2 ^ 32
after_fits {p = p} h e =
    let n = next_place h e in
    omega (arith, end_fits n.place, units-append p.before (p.block ∷ []), ap (λ (v : Node). v.size) (at_place n.place), ap (λ (v : Node). v.size) (at_place h))

-- a change of the bins leaves every place as it was
pub kept_place : {c d : ChainCells} {m l k l' k' x : ℕ} {p : Place} → (d ≡ c) × (l' ≡ l) × (k' ≡ k) → HasPlace c m l k x p → HasPlace d m l' k' x p
kept_place e h = rw (e.0, e.1, e.2) h
