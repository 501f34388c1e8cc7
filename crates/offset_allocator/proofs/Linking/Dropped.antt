-- The last block of a space goes.
use Rattle.offset_allocator.proofs.Common.{◌≡◌, ℕ, ◌+◌, Bool, false, not, List, [], ◌∷◌, None, Some, if◌then◌else◌, sym, ap, subst, ◌∙◌, arith}
use Rattle.offset_allocator.proofs.Common.{ChainCells, Node, node, HasPlace, Block, units, coalesced_after}
use Rattle.offset_allocator.proofs.{Linking.Rows.last_or-append, Linking.Places.at_place, Linking.Places.last_place}

some_same : (a b : ℕ) → Some a ≡ Some b → a ≡ b
some_same a b e = grind (arith, e)

-- a block with none after it is the last one
pub is_end : {c : ChainCells} {m last count x : ℕ} (fs : List Block) (a : Block) → HasPlace c m last count x (record { before = fs; block = a; after = [] }) → last ≡ x
is_end {last = last} fs a h = some_same last _ (sym h.chain.ends ∙ last_or-append None fs (a ∷ []) ∙ ap (λ (y : ℕ). Some y) h.name)

module _ {c : ChainCells} {m last count x : ℕ} (fs : List Block) (a b : Block) (h : HasPlace c m last count x (record { before = fs; block = a; after = b ∷ [] })) where
  pub next_is : Some last ≡ (node c x).after
  next_is = ap (λ (y : ℕ). Some y) (sym (last_place fs a b h).name) ∙ sym (ap (λ (v : Node). v.after) (at_place h))

  pub end_node : ((node c last).used ≡ b.used) × ((node c last).size ≡ b.size)
  end_node = let n = at_place (last_place fs a b h) in (ap (λ (v : Node). v.used) n, ap (λ (v : Node). v.size) n)

-- once it is coalesced with the one before
pub joined : {c : ChainCells} {m last count x : ℕ} (fs : List Block) (a b : Block) → HasPlace c m last count x (coalesced_after (record { before = fs; block = a; after = b ∷ [] })) → b.used ≡ false
    → HasPlace c m x count x (record { before = fs; block = record a { size = a.size + units (b ∷ []) }; after = [] })
joined {c} {m} {last} {count} {x} fs a b h free =
    let k = subst (λ (u : Bool). HasPlace c m last count x (record { before = fs; block = record a { size = a.size + units (if not u then b ∷ [] else []) }; after = if not u then [] else b ∷ [] }))
    free h in
    subst (λ (l : ℕ). HasPlace c m l count x (record { before = fs; block = record a { size = a.size + units (b ∷ []) }; after = [] })) (is_end fs (record a { size = a.size + units (b ∷ []) }) k) k

pub joined_last : {c : ChainCells} {m last count x : ℕ} (fs : List Block) (a b : Block) → HasPlace c m last count x (coalesced_after (record { before = fs; block = a; after = b ∷ [] })) → b.used
    ≡ false → last ≡ x
joined_last {c} {m} {last} {count} {x} fs a b h free =
    let k = subst (λ (u : Bool). HasPlace c m last count x (record { before = fs; block = record a { size = a.size + units (if not u then b ∷ [] else []) }; after = if not u then [] else b ∷ [] }))
    free h in
    is_end fs (record a { size = a.size + units (b ∷ []) }) k
