-- A row of blocks that is made from its end on.
use Rattle.offset_allocator.proofs.{Linking.Nodes.past_idle, Linking.Nodes.length-put, Linking.Nodes.reserved-put, Linking.Rows.IsRow-moved, Linking.Rows.times-first, Tallies.one-same}
use Rattle.offset_allocator.proofs.{Tallies.one-other}
use Rattle.offset_allocator.proofs.Common.{◌≡◌, ◌≢◌, ℕ, ◌+◌, ◌<◌, ◌≤◌, Bool, true, false, Option, None, Some, List, [], ◌∷◌, length, refl, sym, ap, subst, ◌∙◌, arith, cases_eq, cases_lt, IfSome, inl}
use Rattle.offset_allocator.proofs.Common.{inr, Cells, ChainCells, Node, node, put, IsRow, first_or, last_or, Block, used_block, count_named, one, nat_eq, set}
use Rattle.offset_allocator.proofs.Linking.Exchange.{Wrote, wrote, back_to, IsRelinked, relinked_memory}
use Rattle.offset_allocator.specs.Saving.Building.{HasBack, IsMade}

-- a marked name is that of a node
pub marked_below : (c : ChainCells) (x : ℕ) → 1 ≤ one (node c x).used → x < length c.nodes
marked_below c x m = elim (cases_lt x (length c.nodes)) [ inl l ↦ l | inr g ↦ absurd (omega (arith, m, ap one (past_idle c x g))) ]

pub first_below : {c : Cells} {o : ℕ} {bs : List Block} {us : List ℕ} → HasBack c o bs us → (a : Option ℕ) → first_or None bs ≡ a → IfSome a (λ z. z < length c.chain.nodes)
first_below h None e = tt
first_below {c} {o} {bs} {us} h (Some z) e = marked_below c.chain z (omega (arith, h.marks z, times-first z bs e))

-- the node after a new first one is linked back to it
pub record IsBacked (x : ℕ) (a : Option ℕ) (w d : ChainCells) : Type 0 where
  pub head : (z : ℕ) → a ≡ Some z → node d z ≡ record (node w z) { before = Some x }
  pub others : (k : ℕ) → a ≢ Some k → node d k ≡ node w k

pub backed : {w d : ChainCells} (x : ℕ) (a : Option ℕ) → IsRelinked a (back_to x) w d → ((z : ℕ) → a ≡ Some z → z < length w.nodes) → IsBacked x a w d
backed {w} {d} x None e l = record { head = λ z q. absurd (cc); others = λ k n. ap (λ t. node t k) e }
backed {w} {d} x (Some y) e l =
    let r = wrote e (l y refl) in
    record { head = λ z q. let same : y ≡ z = cc in rw (← same) r.here; others = λ k n. r.other k (λ q. n (ap (λ i. Some i) (sym q))) }

module _ (c₀ c₁ c₂ c₃ : ChainCells) (x o n : ℕ) (a b : Option ℕ) (l : x < length c₀.nodes) (none : b ≡ None)
    (e₁ : c₁ ≡ put c₀ x (record { offset = o; size = n; used = false; before = b; after = a })) (e₂ : c₂ ≡ put c₁ x (record (node c₁ x) { used = true })) where
  s₁ : Wrote c₀ c₁ x (record { offset = o; size = n; used = false; before = b; after = a })
  s₁ = wrote e₁ l

  s₂ : Wrote c₁ c₂ x (record (node c₁ x) { used = true })
  s₂ = wrote e₂ (omega (arith, l, s₁.cells))

  pub two_length : length c₂.nodes ≡ length c₀.nodes
  two_length = s₂.cells ∙ s₁.cells

  two_here : node c₂ x ≡ record { offset = o; size = n; used = true; before = None; after = a }
  two_here = s₂.here ∙ ap (λ (v : Node). record v { used = true }) s₁.here ∙ rw none refl

  two_other : (k : ℕ) → k ≢ x → node c₂ k ≡ node c₀ k
  two_other k ne = s₂.other k ne ∙ s₁.other k ne

  module _ (bs : List Block) (absent : count_named x bs ≡ 0) (first : first_or None bs ≡ a) (h : IsBacked x a c₂ c₃) (once : (k : ℕ) → count_named k bs ≡ one (node c₀ k).used) where
    not_first : a ≢ Some x
    not_first q = omega (arith, absent, times-first x bs (first ∙ q))

    here : node c₃ x ≡ record { offset = o; size = n; used = true; before = None; after = a }
    here = h.others x not_first ∙ two_here

    at_most : (u : Bool) → one u ≤ 1
    at_most true = omega arith
    at_most false = omega arith

    in_back : (k : ℕ) → 1 ≤ count_named k bs → k ≢ x
    in_back k s q = omega (arith, absent, s, ap (λ i. count_named i bs) q)

    pub row_prepended : IsRow c₀ None (o + n) bs None → IsRow c₃ None o (used_block x n ∷ bs) None
    row_prepended r = (
      here ∙ rw first refl,
      IsRow-moved c₀ c₃ None (Some x) (o + n) bs None (λ k. rw (once k) (at_most (node c₀ k).used))
          (λ z q. h.head z (sym first ∙ q) ∙ ap (λ (v : Node). record v { before = Some x }) (two_other z (in_back z (times-first z bs q))))
          (λ k s ne. h.others k (λ q. ne (first ∙ q)) ∙ two_other k (in_back k s)) r,
    )

    same_use : (k : ℕ) → k ≢ x → (node c₃ k).used ≡ (node c₀ k).used
    same_use k ne = go a h
      where
        go : (a : Option ℕ) → IsBacked x a c₂ c₃ → (node c₃ k).used ≡ (node c₀ k).used
        go None h = ap (λ (v : Node). v.used) (h.others k (λ q. cc) ∙ two_other k ne)
        go (Some z) h = elim (cases_eq z k) [
          | inl e ↦ ap (λ (v : Node). v.used) (h.head k (ap (λ i. Some i) e) ∙ ap (λ (v : Node). record v { before = Some x }) (two_other k ne))
          | inr e ↦ ap (λ (v : Node). v.used) (h.others k (λ q. e (cc)) ∙ two_other k ne)
        ]

    mark_here : one (nat_eq x x) + count_named x bs ≡ one (node c₃ x).used
    mark_here = omega (arith, absent, one-same x, ap (λ (v : Node). one v.used) here)

    pub marks_prepended : (k : ℕ) → count_named k (used_block x n ∷ bs) ≡ one (node c₃ k).used
    marks_prepended k = elim (cases_eq k x) [
      | inl e ↦ subst (λ i. count_named i (used_block x n ∷ bs) ≡ one (node c₃ i).used) (sym e) mark_here
      | inr e ↦ omega (arith, one-other k x e, once k, ap one (same_use k e))
    ]

pub some_below : (a : Option ℕ) {m n : ℕ} → m ≡ n → IfSome a (λ z. z < n) → IfSome a (λ z. z < m)
some_below None e h = tt
some_below (Some z) e h = rw e h

-- nothing else changes
pub made_prepended : {max n m x : ℕ} {c d e f : Cells} (a : Option ℕ) (p q : Node) (v y : ℕ) → IsMade max n m c → x < length c.chain.nodes → d ≡ record c { chain = put c.chain x p }
    → e ≡ record d { chain = put d.chain x q; bins = record d.bins { newer = set d.bins.newer x v } } → length f.chain.nodes ≡ length e.chain.nodes
    → IsRelinked a (back_to y) e.chain f.chain → f.bins ≡ e.bins → IsMade max n m f
made_prepended {c = c} {d} {e} {f} a p q v y h l e₁ e₂ long link bins =
    let memory = relinked_memory (back_to y) e.chain f.chain a link in
    grind (arith, length-put, reserved-put)

pub last_case : (a : Option ℕ) (x y z : ℕ) (b : Block) (bs : List Block) → first_or None bs ≡ a → (a ≡ None → z ≡ x) → ((bs ≡ [] → ⊥) → last_or None bs ≡ Some y → last_or None (b ∷ bs) ≡ Some z)
    → ((bs ≡ [] → ⊥) → last_or None bs ≡ Some y) → b.name ≡ x → last_or None (b ∷ bs) ≡ Some z
last_case a x y z b [] e only l i n = ap (λ v. Some v) (n ∙ sym (only (sym e)))
last_case a x y z b (d ∷ bs) e only l i n = l (λ q. cc) (i (λ q. cc))
