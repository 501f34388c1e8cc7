-- A block in no bin, where the bins hold the other free blocks.
use Rattle.offset_allocator.proofs.{Tallies.listed_named, Tallies.tally_append, Tallies.hit_cases, Tallies.one-eq, Tallies.times-append, Linking.Exchange.each-le, Linking.Places.at_place}
use Rattle.offset_allocator.proofs.{Linking.Places.next_place, Linking.Places.previous_place, Views.ViewBins.times_remove_all, Views.ViewTaken.tally_end, Views.ViewTaken.tally_start}
use Rattle.offset_allocator.proofs.{Joints.remove_free, Common.remove, Common.IsUnlisted, Common.AreInBins, Common.ListsOnly}
use Rattle.offset_allocator.proofs.Common.{not, ◌≡◌, ℕ, ◌+◌, ◌≤◌, Bool, true, false, ◌&&◌, Some, None, List, [], ◌∷◌, ◌++◌, length, nat_eq, refl, sym, ap, ◌∙◌, arith, inl, inr, down, ChainCells, Node}
use Rattle.offset_allocator.proofs.Common.{node, Block, Place, one, count_named, count_in_bin, bin_at, free_end, without_end, free_start, without_start, remove_all, HasPlace, first_or, IsAmong}

-- the sum that `count_in_bin` takes, of one block
abbrev pub share : ℕ → ℕ → Block → ℕ
share k y b = one (not b.used && (nat_eq k (down b.size) && nat_eq y b.name))

-- a free block counts once
pub counts_once : {c : ChainCells} {m last count y : ℕ} {p : Place} → HasPlace c m last count y p → (node c y).used ≡ false → share (down (node c y).size) y p.block ≡ 1
counts_once {c} {y = y} {p = p} h u =
    let at = at_place h in
    rw (
      ap (λ (v : Node). v.size) at,
      ← ap (λ (v : Node). v.used) at,
      u,
      h.name,
    ) (elim (hit_cases (down p.block.size) (down p.block.size)) [ inl a ↦ elim (hit_cases y y) [ inl b ↦ both _ _ a.1 b.1 | inr b ↦ absurd (b.0 refl) ] | inr a ↦ absurd (a.0 refl) ])
  where
    both : (a b : Bool) → one a ≡ 1 → one b ≡ 1 → one (a && b) ≡ 1
    both true b e f = f
    both false b e f = absurd (omega arith)

pub counts_idle : (b : Block) → b.used ≡ false → share (down b.size) b.name b ≡ 1
counts_idle b u = rw u (elim (hit_cases (down b.size) (down b.size)) [ inl d ↦ elim (hit_cases b.name b.name) [ inl e ↦ both _ _ d.1 e.1 | inr e ↦ absurd (e.0 refl) ] | inr d ↦ absurd (d.0 refl) ])
  where
    both : (d e : Bool) → one d ≡ 1 → one e ≡ 1 → one (d && e) ≡ 1
    both true e f h = h
    both false e f h = absurd (omega arith)

-- a free block of a list leaves its bin
module _ (fs cs : List Block) (b : Block) (ls : List (List ℕ)) (f : AreInBins (fs ++ b ∷ cs) ls) (u : b.used ≡ false) where
  pub filed_in : IsAmong b.name (bin_at ls (down b.size))
  filed_in = let k : ℕ = down b.size in omega (arith, f k b.name, tally_append (share k b.name) fs (b ∷ cs), counts_idle b u)

  pub filed_out : length ls ≡ 256 → ((y : ℕ) → count_named y (fs ++ b ∷ cs) ≤ 1) → AreInBins (fs ++ cs) (remove (down b.size) b.name ls)
  filed_out long once k y =
      let parts : (k y : ℕ) → count_in_bin k y (fs ++ b ∷ cs) ≡ count_in_bin k y fs + (count_in_bin k y (b ∷ []) + count_in_bin k y cs) =
      λ k y. omega (arith, tally_append (share k y) fs (b ∷ cs)) in
      let left = times_remove_all (b ∷ []) ls long (λ k y. omega (arith, f k y, listed_named k y (fs ++ b ∷ cs), once y)) (λ k y. omega (arith, f k y, parts k y)) in
      omega (arith, f k y, parts k y, rw (remove_free b ls u) at (left k y), tally_append (share k y) fs cs)

pub few : {c : ChainCells} {m last count x : ℕ} {p : Place} → HasPlace c m last count x p → (y : ℕ) → count_named y (p.before ++ p.after) + one (nat_eq y p.block.name) ≤ 1
few {c} {m} {last} {count} {p = p} h y = omega (arith, each-le c m last count _ h.chain y, times-append y p.before p.after, times-append y p.before (p.block ∷ p.after))

module _ {c : ChainCells} {m last count x : ℕ} {p : Place} (h : HasPlace c m last count x p) (ls : List (List ℕ)) (f : AreInBins (p.before ++ p.after) ls) where
  pub unlisted : IsUnlisted x ls
  unlisted k b a = omega (arith, f k x, listed_named k x (p.before ++ p.after), few h x, one-eq x p.block.name h.name)

  -- the free blocks beside it are in their bins
  pub previous_filed : {y : ℕ} → Some y ≡ (node c x).before → (node c y).used ≡ false → IsAmong y (bin_at ls (down (node c y).size))
  previous_filed {y} e u =
      let n = previous_place h e in
      let k : ℕ = down (node c y).size in
      omega (arith, f k y, tally_append (share k y) p.before p.after, ap (count_in_bin k y) n.is, tally_append (share k y) n.front (n.block ∷ []), counts_once n.place u)

  pub next_filed : {y : ℕ} → Some y ≡ (node c x).after → (node c y).used ≡ false → IsAmong y (bin_at ls (down (node c y).size))
  next_filed {y} e u =
      let n = next_place h e in
      let k : ℕ = down (node c y).size in
      omega (arith, f k y, tally_append (share k y) p.before p.after, ap (count_in_bin k y) n.is, counts_once n.place u)

  -- a free block before it leaves its bin
  pub filed_before : length ls ≡ 256 → AreInBins (without_end p.before ++ p.after) (remove_all (free_end p.before) ls)
  filed_before long k y =
      let parts : (k y : ℕ) → count_in_bin k y (p.before ++ p.after) ≡ (count_in_bin k y (without_end p.before) + count_in_bin k y (free_end p.before)) + count_in_bin k y p.after =
      λ k y. omega (arith, tally_append (share k y) p.before p.after, tally_end (share k y) p.before) in
      let left = times_remove_all (free_end p.before) ls long (λ k y. omega (arith, f k y, listed_named k y (p.before ++ p.after), few h y)) (λ k y. omega (arith, f k y, parts k y)) in
      omega (arith, f k y, parts k y, left k y, tally_append (share k y) (without_end p.before) p.after)

-- and so does one after it
module _ {c : ChainCells} {m last count x : ℕ} {p : Place} (h : HasPlace c m last count x p) (ls : List (List ℕ)) (f : AreInBins (p.before ++ p.after) ls) (long : length ls ≡ 256) where
  pub filed_after : AreInBins (p.before ++ without_start p.after) (remove_all (free_start p.after) ls)
  filed_after k y =
      let parts : (k y : ℕ) → count_in_bin k y (p.before ++ p.after) ≡ count_in_bin k y p.before + (count_in_bin k y (free_start p.after) + count_in_bin k y (without_start p.after)) =
      λ k y. omega (arith, tally_append (share k y) p.before p.after, tally_start (share k y) p.after) in
      let left = times_remove_all (free_start p.after) ls long (λ k y. omega (arith, f k y, listed_named k y (p.before ++ p.after), few h y)) (λ k y. omega (arith, f k y, parts k y)) in
      omega (arith, f k y, parts k y, left k y, tally_append (share k y) p.before (without_start p.after))

  -- then a name that no block has is in no bin
  pub unlisted_after : (n : ℕ) → ListsOnly (p.before ++ record p.block { size = n } ∷ without_start p.after) (remove_all (free_start p.after) ls)
  unlisted_after n y e k b a = grind (arith, filed_after, listed_named, times-append)

-- the block after a block is the same, whatever became of those before it
pub next_same : {c d : ChainCells} {m last count last' count' x y : ℕ} {p q : Place} → HasPlace c m last count x p → HasPlace d m last' count' x q → p.after ≡ q.after
    → Some y ≡ (node c x).after → (Some y ≡ (node d x).after) × ((node d y).used ≡ (node c y).used)
next_same {c} {d} {x = x} {y = y} h g same e =
    let n = next_place h e in
    let e' : Some y ≡ (node d x).after = e ∙ ap (λ (v : Node). v.after) (at_place h) ∙ ap (first_or None) same ∙ sym (ap (λ (v : Node). v.after) (at_place g)) in
    let n' = next_place g e' in
    let one : n'.block ≡ n.block = cc in
    (e', ap (λ (v : Node). v.used) (at_place n'.place) ∙ ap (λ (b : Block). b.used) one ∙ sym (ap (λ (v : Node). v.used) (at_place n.place)))
