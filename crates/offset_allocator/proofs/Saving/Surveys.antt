-- A walk over the blocks, from the end of the space to its start.
use Rattle.offset_allocator.proofs.{Reporting.Listing.ends_in, Linking.Ends.last_none, Linking.Rows.node_at, Linking.Exchange.there-below, Tallies.times-append, Tallies.one-eq}
use Rattle.offset_allocator.proofs.Common.{◌≡◌, ℕ, zero, suc, ◌+◌, ◌-◌, ◌<◌, ◌≤◌, not, Bool, None, Some, List, [], ◌∷◌, ◌++◌, length, take, drop, sum, refl, sym, ap, ap₂, subst, ◌∙◌, arith, true}
use Rattle.offset_allocator.proofs.Common.{false, ◌⊎◌, inl, inr, ◌&&◌, true≢false, starts_free, AreCoalesced, length_push, length-take-le, append_assoc, sum_by-cons, common_steps, ChainCells, Node}
use Rattle.offset_allocator.proofs.Common.{node, IsChain, IsRow, last_or, Block, units, free_sizes, count_used, one, count_named}
use Rattle.std.proofs.Math.Seq.{drop-append_seam}

-- the next block of the walk: it stands before those that were passed
pub record IsNextBack (c : ChainCells) (bs : List Block) (k x : ℕ) : Type 0 where
  pub block : Block
  pub named : block.name ≡ x
  pub below : x < length c.nodes
  pub used : (node c x).used ≡ block.used
  pub size : (node c x).size ≡ block.size
  pub passed : drop (k - 1) bs ≡ block ∷ drop k bs
  pub before : (node c x).before ≡ last_or None (take (k - 1) bs)

pub next_back : {c : ChainCells} {m last count : ℕ} (bs : List Block) (k x : ℕ) → IsChain c m last count bs → k ≤ length bs → last_or None (take k bs) ≡ Some x → IsNextBack c bs k x
next_back {c} {m} {last} {count} bs k x h l e =
    let d = ends_in bs k x l e in
    let some = d.some in
    let front : length d.front ≡ k - 1 = ap length (sym d.before) ∙ length-take-le (k - 1) bs (omega (arith, l)) in
    let n = node_at c d.front d.block d.after x (subst (λ i. IsRow c None 0 i None) d.is h.row) d.named in
    let from : drop (k - 1) bs ≡ d.block ∷ d.after = ap (λ i. drop i bs) (sym front) ∙ ap (drop (length d.front)) d.is ∙ drop-append_seam d.front (d.block ∷ d.after) in
    let long : length (d.front ++ d.block ∷ []) ≡ k = length_push d.front d.block ∙ omega (arith, front, some) in
    let after : drop k bs ≡ d.after =
    ap (λ i. drop i bs) (sym long) ∙ ap (drop (length (d.front ++ d.block ∷ []))) (d.is ∙ sym (append_assoc d.front (d.block ∷ []) d.after)) ∙ drop-append_seam (d.front ++ d.block ∷ []) d.after in
    record {
      block = d.block;
      named = d.named;
      below = there-below c m last count x bs h (omega (arith, ap (count_named x) d.is, times-append x d.front (d.block ∷ d.after), one-eq x d.block.name d.named));
      used = ap (λ (v : Node). v.used) n;
      size = ap (λ (v : Node). v.size) n;
      passed = from ∙ ap (λ i. d.block ∷ i) (sym after);
      before = ap (λ (v : Node). v.before) n ∙ ap (last_or None) (sym d.before);
    }

-- sums of the blocks from a place on
pub drop_sums : (bs : List Block) (k : ℕ) → (sum (free_sizes (drop k bs)) ≤ units bs) × (count_used (drop k bs) ≤ length bs)
drop_sums bs zero = (omega (arith, free_part_sum bs), used_small bs)
  where
    free_part_sum : (bs : List Block) → sum (free_sizes bs) ≤ units bs
    free_part_sum [] = omega arith
    free_part_sum (b ∷ bs) = grind (arith, common_steps, free_part_sum bs)

    used_small : (bs : List Block) → count_used bs ≤ length bs
    used_small [] = omega arith
    used_small (b ∷ bs) = grind (arith, common_steps, used_small bs)
drop_sums [] (suc k) = (omega arith, omega arith)
drop_sums (b ∷ bs) (suc k) = let r = drop_sums bs k in (omega (arith, r.0), omega (arith, r.1))

pub sums_free : (b : Block) (bs : List Block) → b.used ≡ false → (sum (free_sizes (b ∷ bs)) ≡ sum (free_sizes bs) + b.size) × (count_used (b ∷ bs) ≡ count_used bs)
sums_free b bs e = (grind (arith, common_steps, sum_by-cons), omega (arith, ap one e))

pub sums_used : (b : Block) (bs : List Block) → b.used ≡ true → (sum (free_sizes (b ∷ bs)) ≡ sum (free_sizes bs)) × (count_used (b ∷ bs) ≡ count_used bs + 1)
sums_used b bs e = (grind (arith, common_steps, sum_by-cons), omega (arith, ap one e))

pub joined_apart : (b : Block) (bs : List Block) → ((not b.used ≡ false) ⊎ (starts_free bs ≡ false)) → AreCoalesced bs → AreCoalesced (b ∷ bs)
joined_apart b bs (inl e) a = (ap (λ u. u && starts_free bs) e, a)
joined_apart b bs (inr e) a = (ap (λ u. not b.used && u) e ∙ and_false (not b.used), a)
  where
    and_false : (u : Bool) → (u && false) ≡ false
    and_false true = refl
    and_false false = refl

pub not_apart : (b : Block) (bs : List Block) → not b.used ≡ true → starts_free bs ≡ true → AreCoalesced (b ∷ bs) → ⊥
not_apart b bs e f a = true≢false (ap₂ (λ (u v : Bool). u && v) (sym e) (sym f) ∙ a.0)

-- the blocks from a place on are apart where all are
pub drop_apart : (bs : List Block) (k : ℕ) → AreCoalesced bs → AreCoalesced (drop k bs)
drop_apart bs zero a = a
drop_apart [] (suc k) a = tt
drop_apart (b ∷ bs) (suc k) a = drop_apart bs k a.1

pub name_next : (bs : List Block) (k : ℕ) → last_or None (take k bs) ≡ None → 1 ≤ k → k ≤ length bs → ⊥
name_next bs k e l m = omega (arith, l, ap length (last_none (take k bs) e), length-take-le k bs m)
