-- Bins and the nodes that are used: a name in a bin is that of a node that is not, and a name in none may be marked.
use Rattle.offset_allocator.proofs.Common.{◌≡◌, ◌≢◌, ◌<◌, ◌≤◌, ◌+◌, ◌-◌, ℕ, false, List, [], ◌∷◌, ◌++◌, sym, ap, subst, ◌∙◌, arith, length, length-append, length-set, slice_index, slice_set}
use Rattle.offset_allocator.proofs.Common.{get_or-set_other, ne_eqb, cases_eq, get_or_append_left, Cells, BinCells, node, AreShaped, bin_at, remove, IsLinked, IsAmong, HasBins, IsBinned, IsUnlisted}
use Rattle.offset_allocator.proofs.{Common.bins_in, Common.common_steps, Tallies.one-same, Views.ViewBins.names_other, Views.ViewBins.names_same, Views.ViewBins.times_without_self}
use Rattle.offset_allocator.proofs.Filing.Binned.{below, binned, head, newer_in, older_among}

module _ {max : ℕ} {t : Cells} (s : AreShaped max t) where
  -- a link is a name or none, and so no mark
  pub no_mark : (n : ℕ) → (n ≢ max → n < length t.chain.nodes) → n ≢ max - 1
  no_mark n h e = grind (arith, cases_eq)

  module _ {ls : List (List ℕ)} (k : HasBins max t.bins ls) (c : ℕ) (ch : c < 256) where
    -- a node in a bin is not used
    pub listed_idle : (x : ℕ) → IsAmong x (bin_at ls c) → (node t.chain x).used ≡ false
    listed_idle x a =
        s.flags x (omega (arith, below k c ch x a, s.newer))
        ∙ ne_eqb (slice_index t.bins.newer x) (max - 1) (no_mark (slice_index t.bins.newer x) (λ n. omega (arith, newer_in k c ch x a n, s.newer)))

    -- nor is the one after the first, or after another
    pub after_idle : (x : ℕ) → IsAmong x (bin_at ls c) → slice_index t.bins.older x ≢ max → (node t.chain (slice_index t.bins.older x)).used ≡ false
    after_idle x a n = listed_idle (slice_index t.bins.older x) (older_among k c ch x a n)

    pub second_idle : {after : ℕ} → bin_at ls c ≢ [] → after ≡ slice_index t.bins.older (slice_index t.bins.heads c) → after ≢ max → (node t.chain after).used ≡ false
    second_idle some e n = grind (arith, head, after_idle, one-same)

-- a name that left its list is in none
pub removed_unlisted : {none : ℕ} {t : BinCells} {ls : List (List ℕ)} → HasBins none t ls → (c : ℕ) → c < 256 → (x : ℕ) → IsAmong x (bin_at ls c) → IsUnlisted x (remove c x ls)
removed_unlisted {ls = ls} k c ch x there d dh a = grind (arith, common_steps, cases_eq, names_same, times_without_self, names_other)

-- the links of names that the lists have stay
module _ (none : ℕ) (t t' : BinCells) (long : length t.newer ≤ length t'.newer) where
  stays : (b : ℕ) (xs : List ℕ) → ((y : ℕ) → IsAmong y xs → y < length t.newer → (slice_index t'.newer y ≡ slice_index t.newer y) × (slice_index t'.older y ≡ slice_index t.older y))
      → IsLinked none t b xs → IsLinked none t' b xs
  stays b [] h d = tt
  stays b (x ∷ xs) h d =
      let e = h x (omega (arith, one-same x)) d.0 in
      (omega (arith, d.0, long), e.0 ∙ d.1, e.1 ∙ d.2, stays x xs (λ y a l. h y (omega (arith, a)) l) d.3)

  pub linked_still : {ls : List (List ℕ)} → HasBins none t ls → length t'.older ≡ length t'.newer → length t'.newer ≤ none → t'.heads ≡ t.heads
      → ((c y : ℕ) → c < 256 → IsAmong y (bin_at ls c) → y < length t.newer → (slice_index t'.newer y ≡ slice_index t.newer y) × (slice_index t'.older y ≡ slice_index t.older y))
      → HasBins none t' ls
  linked_still k older small heads h = grind (arith, stays)

-- what a node that is in no bin is linked to does not matter
pub binned_marked : {max : ℕ} {t t' : BinCells} {top : ℕ} (x v : ℕ) → IsBinned max t top → IsUnlisted x (bins_in max t) → t' ≡ record t { newer = slice_set t.newer x v }
    → IsBinned max t' top × (bins_in max t' ≡ bins_in max t)
binned_marked {max} {t} {t'} x v b fresh e =
    let k = b.linked in
    let newer : t'.newer ≡ slice_set t.newer x v = ap (λ (i : BinCells). i.newer) e in
    let older : t'.older ≡ t.older = ap (λ (i : BinCells). i.older) e in
    let long : length t'.newer ≡ length t.newer = rw newer (length-set t.newer x v) in
    binned (linked_still max t t' (omega (arith, long)) k (ap (λ (l : List ℕ). length l) older ∙ k.older_len ∙ sym long) (omega (arith, long, k.names_small)) (ap (λ (i : BinCells). i.heads) e)
    (λ c y ch a l. (rw newer (get_or-set_other t.newer x y v 0 (λ q. fresh c ch (subst (λ i. IsAmong i (bin_at (bins_in max t) c)) q a))), rw older)))
    (rw (ap (λ (i : BinCells). i.masks) e) b.masked)

-- one more node
pub binned_more : {max : ℕ} {t t' : BinCells} {top : ℕ} (v w : ℕ) → IsBinned max t top → length t.newer < max → t'.newer ≡ t.newer ++ v ∷ [] → t'.older ≡ t.older ++ w ∷ []
    → t'.heads ≡ t.heads → t'.masks ≡ t.masks → IsBinned max t' top × (bins_in max t' ≡ bins_in max t)
binned_more {max} {t} {t'} v w b room newer older heads masks =
    let k = b.linked in
    let long : length t'.newer ≡ length t.newer + 1 = rw newer (length-append t.newer (v ∷ [])) in
    let long_older : length t'.older ≡ length t.older + 1 = rw older (length-append t.older (w ∷ [])) in
    binned (linked_still max t t' (omega (arith, long)) k (omega (arith, long, long_older, k.older_len)) (omega (arith, long, room)) heads
    (λ c y ch a l. (rw newer (get_or_append_left t.newer (v ∷ []) 0 y l), rw older (get_or_append_left t.older (w ∷ []) 0 y (omega (arith, l, k.older_len))))))
    (rw masks b.masked)
