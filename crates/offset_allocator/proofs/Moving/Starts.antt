-- Where the search for the first free block begins.
use Rattle.offset_allocator.proofs.Common.{◌≡◌, ◌≢◌, ℕ, suc, ◌+◌, ◌≤◌, Bool, true, false, List, [], ◌∷◌, ◌++◌, length, Option, Some, None, if◌then◌else◌, refl, sym, ap, ◌∙◌, arith, not-true}
use Rattle.offset_allocator.proofs.Common.{append-nil, append_assoc, Block, Place, times, count_named, count_in_bin, bin_at, place_of, last_or, first_free, first_of, AreInBins, down}
use Rattle.offset_allocator.proofs.{Views.ViewPlaces.place_at, Views.ViewPlaces.no_place, Tallies.listed_named, Tallies.one-same, Taken.listed_block, Linking.Rows.last_or-append}
use Rattle.offset_allocator.proofs.{Moving.Sliding.first_used, Moving.Sliding.first_idle, Moving.Compacting.AreUsed}
use Rattle.offset_allocator.specs.Moving.Compacting.{IsStart, until_free}

-- the last block is one
pub start_last : (bs : List Block) (x : ℕ) → last_or None bs ≡ Some x → IsStart bs x
start_last bs x e = (bs, [], sym (append-nil bs), e, λ _. refl)

-- a free block comes before what is after it
first_some : (front : List Block) (b : Block) → b.used ≡ false → first_free (front ++ b ∷ []) ≢ None
first_some [] b free e = let f = sym (first_idle b [] free) ∙ e in absurd (cc)
first_some (d ∷ front) b free e = go d.used refl (λ f. first_some front b free f)
  where
    go : (u : Bool) → d.used ≡ u → first_free (front ++ b ∷ []) ≢ None → ⊥
    go true u rest = rest (sym (first_used d (front ++ b ∷ []) u) ∙ e)
    go false u rest = let f = sym (first_idle d (front ++ b ∷ []) u) ∙ e in absurd (cc)

-- a free block is one
pub start_free : (bs before after : List Block) (b : Block) → bs ≡ before ++ (b ∷ after) → b.used ≡ false → IsStart bs b.name
start_free bs before after b is free = (
  before ++ b ∷ [],
  after,
  is ∙ sym (append_assoc before (b ∷ []) after),
  last_or-append None before (b ∷ []),
  λ e. absurd (first_some before b free e),
)

-- the first of some names
pub head_name : (none : ℕ) (xs : List ℕ) → (xs ≡ [] → ⊥) → (ys : List ℕ) × (xs ≡ first_of none xs ∷ ys)
head_name none [] n = absurd (n refl)
head_name none (x ∷ xs) n = (xs, refl)

-- the newest name of a bin is that of a free block of its class
pub start_listed : (bs : List Block) (ls : List (List ℕ)) → AreInBins bs ls → ((x : ℕ) → count_named x bs ≤ 1) → (c x : ℕ) (xs : List ℕ) → bin_at ls c ≡ x ∷ xs
    → (p : Place) × (bs ≡ p.before ++ (p.block ∷ p.after)) × (p.block.name ≡ x) × (p.block.used ≡ false) × (c ≡ down p.block.size)
start_listed bs ls filed distinct c x xs e = go (place_of x bs) refl
  where
    listed : 1 ≤ count_in_bin c x bs
    listed = omega (arith, filed c x, ap (times x) e, one-same x)

    go : (o : Option Place) → place_of x bs ≡ o → (p : Place) × (bs ≡ p.before ++ (p.block ∷ p.after)) × (p.block.name ≡ x) × (p.block.used ≡ false) × (c ≡ down p.block.size)
    go None f = absurd (omega (arith, no_place x bs f, listed_named c x bs, listed))
    go (Some p) f =
        let b = place_at x bs p f in
        let l = listed_block c x p.before p.block p.after b.1 (omega (arith, distinct x, ap (count_named x) b.0)) (omega (arith, listed, ap (count_in_bin c x) b.0)) in
        (p, b.0, sym b.1, not-true p.block.used l.0, l.1)

-- what is found from there on is the first of all
pub first_front : (front rest : List Block) → (first_free front ≡ None → rest ≡ []) → first_free (front ++ rest) ≡ first_free front
first_front [] rest h = ap first_free (h refl)
first_front (b ∷ front) rest h = go b.used refl (λ k. first_front front rest k)
  where
    go : (u : Bool) → b.used ≡ u → ((first_free front ≡ None → rest ≡ []) → first_free (front ++ rest) ≡ first_free front)
        → first_free (b ∷ (front ++ rest)) ≡ first_free (b ∷ front)
    go true u later = first_used b (front ++ rest) u ∙ later (λ e. h (first_used b front u ∙ e)) ∙ sym (first_used b front u)
    go false u later = first_idle b (front ++ rest) u ∙ sym (first_idle b front u)

until_used : (b : Block) (bs : List Block) → b.used ≡ true → until_free (b ∷ bs) ≡ 1 + until_free bs
until_used b bs e = ap (λ (u : Bool). if u then 1 + until_free bs else 1) e

until_idle : (b : Block) (bs : List Block) → b.used ≡ false → until_free (b ∷ bs) ≡ 1
until_idle b bs e = ap (λ (u : Bool). if u then 1 + until_free bs else 1) e

pub until_front : (front rest : List Block) → (first_free front ≡ None → rest ≡ []) → until_free (front ++ rest) ≤ length front
until_front [] rest h = omega (arith, ap until_free (h refl))
until_front (b ∷ front) rest h = go b.used refl (λ k. until_front front rest k)
  where
    go : (u : Bool) → b.used ≡ u → ((first_free front ≡ None → rest ≡ []) → until_free (front ++ rest) ≤ length front)
        → until_free (b ∷ (front ++ rest)) ≤ suc (length front)
    go true u later = omega (arith, until_used b (front ++ rest) u, later (λ e. h (first_used b front u ∙ e)))
    go false u later = omega (arith, until_idle b (front ++ rest) u)

-- where none is free, all come before it
pub until_none : (bs : List Block) → first_free bs ≡ None → until_free bs ≡ length bs
until_none [] e = refl
until_none (b ∷ bs) e = go b.used refl (λ f. until_none bs f)
  where
    go : (u : Bool) → b.used ≡ u → (first_free bs ≡ None → until_free bs ≡ length bs) → until_free (b ∷ bs) ≡ suc (length bs)
    go true u later = omega (arith, until_used b bs u, later (sym (first_used b bs u) ∙ e))
    go false u later = let f = sym (first_idle b bs u) ∙ e in absurd (cc)

-- the used blocks before the first free one, and that one
pub until_first : (before after : List Block) (b : Block) → AreUsed before → b.used ≡ false → until_free (before ++ (b ∷ after)) ≡ length before + 1
until_first [] after b h free = omega (arith, until_idle b after free)
until_first (d ∷ before) after b h free = omega (arith, until_used d (before ++ (b ∷ after)) h.0, until_first before after b h.1 free)
