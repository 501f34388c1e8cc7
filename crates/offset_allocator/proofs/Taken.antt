-- The block that a request takes, and when there is one.
use Rattle.offset_allocator.proofs.{Views.ViewPlaces.place_at, Views.ViewPlaces.no_place, Tallies.listed_named, Tallies.tally_append, Tallies.hit_cases, Tallies.one-same}
use Rattle.offset_allocator.proofs.Common.{not, ◌≡◌, ◌≢◌, ℕ, ◌≤◌, Bool, true, false, ◌&&◌, List, [], ◌∷◌, ◌++◌, Option, Some, None, nat_eq, refl, sym, ap, arith, not-true, up, down, Block, View}
use Rattle.offset_allocator.proofs.Common.{Place, one, times, count_named, count_in_bin, bin_at, place_of, IsWellFormed}

-- the free block of class c that is named x
pub record Taken (v : View) (c x : ℕ) : Type 0 where
  pub place : Place
  pub list_is : v.blocks ≡ place.before ++ (place.block ∷ place.after)
  pub name : place.block.name ≡ x
  pub free : place.block.used ≡ false
  pub class : down place.block.size ≡ c

hit_parts : (f : Bool) (c d : ℕ) (r : Bool) → 1 ≤ one (f && (nat_eq c d && r)) → (f ≡ true) × (c ≡ d)
hit_parts true c d r l = grind (arith, hit_cases)
hit_parts false c d r l = grind arith

-- the block of a name that is listed is free, and of that class
pub listed_block : (c x : ℕ) (before : List Block) (b : Block) (after : List Block) → x ≡ b.name → count_named x (before ++ b ∷ after) ≤ 1 → 1 ≤ count_in_bin c x (before ++ b ∷ after)
    → (not b.used ≡ true) × (c ≡ down b.size)
listed_block c x before b after e most l = grind (arith, hit_parts, hit_cases, listed_named, tally_append)

-- a name in a bin is that of a free block of its class
pub taken_among : (v : View) → IsWellFormed v → (c x : ℕ) → 1 ≤ times x (bin_at v.bins c) → Taken v c x
taken_among v w c x there = go (place_of x v.blocks) refl
  where
    listed : 1 ≤ count_in_bin c x v.blocks
    listed = omega (arith, w.binned c x, there)

    go : (o : Option Place) → place_of x v.blocks ≡ o → Taken v c x
    go None f = absurd (omega (arith, no_place x v.blocks f, listed_named c x v.blocks, listed))
    go (Some p) f =
        let b = place_at x v.blocks p f in
        let l = listed_block c x p.before p.block p.after b.1 (omega (arith, w.distinct x, ap (count_named x) b.0)) (omega (arith, listed, ap (count_in_bin c x) b.0)) in
        record { place = p; list_is = b.0; name = sym b.1; free = not-true p.block.used l.0; class = sym l.1 }

pub taken : (v : View) → IsWellFormed v → (c x : ℕ) (xs : List ℕ) → bin_at v.bins c ≡ x ∷ xs → Taken v c x
taken v w c x xs e = taken_among v w c x (omega (arith, ap (times x) e, one-same x))

-- some bin is not empty whose class is large enough
abbrev pub HasFit : ℕ → View → Type 0
HasFit n v = (c : ℕ) × (up n ≤ c) × (bin_at v.bins c ≢ [])

-- then a free block is of such a class
pub fitting : (n : ℕ) (v : View) → IsWellFormed v → HasFit n v → (p : Place) × (v.blocks ≡ p.before ++ (p.block ∷ p.after)) × (p.block.used ≡ false) × (up n ≤ down p.block.size)
fitting n v w h = go (bin_at v.bins h.0) refl
  where
    go : (xs : List ℕ) → bin_at v.bins h.0 ≡ xs → (p : Place) × (v.blocks ≡ p.before ++ (p.block ∷ p.after)) × (p.block.used ≡ false) × (up n ≤ down p.block.size)
    go [] e = absurd (h.2 e)
    go (x ∷ xs) e = let t = taken v w h.0 x xs e in (t.place, t.list_is, t.free, omega (arith, t.class, h.1))
