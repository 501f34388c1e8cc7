-- What the reasons of refusals advise: that `compact` makes room, or that a fresh space would not.
use Rattle.offset_allocator.proofs.Common.{◌≡◌, ◌≢◌, ◌↔◌, ℕ, ◌+◌, ◌*◌, ◌^◌, ◌<◌, ◌≤◌, List, [], ◌∷◌, ◌++◌, length, sum, replicate, refl, sym, ap, subst, ◌∙◌, inl, inr, arith, length-append}
use Rattle.offset_allocator.proofs.Common.{AllByRecursion, cases_lt, cases_eq, length-replicate, sum_by-cons, value, up, down, Block, View, free_sizes, bin_at, push, push_all, IsWellFormed, IsFresh}
use Rattle.offset_allocator.proofs.Common.{Compacts, live, gathered, CanGrant, AdmitsBlocks, IsWhy, size_needed, common_steps}
use Rattle.offset_allocator.proofs.{Classes.down_law, Classes.down_small, Classes.value_down, Classes.value_grows, Classes.up_reached, Always.adds_up, Reporting.Counting.value_within_free}
use Rattle.offset_allocator.proofs.{Emptied.none_at, Taken.HasFit, Views.ViewFits.good_refusal, Views.ViewBins.names_same, Views.ViewBins.names_other}
use Rattle.offset_allocator.specs.declared.reports.Refusal.{Refusal}
use Rattle.offset_allocator.specs.declared.reports.Refusal.TheVariants.{Nodes, TooLarge, Space, Fragmented}

-- one block of s units, alone in its bin
abbrev alone : ℕ → ℕ → List (List ℕ)
alone x s = push (down s) x (replicate 256 [])

alone_here : (x s : ℕ) → bin_at (alone x s) (down s) ≡ x ∷ bin_at (replicate 256 []) (down s)
alone_here x s = names_same (replicate 256 []) (down s) (x ∷ bin_at (replicate 256 []) (down s)) (length-replicate {A = List ℕ} 256 []) (down_small s)

-- it serves requests for as many units as it has, rounded up to a class
serves_alone : (x s n c : ℕ) → up n ≤ c → bin_at (alone x s) c ≢ [] → (n ≤ value (up n)) × (value (up n) ≤ s)
serves_alone x s n c l some = elim (cases_eq c (down s)) [
  | inl e ↦ (up_reached n (omega (arith, down_small s, e, l)), omega (arith, value_grows (up n) (down s) (omega (arith, e, l)), value_down s))
  | inr d ↦ absurd (some (names_other (replicate 256 []) (down s) c (x ∷ bin_at (replicate 256 []) (down s)) d ∙ none_at c))
]

alone_serves : (x s n : ℕ) → s < 2 ^ 32 → value (up n) ≤ s → (up n ≤ down s) × (bin_at (alone x s) (down s) ≢ [])
alone_serves x s n h l = ((down_law s (up n) h).1 l, λ e. let z : x ∷ bin_at (replicate 256 []) (down s) ≡ [] = sym (alone_here x s) ∙ e in absurd (cc))

-- where not even a request of no unit fits, no block is free
nothing_below : (ns : List ℕ) → AllByRecursion (λ t. 8 * t < 9 * 0) ns → ns ≡ []
nothing_below [] h = refl
nothing_below (n ∷ ns) h = absurd (omega (arith, h.0))

pub none_free : (v : View) → IsWellFormed v → (HasFit 0 v → ⊥) → free_sizes v.blocks ≡ []
none_free v w none = nothing_below (free_sizes v.blocks) (good_refusal v w 0 (omega arith) w.fits none)

-- the free units are no more than those of the space
pub free_within : (v : View) → IsWellFormed v → sum (free_sizes v.blocks) ≤ v.size
free_within v w = omega (arith, adds_up v w)

-- packing makes no more blocks
packed_fewer : (x : ℕ) (bs : List Block) → length (live bs ++ gathered x (free_sizes bs)) ≤ length bs
packed_fewer x bs = omega (arith, length-append (live bs) (gathered x (free_sizes bs)), some (free_sizes bs), parts bs)
  where
    some : (ns : List ℕ) → length (gathered x ns) ≤ length ns
    some [] = omega arith
    some (n ∷ ns) = omega arith

    parts : (bs : List Block) → length (live bs) + length (free_sizes bs) ≡ length bs
    parts [] = grind (arith, common_steps)
    parts (b ∷ bs) = grind (arith, common_steps, parts bs)

module _ (v : View) (w : IsWellFormed v) (blocks n : ℕ) (room : AdmitsBlocks blocks v) where
  -- what compaction leaves
  module _ (u : View) (c : Compacts v u) where
    pub open_still : AdmitsBlocks blocks u
    open_still = omega (arith, room, packed_fewer c.name v.blocks, ap (λ (x : View). length x.blocks) c.view, ap (λ (x : View). x.max_allocs) c.view)

    bins_are : u.bins ≡ push_all (gathered c.name (free_sizes v.blocks)) (replicate 256 [])
    bins_are = ap (λ (x : View). x.bins) c.view

    makes_room : (ns : List ℕ) → free_sizes v.blocks ≡ ns → size_needed n ≤ sum (free_sizes v.blocks) → HasFit n u
    makes_room [] e l = absurd (omega (arith, l, ap sum e))
    makes_room (m ∷ ns) e l =
        let s : m + sum ns ≡ sum (free_sizes v.blocks) = sym (ap sum e ∙ sum_by-cons (λ (k : ℕ). k) m ns) in
        let t = alone_serves c.name (m + sum ns) n (omega (arith, s, free_within v w, w.fits)) (omega (arith, s, l)) in
        (down (m + sum ns), t.0, subst (λ o. bin_at o (down (m + sum ns)) ≢ []) (sym (bins_are ∙ ap (λ k. push_all (gathered c.name k) (replicate 256 [])) e)) t.1)

    needs_room : (CanGrant blocks n v → ⊥) → HasFit n u → (ns : List ℕ) → free_sizes v.blocks ≡ ns → size_needed n ≤ sum (free_sizes v.blocks)
    needs_room none h [] e = absurd (h.2 (ap (λ o. bin_at o h.0) (bins_are ∙ ap (λ k. push_all (gathered c.name k) (replicate 256 [])) e) ∙ none_at h.0))
    needs_room none h (m ∷ ns) e =
        let s : m + sum ns ≡ sum (free_sizes v.blocks) = sym (ap sum e ∙ sum_by-cons (λ (k : ℕ). k) m ns) in
        let l = serves_alone c.name (m + sum ns) n h.0 h.1 (subst (λ o. bin_at o h.0 ≢ []) (bins_are ∙ ap (λ k. push_all (gathered c.name k) (replicate 256 [])) e) h.2) in
        elim (cases_lt 0 (m + sum ns)) [
          | inl p ↦ omega (arith, s, l.1, p)
          | inr z ↦ absurd (no_units (omega (arith, z, l.0, l.1)) e)
        ]
      where
        no_units : n ≡ 0 → free_sizes v.blocks ≡ m ∷ ns → ⊥
        no_units z f = let g = none_free v w (λ h. none (room, subst (λ k. HasFit k v) (sym z) h)) in let y : m ∷ ns ≡ [] = sym f ∙ g in absurd (cc)

    pub compacted : (CanGrant blocks n v → ⊥) → IsWhy blocks n v Fragmented ↔ CanGrant blocks n u
    compacted none = (λ y. (open_still, makes_room _ refl y.1), λ g. (room, needs_room none g.1 _ refl, none))

  -- a fresh space of the same size
  pub fresh : (u : View) → IsFresh v.size v.max_allocs u → IsWhy blocks n v TooLarge ↔ (CanGrant blocks n u → ⊥)
  fresh u f = (
    λ y g. absurd (omega (arith, y.1, (serves_alone f.name v.size n g.1.0 g.1.1 (subst (λ o. bin_at o g.1.0 ≢ []) bins g.1.2)).1)),
    λ none. (
      room,
      elim (cases_lt v.size (value (up n))) [
        | inl l ↦ l
        | inr l ↦ absurd (none (open_too, let t = alone_serves f.name v.size n (omega (arith, w.fits)) l in (down v.size, t.0, subst (λ o. bin_at o (down v.size) ≢ []) (sym bins) t.1)))
      ],
    ),
  )
    where
      bins : u.bins ≡ alone f.name v.size
      bins = ap (λ (x : View). x.bins) f.view

      open_too : AdmitsBlocks blocks u
      open_too = omega (arith, room, w.some, ap (λ (x : View). length x.blocks) f.view, ap (λ (x : View). x.max_allocs) f.view)

-- a request that the space is too small for is not granted
pub too_small : (v : View) → IsWellFormed v → (blocks n : ℕ) → v.size < value (up n) → CanGrant blocks n v → ⊥
too_small v w blocks n l h = omega (arith, l, value_within_free v w n h.1.0 h.1.1 h.1.2, free_within v w)

-- a request has one reason at most
pub one_reason : (v : View) → IsWellFormed v → (blocks n : ℕ) (r s : Refusal) → IsWhy blocks n v r → IsWhy blocks n v s → r ≡ s
one_reason v w blocks n Nodes Nodes a b = refl
one_reason v w blocks n Nodes TooLarge a b = absurd (omega (arith, a, b.0))
one_reason v w blocks n Nodes Space a b = absurd (omega (arith, a, b.0))
one_reason v w blocks n Nodes Fragmented a b = absurd (omega (arith, a, b.0))
one_reason v w blocks n TooLarge Nodes a b = absurd (omega (arith, a.0, b))
one_reason v w blocks n TooLarge TooLarge a b = refl
one_reason v w blocks n TooLarge Space a b = absurd (omega (arith, a.1, b.1))
one_reason v w blocks n TooLarge Fragmented a b = absurd (omega (arith, a.1, b.1, free_within v w))
one_reason v w blocks n Space Nodes a b = absurd (omega (arith, a.0, b))
one_reason v w blocks n Space TooLarge a b = absurd (omega (arith, a.1, b.1))
one_reason v w blocks n Space Space a b = refl
one_reason v w blocks n Space Fragmented a b = absurd (omega (arith, a.2, b.1))
one_reason v w blocks n Fragmented Nodes a b = absurd (omega (arith, a.0, b))
one_reason v w blocks n Fragmented TooLarge a b = absurd (omega (arith, a.1, b.1, free_within v w))
one_reason v w blocks n Fragmented Space a b = absurd (omega (arith, a.1, b.2))
one_reason v w blocks n Fragmented Fragmented a b = refl

-- and none where it is granted
pub no_reason : (v : View) → IsWellFormed v → (blocks n : ℕ) (r : Refusal) → IsWhy blocks n v r → CanGrant blocks n v → ⊥
no_reason v w blocks n Nodes a h = omega (arith, a, h.0)
no_reason v w blocks n TooLarge a h = too_small v w blocks n a.1 h
no_reason v w blocks n Space a h = a.3 h
no_reason v w blocks n Fragmented a h = a.2 h
