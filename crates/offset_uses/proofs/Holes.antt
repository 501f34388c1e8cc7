-- Free blocks, counted along a walk over the blocks.
use Rattle.std.proofs.Common.{◌≡◌, ℕ, ◌+◌, ◌<◌, ◌≤◌, Bool, true, false, is_some, slice_index, slice_set, get_or-set_same, get_or-set_other, List, [], ◌∷◌, ◌++◌, length, reverse, nat_eq, if◌then◌else◌}
use Rattle.std.proofs.Common.{refl, ap, ◌∙◌, arith}
use Rattle.std.proofs.lemmas.Bool.Decides.{eqb_tells}
use Rattle.std.proofs.lemmas.List.{reverse-append}
use Rattle.offset_allocator.specs.{Classes.down, View.Block, View.Handle, View.View, View.free_sizes, Reporting.FreeSizes.count_of}
use Rattle.offset_allocator.proofs.Classes.{down_small}
use Rattle.offset_allocator.specs.Reporting.Listing.{Placed, placed, placed_at, listing}

-- a test as a count
abbrev one_if : Bool → ℕ
one_if u = if u then 1 else 0

-- whether a free block of class k is one of class c
abbrev class_hole : ℕ → ℕ → ℕ
class_hole k c = one_if (nat_eq k c)

-- whether a block is a free block of class c
abbrev pub hole : ℕ → Placed → ℕ
hole c p = if is_some {T = Handle} p.handle then 0 else class_hole (down p.size) c

-- how many of the blocks are
abbrev pub holes : ℕ → List Placed → ℕ
holes c [] = 0
holes c (p ∷ ps) = hole c p + holes c ps

holes-append : (c : ℕ) (ps qs : List Placed) → holes c (ps ++ qs) ≡ holes c ps + holes c qs
holes-append c [] qs = omega arith
holes-append c (p ∷ ps) qs = let ih = holes-append c ps qs in omega (arith, ih)

holes-reverse : (c : ℕ) (ps : List Placed) → holes c (reverse ps) ≡ holes c ps
holes-reverse c [] = refl
holes-reverse c (p ∷ ps) = omega (arith, ap (holes c) (reverse-append (p ∷ []) ps), holes-append c (reverse ps) (p ∷ []), holes-reverse c ps)

holes-placed : (c o : ℕ) (bs : List Block) → holes c (placed o bs) ≡ count_of c (free_sizes bs)
holes-placed c o [] = refl
holes-placed c o (b ∷ bs) =
    let ih = holes-placed c (o + b.size) bs in
    elim b.used as (λ u. hole c (placed_at o (record b { used = u })) + holes c (placed (o + b.size) bs) ≡ count_of c (if u then free_sizes bs else b.size ∷ free_sizes bs))
    [ true ↦ omega (arith, ih) | false ↦ omega (arith, ih) ]

-- a walk over all blocks finds all free blocks
pub holes-listing : (c : ℕ) (v : View) → holes c (listing v) ≡ count_of c (free_sizes v.blocks)
holes-listing c v = holes-reverse c (placed 0 v.blocks) ∙ holes-placed c 0 v.blocks

one_hole : (u : Bool) → one_if u ≤ 1
one_hole true = omega arith
one_hole false = omega arith

-- there are no more free blocks than blocks
pub count_most : (c : ℕ) (bs : List Block) → count_of c (free_sizes bs) ≤ length bs
count_most c [] = omega arith
count_most c (b ∷ bs) =
    let ih = count_most c bs in
    elim b.used as (λ (u : Bool). count_of c (if u then free_sizes bs else b.size ∷ free_sizes bs) ≤ length (b ∷ bs))
    [ true ↦ omega (arith, ih) | false ↦ omega (arith, ih, one_hole (nat_eq (down b.size) c)) ]

-- one free block more is counted
pub counted_hole : (ns : List ℕ) (p : Placed) (ps : List Placed) (k : ℕ) (total : ℕ → ℕ) → length ns ≡ 256 → k ≡ down p.size → is_some {T = Handle} p.handle ≡ false
    → ((c : ℕ) → c < 256 → slice_index ns c + holes c (p ∷ ps) ≡ total c)
    → (c : ℕ) → c < 256 → slice_index (slice_set ns k (slice_index ns k + 1)) c + holes c ps ≡ total c
counted_hole ns p ps k total len e none so_far c l = search (arith, eqb_tells, length, slice_index, slice_set, get_or-set_same, get_or-set_other)

-- so that count is at most the total
pub hole_fits : (ns : List ℕ) (p : Placed) (ps : List Placed) (k : ℕ) (total : ℕ → ℕ) → length ns ≡ 256 → k ≡ down p.size → is_some {T = Handle} p.handle ≡ false
    → ((c : ℕ) → c < 256 → slice_index ns c + holes c (p ∷ ps) ≡ total c) → slice_index ns k + 1 ≤ total k
hole_fits ns p ps k total len e none so_far = search (arith, down_small, length, counted_hole, get_or-set_same, slice_index)
