-- The chain, the bins and the view together.
use Rattle.offset_allocator.proofs.Common.{◌≡◌, ℕ, zero, suc, ◌+◌, ◌≤◌, Bool, true, false, List, [], ◌∷◌, ◌++◌, if◌then◌else◌, take, refl, ap, ◌∙◌, arith, down, units, Block, View, count_named}
use Rattle.offset_allocator.proofs.Common.{count_in_bin, IsWellFormed, free_part, remove_all, remove, Cells, IsChain, IsBinned, bins_in, IsUnlisted, view_of, common_steps}
use Rattle.offset_allocator.proofs.{Views.ViewChain.blocks-chain, Views.ViewChain.space-chain, Sound.Fields, Sound.AreSound, Sound.well_unused, Tallies.listed_named, Tallies.tally_append}
use Rattle.offset_allocator.proofs.Tallies.{free_units, free_sum}

-- a name that no free block has is in no list
pub unlisted : (v : View) → IsWellFormed v → (x : ℕ) → ((c : ℕ) → count_in_bin c x v.blocks ≡ 0) → IsUnlisted x v.bins
unlisted v w x h c ch a = omega (arith, a, w.binned c x, h c)

pub unused_unlisted : (v : View) → IsWellFormed v → (x : ℕ) → count_named x v.blocks ≡ 0 → IsUnlisted x v.bins
unused_unlisted v w x h = unlisted v w x (λ c. omega (arith, listed_named c x v.blocks))

-- whatever was counted, and whichever names are unused
abbrev pub with_unused : List ℕ → ℕ → View → View
with_unused unused k v = record v { unused = unused; accesses = k }

-- the fields after a call: the tables hold the blocks and the bins of a well-formed view
pub stepped : (f : Fields) → AreSound f → (v : View) (d : Cells) (free k : ℕ) {last count top : ℕ} {bs : List Block} → IsWellFormed v → v.max_allocs ≡ f.limit
    → IsChain d.chain f.cells.chain.reserved last count bs → bs ≡ v.blocks → IsBinned f.max d.bins top → bins_in f.max d.bins ≡ v.bins → free_units bs ≡ free
    → AreSound (record f { size = v.size; cells = d; last = last; count = count; top = top; free = free }) × (view_of f.max v.size f.limit d last count k ≡ with_unused (take count d.chain.spare) k v)
stepped f s v d free k {last} {count} {top} {bs} well limit chain eb bins eo total =
    let is = blocks-chain d.chain _ last count bs chain in
    let sized = free_sum bs ∙ total in
    grind (arith, common_steps, space-chain, well_unused)

-- small parts of steps
pub remove_free : (b : Block) (ls : List (List ℕ)) → b.used ≡ false → remove_all (b ∷ []) ls ≡ remove (down b.size) b.name ls
remove_free b ls e = ap (λ (u : Bool). if u then ls else remove (down b.size) b.name ls) e

pub free_units-append : (xs ys : List Block) → free_units (xs ++ ys) ≡ free_units xs + free_units ys
free_units-append xs ys = tally_append (λ (b : Block). if b.used then 0 else b.size) xs ys

pub free_units-free : (b : Block) (bs : List Block) → b.used ≡ false → free_units (b ∷ bs) ≡ b.size + free_units bs
free_units-free b bs e = ap (λ (u : Bool). (if u then 0 else b.size) + free_units bs) e

pub free_units-used : (b : Block) (bs : List Block) → b.used ≡ true → free_units (b ∷ bs) ≡ free_units bs
free_units-used b bs e = ap (λ (u : Bool). (if u then 0 else b.size) + free_units bs) e ∙ omega arith

pub free_part_units : (x n : ℕ) (bs : List Block) → free_units (free_part x n ++ bs) ≡ n + free_units bs
free_part_units x zero bs = omega arith
free_part_units x (suc n) bs = refl

pub free_most : (l : List Block) → free_units l ≤ units l
free_most [] = omega arith
free_most (b ∷ l) = let ih = free_most l in elim b.used as (λ u. (if u then 0 else b.size) + free_units l ≤ b.size + units l) [ true ↦ omega arith | false ↦ omega arith ]
