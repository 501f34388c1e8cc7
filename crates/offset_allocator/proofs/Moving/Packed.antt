-- What holds after the live ranges are packed.
use Rattle.offset_allocator.proofs.{Classes.down_law, Moving.Compacting.live_are_used, Moving.Compacting.AreUsed, Refusals.fit_small, Moving.Sliding.live_used, Moving.Sliding.live_idle}
use Rattle.offset_allocator.proofs.{Tallies.hit_cases, Views.ViewFits.fits_exactly, Views.ViewFits.largest_small}
use Rattle.offset_allocator.proofs.Common.{◌≡◌, sym, append-nil, ◌↔◌, ℕ, ◌+◌, ◌≤◌, Bool, true, false, Option, Some, None, List, [], ◌∷◌, ◌++◌, sum, if◌then◌else◌, nat_eq, option_map, option_and_then}
use Rattle.offset_allocator.proofs.Common.{refl, ap, ◌∙◌, arith, nat_tests, sum_by-cons, value, down, largest, Block, View, Place, one, place_of, count_named, free_sizes}
use Rattle.offset_allocator.proofs.Common.{units, IsWellFormed, CanGrant, AdmitsBlocks, Range, live, gathered, KeepsSizes, Compacts, common_steps}

-- the units that a name holds, if it is live
abbrev units_at : Option Place → Option ℕ
units_at o = option_map (λ (r : Range). r.size) (option_and_then (λ (p : Place). if p.block.used then Some (record { offset = units p.before; size = p.block.size }) else None) o)

abbrev held : ℕ → List Block → Option ℕ
held x [] = None
held x (b ∷ bs) = if nat_eq x b.name then (if b.used then Some b.size else None) else held x bs

held_is : (x : ℕ) (bs : List Block) → units_at (place_of x bs) ≡ held x bs
held_is x [] = refl
held_is x (b ∷ bs) =
    let ih = held_is x bs in
    let later : (o : Option Place) → units_at (option_map (λ (p : Place). record p { before = b ∷ p.before }) o) ≡ units_at o = grind (arith, common_steps, both) in
    elim (nat_eq x b.name) as (λ t. units_at (if t then Some (record { before = []; block = b; after = bs }) else option_map (λ (p : Place). record p { before = b ∷ p.before })
    (place_of x bs)) ≡ (if t then (if b.used then Some b.size else None) else held x bs)) [
      | true ↦ here b.used
      | false ↦ later (place_of x bs) ∙ ih
    ]
  where
    both : (u : Bool) (p : Place) → option_map (λ (r : Range). r.size) (if u then Some (record { offset = units (b ∷ p.before); size = p.block.size }) else None) ≡ option_map
        (λ (r : Range). r.size) (if u then Some (record { offset = units p.before; size = p.block.size }) else None)
    both true p = refl
    both false p = refl

    here : (u : Bool) → option_map (λ (r : Range). r.size) (if u then Some (record { offset = 0; size = b.size }) else None) ≡ (if u then Some b.size else None)
    here true = refl
    here false = refl

held_other : (x : ℕ) (b : Block) (bs : List Block) → one (nat_eq x b.name) ≡ 0 → held x (b ∷ bs) ≡ held x bs
held_other x b bs e = grind arith

-- a free block holds nothing
abbrev the_none : Option ℕ
the_none = None

held_gathered : (x y : ℕ) (ns : List ℕ) → held x (gathered y ns) ≡ None
held_gathered x y [] = refl
held_gathered x y (n ∷ ns) = elim (nat_eq x y) as (λ t. (if t then None else the_none) ≡ the_none) [ true ↦ refl | false ↦ refl ]

held_absent : (x y : ℕ) (ns : List ℕ) (bs : List Block) → count_named x bs ≡ 0 → held x (live bs ++ gathered y ns) ≡ None
held_absent x y ns [] e = held_gathered x y ns
held_absent x y ns (b ∷ bs) e = go b.used refl (held_absent x y ns bs (omega (arith, e)))
  where
    go : (u : Bool) → b.used ≡ u → held x (live bs ++ gathered y ns) ≡ None → held x (live (b ∷ bs) ++ gathered y ns) ≡ None
    go true u ih = ap (λ l. held x (l ++ gathered y ns)) (live_used b bs u) ∙ held_other x b (live bs ++ gathered y ns) (omega (arith, e)) ∙ ih
    go false u ih = ap (λ l. held x (l ++ gathered y ns)) (live_idle b bs u) ∙ ih

held_live : (x y : ℕ) (ns : List ℕ) (bs : List Block) → count_named x bs ≤ 1 → held x (live bs ++ gathered y ns) ≡ held x bs
held_live x y ns [] l = held_gathered x y ns
held_live x y ns (b ∷ bs) l = go b.used refl (held_live x y ns bs (omega (arith, l)))
  where
    go : (u : Bool) → b.used ≡ u → held x (live bs ++ gathered y ns) ≡ held x bs → held x (live (b ∷ bs) ++ gathered y ns) ≡ held x (b ∷ bs)
    go true u ih = grind (arith, common_steps, live_used, hit_cases, nat_tests, held_other)
    go false u ih = grind (arith, common_steps, live_idle, hit_cases, held_absent, nat_tests, held_other)

-- live ranges that stay keep their sizes
held_alive : (x : ℕ) (bs : List Block) → count_named x bs ≤ 1 → held x (live bs) ≡ held x bs
held_alive x bs l = ap (held x) (sym (append-nil (live bs))) ∙ held_live x 0 [] bs l

pub live_sizes : (v w : View) → IsWellFormed v → IsWellFormed w → live w.blocks ≡ live v.blocks → KeepsSizes v w
live_sizes v w known left e x = held_is x w.blocks ∙ sym (held_alive x w.blocks (left.distinct x)) ∙ ap (held x) e ∙ held_alive x v.blocks (known.distinct x) ∙ sym (held_is x v.blocks)

pub compacts_sizes : (v w : View) → IsWellFormed v → Compacts v w → KeepsSizes v w
compacts_sizes v w well c x = grind (arith, held_is, held_live)

-- the free units are one region
sizes_live : (bs : List Block) → AreUsed bs → (cs : List Block) → free_sizes (bs ++ cs) ≡ free_sizes cs
sizes_live [] h cs = refl
sizes_live (b ∷ bs) h cs = ap (λ (u : Bool). if u then free_sizes (bs ++ cs) else b.size ∷ free_sizes (bs ++ cs)) h.0 ∙ sizes_live bs h.1 cs

largest_gathered : (x : ℕ) (ns : List ℕ) → largest (free_sizes (gathered x ns)) ≡ value (down (sum ns))
largest_gathered x [] = omega (arith, (down_law 0 (down 0) (omega arith)).0 (omega arith))
largest_gathered x (n ∷ ns) = let e : sum (n ∷ ns) ≡ n + sum ns = sum_by-cons (λ n. n) n ns in omega (arith, ap (λ m. value (down m)) e)

pub compacted_grants : (v w : View) (n : ℕ) → IsWellFormed w → 1 ≤ n → Compacts v w → CanGrant 1 n w ↔ (AdmitsBlocks 1 w × (n ≤ value (down (sum (free_sizes v.blocks)))))
compacted_grants v w n well some c =
    let is : largest (free_sizes w.blocks) ≡ value (down (sum (free_sizes v.blocks))) = grind (arith, common_steps, sizes_live, live_are_used, largest_gathered) in (
      λ h. (h.0, let small : n ≤ 4294967295 = omega (arith, fit_small n w well h.1, well.fits) in omega (arith, (fits_exactly w well n small well.fits some).0 h.1, is)),
      λ h. (h.0, (fits_exactly w well n (largest_small w well well.fits n some (omega (arith, h.1, is))) well.fits some).1 (omega (arith, h.1, is))),
    )
