-- By steps of one unit free blocks keep nothing: what a slide leaves then, and moves, is what a plain one does.
use Rattle.offset_allocator.proofs.{Joints.free_units-free, Joints.free_units-used, Tallies.free_sum, Tallies.free_units, Moving.Compacting.free_here, Moving.Compacting.free_past}
use Rattle.offset_allocator.proofs.Moving.Sliding.{live_used, live_idle, moves_used, moves_idle}
use Rattle.offset_allocator.proofs.Moving.Stepping.{stepped_used, stepped_free, given_used, given_free, emptied_used, emptied_free, moves_by_used, moves_by_free}
use Rattle.offset_allocator.proofs.Common.{◌≡◌, ◌≢◌, ℕ, ◌+◌, ◌%◌, ◌≤◌, Bool, true, false, Some, None, Option, List, [], ◌∷◌, ◌++◌, refl, sym, ap, ◌∙◌, inl, inr, cases_lt, arith, sum, Block, first_or, free_block, free_part, free_sizes, live, moves, move_of}
use Rattle.offset_allocator.specs.Moving.BySteps.{kept, stepped, given_up, used_up, moves_by}
use Rattle.offset_allocator.specs.{Moving.Room.IsLeastCost, Moving.RoomBySteps.IsLeastCostBy, Moving.RoomBySteps.Serves, Names.free_blocks}
use Rattle.offset_allocator.specs.declared.moves.room.RoomCost.{RoomCost}
use Rattle.std.proofs.Math.Nat.{mod-one}

pub kept_one : (n : ℕ) (bs : List Block) → kept 1 n bs ≡ 0
kept_one n [] = refl
kept_one n (b ∷ bs) = mod-one n

pub stepped_one : (bs : List Block) → stepped 1 bs ≡ live bs
stepped_one [] = refl
stepped_one (b ∷ bs) = go b.used refl (stepped_one bs)
  where
    go : (u : Bool) → b.used ≡ u → stepped 1 bs ≡ live bs → stepped 1 (b ∷ bs) ≡ live (b ∷ bs)
    go true u ih = stepped_used 1 b bs u ∙ ap (λ l. b ∷ l) ih ∙ sym (live_used b bs u)
    go false u ih = stepped_free 1 b bs u ∙ ap (λ n. free_part b.name n ++ stepped 1 bs) (kept_one b.size bs) ∙ ih ∙ sym (live_idle b bs u)

given_units : (bs : List Block) → given_up 1 bs ≡ free_units bs
given_units [] = refl
given_units (b ∷ bs) = go b.used refl (given_units bs)
  where
    go : (u : Bool) → b.used ≡ u → given_up 1 bs ≡ free_units bs → given_up 1 (b ∷ bs) ≡ free_units (b ∷ bs)
    go true u ih = omega (arith, ih, given_used 1 b bs u, free_units-used b bs u)
    go false u ih = omega (arith, ih, given_free 1 b bs u, kept_one b.size bs, free_units-free b bs u)

pub given_one : (bs : List Block) → given_up 1 bs ≡ sum (free_sizes bs)
given_one bs = omega (arith, given_units bs, free_sum bs)

pub serves_one : (want : ℕ) (run : List Block) → want ≤ sum (free_sizes run) → Serves 1 want 0 run
serves_one want run l = record { units = omega (arith, l, given_one run); names = omega arith }

-- and the least costs are the same
pub least_one : (want : ℕ) (bs : List Block) (c : Option RoomCost) → IsLeastCostBy 1 want 0 bs c → IsLeastCost want bs c
least_one want bs None h = λ run r. elim (cases_lt (sum (free_sizes run)) want) [ inl l ↦ l | inr l ↦ absurd (h run r (serves_one want run l)) ]
least_one want bs (Some c) h = ((h.0.0, h.0.1, omega (arith, h.0.2.units, given_one h.0.0), h.0.3), λ run r l. h.1 run r (serves_one want run l))

pub least_by_one : (want : ℕ) (bs : List Block) (c : Option RoomCost) → IsLeastCost want bs c → IsLeastCostBy 1 want 0 bs c
least_by_one want bs None h = λ run r l. omega (arith, h run r, l.units, given_one run)
least_by_one want bs (Some c) h = ((h.0.0, h.0.1, serves_one want h.0.0 h.0.2, h.0.3), λ run r l. h.1 run r (omega (arith, l.units, given_one run)))

pub used_up_one : (bs : List Block) → used_up 1 bs ≡ free_blocks bs
used_up_one [] = refl
used_up_one (b ∷ bs) = go b.used refl (used_up_one bs)
  where
    go : (u : Bool) → b.used ≡ u → used_up 1 bs ≡ free_blocks bs → used_up 1 (b ∷ bs) ≡ free_blocks (b ∷ bs)
    go true u ih = emptied_used 1 b bs u ∙ ih ∙ sym (free_past b bs u)
    go false u ih = emptied_free 1 b bs u 0 (sym (kept_one b.size bs)) ∙ ap (λ l. b ∷ l) ih ∙ sym (free_here b bs u)

pub moves_one : (i j : ℕ) (bs : List Block) → moves_by 1 i j bs ≡ moves i j bs
moves_one i j [] = refl
moves_one i j (b ∷ bs) = go b.used refl (λ k l. moves_one k l bs)
  where
    go : (u : Bool) → b.used ≡ u → ((k l : ℕ) → moves_by 1 k l bs ≡ moves k l bs) → moves_by 1 i j (b ∷ bs) ≡ moves i j (b ∷ bs)
    go true u ih = moves_by_used 1 b bs u i j ∙ ap (λ l. move_of i j b ++ l) (ih (i + b.size) (j + b.size)) ∙ sym (moves_used i j b bs u)
    go false u ih =
        let stays : j + kept 1 b.size bs ≡ j = omega (arith, kept_one b.size bs) in
        moves_by_free 1 b bs u i j ∙ ap (λ k. moves_by 1 (i + b.size) k bs) stays ∙ ih (i + b.size) j ∙ sym (moves_idle i j b bs u)

-- so where a free block keeps some units the steps are longer, and the blocks are in bins
pub must_file : (in_bins : Bool) (n : ℕ) {s keep : ℕ} {at : Option ℕ} → (in_bins ≡ false → s ≡ 1) → ((bs : List Block) → at ≡ first_or None bs → keep ≡ kept s n bs) → keep ≢ 0 → in_bins ≡ true
must_file true n single h some = refl
must_file false n {s} {keep} {at} single h some = absurd (some (none at refl))
  where
    none : (o : Option ℕ) → at ≡ o → keep ≡ 0
    none None e = h [] e
    none (Some y) e = h (free_block y 0 ∷ []) e ∙ ap (λ (k : ℕ). n % k) (single refl) ∙ mod-one n
