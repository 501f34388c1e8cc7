-- What a split leaves is well formed.
use Rattle.offset_allocator.proofs.{Sound.well_same, Views.ViewReplaced.well_replaced, Views.ViewApart.apart_granted}
use Rattle.std.specs.Prelude.{min}
use Rattle.offset_allocator.proofs.Common.{◌≡◌, ℕ, zero, suc, ◌+◌, ◌<◌, ◌≤◌, refl, Bool, true, false, not, if◌then◌else◌, ◌⊎◌, List, [], ◌∷◌, ◌++◌, length, nat_eq, sym, ap, ap₂, subst, ◌∙◌, arith}
use Rattle.offset_allocator.proofs.Common.{length-append, append_assoc, Block, View, Handle, one, used_block, count_named, count_used, AreCoalesced, IsWellFormed, IsNew, free_part, replace, push_all}
use Rattle.offset_allocator.proofs.Common.{remove, down, SameSpace, Splits, common_steps}
use Rattle.offset_allocator.proofs.Tallies.{tally_three, part_sums, tally_append, hit_cases, units-append, new_absent}

-- the room that padding asks for, beside that for a remainder
pub part_room : (y n k : ℕ) → 1 ≤ k → (1 ≤ n → 2 ≤ k) → length (free_part y n) + 1 ≤ k
part_room y zero k some two = omega (arith, some)
part_room y (suc n) k some two = omega (arith, two (omega arith))

-- a part is one block, or none
pub part_length : (y n : ℕ) → length (free_part y n) ≡ min 1 n
part_length y zero = refl
part_length y (suc n) = omega arith

pub one_part : (y n : ℕ) → length (free_part y n) ≤ 1
one_part y n = omega (arith, part_length y n)

pub used_most : (bs : List Block) → count_used bs ≤ length bs
used_most [] = omega arith
used_most (b ∷ bs) = let ih = used_most bs in elim b.used as (λ u. one u + count_used bs ≤ suc (length bs)) [ true ↦ omega arith | false ↦ omega arith ]

-- its name, where it has units, is new
part_name : (v : View) (y n : ℕ) → (1 ≤ n → IsNew y v) → (x : ℕ) → (count_named x (free_part y n) ≡ 0)
    ⊎ ((x ≡ y) × (1 ≤ n) × (count_named x (free_part y n) ≡ 1) × IsNew x v)
part_name v y zero new x = grind arith
part_name v y (suc n) new x = grind (arith, hit_cases)

module _ {needed n : ℕ} {padding_at : ℕ → ℕ} {v u : View} {g : Handle} (s : Splits needed n padding_at v u g) where
  abbrev padding : List Block
  padding = free_part s.padding_name s.padding

  abbrev remainder : List Block
  remainder = free_part s.remainder_name s.remainder

  abbrev new : List Block
  new = padding ++ (used_block s.block.name n ∷ remainder)

  -- it is one step of `replace`
  pub split_view : SameSpace (replace v s.before (s.block ∷ []) (free_part s.padding_name s.padding ++ (used_block s.block.name n ∷ free_part s.remainder_name s.remainder)) s.after) u
  split_view = s.view ∙ ap₂ (λ parts bins. record v { blocks = s.before ++ (parts ++ s.after); bins = push_all parts bins; unused = u.unused; accesses = u.accesses }) s.made
      (sym (ap (λ (b : Bool). if b then v.bins else remove (down s.block.size) s.block.name v.bins) s.free))

  -- in a space with room for the blocks that it adds, one at least
  pub well_divided : (k : ℕ) → IsWellFormed v → length v.blocks + k < v.max_allocs → 1 ≤ k
      → length (free_part s.padding_name s.padding) + length (free_part s.remainder_name s.remainder) ≤ k → IsWellFormed u
  well_divided k w room least parts = well_same (replace v s.before (s.block ∷ []) new s.after) u split_view (well_replaced v s.before (s.block ∷ []) new s.after v.size w
      (record {
        list_is = s.blocks;
        some = omega (arith, lengths);
        distinct = distinct;
        names = names;
        apart = subst AreCoalesced (sym (simp append_assoc)) (apart_granted s.before s.block s.after s.padding_name s.padding s.block.name n s.remainder_name s.remainder (ap not s.free)
            (subst AreCoalesced s.blocks w.apart));
        room = omega (arith, room, parts, old_length, new_length);
        few_used = omega (arith, room, least, used_new, old_length, (part_sums s.remainder_name s.remainder).2, (part_sums s.padding_name s.padding).2, used_most s.before, used_most s.after);
      })
      (omega (arith, s.whole, units-append padding (used_block s.block.name n ∷ remainder), (part_sums s.remainder_name s.remainder).1, (part_sums s.padding_name s.padding).1))
      w.fits)
    where
      lengths : length new ≡ length padding + suc (length remainder)
      lengths = length-append padding (used_block s.block.name n ∷ remainder)

      old_length : length v.blocks ≡ length s.before + suc (length s.after)
      old_length = ap length s.blocks ∙ length-append s.before (s.block ∷ s.after)

      new_length : length (s.before ++ (new ++ s.after)) ≡ length s.before + (length padding + suc (length remainder) + length s.after)
      new_length = length-append s.before (new ++ s.after) ∙ ap (λ m. length s.before + m) (length-append new s.after ∙ ap (λ m. m + length s.after) lengths)

      used_new : count_used (s.before ++ (new ++ s.after)) ≡ count_used s.before + ((count_used padding + suc (count_used remainder)) + count_used s.after)
      used_new = grind (arith, common_steps, tally_three, tally_append)

      names_new : (x : ℕ) → count_named x new ≡ count_named x padding + (one (nat_eq x s.block.name) + count_named x remainder)
      names_new x = tally_append (λ (b : Block). one (nat_eq x b.name)) padding (used_block s.block.name n ∷ remainder)

      there : (x : ℕ) → one (nat_eq x s.block.name) ≤ count_named x v.blocks
      there x = omega (arith, ap (count_named x) s.blocks, tally_append (λ (b : Block). one (nat_eq x b.name)) s.before (s.block ∷ s.after))

      distinct : (x : ℕ) → count_named x new ≤ 1
      distinct x = grind (arith, common_steps, part_name, names_new, there, new_absent)

      names : (x : ℕ) → 1 ≤ count_named x new → (1 ≤ count_named x (s.block ∷ [])) ⊎ IsNew x v
      names x l = grind (arith, common_steps, part_name, names_new)

  -- with room for the remainder in any case
  pub well_split : (k : ℕ) → IsWellFormed v → length v.blocks + k < v.max_allocs → length (free_part s.padding_name s.padding) + 1 ≤ k → IsWellFormed u
  well_split k w room parts = well_divided k w room (omega (arith, parts)) (omega (arith, parts, one_part s.remainder_name s.remainder))
