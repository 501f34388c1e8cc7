-- Blocks that are split, and the bins of their parts.
use Rattle.offset_allocator.proofs.{Classes.down_small, Linking.Exchange.each-le, Tallies.one-eq, Tallies.one-other, Tallies.times-append}
use Rattle.offset_allocator.proofs.Common.{◌≡◌, ◌≢◌, ℕ, zero, suc, ◌-◌, ◌<◌, List, [], ◌∷◌, ◌++◌, length, refl, sym, arith, append-nil, get_or-set_same, get_or-set_other, cases_eq, ChainCells, down}
use Rattle.offset_allocator.proofs.Common.{Block, Place, free_part, free_block, used_block, push, push_all, IsUnlisted, HasPlace, ListsOnly}

unlisted_put : (y x c : ℕ) (ls : List (List ℕ)) → length ls ≡ 256 → c < 256 → y ≢ x → IsUnlisted y ls → IsUnlisted y (push c x ls)
unlisted_put y x c ls n ch ne u d dh a = grind (arith, cases_eq, one-other, get_or-set_same, get_or-set_other)

-- padding of no units is no block, nor is a remainder of no units
module _ {c : ChainCells} {m last count x : ℕ} {p : Place} where
  pub no_padding : (y n : ℕ) → HasPlace c m last count x p → n ≡ 0
      → HasPlace c m last count x (record { before = p.before ++ free_part y n; block = record p.block { size = p.block.size - n }; after = p.after })
  no_padding y zero h e = let same : p.block.size - 0 ≡ p.block.size = omega arith in rw (append-nil, same) h
  no_padding y (suc n) h e = absurd (omega arith)

  pub no_remainder : (y n k : ℕ) → HasPlace c m last count x p → n ≡ 0 → k ≡ p.block.size
      → HasPlace c m last count x (record p { block = record p.block { size = k }; after = free_part y n ++ p.after })
  no_remainder y zero k h e q = rw q h
  no_remainder y (suc n) k h e q = absurd (omega arith)

pub some_part : (y n : ℕ) → 0 < n → free_block y n ∷ [] ≡ free_part y n
some_part y zero l = absurd (omega arith)
some_part y (suc n) l = refl

-- a used block goes into no bin
pub pushed_parts : (y n x k : ℕ) (zs : List Block) (ls : List (List ℕ)) → push_all (free_part y n ++ used_block x k ∷ zs) ls ≡ push_all zs (push_all (free_part y n) ls)
pushed_parts y zero x k zs ls = refl
pushed_parts y (suc n) x k zs ls = refl

-- the block that padding is split off is in no bin still
pub padded_unlisted : {c : ChainCells} {m last count x : ℕ} (fs : List Block) {cs : List Block} {b : Block} (y n : ℕ) (ls : List (List ℕ)) → length ls ≡ 256
    → HasPlace c m last count x (record { before = fs ++ free_part y n; block = b; after = cs }) → IsUnlisted x ls → IsUnlisted x (push_all (free_part y n) ls)
padded_unlisted fs y zero ls long h u = u
padded_unlisted {c} {m} {last} {count} {x} fs {cs} {b} y (suc n) ls long h u =
    unlisted_put x y (down (suc n)) ls long (down_small (suc n))
    (λ q. omega (
      arith,
      each-le c m last count _ h.chain x,
      times-append x (fs ++ free_block y (suc n) ∷ []) (b ∷ cs),
      times-append x fs (free_block y (suc n) ∷ []),
      one-eq x y (sym q),
      one-eq x b.name h.name,
    )) u

-- the name of the padding is in its bin, and no other one is that was in none
pub unlisted_part : (fs cs : List Block) (b d : Block) (y n : ℕ) (ls : List (List ℕ)) → d.name ≡ b.name → length ls ≡ 256 → ListsOnly (fs ++ b ∷ cs) ls
    → ListsOnly ((fs ++ free_part y n) ++ d ∷ cs) (push_all (free_part y n) ls)
unlisted_part fs cs b d y zero ls same long u k z = grind (arith, times-append)
unlisted_part fs cs b d y (suc n) ls same long u k z = grind (arith, times-append, unlisted_put, down_small, one-eq)
