-- When a request is granted, and how well what it takes fits.
use Rattle.offset_allocator.proofs.Common.{◌≡◌, ℕ, ◌*◌, ◌^◌, ◌<◌, ◌≤◌, true, not, ◌⊎◌, ◌↔◌, List, [], ◌∷◌, ◌++◌, refl, sym, ap, subst, inl, inr, arith, eq-eqb, le_trans, AllByRecursion, cases_lt}
use Rattle.offset_allocator.proofs.Common.{true≢false, cond_both, value, up, down, largest, IsGoodRefusal, Block, View, times, count_in_bin, units, bin_at, free_sizes, IsWellFormed}
use Rattle.offset_allocator.proofs.{Taken.HasFit, Taken.fitting, Classes.serves, Classes.near_best, Classes.up_law, Classes.down_law}

-- b is in a list
abbrev pub HasName : Block → List Block → Type 0
HasName b [] = ⊥
HasName b (c ∷ bs) = (b ≡ c) ⊎ HasName b bs

pub there_listed : (b : Block) (bs : List Block) → HasName b bs → not b.used ≡ true → 1 ≤ count_in_bin (down b.size) b.name bs
there_listed b [] i f = grind arith
there_listed b (c ∷ bs) (inl e) f = grind (arith, eq-eqb)
there_listed b (c ∷ bs) (inr i) f = grind (arith, there_listed b bs i f)

-- what holds of each free block in a list holds of their sizes
all_free : (P : ℕ → Type 0) (bs : List Block) → ((b : Block) → HasName b bs → not b.used ≡ true → P b.size) → AllByRecursion P (free_sizes bs)
all_free P [] h = grind arith
all_free P (b ∷ bs) h = grind (arith, cond_both, all_free P bs (λ c i. h c (inr i)), all_free P bs (λ c i. h c (inr i)))

pub reported : (n : ℕ) (bs : List Block) → 1 ≤ n → n ≤ largest (free_sizes bs) → (b : Block) × (HasName b bs) × (not b.used ≡ true) × (n ≤ value (down b.size))
reported n [] l = λ h. absurd (omega arith)
reported n (b ∷ bs) l = cond_both b.used (free_sizes bs) (b.size ∷ free_sizes bs) (λ ns. n ≤ largest ns → (c : Block) × (HasName c (b ∷ bs)) × (not c.used ≡ true)
    × (n ≤ value (down c.size)))
    (λ e h. let r = reported n bs l h in (r.0, inr r.1, r.2, r.3))
    (λ e h. elim (cases_lt (value (down b.size)) n) [
      | inl m ↦ let r = reported n bs l (omega arith) in (r.0, inr r.1, r.2, r.3)
      | inr m ↦ (b, inl refl, ap not e, m)
    ])

pub reports_all : (b : Block) (bs : List Block) → HasName b bs → not b.used ≡ true → value (down b.size) ≤ largest (free_sizes bs)
reports_all b [] i f = grind arith
reports_all b (c ∷ bs) (inl e) f = grind (arith, cond_both, true≢false)
reports_all b (c ∷ bs) (inr i) f = grind (arith, cond_both, reports_all b bs i f)

pub there_middle : (xs : List Block) (b : Block) (ys : List Block) → HasName b (xs ++ b ∷ ys)
there_middle [] b ys = inl refl
there_middle (x ∷ xs) b ys = inr (there_middle xs b ys)

-- a block of a list is no larger than all of them
pub sized_below : (b : Block) (bs : List Block) → HasName b bs → b.size ≤ units bs
sized_below b [] i = absurd i
sized_below b (c ∷ bs) (inl e) = let s = ap (λ (x : Block). x.size) e in omega arith
sized_below b (c ∷ bs) (inr i) = let ih = sized_below b bs i in omega arith

module _ (v : View) (w : IsWellFormed v) (n : ℕ) (small : n ≤ 4294967295) (sized : v.size ≤ 4294967295) where
  fits_word : (b : Block) → HasName b v.blocks → b.size < 2 ^ 32
  fits_word b i = omega (arith, sized_below b v.blocks i, w.whole, sized)

  word : n < 2 ^ 32
  word = omega (arith, small)

  there : (b : Block) → HasName b v.blocks → not b.used ≡ true → bin_at v.bins (down b.size) ≡ [] → ⊥
  there b i f e = let l = there_listed b v.blocks i f in let o = w.binned (down b.size) b.name in let z = ap (times b.name) e in omega arith

  -- the block that is taken is of the smallest class from up n on that has one
  pub near_best_fit : (b : Block) → HasName b v.blocks → ((c : ℕ) → up n ≤ c → c < down b.size → bin_at v.bins c ≡ [])
      → AllByRecursion (λ t. 9 * n ≤ 8 * t → 8 * b.size ≤ 9 * t) (free_sizes v.blocks)
  near_best_fit b i smallest = all_free (λ z. 9 * n ≤ 8 * z
      → 8 * b.size ≤ 9 * z) v.blocks (λ d j f l. near_best b.size d.size (fits_word b i) (fits_word d j) (elim (cases_lt (down d.size) (down b.size)) [
        | inl m ↦ absurd (there d j f (smallest (down d.size) (serves n d.size word (fits_word d j) l) m))
        | inr m ↦ m
      ]))

  pub good_refusal : (HasFit n v → ⊥) → IsGoodRefusal n (free_sizes v.blocks)
  good_refusal none = all_free (λ z. 8 * z < 9 * n) v.blocks (λ b i f. elim (cases_lt (8 * b.size) (9 * n)) [
    | inl l ↦ l
    | inr l ↦ absurd (none (down b.size, serves n b.size word (fits_word b i) l, there b i f))
  ])

  pub fits_exactly : 1 ≤ n → HasFit n v ↔ (n ≤ largest (free_sizes v.blocks))
  fits_exactly l = (
    λ h.
        let t = fitting n v w h in
        le_trans ((up_law n (down t.0.block.size) word).0 t.3) (reports_all t.0.block v.blocks (subst (HasName t.0.block) (sym t.1) (there_middle t.0.before t.0.block t.0.after)) (ap not t.2)),
    λ m. let r = reported n v.blocks l m in (down r.0.size, (up_law n (down r.0.size) word).1 r.3, there r.0 r.1 r.2),
  )

-- no region that is reported is greater than the space
pub largest_small : (v : View) → IsWellFormed v → v.size ≤ 4294967295 → (n : ℕ) → 1 ≤ n → n ≤ largest (free_sizes v.blocks) → n ≤ 4294967295
largest_small v w sized n some l =
    let r = reported n v.blocks some l in
    let fits = fits_word v w 0 (omega arith) sized r.0 r.1 in
    let d = (down_law r.0.size (down r.0.size) fits).0 (omega arith) in
    omega arith

-- a request that is greater than any space is refused well
pub refusal_past : (v : View) → IsWellFormed v → v.size ≤ 4294967295 → (n : ℕ) → 4294967295 < n → IsGoodRefusal n (free_sizes v.blocks)
refusal_past v w sized n l = all_free (λ z. 8 * z < 9 * n) v.blocks (λ b i f. let s = sized_below b v.blocks i in let whole = w.whole in omega arith)
