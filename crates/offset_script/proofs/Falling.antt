-- Bins whose stamps fall, as names are pushed and removed.
use Rattle.offset_script.proofs.Common.{◌≡◌, ◌≢◌, ℕ, ◌+◌, ◌<◌, ◌≤◌, true, false, not, List, [], ◌∷◌, length, nat_eq, refl, ◌∙◌, inl, inr, arith, ne_eqb, cases_eq, cond_both, down, one, times, bin_at}
use Rattle.offset_script.specs.Agreement.{IsFalling}
use Rattle.offset_script.proofs.{Common.push, Common.remove, Common.push_all, Common.remove_all}
use Rattle.offset_allocator.specs.View.{Block}
use Rattle.offset_allocator.proofs.Views.ViewBins.{names_same, names_other, length_put, length_remove, times_without_le, hit, times_put}
use Rattle.offset_allocator.proofs.{Classes.down_small, Tallies.hit_cases, Tallies.without}

-- a list without a name
falling_without : (f : ℕ → ℕ) (x : ℕ) (xs : List ℕ) → IsFalling f xs → IsFalling f (without x xs)
falling_without f x [] h = tt
falling_without f x (y ∷ ys) h =
    let ih = falling_without f x ys h.1 in
    cond_both (not (nat_eq y x)) (y ∷ without x ys) (without x ys) (IsFalling f) (λ e. (λ z m. h.0 z (let l = times_without_le x z ys in omega arith), ih)) (λ e. ih)

-- bins without a name
pub falling_remove : (f : ℕ → ℕ) (c x : ℕ) (bins : List (List ℕ)) → length bins ≡ 256 → c < 256 → ((d : ℕ) → IsFalling f (bin_at bins d)) → (d : ℕ)
    → IsFalling f (bin_at (remove c x bins) d)
falling_remove f c x bins h b fall d = search (arith, cases_eq, names_same, falling_without, names_other)

-- bins without the names of these blocks
pub falling_remove_all : (f : ℕ → ℕ) (bs : List Block) (bins : List (List ℕ)) → length bins ≡ 256 → ((d : ℕ) → IsFalling f (bin_at bins d)) → (d : ℕ)
    → IsFalling f (bin_at (remove_all bs bins) d)
falling_remove_all f [] bins h fall = fall
falling_remove_all f (b ∷ bs) bins h fall = cond_both b.used bins (remove (down b.size) b.name bins) (λ o. (d : ℕ) → IsFalling f (bin_at (remove_all bs o) d))
    (λ e. falling_remove_all f bs bins h fall)
    (λ e. falling_remove_all f bs _ (length_remove _ _ bins ∙ h) (falling_remove f (down b.size) b.name bins h (down_small b.size) fall))

-- other stamps that agree on the names of a list
pub falling_same : (f g : ℕ → ℕ) (xs : List ℕ) → ((y : ℕ) → 1 ≤ times y xs → f y ≡ g y) → IsFalling f xs → IsFalling g xs
falling_same f g [] e h = tt
falling_same f g (x ∷ xs) e h = (
  λ y m. let a = h.0 y m in let b = e y (omega arith) in let c = e x (elim (hit_cases x x) [ inl k ↦ omega arith | inr k ↦ absurd (k.0 refl) ]) in omega arith,
  falling_same f g xs (λ y m. e y (omega arith)) h.1,
)

-- the stamps of the free blocks among these rise from t on
abbrev pub IsRising : (ℕ → ℕ) → ℕ → List Block → Type 0
IsRising f t [] = Unit {0}
IsRising f t (b ∷ bs) = (b.used ≡ true → IsRising f t bs) × (b.used ≡ false → (t ≤ f b.name) × IsRising f (f b.name + 1) bs)

-- newer blocks are pushed
pub falling_put_all : (f : ℕ → ℕ) (t : ℕ) (bs : List Block) (bins : List (List ℕ)) → length bins ≡ 256 → ((d : ℕ) → IsFalling f (bin_at bins d))
    → ((d y : ℕ) → 1 ≤ times y (bin_at bins d) → f y < t) → IsRising f t bs → (d : ℕ) → IsFalling f (bin_at (push_all bs bins) d)
falling_put_all f t [] bins h fall low rise = fall
falling_put_all f t (b ∷ bs) bins h fall low rise =
    cond_both b.used bins (push (down b.size) b.name bins) (λ o. (d : ℕ) → IsFalling f (bin_at (push_all bs o) d))
    (λ e. falling_put_all f t bs bins h fall low (rise.0 e))
    (λ e. let r = rise.1 e in falling_put_all f (f b.name + 1) bs _ (length_put _ _ bins ∙ h) (put r.0) (low' r.0) r.1)
  where
    put : t ≤ f b.name → (d : ℕ) → IsFalling f (bin_at (push (down b.size) b.name bins) d)
    put l d = search (arith, cases_eq, names_same, down_small, names_other)

    none : (d y : ℕ) → y ≢ b.name → hit d (down b.size) y b.name ≡ 0
    none d y n = search (arith, ne_eqb, one)

    low' : t ≤ f b.name → (d y : ℕ) → 1 ≤ times y (bin_at (push (down b.size) b.name bins) d) → f y < f b.name + 1
    low' a d y m = search (arith, times_put, down_small, hit_cases, none)
