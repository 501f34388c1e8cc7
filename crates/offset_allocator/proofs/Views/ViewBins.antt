-- Bins of names, as names are put in and leave.
use Rattle.offset_allocator.proofs.{Classes.down_small, Tallies.hit_cases, Tallies.without, Common.remove_all}
use Rattle.offset_allocator.proofs.Common.{◌≡◌, ◌≢◌, ℕ, ◌+◌, ◌<◌, ◌≤◌, true, false, not, ◌&&◌, List, [], ◌∷◌, length, nat_eq, slice_set, if◌then◌else◌, refl, ◌∙◌, inl, inr, arith, eq-eqb, ne_eqb}
use Rattle.offset_allocator.proofs.Common.{length-set, get_or-set_same, get_or-set_other, cases_eq, cond_both, down, IsUnlisted, Block, one, times, bin_at, count_in_bin, push, remove, push_all}

-- one of the bins is changed
pub names_same : (bins : List (List ℕ)) (c : ℕ) (l : List ℕ) → length bins ≡ 256 → c < 256 → bin_at (slice_set bins c l) c ≡ l
names_same bins c l h b = get_or-set_same bins c l [] (omega arith)

pub names_other : (bins : List (List ℕ)) (c d : ℕ) (l : List ℕ) → d ≢ c → bin_at (slice_set bins c l) d ≡ bin_at bins d
names_other bins c d l n = get_or-set_other bins c d l [] n

pub length_put : (c x : ℕ) (bins : List (List ℕ)) → length (push c x bins) ≡ length bins
length_put c x bins = simp length-set

pub length_remove : (c x : ℕ) (bins : List (List ℕ)) → length (remove c x bins) ≡ length bins
length_remove c x bins = simp length-set

pub length_put_all : (bs : List Block) (bins : List (List ℕ)) → length (push_all bs bins) ≡ length bins
length_put_all [] bins = refl
length_put_all (b ∷ bs) bins = length_put_all bs _ ∙ cond_both b.used bins (push (down b.size) b.name bins) (λ o. length o ≡ length bins) (λ e. refl) (λ e. length_put _ _ bins)

pub length_remove_all : (bs : List Block) (bins : List (List ℕ)) → length (remove_all bs bins) ≡ length bins
length_remove_all [] bins = refl
length_remove_all (b ∷ bs) bins = length_remove_all bs _
    ∙ cond_both b.used bins (remove (down b.size) b.name bins) (λ o. length o ≡ length bins) (λ e. refl) (λ e. length_remove _ _ bins)

-- how often a name is in a list without another
pub times_without_le : (x y : ℕ) (xs : List ℕ) → times y (without x xs) ≤ times y xs
times_without_le x y [] = grind arith
times_without_le x y (z ∷ zs) = grind (arith, times_without_le x y zs)

pub unlisted_removed : (x y c : ℕ) (bins : List (List ℕ)) → length bins ≡ 256 → c < 256 → IsUnlisted x bins → IsUnlisted x (remove c y bins)
unlisted_removed x y c bins h b u d db a = grind (arith, cases_eq, times_without_le, names_same, names_other)

pub times_without_self : (x : ℕ) (xs : List ℕ) → times x (without x xs) ≡ 0
times_without_self x [] = grind arith
times_without_self x (z ∷ zs) = grind (arith, cases_eq, eq-eqb, ne_eqb, hit_cases, times_without_self x zs)

pub times_without_other : (x y : ℕ) (xs : List ℕ) → y ≢ x → times y (without x xs) ≡ times y xs
times_without_other x y [] n = grind arith
times_without_other x y (z ∷ zs) n = grind (arith, cases_eq, eq-eqb, hit_cases, ne_eqb, times_without_other x y zs n)

-- how often a name is in a bin after a change
abbrev pub hit : ℕ → ℕ → ℕ → ℕ → ℕ
hit d c y x = one (nat_eq d c && nat_eq y x)

pub hit_other : (d c y x : ℕ) → d ≢ c → hit d c y x ≡ 0
hit_other d c y x n = rw (ne_eqb d c n) refl

pub hit_at : (d c y x : ℕ) → d ≡ c → hit d c y x ≡ one (nat_eq y x)
hit_at d c y x e = rw (eq-eqb d c e) refl

pub times_put : (c x d y : ℕ) (bins : List (List ℕ)) → length bins ≡ 256 → c < 256 → times y (bin_at (push c x bins) d) ≡ times y (bin_at bins d) + hit d c y x
times_put c x d y bins h b = grind (arith, cases_eq, hit_at, names_same, hit_other, names_other)

pub times_remove : (c x d y : ℕ) (bins : List (List ℕ)) → length bins ≡ 256 → c < 256 → times x (bin_at bins c) ≡ 1
    → times y (bin_at (remove c x bins) d) + hit d c y x ≡ times y (bin_at bins d)
times_remove c x d y bins h b one_there = grind (arith, cases_eq, hit_at, names_same, hit_cases, times_without_self, times_without_other, hit_other, names_other)

pub times_put_all : (bs : List Block) (bins : List (List ℕ)) → length bins ≡ 256 → (c x : ℕ) → times x (bin_at (push_all bs bins) c) ≡ times x (bin_at bins c) + count_in_bin c x bs
times_put_all [] bins h c x = grind arith
times_put_all (b ∷ bs) bins h c x = grind (arith, length_put, times_put, down_small, times_put_all bs bins h c x, times_put_all bs (push (down b.size) b.name bins) (length_put _ _ bins ∙ h) c x)

pub times_remove_all : (bs : List Block) (bins : List (List ℕ)) → length bins ≡ 256 → ((c x : ℕ) → times x (bin_at bins c) ≤ 1)
    → ((c x : ℕ) → count_in_bin c x bs ≤ times x (bin_at bins c))
    → (c x : ℕ) → times x (bin_at (remove_all bs bins) c) + count_in_bin c x bs ≡ times x (bin_at bins c)
times_remove_all [] bins h most there = λ c x. omega arith
times_remove_all (b ∷ bs) bins h most there =
    (elim b.used as (λ u. ((c x : ℕ) → one (not u && (nat_eq c (down b.size) && nat_eq x b.name)) + count_in_bin c x bs ≤ times x (bin_at bins c))
    → (c x : ℕ) → times x (bin_at (remove_all bs (if u then bins else remove (down b.size) b.name bins)) c) + (one (not u && (nat_eq c (down b.size) && nat_eq x b.name)) + count_in_bin c x
    bs) ≡ times x (bin_at bins c)) [
      | true ↦ λ there c x. let ih = times_remove_all bs bins h most (λ c x. let t = there c x in omega arith) c x in omega arith
      | false ↦ λ there c x.
          let t = there (down b.size) b.name in
          let m = most (down b.size) b.name in
          let k = hit_at (down b.size) (down b.size) b.name b.name refl in
          let one_there : times b.name (bin_at bins (down b.size)) ≡ 1 = elim (hit_cases b.name b.name) [ inl f ↦ omega arith | inr f ↦ absurd (f.0 refl) ] in
          let r : (c x : ℕ) → times x (bin_at (remove (down b.size) b.name bins) c) + hit c (down b.size) x b.name ≡ times x (bin_at bins c) =
          λ c x. times_remove (down b.size) b.name c x bins h (down_small b.size) one_there in
          let ih = times_remove_all bs (remove (down b.size) b.name bins) (length_remove _ _ bins ∙ h) (λ c x. let m = most c x in let q = r c x in omega arith) (λ c x. let t = there c x in
          let q = r c x in omega arith) c x in
          let q = r c x in
          omega arith
    ]) there
