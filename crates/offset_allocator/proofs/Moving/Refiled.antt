-- Free blocks leave their bins, and what they keep goes into its own: one after the other, or all leave first.
use Rattle.offset_allocator.proofs.{Classes.down_small, Freeing.remove_used, Tallies.one-same, Views.ViewBins.length_put_all, Views.ViewBins.length_remove, Views.ViewBins.names_other, Views.ViewBins.names_same}
use Rattle.offset_allocator.proofs.Moving.Stepping.{rebinned, rebinned_free, rebinned_used, stepped_free, stepped_used}
use Rattle.offset_allocator.proofs.Common.{◌≡◌, ◌≢◌, ℕ, zero, suc, ◌<◌, ◌≤◌, Bool, true, false, not, List, [], ◌∷◌, ◌++◌, length, nat_eq, if◌then◌else◌, refl, sym, ap, ap₂, subst, ◌∙◌, arith, inl, inr, slice_set}
use Rattle.offset_allocator.proofs.Common.{cases_eq, eq-eqb, ne_eqb, set-set, set_comm, Block, bin_at, count_named, down, free_part, one, push, push_all, remove, remove_all}
use Rattle.offset_allocator.specs.Moving.BySteps.{kept, stepped}
use Rattle.std.specs.List.{filter}

abbrev without : ℕ → List ℕ → List ℕ
without y zs = filter (λ z. not (nat_eq z y)) zs

-- a name leaves a bin before or after another one goes into one
swap : (c d x y : ℕ) (ls : List (List ℕ)) → length ls ≡ 256 → c < 256 → x ≢ y → remove d y (push c x ls) ≡ push c x (remove d y ls)
swap c d x y ls long l ne = elim (cases_eq d c) [ inl e ↦ subst (λ k. remove k y (push c x ls) ≡ push c x (remove k y ls)) (sym e) same | inr n ↦ other n ]
  where
    stays : without y (x ∷ bin_at ls c) ≡ x ∷ without y (bin_at ls c)
    stays = ap (λ (t : Bool). if not t then x ∷ without y (bin_at ls c) else without y (bin_at ls c)) (ne_eqb x y ne)

    same : remove c y (push c x ls) ≡ push c x (remove c y ls)
    same = set-set ls c (x ∷ bin_at ls c) (without y (bin_at (push c x ls) c))
        ∙ ap (λ zs. slice_set ls c zs) (ap (without y) (names_same ls c (x ∷ bin_at ls c) long l) ∙ stays ∙ ap (λ zs. x ∷ zs) (sym (names_same ls c (without y (bin_at ls c)) long l)))
        ∙ sym (set-set ls c (without y (bin_at ls c)) (x ∷ bin_at (remove c y ls) c))

    other : d ≢ c → remove d y (push c x ls) ≡ push c x (remove d y ls)
    other n = ap (λ zs. slice_set (push c x ls) d (without y zs)) (names_other ls c d (x ∷ bin_at ls c) n)
        ∙ set_comm ls c d (x ∷ bin_at ls c) (without y (bin_at ls d)) (λ e. n (sym e))
        ∙ ap (λ zs. slice_set (remove d y ls) c (x ∷ zs)) (sym (names_other ls d c (without y (bin_at ls d)) (λ e. n (sym e))))

put_early : (bs : List Block) (c x : ℕ) (ls : List (List ℕ)) → length ls ≡ 256 → c < 256 → count_named x bs ≡ 0 → remove_all bs (push c x ls) ≡ push c x (remove_all bs ls)
put_early [] c x ls long l none = refl
put_early (b ∷ bs) c x ls long l none = go b.used refl (λ ls long rest. put_early bs c x ls long l rest)
  where
    rest : count_named x bs ≡ 0
    rest = omega (arith, none)

    apart : x ≢ b.name
    apart e = absurd (omega (arith, none, ap one (eq-eqb x b.name e)))

    go : (u : Bool) → b.used ≡ u → ((ls : List (List ℕ)) → length ls ≡ 256 → count_named x bs ≡ 0 → remove_all bs (push c x ls) ≡ push c x (remove_all bs ls))
        → remove_all (b ∷ bs) (push c x ls) ≡ push c x (remove_all (b ∷ bs) ls)
    go true u ih = remove_used b bs (push c x ls) u ∙ ih ls long rest ∙ ap (push c x) (sym (remove_used b bs ls u))
    go false u ih = ap (λ (t : Bool). remove_all bs (if t then push c x ls else remove (down b.size) b.name (push c x ls))) u
        ∙ ap (remove_all bs) (swap c (down b.size) x b.name ls long l apart)
        ∙ ih (remove (down b.size) b.name ls) (length_remove (down b.size) b.name ls ∙ long) rest
        ∙ ap (push c x) (sym (ap (λ (t : Bool). remove_all bs (if t then ls else remove (down b.size) b.name ls)) u))

part_early : (bs : List Block) (x n : ℕ) (ls : List (List ℕ)) → length ls ≡ 256 → count_named x bs ≡ 0 → remove_all bs (push_all (free_part x n) ls) ≡ push_all (free_part x n) (remove_all bs ls)
part_early bs x zero ls long none = refl
part_early bs x (suc n) ls long none = put_early bs (down (suc n)) x ls long (down_small (suc n)) none

pub push_all-append : (xs ys : List Block) (ls : List (List ℕ)) → push_all (xs ++ ys) ls ≡ push_all ys (push_all xs ls)
push_all-append [] ys ls = refl
push_all-append (x ∷ xs) ys ls = push_all-append xs ys (if x.used then ls else push (down x.size) x.name ls)

-- for blocks of distinct names both are the same
pub rebinned_is : (s : ℕ) (bs : List Block) (ls : List (List ℕ)) → length ls ≡ 256 → ((x : ℕ) → count_named x bs ≤ 1) → rebinned s bs ls ≡ push_all (stepped s bs) (remove_all bs ls)
rebinned_is s [] ls long once = refl
rebinned_is s (b ∷ bs) ls long once = go b.used refl (λ ls long. rebinned_is s bs ls long (λ x. omega (arith, once x)))
  where
    go : (u : Bool) → b.used ≡ u → ((ls : List (List ℕ)) → length ls ≡ 256 → rebinned s bs ls ≡ push_all (stepped s bs) (remove_all bs ls))
        → rebinned s (b ∷ bs) ls ≡ push_all (stepped s (b ∷ bs)) (remove_all (b ∷ bs) ls)
    go true u ih = rebinned_used s b bs u ls ∙ ih ls long ∙ ap (push_all (stepped s bs)) (sym (remove_used b bs ls u))
        ∙ sym (ap (λ (t : Bool). push_all (stepped s bs) (if t then remove_all (b ∷ bs) ls else push (down b.size) b.name (remove_all (b ∷ bs) ls))) u)
        ∙ ap (λ l. push_all l (remove_all (b ∷ bs) ls)) (sym (stepped_used s b bs u))
    go false u ih =
        let gone = remove (down b.size) b.name ls in
        let part = free_part b.name (kept s b.size bs) in
        let long' : length gone ≡ 256 = length_remove (down b.size) b.name ls ∙ long in
        rebinned_free s b bs u ls ∙ ih (push_all part gone) (length_put_all part gone ∙ long')
        ∙ ap (push_all (stepped s bs)) (part_early bs b.name (kept s b.size bs) gone long' (omega (arith, once b.name, one-same b.name)))
        ∙ sym (push_all-append part (stepped s bs) (remove_all bs gone))
        ∙ ap₂ (λ l m. push_all l m) (sym (stepped_free s b bs u)) (sym (ap (λ (t : Bool). remove_all bs (if t then ls else gone)) u))
