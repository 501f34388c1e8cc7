-- Sums over lists, and a test of names as a number.
use Rattle.offset_allocator.proofs.Common.{◌≡◌, ◌≢◌, ℕ, zero, suc, ◌+◌, ◌≤◌, length, ◌⊎◌, List, [], ◌∷◌, ◌++◌, nat_eq, not, refl, sym, ap, ◌∙◌, arith, eq-eqb, ne_eqb, cases_eq, Block, tally, one}
use Rattle.offset_allocator.proofs.Common.{units, times, count_named, count_in_bin, count_used, free_part, View, IsNew, free_sizes, sum, sum_by-cons, if◌then◌else◌, AllByRecursion, filter}

-- a list of names without x
abbrev pub without : ℕ → List ℕ → List ℕ
without x xs = filter (λ y. not (nat_eq y x)) xs

pub tally_append : {A : Type 0} (f : A → ℕ) (xs ys : List A) → tally f (xs ++ ys) ≡ tally f xs + tally f ys
tally_append f [] ys = omega arith
tally_append f (x ∷ xs) ys = let ih = tally_append f xs ys in omega arith

pub tally_three : {A : Type 0} (f : A → ℕ) (xs ys zs : List A) → tally f (xs ++ (ys ++ zs)) ≡ tally f xs + (tally f ys + tally f zs)
tally_three f xs ys zs = tally_append f xs (ys ++ zs) ∙ ap (λ n. tally f xs + n) (tally_append f ys zs)

pub times-join : (k : ℕ) (xs ys : List ℕ) → times k (xs ++ ys) ≡ times k xs + times k ys
times-join k xs ys = tally_append (λ y. one (nat_eq k y)) xs ys

pub times-append : (k : ℕ) (fs bs : List Block) → count_named k (fs ++ bs) ≡ count_named k fs + count_named k bs
times-append k fs bs = tally_append (λ (b : Block). one (nat_eq k b.name)) fs bs

pub units-append : (fs bs : List Block) → units (fs ++ bs) ≡ units fs + units bs
units-append [] bs = omega arith
units-append (b ∷ fs) bs = let ih = units-append fs bs in omega arith

pub units_three : (xs ys zs : List Block) → units (xs ++ (ys ++ zs)) ≡ units xs + (units ys + units zs)
units_three xs ys zs = units-append xs (ys ++ zs) ∙ ap (λ n. units xs + n) (units-append ys zs)

pub hit_cases : (x y : ℕ) → ((x ≡ y) × (one (nat_eq x y) ≡ 1)) ⊎ ((x ≢ y) × (one (nat_eq x y) ≡ 0))
hit_cases x y = grind (arith, cases_eq, eq-eqb, ne_eqb)

pub one-same : (k : ℕ) → one (nat_eq k k) ≡ 1
one-same k = ap one (eq-eqb k k refl)

pub one-eq : (k x : ℕ) → x ≡ k → one (nat_eq k x) ≡ 1
one-eq k x e = rw e (one-same k)

pub one-other : (k x : ℕ) → k ≢ x → one (nat_eq k x) ≡ 0
one-other k x n = ap one (ne_eqb k x n)

-- no block has a name, and their count is 0
pub none_counted : (x : ℕ) (bs : List Block) → AllByRecursion (λ b. b.name ≢ x) bs → count_named x bs ≡ 0
none_counted x [] n = refl
none_counted x (b ∷ bs) n = omega (arith, one-other x b.name (λ e. n.0 (sym e)), none_counted x bs n.1)

pub counted_none : (x : ℕ) (bs : List Block) → count_named x bs ≡ 0 → AllByRecursion (λ b. b.name ≢ x) bs
counted_none x [] e = tt
counted_none x (b ∷ bs) e = (λ f. absurd (omega (arith, e, one-eq x b.name f)), counted_none x bs (omega (arith, e)))

pub new_absent : (x : ℕ) (v : View) → IsNew x v → count_named x v.blocks ≡ 0
new_absent x v n = none_counted x v.blocks n.absent

-- the units of the free blocks
abbrev pub free_units : List Block → ℕ
free_units bs = tally (λ b. if b.used then 0 else b.size) bs

pub free_sum : (bs : List Block) → sum (free_sizes bs) ≡ free_units bs
free_sum [] = grind arith
free_sum (b ∷ bs) = grind (arith, sum_by-cons, free_sum bs)

-- padding or a remainder is at most one block
pub part_sums : (y n : ℕ) → (length (free_part y n) ≤ 1) × (units (free_part y n) ≡ n) × (count_used (free_part y n) ≡ 0)
part_sums y zero = (omega arith, omega arith, omega arith)
part_sums y (suc n) = (omega arith, omega arith, omega arith)

-- a free block of a name is a block of that name
pub listed_named : (c x : ℕ) (bs : List Block) → count_in_bin c x bs ≤ count_named x bs
listed_named c x [] = grind arith
listed_named c x (b ∷ bs) = grind (arith, listed_named c x bs)
