-- The lives of all ages are all lives.
use Rattle.std.proofs.Common.{◌≡◌, ℕ, zero, suc, ◌<◌, ◌≤◌, ◌∙◌, Bool, true, false, cond, List, [], ◌∷◌, ◌++◌, All, map, nat_eq, nat_lt, refl, sym, ap, ap₂, subst, arith}
use Rattle.std.proofs.lemmas.Bool.Decides.{nat_tests}
use Rattle.std.proofs.lemmas.List.Elements.{All-cons, All-head, All-nil, All-tail}
use Rattle.std.proofs.lemmas.List.Sorted.{IsPermutation-append_right, IsPermutation-filter_both, IsPermutation-refl, IsPermutation-trans}
use Rattle.std.proofs.lemmas.List.Sums.{count_by-le-length}
use Rattle.std.specs.Prelude.{IsPermutation, filter, flat_map, not}
use Rattle.offset_pictures.specs.declared.living.Life.{Life}
use Rattle.offset_pictures.specs.declared.plots.Plot.{Plot}
use Rattle.offset_pictures.specs.Shapes.{age_of, shape_of}
use Rattle.offset_pictures.specs.Rectangles.{EachLifeHasARectangle, falling_below, lives_of_age, titled_of_age, titled_text}

-- the elements with a key
abbrev keyed : {X : Type 0} (key : X → ℕ) (xs : List X) → ℕ → List X
keyed key xs n = filter (λ x. nat_eq (key x) n) xs

-- the elements with another key than n
abbrev others : {X : Type 0} (key : X → ℕ) (xs : List X) → ℕ → List X
others key xs n = filter (λ x. not (nat_eq (key x) n)) xs

kept_step : {X : Type 0} (key : X → ℕ) (n : ℕ) (x : X) (ys : List X) (b : Bool) → nat_eq (key x) n ≡ b → key x < suc n → All (λ y. key y < n) ys → All (λ y. key y < n) (cond (not b) (x ∷ ys) ys)
kept_step key n x ys true e l h = h
kept_step key n x ys false e l h = All-cons (λ y. key y < n) x ys (grind (arith, nat_tests)) h

kept : {X : Type 0} (key : X → ℕ) (n : ℕ) (xs : List X) → All (λ x. key x < suc n) xs → All (λ x. key x < n) (others key xs n)
kept key n [] h = All-nil (λ x. key x < n)
kept key n (x ∷ xs) h = kept_step key n x (others key xs n) (nat_eq (key x) n) refl (All-head (λ y. key y < suc n) x xs h) (kept key n xs (All-tail (λ y. key y < suc n) x xs h))

same_step : {X : Type 0} (q : X → Bool) (x : X) (ys zs : List X) (b c : Bool) → q x ≡ c → (b ≡ true → c ≡ false) → filter q ys ≡ zs → filter q (cond (not b) (x ∷ ys) ys) ≡ cond c (x ∷ zs) zs
same_step q x ys zs true c e h f = f ∙ ap (λ t. cond t (x ∷ zs) zs) (sym (h refl))
same_step q x ys zs false c e h f = ap (λ t. cond t (x ∷ filter q ys) (filter q ys)) e ∙ ap (λ ws. cond c (x ∷ ws) ws) f

-- those with a smaller key are all among the others
same_keyed : {X : Type 0} (key : X → ℕ) (n m : ℕ) (xs : List X) → m < n → keyed key (others key xs n) m ≡ keyed key xs m
same_keyed key n m [] l = refl
same_keyed key n m (x ∷ xs) l =
    let apart : nat_eq (key x) n ≡ true → nat_eq (key x) m ≡ false = λ e. grind (arith, nat_tests) in
    same_step (λ y. nat_eq (key y) m) x (others key xs n) (keyed key xs m) (nat_eq (key x) n) (nat_eq (key x) m) refl apart (same_keyed key n m xs l)

same_parts : {X : Type 0} (key : X → ℕ) (n m : ℕ) (xs : List X) → m ≤ n → flat_map (keyed key (others key xs n)) (falling_below m) ≡ flat_map (keyed key xs) (falling_below m)
same_parts key n zero xs l = refl
same_parts key n (suc m) xs l = ap₂ (λ a b. a ++ b) (same_keyed key n m xs (omega arith)) (same_parts key n m xs (omega arith))

-- the parts with the keys below n are all elements, where all keys are below n
pub parted : {X : Type 0} (key : X → ℕ) (n : ℕ) (xs : List X) → All (λ x. key x < n) xs → IsPermutation xs (flat_map (keyed key xs) (falling_below n))
parted key zero [] h = IsPermutation-refl []
parted key zero (x ∷ xs) h = let none : key x < 0 = All-head (λ y. key y < 0) x xs h in absurd (omega arith)
parted key (suc n) xs h =
    let rest = others key xs n in
    IsPermutation-trans xs (keyed key xs n ++ rest) (keyed key xs n ++ flat_map (keyed key xs) (falling_below n))
    (IsPermutation-filter_both (λ x. nat_eq (key x) n) (λ x. not (nat_eq (key x) n)) (λ x. refl) xs)
    (IsPermutation-append_right (keyed key xs n) rest (flat_map (keyed key xs) (falling_below n))
    (subst (λ ys. IsPermutation rest ys) (same_parts key n n xs (omega arith)) (parted key n rest (kept key n xs h))))

pub young : (calls : ℕ) → age_of calls < 8
young calls =
    let most : age_of calls ≤ 7 = count_by-le-length (λ m. nat_lt m calls) (10 ∷ 30 ∷ 100 ∷ 300 ∷ 1000 ∷ 3000 ∷ 10000 ∷ []) in omega arith

pub all_young : (lives : List Life) → All (λ l. age_of l.lived < 8) lives
all_young [] = All-nil (λ l. age_of l.lived < 8)
all_young (l ∷ ls) = All-cons (λ k. age_of k.lived < 8) l ls (young l.lived) (all_young ls)

one_step : {X Y : Type 0} (f : X → List ℕ) (g : Y → List ℕ) (x : X) (y : Y) (xs : List X) (ys : List Y) (b : Bool) → f x ≡ g y → flat_map f xs ≡ flat_map g ys
    → flat_map f (cond b (x ∷ xs) xs) ≡ flat_map g (cond b (y ∷ ys) ys)
one_step f g x y xs ys true e h = ap₂ (λ a b. a ++ b) e h
one_step f g x y xs ys false e h = h

one_group : (plot : Plot) (calls age : ℕ) (lives : List Life)
    → titled_of_age calls (map (shape_of plot) lives) lives age ≡ flat_map (λ l. titled_text calls (shape_of plot l, l)) (lives_of_age lives age)
one_group plot calls age [] = refl
one_group plot calls age (l ∷ ls) =
    one_step (titled_text calls) (λ k. titled_text calls (shape_of plot k, k)) (shape_of plot l, l) l _ (lives_of_age ls age) (nat_eq (age_of l.lived) age) refl (one_group plot calls age ls)

pub rectangles_law : EachLifeHasARectangle
rectangles_law plot calls lives = (λ age. one_group plot calls age lives, parted (λ l. age_of l.lived) 8 lives (all_young lives))
