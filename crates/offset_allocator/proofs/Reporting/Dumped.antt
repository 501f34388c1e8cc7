-- Texts of blocks, one after the other.
use Rattle.std.proofs.Common.{◌≡◌, ℕ, zero, suc, ◌+◌, ◌<◌, ◌≤◌, length, slice_index_or, arith, Bool, false, List, [], ◌∷◌, ◌++◌, map, drop, reverse, refl, sym, ap, ◌∙◌, append_assoc}
use Rattle.std.proofs.lemmas.List.{reverse-append}
use Rattle.offset_allocator.specs.Reporting.Listing.{Placed}
use Rattle.offset_allocator.specs.Reporting.Dumping.{comma, joined}

-- one block more
pub joined_more : (text : Placed → List ℕ) (a b c base : List ℕ) (first : Bool) (ps : List Placed) (i : ℕ) (p : Placed) → drop i ps ≡ p ∷ drop (i + 1) ps → b ≡ a ++ comma first → c ≡ b ++ text p
    → a ++ joined text first (drop i ps) ≡ base → c ++ joined text false (drop (i + 1) ps) ≡ base
joined_more text a b c base first ps i p d e f h =
    ap (λ (l : List ℕ). l ++ joined text false (drop (i + 1) ps)) (f ∙ ap (λ (l : List ℕ). l ++ text p) e)
    ∙ append_assoc (a ++ comma first) (text p) (joined text false (drop (i + 1) ps))
    ∙ append_assoc a (comma first) (text p ++ joined text false (drop (i + 1) ps))
    ∙ ap (λ (l : List Placed). a ++ joined text first l) (sym d) ∙ h

-- three texts after none
pub three_put : (a b c d h j e : List ℕ) → a ≡ [] → b ≡ a ++ h → c ≡ b ++ j → d ≡ c ++ e → d ≡ h ++ (j ++ e)
three_put a b c d h j e z f g k =
    k ∙ ap (λ (l : List ℕ). l ++ e) (g ∙ ap (λ (l : List ℕ). l ++ j) (f ∙ ap (λ (l : List ℕ). l ++ h) z)) ∙ append_assoc h j e

-- a list from a place on, mapped
pub mapped_from : {A B : Type 0} (f : A → B) (xs : List A) (i : ℕ) (d : A) → i < length xs → drop i (map f xs) ≡ f (slice_index_or xs i d) ∷ drop (i + 1) (map f xs)
mapped_from f [] i d l = absurd (omega arith)
mapped_from f (x ∷ xs) zero d l = refl
mapped_from f (x ∷ xs) (suc i) d l =
    let same : suc i + 1 ≡ suc (i + 1) = omega arith in
    mapped_from f xs i d (omega (arith, l)) ∙ ap (λ (n : ℕ). f (slice_index_or xs i d) ∷ drop n (map f (x ∷ xs))) (sym same)

pub mapped_end : {A B : Type 0} (f : A → B) (xs : List A) (i : ℕ) → length xs ≤ i → drop i (map f xs) ≡ []
mapped_end f [] zero l = refl
mapped_end f [] (suc i) l = refl
mapped_end f (x ∷ xs) zero l = absurd (omega arith)
mapped_end f (x ∷ xs) (suc i) l = mapped_end f xs i (omega (arith, l))

-- what was reversed twice, mapped
map_append : {A B : Type 0} (f : A → B) (xs ys : List A) → map f (xs ++ ys) ≡ map f xs ++ map f ys
map_append f [] ys = refl
map_append f (x ∷ xs) ys = ap (λ l. f x ∷ l) (map_append f xs ys)

pub map_reverse : {A B : Type 0} (f : A → B) (xs : List A) → map f (reverse xs) ≡ reverse (map f xs)
map_reverse f [] = refl
map_reverse f (x ∷ xs) =
    ap (map f) (reverse-append (x ∷ []) xs) ∙ map_append f (reverse xs) (x ∷ []) ∙ ap (λ l. l ++ f x ∷ []) (map_reverse f xs) ∙ sym (reverse-append (f x ∷ []) (map f xs))
