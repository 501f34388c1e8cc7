-- The places that are found for the number of a grant, and chosen for a request.
use Rattle.offset_script.proofs.Common.{◌≡◌, ℕ, Bool, true, false, ◌&&◌, ◌||◌, List, [], ◌∷◌, ◌++◌, Option, Some, None, option_map, nat_eq, nat_lt, if◌then◌else◌, refl, sym, ap, subst, ◌∙◌, inl, inr}
use Rattle.offset_script.proofs.Common.{arith, true≢false, and_parts, nat_tests, down, one, Tag, Live, Free, Block, has_number, stamp, Place, here, prepend, fits, is_taken_before, choose}
use Rattle.offset_script.proofs.{Common.chosen_place, Common.place_of, Members.IsIn, Lists.hit, Lists.count, Lists.whole, Lists.hit_number}
use Rattle.offset_allocator.proofs.Views.ViewApart.{right_false}

-- what is found
abbrev IsFoundAt : ℕ → List Block → Option Place → Type 0
IsFoundAt k bs None = count (Live k) bs ≡ 0
IsFoundAt k bs (Some p) = (bs ≡ whole p) × (has_number k p.block.tag ≡ true) × (count (Live k) p.before ≡ 0)

pub number_hit : (k : ℕ) (t : Tag) → hit (Live k) t ≡ one (has_number k t)
number_hit k (Live j) = refl
number_hit k (Free s) = refl

found_step : (k : ℕ) (b : Block) (bs : List Block) (o : Option Place) → IsFoundAt k bs o → (x : Bool) → has_number k b.tag ≡ x
    → IsFoundAt k (b ∷ bs) (if x then Some (here b bs) else option_map (prepend b) o)
found_step k b bs o f true e = (refl, e, refl)
found_step k b bs None f false e = let h : hit (Live k) b.tag ≡ 0 = number_hit k b.tag ∙ ap one e in omega arith
found_step k b bs (Some p) f false e = search (arith, number_hit)

found_all : (k : ℕ) (bs : List Block) → IsFoundAt k bs (place_of k bs)
found_all k [] = refl
found_all k (b ∷ bs) = found_step k b bs (place_of k bs) (found_all k bs) (has_number k b.tag) refl

-- where a grant is found, its block is in the list
pub found_at : (k : ℕ) (bs : List Block) (p : Place) → place_of k bs ≡ Some p → (bs ≡ whole p) × (has_number k p.block.tag ≡ true) × (count (Live k) p.before ≡ 0)
found_at k bs p e = subst (IsFoundAt k bs) e (found_all k bs)

-- a grant is found where its number does not occur before
pub place_at : (k : ℕ) (xs : List Block) (b : Block) (ys : List Block) → count (Live k) xs ≡ 0 → has_number k b.tag ≡ true
    → place_of k (xs ++ b ∷ ys) ≡ Some (record { before = xs; block = b; after = ys })
place_at k [] b ys c e = ap (λ x. if x then Some (here b ys) else option_map (prepend b) (place_of k ys)) e
place_at k (x ∷ xs) b ys c e = search (arith, (place_at k xs b ys (omega arith) e), option_map, hit_number)

-- where a grant is not found, no block has its number
pub not_found : (k : ℕ) (bs : List Block) → place_of k bs ≡ None → count (Live k) bs ≡ 0
not_found k bs e = subst (IsFoundAt k bs) e (found_all k bs)

-- no block that fits is chosen over this one
abbrev pub IsBest : ℕ → List Block → Block → Type 0
IsBest n bs b = (c : Block) → IsIn c bs → fits n c ≡ true → is_taken_before c b ≡ false

-- what was chosen is the best that fits, and where nothing was, nothing fits
abbrev IsChosenAt : ℕ → List Block → Option Place → Type 0
IsChosenAt n bs None = (c : Block) → IsIn c bs → fits n c ≡ false
IsChosenAt n bs (Some p) = (bs ≡ whole p) × (fits n p.block ≡ true) × IsBest n bs p.block

order_transitive : (x y z s t u : ℕ) → (nat_lt x y || (nat_eq x y && nat_lt t s)) ≡ false → (nat_lt z y || (nat_eq z y && nat_lt t u)) ≡ true
    → (nat_lt x z || (nat_eq x z && nat_lt u s)) ≡ false
order_transitive x y z s t u f g = grind (arith, nat_tests)

pub taken_transitive : (a b c : Block) → is_taken_before a b ≡ false → is_taken_before c b ≡ true → is_taken_before a c ≡ false
taken_transitive a b c f g = order_transitive (down a.size) (down b.size) (down c.size) (stamp a.tag) (stamp b.tag) (stamp c.tag) f g

chosen_here : (n : ℕ) (b : Block) (bs : List Block) → fits n b ≡ true → ((c : Block) → IsIn c bs → fits n c ≡ true → is_taken_before c b ≡ false) → IsBest n (b ∷ bs) b
chosen_here n b bs f best c (inl e) g = subst (λ (x : Block). is_taken_before x b ≡ false) (sym e) (grind (arith, nat_tests))
chosen_here n b bs f best c (inr i) g = best c i g

chosen_prepend : (n : ℕ) (b : Block) (bs : List Block) (d : Block) → (fits n b && is_taken_before b d) ≡ false → IsBest n bs d → IsBest n (b ∷ bs) d
chosen_prepend n b bs d f best c (inl e) g = subst (λ (x : Block). is_taken_before x d ≡ false) (sym e) (right_false (fits n b) _ f (subst (λ (x : Block). fits n x ≡ true) e g))
chosen_prepend n b bs d f best c (inr i) g = best c i g

choose_none : (n : ℕ) (b : Block) (bs : List Block) → ((c : Block) → IsIn c bs → fits n c ≡ false) → (x : Bool) → fits n b ≡ x
    → IsChosenAt n (b ∷ bs) (if x then Some (here b bs) else None)
choose_none n b bs h true e = (refl, e, chosen_here n b bs e (λ c i g. absurd (true≢false (sym g ∙ h c i))))
choose_none n b bs h false e = search (arith)

choose_some : (n : ℕ) (b : Block) (bs : List Block) (p : Place) → IsChosenAt n bs (Some p) → (x : Bool) → (fits n b && is_taken_before b p.block) ≡ x
    → IsChosenAt n (b ∷ bs) (if x then Some (here b bs) else Some (prepend b p))
choose_some n b bs p h true e = (refl, (and_parts _ _ e).0, chosen_here n b bs (and_parts _ _ e).0 (λ c i g. taken_transitive c p.block b (h.2 c i g) (and_parts _ _ e).1))
choose_some n b bs p h false e = (ap (λ l. b ∷ l) h.0, h.1, chosen_prepend n b bs p.block e h.2)

choose_step : (n : ℕ) (b : Block) (bs : List Block) (o : Option Place) → IsChosenAt n bs o → IsChosenAt n (b ∷ bs) (choose n b bs o)
choose_step n b bs None h = choose_none n b bs h (fits n b) refl
choose_step n b bs (Some p) h = choose_some n b bs p h _ refl

chosen_all : (n : ℕ) (bs : List Block) → IsChosenAt n bs (chosen_place n bs)
chosen_all n [] = λ c i. absurd i
chosen_all n (b ∷ bs) = choose_step n b bs (chosen_place n bs) (chosen_all n bs)

-- a chosen place is one of the list, fits, and is the newest of the smallest class that fits
pub chosen_at : (n : ℕ) (bs : List Block) (p : Place) → chosen_place n bs ≡ Some p → (bs ≡ whole p) × (fits n p.block ≡ true) × IsBest n bs p.block
chosen_at n bs p e = subst (IsChosenAt n bs) e (chosen_all n bs)

-- where nothing is chosen, nothing fits
pub not_chosen : (n : ℕ) (bs : List Block) → chosen_place n bs ≡ None → (c : Block) → IsIn c bs → fits n c ≡ false
not_chosen n bs e = subst (IsChosenAt n bs) e (chosen_all n bs)
