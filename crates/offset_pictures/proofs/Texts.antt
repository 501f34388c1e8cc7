-- A text that is written piece by piece.
use Rattle.std.proofs.Common.{◌≡◌, ℕ, ◌∙◌, Bool, true, false, List, [], ◌∷◌, ◌++◌, Option, Some, None, Result, append_assoc, append-nil, if◌then◌else◌, sym, ap, subst, refl}
use Rattle.std.specs.Prelude.{OnOk}

-- pieces one after the other, as one write has them
abbrev pub in_a_row : List ℕ → List (List ℕ) → List ℕ
in_a_row a [] = a
in_a_row a (b ∷ bs) = a ++ in_a_row b bs

-- the same as a definition has them
abbrev pub joined_up : List ℕ → List (List ℕ) → List ℕ
joined_up a [] = a
joined_up a (b ∷ bs) = joined_up (a ++ b) bs

after_a : (a b : List ℕ) (bs : List (List ℕ)) → a ++ in_a_row b bs ≡ joined_up (a ++ b) bs
after_a a b [] = refl
after_a a b (c ∷ bs) = sym (append_assoc a b (in_a_row c bs)) ∙ after_a (a ++ b) c bs

pub same_text : (a : List ℕ) (bs : List (List ℕ)) → in_a_row a bs ≡ joined_up a bs
same_text a [] = refl
same_text a (b ∷ bs) = after_a a b bs

-- the first pieces are written
pub is_begun : (a : List ℕ) (bs : List (List ℕ)) (old new : List ℕ) → new ≡ old ++ in_a_row a bs → new ≡ old ++ joined_up a bs
is_begun a bs old new e = e ∙ ap (λ t. old ++ t) (same_text a bs)

go_on : (t b : List ℕ) (bs : List (List ℕ)) (old mid : List ℕ) → mid ≡ old ++ t → mid ++ in_a_row b bs ≡ old ++ joined_up (t ++ b) bs
go_on t b bs old mid e = ap (λ m. m ++ in_a_row b bs) e ∙ append_assoc old t (in_a_row b bs) ∙ ap (λ x. old ++ x) (after_a t b bs)

-- more pieces are written
pub goes_on : (t b : List ℕ) (bs : List (List ℕ)) (old mid new : List ℕ) → mid ≡ old ++ t → new ≡ mid ++ in_a_row b bs → new ≡ old ++ joined_up (t ++ b) bs
goes_on t b bs old mid new e f = f ∙ go_on t b bs old mid e

-- the last pieces are written, if the last call succeeds
pub is_ended : {T E : Type 0} (r : Result T E) (t b : List ℕ) (bs : List (List ℕ)) (old mid new : List ℕ) → mid ≡ old ++ t → OnOk r (new ≡ mid ++ in_a_row b bs)
    → OnOk r (new ≡ old ++ joined_up (t ++ b) bs)
is_ended r t b bs old mid new e h = subst (λ (x : List ℕ). OnOk r (new ≡ x)) (go_on t b bs old mid e) h

-- a part that is written under a condition
pub is_put : (b : Bool) (t p old mid new : List ℕ) → b ≡ true → mid ≡ old ++ t → new ≡ mid ++ p → new ≡ old ++ (t ++ (if b then p else []))
is_put b t p old mid new holds e f = f ∙ ap (λ m. m ++ p) e ∙ append_assoc old t p ∙ ap (λ x. old ++ (t ++ (if x then p else []))) (sym holds)

pub is_left_out : (b : Bool) (t p old mid new : List ℕ) → b ≡ false → mid ≡ old ++ t → new ≡ mid → new ≡ old ++ (t ++ (if b then p else []))
is_left_out b t p old mid new fails e f = f ∙ e ∙ ap (λ x. old ++ x) (sym (append-nil t)) ∙ ap (λ x. old ++ (t ++ (if x then p else []))) (sym fails)

pub is_none : {A : Type 0} (o : Option A) → ((x : A) → o ≡ Some x → ⊥) → o ≡ None
is_none None h = refl
is_none (Some x) h = absurd (h x refl)
