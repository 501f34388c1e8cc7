-- Items of lists, and of mapped lists.
use Rattle.offset_script.proofs.Common.{◌≡◌, ◌⊎◌, List, [], ◌∷◌, ◌++◌, map, refl, ap, ap₂, ◌∙◌, inl, inr}

-- an item is in a list
abbrev pub IsIn : {A : Type 0} → A → List A → Type 0
IsIn x [] = ⊥
IsIn x (y ∷ ys) = (x ≡ y) ⊎ IsIn x ys

pub in_append : {A : Type 0} (x : A) (xs ys : List A) → IsIn x (xs ++ ys) → IsIn x xs ⊎ IsIn x ys
in_append x [] ys h = inr h
in_append x (z ∷ xs) ys (inl e) = inl (inl e)
in_append x (z ∷ xs) ys (inr h) = elim (in_append x xs ys h) [ inl a ↦ inl (inr a) | inr b ↦ inr b ]

pub in_left : {A : Type 0} (x : A) (xs ys : List A) → IsIn x xs → IsIn x (xs ++ ys)
in_left x [] ys h = absurd h
in_left x (z ∷ xs) ys (inl e) = inl e
in_left x (z ∷ xs) ys (inr h) = inr (in_left x xs ys h)

pub in_right : {A : Type 0} (x : A) (xs ys : List A) → IsIn x ys → IsIn x (xs ++ ys)
in_right x [] ys h = h
in_right x (z ∷ xs) ys h = inr (in_right x xs ys h)

-- an item beside another is in the whole list
pub in_parts : {A : Type 0} (x : A) (xs : List A) (y : A) (ys : List A) → IsIn x xs ⊎ IsIn x ys → IsIn x (xs ++ y ∷ ys)
in_parts x xs y ys (inl h) = in_left x xs _ h
in_parts x xs y ys (inr h) = in_right x xs _ (inr h)

-- the image of an item is in the mapped list
pub in_map : {A B : Type 0} (f : A → B) (x : A) (xs : List A) → IsIn x xs → IsIn (f x) (map f xs)
in_map f x [] h = absurd h
in_map f x (y ∷ xs) (inl e) = inl (ap f e)
in_map f x (y ∷ xs) (inr h) = inr (in_map f x xs h)

-- a map that changes no item
pub map_same : {A : Type 0} (f : A → A) → ((x : A) → f x ≡ x) → (xs : List A) → map f xs ≡ xs
map_same f e [] = refl
map_same f e (x ∷ xs) = ap₂ (λ y ys. y ∷ ys) (e x) (map_same f e xs)

-- a mapped list that is split in two was split before
pub map_parts : {A B : Type 0} (f : A → B) (ls : List A) (xs ys : List B) → map f ls ≡ xs ++ ys → (front : List A) × (back : List A) × (ls ≡ front ++ back)
    × (map f front ≡ xs) × (map f back ≡ ys)
map_parts f ls [] ys e = ([], ls, refl, refl, e)
map_parts f (l ∷ ls) (x ∷ xs) ys e = let r = map_parts f ls xs ys (cc) in (l ∷ r.0, r.1, (cc), (cc), r.4)
map_parts f ls xs ys e = absurd cc

-- the first of a mapped list
pub map_first : {A B : Type 0} (f : A → B) (ls : List A) (b : B) (after : List B) → map f ls ≡ b ∷ after → (x : A) × (ys : List A) × (ls ≡ x ∷ ys)
    × (f x ≡ b) × (map f ys ≡ after)
map_first f [] b after e = absurd (cc)
map_first f (x ∷ ys) b after e = (x, ys, refl, (cc), (cc))

-- a mapped list that is split at an item was split before
pub map_split : {A B : Type 0} (f : A → B) (ls : List A) (before : List B) (b : B) (after : List B) → map f ls ≡ before ++ b ∷ after
    → (xs : List A) × (x : A) × (ys : List A) × (ls ≡ xs ++ x ∷ ys) × (map f xs ≡ before) × (f x ≡ b) × (map f ys ≡ after)
map_split f ls before b after e =
    let r = map_parts f ls before (b ∷ after) e in
    let h = map_first f r.1 b after r.4 in
    (r.0, h.0, h.1, r.2 ∙ ap (λ l. r.0 ++ l) h.2, r.3, h.3, h.4)
