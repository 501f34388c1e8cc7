-- Neighbours of named blocks.
use Rattle.offset_allocator.proofs.Common.{not, ◌≡◌, ℕ, zero, suc, Bool, true, false, ◌&&◌, List, [], ◌∷◌, ◌++◌, if◌then◌else◌, refl, sym, ap, ◌∙◌, append_assoc, false≢true, and_left, and_right}
use Rattle.offset_allocator.proofs.Common.{cond_both, Block, used_block, starts_free, AreCoalesced, free_start, without_start, free_end, without_end, free_part, arith}

abbrev pub ends_free : List Block → Bool
ends_free [] = false
ends_free (b ∷ []) = not b.used
ends_free (b ∷ c ∷ bs) = ends_free (c ∷ bs)

pub and_true : (x : Bool) → (x && true) ≡ false → x ≡ false
and_true true e = e
and_true false e = refl

pub left_false : (x y : Bool) → (x && y) ≡ false → y ≡ true → x ≡ false
left_false true y e h = sym h ∙ e
left_false false y e h = refl

pub right_false : (x y : Bool) → (x && y) ≡ false → x ≡ true → y ≡ false
right_false true y e h = e
right_false false y e h = absurd (false≢true h)

pub apart_append : (xs ys : List Block) → AreCoalesced xs → AreCoalesced ys → (ends_free xs && starts_free ys) ≡ false → AreCoalesced (xs ++ ys)
apart_append [] ys a b e = b
apart_append (x ∷ []) ys a b e = (e, b)
apart_append (x ∷ y ∷ xs) ys a b e = (a.0, apart_append (y ∷ xs) ys a.1 b e)

pub apart_parts : (xs ys : List Block) → AreCoalesced (xs ++ ys) → AreCoalesced xs × AreCoalesced ys × ((ends_free xs && starts_free ys) ≡ false)
apart_parts [] ys a = (tt, a, refl)
apart_parts (x ∷ []) ys a = ((and_right (not x.used) false refl, tt), a.1, a.0)
apart_parts (x ∷ y ∷ xs) ys a = let p = apart_parts (y ∷ xs) ys a.1 in ((a.0, p.0), p.1, p.2)

pub apart_without_start : (bs : List Block) → AreCoalesced bs → AreCoalesced (without_start bs) × (starts_free (without_start bs) ≡ false)
apart_without_start [] a = (tt, refl)
apart_without_start (b ∷ bs) a = cond_both (not b.used) bs (b ∷ bs) (λ l. AreCoalesced l × (starts_free l ≡ false)) (λ e. (a.1, rw e at a.0)) (λ e. (a, e))

pub apart_without_end : (bs : List Block) → AreCoalesced bs → AreCoalesced (without_end bs) × (ends_free (without_end bs) ≡ false)
apart_without_end [] a = grind arith
apart_without_end (b ∷ []) a = grind (arith, cond_both)
apart_without_end (b ∷ c ∷ []) a = grind (arith, cond_both, and_right, and_true)
apart_without_end (b ∷ c ∷ d ∷ bs) a = grind (arith, apart_without_end (c ∷ d ∷ bs) a.1)

pub apart_coalesced : (xs : List Block) (b : Block) (ys : List Block) → AreCoalesced xs → AreCoalesced ys → AreCoalesced (without_end xs ++ (b ∷ without_start ys))
apart_coalesced xs b ys a c = grind (arith, apart_without_end, apart_without_start, apart_append, and_right, and_left)

pub apart_free_part : (x n : ℕ) (ys : List Block) → AreCoalesced ys → starts_free ys ≡ false → AreCoalesced (free_part x n ++ ys)
apart_free_part x zero ys a e = a
apart_free_part x (suc n) ys a e = (e, a)

pub apart_granted : (before : List Block) (b : Block) (after : List Block) (front padding name n rest left : ℕ) → not b.used ≡ true → AreCoalesced (before ++ b ∷ after)
    → AreCoalesced (before ++ (free_part front padding ++ (used_block name n ∷ (free_part rest left ++ after))))
apart_granted before b after front padding name n rest left f a = grind (arith, apart_parts, left_false, right_false, apart_append, apart_free_part, and_left)

-- the free blocks at the ends
pub end_parts : (bs : List Block) → bs ≡ without_end bs ++ free_end bs
end_parts [] = refl
end_parts (b ∷ []) = elim (not b.used) as (λ x. b ∷ [] ≡ (if x then [] else b ∷ []) ++ (if x then b ∷ [] else [])) [ true ↦ refl | false ↦ refl ]
end_parts (b ∷ c ∷ bs) = ap (λ l. b ∷ l) (end_parts (c ∷ bs))

pub start_parts : (bs : List Block) → bs ≡ free_start bs ++ without_start bs
start_parts [] = refl
start_parts (b ∷ bs) = elim (not b.used) as (λ x. b ∷ bs ≡ (if x then b ∷ [] else []) ++ (if x then bs else b ∷ bs)) [ true ↦ refl | false ↦ refl ]

pub coalesced_parts : (before old after : List Block) → before ++ (old ++ after) ≡ without_end before ++ ((free_end before ++ (old ++ free_start after)) ++ without_start after)
coalesced_parts before old after =
    ap (λ l. l ++ (old ++ after)) (end_parts before)
    ∙ ap (λ l. (without_end before ++ free_end before) ++ (old ++ l)) (start_parts after)
    ∙ simp append_assoc

-- the ends of lists
pub no_end : (bs : List Block) → ends_free bs ≡ false → (free_end bs ≡ []) × (without_end bs ≡ bs)
no_end [] e = (refl, refl)
no_end (b ∷ []) e = (ap (λ (f : Bool). if f then b ∷ [] else []) e, ap (λ (f : Bool). if f then [] else b ∷ []) e)
no_end (b ∷ c ∷ bs) e = let r = no_end (c ∷ bs) e in (r.0, ap (λ l. b ∷ l) r.1)

pub no_start : (bs : List Block) → starts_free bs ≡ false → (free_start bs ≡ []) × (without_start bs ≡ bs)
no_start [] e = (refl, refl)
no_start (b ∷ bs) e = (ap (λ (f : Bool). if f then b ∷ [] else []) e, ap (λ (f : Bool). if f then bs else b ∷ bs) e)
