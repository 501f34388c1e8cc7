-- What holds of lists of blocks: counts of tags, neighbours, free ends, and what coalesces.
use Rattle.offset_script.proofs.Common.{◌≡◌, ℕ, zero, suc, ◌+◌, ◌≤◌, Bool, true, false, ◌&&◌, List, [], ◌∷◌, ◌++◌, length, nat_eq, if◌then◌else◌, refl, sym, ap, ap₂, subst, ◌∙◌, inl, inr, arith}
use Rattle.offset_script.proofs.Common.{ne_eqb, append-nil, cases_eq, true≢false, false≢true, and_left, and_right, AllByRecursion, one, Tag, Live, Free, Block, block, is_free, has_number, total}
use Rattle.offset_script.proofs.Common.{Place, free_part, units_at_start, without_start, units_at_end, without_end, coalesce, nil_from_length, cases_Bool}
use Rattle.offset_allocator.proofs.{Views.ViewApart.left_false, Views.ViewApart.right_false, Tallies.hit_cases, Tallies.one-same}
use Rattle.offset_script.proofs.Members.{IsIn}

-- whether the first block of a list is free
abbrev pub starts_free : List Block → Bool
starts_free [] = false
starts_free (b ∷ bs) = is_free b.tag

-- whether the last block of a list is free
abbrev pub ends_free : List Block → Bool
ends_free [] = false
ends_free (b ∷ []) = is_free b.tag
ends_free (b ∷ c ∷ bs) = ends_free (c ∷ bs)

-- no two neighbours are both free
abbrev pub AreApart : List Block → Type 0
AreApart [] = Unit {0}
AreApart (b ∷ bs) = ((is_free b.tag && starts_free bs) ≡ false) × AreApart bs

-- whether two tags are the same
abbrev pub same_tag : Tag → Tag → Bool
same_tag (Live i) (Live j) = nat_eq i j
same_tag (Live i) (Free s) = false
same_tag (Free s) (Live i) = false
same_tag (Free s) (Free u) = nat_eq s u

-- 1 where two tags are the same, and else 0
abbrev pub hit : Tag → Tag → ℕ
hit t u = one (same_tag t u)

-- how often a tag occurs in a list
abbrev pub count : Tag → List Block → ℕ
count t [] = 0
count t (b ∷ bs) = hit t b.tag + count t bs

-- the list that was split
abbrev pub whole : Place → List Block
whole p = p.before ++ p.block ∷ p.after

-- the counts of two lists are added
pub count-append : (t : Tag) (xs ys : List Block) → count t (xs ++ ys) ≡ count t xs + count t ys
count-append t [] ys = omega arith
count-append t (b ∷ xs) ys = let ih = count-append t xs ys in omega (arith, ih)

pub hit_self : (t : Tag) → hit t t ≡ 1
hit_self (Live k) = one-same k
hit_self (Free s) = one-same s

-- the tag of a block that is in a list occurs there
pub in_count : (c : Block) (bs : List Block) → IsIn c bs → 1 ≤ count c.tag bs
in_count c [] i = absurd i
in_count c (b ∷ bs) (inl e) = let h : hit c.tag b.tag ≡ 1 = ap (λ (x : Block). hit c.tag x.tag) (sym e) ∙ hit_self c.tag in omega arith
in_count c (b ∷ bs) (inr i) = let ih = in_count c bs i in omega arith

-- a tag of a number
pub hit_number : (k : ℕ) (t : Tag) → hit (Live k) t ≡ 0 → has_number k t ≡ false
hit_number k (Live j) e = elim (hit_cases k j) [ inl h ↦ absurd (let n = h.1 in omega arith) | inr h ↦ ne_eqb k j h.0 ]
hit_number k (Free s) e = refl

pub number_of : (k : ℕ) (t : Tag) → has_number k t ≡ true → t ≡ Live k
number_of k (Live j) e = elim (cases_eq k j) [ inl h ↦ ap Live (sym h) | inr h ↦ absurd (true≢false (sym e ∙ ne_eqb k j h)) ]
number_of k (Free s) e = absurd (false≢true e)

pub count_free_part : (t : Tag) (n s : ℕ) → count t (free_part n s) ≤ hit t (Free s)
count_free_part t zero s = omega arith
count_free_part t (suc n) s = omega arith

-- the units of two lists are added
pub total-append : (xs ys : List Block) → total (xs ++ ys) ≡ total xs + total ys
total-append [] ys = omega arith
total-append (b ∷ xs) ys = let ih = total-append xs ys in omega (arith, ih)

-- neighbours

-- two lists that do not meet in two free blocks
pub apart_append : (xs ys : List Block) → AreApart xs → AreApart ys → (ends_free xs && starts_free ys) ≡ false → AreApart (xs ++ ys)
apart_append [] ys a b e = b
apart_append (x ∷ []) ys a b e = (e, b)
apart_append (x ∷ y ∷ xs) ys a b e = (a.0, apart_append (y ∷ xs) ys a.1 b e)

-- the parts of a list
pub apart_parts : (xs ys : List Block) → AreApart (xs ++ ys) → AreApart xs × AreApart ys × ((ends_free xs && starts_free ys) ≡ false)
apart_parts [] ys a = (tt, a, refl)
apart_parts (x ∷ []) ys a = ((and_right (is_free x.tag) false refl, tt), a.1, a.0)
apart_parts (x ∷ y ∷ xs) ys a = let p = apart_parts (y ∷ xs) ys a.1 in ((a.0, p.0), p.1, p.2)

-- all of these are free
abbrev pub AreFree : List Block → Type 0
AreFree bs = AllByRecursion (λ b. is_free b.tag ≡ true) bs

-- of neighbours at most one is free
pub few_free : (fs : List Block) → AreFree fs → AreApart fs → length fs ≤ 1
few_free [] f a = omega arith
few_free (b ∷ []) f a = omega arith
few_free (b ∷ c ∷ fs) f a = absurd (true≢false (sym (ap (λ x. x && is_free c.tag) f.0 ∙ f.1.0) ∙ a.0))

-- ---- what is free at the ends of a list

-- a list ends with fs, after xs: a free block, or nothing if it does not end free
pub record IsEnd (xs fs : List Block) : Type 0 where
  pub few : length fs ≤ 1
  pub free : AreFree fs
  pub live : length fs ≡ 0 → ends_free (xs ++ fs) ≡ false

-- a list starts with gs, before ys: a free block, or nothing if it does not start free
pub record IsStart (gs ys : List Block) : Type 0 where
  pub few : length gs ≤ 1
  pub free : AreFree gs
  pub live : length gs ≡ 0 → starts_free (gs ++ ys) ≡ false

-- free blocks after a list that does not end free, and before one that does not start free
pub end_of : (xs fs : List Block) → AreFree fs → AreApart fs → ends_free xs ≡ false → IsEnd xs fs
end_of xs fs f a e =
    record { few = few_free fs f a; free = f; live = λ h. ap (λ l. ends_free (xs ++ l)) (nil_from_length fs h) ∙ ap ends_free (append-nil xs) ∙ e }

pub start_of : (gs ys : List Block) → AreFree gs → AreApart gs → starts_free ys ≡ false → IsStart gs ys
start_of gs ys f a e = record { few = few_free gs f a; free = f; live = λ h. ap (λ l. starts_free (l ++ ys)) (nil_from_length gs h) ∙ e }

end_is : (xs fs : List Block) → IsEnd xs fs → (without_end (xs ++ fs) ≡ xs) × (units_at_end (xs ++ fs) ≡ total fs)
end_is [] [] e = (refl, refl)
end_is [] (b ∷ []) e = (ap (λ x. if x then [] else b ∷ []) e.free.0, ap (λ x. if x then b.size else 0) e.free.0 ∙ omega arith)
end_is [] (b ∷ c ∷ fs) e = absurd (let l = e.few in omega arith)
end_is (x ∷ []) [] e = (ap (λ y. if y then [] else x ∷ []) (e.live refl), ap (λ y. if y then x.size else 0) (e.live refl))
end_is (x ∷ []) (b ∷ fs) e = let r = end_is [] (b ∷ fs) (record { few = e.few; free = e.free; live = e.live }) in (ap (λ z. x ∷ z) r.0, r.1)
end_is (x ∷ y ∷ xs) fs e = let r = end_is (y ∷ xs) fs (record { few = e.few; free = e.free; live = e.live }) in (ap (λ z. x ∷ z) r.0, r.1)

pub start_is : (gs ys : List Block) → IsStart gs ys → (without_start (gs ++ ys) ≡ ys) × (units_at_start (gs ++ ys) ≡ total gs)
start_is [] [] e = (refl, refl)
start_is [] (y ∷ ys) e = (ap (λ x. if x then ys else y ∷ ys) (e.live refl), ap (λ x. if x then y.size else 0) (e.live refl))
start_is (b ∷ []) ys e = (ap (λ x. if x then ys else b ∷ ys) e.free.0, ap (λ x. if x then b.size else 0) e.free.0 ∙ omega arith)
start_is (b ∷ c ∷ gs) ys e = absurd (let l = e.few in omega arith)

-- what becomes free coalesces with the free blocks before and after it
pub coalesce_parts : (xs fs : List Block) (n s : ℕ) (gs ys : List Block) → IsEnd xs fs → IsStart gs ys
    → coalesce (xs ++ fs) n s (gs ++ ys) ≡ xs ++ block (total fs + n + total gs) (Free s) ∷ ys
coalesce_parts xs fs n s gs ys e h = search (arith, end_is, start_is)

ended : (bs : List Block) → (xs : List Block) × (fs : List Block) × (bs ≡ xs ++ fs) × IsEnd xs fs
ended [] = ([], [], refl, record { few = omega arith; free = tt; live = λ h. refl })
ended (b ∷ []) = elim (cases_Bool (is_free b.tag)) [
  | inl e ↦ ([], b ∷ [], refl, record { few = omega arith; free = (e, tt); live = λ h. absurd (omega arith) })
  | inr e ↦ (b ∷ [], [], refl, record { few = omega arith; free = tt; live = λ h. e })
]
ended (b ∷ c ∷ bs) =
    let r = ended (c ∷ bs) in
    (b ∷ r.0, r.1, ap (λ z. b ∷ z) r.2, record { few = r.3.few; free = r.3.free; live = λ h. ap (λ z. ends_free (b ∷ z)) (sym r.2) ∙ ap ends_free r.2 ∙ r.3.live h })

started : (bs : List Block) → (gs : List Block) × (ys : List Block) × (bs ≡ gs ++ ys) × IsStart gs ys
started [] = ([], [], refl, record { few = omega arith; free = tt; live = λ h. refl })
started (b ∷ bs) = elim (cases_Bool (is_free b.tag)) [
  | inl e ↦ (b ∷ [], bs, refl, record { few = omega arith; free = (e, tt); live = λ h. absurd (omega arith) })
  | inr e ↦ ([], b ∷ bs, refl, record { few = omega arith; free = tt; live = λ h. e })
]

-- what coalesces, and what stays
pub record IsCoalesced (xs : List Block) (n s : ℕ) (ys : List Block) : Type 0 where
  pub front : List Block
  pub last : List Block
  pub first : List Block
  pub back : List Block
  pub at_front : xs ≡ front ++ last
  pub at_back : ys ≡ first ++ back
  pub end : IsEnd front last
  pub start : IsStart first back
  pub is : coalesce xs n s ys ≡ front ++ block (total last + n + total first) (Free s) ∷ back

pub coalesced : (xs : List Block) (n s : ℕ) (ys : List Block) → IsCoalesced xs n s ys
coalesced xs n s ys =
    let e = ended xs in
    let b = started ys in
    let is = ap₂ (λ u v. coalesce u n s v) e.2 b.2 ∙ coalesce_parts e.0 e.1 n s b.0 b.1 e.3 b.3 in
    record { front = e.0; last = e.1; first = b.0; back = b.1; at_front = e.2; at_back = b.2; end = e.3; start = b.3; is = is }

-- a number that is added over lists, of what coalesces and of the lists before and after it
pub sums_coalesced : (f : List Block → ℕ) → ((xs ys : List Block) → f (xs ++ ys) ≡ f xs + f ys) → (xs : List Block) (n s : ℕ) (ys : List Block) (c : IsCoalesced xs n s ys)
    → (f (coalesce xs n s ys) ≡ f c.front + f (block (total c.last + n + total c.first) (Free s) ∷ c.back)) × (f xs ≡ f c.front + f c.last) × (f ys ≡ f c.first + f c.back)
sums_coalesced f add xs n s ys c = (ap f c.is ∙ add c.front _, ap f c.at_front ∙ add c.front c.last, ap f c.at_back ∙ add c.first c.back)

-- coalescing adds one tag
pub count_coalesce : (t : Tag) (xs : List Block) (n s : ℕ) (ys : List Block) → count t (coalesce xs n s ys) ≤ count t xs + (hit t (Free s) + count t ys)
count_coalesce t xs n s ys = let e = sums_coalesced (count t) (count-append t) xs n s ys (coalesced xs n s ys) in omega arith

-- before a free end and after a free start nothing is free
end_live : (xs fs : List Block) → IsEnd xs fs → AreApart (xs ++ fs) → ends_free xs ≡ false
end_live xs [] e a = ap ends_free (sym (append-nil xs)) ∙ e.live refl
end_live xs (b ∷ fs) e a = left_false (ends_free xs) (is_free b.tag) (apart_parts xs (b ∷ fs) a).2 e.free.0

start_live : (gs ys : List Block) → IsStart gs ys → AreApart (gs ++ ys) → starts_free ys ≡ false
start_live [] ys e a = e.live refl
start_live (b ∷ []) ys e a = right_false (is_free b.tag) (starts_free ys) a.0 e.free.0
start_live (b ∷ c ∷ gs) ys e a = absurd (let l = e.few in omega arith)

-- coalescing leaves no two free neighbours
pub apart_coalesce : (xs : List Block) (n s : ℕ) (ys : List Block) → AreApart xs → AreApart ys → AreApart (coalesce xs n s ys)
apart_coalesce xs n s ys a b =
    let c = coalesced xs n s ys in
    let a' = subst AreApart c.at_front a in
    let b' = subst AreApart c.at_back b in
    subst AreApart (sym c.is)
    (apart_append c.front _ (apart_parts c.front c.last a').0 (start_live c.first c.back c.start b', (apart_parts c.first c.back b').1) (and_left _ _ (end_live c.front c.last c.end a')))
