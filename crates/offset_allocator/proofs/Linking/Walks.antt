-- Names linked back and forth: what a change of the links leaves of them.
use Rattle.offset_allocator.proofs.Common.{◌≡◌, ◌≢◌, ◌<◌, ◌≤◌, ◌+◌, ◌⊎◌, ℕ, zero, suc, List, [], ◌∷◌, ◌++◌, refl, sym, ap, ◌∙◌, inl, inr, arith, length, drop, nat_eq, slice_index, slice_set, eq-eqb}
use Rattle.offset_allocator.proofs.Common.{ne_eqb, length-set, get_or-set_same, get_or-set_other, cases_eq, BinCells, one, times, IsLinked, IsAmong, IsTail, first_of, names_from, common_steps}
use Rattle.offset_allocator.proofs.Tallies.{hit_cases, one-same, times-join, without}

-- ---- lists of names
-- a list with one name fewer
pub drop_one : (x : ℕ) (ys : List ℕ) → IsAmong x ys → (zs : List ℕ) × (length ys ≡ length zs + 1) × ((y : ℕ) → times y ys ≡ one (nat_eq y x) + times y zs)
drop_one x [] l = absurd (omega arith)
drop_one x (y ∷ ys) l = elim (hit_cases x y) [
  | inl h ↦ (ys, omega arith, λ z. ap (λ w. one (nat_eq z w) + times z ys) (sym h.0))
  | inr h ↦ let r = drop_one x ys (omega (arith, h.1)) in (y ∷ r.0, omega (arith, r.1), λ z. omega (arith, r.2 z))
]

-- m names are below m
pub length_below : (m : ℕ) (xs : List ℕ) → ((x : ℕ) → times x xs ≤ 1) → ((x : ℕ) → IsAmong x xs → x < m) → length xs ≤ m
length_below zero [] o l = omega arith
length_below zero (x ∷ xs) o l = absurd (omega (arith, l x (omega (arith, one-same x))))
length_below (suc m) xs o l = elim (cases_eq (times m xs) 0) [
  | inl z ↦ let ih = length_below m xs o (λ x a. let b = l x a in elim (cases_eq x m) [ inl e ↦ let q = ap (λ y. times y xs) e in absurd (omega arith) | inr n ↦ omega arith ]) in omega arith
  | inr s ↦
      let r = drop_one m xs (omega arith) in
      let ih = length_below m r.0 (λ x. omega (arith, r.2 x, o x))
      (λ x a. elim (hit_cases x m) [
        | inl h ↦ absurd (let q = ap (λ y. times y xs) h.0 in omega (arith, o x, r.2 x, h.1))
        | inr h ↦ grind (arith, common_steps)
      ]) in
      omega (arith, r.1)
]

pub without_absent : (x : ℕ) (xs : List ℕ) → times x xs ≡ 0 → without x xs ≡ xs
without_absent x [] e = refl
without_absent x (y ∷ ys) e = elim (hit_cases x y) [
  | inl i ↦ absurd (omega (arith, i.1))
  | inr i ↦ rw (ne_eqb y x (λ f. i.0 (sym f)), without_absent x ys (omega (arith, i.1)))
]

pub without_first : (x : ℕ) (xs : List ℕ) → times x (x ∷ xs) ≤ 1 → without x (x ∷ xs) ≡ xs
without_first x xs o = rw (eq-eqb x x refl) (without_absent x xs (omega (arith, one-same x)))

pub without_later : (x w : ℕ) (fs cs : List ℕ) → times x (fs ++ w ∷ x ∷ cs) ≤ 1 → without x (fs ++ w ∷ x ∷ cs) ≡ fs ++ w ∷ cs
without_later x w [] cs o = elim (hit_cases x w) [
  | inl i ↦ absurd (omega (arith, i.1, one-same x))
  | inr i ↦ rw (ne_eqb w x (λ f. i.0 (sym f))) (ap (λ l. w ∷ l) (without_first x cs (omega arith)))
]
without_later x w (f ∷ fs) cs o = elim (hit_cases x f) [
  | inl i ↦ absurd (let t = times-later x w fs cs in omega (arith, i.1))
  | inr i ↦ rw (ne_eqb f x (λ q. i.0 (sym q))) (ap (λ l. f ∷ l) (without_later x w fs cs (omega (arith, i.1))))
]
  where
    times-later : (x w : ℕ) (fs cs : List ℕ) → IsAmong x (fs ++ w ∷ x ∷ cs)
    times-later x w [] cs = omega (arith, one-same x)
    times-later x w (f ∷ fs) cs = omega (arith, times-later x w fs cs)

-- ---- one chain
module _ (none : ℕ) (t : BinCells) (small : length t.newer ≤ none) where
  pub name_below : (b : ℕ) (xs : List ℕ) → IsLinked none t b xs → (y : ℕ) → IsAmong y xs → y < length t.newer
  name_below b [] c y a = absurd (omega arith)
  name_below b (x ∷ xs) c y a = elim (hit_cases y x) [ inl h ↦ omega (arith, h.0, c.0) | inr h ↦ name_below x xs c.3 y (omega (arith, h.1)) ]

  pub older_below : (b : ℕ) (xs : List ℕ) → IsLinked none t b xs → (x : ℕ) → IsAmong x xs → slice_index t.older x ≢ none → slice_index t.older x < length t.newer
  older_below b [] c x a n = absurd (omega arith)
  older_below b (y ∷ ys) c x a n = elim (hit_cases x y) [
    | inl h ↦ at ys c.3 (ap (slice_index t.older) h.0 ∙ c.2)
    | inr h ↦ older_below y ys c.3 x (omega (arith, h.1)) n
  ]
    where
      at : (l : List ℕ) → IsLinked none t y l → slice_index t.older x ≡ first_of none l → slice_index t.older x < length t.newer
      at [] d e = absurd (n e)
      at (z ∷ l) d e = omega (arith, d.0)

  -- the name after one of a chain is in it too
  pub next_among : (b : ℕ) (xs : List ℕ) → IsLinked none t b xs → (x : ℕ) → IsAmong x xs → slice_index t.older x ≢ none → IsAmong (slice_index t.older x) xs
  next_among b [] c x a n = absurd (omega arith)
  next_among b (y ∷ ys) c x a n = elim (hit_cases x y) [
    | inl h ↦ at ys (ap (slice_index t.older) h.0 ∙ c.2)
    | inr h ↦ omega (arith, next_among y ys c.3 x (omega (arith, h.1)) n)
  ]
    where
      at : (l : List ℕ) → slice_index t.older x ≡ first_of none l → IsAmong (slice_index t.older x) (y ∷ l)
      at [] e = absurd (n e)
      at (z ∷ l) e = omega (arith, ap (λ i. times i (z ∷ l)) e, one-same z)

  pub chain_fits : (b : ℕ) (xs : List ℕ) → IsLinked none t b xs → ((x : ℕ) → times x xs ≤ 1) → length xs ≤ length t.newer
  chain_fits b xs c o = length_below (length t.newer) xs o (name_below b xs c)

  -- the walk along the links is the chain
  pub walk_is : (k b : ℕ) (xs : List ℕ) → length xs ≤ k → IsLinked none t b xs → names_from none t.older k (first_of none xs) ≡ xs
  unfolding names_from
  walk_is zero b [] l c = refl
  walk_is zero b (x ∷ xs) l c = absurd (omega arith)
  walk_is (suc k) b [] l c = rw (eq-eqb none none refl)
  walk_is (suc k) b (x ∷ xs) l c = rw (ne_eqb x none (λ q. omega (arith, c.0)), c.2) (ap (λ ys. x ∷ ys) (walk_is k x xs (omega arith) c.3))

  -- a name is the first, or the link to a newer one names the one before it
  pub record IsLater (x : ℕ) (xs : List ℕ) : Type 0 where
    pub front : List ℕ
    pub rest : List ℕ
    pub is : xs ≡ front ++ slice_index t.newer x ∷ x ∷ rest

  pub found : (b x : ℕ) (xs : List ℕ) → IsLinked none t b xs → IsAmong x xs → ((slice_index t.newer x ≡ b) × (xs ≡ x ∷ drop 1 xs)) ⊎ IsLater x xs
  found b x [] c a = absurd (omega arith)
  found b x (y ∷ ys) c a = elim (hit_cases x y) [
    | inl h ↦ inl (ap (slice_index t.newer) h.0 ∙ c.1, ap (λ i. i ∷ ys) (sym h.0))
    | inr h ↦ elim (found y x ys c.3 (omega (arith, h.1))) [
      | inl f ↦ inr (record { front = []; rest = drop 1 ys; is = rw f.0 (ap (λ l. y ∷ l) f.1) })
      | inr f ↦ inr (record { front = y ∷ f.front; rest = f.rest; is = ap (λ l. y ∷ l) f.is })
    ]
  ]

-- ---- a chain under other links
module _ (none : ℕ) (t t' : BinCells) (even : length t'.newer ≡ length t.newer) where
  pub kept : (b : ℕ) (xs : List ℕ) → ((y : ℕ) → IsAmong y xs → (slice_index t'.newer y ≡ slice_index t.newer y) × (slice_index t'.older y ≡ slice_index t.older y))
      → IsLinked none t b xs → IsLinked none t' b xs
  kept b [] s c = tt
  kept b (x ∷ xs) s c = let e = s x (omega (arith, one-same x)) in (omega (arith, c.0), e.0 ∙ c.1, e.1 ∙ c.2, kept x xs (λ y a. s y (omega arith)) c.3)

  -- another name, or none, before the first
  pub led : (b b' : ℕ) (xs : List ℕ) → ((x : ℕ) → times x xs ≤ 1) → slice_index t'.newer (first_of none xs) ≡ b' ⊎ (xs ≡ [])
      → ((y : ℕ) → IsAmong y xs → y ≢ first_of none xs → slice_index t'.newer y ≡ slice_index t.newer y) → ((y : ℕ) → IsAmong y xs → slice_index t'.older y ≡ slice_index t.older y)
      → IsLinked none t b xs → IsLinked none t' b' xs
  led b b' [] o f n s c = grind arith
  led b b' (x ∷ xs) o f n s c = grind (arith, one-same, kept)

-- a name that is not in a list is not its first one
pub not_first : {none : ℕ} (y : ℕ) (xs : List ℕ) → y < none → times y xs ≡ 0 → y ≢ first_of none xs
not_first y [] l z e = absurd (omega arith)
not_first y (x ∷ xs) l z e = let q = ap (λ i. times i (x ∷ xs)) e in omega (arith, one-same x)

pub first_same : (none w x : ℕ) (cs l : List ℕ) → first_of none (l ++ w ∷ x ∷ cs) ≡ first_of none (l ++ w ∷ cs)
first_same none w x cs [] = refl
first_same none w x cs (y ∷ l) = refl

-- x leaves: the names beside it, w and the first of cs, are linked to each other
module _ (none : ℕ) (t t' : BinCells) (w x : ℕ) (cs : List ℕ) (small : length t.newer ≤ none) (even : length t.older ≡ length t.newer)
    (newer : t'.newer ≡ slice_set t.newer (first_of none cs) w) (older : t'.older ≡ slice_set t.older w (first_of none cs)) where
  pub newer_kept : (y : ℕ) → y ≢ first_of none cs → slice_index t'.newer y ≡ slice_index t.newer y
  newer_kept y n = rw newer (get_or-set_other t.newer (first_of none cs) y w 0 n)

  pub older_kept : (y : ℕ) → y ≢ w → slice_index t'.older y ≡ slice_index t.older y
  older_kept y n = rw older (get_or-set_other t.older w y (first_of none cs) 0 n)

  linked_on : (l : List ℕ) → l ≡ cs → IsLinked none t x l → slice_index t'.newer (first_of none l) ≡ w ⊎ (l ≡ [])
  linked_on [] e c = inr refl
  linked_on (y ∷ l) e c = let f = ap (first_of none) e in inl (rw (newer, ← f) (get_or-set_same t.newer y w 0 c.0))

  pub unlinked : (b : ℕ) (fs : List ℕ) → ((y : ℕ) → times y (fs ++ w ∷ x ∷ cs) ≤ 1) → IsLinked none t b (fs ++ w ∷ x ∷ cs) → IsLinked none t' b (fs ++ w ∷ cs)
  unlinked b [] o c =
      let long : length t'.newer ≡ length t.newer = rw newer (length-set t.newer (first_of none cs) w) in
      let alone : times w cs ≡ 0 = omega (arith, o w, one-same w) in (
        omega (arith, c.0),
        newer_kept w (not_first w cs (omega (arith, c.0)) alone) ∙ c.1,
        rw older (get_or-set_same t.older w (first_of none cs) 0 (omega (arith, c.0))),
        led none t t' long x w cs (λ y. omega (arith, o y)) (linked_on cs refl c.3.3) (λ y a n. newer_kept y n) (λ y a. older_kept y (λ e. let q = ap (λ i. times i cs) e in omega arith)) c.3.3,
      )
  unlinked b (f ∷ fs) o c =
      let long : length t'.newer ≡ length t.newer = rw newer (length-set t.newer (first_of none cs) w) in
      let alone : times f fs + (times f (w ∷ []) + (times f (x ∷ []) + times f cs)) ≡ 0 = omega (arith, o f, one-same f, times-join f fs (w ∷ x ∷ cs)) in (
        omega (arith, c.0),
        newer_kept f (not_first f cs (omega (arith, c.0)) (omega arith)) ∙ c.1,
        older_kept f (λ e. let q = ap (λ i. times i (w ∷ [])) e in omega (arith, one-same w)) ∙ c.2 ∙ first_same none w x cs fs,
        unlinked f fs (λ y. omega (arith, o y)) c.3,
      )

pub tail_next : {none : ℕ} {t : BinCells} {name n total : ℕ} → IsTail none t name n total → name ≢ none → (name < length t.newer) × (n < total)
    × IsTail none t (slice_index t.older name) (n + 1) total
tail_next {none} {t} {name} {n} {total} s ne = go s.names s.before s.links s.is s.counted
  where
    go : (xs : List ℕ) (b : ℕ) → IsLinked none t b xs → name ≡ first_of none xs → n + length xs ≡ total → (name < length t.newer) × (n < total)
        × IsTail none t (slice_index t.older name) (n + 1) total
    go [] b c e l = absurd (ne e)
    go (x ∷ xs) b c e l = (omega (arith, c.0), omega arith, record { before = x; names = xs; links = c.3; is = ap (slice_index t.older) e ∙ c.2; counted = omega arith })

pub tail_end : {none : ℕ} {t : BinCells} {name n total : ℕ} → length t.newer ≤ none → IsTail none t name n total → name ≡ none → n ≡ total
tail_end {none} {t} {name} {n} {total} small s e = go s.names s.before s.links s.is s.counted
  where
    go : (xs : List ℕ) (b : ℕ) → IsLinked none t b xs → name ≡ first_of none xs → n + length xs ≡ total → n ≡ total
    go [] b c f l = omega arith
    go (x ∷ xs) b c f l = absurd (omega (arith, c.0))
