-- Names that are freed one by one: the blocks, and the bins.
use Rattle.offset_allocator.proofs.{Linking.Exchange.Wrote, Linking.Exchange.wrote, Linking.Exchange.each-le, Tallies.one-other, Tallies.one-eq, Tallies.listed_named, Classes.down_small}
use Rattle.offset_allocator.proofs.{Common.true≢false, Common.not-true, Saving.StateWords.count-freed, Saving.StateWords.units-freed, Saving.StateWords.length-freed}
use Rattle.offset_allocator.proofs.Common.{◌≡◌, ℕ, zero, suc, ◌+◌, ◌<◌, ◌≤◌, Bool, true, false, not, ◌&&◌, Option, None, Some, List, [], ◌∷◌, length, get_or, refl, sym, ap, ap₂, ◌∙◌, arith, cases_eq}
use Rattle.offset_allocator.proofs.Common.{cases_lt, drop, ◌-◌, ◌⊎◌, inl, inr, eq-eqb, ne_eqb, zero-add, get_or-set_same, get_or-set_other, get_or-replicate, length-replicate, length-set, get_or_past}
use Rattle.offset_allocator.proofs.Common.{down, ChainCells, Node, node, put, IsRow, IsChain, first_or, last_or, Block, count_named, count_in_bin, one, times, nat_eq, bin_at, if◌then◌else◌}
use Rattle.offset_allocator.specs.Saving.State.{freed, filed, is_among, size_named}
use Rattle.std.proofs.Math.Seq.{drop-cons}
use Rattle.std.specs.Prelude.{◌||◌}

pub first-freed : (q : Option ℕ) (xs : List ℕ) (bs : List Block) → first_or q (freed xs bs) ≡ first_or q bs
first-freed q xs [] = refl
first-freed q xs (b ∷ bs) = refl

pub last-freed : (p : Option ℕ) (xs : List ℕ) (bs : List Block) → last_or p (freed xs bs) ≡ last_or p bs
last-freed p xs [] = refl
last-freed p xs (b ∷ bs) = last-freed (Some b.name) xs bs

pub bool_cases : (b : Bool) → (b ≡ true) ⊎ (b ≡ false)
bool_cases true = inl refl
bool_cases false = inr refl

-- one name more
module _ {c d : ChainCells} {x : ℕ} (w : Wrote c d x (record (node c x) { used = false })) (xs : List ℕ) where
  pub row_freed : (p : Option ℕ) (o : ℕ) (bs : List Block) (q : Option ℕ) → IsRow c p o (freed xs bs) q → IsRow d p o (freed (x ∷ xs) bs) q
  row_freed p o [] q h = tt
  row_freed p o (b ∷ bs) q h = (
    elim (cases_eq b.name x) [
      | inl e ↦
          let hit : nat_eq b.name x ≡ true = eq-eqb b.name x e in
          ap (node d) e ∙ w.here ∙ ap (λ i. record (node c i) { used = false }) (sym e) ∙ ap (λ (n : Node). record n { used = false }) h.0
          ∙ ap₂ (λ (u : Bool) (f : Option ℕ). record { offset = o; size = b.size; used = u; before = p; after = f }) (ap (λ t. not (t || is_among b.name xs)) (sym hit)) (first-freed q xs bs
          ∙ sym (first-freed q (x ∷ xs) bs))
      | inr ne ↦
          let miss : nat_eq b.name x ≡ false = ne_eqb b.name x ne in
          w.other b.name ne ∙ h.0
          ∙ ap₂ (λ (u : Bool) (f : Option ℕ). record { offset = o; size = b.size; used = u; before = p; after = f }) (ap (λ t. not (t || is_among b.name xs)) (sym miss)) (first-freed q xs bs
          ∙ sym (first-freed q (x ∷ xs) bs))
    ],
    row_freed (Some b.name) (o + b.size) bs q h.1,
  )

pub chain_freed : {c d : ChainCells} {m last count x : ℕ} (xs : List ℕ) (bs : List Block) → IsChain c m last count (freed xs bs) → count_named x bs ≡ 1 → x < length c.nodes
    → d ≡ put c x (record (node c x) { used = false }) → IsChain d m last count (freed (x ∷ xs) bs)
chain_freed {c} {d} {m} {last} {count} {x} xs bs h there l e =
    let w : Wrote c d x (record (node c x) { used = false }) = wrote e l in
    let counts : (k : ℕ) → count_named k (freed (x ∷ xs) bs) ≡ count_named k (freed xs bs) = λ k. count-freed k (x ∷ xs) bs ∙ sym (count-freed k xs bs) in
    let long : length (freed (x ∷ xs) bs) ≡ length (freed xs bs) = length-freed (x ∷ xs) bs ∙ sym (length-freed xs bs) in
    record {
      memory = w.memory ∙ h.memory;
      within = omega (arith, w.cells, h.within);
      stack = ap length w.spare ∙ h.stack ∙ sym w.cells;
      row = row_freed w xs None 0 bs None h.row;
      ends = last-freed None (x ∷ xs) bs ∙ sym (last-freed None xs bs) ∙ h.ends;
      each = λ k. rw (counts k, w.spare, w.cells) (h.each k);
      idle = λ k gone. elim (cases_eq k x) [
        | inl q ↦ absurd (omega (arith, gone, counts k, count-freed k xs bs, there, ap (λ i. count_named i bs) q))
        | inr ne ↦ ap (λ (n : Node). n.used) (w.other k ne) ∙ h.idle k (sym (counts k) ∙ gone)
      ];
      full = omega (arith, long, h.full, w.cells);
      fits = omega (arith, h.fits, units-freed (x ∷ xs) bs, units-freed xs bs);
    }

-- whether a name is listed, and how often
pub among_times : (x : ℕ) (xs : List ℕ) → times x xs ≡ 0 → is_among x xs ≡ false
among_times x [] e = refl
among_times x (y ∷ ys) e = elim (cases_eq x y) [
  | inl q ↦ absurd (omega (arith, e, one-eq x y (sym q)))
  | inr ne ↦ ap₂ (λ (s t : Bool). s || t) (ne_eqb x y ne) (among_times x ys (omega (arith, e)))
]

pub times_among : (x : ℕ) (xs : List ℕ) → is_among x xs ≡ false → times x xs ≡ 0
times_among x [] e = refl
times_among x (y ∷ ys) e = elim (cases_eq x y) [
  | inl q ↦ absurd (cc (ap (λ t. t || is_among x ys) (eq-eqb x y q)))
  | inr ne ↦ omega (arith, one-other x y ne, times_among x ys (ap (λ t. t || is_among x ys) (sym (ne_eqb x y ne)) ∙ e))
]

-- the use of a block of a row
pub use_freed : (c : ChainCells) (x : ℕ) (xs : List ℕ) (p : Option ℕ) (o : ℕ) (bs : List Block) (q : Option ℕ) → IsRow c p o (freed xs bs) q → 1 ≤ count_named x bs
    → ((node c x).used ≡ not (is_among x xs)) × ((node c x).size ≡ size_named x bs)
use_freed c x xs p o [] q h there = absurd (omega (arith, there))
use_freed c x xs p o (b ∷ bs) q h there = elim (cases_eq x b.name) [
  | inl e ↦ (
    ap (λ i. (node c i).used) e ∙ ap (λ (n : Node). n.used) h.0 ∙ ap (λ i. not (is_among i xs)) (sym e),
    ap (λ i. (node c i).size) e ∙ ap (λ (n : Node). n.size) h.0 ∙ ap (λ t. if t then b.size else size_named x bs) (sym (eq-eqb x b.name e)),
  )
  | inr ne ↦
      let r = use_freed c x xs (Some b.name) (o + b.size) bs q h.1 (omega (arith, there, one-other x b.name ne)) in
      (r.0, r.1 ∙ ap (λ t. if t then b.size else size_named x bs) (sym (ne_eqb x b.name ne)))
]

-- the bins
pub length-filed : (bs : List Block) (xs : List ℕ) → length (filed bs xs) ≡ 256
length-filed bs [] = length-replicate {A = List ℕ} 256 []
length-filed bs (x ∷ xs) = length-set (filed bs xs) _ _ ∙ length-filed bs xs

pub times-filed : (y c : ℕ) (bs : List Block) (xs : List ℕ) → c < 256 → times y (bin_at (filed bs xs) c) ≤ times y xs
times-filed y c bs [] l = omega (arith, ap (times y) (get_or-replicate 256 c [] [] l))
times-filed y c bs (x ∷ xs) l =
    let h = times-filed y c bs xs l in
    let k : ℕ = down (size_named x bs) in
    elim (cases_eq c k) [
      | inl e ↦
          let at : bin_at (filed bs (x ∷ xs)) c ≡ x ∷ bin_at (filed bs xs) c =
          ap (bin_at (filed bs (x ∷ xs))) e ∙ get_or-set_same (filed bs xs) k (x ∷ bin_at (filed bs xs) k) [] (omega (arith, length-filed bs xs, l, e))
          ∙ ap (λ i. x ∷ bin_at (filed bs xs) i) (sym e) in
          omega (arith, h, ap (times y) at)
      | inr ne ↦ omega (arith, h, ap (times y) (get_or-set_other (filed bs xs) k c (x ∷ bin_at (filed bs xs) k) [] ne))
    ]

-- the names from a place on
pub drop_at : (ws : List ℕ) (i n : ℕ) → n + i + 1 ≡ length ws → drop (length ws - (i + 1)) ws ≡ get_or ws n 0 ∷ drop (length ws - i) ws
drop_at ws i n e =
    let a : length ws - (i + 1) ≡ n = omega (arith, e) in
    let b : length ws - i ≡ suc n = omega (arith, e) in
    ap (λ k. drop k ws) a ∙ drop-cons ws n 0 (omega (arith, e)) ∙ ap (λ k. get_or ws n 0 ∷ drop k ws) (sym b)

pub times_drop : (x n : ℕ) (ws : List ℕ) → times x (drop n ws) ≤ times x ws
times_drop x zero ws = omega arith
times_drop x (suc n) [] = omega arith
times_drop x (suc n) (y ∷ ws) = omega (arith, times_drop x n ws)

-- a used name: of one block, and not freed so far
pub used_now : {c : ChainCells} {m last count : ℕ} (x : ℕ) (xs : List ℕ) (bs : List Block) → IsChain c m last count (freed xs bs) → (node c x).used ≡ true
    → (count_named x bs ≡ 1) × (times x xs ≡ 0) × ((node c x).size ≡ size_named x bs)
used_now {c} {m} {last} {count} x xs bs h used =
    let small = each-le c m last count (freed xs bs) h x in
    let there : 1 ≤ count_named x bs = elim (cases_eq (count_named x bs) 0) [
      | inl z ↦ absurd (true≢false (sym used ∙ h.idle x (count-freed x xs bs ∙ z)))
      | inr n ↦ omega arith
    ] in
    let u = use_freed c x xs None 0 bs None h.row there in
    (omega (arith, there, small, count-freed x xs bs), times_among x xs (not-true (is_among x xs) (sym u.0 ∙ used)), u.1)

pub unused_now : {c : ChainCells} {m last count : ℕ} (x : ℕ) (xs : List ℕ) (bs : List Block) → IsChain c m last count (freed xs bs) → (node c x).used ≡ false → 1 ≤ count_named x bs → 1 ≤ times x xs
unused_now {c} x xs bs h idle there = elim (cases_eq (times x xs) 0) [
  | inl z ↦ absurd (true≢false (ap not (sym (among_times x xs z)) ∙ sym (use_freed c x xs None 0 bs None h.row there).0 ∙ idle))
  | inr n ↦ omega arith
]

-- how often a name is in a bin
pub times_of_bin : (y c : ℕ) (bs : List Block) (xs : List ℕ) → c < 256 → times y (bin_at (filed bs xs) c) ≡ (if nat_eq c (down (size_named y bs)) then times y xs else 0)
times_of_bin y c bs [] l = ap (times y) (get_or-replicate 256 c [] [] l) ∙ same (nat_eq c (down (size_named y bs))) 0
  where
    same : (t : Bool) (n : ℕ) → n ≡ (if t then n else n)
    same true n = refl
    same false n = refl
times_of_bin y c bs (x ∷ xs) l =
    let h = times_of_bin y c bs xs l in
    let k : ℕ = down (size_named x bs) in
    elim (cases_eq c k) [
      | inl e ↦
          let at : bin_at (filed bs (x ∷ xs)) c ≡ x ∷ bin_at (filed bs xs) c =
          ap (bin_at (filed bs (x ∷ xs))) e ∙ get_or-set_same (filed bs xs) k (x ∷ bin_at (filed bs xs) k) [] (omega (arith, length-filed bs xs, l, e))
          ∙ ap (λ i. x ∷ bin_at (filed bs xs) i) (sym e) in
          elim (cases_eq y x) [
            | inl q ↦
                let hit : nat_eq c (down (size_named y bs)) ≡ true = eq-eqb _ _ (e ∙ ap (λ i. down (size_named i bs)) (sym q)) in
                ap (times y) at ∙ ap (λ n. one (nat_eq y x) + n) (h ∙ ap (λ t. if t then times y xs else 0) hit) ∙ ap (λ t. if t then one (nat_eq y x) + times y xs else 0) (sym hit)
            | inr ne ↦
                let rest : times y (x ∷ xs) ≡ times y xs = omega (arith, one-other y x ne) in
                ap (times y) at ∙ ap (λ n. n + times y (bin_at (filed bs xs) c)) (one-other y x ne) ∙ zero-add (times y (bin_at (filed bs xs) c)) ∙ h
                ∙ ap (λ n. if nat_eq c (down (size_named y bs)) then n else 0) (sym rest)
          ]
      | inr ne ↦
          let at = ap (times y) (get_or-set_other (filed bs xs) k c (x ∷ bin_at (filed bs xs) k) [] ne) in
          elim (cases_eq y x) [
            | inl q ↦
                let miss : nat_eq c (down (size_named y bs)) ≡ false = ne_eqb _ _ (λ r. ne (r ∙ ap (λ i. down (size_named i bs)) q)) in
                at ∙ h ∙ ap (λ t. if t then times y xs else 0) miss ∙ ap (λ t. if t then one (nat_eq y x) + times y xs else 0) (sym miss)
            | inr nq ↦ let rest : times y (x ∷ xs) ≡ times y xs = omega (arith, one-other y x nq) in at ∙ h ∙ ap (λ n. if nat_eq c (down (size_named y bs)) then n else 0) (sym rest)
          ]
    ]

-- how often a free block of a class has the name
pub counts_of_bin : (y c : ℕ) (xs : List ℕ) (bs : List Block) → count_named y bs ≤ 1 → times y xs ≤ count_named y bs
    → count_in_bin c y (freed xs bs) ≡ (if nat_eq c (down (size_named y bs)) then times y xs else 0)
counts_of_bin y c xs [] small l = same (nat_eq c (down 0)) (omega (arith, l))
  where
    same : (t : Bool) → times y xs ≡ 0 → 0 ≡ (if t then times y xs else 0)
    same true e = sym e
    same false e = refl
counts_of_bin y c xs (b ∷ bs) small l = elim (cases_eq y b.name) [
  | inl e ↦
      let hit : nat_eq y b.name ≡ true = eq-eqb y b.name e in
      let rest : count_in_bin c y (freed xs bs) ≡ 0 = omega (arith, listed_named c y (freed xs bs), count-freed y xs bs, small, one-eq y b.name (sym e)) in
      let listed : one (is_among b.name xs) ≡ times y xs = ap (λ i. one (is_among i xs)) (sym e) ∙ one_among y xs (omega (arith, l, small)) in
      let sized : size_named y (b ∷ bs) ≡ b.size = ap (λ t. if t then b.size else size_named y bs) hit in
      ap (λ n. one (not (not (is_among b.name xs)) && (nat_eq c (down b.size) && nat_eq y b.name)) + n) rest
      ∙ chosen (is_among b.name xs) (nat_eq c (down b.size)) (nat_eq y b.name) hit (times y xs) listed
      ∙ ap (λ n. if nat_eq c (down n) then times y xs else 0) (sym sized)
  | inr ne ↦
      let miss : nat_eq y b.name ≡ false = ne_eqb y b.name ne in
      let sized : size_named y (b ∷ bs) ≡ size_named y bs = ap (λ t. if t then b.size else size_named y bs) miss in
      let h = counts_of_bin y c xs bs (omega (arith, small, one-other y b.name ne)) (omega (arith, l, one-other y b.name ne)) in
      ap (λ n. n + count_in_bin c y (freed xs bs)) (missed (not (not (is_among b.name xs))) (nat_eq c (down b.size)) (nat_eq y b.name) miss) ∙ zero-add (count_in_bin c y (freed xs bs)) ∙ h
      ∙ ap (λ n. if nat_eq c (down n) then times y xs else 0) (sym sized)
]
  where
    one_among : (y : ℕ) (xs : List ℕ) → times y xs ≤ 1 → one (is_among y xs) ≡ times y xs
    one_among y xs l = elim (cases_eq (times y xs) 0) [
      | inl z ↦ ap one (among_times y xs z) ∙ sym z
      | inr n ↦ elim (bool_cases (is_among y xs)) [ inl t ↦ ap one t ∙ omega (arith, n, l) | inr f ↦ absurd (n (times_among y xs f)) ]
    ]

    chosen : (a k h : Bool) → h ≡ true → (n : ℕ) → one a ≡ n → one (not (not a) && (k && h)) + 0 ≡ (if k then n else 0)
    chosen true true h e n q = ap (λ t. one t + 0) e ∙ omega (arith, q)
    chosen true false h e n q = refl
    chosen false true h e n q = q
    chosen false false h e n q = refl

    missed : (a k h : Bool) → h ≡ false → one (a && (k && h)) ≡ 0
    missed true true h e = ap one e
    missed true false h e = refl
    missed false k h e = refl

pub counts_past : (y c : ℕ) (bs : List Block) → 256 ≤ c → count_in_bin c y bs ≡ 0
counts_past y c [] l = refl
counts_past y c (b ∷ bs) l = omega (arith, counts_past y c bs l, missed (not b.used) (nat_eq c (down b.size)) (nat_eq y b.name) (ne_eqb c (down b.size) (λ q. omega (arith, q, l, down_small b.size))))
  where
    missed : (a k h : Bool) → k ≡ false → one (a && (k && h)) ≡ 0
    missed true true h e = absurd (true≢false e)
    missed true false h e = refl
    missed false k h e = refl

-- the blocks and the bins agree
pub bins_agree : (bs : List Block) (xs : List ℕ) → ((x : ℕ) → count_named x bs ≤ 1) → ((x : ℕ) → times x xs ≤ count_named x bs) → (c y : ℕ)
    → times y (bin_at (filed bs xs) c) ≡ count_in_bin c y (freed xs bs)
bins_agree bs xs small once c y = elim (cases_lt c 256) [
  | inl l ↦ times_of_bin y c bs xs l ∙ sym (counts_of_bin y c xs bs (small y) (once y))
  | inr g ↦ ap (times y) (get_or_past (filed bs xs) c [] (omega (arith, length-filed bs xs, g))) ∙ sym (counts_past y c (freed xs bs) g)
]

pub size-freed : (x : ℕ) (xs : List ℕ) (bs : List Block) → size_named x (freed xs bs) ≡ size_named x bs
size-freed x xs [] = refl
size-freed x xs (b ∷ bs) = ap (λ n. if nat_eq x b.name then b.size else n) (size-freed x xs bs)
