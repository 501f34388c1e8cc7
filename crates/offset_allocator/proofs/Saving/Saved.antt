-- The names in the bins say which blocks are free, and give the bins.
use Rattle.offset_allocator.proofs.{Saving.Freed.length-filed, Saving.Freed.size-freed, Saving.Freed.bool_cases, Saving.Freed.among_times, Saving.Freed.times_among, Classes.down_small}
use Rattle.offset_allocator.proofs.Common.{◌≡◌, ◌≢◌, ℕ, zero, suc, ◌+◌, ◌-◌, ◌<◌, ◌≤◌, Bool, true, false, not, ◌&&◌, ◌⊎◌, List, [], ◌∷◌, ◌++◌, length, replicate, drop, get_or, set, refl, sym, ap, ap₂}
use Rattle.offset_allocator.proofs.Common.{subst, ◌∙◌, arith, cases_eq, inl, inr, eq-eqb, ne_eqb, length-replicate, append_assoc, append-nil, down, Block, View, IsWellFormed, count_named}
use Rattle.offset_allocator.proofs.Common.{count_in_bin, one, times, nat_eq, bin_at, push, if◌then◌else◌}
use Rattle.offset_allocator.proofs.Tallies.{one-same, one-eq, times-join, times-append, listed_named}
use Rattle.offset_allocator.specs.{Saving.Building.AreOrdered, Saving.State.filed, Saving.State.freed, Saving.State.is_among, Saving.State.size_named}
use Rattle.std.specs.List.{concat}
use Rattle.std.proofs.Math.Seq.{get_or-append_seam, set-append_seam}
use Rattle.std.proofs.lemmas.List.{replicate-append-replicate}

-- a name that only one list has
none_of : (x : ℕ) (ls : List (List ℕ)) → ((k : ℕ) → times x (bin_at ls k) ≡ 0) → times x (concat ls) ≡ 0
none_of x [] h = refl
none_of x (l ∷ ls) h = omega (arith, times-join x l (concat ls), h 0, none_of x ls (λ k. h (suc k)))

only_of : (x k : ℕ) (ls : List (List ℕ)) → k < length ls → ((j : ℕ) → j ≢ k → times x (bin_at ls j) ≡ 0) → times x (concat ls) ≡ times x (bin_at ls k)
only_of x k [] l h = absurd (omega (arith, l))
only_of x zero (l ∷ ls) s h = omega (arith, times-join x l (concat ls), none_of x ls (λ j. h (suc j) (λ e. absurd (omega (arith, e)))))
only_of x (suc k) (l ∷ ls) s h = omega (arith, times-join x l (concat ls), h 0 (λ e. absurd (omega (arith, e))), only_of x k ls (omega (arith, s)) (λ j ne. h (suc j) (λ e. ne (omega (arith, e)))))

-- a block is counted in the class of its size alone
other_class : (c y : ℕ) (bs : List Block) → count_named y bs ≤ 1 → c ≢ down (size_named y bs) → count_in_bin c y bs ≡ 0
other_class c y [] small ne = refl
other_class c y (b ∷ bs) small ne = elim (cases_eq y b.name) [
  | inl e ↦
      let sized : size_named y (b ∷ bs) ≡ b.size = ap (λ t. if t then b.size else size_named y bs) (eq-eqb y b.name e) in
      let rest : count_in_bin c y bs ≡ 0 = omega (arith, listed_named c y bs, small, one-eq y b.name (sym e)) in
      omega (arith, rest, missed (not b.used) (nat_eq c (down b.size)) (nat_eq y b.name) (inl (ne_eqb c (down b.size) (λ q. ne (q ∙ ap down (sym sized))))))
  | inr n ↦
      let sized : size_named y (b ∷ bs) ≡ size_named y bs = ap (λ t. if t then b.size else size_named y bs) (ne_eqb y b.name n) in
      omega (arith, missed (not b.used) (nat_eq c (down b.size)) (nat_eq y b.name) (inr (ne_eqb y b.name n)), other_class c y bs (omega (arith, small)) (λ q. ne (q ∙ ap down (sym sized))))
]
  where
    missed : (a k h : Bool) → (k ≡ false) ⊎ (h ≡ false) → one (a && (k && h)) ≡ 0
    missed false k h e = refl
    missed true k h (inl e) = ap (λ t. one (t && h)) e
    missed true true h (inr e) = ap one e
    missed true false h (inr e) = refl

-- the block itself
at_block : (fs : List Block) (b : Block) (cs : List Block) → count_named b.name (fs ++ b ∷ cs) ≤ 1
    → (size_named b.name (fs ++ b ∷ cs) ≡ b.size) × (count_in_bin (down b.size) b.name (fs ++ b ∷ cs) ≡ one (not b.used))
at_block [] b cs small =
    let rest : count_in_bin (down b.size) b.name cs ≡ 0 = omega (arith, listed_named (down b.size) b.name cs, small, one-same b.name) in
    let hit : nat_eq b.name b.name ≡ true = eq-eqb b.name b.name refl in (
      ap (λ t. if t then b.size else size_named b.name cs) hit,
      ap₂ (λ (s t : Bool). one (not b.used && (s && t)) + count_in_bin (down b.size) b.name cs) (eq-eqb (down b.size) (down b.size) refl) hit ∙ omega (arith, rest, plain (not b.used)),
    )
  where
    plain : (a : Bool) → one (a && (true && true)) ≡ one a
    plain true = refl
    plain false = refl
at_block (f ∷ fs) b cs small = elim (cases_eq b.name f.name) [
  | inl e ↦ absurd (omega (arith, small, one-eq b.name f.name (sym e), times-append b.name fs (b ∷ cs), one-same b.name))
  | inr ne ↦
      let r = at_block fs b cs (omega (arith, small)) in
      let miss : nat_eq b.name f.name ≡ false = ne_eqb b.name f.name ne in
      (ap (λ t. if t then f.size else size_named b.name (fs ++ b ∷ cs)) miss ∙ r.0, omega (arith, missed (not f.used) (nat_eq (down b.size) (down f.size)) (nat_eq b.name f.name) miss, r.1))
]
  where
    missed : (a k h : Bool) → h ≡ false → one (a && (k && h)) ≡ 0
    missed false k h e = refl
    missed true true h e = ap one e
    missed true false h e = refl

-- a place further on in a list of bins
pushed_at : (n : ℕ) (x : ℕ) (l : List ℕ) (ls : List (List ℕ)) → push n x (replicate n [] ++ l ∷ ls) ≡ replicate n [] ++ (x ∷ l) ∷ ls
pushed_at n x l ls =
    let long : length (replicate {A = List ℕ} n []) ≡ n = length-replicate {A = List ℕ} n [] in
    ap₂ (λ (k : ℕ) (m : List ℕ). set (replicate n [] ++ l ∷ ls) k (x ∷ m)) (sym long) (ap (λ k. get_or (replicate n [] ++ l ∷ ls) k []) (sym long) ∙ get_or-append_seam (replicate n []) l ls [])
    ∙ set-append_seam (replicate n []) l ls (x ∷ l)

more_empty : (n : ℕ) (ls : List (List ℕ)) → replicate (n + 1) [] ++ ls ≡ replicate n [] ++ [] ∷ ls
more_empty n ls = ap (λ k. k ++ ls) (sym (replicate-append-replicate n 1 [])) ∙ append_assoc (replicate n []) ([] ∷ []) ls

-- the names of a bin are pushed onto it
filed_bin : (bs : List Block) (n : ℕ) (l xs : List ℕ) (ls : List (List ℕ)) → ((x : ℕ) → 1 ≤ times x l → down (size_named x bs) ≡ n) → filed bs xs ≡ replicate n [] ++ [] ∷ ls
    → filed bs (l ++ xs) ≡ replicate n [] ++ l ∷ ls
filed_bin bs n [] xs ls h e = e
filed_bin bs n (x ∷ l) xs ls h e =
    ap₂ (λ (k : ℕ) (o : List (List ℕ)). push k x o) (h x (omega (arith, one-same x))) (filed_bin bs n l xs ls (λ y s. h y (omega (arith, s))) e) ∙ pushed_at n x l ls

filed_bins : (bs : List Block) (n : ℕ) (ls : List (List ℕ)) → n + length ls ≡ 256 → ((k x : ℕ) → 1 ≤ times x (bin_at ls k) → down (size_named x bs) ≡ n + k)
    → filed bs (concat ls) ≡ replicate n [] ++ ls
filed_bins bs n [] e h = ap (λ (k : ℕ). replicate {A = List ℕ} k []) {x = 256} {y = n} (omega (arith, e)) ∙ sym (append-nil (replicate n []))
filed_bins bs n (l ∷ ls) e h =
    filed_bin bs n l (concat ls) ls (λ x s. h 0 x s ∙ omega arith)
    (filed_bins bs (n + 1) ls (omega (arith, e)) (λ k x s. h (suc k) x s ∙ omega arith) ∙ more_empty n ls)

-- names in the order of bins
pub ordered_below : (bs : List Block) (m n : ℕ) (xs : List ℕ) → m ≤ n → AreOrdered bs n xs → AreOrdered bs m xs
ordered_below bs m n [] l o = tt
ordered_below bs m n (x ∷ xs) l o = (omega (arith, l, o.0), o.1)

-- so are the last of them
pub ordered_drop : (bs : List Block) (n k : ℕ) (xs : List ℕ) → AreOrdered bs n xs → (m : ℕ) × AreOrdered bs m (drop k xs)
ordered_drop bs n zero xs o = (n, o)
ordered_drop bs n (suc k) [] o = (n, tt)
ordered_drop bs n (suc k) (x ∷ xs) o = ordered_drop bs (down (size_named x bs)) k xs o.1

-- those of bins are
ordered_bin : (bs : List Block) (n : ℕ) (l xs : List ℕ) → ((x : ℕ) → 1 ≤ times x l → down (size_named x bs) ≡ n) → AreOrdered bs n xs → AreOrdered bs n (l ++ xs)
ordered_bin bs n [] xs h o = o
ordered_bin bs n (x ∷ l) xs h o =
    let e = h x (omega (arith, one-same x)) in
    (omega (arith, e), subst (λ k. AreOrdered bs k (l ++ xs)) (sym e) (ordered_bin bs n l xs (λ y s. h y (omega (arith, s))) o))

ordered_bins : (bs : List Block) (n : ℕ) (ls : List (List ℕ)) → ((k x : ℕ) → 1 ≤ times x (bin_at ls k) → down (size_named x bs) ≡ n + k) → AreOrdered bs n (concat ls)
ordered_bins bs n [] h = tt
ordered_bins bs n (l ∷ ls) h =
    ordered_bin bs n l (concat ls) (λ x s. h 0 x s ∙ omega arith)
    (ordered_below bs n (n + 1) (concat ls) (omega arith) (ordered_bins bs (n + 1) ls (λ k x s. h (suc k) x s ∙ omega arith)))

-- and they are those of the bins that they give
concat_none : (k : ℕ) (ls : List (List ℕ)) → concat (replicate k [] ++ ls) ≡ concat ls
concat_none zero ls = refl
concat_none (suc k) ls = concat_none k ls

empty_parts : (n k : ℕ) (ls : List (List ℕ)) → n ≤ k → replicate k [] ++ ls ≡ replicate n [] ++ (replicate (k - n) [] ++ ls)
empty_parts n k ls l =
    ap (λ (j : ℕ). replicate {A = List ℕ} j [] ++ ls) {x = k} {y = n + (k - n)} (omega (arith, l)) ∙ ap (λ m. m ++ ls) (sym (replicate-append-replicate n (k - n) []))
    ∙ append_assoc (replicate n []) (replicate (k - n) []) ls

filed_from : (bs : List Block) (n : ℕ) (xs : List ℕ) → n ≤ 256 → AreOrdered bs n xs → (ls : List (List ℕ)) × (filed bs xs ≡ replicate n [] ++ ls) × (concat ls ≡ xs)
filed_from bs n [] l o =
    let all : replicate 256 [] ≡ replicate n [] ++ (replicate (256 - n) [] ++ []) = sym (append-nil (replicate {A = List ℕ} 256 [])) ∙ empty_parts n 256 [] l in
    (replicate (256 - n) [] ++ [], all, concat_none (256 - n) [])
filed_from bs n (x ∷ xs) l o =
    let k : ℕ = down (size_named x bs) in
    let small : k < 256 = down_small (size_named x bs) in
    let r = filed_from bs k xs (omega (arith, small)) o.1 in
    go k small o.0 r.0 r.1 r.2
  where
    go : (k : ℕ) → k < 256 → n ≤ k → (ls : List (List ℕ)) → filed bs xs ≡ replicate k [] ++ ls → concat ls ≡ xs
        → (ms : List (List ℕ)) × (push k x (filed bs xs) ≡ replicate n [] ++ ms) × (concat ms ≡ x ∷ xs)
    go k small m [] e c = absurd (omega (arith, small, length-filed bs xs, ap length e, ap length (append-nil (replicate {A = List ℕ} k [])), length-replicate {A = List ℕ} k []))
    go k small m (y ∷ ls) e c = (
      replicate (k - n) [] ++ (x ∷ y) ∷ ls,
      ap (push k x) e ∙ pushed_at k x y ls ∙ empty_parts n k ((x ∷ y) ∷ ls) m,
      concat_none (k - n) ((x ∷ y) ∷ ls) ∙ ap (λ l. x ∷ l) c,
    )

pub ordered_filed : (bs : List Block) (xs : List ℕ) → AreOrdered bs 0 xs → concat (filed bs xs) ≡ xs
ordered_filed bs xs o = let r = filed_from bs 0 xs (omega arith) o in ap (λ (ls : List (List ℕ)). concat ls) r.1 ∙ r.2

-- blocks of the same words have the same classes
pub ordered_same : (bs cs : List Block) (n : ℕ) (xs : List ℕ) → freed [] bs ≡ freed [] cs → AreOrdered bs n xs → AreOrdered cs n xs
ordered_same bs cs n [] e o = tt
ordered_same bs cs n (x ∷ xs) e o =
    let size : size_named x bs ≡ size_named x cs = sym (size-freed x [] bs) ∙ ap (size_named x) e ∙ size-freed x [] cs in
    (omega (arith, o.0, ap down size), subst (λ k. AreOrdered cs k xs) (ap down size) (ordered_same bs cs (down (size_named x bs)) xs e o.1))

module _ (v : View) (w : IsWellFormed v) where
  -- a name is in the bin of its class alone
  in_class : (x : ℕ) → times x (concat v.bins) ≡ count_in_bin (down (size_named x v.blocks)) x v.blocks
  in_class x =
      only_of x (down (size_named x v.blocks)) v.bins (omega (arith, w.classes, down_small (size_named x v.blocks)))
      (λ j ne. w.binned j x ∙ other_class j x v.blocks (w.distinct x) ne)
      ∙ w.binned (down (size_named x v.blocks)) x

  pub names_once : (x : ℕ) → times x (concat v.bins) ≤ count_named x v.blocks
  names_once x = omega (arith, in_class x, listed_named (down (size_named x v.blocks)) x v.blocks)

  pub names_free : freed (concat v.bins) v.blocks ≡ v.blocks
  names_free = go [] v.blocks refl
    where
      among : (x : ℕ) (u : Bool) → times x (concat v.bins) ≡ one (not u) → not (is_among x (concat v.bins)) ≡ u
      among x true e = ap not (among_times x (concat v.bins) e)
      among x false e = elim (bool_cases (is_among x (concat v.bins))) [ inl t ↦ ap not t | inr f ↦ absurd (omega (arith, e, times_among x (concat v.bins) f)) ]

      go : (fs cs : List Block) → v.blocks ≡ fs ++ cs → freed (concat v.bins) cs ≡ cs
      go fs [] e = refl
      go fs (b ∷ cs) e =
          let r = at_block fs b cs (subst (λ bs. count_named b.name bs ≤ 1) e (w.distinct b.name)) in
          let size : size_named b.name v.blocks ≡ b.size = ap (size_named b.name) e ∙ r.0 in
          let count : times b.name (concat v.bins) ≡ one (not b.used) =
          in_class b.name ∙ ap (λ n. count_in_bin (down n) b.name v.blocks) size ∙ ap (count_in_bin (down b.size) b.name) e ∙ r.1 in
          ap₂ (λ (u : Bool) (l : List Block). record b { used = u } ∷ l) (among b.name b.used count) (go (fs ++ b ∷ []) cs (e ∙ sym (append_assoc fs (b ∷ []) cs)))

  -- the class of a name is that of its bin
  class_of : (k x : ℕ) → 1 ≤ times x (bin_at v.bins k) → down (size_named x v.blocks) ≡ 0 + k
  class_of k x s = elim (cases_eq k (down (size_named x v.blocks))) [
    | inl e ↦ sym e ∙ omega arith
    | inr ne ↦ absurd (omega (arith, s, w.binned k x, other_class k x v.blocks (w.distinct x) ne))
  ]

  pub names_bins : filed v.blocks (concat v.bins) ≡ v.bins
  names_bins = filed_bins v.blocks 0 v.bins (omega (arith, w.classes)) class_of

  pub names_ordered : AreOrdered v.blocks 0 (concat v.bins)
  names_ordered = ordered_bins v.blocks 0 v.bins class_of
