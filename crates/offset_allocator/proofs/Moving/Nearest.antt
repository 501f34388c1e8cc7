-- The newest blocks of the first bins, and which of them is the first in space.
use Rattle.offset_allocator.proofs.Common.{◌≡◌, ℕ, zero, suc, ◌+◌, ◌<◌, ◌≤◌, ◌^◌, ◌⊎◌, inl, inr, List, [], ◌∷◌, ◌++◌, length, drop, Some, None, nat_eq, unwrap_or, refl, sym, ap, ◌∙◌, arith}
use Rattle.offset_allocator.proofs.Common.{lt-ltb, Block, Place, one, units, times, count_named, bin_at, last_or}
use Rattle.offset_allocator.proofs.{Linking.Ends.Ended, Linking.Ends.ended, Tallies.hit_cases, Tallies.one-same, Tallies.one-eq, Tallies.times-append, Tallies.times-join, Tallies.units-append}
use Rattle.offset_allocator.specs.Moving.Compacting.{newest, first_among, until}

pub newest_few : (k : ℕ) (bins : List (List ℕ)) → length (newest k bins) ≤ k
newest_few zero bins = omega arith
newest_few (suc k) [] = omega arith
newest_few (suc k) ([] ∷ bins) = newest_few (suc k) bins
newest_few (suc k) ((x ∷ xs) ∷ bins) = let ih = newest_few k bins in omega arith

-- the first bin that has some
newest_found : (k : ℕ) (bins : List (List ℕ)) (c d x : ℕ) (xs : List ℕ) → c ≤ d → d < length bins → ((e : ℕ) → c ≤ e → e < d → bin_at bins e ≡ [])
    → bin_at bins d ≡ x ∷ xs → newest (suc k) (drop c bins) ≡ x ∷ newest k (drop (suc d) bins)
newest_found k [] c d x xs l h none some = absurd (omega arith)
newest_found k (bin ∷ bins) (suc c) zero x xs l h none some = absurd (omega arith)
newest_found k (bin ∷ bins) (suc c) (suc d) x xs l h none some = newest_found k bins c d x xs (omega arith) (omega arith) (λ e a b. none (suc e) (omega arith) (omega arith)) some
newest_found k (bin ∷ bins) zero zero x xs l h none some = rw some refl
newest_found k (bin ∷ bins) zero (suc d) x xs l h none some =
    let empty : bin ≡ [] = none 0 (omega arith) (omega arith) in
    rw empty (newest_found k bins 0 d x xs (omega arith) (omega arith) (λ e a b. none (suc e) (omega arith) (omega arith)) some)

pub newest_next : (k : ℕ) (bins : List (List ℕ)) (c d x : ℕ) (xs : List ℕ) → c ≤ d → d < length bins → ((e : ℕ) → c ≤ e → e < d → bin_at bins e ≡ [])
    → bin_at bins d ≡ x ∷ xs → newest (suc k) (drop c bins) ≡ x ∷ newest k (drop (d + 1) bins)
newest_next k bins c d x xs l h none some =
    let e : suc d ≡ d + 1 = omega arith in
    newest_found k bins c d x xs l h none some ∙ ap (λ n. x ∷ newest k (drop n bins)) e

-- no bin that has some
pub newest_none : (k : ℕ) (bins : List (List ℕ)) (c : ℕ) → ((e : ℕ) → c ≤ e → e < length bins → bin_at bins e ≡ []) → newest k (drop c bins) ≡ []
newest_none zero bins c none = refl
newest_none (suc k) [] zero none = refl
newest_none (suc k) [] (suc c) none = refl
newest_none (suc k) (bin ∷ bins) (suc c) none = newest_none (suc k) bins c (λ e a b. none (suc e) (omega arith) (omega arith))
newest_none (suc k) (bin ∷ bins) zero none =
    let empty : bin ≡ [] = none 0 (omega arith) (omega arith) in
    rw empty (newest_none (suc k) bins 0 (λ e a b. none (suc e) (omega arith) (omega arith)))

-- what is before a block that begins earlier is before one that begins later
fewer_before : (f g h k : List Block) (a b : Block) → f ++ (a ∷ h) ≡ g ++ (b ∷ k) → units f < units g → (x : ℕ) → count_named x f ≤ count_named x g
fewer_before [] g h k a b e l x = omega arith
fewer_before (c ∷ f) [] h k a b e l x = absurd (omega arith)
fewer_before (c ∷ f) (d ∷ g) h k a b e l x =
    let same : c ≡ d = cc in
    let rest : f ++ (a ∷ h) ≡ g ++ (b ∷ k) = cc in
    let ih = fewer_before f g h k a b rest (omega (arith, l, ap (λ (z : Block). z.size) same)) x in
    omega (arith, ih, ap (λ (z : Block). one (nat_eq x z.name)) same)

-- a block that is before another ends before that one begins
ends_before : (f g h k : List Block) (a b : Block) → f ++ (a ∷ h) ≡ g ++ (b ∷ k) → count_named a.name (f ++ (a ∷ h)) ≤ 1 → 1 ≤ count_named a.name g → units f + a.size ≤ units g
ends_before f [] h k a b e m n = absurd (omega arith)
ends_before [] (d ∷ g) h k a b e m n = let same : a ≡ d = cc in omega (arith, ap (λ (z : Block). z.size) same)
ends_before (c ∷ f) (d ∷ g) h k a b e m n =
    let same : c ≡ d = cc in
    let rest : f ++ (a ∷ h) ≡ g ++ (b ∷ k) = cc in
    let t = times-append a.name f (a ∷ h) in
    let s = one-same a.name in
    let ih = ends_before f g h k a b rest (omega (arith, m)) (omega (arith, n, m, t, s, ap (λ (z : Block). one (nat_eq a.name z.name)) same)) in
    omega (arith, ih, ap (λ (z : Block). z.size) same)

-- of the blocks with these names the first in space
pub record IsFirstOf (seen : List ℕ) (bs : List Block) (start lowest : ℕ) : Type 0 where
  pub place : Place
  pub is : bs ≡ place.before ++ (place.block ∷ place.after)
  pub name : place.block.name ≡ start
  pub among : 1 ≤ times start seen
  pub alone : (x : ℕ) → 1 ≤ count_named x place.before → times x seen ≡ 0
  pub offset : lowest ≡ units place.before

-- the search begins at that, or, before it has met one, at the last block
abbrev pub BeginsAt : List ℕ → List Block → ℕ → ℕ → ℕ → Type 0
BeginsAt seen bs last start lowest = ((seen ≡ []) × (start ≡ last) × (2 ^ 32 ≤ lowest)) ⊎ IsFirstOf seen bs start lowest

among_none : (bs : List Block) → first_among [] bs ≡ None
among_none [] = refl
among_none (b ∷ bs) = among_none bs

among_first : (seen : List ℕ) (before : List Block) (b : Block) (after : List Block) → 1 ≤ times b.name seen → ((x : ℕ) → 1 ≤ count_named x before → times x seen ≡ 0)
    → first_among seen (before ++ (b ∷ after)) ≡ Some b.name
among_first seen [] b after l none = let t = lt-ltb 0 (times b.name seen) (omega arith) in rw t refl
among_first seen (d ∷ before) b after l none =
    let z : times d.name seen ≡ 0 = none d.name (omega (arith, one-same d.name)) in
    rw z (among_first seen before b after l (λ x n. none x (omega arith)))

-- so it begins where it should
pub begins : (seen : List ℕ) (bs : List Block) (last start lowest : ℕ) → BeginsAt seen bs last start lowest → start ≡ unwrap_or (first_among seen bs) last
begins seen bs last start lowest (inl e) = e.1 ∙ sym (ap (λ xs. unwrap_or (first_among xs bs) last) e.0 ∙ ap (λ o. unwrap_or o last) (among_none bs))
begins seen bs last start lowest (inr f) =
    let p : Place = f.place in
    let first = among_first seen p.before p.block p.after (omega (arith, f.among, ap (λ x. times x seen) f.name)) f.alone in
    sym (ap (λ o. unwrap_or o last) (ap (first_among seen) f.is ∙ first) ∙ f.name)

-- a list has each name at most as often as it is long
times_few : (x : ℕ) (xs : List ℕ) → times x xs ≤ length xs
times_few x [] = omega arith
times_few x (y ∷ ys) =
    let ih = times_few x ys in
    elim (hit_cases x y) [ inl h ↦ omega (arith, ih, h.1) | inr h ↦ omega (arith, ih, h.1) ]

-- one more block is met: it begins earlier, or it does not
module _ (seen : List ℕ) (bs : List Block) (last start lowest : ℕ) (distinct : (x : ℕ) → count_named x bs ≤ 1) (q : Place) (is : bs ≡ q.before ++ (q.block ∷ q.after)) where
  there : count_named q.block.name q.before ≡ 0
  there = omega (arith, distinct q.block.name, ap (count_named q.block.name) is, times-append q.block.name q.before (q.block ∷ q.after), one-same q.block.name)

  others : (x : ℕ) → 1 ≤ count_named x q.before → times x (q.block.name ∷ []) ≡ 0
  others x n = elim (hit_cases x q.block.name) [
    | inl h ↦ absurd (omega (arith, n, there, ap (λ y. count_named y q.before) h.0))
    | inr h ↦ omega (arith, h.1)
  ]

  earlier : BeginsAt seen bs last start lowest → units q.before < lowest → BeginsAt (seen ++ (q.block.name ∷ [])) bs last q.block.name (units q.before)
  earlier b l = inr (record {
    place = q;
    is = is;
    name = refl;
    among = omega (arith, times-join q.block.name seen (q.block.name ∷ []), one-same q.block.name);
    alone = λ x n. omega (arith, times-join x seen (q.block.name ∷ []), others x n, unseen b x n);
    offset = refl;
  })
    where
      unseen : BeginsAt seen bs last start lowest → (x : ℕ) → 1 ≤ count_named x q.before → times x seen ≡ 0
      unseen (inl e) x n = ap (times x) e.0
      unseen (inr f) x n =
          let p : Place = f.place in
          f.alone x (omega (arith, n, fewer_before q.before p.before q.after p.after q.block p.block (sym is ∙ f.is) (omega (arith, l, f.offset)) x))

  later : BeginsAt seen bs last start lowest → lowest ≤ units q.before → units bs < 2 ^ 32 → (1 ≤ length seen → 1 ≤ q.block.size) → BeginsAt (seen ++ (q.block.name ∷ [])) bs last start lowest
  later (inl e) l fits some = absurd (omega (arith, l, e.2, fits, ap units is, units-append q.before (q.block ∷ q.after)))
  later (inr f) l fits some = inr (record {
    place = f.place;
    is = f.is;
    name = f.name;
    among = omega (arith, f.among, times-join start seen (q.block.name ∷ []));
    alone = λ x n. omega (arith, times-join x seen (q.block.name ∷ []), f.alone x n, unlike x n);
    offset = f.offset;
  })
    where
      unlike : (x : ℕ) → 1 ≤ count_named x f.place.before → times x (q.block.name ∷ []) ≡ 0
      unlike x n = elim (hit_cases x q.block.name) [
        | inl h ↦ absurd (
            let p : Place = f.place in
            let e = ends_before q.before p.before q.after p.after q.block p.block (sym is ∙ f.is) (omega (arith, distinct q.block.name, ap (count_named q.block.name) is))
            (omega (arith, n, ap (λ y. count_named y p.before) h.0)) in
            omega (arith, e, some (omega (arith, f.among, times_few start seen)), l, f.offset)
            )
        | inr h ↦ omega (arith, h.1)
      ]

  -- the same, as code has it
  pub earlier_at : BeginsAt seen bs last start lowest → (x n s l : ℕ) → q.block.name ≡ x → n ≡ units q.before → s ≡ x → l ≡ n → n < lowest → BeginsAt (seen ++ (x ∷ [])) bs last s l
  earlier_at b x n s l e f g h k = rw (g, h, f, ← e) (earlier b (omega (arith, k, f)))

  pub later_at : BeginsAt seen bs last start lowest → (x n s l : ℕ) → q.block.name ≡ x → n ≡ units q.before → s ≡ start → l ≡ lowest → lowest ≤ n → units bs < 2 ^ 32
      → (1 ≤ length seen → 1 ≤ q.block.size) → BeginsAt (seen ++ (x ∷ [])) bs last s l
  later_at b x n s l e f g h k fits some = rw (g, h, ← e) (later b (omega (arith, k, f)) fits some)

-- how many blocks there are up to the last of some
pub until_last : (front rest : List Block) (x : ℕ) → last_or None front ≡ Some x → count_named x (front ++ rest) ≤ 1 → until x (front ++ rest) ≡ length front
until_last front rest x e distinct =
    let f : Ended x front = ended front x e in
    ap (λ (l : List Block). until x (l ++ rest)) f.is ∙ go f.front f.last rest f.name (omega (arith, distinct, ap (λ (l : List Block). count_named x (l ++ rest)) f.is))
    ∙ sym (ap (λ (l : List Block). length l) f.is)
  where
    go : (fs : List Block) (b : Block) (rest : List Block) → b.name ≡ x → count_named x ((fs ++ (b ∷ [])) ++ rest) ≤ 1 → until x ((fs ++ (b ∷ [])) ++ rest) ≡ length (fs ++ (b ∷ []))
    go [] b rest n d = elim (hit_cases x b.name) [ inl h ↦ grind arith | inr h ↦ absurd (h.0 (sym n)) ]
    go (a ∷ fs) b rest n d =
        elim (hit_cases x a.name) [
          | inl h ↦ absurd (omega (arith, d, h.1, times-append x (fs ++ (b ∷ [])) rest, times-append x fs (b ∷ []), one-eq x b.name n))
          | inr h ↦ grind
              (arith, go fs b rest n (omega (arith, d)))
        ]
