-- The walk along a bin, and the largest of its blocks.
use Rattle.offset_allocator.proofs.{Sound.Fields, Sound.AreSound, Sound.shown, Linking.Rows.node_at, Tallies.units-append, Tallies.hit_cases, Tallies.one-same, Tallies.tally_append, Taken.taken_among}
use Rattle.offset_allocator.proofs.Common.{◌≡◌, ◌≢◌, ℕ, ◌*◌, ◌<◌, ◌≤◌, ◌^◌, true, false, List, [], ◌∷◌, ◌++◌, length, map, max, Some, None, refl, sym, ap, subst, ◌∙◌, inl, inr, arith, append_assoc}
use Rattle.offset_allocator.proofs.Common.{append-nil, get_or_past, length-append, slice_index, cases_lt, value, down, Block, View, units, times, count_in_bin, bin_at, free_sizes, IsWellFormed}
use Rattle.offset_allocator.proofs.Common.{IsFoundLast, HasBins, BinCells, node, IsLinked, first_of, if◌then◌else◌, sum, sum_by-cons, largest, Node, IsRow}
use Rattle.offset_allocator.proofs.Classes.{value_small, value_grows, value_down, near_best, down_law}
use Rattle.offset_allocator.specs.Reporting.Statistics.{greatest}

-- ---- a walk along a bin: the names that were met, and those from this one on
pub record IsWalked (none : ℕ) (t : BinCells) (name : ℕ) (met whole : List ℕ) : Type 0 where
  pub before : ℕ
  pub rest : List ℕ
  pub chain : IsLinked none t before rest
  pub is : name ≡ first_of none rest
  pub parts : whole ≡ met ++ rest

pub walk_begins : {none : ℕ} {t : BinCells} {ls : List (List ℕ)} {c name : ℕ} → HasBins none t ls → c < 256 → name ≡ slice_index t.heads c → IsWalked none t name [] (bin_at ls c)
walk_begins {none} {t} {ls} {c} h l e = record { before = none; rest = bin_at ls c; chain = h.links c l; is = e ∙ h.heads c l; parts = refl }

pub walk_next : {none : ℕ} {t : BinCells} {name : ℕ} {met whole : List ℕ} → IsWalked none t name met whole → name ≢ none → (name < length t.newer) × (length met < length whole)
    × IsWalked none t (slice_index t.older name) (met ++ name ∷ []) whole
walk_next {none} {t} {name} {met} {whole} s ne = go s.rest s.before s.chain s.is s.parts
  where
    go : (xs : List ℕ) (b : ℕ) → IsLinked none t b xs → name ≡ first_of none xs → whole ≡ met ++ xs → (name < length t.newer) × (length met < length whole)
        × IsWalked none t (slice_index t.older name) (met ++ name ∷ []) whole
    go [] b c e w = absurd (ne e)
    go (x ∷ xs) b c e w = (
      omega (arith, e, c.0),
      omega (arith, ap (λ (l : List ℕ). length l) w, length-append met (x ∷ xs)),
      record { before = x; rest = xs; chain = c.3; is = ap (slice_index t.older) e ∙ c.2; parts = rw e (w ∙ sym (append_assoc met (x ∷ []) xs)) },
    )

pub walk_ends : {none : ℕ} {t : BinCells} {name : ℕ} {met whole : List ℕ} → length t.newer ≤ none → IsWalked none t name met whole → name ≡ none → whole ≡ met
walk_ends {none} {t} {name} {met} {whole} small s e = go s.rest s.before s.chain s.is s.parts
  where
    go : (xs : List ℕ) (b : ℕ) → IsLinked none t b xs → name ≡ first_of none xs → whole ≡ met ++ xs → whole ≡ met
    go [] b c f w = w ∙ append-nil met
    go (x ∷ xs) b c f w = absurd (omega (arith, c.0))

-- ---- the largest of some numbers
pub greatest_push : (f : ℕ → ℕ) (xs : List ℕ) (x : ℕ) → greatest (map f (xs ++ x ∷ [])) ≡ max (greatest (map f xs)) (f x)
greatest_push f [] x = grind arith
greatest_push f (y ∷ xs) x = grind (arith, greatest_push f xs x)

member_most : (f : ℕ → ℕ) (x : ℕ) (xs : List ℕ) → 1 ≤ times x xs → f x ≤ greatest (map f xs)
member_most f x [] l = absurd (omega arith)
member_most f x (y ∷ xs) l = elim (hit_cases x y) [
  | inl h ↦ let e = ap f h.0 in grind arith
  | inr h ↦ let ih = member_most f x xs (omega (arith, h.1)) in grind arith
]

pub free_most : (fs : List Block) (b : Block) (cs : List Block) → b.used ≡ false → b.size ≤ greatest (free_sizes (fs ++ b ∷ cs))
free_most [] b cs u = rw u (grind arith)
free_most (a ∷ fs) b cs u = let ih = free_most fs b cs u in
    elim a.used as (λ f. b.size ≤ greatest (if f then free_sizes (fs ++ b ∷ cs) else a.size ∷ free_sizes (fs ++ b ∷ cs))) [ true ↦ ih | false ↦ grind arith ]

pub greatest_within : (ns : List ℕ) → greatest ns ≤ sum ns
greatest_within [] = grind arith
greatest_within (n ∷ ns) = let s = sum_by-cons (λ (i : ℕ). i) n ns in omega (arith, s, greatest_within ns)

-- the largest free block is in the bin of the largest class that has one
module _ (v : View) (w : IsWellFormed v) (f : ℕ → ℕ) (sized : (fs : List Block) (b : Block) (cs : List Block) → v.blocks ≡ fs ++ b ∷ cs → f b.name ≡ b.size)
    (small : (fs : List Block) (b : Block) (cs : List Block) → v.blocks ≡ fs ++ b ∷ cs → b.size < 2 ^ 32) where
  named_most : (c : ℕ) (xs : List ℕ) → ((x : ℕ) → 1 ≤ times x xs → 1 ≤ times x (bin_at v.bins c)) → greatest (map f xs) ≤ greatest (free_sizes v.blocks)
  named_most c [] h = omega arith
  named_most c (x ∷ xs) h =
      let ih = named_most c xs (λ y l. h y (omega (arith, l))) in
      let t = taken_among v w c x (h x (omega (arith, one-same x))) in
      let at : f x ≡ t.place.block.size = ap f (sym t.name) ∙ sized t.place.before t.place.block t.place.after t.list_is in
      let most = subst (λ (bs : List Block). t.place.block.size ≤ greatest (free_sizes bs)) (sym t.list_is) (free_most t.place.before t.place.block t.place.after t.free) in
      grind arith

  module _ (c : ℕ) (last : IsFoundLast v.bins (Some c)) where
    some : (x : ℕ) × (1 ≤ times x (bin_at v.bins c))
    some = go (bin_at v.bins c) last.1
      where
        go : (xs : List ℕ) → (xs ≡ [] → ⊥) → (x : ℕ) × (1 ≤ times x xs)
        go [] n = absurd (n refl)
        go (x ∷ xs) n = (x, omega (arith, one-same x))

    reached : value c ≤ greatest (map f (bin_at v.bins c))
    reached =
        let t = taken_among v w c some.0 some.1 in
        let p = t.place in
        let at : f some.0 ≡ p.block.size = ap f (sym t.name) ∙ sized p.before p.block p.after t.list_is in
        omega (arith, (down_law p.block.size c (small p.before p.block p.after t.list_is)).0 (omega (arith, t.class)), at, member_most f some.0 (bin_at v.bins c) some.1)

    one_most : (fs : List Block) (b : Block) (cs : List Block) → v.blocks ≡ fs ++ b ∷ cs → b.used ≡ false → b.size ≤ greatest (map f (bin_at v.bins c))
    one_most fs b cs e u =
        let listed : 1 ≤ times b.name (bin_at v.bins (down b.size)) = omega (arith, w.binned (down b.size) b.name, ap (count_in_bin (down b.size) b.name) e, counted fs b cs u) in
        elim (cases_lt (down b.size) c) [
          | inl l ↦ elim (cases_lt b.size (value c)) [
            | inl m ↦ omega (arith, m, reached)
            | inr m ↦ absurd (omega (arith, l, (down_law b.size c (small fs b cs e)).1 (omega (arith, m))))
          ]
          | inr l ↦ elim (cases_lt c (down b.size)) [
            | inl m ↦ absurd (omega (arith, listed, ap (times b.name) (above (down b.size) m)))
            | inr m ↦
                let same : down b.size ≡ c = omega (arith, l, m) in
                omega (arith, sized fs b cs e, member_most f b.name (bin_at v.bins c) (subst (λ k. 1 ≤ times b.name (bin_at v.bins k)) same listed))
          ]
        ]
      where
        counted : (fs : List Block) (b : Block) (cs : List Block) → b.used ≡ false → 1 ≤ count_in_bin (down b.size) b.name (fs ++ b ∷ cs)
        counted fs b cs u = grind (arith, tally_append, one-same)

        above : (d : ℕ) → c < d → bin_at v.bins d ≡ []
        above d m = elim (cases_lt d 256) [ inl h ↦ last.2 d m h | inr h ↦ get_or_past v.bins d [] (omega (arith, w.classes, h)) ]

    all_most : (fs bs : List Block) → v.blocks ≡ fs ++ bs → greatest (free_sizes bs) ≤ greatest (map f (bin_at v.bins c))
    all_most fs [] e = omega arith
    all_most fs (b ∷ bs) e =
        let ih = all_most (fs ++ b ∷ []) bs (e ∙ sym (append_assoc fs (b ∷ []) bs)) in
        elim b.used as (λ u. b.used ≡ u → greatest (if u then free_sizes bs else b.size ∷ free_sizes bs) ≤ greatest (map f (bin_at v.bins c))) [
          | true ↦ λ u. ih
          | false ↦ λ u. let l = one_most fs b bs e u in grind arith
        ] refl

    pub largest_names : greatest (map f (bin_at v.bins c)) ≡ greatest (free_sizes v.blocks)
    largest_names = omega (arith, named_most c (bin_at v.bins c) (λ x l. l), all_most [] v.blocks refl)

-- no class of a free block has a value above 0: then each has no units
pub greatest_none : (ns : List ℕ) → sum ns < 2 ^ 32 → largest ns ≡ 0 → greatest ns ≡ 0
greatest_none [] h e = refl
greatest_none (n ∷ ns) h e =
    let s = sum_by-cons (λ (i : ℕ). i) n ns in
    let ih = greatest_none ns (omega (arith, s, h)) (omega (arith, e)) in
    elim (cases_lt 0 n) [
      | inl l ↦ absurd (let one = (down_law n 1 (omega (arith, s, h))).1 (omega (arith, l, value_small 1 (omega arith))) in omega (arith, e, value_grows 1 (down n) one, value_small 1 (omega arith)))
      | inr l ↦ omega (arith, ih, l)
    ]

-- the nodes of a space have the sizes of its blocks
pub node_sized : (it : Fields) → AreSound it → (fs : List Block) (b : Block) (cs : List Block) → (shown it).blocks ≡ fs ++ b ∷ cs → (node it.cells.chain b.name).size ≡ b.size
node_sized it s fs b cs e = ap (λ (n : Node). n.size) (node_at it.cells.chain fs b cs b.name (subst (λ (bs : List Block). IsRow it.cells.chain None 0 bs None) e s.space.row) refl)

pub block_small : (v : View) → IsWellFormed v → (fs : List Block) (b : Block) (cs : List Block) → v.blocks ≡ fs ++ b ∷ cs → b.size < 2 ^ 32
block_small v w fs b cs e = omega (arith, w.whole, w.fits, ap units e, units-append fs (b ∷ cs))

-- the largest block, and the value of its class
pub greatest_near : (ns : List ℕ) → sum ns < 2 ^ 32 → (largest ns ≤ greatest ns) × (8 * greatest ns ≤ 9 * largest ns)
greatest_near [] h = (omega arith, omega arith)
greatest_near (n ∷ ns) h =
    let s = sum_by-cons (λ (i : ℕ). i) n ns in
    let ih = greatest_near ns (omega (arith, s, h)) in
    let low = value_down n in
    let near = near_best n (value (down n)) (omega (arith, s, h)) (omega (arith, s, h, low)) ((down_law (value (down n)) (down n) (omega (arith, s, h, low))).1 (omega arith)) in
    (omega (arith, ih.0, low), omega (arith, ih.1, near))

-- the name that a walk is at is one of its list
pub walk_at : {none : ℕ} {t : BinCells} {name : ℕ} {met whole : List ℕ} → IsWalked none t name met whole → name ≢ none → (rest : List ℕ) × (whole ≡ met ++ name ∷ rest)
walk_at {none} {t} {name} {met} {whole} s ne = go s.rest s.is s.parts
  where
    go : (xs : List ℕ) → name ≡ first_of none xs → whole ≡ met ++ xs → (rest : List ℕ) × (whole ≡ met ++ name ∷ rest)
    go [] e w = absurd (ne e)
    go (x ∷ xs) e w = (xs, w ∙ ap (λ y. met ++ y ∷ xs) (sym e))
