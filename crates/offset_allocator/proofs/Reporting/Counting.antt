-- The names of a class are as many as its free blocks.
use Rattle.offset_allocator.proofs.Common.{◌≡◌, ◌≢◌, ℕ, zero, suc, ◌+◌, ◌*◌, ◌<◌, ◌≤◌, true, false, not, cond, ◌&&◌, List, [], ◌∷◌, length, sum, nat_eq, nat_lt, if◌then◌else◌, refl, sym, ap, inl, inr}
use Rattle.offset_allocator.proofs.Common.{arith, eq-eqb, ne_eqb, cases_eq, cases_lt, nat_tests, get_or_past, sum_by-cons, value, up, down, count_of, largest, Block, View, one, times, count_in_bin}
use Rattle.offset_allocator.proofs.Common.{bin_at, free_sizes, IsWellFormed, IsFoundLast, Some}
use Rattle.offset_allocator.proofs.{Classes.down_small, Classes.value_down, Classes.value_grows, Classes.up_reached, Linking.Walks.drop_one, Tallies.one-same}

-- ---- sizes by their classes
-- a class of which a size is
count_one : (c n : ℕ) (ns : List ℕ) → 1 ≤ count_of c (n ∷ ns) → (1 ≤ count_of c ns → ⊥) → down n ≡ c
count_one c n ns l none = elim (cases_eq (down n) c) [ inl e ↦ e | inr m ↦ absurd (let k = rw (ne_eqb (down n) c m) at l in none (omega arith)) ]

self_count : (n : ℕ) (ns : List ℕ) → 1 ≤ count_of (down n) (n ∷ ns)
self_count n ns = rw (eq-eqb (down n) (down n) refl) (omega arith)

value_within : (c : ℕ) (ns : List ℕ) → 1 ≤ count_of c ns → (value c ≤ largest ns) × (value c ≤ sum ns)
value_within c [] l = absurd (omega arith)
value_within c (n ∷ ns) l =
    let s = sum_by-cons (λ (i : ℕ). i) n ns in
    elim (cases_lt 0 (count_of c ns)) [
      | inl h ↦ let ih = value_within c ns h in (omega (arith, ih.0), omega (arith, s, ih.1))
      | inr h ↦ let e = ap value (count_one c n ns l (λ m. omega arith)) in (omega arith, omega (arith, s, value_down n))
    ]

largest_most : (c : ℕ) (ns : List ℕ) → ((d : ℕ) → c < d → d < 256 → count_of d ns ≡ 0) → largest ns ≤ value c
largest_most c [] h = omega arith
largest_most c (n ∷ ns) h =
    let ih = largest_most c ns (λ d l b. omega (arith, h d l b)) in
    elim (cases_lt c (down n)) [
      | inl l ↦ absurd (omega (arith, h (down n) l (down_small n), self_count n ns))
      | inr l ↦ let g = value_grows (down n) c l in omega arith
    ]

no_sizes : (ns : List ℕ) → ((d : ℕ) → d < 256 → count_of d ns ≡ 0) → largest ns ≡ 0
no_sizes [] h = refl
no_sizes (n ∷ ns) h = absurd (omega (arith, h (down n) (down_small n), self_count n ns))

-- ---- names by their classes
length_listed : (c : ℕ) (bs : List Block) (xs : List ℕ) → ((x : ℕ) → times x xs ≡ count_in_bin c x bs) → length xs ≡ count_of c (free_sizes bs)
length_listed c [] [] h = refl
length_listed c [] (x ∷ xs) h = absurd (omega (arith, h x, one-same x))
length_listed c (b ∷ bs) xs h = elim b.used as (λ u. ((x : ℕ) → times x xs ≡ one (not u && (nat_eq c (down b.size) && nat_eq x b.name)) + count_in_bin c x bs)
    → length xs ≡ count_of c (if u then free_sizes bs else b.size ∷ free_sizes bs)) [
      | true ↦ λ k. length_listed c bs xs (λ x. omega (arith, k x))
      | false ↦ λ k. elim (cases_eq (down b.size) c) [
        | inl e ↦
            let named : (x : ℕ) → times x xs ≡ one (nat_eq x b.name) + count_in_bin c x bs = λ x. rw (eq-eqb c (down b.size) (sym e)) at (k x) in
            let r = drop_one b.name xs (omega (arith, named b.name, one-same b.name)) in
            rw (eq-eqb (down b.size) c e) (omega (arith, r.1, length_listed c bs r.0 (λ x. omega (arith, named x, r.2 x))))
        | inr n ↦ rw (ne_eqb (down b.size) c n) (omega (arith, length_listed c bs xs (λ x. let j = rw (ne_eqb c (down b.size) (λ q. n (sym q))) at (k x) in omega arith)))
      ]
    ] h

pub length_names : (v : View) → IsWellFormed v → (c : ℕ) → length (bin_at v.bins c) ≡ count_of c (free_sizes v.blocks)
length_names v w c = length_listed c v.blocks (bin_at v.bins c) (w.binned c)

module _ (v : View) (w : IsWellFormed v) where
  counted : (c : ℕ) → bin_at v.bins c ≢ [] → 1 ≤ count_of c (free_sizes v.blocks)
  counted c n = go (bin_at v.bins c) n (length_names v w c)
    where
      go : (xs : List ℕ) → xs ≢ [] → length xs ≡ count_of c (free_sizes v.blocks) → 1 ≤ count_of c (free_sizes v.blocks)
      go [] n e = absurd (n refl)
      go (x ∷ xs) n e = omega arith

  uncounted : (c : ℕ) → bin_at v.bins c ≡ [] → count_of c (free_sizes v.blocks) ≡ 0
  uncounted c e = omega (arith, length_names v w c, ap (λ (l : List ℕ). length l) e)

  -- a class that holds n units has no name where fewer units are free
  pub class_within : (n c : ℕ) → up n ≤ c → bin_at v.bins c ≢ [] → n ≤ sum (free_sizes v.blocks)
  class_within n c l some = elim (cases_lt c 256) [
    | inl h ↦ omega (arith, up_reached n (omega arith), value_grows (up n) c l, (value_within c (free_sizes v.blocks) (counted c some)).1)
    | inr h ↦ absurd (some (get_or_past v.bins c [] (omega (arith, w.classes))))
  ]

  -- a class that is large enough has no name where all free units are fewer than its smallest block
  pub value_within_free : (n c : ℕ) → up n ≤ c → bin_at v.bins c ≢ [] → value (up n) ≤ sum (free_sizes v.blocks)
  value_within_free n c l some = elim (cases_lt c 256) [
    | inl h ↦ omega (arith, value_grows (up n) c l, (value_within c (free_sizes v.blocks) (counted c some)).1)
    | inr h ↦ absurd (some (get_or_past v.bins c [] (omega (arith, w.classes))))
  ]

  pub largest_none : ((c : ℕ) → c < 256 → bin_at v.bins c ≡ []) → largest (free_sizes v.blocks) ≡ 0
  largest_none e = no_sizes (free_sizes v.blocks) (λ d h. uncounted d (e d h))

  pub largest_some : (c : ℕ) → IsFoundLast v.bins (Some c) → (largest (free_sizes v.blocks) ≡ value c) × (value c ≤ sum (free_sizes v.blocks))
  largest_some c k =
      let f = value_within c (free_sizes v.blocks) (counted c k.1) in
      (omega (arith, f.0, largest_most c (free_sizes v.blocks) (λ d l h. uncounted d (k.2 d l h))), f.1)

-- ---- how many names the classes below c have
abbrev pub names_below : ℕ → List (List ℕ) → ℕ
names_below zero bins = 0
names_below (suc c) bins = names_below c bins + length (bin_at bins c)

-- how many sizes are of the classes below c
abbrev pub sizes_below : ℕ → List ℕ → ℕ
sizes_below c [] = 0
sizes_below c (n ∷ ns) = cond (nat_lt (down n) c) 1 0 + sizes_below c ns

pub sizes_none : (ns : List ℕ) → sizes_below 0 ns ≡ 0
sizes_none [] = refl
sizes_none (n ∷ ns) = let ih = sizes_none ns in grind (arith, nat_tests)

pub sizes_more : (c : ℕ) (ns : List ℕ) → (sizes_below (suc c) ns ≡ sizes_below c ns + count_of c ns) × (sizes_below c ns ≤ length ns)
sizes_more c [] = grind arith
sizes_more c (n ∷ ns) = grind (arith, cases_eq, eq-eqb, nat_tests, ne_eqb, sizes_more c ns)

names_counts : (v : View) → IsWellFormed v → (c : ℕ) → names_below c v.bins ≡ sizes_below c (free_sizes v.blocks)
names_counts v w zero = sym (sizes_none (free_sizes v.blocks))
names_counts v w (suc c) = omega (arith, names_counts v w c, length_names v w c, (sizes_more c (free_sizes v.blocks)).0)

-- all classes together have at most as many names as there are free blocks
pub accesses_most : (v : View) → IsWellFormed v → (c new old : ℕ) → c ≡ 256 → new ≤ old + c + names_below c v.bins → new ≤ old + 512 + 2 * length (free_sizes v.blocks)
accesses_most v w c new old e l = omega (arith, names_counts v w c, (sizes_more c (free_sizes v.blocks)).1)

-- each size is of a class below 256
pub sizes_all : (ns : List ℕ) → sizes_below 256 ns ≡ length ns
sizes_all [] = refl
sizes_all (n ∷ ns) = let ih = sizes_all ns in let d = down_small n in grind (arith, nat_tests)

-- the free blocks of a class are some of the free blocks
pub names_few : (v : View) → IsWellFormed v → (c : ℕ) → length (bin_at v.bins c) ≤ length (free_sizes v.blocks)
names_few v w c = omega (arith, length_names v w c, (sizes_more c (free_sizes v.blocks)).0, (sizes_more (suc c) (free_sizes v.blocks)).1)

-- one class more
pub sizes_next : (c b k : ℕ) (ns : List ℕ) → b ≡ sizes_below c ns → k ≡ count_of c ns → (b + k ≡ sizes_below (c + 1) ns) × (b + k ≤ length ns)
sizes_next c b k ns e f =
    let more = sizes_more c ns in
    let most = sizes_more (suc c) ns in
    let is : suc c ≡ c + 1 = omega arith in
    (omega (arith, e, f, more.0, ap (λ i. sizes_below i ns) is), omega (arith, e, f, more.0, most.1))
