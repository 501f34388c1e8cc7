-- The first and the last class that has a name, by the masks.
use Rattle.offset_allocator.proofs.Common.{◌≡◌, ◌≢◌, ◌<◌, ◌≤◌, ℕ, suc, ◌+◌, ◌-◌, ◌*◌, ◌/◌, ◌%◌, ◌^◌, List, [], ◌∷◌, bit_and, refl, sym, ap, ◌∙◌, inl, inr, arith, slice_index, w32, w64, ne_eqb, bit_at}
use Rattle.offset_allocator.proofs.Common.{Width, trailing_zeros, count_trailing_zeros, count_leading_zeros, pow_pos, leading_top, le-div, div_below, div-mul-add, mod-mul-add, and_le_l, bit_at_above}
use Rattle.offset_allocator.proofs.Common.{bit_at-zero, bit_at-trailing_zeros, bit_at_and, bit_at_mask_inside, bit_at_mask_below, bit_at-lt, ones_shl, cases_lt, cases_eq, bin_at}
use Rattle.offset_allocator.proofs.{Common.IsFoundFrom, Common.AreMasks, Common.IsFoundLast, Common.Some, Filing.Masks.flag, Filing.Masks.mark}
use mir.Val.{bits}

-- the lowest bit of a word at or above a place, as code finds it: `(n & (MAX << k)).trailing_zeros()`
module _ (w : Width) (n k : ℕ) (small : n < 2 ^ bits w) (within : k ≤ bits w) where
  masked_from : (i : ℕ) → k ≤ i → i < bits w → bit_at (bit_and n ((2 ^ bits w - 1) * 2 ^ k % 2 ^ bits w)) i ≡ bit_at n i
  masked_from i l h = grind (arith, bit_at-lt, ones_shl, bits, bit_at_and, bit_at_mask_inside)

  pub none_from : bit_and n ((2 ^ bits w - 1) * 2 ^ k % 2 ^ bits w) ≡ 0 → (i : ℕ) → k ≤ i → i < bits w → bit_at n i ≡ 0
  none_from z i l h = sym (masked_from i l h) ∙ ap (λ x. bit_at x i) z ∙ bit_at-zero i

  pub least_from : bit_and n ((2 ^ bits w - 1) * 2 ^ k % 2 ^ bits w) ≢ 0 → (t : ℕ) → t ≡ trailing_zeros w (bit_and n ((2 ^ bits w - 1) * 2 ^ k % 2 ^ bits w)) → (k ≤ t) × (t < bits w)
      × (bit_at n t ≡ 1) × ((i : ℕ) → k ≤ i → i < t → bit_at n i ≡ 0)
  least_from z t e = grind (arith, bits, and_le_l, bit_at-trailing_zeros, ones_shl, bit_at_and, bit_at_mask_below, masked_from, cases_lt)

-- the highest bit of a word
highest_bit : (k n : ℕ) → n ≢ 0 → n < 2 ^ k → (j : ℕ) × (count_leading_zeros k n + suc j ≡ k) × (bit_at n j ≡ 1) × ((i : ℕ) → j < i → bit_at n i ≡ 0)
highest_bit k n p h =
    let (j, q, low, high) = leading_top k n (omega arith) h in
    let at_least : 1 ≤ n / 2 ^ j = le-div 1 n (2 ^ j) (pow_pos j) (omega arith) in
    let at_most : n / 2 ^ j < 2 = div_below n (2 ^ j) 2 (pow_pos j) (omega arith) in
    let is : n / 2 ^ j ≡ 1 = omega arith in
    (j, q, ap (λ x. x % 2) is, λ i l. bit_at_above n (suc j) i high (omega arith))

module _ {ls : List (List ℕ)} {masks : List ℕ} {top : ℕ} (k : AreMasks ls masks top) where
  -- a class whose bit is 0, or whose word's bit is 0, has no name
  clear : (c : ℕ) → c < 256 → bit_at (slice_index masks (c / 64)) (c % 64) ≡ 0 → bin_at ls c ≡ []
  clear c h z = go (bin_at ls c) (sym (k.bits c h) ∙ z)
    where
      go : (xs : List ℕ) → flag xs ≡ 0 → xs ≡ []
      go [] e = refl
      go (x ∷ xs) e = absurd (omega arith)

  clear_word : (c : ℕ) → c < 256 → bit_at top (c / 64) ≡ 0 → bin_at ls c ≡ []
  clear_word c h z = grind (arith, cases_eq, ne_eqb, clear, bit_at-zero)

  full : (w t : ℕ) → w < 4 → t < 64 → bit_at (slice_index masks w) t ≡ 1 → bin_at ls (w * 64 + t) ≡ [] → ⊥
  full w t a b z e = grind (arith, div-mul-add, mod-mul-add)

  -- a word whose bit is set
  word : (w : ℕ) → bit_at top w ≡ 1 → (w < 4) × (slice_index masks w ≢ 0)
  word w e = elim (cases_lt w 4) [
    | inl s ↦ (s, λ z. let m : mark (slice_index masks w) ≡ 0 = ap mark z in omega (arith, k.tops w s))
    | inr s ↦ absurd (let q = bit_at_above top 4 w k.top_small s in omega arith)
  ]

  -- ---- the smallest one from a class on
  module _ (c : ℕ) (ch : c < 256) (v r : ℕ) (ve : v ≡ slice_index masks (c / 64)) (re : r ≡ bit_and v (18446744073709551615 * 2 ^ (c % 64) % 18446744073709551616)) where
    v_small : v < 2 ^ 64
    v_small = rw ve (k.words_small (c / 64) (omega arith))

    pub here : r ≢ 0 → IsFoundFrom c ls (Some (c / 64 * 64 + count_trailing_zeros 64 r))
    here z =
        let (a, b, one, zeros) = least_from w64 v (c % 64) v_small (omega arith) (rw re at z) (count_trailing_zeros 64 r) (ap (count_trailing_zeros 64) re) in (
          omega arith,
          omega arith,
          full (c / 64) (count_trailing_zeros 64 r) (omega arith) b (rw (← ve) one),
          λ d l h. let e : d / 64 ≡ c / 64 = omega arith in clear d (omega arith) (rw (e, ← ve) (zeros (d % 64) (omega arith) (omega arith))),
        )

    module _ (z : r ≡ 0) (ws : ℕ) (we : ws ≡ bit_and top (4294967295 * 2 ^ (c / 64 + 1) % 4294967296)) where
      top_low : top < 2 ^ 32
      top_low = omega (arith, k.top_small)

      rest_clear : (d : ℕ) → c ≤ d → d / 64 < c / 64 + 1 → bin_at ls d ≡ []
      rest_clear d l h =
          let e : d / 64 ≡ c / 64 = omega arith in
          clear d (omega arith) (rw (e, ← ve) (none_from w64 v (c % 64) v_small (omega arith) (rw re at z) (d % 64) (omega arith) (omega arith)))

      pub nowhere : ws ≡ 0 → (d : ℕ) → c ≤ d → d < 256 → bin_at ls d ≡ []
      nowhere y d l h = elim (cases_lt (d / 64) (c / 64 + 1)) [
        | inl s ↦ rest_clear d l s
        | inr s ↦ clear_word d h (none_from w32 top (c / 64 + 1) top_low (omega arith) (rw we at y) (d / 64) s (omega arith))
      ]

      module _ (y : ws ≢ 0) where
        lowest : (c / 64 + 1 ≤ count_trailing_zeros 32 ws) × (count_trailing_zeros 32 ws < 32) × (bit_at top (count_trailing_zeros 32 ws) ≡ 1)
            × ((i : ℕ) → c / 64 + 1 ≤ i → i < count_trailing_zeros 32 ws → bit_at top i ≡ 0)
        lowest = least_from w32 top (c / 64 + 1) top_low (omega arith) (rw we at y) (count_trailing_zeros 32 ws) (ap (count_trailing_zeros 32) we)

        pub word_below : count_trailing_zeros 32 ws < 4
        word_below = (word _ lowest.2).0

        pub above : (u : ℕ) → u ≡ slice_index masks (count_trailing_zeros 32 ws) → IsFoundFrom c ls (Some (count_trailing_zeros 32 ws * 64 + count_trailing_zeros 64 u))
        above u ue =
            let w : ℕ = count_trailing_zeros 32 ws in
            let a = lowest.0 in
            let some = word w lowest.2 in
            let (h, one, zeros) = bit_at-trailing_zeros w64 u (omega (arith, some.1)) (rw ue (k.words_small w some.0)) in (
              omega arith,
              omega (arith, some.0),
              full w (count_trailing_zeros 64 u) some.0 h (rw (← ue) one),
              λ d l s. elim (cases_lt (d / 64) (c / 64 + 1)) [
                | inl q ↦ rest_clear d l q
                | inr q ↦ elim (cases_lt (d / 64) w) [
                  | inl p ↦ clear_word d (omega (arith, some.0)) (lowest.3 (d / 64) q p)
                  | inr p ↦ let e : d / 64 ≡ w = omega arith in clear d (omega (arith, some.0)) (rw (e, ← ue) (zeros (d % 64) (omega arith)))
                ]
              ],
            )

  -- ---- the largest one
  pub none_at_all : top ≡ 0 → (c : ℕ) → c < 256 → bin_at ls c ≡ []
  none_at_all e c h = clear_word c h (rw e (bit_at-zero (c / 64)))

  module _ (some : top ≢ 0) where
    pub last_word : (w : ℕ) × (count_leading_zeros 32 top + suc w ≡ 32) × (bit_at top w ≡ 1) × ((i : ℕ) → w < i → bit_at top i ≡ 0)
    last_word = highest_bit 32 top some (omega (arith, k.top_small))

    pub last_below : 31 - count_leading_zeros 32 top < 4
    last_below = let q = last_word.1 in omega (arith, (word last_word.0 last_word.2).0)

    module _ (n : ℕ) (ne : n ≡ slice_index masks (31 - count_leading_zeros 32 top)) where
      last_bit : (t : ℕ) × (count_leading_zeros 64 n + suc t ≡ 64) × (bit_at n t ≡ 1) × ((i : ℕ) → t < i → bit_at n i ≡ 0)
      last_bit = grind (arith, last_word, highest_bit, word, last_below)

      pub bit_within : count_leading_zeros 64 n ≤ 63
      bit_within = let q = last_bit.1 in omega arith

      pub largest_is : IsFoundLast ls (Some ((31 - count_leading_zeros 32 top) * 64 + (63 - count_leading_zeros 64 n)))
      largest_is =
          let w : ℕ = 31 - count_leading_zeros 32 top in
          let (v, q, one, zeros) = last_word in
          let (t, r, bit_one, bit_zeros) = last_bit in
          let t_is : 63 - count_leading_zeros 64 n ≡ t = omega arith in
          rw t_is (
            omega (arith, last_below),
            full w t last_below (omega arith) (rw (← ne) bit_one),
            λ d l h. elim (cases_lt w (d / 64)) [
              | inl x ↦ clear_word d h (zeros (d / 64) (omega arith))
              | inr x ↦ let e : d / 64 ≡ w = omega arith in clear d h (rw (e, ← ne) (bit_zeros (d % 64) (omega arith)))
            ],
          )
