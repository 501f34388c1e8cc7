-- The masks after a change of one bin.
use Rattle.offset_allocator.proofs.Common.{◌≡◌, ◌≢◌, ◌<◌, ℕ, ◌*◌, ◌/◌, ◌%◌, ◌^◌, List, [], ◌∷◌, refl, sym, ap, ◌∙◌, arith, length, slice_index, slice_set, bit_and, bit_or, w32, w64}
use Rattle.offset_allocator.proofs.Common.{length-set, get_or-set_same, get_or-set_other, bit_at, bit_not, or_lt, one_shl, and_le_l, pow_below, bit_at_set_same, bit_at_set_other, bit_at_clear_same}
use Rattle.offset_allocator.proofs.{Common.bit_at_clear_other, Common.bit_at-zero, Common.cases_eq, Common.bin_at, Common.AreMasks, Views.ViewBins.names_same, Views.ViewBins.names_other}
use Rattle.std.specs.Prelude.{min}

-- 0 for an empty list or a mask with no bit, else 1
abbrev pub flag : List ℕ → ℕ
flag xs = min 1 (length xs)

abbrev pub mark : ℕ → ℕ
mark w = min 1 w

mark_some : (n : ℕ) → n ≢ 0 → mark n ≡ 1
mark_some n h = omega arith

pub flag_full : (xs : List ℕ) → xs ≢ [] → flag xs ≡ 1
flag_full [] n = absurd (n refl)
flag_full (x ∷ xs) n = omega arith

pub flag_cons : (x : ℕ) (xs : List ℕ) → flag (x ∷ xs) ≡ 1
flag_cons x xs = omega arith

module _ {ls : List (List ℕ)} {masks : List ℕ} {top : ℕ} (k : AreMasks ls masks top) (ll : length ls ≡ 256) (c : ℕ) (ch : c < 256) (ys : List ℕ) where
  flag_at : (d : ℕ) → d ≡ c → flag (bin_at (slice_set ls c ys) d) ≡ flag ys
  flag_at d e = ap (λ i. flag (bin_at (slice_set ls c ys) i)) e ∙ ap flag (names_same ls c ys ll ch)

  flag_other : (d : ℕ) → d ≢ c → flag (bin_at (slice_set ls c ys) d) ≡ flag (bin_at ls d)
  flag_other d n = ap flag (names_other ls c d ys n)

  pub masked_same : flag ys ≡ flag (bin_at ls c) → AreMasks (slice_set ls c ys) masks top
  masked_same e = grind (arith, cases_eq, flag_at, flag_other)

  -- word c / 64 becomes v, and the top mask top'
  masked_after : (v top' : ℕ) → v < 2 ^ 64 → top' < 16 → bit_at v (c % 64) ≡ flag ys → ((i : ℕ) → i < 64 → i ≢ c % 64 → bit_at v i ≡ bit_at (slice_index masks (c / 64)) i)
      → bit_at top' (c / 64) ≡ mark v → ((w : ℕ) → w < 4 → w ≢ c / 64 → bit_at top' w ≡ bit_at top w) → AreMasks (slice_set ls c ys) (slice_set masks (c / 64) v) top'
  masked_after v top' vs ts here others mine rest = grind (arith, get_or-set_same, get_or-set_other, length-set, cases_eq, flag_at, flag_other)

  module _ (v : ℕ) (ve : v ≡ slice_index masks (c / 64)) where
    small : v < 2 ^ 64
    small = rw ve (k.words_small (c / 64) (omega arith))

    pub masked_set : flag ys ≡ 1 → AreMasks (slice_set ls c ys) (slice_set masks (c / 64) (bit_or v (1 * 2 ^ (c % 64) % 18446744073709551616))) (bit_or top (1 * 2 ^ (c / 64) % 4294967296))
    masked_set f =
        let b : ℕ = 1 * 2 ^ (c % 64) % 18446744073709551616 in
        let one : bit_at (bit_or v b) (c % 64) ≡ 1 = bit_at_set_same w64 v (c % 64) (omega arith) in
        masked_after (bit_or v b) _
        (or_lt 64 v b small (omega (arith, pow_below (c % 64) 64 (omega arith), one_shl (c % 64) 64 (omega arith))))
        (or_lt 4 top (1 * 2 ^ (c / 64) % 4294967296) k.top_small (omega (arith, pow_below (c / 64) 4 (omega arith), one_shl (c / 64) 32 (omega arith))))
        (one ∙ sym f)
        (λ i l n. bit_at_set_other w64 v (c % 64) (omega arith) i n ∙ ap (λ x. bit_at x i) ve)
        (bit_at_set_same w32 top (c / 64) (omega arith) ∙ sym (mark_some (bit_or v b) (λ z. let q = ap (λ x. bit_at x (c % 64)) z in omega (arith, bit_at-zero (c % 64)))))
        (λ w l n. bit_at_set_other w32 top (c / 64) (omega arith) w n)

    module _ (f : flag ys ≡ 0) (u : ℕ) (ue : u ≡ bit_and v (bit_not w64 (1 * 2 ^ (c % 64) % 18446744073709551616))) where
      cleared : (top' : ℕ) → top' < 16 → bit_at top' (c / 64) ≡ mark u → ((w : ℕ) → w < 4 → w ≢ c / 64 → bit_at top' w ≡ bit_at top w)
          → AreMasks (slice_set ls c ys) (slice_set masks (c / 64) u) top'
      cleared top' ts mine rest =
          masked_after u top' (omega (arith, small, and_le_l v (bit_not w64 (1 * 2 ^ (c % 64) % 18446744073709551616)))) ts (rw ue (bit_at_clear_same w64 v (c % 64) (omega arith) ∙ sym f))
          (λ i l n. rw ue (bit_at_clear_other w64 v (c % 64) (omega arith) i l n ∙ ap (λ x. bit_at x i) ve)) mine rest

      -- the word has other bits
      pub masked_clear : u ≢ 0 → AreMasks (slice_set ls c ys) (slice_set masks (c / 64) u) top
      masked_clear n = grind (arith, and_le_l, cleared, mark_some)

      -- the word has no other bit
      pub masked_clear_word : u ≡ 0 → AreMasks (slice_set ls c ys) (slice_set masks (c / 64) u) (bit_and top (bit_not w32 (1 * 2 ^ (c / 64) % 4294967296)))
      masked_clear_word z =
          cleared _ (omega (arith, k.top_small, and_le_l top (bit_not w32 (1 * 2 ^ (c / 64) % 4294967296)))) (bit_at_clear_same w32 top (c / 64) (omega arith) ∙ sym (ap mark z))
          (λ w l n. bit_at_clear_other w32 top (c / 64) (omega arith) w (omega arith) n)
