-- Padding: the smallest number that takes an offset to a multiple of an alignment.
use Rattle.offset_allocator.proofs.Common.{◌≡◌, ℕ, ◌+◌, ◌-◌, ◌*◌, ◌%◌, ◌<◌, ◌≤◌, ◌⊎◌, ap, ◌∙◌, inl, inr, arith, cases_lt, mod-mul-add, padding_to, common_steps}

module _ (align offset : ℕ) (some : 1 ≤ align) where
  padded : ((offset % align ≡ 0) × (padding_to align offset ≡ 0)) ⊎ ((0 < offset % align) × (offset % align < align) × (padding_to align offset ≡ align - offset % align))
  padded = elim (cases_lt 0 (offset % align)) [
    | inl l ↦ inr (l, below, small (align - offset % align) (omega (arith, below, l)))
    | inr l ↦ let z : offset % align ≡ 0 = omega arith in inl (z, ap (λ r. (align - r) % align) z ∙ whole)
  ]
    where
      below : offset % align < align
      below = omega arith

      small : (n : ℕ) → n < align → n % align ≡ n
      small n h = let e : n ≡ 0 * align + n = omega arith in ap (λ n. n % align) e ∙ mod-mul-add 0 align n h

      whole : (align - 0) % align ≡ 0
      whole = let e : align - 0 ≡ 1 * align + 0 = omega arith in ap (λ n. n % align) e ∙ mod-mul-add 1 align 0 (omega arith)

  pub reaches : (offset + padding_to align offset) % align ≡ 0
  reaches = grind (arith, padded, mod-mul-add)

  pub least : (k : ℕ) → (offset + k) % align ≡ 0 → padding_to align offset ≤ k
  least k m = grind (arith, common_steps, padded, cases_lt, mod-mul-add)
