-- Greatest common divisors, and least common multiples.
use Rattle.std.proofs.Common.{◌≡◌, ℕ, zero, suc, ◌+◌, ◌*◌, ◌/◌, ◌%◌, ◌<◌, ◌≤◌, inl, inr, sym, subst, ap, ◌∙◌, arith}
use Rattle.std.proofs.Math.Nat.{div-add-mod', dvd-add_iff_right, dvd-mul_left_of_dvd, dvd-mul_left, dvd-mul_right, div-mul_cancel, dvd_of_mul-dvd-mul_left, mul_assoc, mul_comm, add-mul, mul-dvd-mul_left}
use Rattle.std.proofs.Math.Nat.{mod-lt, dvd_of_mod-eq-zero, dvd_antisymm, dvd_refl, dvd-zero, le_of_dvd, pos_of_dvd_of_pos}
use Rattle.std.proofs.lemmas.Bool.{cases_eq}
use Rattle.std.proofs.lemmas.Nat.Gcd.{IsGcd-from_mod}
use Rattle.std.specs.Int.{◌∣◌, IsGcd}
use Rattle.offset_guarded.specs.Step.{IsJoined}

-- what divides a multiple of two numbers divides that of the remainder
pub rest_multiple : (a b z n : ℕ) → z ∣ a * n → z ∣ b * n → z ∣ (a % b) * n
rest_multiple a b z n p q =
    let whole : a / b * (b * n) + (a % b) * n ≡ a * n =
    ap (λ k. k + (a % b) * n) (sym (mul_assoc (a / b) b n)) ∙ sym (add-mul (a / b * b) (a % b) n) ∙ ap (λ k. k * n) (div-add-mod' a b) in
    (dvd-add_iff_right z {m = a / b * (b * n)} {n = (a % b) * n} (dvd-mul_left_of_dvd z q (a / b))).1 (subst (λ k. z ∣ k) (sym whole) p)

module _ (a b g : ℕ) (some : 1 ≤ b) (is : IsGcd a b g) (multiples : (z n : ℕ) → z ∣ a * n → z ∣ b * n → z ∣ g * n) where
  pub divisor_some : 0 < g
  divisor_some = pos_of_dvd_of_pos is.1 (omega (arith, some))

  first_divides : a ∣ a / g * b
  first_divides =
      let x : ℕ = b / g in
      let e : a * x ≡ a / g * b =
      ap (λ k. k * x) (sym (div-mul_cancel g is.0)) ∙ mul_assoc (a / g) g x ∙ ap (λ k. a / g * k) (mul_comm g x ∙ div-mul_cancel g is.1) in
      subst (λ k. a ∣ k) e (dvd-mul_right a x)

  least_divides : (n : ℕ) → a ∣ n → b ∣ n → a / g * b ∣ n
  least_divides n p q =
      let m : ℕ = a / g * b in
      let whole : g * m ≡ a * b = sym (mul_assoc g (a / g) b) ∙ ap (λ k. k * b) (mul_comm g (a / g) ∙ div-mul_cancel g is.0) in
      let one : a * b ∣ a * n = mul-dvd-mul_left b a q in
      let two : a * b ∣ b * n = subst (λ k. k ∣ b * n) (mul_comm b a) (mul-dvd-mul_left a b p) in
      dvd_of_mul-dvd-mul_left m divisor_some (subst (λ k. k ∣ g * n) (sym whole) (multiples (a * b) n one two))

  pub joined_small : a / g * b ≤ 4294967295 → IsJoined a b (a / g * b)
  joined_small few = record { fits = few; first = first_divides; second = dvd-mul_left b (a / g); least = λ n l p q. least_divides n p q }

  pub joined_large : 4294967295 < a / g * b → IsJoined a b 0
  joined_large large = record { fits = omega arith; first = dvd-zero a; second = dvd-zero b; least = none }
    where
      none : (n : ℕ) → n ≤ 4294967295 → a ∣ n → b ∣ n → 0 ∣ n
      none n few p q = elim (cases_eq n 0) [
        | inl e ↦ subst (λ k. 0 ∣ k) (sym e) (dvd-zero 0)
        | inr d ↦ absurd (let le : a / g * b ≤ n = le_of_dvd (omega (arith, d)) (least_divides n p q) in omega (arith, le, large, few))
      ]

-- a step and an alignment have one step
pub one_joined : (a b c d : ℕ) → IsJoined a b c → IsJoined a b d → c ≡ d
one_joined a b c d p q = dvd_antisymm (p.least d q.fits q.first q.second) (q.least c p.fits p.first p.second)

-- a step that an alignment divides stays
pub joined_stays : (a b c : ℕ) → a ≤ 4294967295 → b ∣ a → IsJoined a b c → c ≡ a
joined_stays a b c few d p = one_joined a b c a p (record { fits = few; first = dvd_refl a; second = d; least = λ n l p q. p })

-- a divisor of something is something
pub divisor_of_some : (g n : ℕ) → g ∣ n → 1 ≤ n → 1 ≤ g
divisor_of_some g n d some = pos_of_dvd_of_pos d some

-- two numbers, of which the second is not 0, have a greatest common divisor
pub gcd_there : (a b : ℕ) → 1 ≤ b → (g : ℕ) × (1 ≤ g) × IsGcd a b g
gcd_there a b some = go b a b (omega arith) some
  where
    go : (n a b : ℕ) → b ≤ n → 1 ≤ b → (g : ℕ) × (1 ≤ g) × IsGcd a b g
    go zero a b l some = absurd (omega (arith, l, some))
    go (suc n) a b l some = elim (cases_eq (a % b) 0) [
      | inl e ↦ (b, some, (dvd_of_mod-eq-zero b e, dvd_refl b, λ d p q. q))
      | inr d ↦
          let less : a % b < b = mod-lt a some in
          let r = go n b (a % b) (omega (arith, less, l)) (omega (arith, d)) in
          (r.0, r.1, IsGcd-from_mod a b r.0 r.2)
    ]
