-- Quotients: how many units hold so many bytes.
use Rattle.std.proofs.lemmas.Nat.{div-add-mod', mod-mul-add}
use Rattle.offset_allocator.proofs.Common.{◌≡◌, ◌↔◌, ℕ, ◌+◌, ◌-◌, ◌*◌, ◌<◌, ◌≤◌, ◌/◌, ◌%◌, inl, inr, Option, None, Some, IfSome, sym, ap, ◌∙◌, arith, cases_lt}

pub IfSome-weaker : {A : Type 0} (o : Option A) (P Q : A → Type 0) → ((x : A) → P x → Q x) → IfSome o P → IfSome o Q
IfSome-weaker None P Q f h = tt
IfSome-weaker (Some x) P Q f h = f x h

-- one more of them is a whole unit more
pub one_more : (u k q : ℕ) → k < q → u * k + u ≤ u * q
one_more u k q l =
    let d : ℕ = q - (k + 1) in
    let e : q ≡ k + 1 + d = omega (arith, l) in
    let s : u * q ≡ u * k + u + u * d = ap (λ n. u * n) e ∙ grind arith in
    omega (arith, s)

pub monotone : (u k q : ℕ) → k ≤ q → u * k ≤ u * q
monotone u k q l = elim (cases_lt k q) [
  | inl m ↦ omega (arith, one_more u k q m)
  | inr m ↦ let e : k ≡ q = omega (arith, l, m) in omega (arith, ap (λ n. u * n) e)
]

-- the whole units of some bytes, and what is left
pub whole : (u b : ℕ) → u * (b / u) + b % u ≡ b
whole u b = let s : u * (b / u) ≡ b / u * u = grind arith in omega (arith, s, div-add-mod' b u)

pub fewest : (u b k : ℕ) → 1 ≤ u → b ≤ u * k → b / u ≤ k
fewest u b k some l = elim (cases_lt k (b / u)) [
  | inl m ↦ absurd (omega (arith, one_more u k (b / u) m, whole u b, some, l))
  | inr m ↦ m
]

pub cancel : (u x y : ℕ) → 1 ≤ u → u * x ≡ u * y → x ≡ y
cancel u x y some e = elim (cases_lt x y) [
  | inl l ↦ absurd (omega (arith, one_more u x y l, e, some))
  | inr l ↦ elim (cases_lt y x) [
    | inl m ↦ absurd (omega (arith, one_more u y x m, e, some))
    | inr m ↦ omega (arith, l, m)
  ]
]

multiple : (z b : ℕ) → 1 ≤ b → (b * z) % b ≡ 0
multiple z b some =
    let s : b * z ≡ z * b + 0 = grind arith in
    ap (λ n. n % b) s ∙ mod-mul-add z b 0 some

-- where a unit has whole alignments, each address is a multiple
pub at_each : (a u b o : ℕ) → 1 ≤ b → a % b ≡ 0 → u % b ≡ 0 → (a + u * o) % b ≡ 0
at_each a u b o some e f =
    let x : ℕ = a / b in
    let y : ℕ = u / b in
    let ea : a ≡ b * x = omega (arith, whole b a, e) in
    let eu : u ≡ b * y = omega (arith, whole b u, f) in
    let all : b * x + b * y * o ≡ b * (x + y * o) = grind arith in
    let s : a + u * o ≡ b * (x + y * o) = ap (λ n. n + u * o) ea ∙ ap (λ n. b * x + n * o) eu ∙ all in
    ap (λ n. n % b) s ∙ multiple (x + y * o) b some

-- where an alignment has whole units, those of its multiples are
pub at_some : (a u b o : ℕ) → 1 ≤ u → 1 ≤ b → a % b ≡ 0 → b % u ≡ 0 → (a + u * o) % b ≡ 0 ↔ o % (b / u) ≡ 0
at_some a u b o su sb e f =
    let w : ℕ = b / u in
    let x : ℕ = a / b in
    let eb : b ≡ u * w = omega (arith, whole u b, f) in
    let ea : a ≡ b * x = omega (arith, whole b a, e) in
    let sw : 1 ≤ w = elim (cases_lt 0 w) [
      | inl l ↦ l
      | inr m ↦ let z : w ≡ 0 = omega (arith, m) in absurd (omega (arith, sb, eb ∙ ap (λ n. u * n) z))
    ] in (
      λ h.
          let z : ℕ = (a + u * o) / b in
          let ez : b * z ≡ a + u * o = omega (arith, whole b (a + u * o), h) in
          let le : x ≤ z = elim (cases_lt z x) [
            | inl m ↦ absurd (omega (arith, one_more b z x m, ez, ea, sb))
            | inr m ↦ m
          ] in
          let d : ℕ = z - x in
          let zd : z ≡ x + d = omega (arith, le) in
          let sum : b * (x + d) ≡ b * x + b * d = grind arith in
          let split : b * z ≡ b * x + b * d = ap (λ n. b * n) zd ∙ sum in
          let uo : u * o ≡ b * d = omega (arith, ez, ea, split) in
          let assoc : u * w * d ≡ u * (w * d) = grind arith in
          let is : o ≡ w * d = cancel u o (w * d) su (uo ∙ ap (λ n. n * d) eb ∙ assoc) in
          ap (λ n. n % w) is ∙ multiple d w sw,
      λ h.
          let t : ℕ = o / w in
          let eo : o ≡ w * t = omega (arith, whole w o, h) in
          let assoc : u * (w * t) ≡ u * w * t = grind arith in
          let uo : u * o ≡ b * t = ap (λ n. u * n) eo ∙ assoc ∙ ap (λ n. n * t) (sym eb) in
          let sum : b * (x + t) ≡ b * x + b * t = grind arith in
          let s : a + u * o ≡ b * (x + t) = omega (arith, ea, uo, sum) in
          ap (λ n. n % b) s ∙ multiple (x + t) b sb,
    )
