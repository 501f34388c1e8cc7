-- Usual heaps double, by their numbers.
use Rattle.std.proofs.Common.{◌≡◌, ◌↔◌, ℕ, suc, ◌+◌, ◌-◌, ◌*◌, ◌%◌, ◌^◌, ◌<◌, ◌≤◌, min, refl, sym, ap, ◌∙◌, arith, inl, inr, mul_assoc, mul_comm, mul-le-mul_left, mul-le-mul_right, pow-suc}
use Rattle.std.proofs.Math.Nat.{one-le-pow, pow-le-pow_right}
use Rattle.std.proofs.lemmas.Bool.{cases_lt}
use Rattle.std.proofs.lemmas.Nat.{shl_whole}
use Rattle.offset_allocator.specs.Classes.{down, value}
use Rattle.offset_allocator.proofs.Classes.{down_law, value_down, value_grows}
use Rattle.offset_heaps.specs.declared.limits.Limits.{Limits}
use Rattle.offset_heaps.specs.Heaps.{Heaps, IsFirstSize, IsUsual, usual_room, usual_size}

-- ---- sizes
-- a unit that is doubled stays at least one
doubled_some : (k : ℕ) → 1 ≤ 2 ^ k
doubled_some k = one-le-pow k 2 (omega arith)

pub first_of_all : (limits : Limits) → IsFirstSize limits → usual_size limits 0 ≡ limits.first_size
first_of_all limits first = omega (arith, first.1)

-- one time more
twice : (n k : ℕ) → n * 2 ^ (k + 1) ≡ 2 * (n * 2 ^ k)
twice n k =
    let e : 2 ^ (k + 1) ≡ 2 ^ k * 2 = ap (λ i. 2 ^ i) {x = k + 1} {y = suc k} (omega arith) ∙ pow-suc 2 k in
    ap (λ m. n * m) e ∙ sym (mul_assoc n (2 ^ k) 2) ∙ mul_comm (n * 2 ^ k) 2

pub next_doubles : (limits : Limits) (k : ℕ) → usual_size limits (k + 1) ≡ min (2 * usual_size limits k) limits.size
next_doubles limits k =
    let x : ℕ = limits.first_size * 2 ^ k in
    let e : limits.first_size * 2 ^ (k + 1) ≡ 2 * x = twice limits.first_size k in
    rw e (omega arith)

pub all_alike : (limits : Limits) (k : ℕ) → limits.first_size ≡ limits.size → usual_size limits k ≡ limits.size
all_alike limits k same =
    let more : limits.first_size * 1 ≤ limits.first_size * 2 ^ k = mul-le-mul_left limits.first_size (doubled_some k) in
    omega (arith, more, same)

pub size_grows : (limits : Limits) (j k : ℕ) → j ≤ k → usual_size limits j ≤ usual_size limits k
size_grows limits j k before =
    let more : limits.first_size * 2 ^ j ≤ limits.first_size * 2 ^ k = mul-le-mul_left limits.first_size (pow-le-pow_right {n = 2} (omega arith) before) in
    omega (arith, more)

pub size_low : (limits : Limits) (k : ℕ) → usual_size limits k ≤ limits.size
size_low limits k = omega arith

-- ---- what fresh heaps of these sizes grant
down_grows : (m n : ℕ) → n < 2 ^ 32 → m ≤ n → down m ≤ down n
down_grows m n small less = (down_law n (down m) small).1 (omega (arith, value_down m, less))

pub room_grows : (limits : Limits) (j k : ℕ) → limits.size < 2 ^ 32 → j ≤ k → usual_room limits j ≤ usual_room limits k
room_grows limits j k small before =
    value_grows (down (usual_size limits j)) (down (usual_size limits k))
    (down_grows (usual_size limits j) (usual_size limits k) (omega (arith, size_low limits k, small)) (size_grows limits j k before))

-- below the number of a class that no block has
highest : value 239 ≡ 4026531840
unfolding value
highest = refl

none_above : value 240 ≡ 2 ^ 32
unfolding value
none_above = refl

pub class_small : (n : ℕ) → n < 2 ^ 32 → down n < 240
class_small n small = elim (cases_lt (down n) 240) [
  | inl l ↦ l
  | inr past ↦ absurd (let above = (down_law n 240 small).0 past in omega (arith, above, none_above, small))
]

pub room_below : (n : ℕ) → n < 2 ^ 32 → value (down n) < 4294967295
room_below n small = omega (arith, value_grows (down n) 239 (omega (arith, class_small n small)), highest)

pub room_low : (limits : Limits) (k : ℕ) → limits.size < 2 ^ 32 → usual_room limits k < 4294967295
room_low limits k small = room_below (usual_size limits k) (omega (arith, size_low limits k, small))

-- a request is usual exactly where the usual heap of some number has room for it
pub usual_of_some : (size : ℕ) (hs : Heaps) → hs.limits.size < 2 ^ 32
    → IsUsual size hs ↔ ((k : ℕ) × (k < hs.limits.most) × (size ≤ usual_room hs.limits k))
usual_of_some size hs small = (
  λ usual. (hs.limits.most - 1, omega (arith, usual.0), usual.1),
  λ it. let more = room_grows hs.limits it.0 (hs.limits.most - 1) small (omega (arith, it.1)) in let fits = it.2 in (omega (arith, it.1), omega (arith, more, fits)),
)

-- ---- the code
-- doubled 32 times, a unit is more than any size
pub doubled_at_most : (f size k : ℕ) → f < 2 ^ 32 → size < 2 ^ 32 → min ((f * 2 ^ (min k 32)) % 2 ^ 64) size ≡ min (f * 2 ^ k) size
doubled_at_most f size k few small =
    let whole : (f * 2 ^ (min k 32)) % 2 ^ 64 ≡ f * 2 ^ (min k 32) = shl_whole f 32 (min k 32) 64 few (omega arith) in
    rw whole (elim (cases_lt k 32) [
      | inl l ↦ let e : min k 32 ≡ k = omega (arith, l) in rw e refl
      | inr far ↦
          let e : min k 32 ≡ 32 = omega (arith, far) in
          rw e (elim (cases_lt 0 f) [
            | inr none ↦ let zero : f ≡ 0 = omega (arith, none) in rw zero (omega arith)
            | inl some ↦
                let more : f * 2 ^ 32 ≤ f * 2 ^ k = mul-le-mul_left f (pow-le-pow_right {n = 2} (omega arith) far) in
                let large : 1 * 2 ^ 32 ≤ f * 2 ^ 32 = mul-le-mul_right (2 ^ 32) some in
                omega (arith, more, large, small)
          ])
    ])
