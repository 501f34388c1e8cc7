-- The first state with the largest value, and with the smallest, as a loop over the states finds them.
use Rattle.std.proofs.Common.{◌≡◌, ℕ, zero, suc, ◌+◌, ◌<◌, ◌≤◌, Bool, true, false, arith, sym, ◌∙◌, ap, subst, refl, nat_lt, min, max, add-one, below_more}
use Rattle.std.specs.Prelude.{if◌then◌else◌}
use Rattle.std.proofs.lemmas.Bool.Decides.{nat_tests}
use Rattle.offset_allocator.specs.declared.reports.StorageReport.{StorageReport}
use Rattle.offset_pictures.specs.declared.course.Course.{Course}
use Rattle.offset_pictures.specs.declared.figures.Figures.{Figures}
use Rattle.offset_pictures.specs.Figures.{AreFigures, AreTotals, IsFirstLargest, IsFirstSmallest, counted, count_below, live_after, used_after, size_after, region_after, free_after, is_full_after}
use Rattle.offset_pictures.specs.{Figures.states, Counting.Sees, Counting.StartsAs}

abbrev pub first_largest : (ℕ → ℕ) → ℕ → ℕ
first_largest value zero = 0
first_largest value (suc n) = if nat_lt (value (first_largest value n)) (value n) then n else first_largest value n

abbrev pub first_smallest : (ℕ → ℕ) → ℕ → ℕ
first_smallest value zero = 0
first_smallest value (suc n) = if nat_lt (value n) (value (first_smallest value n)) then n else first_smallest value n

-- a choice of states is one of their values
picks : {A : Type 0} (value : ℕ → A) (b : Bool) (n m : ℕ) → value (if b then n else m) ≡ (if b then value n else value m)
picks value true n m = refl
picks value false n m = refl

larger_by : (value : ℕ → ℕ) (n m : ℕ) (b : Bool) → nat_lt (value m) (value n) ≡ b → IsFirstLargest value n m → IsFirstLargest value (n + 1) (if b then n else m)
larger_by value n m true e h =
    let more : value m < value n = grind (arith, nat_tests) in
    (omega arith, below_more (λ k. value k ≤ value n) n (λ k less. omega (arith, h.1 k less)) (omega arith), λ k less. omega (arith, h.1 k less))
larger_by value n m false e h =
    let no_more : value n ≤ value m = grind (arith, nat_tests) in
    (let first = h.0 in omega arith, below_more (λ k. value k ≤ value m) n h.1 no_more, h.2)

smaller_by : (value : ℕ → ℕ) (n m : ℕ) (b : Bool) → nat_lt (value n) (value m) ≡ b → IsFirstSmallest value n m → IsFirstSmallest value (n + 1) (if b then n else m)
smaller_by value n m true e h =
    let less_there : value n < value m = grind (arith, nat_tests) in
    (omega arith, below_more (λ k. value n ≤ value k) n (λ k less. omega (arith, h.1 k less)) (omega arith), λ k less. omega (arith, h.1 k less))
smaller_by value n m false e h =
    let no_less : value m ≤ value n = grind (arith, nat_tests) in
    (let first = h.0 in omega arith, below_more (λ k. value m ≤ value k) n h.1 no_less, h.2)

pub first_largest_is : (value : ℕ → ℕ) (n : ℕ) → IsFirstLargest value n (first_largest value n)
first_largest_is value zero = (omega arith, λ k less. absurd (omega arith), λ k less. absurd (omega arith))
first_largest_is value (suc n) =
    let m : ℕ = first_largest value n in
    subst (λ k. IsFirstLargest value k (first_largest value (suc n))) (add-one n) (larger_by value n m (nat_lt (value m) (value n)) refl (first_largest_is value n))

pub first_smallest_is : (value : ℕ → ℕ) (n : ℕ) → IsFirstSmallest value n (first_smallest value n)
first_smallest_is value zero = (omega arith, λ k less. absurd (omega arith), λ k less. absurd (omega arith))
first_smallest_is value (suc n) =
    let m : ℕ = first_smallest value n in
    subst (λ k. IsFirstSmallest value k (first_smallest value (suc n))) (add-one n) (smaller_by value n m (nat_lt (value n) (value m)) refl (first_smallest_is value n))

-- the value there, after one more state
larger_of : (a b : ℕ) → (if nat_lt a b then b else a) ≡ max b a
larger_of a b = grind (arith, nat_tests)

smaller_of : (a b : ℕ) → (if nat_lt b a then b else a) ≡ min b a
smaller_of a b = grind (arith, nat_tests)

largest_more : (value : ℕ → ℕ) (n : ℕ) → value (first_largest value (suc n)) ≡ max (value n) (value (first_largest value n))
largest_more value n = picks value (nat_lt (value (first_largest value n)) (value n)) n (first_largest value n) ∙ larger_of (value (first_largest value n)) (value n)

smallest_more : (value : ℕ → ℕ) (n : ℕ) → value (first_smallest value (suc n)) ≡ min (value n) (value (first_smallest value n))
smallest_more value n = picks value (nat_lt (value n) (value (first_smallest value n))) n (first_smallest value n) ∙ smaller_of (value (first_smallest value n)) (value n)

-- the numbers after the states 0 .. n - 1
pub record HasSeen (n : ℕ) (f : Figures) (c : Course) : Type 0 where
  pub totals : AreTotals f c
  pub live : f.most_live ≡ live_after c (first_largest (live_after c) n)
  pub used : f.most_used ≡ used_after c (first_largest (used_after c) n)
  pub size_then : f.size_then ≡ size_after c (first_largest (used_after c) n)
  pub size : f.largest_size ≡ size_after c (first_largest (size_after c) n)
  pub worst : f.worst ≡ counted (first_smallest (region_after c) n)
  pub region : f.worst_region ≡ region_after c (first_smallest (region_after c) n)
  pub free : f.worst_free ≡ free_after c (first_smallest (region_after c) n)
  pub full : f.full_states ≡ counted (count_below (is_full_after c) n)

full_more : (b : Bool) (n full : ℕ) → full ≡ counted n → (if b then counted (full + 1) else full) ≡ counted (n + (if b then 1 else 0))
full_more true n full e = omega arith
full_more false n full e = omega arith

seen_next : (n : ℕ) (f g : Figures) (c : Course) (r : StorageReport) → Sees (counted n) (live_after c n) (used_after c n) (size_after c n) r f g → r.largest_free_region ≡ region_after c n
    → r.total_free_space ≡ free_after c n → HasSeen n f c → HasSeen (suc n) g c
seen_next n f g c r s region free h = record {
  totals = record {
    calls = s.calls ∙ h.totals.calls;
    grants = s.grants ∙ h.totals.grants;
    refusals = s.refusals ∙ h.totals.refusals;
    first_size = s.first_size ∙ h.totals.first_size;
    highest =
        s.highest ∙ h.totals.highest;
  };
  live = s.most_live ∙ ap (max (live_after c n)) h.live ∙ sym (largest_more (live_after c) n);
  used = s.most_used ∙ ap (max (used_after c n)) h.used ∙ sym (largest_more (used_after c) n);
  size_then = let m : ℕ = first_largest (used_after c) n in
      let e : g.size_then ≡ (if nat_lt (used_after c m) (used_after c n) then size_after c n else size_after c m) = rw (← h.used, ← h.size_then) s.size_then in
      e ∙ sym (picks (size_after c) (nat_lt (used_after c m) (used_after c n)) n m);
  size = s.largest_size ∙ ap (max (size_after c n)) h.size ∙ sym (largest_more (size_after c) n);
  worst = let m : ℕ = first_smallest (region_after c) n in
      let e : g.worst ≡ (if nat_lt (region_after c n) (region_after c m) then counted n else counted m) = rw (← region, ← h.region, ← h.worst) s.worst in
      e ∙ sym (picks counted (nat_lt (region_after c n) (region_after c m)) n m);
  region = s.worst_region ∙ ap (min r.largest_free_region) h.region ∙ ap (λ x. min x (region_after c (first_smallest (region_after c) n))) region ∙ sym (smallest_more (region_after c) n);
  free = let m : ℕ = first_smallest (region_after c) n in
      let e : g.worst_free ≡ (if nat_lt (region_after c n) (region_after c m) then free_after c n else free_after c m) = rw (← region, ← h.region, ← free, ← h.free) s.worst_free in
      e ∙ sym (picks (free_after c) (nat_lt (region_after c n) (region_after c m)) n m);
  full = let e : g.full_states ≡ (if is_full_after c n then counted (f.full_states + 1) else f.full_states) = rw (← free) s.full in
      e ∙ full_more (is_full_after c n) (count_below (is_full_after c) n) f.full_states h.full;
}

-- one more state
pub has_seen : (n : ℕ) (f g : Figures) (c : Course) (r : StorageReport) (state live used size : ℕ) → Sees state live used size r f g → state ≡ counted n → live ≡ live_after c n → used ≡ used_after c n
    → size ≡ size_after c n → r.largest_free_region ≡ region_after c n → r.total_free_space ≡ free_after c n → HasSeen n f c → HasSeen (n + 1) g c
has_seen n f g c r state live used size s at-state at-live at-used at-size region free h =
    let s1 : Sees (counted n) live used size r f g = subst (λ x. Sees x live used size r f g) at-state s in
    let s2 : Sees (counted n) (live_after c n) used size r f g = subst (λ x. Sees (counted n) x used size r f g) at-live s1 in
    let s3 : Sees (counted n) (live_after c n) (used_after c n) size r f g = subst (λ x. Sees (counted n) (live_after c n) x size r f g) at-used s2 in
    let s4 : Sees (counted n) (live_after c n) (used_after c n) (size_after c n) r f g = subst (λ x. Sees (counted n) (live_after c n) (used_after c n) x r f g) at-size s3 in
    subst (λ k. HasSeen k g c) (sym (add-one n)) (seen_next n f g c r s4 region free h)

-- no state
pub has_seen_none : (f : Figures) (c : Course) → StartsAs f c → live_after c 0 ≡ 0 → used_after c 0 ≡ 0 → HasSeen 0 f c
has_seen_none f c s no_grants no_units = record {
  totals = s.totals;
  live = s.most_live ∙ sym no_grants;
  used = s.most_used ∙ sym no_units;
  size_then = s.size_then;
  size = s.largest_size;
  worst = s.worst;
  region = s.worst_region;
  free = s.worst_free;
  full = s.full;
}

-- all states
pub all_seen : (f : Figures) (c : Course) → HasSeen (states c) f c → AreFigures f c
all_seen f c h = record {
  totals = h.totals;
  live = (first_largest (live_after c) (states c), first_largest_is (live_after c) (states c), h.live);
  used = (first_largest (used_after c) (states c), first_largest_is (used_after c) (states c), h.used, h.size_then);
  size = (first_largest (size_after c) (states c), first_largest_is (size_after c) (states c), h.size);
  worst = (first_smallest (region_after c) (states c), first_smallest_is (region_after c) (states c), h.worst, h.region, h.free);
  full = h.full;
}
