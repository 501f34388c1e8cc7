-- A run that slides by whole steps, at two states that differ only in numbers and stamps.
use Rattle.offset_calls.proofs.Common.{◌≡◌, ℕ, suc, ◌+◌, ◌-◌, ◌*◌, ◌≤◌, Bool, true, false, not, ◌⊎◌, List, [], ◌∷◌, ◌++◌, length, if◌then◌else◌, refl, sym, ap}
use Rattle.offset_calls.proofs.Common.{◌&&◌, nat_eq, ap₂, subst, subst₂, ◌∙◌, inl, inr, arith, lt-ltb, le-ltb, cases_lt, map-append, length-map, State, is_free, stamp_of_call}
use Rattle.offset_script.proofs.Alike.{IsAlike, IsMatched}
use Rattle.offset_script.proofs.Pairs.{Kind, Lives, Frees, Pair, pair, left_tag, left, right, lefts, rights, AreAgreed, IsSameOrder, same_free, pair_free_part, lefts_free_part, rights_free_part, in_free_part}
use Rattle.offset_script.proofs.{Members.IsIn, Members.in_append, Members.in_left, Members.in_right, Labels.map_three}
use Rattle.offset_calls.specs.Stepped.{kept, stepped, given_up, used_up, slid_by, slid_run}
use Rattle.offset_script.specs.Machine as machine

pub kept_right : (n m : ℕ) (ps : List Pair) → kept n m (lefts ps) ≡ kept n m (rights ps)
kept_right n m [] = refl
kept_right n m (q ∷ ps) = refl

-- the pairs of what is left, where stamps rise from s and from u on
abbrev left_pair : ℕ → ℕ → ℕ → Pair → List Pair → List Pair
left_pair n s u q ps = if is_free (left_tag q.kind) then pair_free_part (kept n q.size (lefts ps)) (Frees s u) else q ∷ []

abbrev stepped_pairs : ℕ → ℕ → ℕ → List Pair → List Pair
stepped_pairs n s u [] = []
stepped_pairs n s u (q ∷ ps) = left_pair n s u q ps ++ stepped_pairs n (s + 1) (u + 1) ps

lefts_stepped : (n s u : ℕ) (ps : List Pair) → lefts (stepped_pairs n s u ps) ≡ stepped n s (lefts ps)
lefts_stepped n s u [] = refl
lefts_stepped n s u (q ∷ ps) = map-append left (left_pair n s u q ps) (stepped_pairs n (s + 1) (u + 1) ps) ∙ ap₂ (λ a b. a ++ b) (go (is_free (left_tag q.kind))) (lefts_stepped n (s + 1) (u + 1) ps)
  where
    go : (t : Bool) → lefts (if t then pair_free_part (kept n q.size (lefts ps)) (Frees s u) else q ∷ []) ≡ (if t then machine.free_part (kept n q.size (lefts ps)) s else left q ∷ [])
    go true = lefts_free_part (kept n q.size (lefts ps)) s u
    go false = refl

rights_stepped : (n s u : ℕ) (ps : List Pair) → rights (stepped_pairs n s u ps) ≡ stepped n u (rights ps)
rights_stepped n s u [] = refl
rights_stepped n s u (q ∷ ps) = map-append right (left_pair n s u q ps) (stepped_pairs n (s + 1) (u + 1) ps)
    ∙ ap₂ (λ a b. a ++ b) (go (is_free (left_tag q.kind)) ∙ ap (λ t. if t then machine.free_part (kept n q.size (rights ps)) u else right q ∷ []) (same_free q.kind)) (rights_stepped n (s + 1) (u + 1) ps)
  where
    go : (t : Bool) → rights (if t then pair_free_part (kept n q.size (lefts ps)) (Frees s u) else q ∷ []) ≡ (if t then machine.free_part (kept n q.size (rights ps)) u else right q ∷ [])
    go true = rights_free_part (kept n q.size (lefts ps)) s u ∙ ap (λ k. machine.free_part k u) (kept_right n q.size ps)
    go false = refl

pub given_pairs : (n : ℕ) (ps : List Pair) → given_up n (lefts ps) ≡ given_up n (rights ps)
given_pairs n [] = refl
given_pairs n (q ∷ ps) = ap₂ (λ a b. a + b) (ap₂ (λ (t : Bool) k. if t then q.size - k else 0) (same_free q.kind) (kept_right n q.size ps)) (given_pairs n ps)

pub used_pairs : (n : ℕ) (ps : List Pair) → used_up n (lefts ps) ≡ used_up n (rights ps)
used_pairs n [] = refl
used_pairs n (q ∷ ps) = ap₂ (λ a b. a + b) (ap₂ (λ (t : Bool) k. if t && nat_eq k 0 then 1 else 0) (same_free q.kind) (kept_right n q.size ps)) (used_pairs n ps)

abbrev slid_pairs : ℕ → ℕ → ℕ → List Pair → List Pair
slid_pairs n s u ps = stepped_pairs n s u ps ++ pair (given_up n (lefts ps)) (Frees (s + length (lefts ps)) (u + length (lefts ps))) ∷ []

lefts_slid : (n s u : ℕ) (ps : List Pair) → lefts (slid_pairs n s u ps) ≡ slid_by n s (lefts ps)
lefts_slid n s u ps = map-append left (stepped_pairs n s u ps) _ ∙ ap (λ l. l ++ machine.block (given_up n (lefts ps)) (machine.Free (s + length (lefts ps))) ∷ []) (lefts_stepped n s u ps)

rights_slid : (n s u : ℕ) (ps : List Pair) → rights (slid_pairs n s u ps) ≡ slid_by n u (rights ps)
rights_slid n s u ps = map-append right (stepped_pairs n s u ps) _
    ∙ ap₂ (λ l (m : ℕ). l ++ machine.block (given_up n (lefts ps)) (machine.Free (u + m)) ∷ []) (rights_stepped n s u ps) (length-map ps left ∙ sym (length-map ps right))
    ∙ ap (λ (m : ℕ). stepped n u (rights ps) ++ machine.block m (machine.Free (u + length (rights ps))) ∷ []) (given_pairs n ps)

-- a free pair that has the stamps at one place from s and from u on
abbrev pub IsStamped : ℕ → ℕ → ℕ → Pair → Type 0
IsStamped s u l q = (e : ℕ) × (e ≤ l) × (q.kind ≡ Frees (s + e) (u + e))

later : (s u l : ℕ) (q : Pair) → IsStamped (s + 1) (u + 1) l q → IsStamped s u (suc l) q
later s u l q i = (i.0 + 1, omega (arith, i.1), i.2 ∙ ap₂ Frees (omega arith) (omega arith))

in_stepped : (n s u : ℕ) (ps : List Pair) (q : Pair) → IsIn q (stepped_pairs n s u ps) → IsIn q ps ⊎ IsStamped s u (length ps) q
in_stepped n s u [] q i = absurd i
in_stepped n s u (p ∷ ps) q i = elim (in_append q (left_pair n s u p ps) (stepped_pairs n (s + 1) (u + 1) ps) i) [
  | inl h ↦ go (is_free (left_tag p.kind)) h
  | inr h ↦ elim (in_stepped n (s + 1) (u + 1) ps q h) [ inl j ↦ inl (inr j) | inr j ↦ inr (later s u (length ps) q j) ]
]
  where
    go : (t : Bool) → IsIn q (if t then pair_free_part (kept n p.size (lefts ps)) (Frees s u) else p ∷ []) → IsIn q (p ∷ ps) ⊎ IsStamped s u (suc (length ps)) q
    go true h = inr (0, omega arith, in_free_part q (kept n p.size (lefts ps)) (Frees s u) h ∙ ap₂ Frees (omega arith) (omega arith))
    go false (inl e) = inl (inl e)
    go false (inr e) = absurd e

in_slid : (n s u : ℕ) (ps : List Pair) (q : Pair) → IsIn q (slid_pairs n s u ps) → IsIn q ps ⊎ IsStamped s u (length ps) q
in_slid n s u ps q i = elim (in_append q (stepped_pairs n s u ps) _ i) [
  | inl h ↦ in_stepped n s u ps q h
  | inr (inl e) ↦ inr (length (lefts ps), omega (arith, length-map ps left), ap (λ (z : Pair). z.kind) e)
  | inr (inr e) ↦ absurd e
]

pub same_last : (ps : List Pair) → machine.ends_live (lefts ps) ≡ machine.ends_live (rights ps)
same_last [] = refl
same_last (q ∷ []) = ap not (same_free q.kind)
same_last (q ∷ x ∷ ps) = same_last (x ∷ ps)

-- ---- the states are alike again

matched_more : (r : ℕ → ℕ) (x y x' y' : ℕ) (k : Kind) → x ≤ x' → y ≤ y' → IsMatched r x y k → IsMatched r x' y' k
matched_more r x y x' y' (Lives i j) l m h = h
matched_more r x y x' y' (Frees i j) l m h = (omega (arith, l, h.0), omega (arith, m, h.1))

old_new : (r : ℕ → ℕ) (x y e : ℕ) (a b : Kind) → IsMatched r (2 * (x + 1)) (2 * (y + 1)) a → b ≡ Frees (2 * (x + 1) + 1 + e) (2 * (y + 1) + 1 + e) → IsSameOrder a b
old_new r x y e (Lives i j) b m k = tt
old_new r x y e (Frees i j) b m k = subst (IsSameOrder (Frees i j)) (sym k)
    (lt-ltb i (2 * (x + 1) + 1 + e) (omega (arith, m.0)) ∙ sym (lt-ltb j (2 * (y + 1) + 1 + e) (omega (arith, m.1))))

new_old : (r : ℕ → ℕ) (x y e : ℕ) (a b : Kind) → a ≡ Frees (2 * (x + 1) + 1 + e) (2 * (y + 1) + 1 + e) → IsMatched r (2 * (x + 1)) (2 * (y + 1)) b → IsSameOrder a b
new_old r x y e a (Lives i j) k m = subst (λ z. IsSameOrder z (Lives i j)) (sym k) tt
new_old r x y e a (Frees i j) k m = subst (λ z. IsSameOrder z (Frees i j)) (sym k)
    (le-ltb (2 * (x + 1) + 1 + e) i (omega (arith, m.0)) ∙ sym (le-ltb (2 * (y + 1) + 1 + e) j (omega (arith, m.1))))

new_new : (x y e f : ℕ) (a b : Kind) → a ≡ Frees (x + e) (y + e) → b ≡ Frees (x + f) (y + f) → IsSameOrder a b
new_new x y e f a b k l = subst₂ IsSameOrder (sym k) (sym l) (elim (cases_lt e f) [
  | inl m ↦ lt-ltb (x + e) (x + f) (omega (arith, m)) ∙ sym (lt-ltb (y + e) (y + f) (omega (arith, m)))
  | inr m ↦ le-ltb (x + e) (x + f) (omega (arith, m)) ∙ sym (le-ltb (y + e) (y + f) (omega (arith, m)))
])

module _ (r : ℕ → ℕ) (d : ℕ) (s t : State) (a : IsAlike r d s t) (n : ℕ) (f k b : List Pair) (e : a.pairs ≡ f ++ (k ++ b)) where
  -- the pairs that the run leaves
  abbrev now : List Pair
  now = f ++ (slid_pairs n (stamp_of_call s) (stamp_of_call t) k ++ b)

  abbrev IsLeft : Pair → Type 0
  IsLeft q = IsIn q a.pairs ⊎ IsStamped (stamp_of_call s) (stamp_of_call t) (length k) q

  each : (q : Pair) → IsIn q now → IsLeft q
  each q i = elim (in_append q f _ i) [
    | inl h ↦ inl (subst (IsIn q) (sym e) (in_left q f (k ++ b) h))
    | inr h ↦ elim (in_append q (slid_pairs n (stamp_of_call s) (stamp_of_call t) k) b h) [
      | inl z ↦ elim (in_slid n (stamp_of_call s) (stamp_of_call t) k q z) [ inl j ↦ inl (subst (IsIn q) (sym e) (in_right q f (k ++ b) (in_left q k b j))) | inr j ↦ inr j ]
      | inr z ↦ inl (subst (IsIn q) (sym e) (in_right q f (k ++ b) (in_right q k b z)))
    ]
  ]

  matched : (q : Pair) → IsLeft q → IsMatched r (2 * (s.calls + length (lefts k) + 1 + 1)) (2 * (t.calls + length (rights k) + 1 + 1)) q.kind
  matched q (inl i) = matched_more r _ _ _ _ q.kind (omega arith) (omega arith) (a.matched q i)
  matched q (inr i) = subst (IsMatched r (2 * (s.calls + length (lefts k) + 1 + 1)) (2 * (t.calls + length (rights k) + 1 + 1))) (sym i.2)
      (omega (arith, i.1, length-map k left), omega (arith, i.1, length-map k right))

  agreed : (x y : Pair) → IsLeft x → IsLeft y → AreAgreed x y
  agreed x y (inl i) (inl j) = a.agree x y i j
  agreed x y (inl i) (inr j) = λ same. old_new r s.calls t.calls j.0 x.kind y.kind (a.matched x i) j.2
  agreed x y (inr i) (inl j) = λ same. new_old r s.calls t.calls i.0 x.kind y.kind i.2 (a.matched y j)
  agreed x y (inr i) (inr j) = λ same. new_new (stamp_of_call s) (stamp_of_call t) i.0 j.0 x.kind y.kind i.2 j.2

  pub run_alike : IsAlike r d (slid_run n s (record { front = lefts f; run = lefts k; back = lefts b })) (slid_run n t (record { front = rights f; run = rights k; back = rights b }))
  run_alike = record {
    limit = a.limit;
    pairs = now;
    left_blocks = ap (λ l. lefts f ++ (l ++ lefts b)) (sym (lefts_slid n (stamp_of_call s) (stamp_of_call t) k)) ∙ sym (map_three left f (slid_pairs n (stamp_of_call s) (stamp_of_call t) k) b);
    right_blocks = ap (λ l. rights f ++ (l ++ rights b)) (sym (rights_slid n (stamp_of_call s) (stamp_of_call t) k)) ∙ sym (map_three right f (slid_pairs n (stamp_of_call s) (stamp_of_call t) k) b);
    matched = λ q i. matched q (each q i);
    agree = λ x y i j. agreed x y (each x i) (each y j);
    grants = a.grants;
    past = a.past;
    future = a.future;
  }
