-- Runs of blocks: what they cost, and where one is large enough.
use Rattle.offset_allocator.proofs.{Classes.down_law, Taken.HasFit, Tallies.tally_append, Tallies.free_sum}
use Rattle.offset_allocator.proofs.{Joints.free_units-append}
use Rattle.offset_allocator.proofs.{Common.ends_used, Common.one}
use Rattle.offset_allocator.proofs.Common.{◌^◌, ◌%◌, is_some, get_or_past, View, IsWellFormed, value, up, down, bin_at, ◌≡◌, ℕ, ◌+◌, ◌*◌, ◌<◌, ◌≤◌, ◌⊎◌, Bool, true, false, not, Option, None}
use Rattle.offset_allocator.proofs.Common.{Some, List, [], ◌∷◌, ◌++◌, length, sum, if◌then◌else◌, refl, sym, ap, ◌∙◌, inl, inr, arith, cases_lt}
use Rattle.offset_allocator.proofs.Common.{true≢false, not-true, Block, free_sizes, count_used, used_units, starts_free, AreCoalesced, ◌&&◌}
use Rattle.offset_allocator.specs.Bins.{IsFoundFrom}
use Rattle.offset_allocator.specs.Moving.Room.{IsRun, IsAtMost, IsLess, cost_of}
use Rattle.offset_allocator.specs.declared.moves.room.RoomCost.{RoomCost}

pub used_units-append : (xs ys : List Block) → used_units (xs ++ ys) ≡ used_units xs + used_units ys
used_units-append xs ys = tally_append (λ (b : Block). if b.used then b.size else 0) xs ys

pub count_used-append : (xs ys : List Block) → count_used (xs ++ ys) ≡ count_used xs + count_used ys
count_used-append xs ys = tally_append (λ (b : Block). one b.used) xs ys

pub free_sum-append : (xs ys : List Block) → sum (free_sizes (xs ++ ys)) ≡ sum (free_sizes xs) + sum (free_sizes ys)
free_sum-append xs ys = omega (arith, free_sum (xs ++ ys), free_sum xs, free_sum ys, free_units-append xs ys)

pub used_few : (bs : List Block) → count_used bs ≤ length bs
used_few [] = omega arith
used_few (b ∷ bs) = let ih = used_few bs in elim b.used as (λ u. one u + count_used bs ≤ length (b ∷ bs)) [ true ↦ omega arith | false ↦ omega arith ]

-- costs
pub at_most_trans : (a b c : RoomCost) → IsAtMost a b → IsAtMost b c → IsAtMost a c
at_most_trans a b c l m = grind arith

pub less_trans : (a b c : RoomCost) → IsLess a b → IsAtMost b c → IsLess a c
less_trans a b c l m = grind arith

pub longer : (xs ys : List Block) → IsAtMost (cost_of xs) (cost_of (xs ++ ys))
longer xs ys = elim (cases_lt 0 (used_units ys)) [
  | inl l ↦ inl (omega (arith, l, used_units-append xs ys))
  | inr l ↦ inr (omega (arith, l, used_units-append xs ys), omega (arith, count_used-append xs ys))
]

-- of two lists that begin a third, one begins the other
pub begins_cases : (xs us ys vs : List Block) → xs ++ ys ≡ us ++ vs → ((zs : List Block) × (xs ≡ us ++ zs)) ⊎ ((z : Block) × (zs : List Block) × (us ≡ xs ++ z ∷ zs))
begins_cases xs [] ys vs e = inl (xs, refl)
begins_cases [] (u ∷ us) ys vs e = inr (u, us, refl)
begins_cases (x ∷ xs) (u ∷ us) ys vs e =
    let same : x ≡ u = cc in
    let rest : xs ++ ys ≡ us ++ vs = cc in
    elim (begins_cases xs us ys vs rest) [
      | inl a ↦ inl (a.0, rw (same, a.1) refl)
      | inr a ↦ inr (a.0, a.1, rw (same, a.2) refl)
    ]

pub ends_used-end : (fs : List Block) (b : Block) → ends_used (fs ++ b ∷ []) ≡ b.used
ends_used-end [] b = refl
ends_used-end (f ∷ []) b = refl
ends_used-end (f ∷ g ∷ fs) b = ends_used-end (g ∷ fs) b

pub block_is : (b : Block) (x n : ℕ) (u : Bool) → b.name ≡ x → n ≡ b.size → u ≡ b.used → b ≡ record { name = x; size = n; used = u }
block_is b x n u e f g = rw (f, g, ← e) refl

-- a run among more blocks
pub run_cases : (run : List Block) (b : Block) (rest : List Block) → IsRun run (b ∷ rest) → ((back : List Block) × (b ∷ rest ≡ run ++ back)) ⊎ IsRun run rest
run_cases run b rest r = go r.front r.is
  where
    go : (front : List Block) → b ∷ rest ≡ front ++ (run ++ r.back) → ((back : List Block) × (b ∷ rest ≡ run ++ back)) ⊎ IsRun run rest
    go [] e = inl (r.back, e)
    go (f ∷ front) e = inr (record { front = front; back = r.back; is = cc; begins = r.begins; ends = r.ends })

-- a run has a free block
pub run_some : (run bs : List Block) → IsRun run bs → free_sizes bs ≡ [] → ⊥
run_some run bs r e = go r.front (sym (ap free_sizes r.is) ∙ e)
  where
    first : (run back : List Block) → starts_free run ≡ true → free_sizes (run ++ back) ≡ [] → ⊥
    first [] back s e = true≢false (sym s)
    first (b ∷ run) back s e = let f = sym (ap (λ (u : Bool). if u then free_sizes (run ++ back) else b.size ∷ free_sizes (run ++ back)) (not-true b.used s)) ∙ e in absurd (cc)

    later : (f : Block) (u : Bool) (rest : List Block) → f.used ≡ u → free_sizes (f ∷ rest) ≡ [] → free_sizes rest ≡ []
    later f true rest h e = sym (ap (λ (v : Bool). if v then free_sizes rest else f.size ∷ free_sizes rest) h) ∙ e
    later f false rest h e = let k = sym (ap (λ (v : Bool). if v then free_sizes rest else f.size ∷ free_sizes rest) h) ∙ e in absurd (cc)

    go : (front : List Block) → free_sizes (front ++ (run ++ r.back)) ≡ [] → ⊥
    go [] e = first run r.back r.begins e
    go (f ∷ front) e = go front (later f f.used (front ++ (run ++ r.back)) refl e)

-- it has no more free units than all blocks
pub run_within : (run bs : List Block) → IsRun run bs → sum (free_sizes run) ≤ sum (free_sizes bs)
run_within run bs r = omega (arith, ap (λ (l : List Block). sum (free_sizes l)) r.is, free_sum-append r.front (run ++ r.back), free_sum-append run r.back)

-- a bin that is found is not empty
pub some_fits : (n k : ℕ) (v : View) (ls : List (List ℕ)) (r : Option ℕ) → k ≡ up n → ls ≡ v.bins → IsFoundFrom k ls r → is_some r ≡ true → HasFit n v
some_fits n k v ls None e o f s = absurd (cc)
some_fits n k v ls (Some c) e o f s = (c, omega (arith, e, f.0), λ q. f.2 (ap (λ (l : List (List ℕ)). bin_at l c) o ∙ q))

-- where none is found, no free block is of such a class
pub none_fits : (v : View) → IsWellFormed v → (n k : ℕ) (ls : List (List ℕ)) (r : Option ℕ) → k ≡ up n → ls ≡ v.bins → IsFoundFrom k ls r → (is_some r ≡ true → ⊥) → HasFit n v → ⊥
none_fits v w n k ls (Some c) e o f s h = s refl
none_fits v w n k ls None e o f s h = elim (cases_lt h.0 256) [
  | inl l ↦ h.2 (sym (ap (λ (m : List (List ℕ)). bin_at m h.0) o) ∙ f h.0 (omega (arith, e, h.1)) l)
  | inr l ↦ h.2 (get_or_past v.bins h.0 [] (omega (arith, l, w.classes)))
]

-- the free units of a class that all free units together have not
pub few_units : (n k d s : ℕ) → s < 2 ^ 32 → k ≡ up n → d ≡ down s → d < k → s < value (up n)
few_units n k d s h e f l = elim (cases_lt s (value (up n))) [ inl m ↦ m | inr m ↦ absurd (let a = (down_law s (up n) h).1 m in omega (arith, a, e, f, l)) ]

-- a class that all free units together have is one of a value that a word holds
pub want_is : (n k d s w : ℕ) → s < 2 ^ 32 → k ≡ up n → d ≡ down s → k ≤ d → w ≡ value k % 2 ^ 32 → w ≡ value (up n)
want_is n k d s w h e f l q = let a = (down_law s k h).0 (omega (arith, f, l)) in omega (arith, q, a, h, ap value e)

-- blocks of which no two neighbours are free are at most twice as many as the used ones, and one
pub apart_few : (bs : List Block) → AreCoalesced bs → length bs ≤ 2 * count_used bs + 1
apart_few [] h = omega arith
apart_few (b ∷ []) h = omega arith
apart_few (b ∷ d ∷ bs) h = go b.used refl (apart_few (d ∷ bs) h.1) (apart_few bs h.1.1)
  where
    go : (u : Bool) → b.used ≡ u → length (d ∷ bs) ≤ 2 * count_used (d ∷ bs) + 1 → length bs ≤ 2 * count_used bs + 1 → length (b ∷ d ∷ bs) ≤ 2 * count_used (b ∷ d ∷ bs) + 1
    go true e ih more = omega (arith, ih, ap one e)
    go false e ih more = omega (arith, more, ap one e, ap one (next d.used refl (ap (λ u. not u && starts_free (d ∷ bs)) (sym e) ∙ h.0)))
      where
        next : (u : Bool) → d.used ≡ u → starts_free (d ∷ bs) ≡ false → d.used ≡ true
        next true q k = q
        next false q k = absurd (true≢false (sym (ap not q) ∙ k))
