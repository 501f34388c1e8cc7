-- A search over the runs of blocks on a way, for what they give up by steps.
use Rattle.offset_allocator.proofs.Common.{◌≡◌, ℕ, ◌+◌, ◌-◌, ◌%◌, ◌≤◌, ◌⊎◌, Bool, true, false, not, ◌&&◌, nat_eq, Option, None, Some, List, [], ◌∷◌, ◌++◌, length, drop, if◌then◌else◌, refl, sym}
use Rattle.offset_allocator.proofs.Common.{ap, subst, ◌≢◌, ne_eqb, ◌∙◌, inl, inr, arith, append_assoc, append-nil, true≢false, Block, one, starts_free, ends_used, count_used, used_units}
use Rattle.offset_allocator.proofs.{Tallies.tally_append, Moving.Runs.used_units-append, Moving.Runs.count_used-append, Moving.Runs.at_most_trans, Moving.Runs.less_trans}
use Rattle.offset_allocator.proofs.{Common.units, Moving.Runs.used_few, Moving.Runs.longer, Moving.Runs.ends_used-end, Common.cases_lt}
use Rattle.offset_allocator.proofs.Moving.Stepping.{emptied_used, given_used}
use Rattle.offset_allocator.specs.Moving.BySteps.{kept, given_up, used_up}
use Rattle.offset_allocator.specs.Moving.Room.{IsRun, IsAtMost, IsLess, cost_of}
use Rattle.offset_allocator.specs.Moving.RoomBySteps.{Serves, CostMoreBy}
use Rattle.offset_allocator.specs.Moving.Spans.{whole_steps, all_steps, AreSums, HaveSteps, IsBetter}
use Rattle.offset_allocator.specs.declared.moves.room.RoomCost.{RoomCost}
use Rattle.offset_allocator.specs.declared.moves.runs.Run.{Run}
use Rattle.std.proofs.Math.Nat.{mod-le}
use Rattle.offset_allocator.specs.declared.moves.runs.Sums.{Sums}

-- ---- what blocks give up before a free one
kept-before : (s n : ℕ) (bs : List Block) (e : Block) → kept s n (bs ++ e ∷ []) ≡ n % s
kept-before s n [] e = refl
kept-before s n (b ∷ bs) e = refl

pub given-before : (s : ℕ) (bs : List Block) (e : Block) → e.used ≡ false → given_up s (bs ++ e ∷ []) ≡ whole_steps s bs + e.size
given-before s [] e u = omega (arith, ap (λ (t : Bool). if t then 0 else e.size - 0) u)
given-before s (b ∷ bs) e u =
    ap (λ (k : ℕ). (if b.used then 0 else b.size - k) + given_up s (bs ++ e ∷ [])) (kept-before s b.size bs e)
    ∙ omega (arith, given-before s bs e u)

spent-one : (t : Bool) (b : Block) (l : List Block) → length ((if t then b ∷ [] else []) ++ l) ≡ one t + length l
spent-one true b l = omega arith
spent-one false b l = omega arith

pub spent-before : (s : ℕ) (bs : List Block) (e : Block) → e.used ≡ false → length (used_up s (bs ++ e ∷ [])) ≡ all_steps s bs + 1
spent-before s [] e u = spent-one (not e.used && true) e [] ∙ omega (arith, ap (λ (t : Bool). one (not t && true)) u)
spent-before s (b ∷ bs) e u =
    spent-one (not b.used && nat_eq (kept s b.size (bs ++ e ∷ [])) 0) b (used_up s (bs ++ e ∷ []))
    ∙ ap (λ (k : ℕ). one (not b.used && nat_eq k 0) + length (used_up s (bs ++ e ∷ []))) (kept-before s b.size bs e)
    ∙ omega (arith, spent-before s bs e u)

whole-append : (s : ℕ) (xs ys : List Block) → whole_steps s (xs ++ ys) ≡ whole_steps s xs + whole_steps s ys
whole-append s xs ys = tally_append (λ (b : Block). if b.used then 0 else b.size - b.size % s) xs ys

all-append : (s : ℕ) (xs ys : List Block) → all_steps s (xs ++ ys) ≡ all_steps s xs + all_steps s ys
all-append s xs ys = tally_append (λ (b : Block). one (not b.used && nat_eq (b.size % s) 0)) xs ys

one_few : (t : Bool) → one t ≤ 1
one_few true = omega arith
one_few false = omega arith

module _ (s want short : ℕ) (e : Block) (u : e.used ≡ false) where
  pub serves_is : (bs : List Block) → want ≤ whole_steps s bs + e.size → short ≤ all_steps s bs + 1 → Serves s want short (bs ++ e ∷ [])
  serves_is bs l m = record { units = omega (arith, l, given-before s bs e u); names = omega (arith, m, spent-before s bs e u) }

  pub serves_in : (bs : List Block) → Serves s want short (bs ++ e ∷ []) → (want ≤ whole_steps s bs + e.size) × (short ≤ all_steps s bs + 1)
  serves_in bs h = (omega (arith, h.units, given-before s bs e u), omega (arith, h.names, spent-before s bs e u))

  -- more blocks at the start serve too
  pub serves_more : (xs ys : List Block) → Serves s want short (ys ++ e ∷ []) → Serves s want short ((xs ++ ys) ++ e ∷ [])
  serves_more xs ys h =
      let k = serves_in ys h in
      serves_is (xs ++ ys) (omega (arith, k.0, whole-append s xs ys)) (omega (arith, k.1, all-append s xs ys))

  whole-end : (bs : List Block) → whole_steps s (bs ++ e ∷ []) ≡ whole_steps s bs + (e.size - e.size % s)
  whole-end bs = omega (arith, whole-append s bs (e ∷ []), ap (λ (t : Bool). if t then 0 else e.size - e.size % s) u)

  all-end : (bs : List Block) → all_steps s (bs ++ e ∷ []) ≡ all_steps s bs + one (nat_eq (e.size % s) 0)
  all-end bs = omega (arith, all-append s bs (e ∷ []), ap (λ (t : Bool). one (not t && nat_eq (e.size % s) 0)) u)

  -- in whole steps, where those of the free one are among them
  module _ {need few : ℕ} (need_is : need ≡ want - e.size % s) (few_is : few ≡ short - (1 - one (nat_eq (e.size % s) 0))) where
    pub steps_serve : (bs : List Block) → HaveSteps s need few (bs ++ e ∷ []) → Serves s want short (bs ++ e ∷ [])
    steps_serve bs h = serves_is bs (omega (arith, h.0, need_is, whole-end bs, mod-le e.size s)) (omega (arith, h.1, few_is, all-end bs, one_few (nat_eq (e.size % s) 0)))

    pub serve_steps : (bs : List Block) → Serves s want short (bs ++ e ∷ []) → HaveSteps s need few (bs ++ e ∷ [])
    serve_steps bs h =
        let k = serves_in bs h in
        (omega (arith, k.0, need_is, whole-end bs, mod-le e.size s), omega (arith, k.1, few_is, all-end bs, one_few (nat_eq (e.size % s) 0)))

    -- where that one is not enough alone they have some
    pub some_needed : (want ≤ e.size → short ≤ 1 → ⊥) → 1 ≤ need + few
    some_needed alone = elim (cases_lt 0 (need + few)) [
      | inl l ↦ omega (arith, l)
      | inr z ↦ absurd (alone (omega (arith, z, need_is, mod-le e.size s)) (omega (arith, z, few_is)))
    ]

-- ---- lists
-- the last one of some blocks
abbrev Last : List Block → Type 0
Last l = (l ≡ []) ⊎ ((fs : List Block) × (x : Block) × (l ≡ fs ++ x ∷ []))

pub last_of : (l : List Block) → Last l
last_of [] = inl refl
last_of (b ∷ l) = elim (last_of l) [
  | inl e ↦ inr ([], b, ap (λ k. b ∷ k) e)
  | inr h ↦ inr (b ∷ h.0, h.1, ap (λ k. b ∷ k) h.2)
]

pub ends_same : (xs ys : List Block) (x y : Block) → xs ++ x ∷ [] ≡ ys ++ y ∷ [] → (xs ≡ ys) × (x ≡ y)
ends_same [] [] x y e = (refl, cc)
ends_same [] (b ∷ []) x y e = absurd (cc)
ends_same [] (b ∷ c ∷ ys) x y e = absurd (cc)
ends_same (a ∷ []) [] x y e = absurd (cc)
ends_same (a ∷ c ∷ xs) [] x y e = absurd (cc)
ends_same (a ∷ xs) (b ∷ ys) x y e =
    let first : a ≡ b = cc in
    let rest : xs ++ x ∷ [] ≡ ys ++ y ∷ [] = cc in
    let k = ends_same xs ys x y rest in
    (rw (first, k.0) refl, k.1)

-- the last blocks of two lists: all of the second and some of the first, or fewer than the second
pub split_cases : (xs ys pre suf : List Block) → xs ++ ys ≡ pre ++ suf
    → ((zs : List Block) × (xs ≡ pre ++ zs) × (suf ≡ zs ++ ys)) ⊎ ((z : Block) × (zs : List Block) × (ys ≡ z ∷ (zs ++ suf)))
split_cases [] ys [] suf e = inl ([], refl, sym e)
split_cases [] ys (p ∷ pre) suf e = inr (p, pre, e)
split_cases (x ∷ xs) ys [] suf e = inl (x ∷ xs, refl, sym e)
split_cases (x ∷ xs) ys (p ∷ pre) suf e =
    let first : x ≡ p = cc in
    let rest : xs ++ ys ≡ pre ++ suf = cc in
    elim (split_cases xs ys pre suf rest) [
      | inl k ↦ inl (k.0, rw (first, k.1) refl, k.2)
      | inr k ↦ inr k
    ]

-- ---- costs
with_front : (xs ys : List Block) → IsAtMost (cost_of ys) (cost_of (xs ++ ys))
with_front xs ys = elim (cases_lt 0 (used_units xs)) [
  | inl l ↦ inl (omega (arith, l, used_units-append xs ys))
  | inr l ↦ inr (omega (arith, l, used_units-append xs ys), omega (arith, count_used-append xs ys))
]

less_at_most : (a b : RoomCost) → IsLess a b → IsAtMost a b
less_at_most a b l = grind arith

-- a run that has these blocks within it costs no less
within : (xs ys zs : List Block) → IsAtMost (cost_of ys) (cost_of ((xs ++ ys) ++ zs))
within xs ys zs = at_most_trans (cost_of ys) (cost_of (xs ++ ys)) (cost_of ((xs ++ ys) ++ zs)) (with_front xs ys) (longer (xs ++ ys) zs)

pub cost_is : (c : RoomCost) (us : List Block) → c.units ≡ used_units us → c.ranges ≡ count_used us → c ≡ cost_of us
cost_is c us e f = rw (← e, ← f) refl

-- ---- runs
-- a run that ends in one more block
record IsNew (bs : List Block) (b : Block) (run : List Block) : Type 0 where
  pre : List Block
  suf : List Block
  is : bs ≡ pre ++ suf
  whole : run ≡ suf ++ b ∷ []
  free : b.used ≡ false

pub no_run : (run : List Block) → IsRun run [] → ⊥
no_run [] r = true≢false (sym r.begins)
no_run (b ∷ run) r = go r.front r.is
  where
    go : (front : List Block) → [] ≡ front ++ ((b ∷ run) ++ r.back) → ⊥
    go [] e = absurd (cc)
    go (f ∷ front) e = absurd (cc)

new_or_old : (run bs : List Block) (b : Block) → IsRun run (bs ++ b ∷ []) → IsRun run bs ⊎ IsNew bs b run
new_or_old run bs b r = elim (last_of r.back) [
  | inr h ↦
      let e : bs ++ b ∷ [] ≡ (r.front ++ (run ++ h.0)) ++ h.1 ∷ [] =
      r.is ∙ ap (λ l. r.front ++ (run ++ l)) h.2 ∙ ap (λ l. r.front ++ l) (sym (append_assoc run h.0 (h.1 ∷ []))) ∙ sym (append_assoc r.front (run ++ h.0) (h.1 ∷ [])) in
      inl (record { front = r.front; back = h.0; is = (ends_same bs (r.front ++ (run ++ h.0)) b h.1 e).0; begins = r.begins; ends = r.ends })
  | inl none ↦ elim (last_of run) [
    | inl z ↦ absurd (true≢false (sym (sym (ap starts_free z) ∙ r.begins)))
    | inr h ↦
        let e : bs ++ b ∷ [] ≡ (r.front ++ h.0) ++ h.1 ∷ [] =
        r.is ∙ ap (λ l. r.front ++ (run ++ l)) none ∙ ap (λ l. r.front ++ l) (append-nil run ∙ h.2) ∙ sym (append_assoc r.front h.0 (h.1 ∷ [])) in
        let k = ends_same bs (r.front ++ h.0) b h.1 e in
        inr (record {
          pre = r.front;
          suf = h.0;
          is = k.0;
          whole = h.2 ∙ ap (λ x. h.0 ++ x ∷ []) (sym k.1);
          free = ap (λ (x : Block). x.used) k.1 ∙ sym (ends_used-end h.0 h.1) ∙ sym (ap ends_used h.2) ∙ r.ends;
        })
  ]
]

new_back : (xs : List Block) {l : List Block} {b : Block} {run : List Block} → IsNew l b run → IsNew (xs ++ l) b run
new_back xs k = record { pre = xs ++ k.pre; suf = k.suf; is = ap (λ m. xs ++ m) k.is ∙ sym (append_assoc xs k.pre k.suf); whole = k.whole; free = k.free }

pub drop_back : {run : List Block} (xs ys : List Block) → IsRun run (drop 1 ys) → IsRun run (drop 1 (xs ++ ys))
drop_back [] ys r = r
drop_back (x ∷ xs) [] r = absurd (no_run _ r)
drop_back (x ∷ xs) (y ∷ ys) r = record {
  front = xs ++ y ∷ r.front;
  back = r.back;
  is = ap (λ l. xs ++ y ∷ l) r.is ∙ sym (append_assoc xs (y ∷ r.front) (_ ++ r.back));
  begins = r.begins;
  ends = r.ends;
}

-- ---- blocks in numbers
whole_few : (s : ℕ) (bs : List Block) → whole_steps s bs + used_units bs ≤ units bs
whole_few s [] = omega arith
whole_few s (b ∷ bs) =
    let ih = whole_few s bs in
    elim b.used as (λ u. ((if u then 0 else b.size - b.size % s) + whole_steps s bs) + ((if u then b.size else 0) + used_units bs) ≤ b.size + units bs) [
      | true ↦ omega (arith, ih)
      | false ↦ omega (arith, ih)
    ]

all_few : (s : ℕ) (bs : List Block) → all_steps s bs ≤ length bs
all_few s [] = omega arith
all_few s (b ∷ bs) = omega (arith, all_few s bs, one_few (not b.used && nat_eq (b.size % s) 0))

pub none_left : {n : ℕ} → n ≡ 0 → one (nat_eq n 0) ≡ 1
none_left e = ap (λ (k : ℕ). one (nat_eq k 0)) e

pub some_left : {n : ℕ} → n ≢ 0 → one (nat_eq n 0) ≡ 0
some_left {n} ne = ap one (ne_eqb n 0 ne)

module _ {s : ℕ} {n : Sums} {bs : List Block} (h : AreSums s n bs) where
  pub sums_fit : (n.whole + n.units ≤ units bs) × (n.names ≤ length bs) × (n.ranges ≤ length bs)
  sums_fit = (omega (arith, h.whole, h.units, whole_few s bs), omega (arith, h.names, all_few s bs), omega (arith, h.ranges, used_few bs))

  module _ (b : Block) {size : ℕ} (is : b.size ≡ size) where
    pub and_used : b.used ≡ true → AreSums s (record n { units = n.units + size; ranges = n.ranges + 1 }) (bs ++ b ∷ [])
    and_used u = record {
      whole = omega (arith, h.whole, whole-append s bs (b ∷ []), ap (λ (t : Bool). if t then 0 else b.size - b.size % s) u);
      names = omega (arith, h.names, all-append s bs (b ∷ []), ap (λ (t : Bool). one (not t && nat_eq (b.size % s) 0)) u);
      units = omega (arith, h.units, is, used_units-append bs (b ∷ []), ap (λ (t : Bool). if t then b.size else 0) u);
      ranges = omega (arith, h.ranges, count_used-append bs (b ∷ []), ap one u);
    }

    pub and_free : b.used ≡ false → (k m : ℕ) → k ≡ n.whole + (size - size % s) → m ≡ n.names + one (nat_eq (size % s) 0)
        → AreSums s (record n { whole = k; names = m }) (bs ++ b ∷ [])
    and_free u k m whole names = record {
      whole = omega (arith, whole, h.whole, whole-append s bs (b ∷ []), ap (λ (t : Bool). if t then 0 else b.size - b.size % s) u, ap (λ (i : ℕ). i - i % s) is);
      names = omega (
        arith,
        names,
        h.names,
        all-append s bs (b ∷ []),
        ap (λ (t : Bool). one (not t && nat_eq (b.size % s) 0)) u,
        ap (λ (i : ℕ). one (nat_eq (i % s) 0)) is,
      );
      units = omega (arith, h.units, used_units-append bs (b ∷ []), ap (λ (t : Bool). if t then b.size else 0) u);
      ranges = omega (arith, h.ranges, count_used-append bs (b ∷ []), ap one u);
    }

-- ---- the best run so far
-- the known run is that of the cheapest ones among blocks on a way that begins last in space; those of the span come last.
-- Runs that begin before the span cost no less than the span, and on a way that goes on more, where they begin after the
-- known run
pub record IsKnown (back : Bool) (s want short : ℕ) (front bs : List Block) (r : Run) : Type 0 where
  pub before : List Block
  pub block : Block
  pub rest : List Block
  pub after : List Block
  pub is : front ++ bs ≡ before ++ block ∷ (rest ++ after)
  pub idle : block.used ≡ false
  pub init : List Block
  pub last : Block
  pub split : block ∷ rest ≡ init ++ last ∷ []
  pub free : last.used ≡ false
  pub serves : Serves s want short (block ∷ rest)
  pub cost : r.cost ≡ cost_of (block ∷ rest)
  pub first : block.name ≡ r.first
  pub end : last.name ≡ r.end
  pub later : back ≡ false → CostMoreBy s want short r.cost (rest ++ after)
  pub sooner : back ≡ true → CostMoreBy s want short r.cost (before ++ init)
  pub least : (other : List Block) → IsRun other (front ++ bs) → Serves s want short other → IsAtMost r.cost (cost_of other)
  pub behind : (front ≡ []) ⊎ (IsAtMost r.cost (cost_of bs) × (back ≡ false → IsLess r.cost (cost_of bs) ⊎ (bs ≡ block ∷ (rest ++ after))))

-- no run of blocks serves
abbrev pub HasNone : ℕ → ℕ → ℕ → List Block → Type 0
HasNone s want short bs = (run : List Block) → IsRun run bs → Serves s want short run → ⊥

abbrev pub IsBest : Bool → ℕ → ℕ → ℕ → List Block → List Block → Option Run → Type 0
IsBest back s want short front bs None = (front ≡ []) × HasNone s want short (front ++ bs)
IsBest back s want short front bs (Some r) = IsKnown back s want short front bs r

-- a block that is not enough alone is no run that serves
pub alone_none : (s want short : ℕ) (b : Block) → (b.used ≡ false → want ≤ b.size → short ≤ 1 → ⊥) → HasNone s want short (b ∷ [])
alone_none s want short b alone run r h = elim (new_or_old run [] b r) [
  | inl q ↦ no_run run q
  | inr q ↦ go q.pre q.suf q.is (subst (Serves s want short) q.whole h) q.free
]
  where
    go : (pre suf : List Block) → [] ≡ pre ++ suf → Serves s want short (suf ++ b ∷ []) → b.used ≡ false → ⊥
    go [] [] e k u = let m = serves_in s want short b u [] k in alone u (omega (arith, m.0)) (omega (arith, m.1))
    go [] (x ∷ suf) e k u = absurd (cc)
    go (p ∷ pre) suf e k u = absurd (cc)

not_empty : (pre : List Block) (z : Block) (zs : List Block) → pre ++ z ∷ zs ≡ [] → ⊥
not_empty [] z zs e = absurd (cc)
not_empty (p ∷ pre) z zs e = absurd (cc)

-- where runs that serve begin with the first block alone, they do so with one more block too
pub none_turn : (s want short : ℕ) (b : Block) (bs : List Block) → HasNone s want short (drop 1 bs)
    → ((x : Block) (l : List Block) → bs ≡ x ∷ l → b.used ≡ false → Serves s want short (l ++ b ∷ []) → ⊥) → HasNone s want short (drop 1 (bs ++ b ∷ []))
none_turn s want short b [] t k run r h = no_run run r
none_turn s want short b (x ∷ l) t k run r h = elim (new_or_old run l b r) [
  | inl q ↦ t run q h
  | inr q ↦ k x l refl q.free (subst (λ (m : List Block). Serves s want short (m ++ b ∷ [])) (sym q.is) (serves_more s want short b q.free q.pre q.suf (subst (Serves s want short) q.whole h)))
]

module _ (back : Bool) (s want short : ℕ) (front bs : List Block) (b : Block) where
  met_is : (front ++ bs) ++ b ∷ [] ≡ front ++ (bs ++ b ∷ [])
  met_is = append_assoc front bs (b ∷ [])

  -- one more block, at which the known run is kept
  module _ (front₀ bs₀ : List Block) (r : Run) (same : front₀ ++ bs₀ ≡ front ++ bs) (h : IsKnown back s want short front₀ bs₀ r) where
    new_in : {other : List Block} → IsNew (h.rest ++ h.after) b other → IsNew (front ++ bs) b other
    new_in {other} q = subst (λ l. IsNew l b other) (sym h.is ∙ same) (new_back h.before (new_back (h.block ∷ []) q))

    known_on : ((other : List Block) → IsNew (front ++ bs) b other → Serves s want short other → IsAtMost r.cost (cost_of other))
        → (back ≡ false → (other : List Block) → IsNew (h.rest ++ h.after) b other → Serves s want short other → IsLess r.cost (cost_of other))
        → (front ≡ []) ⊎ (IsAtMost r.cost (cost_of (bs ++ b ∷ [])) × (back ≡ false → IsLess r.cost (cost_of (bs ++ b ∷ [])) ⊎ (bs ++ b ∷ [] ≡ h.block ∷ (h.rest ++ (h.after ++ b ∷ [])))))
        → IsKnown back s want short front (bs ++ b ∷ []) r
    known_on least later behind = record {
      before = h.before;
      block = h.block;
      rest = h.rest;
      after = h.after ++ b ∷ [];
      is = sym met_is ∙ ap (λ l. l ++ b ∷ []) (sym same ∙ h.is) ∙ append_assoc h.before (h.block ∷ (h.rest ++ h.after)) (b ∷ [])
          ∙ ap (λ l. h.before ++ h.block ∷ l) (append_assoc h.rest h.after (b ∷ []));
      idle = h.idle;
      init = h.init;
      last = h.last;
      split = h.split;
      free = h.free;
      serves = h.serves;
      cost = h.cost;
      first = h.first;
      end = h.end;
      later = λ on other o k. elim (new_or_old other (h.rest ++ h.after) b (subst (IsRun other) (sym (append_assoc h.rest h.after (b ∷ []))) o)) [
        | inl q ↦ h.later on other q k
        | inr q ↦ later on other q k
      ];
      sooner = h.sooner;
      least = λ other o k. elim (new_or_old other (front ++ bs) b (subst (IsRun other) (sym met_is) o)) [
        | inl q ↦ h.least other (subst (IsRun other) (sym same) q) k
        | inr q ↦ least other q k
      ];
      behind = behind;
    }

  -- one more block, at which no run ends that serves and begins with the span or later
  module _ (few : b.used ≡ false → Serves s want short (bs ++ b ∷ []) → ⊥) where
    pub none_on : HasNone s want short (drop 1 bs) → HasNone s want short (drop 1 (bs ++ b ∷ []))
    none_on t = none_turn s want short b bs t
        (λ x l e f k. few f (subst (λ (m : List Block). Serves s want short (m ++ b ∷ [])) (sym e) (serves_more s want short b f (x ∷ []) l k)))

    -- a run that ends there and serves begins before the span
    new_before : (run : List Block) → IsNew (front ++ bs) b run → Serves s want short run
        → (z : Block) × (zs : List Block) × (pre : List Block) × (front ≡ pre ++ z ∷ zs) × (run ≡ ((z ∷ zs) ++ bs) ++ b ∷ [])
    new_before run k h = elim (split_cases front bs k.pre k.suf k.is) [
      | inr j ↦ absurd (few k.free (subst (λ (l : List Block). Serves s want short (l ++ b ∷ [])) (sym j.2)
          (serves_more s want short b k.free (j.0 ∷ j.1) k.suf (subst (Serves s want short) k.whole h))))
      | inl j ↦ go j.0 j.1 j.2
    ]
      where
        go : (zs : List Block) → front ≡ k.pre ++ zs → k.suf ≡ zs ++ bs
            → (z : Block) × (zs : List Block) × (pre : List Block) × (front ≡ pre ++ z ∷ zs) × (run ≡ ((z ∷ zs) ++ bs) ++ b ∷ [])
        go [] e f = absurd (few k.free (subst (λ (l : List Block). Serves s want short (l ++ b ∷ [])) f (subst (Serves s want short) k.whole h)))
        go (z ∷ zs) e f = (z, zs, k.pre, e, k.whole ∙ ap (λ l. l ++ b ∷ []) f)

    pub best_on : (known : Option Run) → IsBest back s want short front bs known → IsBest back s want short front (bs ++ b ∷ []) known
    best_on None h = (
      h.0,
      λ run r k. elim (new_or_old run (front ++ bs) b (subst (IsRun run) (sym met_is) r)) [
        | inl q ↦ h.1 run q k
        | inr q ↦ let j = new_before run q k in absurd (not_empty j.2 j.0 j.1 (sym j.3 ∙ h.0))
      ],
    )
    best_on (Some r) h = known_on front bs r refl h (λ other q k. let j = new_before other q k in elim h.behind [
      | inl e ↦ absurd (not_empty j.2 j.0 j.1 (sym j.3 ∙ e))
      | inr m ↦ at_most_trans r.cost (cost_of bs) (cost_of other) m.0 (costs j.0 j.1 other j.4)
    ]) (λ on other q k. let j = new_before other (new_in front bs r refl h q) k in elim h.behind [
      | inl e ↦ absurd (not_empty j.2 j.0 j.1 (sym j.3 ∙ e))
      | inr m ↦ elim (m.1 on) [
        | inl l ↦ less_trans r.cost (cost_of bs) (cost_of other) l (costs j.0 j.1 other j.4)
        | inr e ↦ absurd (few q.free (subst (λ (l : List Block). Serves s want short (l ++ b ∷ [])) (sym (e ∙ ap (λ l. h.block ∷ l) q.is))
            (serves_more s want short b q.free (h.block ∷ q.pre) q.suf (subst (Serves s want short) q.whole k))))
      ]
    ]) (elim h.behind [
      | inl e ↦ inl e
      | inr m ↦ inr (
        at_most_trans r.cost (cost_of bs) (cost_of (bs ++ b ∷ [])) m.0 (longer bs (b ∷ [])),
        λ on. elim (m.1 on) [
          | inl l ↦ inl (less_trans r.cost (cost_of bs) (cost_of (bs ++ b ∷ [])) l (longer bs (b ∷ [])))
          | inr e ↦ inr (ap (λ l. l ++ b ∷ []) e ∙ ap (λ l. h.block ∷ l) (append_assoc h.rest h.after (b ∷ [])))
        ],
      )
    ])
      where
        costs : (z : Block) (zs other : List Block) → other ≡ ((z ∷ zs) ++ bs) ++ b ∷ [] → IsAtMost (cost_of bs) (cost_of other)
        costs z zs other e = subst (λ l. IsAtMost (cost_of bs) (cost_of l)) (sym e) (within (z ∷ zs) bs (b ∷ []))

  -- one more block, which is free, and with which the span is a run that serves, but not without its first block
  module _ (u : b.used ≡ false) (x : Block) (more : List Block) (whole : bs ++ b ∷ [] ≡ x ∷ more) (serves : Serves s want short (x ∷ more)) (shortest : Serves s want short more → ⊥) where
    begins_free : x.used ≡ false
    begins_free = go x.used refl
      where
        go : (v : Bool) → x.used ≡ v → x.used ≡ false
        go false q = q
        go true q = absurd (shortest (record {
          units = omega (arith, serves.units, given_used s x more q);
          names = omega (arith, serves.names, ap (λ (l : List Block). length l) (emptied_used s x more q));
        }))

    none_run : HasNone s want short (drop 1 bs) → HasNone s want short more
    none_run t = subst (λ l. HasNone s want short (drop 1 l)) whole
        (none_turn s want short b bs t (λ y l e f k. shortest (subst (Serves s want short) (ap (drop 1) (ap (λ m. m ++ b ∷ []) (sym e) ∙ whole)) k)))

    new_least : (run : List Block) → IsNew (front ++ bs) b run → Serves s want short run → IsAtMost (cost_of (x ∷ more)) (cost_of run)
    new_least run k h = elim (split_cases front bs k.pre k.suf k.is) [
      | inr j ↦ absurd (shortest (subst (Serves s want short) (ap (drop 1) (ap (λ m. m ++ b ∷ []) (sym j.2) ∙ whole))
          (serves_more s want short b u j.1 k.suf (subst (Serves s want short) k.whole h))))
      | inl j ↦ subst (λ l. IsAtMost (cost_of (x ∷ more)) (cost_of l))
          (sym (k.whole ∙ ap (λ l. l ++ b ∷ []) j.2 ∙ append_assoc j.0 bs (b ∷ []) ∙ ap (λ l. j.0 ++ l) whole)) (with_front j.0 (x ∷ more))
    ]

    module _ (found : Run) (cost : found.cost ≡ cost_of (x ∷ more)) where
      run_found : x.name ≡ found.first → b.name ≡ found.end → HasNone s want short (drop 1 bs)
          → ((run : List Block) → IsRun run (front ++ bs) → Serves s want short run → IsAtMost found.cost (cost_of run)) → (back ≡ true → CostMoreBy s want short found.cost (front ++ bs))
          → IsKnown back s want short front (bs ++ b ∷ []) found
      run_found first end t old sooner = record {
        before = front;
        block = x;
        rest = more;
        after = [];
        is = ap (λ l. front ++ l) (whole ∙ ap (λ l. x ∷ l) (sym (append-nil more)));
        idle = begins_free;
        init = bs;
        last = b;
        split = sym whole;
        free = u;
        serves = serves;
        cost = cost;
        first = first;
        end = end;
        later = λ on other o k. absurd (none_run t other (subst (IsRun other) (append-nil more) o) k);
        sooner = sooner;
        least = λ other o k. elim (new_or_old other (front ++ bs) b (subst (IsRun other) (sym met_is) o)) [
          | inl q ↦ old other q k
          | inr q ↦ subst (λ c. IsAtMost c (cost_of other)) (sym cost) (new_least other q k)
        ];
        behind = inr (
          subst (λ c. IsAtMost found.cost c) (cost ∙ ap cost_of (sym whole)) (inr (refl, omega arith)),
          λ on. inr (whole ∙ ap (λ l. x ∷ l) (sym (append-nil more))),
        );
      }

      run_kept : (front₀ bs₀ : List Block) (r : Run) → front₀ ++ bs₀ ≡ front ++ bs → IsKnown back s want short front₀ bs₀ r → IsAtMost r.cost found.cost → (back ≡ false → IsLess r.cost found.cost)
          → IsKnown back s want short front (bs ++ b ∷ []) r
      run_kept front₀ bs₀ r same h most less = known_on front₀ bs₀ r same h (λ other q k. at_most_trans r.cost found.cost (cost_of other) most (here other q k))
          (λ on other q k. less_trans r.cost found.cost (cost_of other) (less on) (here other (new_in front₀ bs₀ r same h q) k))
          (inr (subst (IsAtMost r.cost) (cost ∙ ap cost_of (sym whole)) most, λ on. inl (subst (IsLess r.cost) (cost ∙ ap cost_of (sym whole)) (less on))))
        where
          here : (other : List Block) → IsNew (front ++ bs) b other → Serves s want short other → IsAtMost found.cost (cost_of other)
          here other q k = subst (λ c. IsAtMost c (cost_of other)) (sym cost) (new_least other q k)

      -- the run that is known then
      pub best_found : (known : Option Run) (front₀ bs₀ : List Block) → front₀ ++ bs₀ ≡ front ++ bs → IsBest back s want short front₀ bs₀ known
          → x.name ≡ found.first → b.name ≡ found.end → HasNone s want short (drop 1 bs) → (r : Run) → IsBetter back known found r
          → IsKnown back s want short front (bs ++ b ∷ []) r
      best_found None front₀ bs₀ same h first end t r one =
          let none : HasNone s want short (front ++ bs) = λ run q k. h.1 run (subst (IsRun run) (sym same) q) k in
          subst (IsKnown back s want short front (bs ++ b ∷ [])) (sym one) (run_found first end t (λ run q k. absurd (none run q k)) (λ _ run q k. absurd (none run q k)))
      best_found (Some k) front₀ bs₀ same h first end t r (inl o) = subst (IsKnown back s want short front (bs ++ b ∷ [])) (sym o.0) (run_kept front₀ bs₀ k same h o.1 o.2)
      best_found (Some k) front₀ bs₀ same h first end t r (inr o) =
          subst (IsKnown back s want short front (bs ++ b ∷ [])) (sym o.0)
          (run_found first end t (λ run q l. at_most_trans found.cost k.cost (cost_of run) o.1 (h.least run (subst (IsRun run) (sym same) q) l))
          (λ g run q l. less_trans found.cost k.cost (cost_of run) (o.2 g) (h.least run (subst (IsRun run) (sym same) q) l)))
