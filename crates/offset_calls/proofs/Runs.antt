-- The run that the plain machine chooses is the cheapest one of the allocator, and of several the last.
use Rattle.offset_calls.proofs.Common.{◌≡◌, ℕ, ◌+◌, ◌-◌, ◌<◌, ◌≤◌, ◌⊎◌, ◌&&◌, ◌||◌, Bool, true, false, not, List, [], ◌∷◌, ◌++◌, map, length, sum, Option, Some, None, option_map, nat_eq, nat_lt}
use Rattle.offset_calls.proofs.Common.{nat_le, if◌then◌else◌, refl, sym, ap, ap₂, subst, ◌∙◌, inl, inr, arith, append-nil, append_assoc, length-append, cases_lt, cases_eq, true≢false, false≢true}
use Rattle.offset_calls.proofs.Common.{drop, leb-true, leb-false, Block, one, AreCoalesced, total, is_free, Tag}
use Rattle.std.proofs.lemmas.Bool.Decides.{nat_tests}
use Rattle.std.proofs.lemmas.List.{append_cancel_left}
use Rattle.offset_allocator.specs.declared.moves.room.RoomCost.{RoomCost}
use Rattle.offset_allocator.specs.Moving.Room.{IsRun, IsAtMost, IsLess, CostMore, IsLeastCost, cost_of}
use Rattle.offset_allocator.specs.View.{starts_free, ends_used, free_sizes, count_used, used_units}
use Rattle.offset_allocator.proofs.{Views.ViewApart.apart_parts, Views.ViewApart.ends_free, Views.ViewApart.right_false, Tallies.free_sum, Joints.free_units-free, Joints.free_units-used}
use Rattle.offset_allocator.proofs.Moving.Runs.{at_most_trans, less_trans, begins_cases, longer, run_cases, run_some, free_sum-append, count_used-append, used_units-append}
use Rattle.offset_script.specs.Agreement.{Label, by_name, by_tag}
use Rattle.offset_script.proofs.{Labels.names, Labels.tags}
use Rattle.offset_script.specs.Totals.{live}
use Rattle.offset_calls.specs.Room.{Split, from_first, after_first, free_units, shortest, is_less, cheaper, cheapest, room_cost}
use Rattle.offset_calls.specs.Room as plain

-- ---- costs

less_not : (c d : RoomCost) → IsLess c d → IsAtMost d c → ⊥
less_not c d l m = grind arith

pub same_cost : (c d : RoomCost) → IsAtMost c d → IsAtMost d c → c ≡ d
same_cost c d l m = go (units c d l m) (ranges c d l m)
  where
    units : (c d : RoomCost) → IsAtMost c d → IsAtMost d c → c.units ≡ d.units
    units c d l m = grind arith

    ranges : (c d : RoomCost) → IsAtMost c d → IsAtMost d c → c.ranges ≡ d.ranges
    ranges c d l m = grind arith

    go : c.units ≡ d.units → c.ranges ≡ d.ranges → c ≡ d
    go e f = ap₂ (λ (u r : ℕ). record { units = u; ranges = r }) e f

pub is_less_is : (c d : RoomCost) → is_less c d ≡ true → IsLess c d
is_less_is c d e = grind (arith, nat_tests)

pub not_less_is : (c d : RoomCost) → is_less c d ≡ false → IsAtMost d c
not_less_is c d e = grind (arith, nat_tests)

-- ---- the run that slides

-- a run that serves, where none that serves costs less, and each such run that begins later costs more
pub record IsChosenOf (Serves : List Block → Type 0) (bs front run back : List Block) : Type 0 where
  pub is : bs ≡ front ++ (run ++ back)
  pub begins : starts_free run ≡ true
  pub ends : ends_used run ≡ false
  pub serves : Serves run
  pub least : (other : List Block) → IsRun other bs → Serves other → IsAtMost (cost_of run) (cost_of other)
  pub later : (other : List Block) → IsRun other (drop 1 (run ++ back)) → Serves other → IsLess (cost_of run) (cost_of other)

-- a run serves where it has at least `want` free units
abbrev pub IsChosen : ℕ → List Block → List Block → List Block → List Block → Type 0
IsChosen want bs front run back = IsChosenOf (λ run. want ≤ sum (free_sizes run)) bs front run back

pub run_of : {Serves : List Block → Type 0} {bs front run back : List Block} → IsChosenOf Serves bs front run back → IsRun run bs
run_of {front = front} {back = back} h = record { front = front; back = back; is = h.is; begins = h.begins; ends = h.ends }

-- a list that starts free and does not end used ends free
pub ends_free_is : (bs : List Block) → starts_free bs ≡ true → ends_used bs ≡ false → ends_free bs ≡ true
ends_free_is [] s e = absurd (false≢true s)
ends_free_is (b ∷ []) s e = ap not e
ends_free_is (b ∷ c ∷ bs) s e = last c bs e
  where
    last : (c : Block) (bs : List Block) → ends_used (c ∷ bs) ≡ false → ends_free (c ∷ bs) ≡ true
    last c [] e = ap not e
    last c (d ∷ bs) e = last d bs e

module _ (Serves : List Block → Type 0) (bs : List Block) (apart : AreCoalesced bs) where
  -- of two of them none begins before the other
  not_before : (f r b f' r' b' : List Block) → IsChosenOf Serves bs f r b → IsChosenOf Serves bs f' r' b' → (z : Block) (zs : List Block) → f' ≡ f ++ z ∷ zs → ⊥
  not_before f r b f' r' b' h k z zs e =
      let rest : r ++ b ≡ z ∷ (zs ++ (r' ++ b')) = append_cancel_left f (r ++ b) (z ∷ (zs ++ (r' ++ b')))
      (sym h.is ∙ k.is ∙ ap (λ l. l ++ (r' ++ b')) e ∙ append_assoc f (z ∷ zs) (r' ++ b')) in
      let there : IsRun r' (drop 1 (r ++ b)) = record { front = zs; back = b'; is = ap (drop 1) rest; begins = k.begins; ends = k.ends } in
      less_not (cost_of r) (cost_of r') (h.later r' there k.serves) (k.least r (run_of h) h.serves)

  -- and none is longer
  not_longer : (f r b r' b' : List Block) → IsChosenOf Serves bs f r b → IsChosenOf Serves bs f r' b' → (z : Block) (zs : List Block) → r ≡ r' ++ z ∷ zs → ⊥
  not_longer f r b r' b' h k z zs e =
      let whole : bs ≡ f ++ (r' ++ ((z ∷ zs) ++ b)) = h.is ∙ ap (λ l. f ++ l) (ap (λ l. l ++ b) e ∙ append_assoc r' (z ∷ zs) b) in
      let parts = apart_parts r' ((z ∷ zs) ++ b) (apart_parts f (r' ++ ((z ∷ zs) ++ b)) (subst AreCoalesced whole apart)).1 in
      let used : not z.used ≡ false = right_false (ends_free r') (not z.used) parts.2 (ends_free_is r' k.begins k.ends) in
      let more : 1 ≤ one z.used = go z.used used in
      let at_most = subst (λ l. IsAtMost (cost_of l) (cost_of r')) e (h.least r' (run_of k) k.serves) in
      none at_most (omega (arith, count_used-append r' (z ∷ zs), more)) (used_units-append r' (z ∷ zs))
    where
      go : (u : Bool) → not u ≡ false → 1 ≤ one u
      go true e = omega arith
      go false e = absurd (true≢false e)

      none : IsAtMost (cost_of (r' ++ z ∷ zs)) (cost_of r') → count_used r' + 1 ≤ count_used (r' ++ z ∷ zs) → used_units (r' ++ z ∷ zs) ≡ used_units r' + used_units (z ∷ zs) → ⊥
      none m n u = grind arith

  -- so there is only one
  pub only_one : (f r b f' r' b' : List Block) → IsChosenOf Serves bs f r b → IsChosenOf Serves bs f' r' b' → (f ≡ f') × (r ≡ r') × (b ≡ b')
  only_one f r b f' r' b' h k = elim (begins_cases f f' (r ++ b) (r' ++ b') (sym h.is ∙ k.is)) [
    | inr a ↦ absurd (not_before f r b f' r' b' h k a.0 a.1 a.2)
    | inl a ↦ front a.0 a.1
  ]
    where
      same : (r' b' : List Block) → IsChosenOf Serves bs f r' b' → (r ≡ r') × (b ≡ b')
      same r' b' k =
          let e : r ++ b ≡ r' ++ b' = append_cancel_left f (r ++ b) (r' ++ b') (sym h.is ∙ k.is) in
          elim (begins_cases r r' b b' e) [
            | inr a ↦ absurd (not_longer f r' b' r b k h a.0 a.1 a.2)
            | inl a ↦ run a.0 a.1 e
          ]
        where
          run : (zs : List Block) → r ≡ r' ++ zs → r ++ b ≡ r' ++ b' → (r ≡ r') × (b ≡ b')
          run [] e all = let s : r ≡ r' = e ∙ append-nil r' in (s, append_cancel_left r' b b' (ap (λ l. l ++ b) (sym s) ∙ all))
          run (z ∷ zs) e all = absurd (not_longer f r b r' b' h k z zs e)

      front : (zs : List Block) → f ≡ f' ++ zs → (f ≡ f') × (r ≡ r') × (b ≡ b')
      front [] e =
          let s : f' ≡ f = sym (e ∙ append-nil f') in
          let t = same r' b' (subst (λ l. IsChosenOf Serves bs l r' b') s k) in
          (sym s, t.0, t.1)
      front (z ∷ zs) e = absurd (not_before f' r' b' f r b k h z zs e)

-- ---- the run that the machine finds

-- what is found: such a run, or nothing where no run has so many free units
abbrev pub IsBest : ℕ → List Label → Option Split → Type 0
IsBest want ls None = (run : List Block) → IsRun run (names ls) → sum (free_sizes run) < want
IsBest want ls (Some q) = (f : List Label) × (r : List Label) × (b : List Label) × (ls ≡ f ++ (r ++ b)) × (q ≡ record { front = tags f; run = tags r; back = tags b })
    × IsChosen want (names ls) (names f) (names r) (names b)

-- the cost of a run is the same by names and by tags
live_total : (ls : List Label) → total (live (tags ls)) ≡ used_units (names ls)
live_total [] = refl
live_total (l ∷ ls) = search (arith, (live_total ls), not)

live_count : (ls : List Label) → length (live (tags ls)) ≡ count_used (names ls)
live_count [] = refl
live_count (l ∷ ls) = search (arith, (live_count ls), not, one)

pub cost_same : (ls : List Label) → plain.cost_of (tags ls) ≡ cost_of (names ls)
cost_same ls = ap₂ (λ (u r : ℕ). record { units = u; ranges = r }) (live_total ls) (live_count ls)

-- the free units of one more block
free_more : (l : Label) (bs : List Block) → sum (free_sizes (by_name l ∷ bs)) ≡ free_units (by_tag l) + sum (free_sizes bs)
free_more l bs = go (is_free l.tag) refl
  where
    go : (x : Bool) → is_free l.tag ≡ x → sum (free_sizes (by_name l ∷ bs)) ≡ free_units (by_tag l) + sum (free_sizes bs)
    go true e = omega (arith, free_sum (by_name l ∷ bs), free_sum bs, free_units-free (by_name l) bs (ap not e), ap (λ (x : Bool). if x then l.size else 0) e)
    go false e = omega (arith, free_sum (by_name l ∷ bs), free_sum bs, free_units-used (by_name l) bs (ap not e), ap (λ (x : Bool). if x then l.size else 0) e)

-- the shortest run from a label on
abbrev IsShortest : ℕ → Label → List Label → Option Split → Type 0
IsShortest want l ls None = sum (free_sizes (names (l ∷ ls))) < want
IsShortest want l ls (Some p) = (us : List Label) × (back : List Label) × (ls ≡ us ++ back) × (p ≡ record { front = []; run = tags (l ∷ us); back = tags back })
    × (want ≤ sum (free_sizes (names (l ∷ us)))) × (ends_used (names (l ∷ us)) ≡ false)
    × ((x : Block) (xs : List Block) (z : Block) (zs : List Block) → names (l ∷ us) ≡ (x ∷ xs) ++ z ∷ zs → sum (free_sizes (x ∷ xs)) < want)

abbrev At : ℕ → Label → List Label → Bool → Option Split → Option Split
At want l ls x o = if x then Some (record { front = []; run = by_tag l ∷ []; back = tags ls }) else option_map (from_first (by_tag l)) o

module _ (want : ℕ) (l : Label) (some : (1 ≤ want) ⊎ (is_free l.tag ≡ true)) where
  short_here : (ls : List Label) → want ≤ free_units (by_tag l) → IsShortest want l ls (Some (record { front = []; run = by_tag l ∷ []; back = tags ls }))
  short_here ls m = ([], ls, refl, refl, omega (arith, m, free_more l []), ap not (free some), too_short)
    where
      other : 1 ≤ want → (x : Bool) → is_free l.tag ≡ x → is_free l.tag ≡ true
      other k true e = e
      other k false e = absurd (omega (arith, m, k, ap (λ (x : Bool). if x then l.size else 0) e))

      free : (1 ≤ want) ⊎ (is_free l.tag ≡ true) → is_free l.tag ≡ true
      free (inr e) = e
      free (inl k) = other k (is_free l.tag) refl

      too_short : (x : Block) (xs : List Block) (z : Block) (zs : List Block) → names (l ∷ []) ≡ (x ∷ xs) ++ z ∷ zs → sum (free_sizes (x ∷ xs)) < want
      too_short x [] z zs e = absurd (cc)
      too_short x (y ∷ xs) z zs e = absurd (cc)

  short_end : (x : Bool) → nat_le want (free_units (by_tag l)) ≡ x → IsShortest want l [] (At want l [] x None)
  short_end true e = short_here [] (leb-true want (free_units (by_tag l)) e)
  short_end false e = let m = leb-false want (free_units (by_tag l)) e in omega (arith, m, free_more l [])

  short_next : (m : Label) (ms : List Label) (x : Bool) → nat_le want (free_units (by_tag l)) ≡ x → (o : Option Split)
      → ((1 ≤ want - free_units (by_tag l)) ⊎ (is_free m.tag ≡ true) → IsShortest (want - free_units (by_tag l)) m ms o) → IsShortest want l (m ∷ ms) (At want l (m ∷ ms) x o)
  short_next m ms true e o h = short_here (m ∷ ms) (leb-true want (free_units (by_tag l)) e)
  short_next m ms false e o h = more o (h (inl (omega (arith, less))))
    where
      less : free_units (by_tag l) < want
      less = leb-false want (free_units (by_tag l)) e

      more : (o : Option Split) → IsShortest (want - free_units (by_tag l)) m ms o → IsShortest want l (m ∷ ms) (option_map (from_first (by_tag l)) o)
      more None h = omega (arith, h, less, free_more l (names (m ∷ ms)))
      more (Some p) h = (
        m ∷ h.0,
        h.1,
        ap (λ k. m ∷ k) h.2,
        ap (from_first (by_tag l)) h.3,
        omega (arith, h.4, less, free_more l (names (m ∷ h.0))),
        h.5,
        tight,
      )
        where
          tight : (x : Block) (xs : List Block) (z : Block) (zs : List Block) → names (l ∷ m ∷ h.0) ≡ (x ∷ xs) ++ z ∷ zs → sum (free_sizes (x ∷ xs)) < want
          tight x [] z zs e = let same : by_name l ≡ x = cc in omega (arith, less, free_more l [], ap (λ (b : Block). sum (free_sizes (b ∷ []))) same)
          tight x (y ∷ xs) z zs e =
              let same : by_name l ≡ x = cc in
              let rest : names (m ∷ h.0) ≡ (y ∷ xs) ++ z ∷ zs = cc in
              omega (arith, less, h.6 y xs z zs rest, free_more l (y ∷ xs), ap (λ (b : Block). sum (free_sizes (b ∷ y ∷ xs))) same)

found_short : (want : ℕ) (l : Label) (ls : List Label) → (1 ≤ want) ⊎ (is_free l.tag ≡ true) → IsShortest want l ls (shortest want (tags (l ∷ ls)))
found_short want l [] some = short_end want l some (nat_le want (free_units (by_tag l))) refl
found_short want l (m ∷ ms) some =
    short_next want l some m ms (nat_le want (free_units (by_tag l))) refl _ (λ s. found_short (want - free_units (by_tag l)) m ms s)

-- one more block before those that were searched
module _ (want : ℕ) (l : Label) (ls : List Label) where
  -- no run from it on serves: what was found is kept
  passed_none : ((run : List Block) → IsRun run (names (l ∷ ls)) → want ≤ sum (free_sizes run) → IsRun run (names ls)) → IsBest want ls None → IsBest want (l ∷ ls) None
  passed_none skip h = λ run r. elim (cases_lt (sum (free_sizes run)) want) [ inl m ↦ m | inr m ↦ h run (skip run r m) ]

  -- each that does costs as much as what was found, or more
  passed : (q : Split) → (h : IsBest want ls (Some q))
      → ((run : List Block) → IsRun run (names (l ∷ ls)) → want ≤ sum (free_sizes run) → IsRun run (names ls) ⊎ IsAtMost (cost_of (names h.1)) (cost_of run))
      → IsBest want (l ∷ ls) (Some (after_first (by_tag l) q))
  passed q h each = (
    l ∷ h.0,
    h.1,
    h.2,
    ap (λ k. l ∷ k) h.3,
    ap (after_first (by_tag l)) h.4,
    record {
      is = ap (λ k. by_name l ∷ k) h.5.is;
      begins = h.5.begins;
      ends = h.5.ends;
      serves = h.5.serves;
      least = λ other r m. elim (each other r m) [ inl k ↦ h.5.least other k m | inr k ↦ k ];
      later = h.5.later;
    },
  )

  kept : (o : Option Split) → ((run : List Block) → IsRun run (names (l ∷ ls)) → want ≤ sum (free_sizes run) → IsRun run (names ls)) → IsBest want ls o
      → IsBest want (l ∷ ls) (cheaper (by_tag l) None o)
  kept None skip h = passed_none skip h
  kept (Some q) skip h = passed q h (λ run r m. inl (skip run r m))

  skip_used : is_free l.tag ≡ false → (run : List Block) → IsRun run (names (l ∷ ls)) → want ≤ sum (free_sizes run) → IsRun run (names ls)
  skip_used u run r m = elim (run_cases run (by_name l) (names ls) r) [ inr k ↦ k | inl k ↦ absurd (go run k.0 k.1 r.begins) ]
    where
      go : (run back : List Block) → by_name l ∷ names ls ≡ run ++ back → starts_free run ≡ true → ⊥
      go [] back e s = false≢true s
      go (d ∷ run) back e s = let same : by_name l ≡ d = cc in absurd (true≢false (sym s ∙ sym (ap (λ (v : Block). not v.used) same) ∙ ap (λ x. not (not x)) u))

  skip_few : sum (free_sizes (names (l ∷ ls))) < want → (run : List Block) → IsRun run (names (l ∷ ls)) → want ≤ sum (free_sizes run) → IsRun run (names ls)
  skip_few few run r m = elim (run_cases run (by_name l) (names ls) r) [
    | inr k ↦ k
    | inl k ↦ absurd (omega (arith, few, m, ap (λ (bs : List Block). sum (free_sizes bs)) k.1, free_sum-append run k.0))
  ]

  -- a run from it on
  module _ (free : is_free l.tag ≡ true) (p : Split) (s : IsShortest want l ls (Some p)) where
    abbrev us : List Label
    us = l ∷ s.0

    whole : names (l ∷ ls) ≡ names us ++ names s.1
    whole = ap (λ k. by_name l ∷ k) (ap names s.2 ∙ Rattle.offset_calls.proofs.Common.map-append by_name s.0 s.1)

    at_most : (run : List Block) → IsRun run (names (l ∷ ls)) → want ≤ sum (free_sizes run) → IsRun run (names ls) ⊎ IsAtMost (cost_of (names us)) (cost_of run)
    at_most run r m = elim (run_cases run (by_name l) (names ls) r) [ inr k ↦ inl k | inl k ↦ inr (here run r.begins m k.0 k.1) ]
      where
        short : (run : List Block) → starts_free run ≡ true → want ≤ sum (free_sizes run) → (z : Block) (zs : List Block) → names us ≡ run ++ z ∷ zs → ⊥
        short [] b m z zs e = false≢true b
        short (x ∷ xs) b m z zs e = omega (arith, m, s.6 x xs z zs e)

        here : (run : List Block) → starts_free run ≡ true → want ≤ sum (free_sizes run) → (back : List Block) → names (l ∷ ls) ≡ run ++ back → IsAtMost (cost_of (names us)) (cost_of run)
        here run b m back e = elim (begins_cases run (names us) back (names s.1) (sym e ∙ whole)) [
          | inl z ↦ subst (λ x. IsAtMost (cost_of (names us)) (cost_of x)) (sym z.1) (longer (names us) z.0)
          | inr z ↦ absurd (short run b m z.0 z.1 z.2)
        ]

    -- it is taken
    taken : ((run : List Block) → IsRun run (names ls) → want ≤ sum (free_sizes run) → IsLess (cost_of (names us)) (cost_of run)) → IsBest want (l ∷ ls) (Some p)
    taken more = (
      [],
      us,
      s.1,
      ap (λ k. l ∷ k) s.2,
      s.3,
      record {
        is = whole;
        begins = ap (λ x. not (not x)) free;
        ends = s.5;
        serves = s.4;
        least = λ other r m. elim (at_most other r m) [ inl k ↦ less_at_most _ _ (more other k m) | inr k ↦ k ];
        later = subst (CostMore want (cost_of (names us))) (ap (drop 1) whole) more;
      },
    )
      where
        less_at_most : (c d : RoomCost) → IsLess c d → IsAtMost c d
        less_at_most c d m = grind arith

    -- the cheaper of both is taken
    either : (o : Option Split) → IsBest want ls o → IsBest want (l ∷ ls) (cheaper (by_tag l) (Some p) o)
    either None h = taken (λ run r m. absurd (omega (arith, m, h run r)))
    either (Some q) h = go (is_less (plain.cost_of p.run) (plain.cost_of q.run)) refl
      where
        costs : (plain.cost_of p.run ≡ cost_of (names us)) × (plain.cost_of q.run ≡ cost_of (names h.1))
        costs = (ap (λ (p : Split). plain.cost_of p.run) s.3 ∙ cost_same us, ap (λ (q : Split). plain.cost_of q.run) h.4 ∙ cost_same h.1)

        go : (x : Bool) → is_less (plain.cost_of p.run) (plain.cost_of q.run) ≡ x → IsBest want (l ∷ ls) (if x then Some p else Some (after_first (by_tag l) q))
        go true e =
            let less = is_less_is (cost_of (names us)) (cost_of (names h.1)) (sym (ap₂ is_less costs.0 costs.1) ∙ e) in
            taken (λ run r m. less_trans _ _ _ less (h.5.least run r m))
        go false e =
            let less = not_less_is (cost_of (names us)) (cost_of (names h.1)) (sym (ap₂ is_less costs.0 costs.1) ∙ e) in
            passed q h (λ run r m. elim (at_most run r m) [ inl k ↦ inl k | inr k ↦ inr (at_most_trans _ _ _ less k) ])

  best_step : (o : Option Split) → IsBest want ls o → IsBest want (l ∷ ls) (cheaper (by_tag l) (if is_free l.tag then shortest want (tags (l ∷ ls)) else None) o)
  best_step o h = go (is_free l.tag) refl
    where
      go : (x : Bool) → is_free l.tag ≡ x → IsBest want (l ∷ ls) (cheaper (by_tag l) (if x then shortest want (tags (l ∷ ls)) else None) o)
      go false e = kept o (skip_used e) h
      go true e = at (shortest want (tags (l ∷ ls))) (found_short want l ls (inr e))
        where
          at : (p : Option Split) → IsShortest want l ls p → IsBest want (l ∷ ls) (cheaper (by_tag l) p o)
          at None s = kept o (skip_few s) h
          at (Some p) s = either e p s o h

pub best : (want : ℕ) (ls : List Label) → IsBest want ls (cheapest want (tags ls))
best want [] = λ run r. absurd (run_some run [] r refl)
best want (l ∷ ls) = best_step want l ls (cheapest want (tags ls)) (best want ls)

-- ---- what both have in common

-- the least cost is that of the machine
pub cost_is : (want : ℕ) (ls : List Label) (c : Option RoomCost) → IsLeastCost want (names ls) c → c ≡ room_cost want (tags ls)
cost_is want ls c h = go (cheapest want (tags ls)) (best want ls) c h
  where
    go : (o : Option Split) → IsBest want ls o → (c : Option RoomCost) → IsLeastCost want (names ls) c → c ≡ option_map (λ (p : Split). plain.cost_of p.run) o
    go None b None h = refl
    go None b (Some c) h = absurd (omega (arith, b h.0.0 h.0.1, h.0.2))
    go (Some q) b None h = absurd (omega (arith, h (names b.1) (run_of b.5), b.5.serves))
    go (Some q) b (Some c) h = ap Some (same_cost c (cost_of (names b.1)) (h.1 (names b.1) (run_of b.5) b.5.serves)
        (subst (IsAtMost (cost_of (names b.1))) (sym h.0.3) (b.5.least h.0.0 h.0.1 h.0.2)) ∙ sym (ap (λ (p : Split). plain.cost_of p.run) b.4 ∙ cost_same b.1))

-- a run that slides, with its labels, is the one that was found
pub record IsLabelledRun (found_run : Option Split) (ls : List Label) (front run back : List Block) : Type 0 where
  pub f : List Label
  pub r : List Label
  pub b : List Label
  pub is : ls ≡ f ++ (r ++ b)
  pub front_is : names f ≡ front
  pub run_is : names r ≡ run
  pub back_is : names b ≡ back
  pub found : found_run ≡ Some (record { front = tags f; run = tags r; back = tags b })

-- the run that slides is the one that the machine finds
pub chosen_is : (want : ℕ) (ls : List Label) → AreCoalesced (names ls) → (front run back : List Block) → IsChosen want (names ls) front run back
    → IsLabelledRun (cheapest want (tags ls)) ls front run back
chosen_is want ls apart front run back h = go (cheapest want (tags ls)) refl (best want ls)
  where
    go : (o : Option Split) → cheapest want (tags ls) ≡ o → IsBest want ls o → IsLabelledRun (cheapest want (tags ls)) ls front run back
    go None e b = absurd (omega (arith, b run (run_of h), h.serves))
    go (Some q) e b =
        let same = only_one (λ run. want ≤ sum (free_sizes run)) (names ls) apart (names b.0) (names b.1) (names b.2) front run back b.5 h in
        record { f = b.0; r = b.1; b = b.2; is = b.3; front_is = same.0; run_is = same.1; back_is = same.2; found = e ∙ ap Some b.4 }
