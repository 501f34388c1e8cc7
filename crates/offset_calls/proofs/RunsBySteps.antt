-- The run by whole steps that the plain machine chooses is the cheapest one of the allocator, and of several the last.
use Rattle.offset_calls.proofs.Common.{◌≡◌, ℕ, ◌+◌, ◌≤◌, ◌⊎◌, ◌&&◌, Bool, true, false, not, List, [], ◌∷◌, ◌++◌, length, Option, Some, None, option_map, nat_le, if◌then◌else◌}
use Rattle.offset_calls.proofs.Common.{refl, sym, ap, ap₂, subst, ◌∙◌, inl, inr, arith, drop, leb-true, le-leb, map-append, true≢false, false≢true, and_parts, is_free, subst₂, ◌-◌, View, IsWellFormed, AreCoalesced, State}
use Rattle.offset_allocator.specs.declared.moves.room.RoomCost.{RoomCost}
use Rattle.offset_allocator.specs.Moving.Room.{IsRun, IsAtMost, IsLess, cost_of}
use Rattle.offset_allocator.specs.Moving.RoomBySteps.{IsLeastCostBy, Serves, names_short}
use Rattle.offset_allocator.specs.View.{starts_free, ends_used}
use Rattle.offset_allocator.specs.View as named
use Rattle.offset_allocator.proofs.Moving.Runs.{at_most_trans, less_trans, longer}
use Rattle.offset_script.specs.Agreement.{Label, by_name, by_tag, HasBlocksOf}
use Rattle.offset_script.proofs.{Labels.names, Labels.tags, Labels.map_three, Members.map_parts, Agreed.same_length, Well.IsWell}
use Rattle.offset_script.specs.Machine as machine
use Rattle.offset_calls.specs.Room.{Split, from_first, after_first, is_less, cheaper}
use Rattle.offset_calls.specs.Room as plain
use Rattle.offset_calls.specs.Stepped.{given_up, used_up}
use Rattle.offset_calls.specs.RoomBySteps.{serves, shortest_that, cheapest_that, blocks_short, cheapest_by, room_cost_by}
use Rattle.offset_calls.proofs.Runs.{IsChosenOf, IsLabelledRun, cost_same, is_less_is, not_less_is, only_one, run_of, same_cost}
use Rattle.offset_calls.proofs.Stepped.{given_same, same_end, used_same}

-- ---- lists

-- of two beginnings of one list one begins with the other
begins_either : (xs ys b c : List Label) → xs ++ b ≡ ys ++ c → ((zs : List Label) × (ys ≡ xs ++ zs)) ⊎ ((z : Label) × (zs : List Label) × (xs ≡ ys ++ z ∷ zs))
begins_either [] ys b c e = inl (ys, refl)
begins_either (x ∷ xs) [] b c e = inr (x, xs, refl)
begins_either (x ∷ xs) (y ∷ ys) b c e =
    let first : x ≡ y = cc in
    let rest : xs ++ b ≡ ys ++ c = cc in
    elim (begins_either xs ys b c rest) [
      | inl m ↦ inl (m.0, ap₂ (λ (a : Label) (l : List Label). a ∷ l) (sym first) m.1)
      | inr m ↦ inr (m.0, m.1, ap₂ (λ (a : Label) (l : List Label). a ∷ l) first m.2)
    ]

abbrev starts : List Label → Bool
starts [] = false
starts (l ∷ ls) = is_free l.tag

abbrev cost : List Label → RoomCost
cost ls = cost_of (names ls)

abbrev split_of : List Label → List Label → List Label → Split
split_of f r b = record { front = tags f; run = tags r; back = tags b }

-- ---- the shortest run from the start of a list on

abbrev IsShortest : (List machine.Block → Bool) → List Label → Option Split → Type 0
IsShortest test ls None = (x : Label) (xs back : List Label) → ls ≡ x ∷ (xs ++ back) → test (tags (x ∷ xs)) ≡ true → ⊥
IsShortest test ls (Some p) = (x : Label) × (xs : List Label) × (back : List Label) × (ls ≡ x ∷ (xs ++ back)) × (p ≡ split_of [] (x ∷ xs) back) × (test (tags (x ∷ xs)) ≡ true)
    × ((y : Label) (ys : List Label) (z : Label) (zs : List Label) → x ∷ xs ≡ y ∷ (ys ++ z ∷ zs) → test (tags (y ∷ ys)) ≡ true → ⊥)

found_short : (test : List machine.Block → Bool) (ls : List Label) → IsShortest test ls (shortest_that test (tags ls))
found_short test [] = λ x xs back e t. absurd (cc)
found_short test (l ∷ ls) = go (test (by_tag l ∷ [])) refl (shortest_that (λ r. test (by_tag l ∷ r)) (tags ls)) (found_short (λ r. test (by_tag l ∷ r)) ls)
  where
    -- a beginning with more labels
    more : (x : Label) (xs : List Label) → l ≡ x → test (tags (x ∷ xs)) ≡ true → test (by_tag l ∷ tags xs) ≡ true
    more x xs e t = ap (λ (k : Label). test (by_tag k ∷ tags xs)) e ∙ t

    fails : test (by_tag l ∷ []) ≡ false → (x : Label) → l ≡ x → test (tags (x ∷ [])) ≡ true → ⊥
    fails e x same t = true≢false (sym (more x [] same t) ∙ e)

    go : (t : Bool) → test (by_tag l ∷ []) ≡ t → (o : Option Split) → IsShortest (λ r. test (by_tag l ∷ r)) ls o
        → IsShortest test (l ∷ ls) (if t then Some (split_of [] (l ∷ []) ls) else option_map (from_first (by_tag l)) o)
    go true e o h = (l, [], ls, refl, refl, e, alone)
      where
        alone : (y : Label) (ys : List Label) (z : Label) (zs : List Label) → l ∷ [] ≡ y ∷ (ys ++ z ∷ zs) → test (tags (y ∷ ys)) ≡ true → ⊥
        alone y [] z zs s t = absurd (cc)
        alone y (w ∷ ws) z zs s t = absurd (cc)
    go false e None h = none
      where
        none : (x : Label) (xs back : List Label) → l ∷ ls ≡ x ∷ (xs ++ back) → test (tags (x ∷ xs)) ≡ true → ⊥
        none x [] back s t = let same : l ≡ x = cc in fails e x same t
        none x (y ∷ ys) back s t =
            let same : l ≡ x = cc in
            let rest : ls ≡ y ∷ (ys ++ back) = cc in
            h y ys back rest (more x (y ∷ ys) same t)
    go false e (Some p) h = (l, h.0 ∷ h.1, h.2, ap (λ k. l ∷ k) h.3, ap (from_first (by_tag l)) h.4, h.5, tight)
      where
        tight : (y : Label) (ys : List Label) (z : Label) (zs : List Label) → l ∷ h.0 ∷ h.1 ≡ y ∷ (ys ++ z ∷ zs) → test (tags (y ∷ ys)) ≡ true → ⊥
        tight y [] z zs s t = let same : l ≡ y = cc in fails e y same t
        tight y (w ∷ ws) z zs s t =
            let same : l ≡ y = cc in
            let rest : h.0 ∷ h.1 ≡ w ∷ (ws ++ z ∷ zs) = cc in
            h.6 w ws z zs rest (more y (w ∷ ws) same t)

-- ---- the cheapest run

-- what is found: a run that passes, where none costs less and each later one more; or nothing, where none passes
abbrev pub IsBest : (List machine.Block → Bool) → List Label → Option Split → Type 0
IsBest test ls None = (f r b : List Label) → ls ≡ f ++ (r ++ b) → starts r ≡ true → test (tags r) ≡ true → ⊥
IsBest test ls (Some q) = (f : List Label) × (r : List Label) × (b : List Label) × (ls ≡ f ++ (r ++ b)) × (q ≡ split_of f r b) × (starts r ≡ true) × (test (tags r) ≡ true)
    × ((f' r' b' : List Label) → ls ≡ f' ++ (r' ++ b') → starts r' ≡ true → test (tags r') ≡ true → IsAtMost (cost r) (cost r'))
    × ((f' r' b' : List Label) → drop 1 (r ++ b) ≡ f' ++ (r' ++ b') → starts r' ≡ true → test (tags r') ≡ true → IsLess (cost r) (cost r'))

less_at_most : (c d : RoomCost) → IsLess c d → IsAtMost c d
less_at_most c d m = grind arith

-- one more label before those that were searched
module _ (test : List machine.Block → Bool) (l : Label) (ls : List Label) where
  -- no run from it on passes: what was found is kept
  kept : ((r b : List Label) → l ∷ ls ≡ r ++ b → starts r ≡ true → test (tags r) ≡ true → ⊥) → (o : Option Split) → IsBest test ls o → IsBest test (l ∷ ls) (cheaper (by_tag l) None o)
  kept none None h = not_there
    where
      not_there : (f r b : List Label) → l ∷ ls ≡ f ++ (r ++ b) → starts r ≡ true → test (tags r) ≡ true → ⊥
      not_there [] r b e s t = none r b e s t
      not_there (x ∷ f) r b e s t = let rest : ls ≡ f ++ (r ++ b) = cc in h f r b rest s t
  kept none (Some q) h = (l ∷ h.0, h.1, h.2, ap (λ k. l ∷ k) h.3, ap (after_first (by_tag l)) h.4, h.5, h.6, least, h.8)
    where
      least : (f r b : List Label) → l ∷ ls ≡ f ++ (r ++ b) → starts r ≡ true → test (tags r) ≡ true → IsAtMost (cost h.1) (cost r)
      least [] r b e s t = absurd (none r b e s t)
      least (x ∷ f) r b e s t = let rest : ls ≡ f ++ (r ++ b) = cc in h.7 f r b rest s t

  skip_used : is_free l.tag ≡ false → (r b : List Label) → l ∷ ls ≡ r ++ b → starts r ≡ true → test (tags r) ≡ true → ⊥
  skip_used u [] b e s t = false≢true s
  skip_used u (x ∷ r) b e s t = let same : l ≡ x = cc in true≢false (sym s ∙ sym (ap (λ (k : Label). is_free k.tag) same) ∙ u)

  skip_none : IsShortest test (l ∷ ls) None → (r b : List Label) → l ∷ ls ≡ r ++ b → starts r ≡ true → test (tags r) ≡ true → ⊥
  skip_none h [] b e s t = false≢true s
  skip_none h (x ∷ r) b e s t = h x r b e t

  -- a run from it on passes
  module _ (free : is_free l.tag ≡ true) (p : Split) (s : IsShortest test (l ∷ ls) (Some p)) where
    abbrev us : List Label
    us = s.0 ∷ s.1

    begins : starts us ≡ true
    begins = let whole : l ∷ ls ≡ s.0 ∷ (s.1 ++ s.2) = s.3 in let same : l ≡ s.0 = cc in sym (ap (λ (k : Label). is_free k.tag) same) ∙ free

    after_one : drop 1 (us ++ s.2) ≡ ls
    after_one = let whole : l ∷ ls ≡ s.0 ∷ (s.1 ++ s.2) = s.3 in let rest : ls ≡ s.1 ++ s.2 = cc in sym rest

    -- no other run from it on costs less
    at_most_here : (r b : List Label) → l ∷ ls ≡ r ++ b → starts r ≡ true → test (tags r) ≡ true → IsAtMost (cost us) (cost r)
    at_most_here [] b e q t = absurd (false≢true q)
    at_most_here (y ∷ ys) b e q t = elim (begins_either us (y ∷ ys) s.2 b (sym s.3 ∙ e)) [
      | inl m ↦ subst (λ k. IsAtMost (cost us) (cost_of k)) (sym (ap names m.1 ∙ map-append by_name us m.0)) (longer (names us) (names m.0))
      | inr m ↦ absurd (s.6 y ys m.0 m.1 m.2 t)
    ]

    -- what every run of the others costs
    abbrev pub AreCosts : (RoomCost → RoomCost → Type 0) → RoomCost → Type 0
    AreCosts R c = (f r b : List Label) → ls ≡ f ++ (r ++ b) → starts r ≡ true → test (tags r) ≡ true → R c (cost r)

    at_most : AreCosts IsAtMost (cost us) → (f r b : List Label) → l ∷ ls ≡ f ++ (r ++ b) → starts r ≡ true → test (tags r) ≡ true → IsAtMost (cost us) (cost r)
    at_most h [] r b e q t = at_most_here r b e q t
    at_most h (x ∷ f) r b e q t = let rest : ls ≡ f ++ (r ++ b) = cc in h f r b rest q t

    -- it is taken
    taken : AreCosts IsLess (cost us) → IsBest test (l ∷ ls) (Some p)
    taken h = (
      [],
      us,
      s.2,
      s.3,
      s.4,
      begins,
      s.5,
      at_most (λ f r b e q t. less_at_most (cost us) (cost r) (h f r b e q t)),
      λ f r b e q t. h f r b (sym after_one ∙ e) q t,
    )

    -- what was found costs no more
    passed : (q : Split) → (h : IsBest test ls (Some q)) → IsAtMost (cost h.1) (cost us) → IsBest test (l ∷ ls) (Some (after_first (by_tag l) q))
    passed q h m = (l ∷ h.0, h.1, h.2, ap (λ k. l ∷ k) h.3, ap (after_first (by_tag l)) h.4, h.5, h.6, least, h.8)
      where
        least : (f r b : List Label) → l ∷ ls ≡ f ++ (r ++ b) → starts r ≡ true → test (tags r) ≡ true → IsAtMost (cost h.1) (cost r)
        least [] r b e d t = at_most_trans (cost h.1) (cost us) (cost r) m (at_most_here r b e d t)
        least (x ∷ f) r b e d t = let rest : ls ≡ f ++ (r ++ b) = cc in h.7 f r b rest d t

    -- the cheaper of both is taken
    either : (o : Option Split) → IsBest test ls o → IsBest test (l ∷ ls) (cheaper (by_tag l) (Some p) o)
    either None h = taken (λ f r b e q t. absurd (h f r b e q t))
    either (Some q) h = go (is_less (plain.cost_of p.run) (plain.cost_of q.run)) refl
      where
        costs : is_less (plain.cost_of p.run) (plain.cost_of q.run) ≡ is_less (cost us) (cost h.1)
        costs = ap₂ is_less (ap (λ (p : Split). plain.cost_of p.run) s.4 ∙ cost_same us) (ap (λ (q : Split). plain.cost_of q.run) h.4 ∙ cost_same h.1)

        go : (x : Bool) → is_less (plain.cost_of p.run) (plain.cost_of q.run) ≡ x → IsBest test (l ∷ ls) (if x then Some p else Some (after_first (by_tag l) q))
        go true e =
            let less = is_less_is (cost us) (cost h.1) (sym costs ∙ e) in
            taken (λ f r b w d t. less_trans (cost us) (cost h.1) (cost r) less (h.7 f r b w d t))
        go false e = passed q h (not_less_is (cost us) (cost h.1) (sym costs ∙ e))

  best_step : (o : Option Split) → IsBest test ls o → IsBest test (l ∷ ls) (cheaper (by_tag l) (if is_free l.tag then shortest_that test (tags (l ∷ ls)) else None) o)
  best_step o h = go (is_free l.tag) refl
    where
      go : (x : Bool) → is_free l.tag ≡ x → IsBest test (l ∷ ls) (cheaper (by_tag l) (if x then shortest_that test (tags (l ∷ ls)) else None) o)
      go false e = kept (skip_used e) o h
      go true e = at (shortest_that test (tags (l ∷ ls))) (found_short test (l ∷ ls))
        where
          at : (p : Option Split) → IsShortest test (l ∷ ls) p → IsBest test (l ∷ ls) (cheaper (by_tag l) p o)
          at None s = kept (skip_none s) o h
          at (Some p) s = either e p s o h

pub best : (test : List machine.Block → Bool) (ls : List Label) → IsBest test ls (cheapest_that test (tags ls))
best test [] = none
  where
    none : (f r b : List Label) → [] ≡ f ++ (r ++ b) → starts r ≡ true → test (tags r) ≡ true → ⊥
    none [] [] b e s t = false≢true s
    none [] (x ∷ r) b e s t = absurd (cc)
    none (x ∷ f) r b e s t = absurd (cc)
best test (l ∷ ls) = best_step test l ls (cheapest_that test (tags ls)) (best test ls)

-- ---- runs of the allocator

module _ (n want short : ℕ) where
  served : (ls : List Label) → serves n want short (tags ls) ≡ true → (ends_used (names ls) ≡ false) × Serves n want short (names ls)
  served ls e =
      let a = and_parts (not (machine.ends_live (tags ls))) _ e in
      let b = and_parts (nat_le want (given_up n (tags ls))) (nat_le short (used_up n (tags ls))) a.1 in (
        sym (same_end ls) ∙ not_true (machine.ends_live (tags ls)) a.0,
        record {
          units = subst (λ m. want ≤ m) (sym (given_same n ls)) (leb-true want (given_up n (tags ls)) b.0);
          names = subst (λ m. short ≤ m) (sym (used_same n ls)) (leb-true short (used_up n (tags ls)) b.1);
        },
      )
    where
      not_true : (t : Bool) → not t ≡ true → t ≡ false
      not_true true e = absurd (false≢true e)
      not_true false e = refl

  serves_too : (ls : List Label) → ends_used (names ls) ≡ false → Serves n want short (names ls) → serves n want short (tags ls) ≡ true
  serves_too ls e s = ap₂ (λ (x y : Bool). not x && y) (same_end ls ∙ e)
      (ap₂ (λ (x y : Bool). x && y) (le-leb want (given_up n (tags ls)) (subst (λ m. want ≤ m) (given_same n ls) s.units))
      (le-leb short (used_up n (tags ls)) (subst (λ m. short ≤ m) (used_same n ls) s.names)))

  starts_same : (ls : List Label) → starts_free (names ls) ≡ starts ls
  starts_same [] = refl
  starts_same (l ∷ ls) = go (is_free l.tag)
    where
      go : (t : Bool) → not (not t) ≡ t
      go true = refl
      go false = refl

  run_is : (ls f r b : List Label) → ls ≡ f ++ (r ++ b) → starts r ≡ true → serves n want short (tags r) ≡ true → IsRun (names r) (names ls)
  run_is ls f r b e s t = record {
    front = names f;
    back = names b;
    is = ap names e ∙ map-append by_name f (r ++ b) ∙ ap (λ k. names f ++ k) (map-append by_name r b);
    begins = starts_same r ∙ s;
    ends = (served r t).0;
  }

  -- a run that serves, with its labels
  abbrev pub IsLabelled : List Label → List named.Block → Type 0
  IsLabelled ls run = (f : List Label) × (r : List Label) × (b : List Label) × (ls ≡ f ++ (r ++ b)) × (names r ≡ run) × (starts r ≡ true) × (serves n want short (tags r) ≡ true)

  labelled : (ls : List Label) (run : List named.Block) → IsRun run (names ls) → Serves n want short run → IsLabelled ls run
  labelled ls run k s =
      let p = map_parts by_name ls k.front (run ++ k.back) k.is in
      let q = map_parts by_name p.1 run k.back p.4 in (
        p.0,
        q.0,
        q.1,
        p.2 ∙ ap (λ l. p.0 ++ l) q.2,
        q.3,
        sym (starts_same q.0) ∙ ap starts_free q.3 ∙ k.begins,
        serves_too q.0 (ap ends_used q.3 ∙ k.ends) (subst (Serves n want short) (sym q.3) s),
      )

  -- the least cost is that of the machine
  pub cost_by_is : (ls : List Label) (c : Option RoomCost) → IsLeastCostBy n want short (names ls) c
      → c ≡ option_map (λ (p : Split). plain.cost_of p.run) (cheapest_that (serves n want short) (tags ls))
  cost_by_is ls c h = go (cheapest_that (serves n want short) (tags ls)) (best (serves n want short) ls) c h
    where
      go : (o : Option Split) → IsBest (serves n want short) ls o → (c : Option RoomCost) → IsLeastCostBy n want short (names ls) c → c ≡ option_map (λ (p : Split). plain.cost_of p.run) o
      go None b None h = refl
      go None b (Some c) h = let k = labelled ls h.0.0 h.0.1 h.0.2 in absurd (b k.0 k.1 k.2 k.3 k.5 k.6)
      go (Some q) b None h = absurd (h (names b.1) (run_is ls b.0 b.1 b.2 b.3 b.5 b.6) (served b.1 b.6).1)
      go (Some q) b (Some c) h =
          let k = labelled ls h.0.0 h.0.1 h.0.2 in
          ap Some (same_cost c (cost b.1) (h.1 (names b.1) (run_is ls b.0 b.1 b.2 b.3 b.5 b.6) (served b.1 b.6).1)
          (subst (IsAtMost (cost b.1)) (ap cost_of k.4 ∙ sym h.0.3) (b.7 k.0 k.1 k.2 k.3 k.5 k.6))
          ∙ sym (ap (λ (p : Split). plain.cost_of p.run) b.4 ∙ cost_same b.1))

  drop_names : (r b : List Label) → drop 1 (names r ++ names b) ≡ names (drop 1 (r ++ b))
  drop_names [] [] = refl
  drop_names [] (l ∷ b) = refl
  drop_names (l ∷ r) b = sym (map-append by_name r b)

  -- what is found is one that none costs less than, and each later one more
  pub found_chosen : (ls : List Label) (q : Split) (h : IsBest (serves n want short) ls (Some q)) → IsChosenOf (Serves n want short) (names ls) (names h.0) (names h.1) (names h.2)
  found_chosen ls q h = record {
    is = ap names h.3 ∙ map_three by_name h.0 h.1 h.2;
    begins = starts_same h.1 ∙ h.5;
    ends = (served h.1 h.6).0;
    serves = (served h.1 h.6).1;
    least = λ other r m. let k = labelled ls other r m in subst (λ bs. IsAtMost (cost h.1) (cost_of bs)) k.4 (h.7 k.0 k.1 k.2 k.3 k.5 k.6);
    later = λ other r m.
        let k = labelled (drop 1 (h.1 ++ h.2)) other (subst (IsRun other) (drop_names h.1 h.2) r) m in
        subst (λ bs. IsLess (cost h.1) (cost_of bs)) k.4 (h.8 k.0 k.1 k.2 k.3 k.5 k.6);
  }

  -- such a run is the one that the machine finds
  pub chosen_by_is : (ls : List Label) → AreCoalesced (names ls) → (front run back : List named.Block) → IsChosenOf (Serves n want short) (names ls) front run back
      → IsLabelledRun (cheapest_that (serves n want short) (tags ls)) ls front run back
  chosen_by_is ls apart front run back h = go (cheapest_that (serves n want short) (tags ls)) refl (best (serves n want short) ls)
    where
      go : (o : Option Split) → cheapest_that (serves n want short) (tags ls) ≡ o → IsBest (serves n want short) ls o
          → IsLabelledRun (cheapest_that (serves n want short) (tags ls)) ls front run back
      go None e b = let k = labelled ls run (run_of h) h.serves in absurd (b k.0 k.1 k.2 k.3 k.5 k.6)
      go (Some q) e b =
          let same = only_one (Serves n want short) (names ls) apart (names b.0) (names b.1) (names b.2) front run back (found_chosen ls q b) h in
          record { f = b.0; r = b.1; b = b.2; is = b.3; front_is = same.0; run_is = same.1; back_is = same.2; found = e ∙ ap Some b.4 }

module _ (v : View) (kept_name : ℕ → Option ℕ) (s : State) (w : IsWellFormed v) (ws : IsWell s) (g : HasBlocksOf v kept_name s) where
  short_same : (spare : ℕ) → names_short spare v ≡ blocks_short spare s.limit (length s.blocks)
  short_same spare = ap₂ (λ l m. (l + spare + 2) - m) (same_length v kept_name s w ws g) (sym g.limit)

  pub room_cost_by_is : (n want spare : ℕ) (c : Option RoomCost) → IsLeastCostBy n want (names_short spare v) v.blocks c → c ≡ room_cost_by n want spare s
  room_cost_by_is n want spare c l = cost_by_is n want (blocks_short spare s.limit (length s.blocks)) g.labels c (subst₂ (λ i bs. IsLeastCostBy n want i bs c) (short_same spare) g.view l)
      ∙ ap (λ bs. option_map (λ (p : Split). plain.cost_of p.run) (cheapest_that (serves n want (blocks_short spare s.limit (length s.blocks))) bs)) (sym g.state)

  -- a run that slides is the one that the machine finds
  pub slid_by_is : (n want spare : ℕ) (front run back : List named.Block) → IsChosenOf (Serves n want (names_short spare v)) v.blocks front run back
      → IsLabelledRun (cheapest_by n want spare s) g.labels front run back
  slid_by_is n want spare front run back h =
      let short = blocks_short spare s.limit (length s.blocks) in
      let there : IsLabelledRun (cheapest_that (serves n want short) (tags g.labels)) g.labels front run back =
      chosen_by_is n want short g.labels (subst AreCoalesced g.view w.apart) front run back
      (subst₂ (λ i bs. IsChosenOf (Serves n want i) bs front run back) (short_same spare) g.view h) in
      subst (λ bs. IsLabelledRun (cheapest_that (serves n want short) bs) g.labels front run back) (sym g.state) there
