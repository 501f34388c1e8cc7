-- What has to move for a request, beside the reason of its refusal.
use Rattle.offset_allocator.proofs.{Advice.none_free, Advice.free_within, Taken.HasFit, Classes.value_rises}
use Rattle.offset_allocator.proofs.{Views.ViewApart.apart_parts, Tallies.free_units, Tallies.free_sum}
use Rattle.offset_allocator.proofs.{Joints.free_units-append, Joints.free_units-used, Moving.Compacting.AreUsed, Moving.Compacting.IsFirst}
use Rattle.offset_allocator.proofs.{Moving.Compacting.first_is, Moving.Runs.run_some, Moving.Runs.run_within}
use Rattle.offset_allocator.proofs.Common.{◌≡◌, ℕ, ◌≤◌, ◌⊎◌, Bool, true, false, not, Option, Some, None, List, [], ◌∷◌, ◌++◌, sum, if◌then◌else◌, refl, sym, ap, subst, ◌∙◌, arith}
use Rattle.offset_allocator.proofs.Common.{inl, inr, eq-zero-or-pos, true≢false, not-true, Block, View, IsWellFormed, AreCoalesced, CanGrant, IsWhy, free_sizes, ends_used, count_used}
use Rattle.offset_allocator.proofs.Common.{value, up, first_free}
use Rattle.offset_allocator.proofs.{Common.AdmitsBlocks, Common.length, Common.◌↔◌, Moving.DecidedRooms.least_by_decided, Moving.Runs.apart_few, Moving.RoomsBySteps.fit_of, Moving.RoomsBySteps.found_alone, Moving.RoomsBySteps.found_by}
use Rattle.offset_allocator.proofs.{Moving.Stepping.emptied_free, Moving.Stepping.given_free}
use Rattle.offset_allocator.specs.Moving.RoomBySteps.{IsLeastCostBy, Serves, names_short}
use Rattle.offset_allocator.specs.Moving.Room.{IsRun, IsLeastCost, ranges_of}
use Rattle.offset_allocator.specs.declared.reports.Refusal.TheVariants.{TooLarge, Space, Fragmented}
use Rattle.offset_allocator.proofs.{Moving.OneStep.given_one, Moving.OneStep.least_by_one, Moving.Rooms.last_used_up, Moving.RoomsBySteps.short_few}
use Rattle.offset_allocator.specs.declared.moves.room.RoomCost.{RoomCost}

-- nothing has to move where a free block is large enough
pub granted_moves_none : (v : View) → IsWellFormed v → (n : ℕ) (c : Option RoomCost) → CanGrant 1 n v → IsLeastCost (value (up n)) v.blocks c → c ≡ Some (record { units = 0; ranges = 0 })
granted_moves_none v w n c g h = least_by_decided 1 (value (up n)) 0 v.blocks c _ (least_by_one (value (up n)) v.blocks c h) (found_alone 1 0 n v w (omega arith) g.1)

-- no run is enough where all free units are not
module _ (v : View) (w : IsWellFormed v) (n : ℕ) where
  too_few : (c : Option RoomCost) → IsLeastCost (value (up n)) v.blocks c → ((run : List Block) → IsRun run v.blocks → value (up n) ≤ sum (free_sizes run) → ⊥) → c ≡ None
  too_few None h none = refl
  too_few (Some d) h none = absurd (none h.0.0 h.0.1 h.0.2)

  pub large_moves_none : (c : Option RoomCost) → IsWhy 1 n v TooLarge → IsLeastCost (value (up n)) v.blocks c → c ≡ None
  large_moves_none c why h = too_few c h (λ run r l. omega (arith, why.1, l, run_within run v.blocks r, free_within v w))

  pub space_moves_none : (c : Option RoomCost) → IsWhy 1 n v Space → IsLeastCost (value (up n)) v.blocks c → c ≡ None
  space_moves_none c why h = too_few c h none
    where
      no_fit : up n ≡ 0 → HasFit 0 v → ⊥
      no_fit z f = why.3 (why.0, (f.0, omega (arith, z), f.2))

      none : (run : List Block) → IsRun run v.blocks → value (up n) ≤ sum (free_sizes run) → ⊥
      none run r l = elim (eq-zero-or-pos (up n)) [
        | inl z ↦ run_some run v.blocks r (none_free v w (no_fit z))
        | inr s ↦ omega (arith, why.2, l, run_within run v.blocks r, value_rises 0 (up n) (omega (arith, s)))
      ]

-- the blocks up to the last free one
record IsEnding (bs : List Block) : Type 0 where
  run : List Block
  back : List Block
  is : bs ≡ run ++ back
  ends : (run ≡ []) ⊎ (ends_used run ≡ false)
  all : free_units run ≡ free_units bs

ending_more : (d : Block) (bs : List Block) → IsEnding bs → IsEnding (d ∷ bs)
ending_more d bs t = go t.run refl
  where
    first : (u : Bool) → d.used ≡ u → free_units bs ≡ 0 → IsEnding (d ∷ bs)
    first true e z = record { run = []; back = d ∷ bs; is = refl; ends = inl refl; all = omega (arith, z, free_units-used d bs e) }
    first false e z = record { run = d ∷ []; back = bs; is = refl; ends = inr e; all = omega (arith, z) }

    closed : (l : List Block) → t.run ≡ l → (l ≡ [] → ⊥) → ends_used (d ∷ t.run) ≡ ends_used t.run
    closed [] e n = absurd (n refl)
    closed (x ∷ l) e n = ap (λ k. ends_used (d ∷ k)) e ∙ sym (ap ends_used e)

    go : (l : List Block) → t.run ≡ l → IsEnding (d ∷ bs)
    go [] e = first d.used refl (omega (arith, t.all, ap free_units e))
    go (x ∷ l) e = record {
      run = d ∷ t.run;
      back = t.back;
      is = ap (λ k. d ∷ k) t.is;
      ends = inr (elim t.ends [ inl z ↦ absurd (let k = sym e ∙ z in cc) | inr k ↦ closed (x ∷ l) e (λ q. absurd (cc)) ∙ k ]);
      all = omega (arith, t.all);
    }

ending : (bs : List Block) → IsEnding bs
ending [] = record { run = []; back = []; is = refl; ends = inl refl; all = refl }
ending (d ∷ bs) = ending_more d bs (ending bs)

-- the run from the first free block to the last one has all free units
whole_run : (bs : List Block) → 1 ≤ sum (free_sizes bs) → (run : List Block) × IsRun run bs × (sum (free_sizes run) ≡ sum (free_sizes bs))
whole_run bs some = go (first_free bs) refl
  where
    none_used : (l : List Block) → AreUsed l → free_units l ≡ 0
    none_used [] h = refl
    none_used (b ∷ l) h = free_units-used b l h.0 ∙ none_used l h.1

    no_first : (l : List Block) → first_free l ≡ None → free_units l ≡ 0
    no_first [] e = refl
    no_first (b ∷ l) e = step b.used refl (no_first l)
      where
        step : (u : Bool) → b.used ≡ u → (first_free l ≡ None → free_units l ≡ 0) → free_units (b ∷ l) ≡ 0
        step true q ih = free_units-used b l q ∙ ih (sym (ap (λ (u : Bool). if u then first_free l else Some b.name) q) ∙ e)
        step false q ih = let k = sym (ap (λ (u : Bool). if u then first_free l else Some b.name) q) ∙ e in absurd (cc)

    closed : (b : Block) (l : List Block) → b.used ≡ false → (l ≡ []) ⊎ (ends_used l ≡ false) → ends_used (b ∷ l) ≡ false
    closed b [] f e = f
    closed b (x ∷ l) f (inl z) = absurd (cc)
    closed b (x ∷ l) f (inr k) = k

    go : (o : Option ℕ) → first_free bs ≡ o → (run : List Block) × IsRun run bs × (sum (free_sizes run) ≡ sum (free_sizes bs))
    go None e = absurd (omega (arith, some, free_sum bs, no_first bs e))
    go (Some x) e =
        let p : IsFirst bs x = first_is bs x e in
        let t = ending p.place.after in (
          p.place.block ∷ t.run,
          record {
            front = p.place.before;
            back = t.back;
            is = p.is ∙ ap (λ l. p.place.before ++ (p.place.block ∷ l)) t.is;
            begins = ap not p.idle;
            ends = closed p.place.block t.run p.idle t.ends;
          },
          omega (
            arith,
            free_sum bs,
            ap free_units p.is,
            free_units-append p.place.before (p.place.block ∷ p.place.after),
            none_used p.place.before p.used,
            free_sum (p.place.block ∷ t.run),
            t.all,
          ),
        )

-- by steps, nothing has to move exactly where the request is granted
module _ (v : View) (w : IsWellFormed v) (t k n : ℕ) where
  short_room : names_short k v ≤ 1 → AdmitsBlocks k v
  short_room l = omega (arith, l)

  none_moves : (run : List Block) → IsRun run v.blocks → Serves t (value (up n)) (names_short k v) run → count_used run ≡ 0 → CanGrant k n v
  none_moves [] r h z = absurd (true≢false (sym r.begins))
  none_moves (b ∷ d ∷ run) r h z =
      let apart = (apart_parts (b ∷ d ∷ run) r.back (apart_parts r.front ((b ∷ d ∷ run) ++ r.back) (subst AreCoalesced r.is w.apart)).1).0 in
      absurd (omega (arith, apart_few (b ∷ d ∷ run) apart, z))
  none_moves (b ∷ []) r h z =
      let free = not-true b.used r.begins in (
        short_room (omega (arith, h.names, ap (λ (l : List Block). length l) (emptied_free t b [] free 0 refl))),
        fit_of v w r.front b r.back r.is free n (omega (arith, h.units, given_free t b [] free)),
      )

  pub granted_by : (c : Option RoomCost) → IsLeastCostBy t (value (up n)) (names_short k v) v.blocks c → (c ≡ Some (record { units = 0; ranges = 0 })) ↔ CanGrant k n v
  granted_by c h = (to c h, λ g. least_by_decided t (value (up n)) (names_short k v) v.blocks c (Some (record { units = 0; ranges = 0 })) h (found_by t k n v w g.0 g.1))
    where
      to : (c : Option RoomCost) → IsLeastCostBy t (value (up n)) (names_short k v) v.blocks c → c ≡ Some (record { units = 0; ranges = 0 }) → CanGrant k n v
      to None h e = absurd (cc)
      to (Some d) h e =
          let none : d ≡ record { units = 0; ranges = 0 } = cc in
          none_moves h.0.0 h.0.1 h.0.2 (ap (λ (c : RoomCost). c.ranges) (sym h.0.3 ∙ none))

-- where no free block is enough, some range has to move
module _ (v : View) (w : IsWellFormed v) (n : ℕ) (why : IsWhy 1 n v Fragmented) where
  -- it is not one free block
  not_alone : (run : List Block) → IsRun run v.blocks → count_used run ≡ 0 → value (up n) ≤ sum (free_sizes run) → ⊥
  not_alone [] r z l = true≢false (sym r.begins)
  not_alone (b ∷ bs) r z l = why.2 (none_moves v w 1 1 n (b ∷ bs) r
      (record { units = omega (arith, l, given_one (b ∷ bs)); names = omega (arith, short_few 1 v why.0, last_used_up b bs r.ends) }) z)

  pub fragmented_moves : (c : Option RoomCost) → IsLeastCost (value (up n)) v.blocks c → 1 ≤ ranges_of c
  fragmented_moves None h =
      let t = whole_run v.blocks (omega (arith, why.1)) in
      let few = h t.0 t.1 in
      absurd (omega (arith, few, t.2, why.1))
  fragmented_moves (Some d) h = elim (eq-zero-or-pos d.ranges) [
    | inl z ↦ absurd (not_alone h.0.0 h.0.1 (omega (arith, z, ap (λ (c : RoomCost). c.ranges) h.0.3)) h.0.2)
    | inr k ↦ omega (arith, k)
  ]
