-- The whole allocator after a run has slid to its front by whole steps.
use Rattle.offset_allocator.proofs.{Advice.free_within, Classes.down_law, Classes.past_words, Classes.value_down, Classes.value_grows, Filing.Filed.filed_in, Linking.Places.placed}
use Rattle.offset_allocator.proofs.{Moving.DecidedRooms.ends_some, Moving.Runs.apart_few, Moving.Runs.few_units, Moving.Runs.run_within, Moving.Runs.want_is}
use Rattle.offset_allocator.proofs.{Moving.Stepping.emptied_free, Moving.Stepping.given_free, Refusals.total_is, Sound.AreSound, Sound.Fields, Sound.shown, Sound.well_counted, Taken.HasFit, Taken.fitting}
use Rattle.offset_allocator.proofs.{Tallies.free_sum, Tallies.units-append, Views.ViewApart.apart_parts, Views.ViewApart.ends_free, Views.ViewApart.right_false}
use Rattle.offset_allocator.proofs.{Moving.Packed.live_sizes, Sound.known_sound, Common.Cells, Common.IsBinned, Common.KeepsSizes, Common.bins_in, Common.push, Common.push_all, Common.remove_all}
use Rattle.offset_allocator.specs.{Accesses.Costs}
use Rattle.offset_allocator.proofs.Moving.Stepped.{split_few, split_filed, split_steps, split_length, stays_live, stepped_free_units, used_up_length}
use Rattle.offset_allocator.proofs.Common.{◌≡◌, ◌≢◌, ℕ, ◌+◌, ◌-◌, ◌*◌, ◌%◌, ◌^◌, ◌<◌, ◌≤◌, false, not, ◌&&◌, Some, None, Option, List, [], ◌∷◌, ◌++◌, refl, sym, ap, ap₂, subst}
use Rattle.offset_allocator.proofs.Common.{◌∙◌, arith, inl, inr, append_assoc, cases_lt, length, length-append, sum, take, true≢false, not-true, common_steps, Block, View, units, used_units}
use Rattle.offset_allocator.proofs.Common.{count_used, free_block, free_sizes, starts_free, ends_used, times, down, up, value, live, replace, FoldsTo, AreCoalesced, AreInBins, IsWellFormed, AdmitsBlocks, CanGrant, SameSpace, HasPlace, blocks, first_or, last_or, drop}
use Rattle.offset_allocator.specs.Moving.BySteps.{stepped, given_up, used_up, moves_by}
use Rattle.offset_allocator.specs.Moving.Compacting.{Move}
use Rattle.offset_allocator.specs.Moving.Room.{IsRun, IsAtMost, cost_of}
use Rattle.offset_allocator.specs.Moving.Spans.{HasNoneAlone}
use Rattle.offset_allocator.specs.Moving.RoomBySteps.{CostMoreBy, IsCheapestBy, IsLeastCostBy, MakesRoomBy, Serves, SlidesRunBy, names_short}
use Rattle.offset_allocator.specs.{Names.IsTaken, Names.names_of}
use Rattle.offset_allocator.specs.declared.moves.room.RoomCost.{RoomCost}
use Rattle.offset_allocator.specs.declared.moves.runs.Run.{Run}

-- ---- what serves
-- a run gives up no more than its free units
given_within : (s : ℕ) (bs : List Block) → given_up s bs ≤ sum (free_sizes bs)
given_within s bs = omega (arith, stepped_free_units s bs, free_sum bs)

-- no run serves where all free units are too few
pub too_few_by : (s want short : ℕ) (bs : List Block) → sum (free_sizes bs) < want → IsLeastCostBy s want short bs None
too_few_by s want short bs l run r h = omega (arith, l, h.units, given_within s run, run_within run bs r)

-- nor where the units needed are more than a word holds
pub past_by : (s n short : ℕ) (v : View) → IsWellFormed v → 2 ^ 32 ≤ n → IsLeastCostBy s (value (up n)) short v.blocks None
past_by s n short v w l = too_few_by s (value (up n)) short v.blocks (omega (arith, past_words n l, free_within v w, w.fits))

-- a free block alone serves where one name is enough
alone_serves : (s want short : ℕ) (b : Block) → b.used ≡ false → want ≤ b.size → short ≤ 1 → Serves s want short (b ∷ [])
alone_serves s want short b u l k = record {
  units = omega (arith, l, given_free s b [] u);
  names = omega (arith, k, ap (λ (l : List Block). length l) (emptied_free s b [] u 0 refl));
}

-- one name is enough where there is room for the blocks
pub short_few : (k : ℕ) (v : View) → AdmitsBlocks k v → names_short k v ≤ 1
short_few k v room = omega (arith, room)

-- a bin that is found has a block that serves
pub found_alone : (s short n : ℕ) (v : View) → IsWellFormed v → short ≤ 1 → HasFit n v → IsLeastCostBy s (value (up n)) short v.blocks (Some (record { units = 0; ranges = 0 }))
found_alone s short n v w few h =
    let p = fitting n v w h in
    let b = p.0.block in
    let zero : RoomCost = record { units = 0; ranges = 0 } in
    let empty : zero ≡ cost_of (b ∷ []) = cost_none b p.2 in (
      (
        b ∷ [],
        record { front = p.0.before; back = p.0.after; is = p.1; begins = ap not p.2; ends = p.2 },
        alone_serves s (value (up n)) short b p.2 (omega (arith, value_grows (up n) (down b.size) p.3, value_down b.size)) few,
        empty,
      ),
      λ run r h. at_least run,
    )
  where
    cost_none : (b : Block) → b.used ≡ false → ◌≡◌ {A = RoomCost} (record { units = 0; ranges = 0 }) (cost_of (b ∷ []))
    cost_none b u = sym (grind (arith, common_steps))

    at_least : (run : List Block) → IsAtMost (record { units = 0; ranges = 0 }) (cost_of run)
    at_least run = elim (cases_lt 0 (used_units run)) [ inl k ↦ inl k | inr k ↦ inr (omega (arith, k), omega arith) ]

pub found_by : (s k n : ℕ) (v : View) → IsWellFormed v → AdmitsBlocks k v → HasFit n v → IsLeastCostBy s (value (up n)) (names_short k v) v.blocks (Some (record { units = 0; ranges = 0 }))
found_by s k n v w room h = found_alone s (names_short k v) n v w (short_few k v room) h

-- a free block that is large enough is in a bin of such a class
pub fit_of : (v : View) → IsWellFormed v → (before : List Block) (b : Block) (after : List Block) → v.blocks ≡ before ++ b ∷ after → b.used ≡ false → (n : ℕ) → value (up n) ≤ b.size → HasFit n v
fit_of v w before b after is free n l =
    let fits : b.size < 2 ^ 32 = omega (arith, w.whole, w.fits, ap units is, units-append before (b ∷ after)) in
    let there = filed_in before after b v.bins (subst (λ bs. AreInBins bs v.bins) is w.binned) free in
    (down b.size, (down_law b.size (up n) fits).1 l, λ none. absurd (omega (arith, there, ap (times b.name) none)))

-- the cheapest run costs least
pub cheapest_least : (s want short : ℕ) (bs : List Block) (r : Run) → IsCheapestBy s want short bs (Some r) → IsLeastCostBy s want short bs (Some r.cost)
cheapest_least s want short bs r h = ((h.0.0, h.0.1, h.0.2, h.0.3), h.1)

-- ---- a run that serves, from its first block on
pub record IsOpenedBy (s want short : ℕ) (bs : List Block) (r : Run) : Type 0 where
  pub front : List Block
  pub rest : List Block
  pub back : List Block
  pub block : Block
  pub is : bs ≡ front ++ ((block ∷ rest) ++ back)
  pub idle : block.used ≡ false
  pub name : block.name ≡ r.first
  pub ends : last_or None (block ∷ rest) ≡ Some r.end
  pub free : ends_used (block ∷ rest) ≡ false
  pub cost : r.cost ≡ cost_of (block ∷ rest)
  pub serves : Serves s want short (block ∷ rest)
  pub later : CostMoreBy s want short r.cost (rest ++ back)

pub opened_by : (s want short : ℕ) (bs : List Block) (r : Run) → IsCheapestBy s want short bs (Some r) → IsOpenedBy s want short bs r
opened_by s want short bs r h = go h.0.0 h.0.1 h.0.2 h.0.3 h.0.4 h.0.5 h.0.6
  where
    go : (run : List Block) (k : IsRun run bs) → Serves s want short run → r.cost ≡ cost_of run → first_or None run ≡ Some r.first → last_or None run ≡ Some r.end
        → CostMoreBy s want short r.cost (drop 1 (run ++ k.back)) → IsOpenedBy s want short bs r
    go [] k l c f e m = absurd (true≢false (sym k.begins))
    go (b ∷ rest) k l c f e m = record {
      front = k.front;
      rest = rest;
      back = k.back;
      block = b;
      is = k.is;
      idle = not-true b.used k.begins;
      name = cc;
      ends = e;
      free = k.ends;
      cost = c;
      serves = l;
      later = m;
    }

module _ (f : Fields) (s : AreSound f) (t want short : ℕ) (r : Run) (o : IsOpenedBy t want short (blocks f.cells.chain f.last) r) where
  abbrev v : View
  v = shown f

  abbrev run : List Block
  run = o.block ∷ o.rest

  w : IsWellFormed v
  w = well_counted (shown (record f { accesses = 0 })) f.accesses s.well

  pub opened_at : HasPlace f.cells.chain f.cells.chain.reserved f.last f.count r.first (record { before = o.front; block = o.block; after = o.rest ++ o.back })
  opened_at = placed (rw o.is at s.space) o.name

  parts : AreCoalesced run × AreCoalesced o.back × ((ends_free run && starts_free o.back) ≡ false)
  parts = apart_parts run o.back (apart_parts o.front (run ++ o.back) (subst AreCoalesced o.is w.apart)).1

  pub opened_back : starts_free o.back ≡ false
  opened_back = right_false (ends_free run) (starts_free o.back) parts.2 (ends_some run (ap not o.idle) o.free)

  pub opened_short : length run ≤ 2 * r.cost.ranges + 1
  opened_short = omega (arith, apart_few run parts.0, ap (λ (c : RoomCost). c.ranges) o.cost)

  -- where no range is in the run it is one free block
  pub opened_granted : (k n : ℕ) → want ≡ value (up n) → short ≡ names_short k v → r.cost.ranges ≡ 0 → CanGrant k n v
  opened_granted k n want_is short_is none = go o.rest refl
    where
      go : (l : List Block) → o.rest ≡ l → CanGrant k n v
      go [] e =
          let alone : o.block ∷ o.rest ≡ o.block ∷ [] = ap (λ l. o.block ∷ l) e in (
            omega (arith, short_is, o.serves.names, ap (λ l. length (used_up t l)) alone, ap (λ (l : List Block). length l) (emptied_free t o.block [] o.idle 0 refl)),
            fit_of v w o.front o.block (o.rest ++ o.back) o.is o.idle n (omega (arith, want_is, o.serves.units, ap (given_up t) alone, given_free t o.block [] o.idle)),
          )
      go (b ∷ l) e = absurd (omega (arith, opened_short, none, ap (λ (l : List Block). length l) e))

  -- what is left has room for the blocks of the request
  module _ (k : ℕ) (short_is : short ≡ names_short k v) where
    left_few : length o.front + (length (stepped t (o.block ∷ o.rest)) + length o.back) + 1 + k < f.limit
    left_few = omega (arith, short_is, o.serves.names, used_up_length t run, split_length f s t o.front run o.back o.is)

    pub opened_few : length o.front + (length (stepped t (o.block ∷ o.rest)) + length o.back) + 2 ≤ f.limit
    opened_few = omega (arith, left_few)

    module _ (y : ℕ) (u : View) (left : IsWellFormed u)
        (view : SameSpace (replace (shown f) o.front (o.block ∷ o.rest) (stepped t (o.block ∷ o.rest) ++ free_block y (given_up t (o.block ∷ o.rest)) ∷ []) o.back) u) where
      abbrev hole : Block
      hole = free_block y (given_up t run)

      blocks_are : u.blocks ≡ o.front ++ ((stepped t run ++ hole ∷ []) ++ o.back)
      blocks_are = ap (λ (z : View). z.blocks) view

      blocks_split : u.blocks ≡ (o.front ++ stepped t run) ++ (hole ∷ o.back)
      blocks_split = blocks_are ∙ ap (λ l. o.front ++ l) (append_assoc (stepped t run) (hole ∷ []) o.back) ∙ sym (append_assoc o.front (stepped t run) (hole ∷ o.back))

      pub opened_grants : (n : ℕ) → want ≡ value (up n) → CanGrant k n u
      opened_grants n want_is = (
        omega (
          arith,
          left_few,
          ap (λ (z : View). z.max_allocs) view,
          ap (λ (l : List Block). length l) blocks_split,
          length-append (o.front ++ stepped t run) (hole ∷ o.back),
          length-append o.front (stepped t run),
        ),
        fit_of u left (o.front ++ stepped t run) hole o.back blocks_split refl n (omega (arith, want_is, o.serves.units)),
      )

  pub opened_slides : {y : ℕ} {left : List ℕ} {u : View} → IsTaken (length (o.front ++ o.block ∷ (o.rest ++ o.back))) (take f.count f.cells.chain.spare) y left
      → u.unused ≡ left ++ names_of (used_up t (o.block ∷ o.rest))
      → SameSpace (replace (shown f) o.front (o.block ∷ o.rest) (stepped t (o.block ∷ o.rest) ++ free_block y (given_up t (o.block ∷ o.rest)) ∷ []) o.back) u
      → (h : SlidesRunBy t want short (shown f) u) × (h.run ≡ o.block ∷ o.rest) × (h.front ≡ o.front)
  opened_slides {y} {left} {u} taken unused view = (
    record {
      front = o.front;
      run = run;
      back = o.back;
      is = o.is;
      begins = ap not o.idle;
      ends = o.free;
      serves = o.serves;
      later = subst (λ (c : RoomCost). CostMoreBy t want short c (o.rest ++ o.back)) o.cost o.later;
      name = y;
      left = left;
      taken = subst (λ (l : List Block). IsTaken (length l) (take f.count f.cells.chain.spare) y left) (sym o.is) taken;
      names = unused;
      view = view;
    },
    refl,
    refl,
  )

  -- the step, as a caller sees it
  pub opened_makes : {F : Type 0} {R : F → Move → F → Type 0} {f₀ g : F} (u : View) (h : SlidesRunBy t want short (shown f) u) → h.run ≡ o.block ∷ o.rest → h.front ≡ o.front
      → FoldsTo R f₀ (moves_by t (units o.front) (units o.front) (o.block ∷ o.rest)) g → (z : View) → shown f ≡ z → r.cost.ranges ≢ 0 → MakesRoomBy R t want short z f₀ (Some r.cost) u g
  opened_makes {F} {R} {f₀} {g} u h run_is front_is calls z e some = (
    λ none. absurd (some none),
    λ _. subst (λ (z : View). (k : SlidesRunBy t want short z u) × (r.cost ≡ cost_of k.run) × FoldsTo R f₀ (moves_by t (units k.front) (units k.front) k.run) g) e
        (h, o.cost ∙ ap cost_of (sym run_is), subst (λ l. FoldsTo R f₀ l g) (sym (ap₂ (λ (l k : List Block). moves_by t (units l) (units l) k) front_is run_is)) calls),
  )

-- the live blocks stay
pub slides_by_live : (t want short : ℕ) (v w : View) → SlidesRunBy t want short v w → live w.blocks ≡ live v.blocks
slides_by_live t want short v w h = stays_live t h.name v w h.front h.run h.back h.is h.view

-- ---- the request
-- the class that is searched from is that of the units needed
pub class_needed : (n align k : ℕ) → 1 ≤ align → k ≡ up (n + (align - 1)) → k ≡ up (n + align - 1)
class_needed n align k l e = let same : n + (align - 1) ≡ n + align - 1 = omega arith in e ∙ ap up same

module _ (f : Fields) (s : AreSound f) (v : View) (e : shown f ≡ v) (w : IsWellFormed v) (n c d : ℕ) (up_is : c ≡ up n) (down_is : d ≡ down f.free) where
  all_free : f.free ≡ sum (free_sizes v.blocks)
  all_free = total_is f s 0 0 ∙ ap (λ (u : View). sum (free_sizes u.blocks)) e

  -- where the class of all free units together is too small
  pub class_few : (t short : ℕ) → d < c → IsLeastCostBy t (value (up n)) short v.blocks None
  class_few t short l = too_few_by t (value (up n)) short v.blocks (omega (arith, all_free, few_units n c d f.free (omega (arith, all_free, free_within v w, w.fits)) up_is down_is l))

  -- else its value is a number of units
  pub class_want : (want : ℕ) → c ≤ d → want ≡ value c % 2 ^ 32 → want ≡ value (up n)
  class_want want l is = want_is n c d f.free want (omega (arith, all_free, free_within v w, w.fits)) up_is down_is l is

  -- so where no block fits none is enough alone
  pub class_alone : (want short : ℕ) → c ≤ d → want ≡ value c % 2 ^ 32 → (short ≤ 1 → HasFit n v → ⊥) → HasNoneAlone want short (blocks f.cells.chain f.last)
  class_alone want short l is none before after b split free enough few = none few (fit_of v w before b after (ap (λ (u : View). u.blocks) (sym e) ∙ split) free n (omega (arith, enough, class_want want l is)))

  -- what the search has found
  module _ (t few want short : ℕ) (l : c ≤ d) (want_is : want ≡ value c % 2 ^ 32) (short_is : short ≡ few) where
    asked : (r : Option Run) → IsCheapestBy t want short (blocks f.cells.chain f.last) r → IsCheapestBy t (value (up n)) few (blocks f.cells.chain f.last) r
    asked r h = subst (λ i. IsCheapestBy t (value (up n)) i (blocks f.cells.chain f.last) r) short_is
        (subst (λ i. IsCheapestBy t i short (blocks f.cells.chain f.last) r) (class_want want l want_is) h)

    seen : (c : Option RoomCost) → IsLeastCostBy t (value (up n)) few (blocks f.cells.chain f.last) c → IsLeastCostBy t (value (up n)) few v.blocks c
    seen c h = let P : View → Type 0 = λ u. IsLeastCostBy t (value (up n)) few u.blocks c in subst P e h

    pub found_none : IsCheapestBy t want short (blocks f.cells.chain f.last) None → IsLeastCostBy t (value (up n)) few v.blocks None
    found_none h = seen None (asked None h)

    pub found_cost : (r : Run) → IsCheapestBy t want short (blocks f.cells.chain f.last) (Some r) → IsLeastCostBy t (value (up n)) few v.blocks (Some r.cost)
    found_cost r h = seen (Some r.cost) (cheapest_least t (value (up n)) few (blocks f.cells.chain f.last) r (asked (Some r) h))

    pub found_run : (r : Run) → IsCheapestBy t want short (blocks f.cells.chain f.last) (Some r) → IsOpenedBy t (value (up n)) few (blocks f.cells.chain f.last) r
    found_run r h = opened_by t (value (up n)) few (blocks f.cells.chain f.last) r (asked (Some r) h)

    pub found_both : (r : Run) → IsCheapestBy t want short (blocks f.cells.chain f.last) (Some r)
        → IsLeastCostBy t (value (up n)) few v.blocks (Some r.cost) × IsOpenedBy t (value (up n)) few (blocks f.cells.chain f.last) r
    found_both r h = (found_cost r h, found_run r h)

-- ---- the slide of the run that was found
module _ (f : Fields) (s : AreSound f) (t want short : ℕ) (r : Run) (o : IsOpenedBy t want short (blocks f.cells.chain f.last) r) where
  pub opened_filed : AreInBins (o.front ++ o.block ∷ (o.rest ++ o.back)) (bins_in f.max f.cells.bins)
  opened_filed = split_filed f s t o.front (o.block ∷ o.rest) o.back o.is

  pub opened_place : (limit : ℕ) × (front : List Block) × (b : Block) × (rest back : List Block)
      × HasPlace f.cells.chain limit f.last f.count r.first (record { before = front; block = b; after = rest ++ back }) × (last_or None (b ∷ rest) ≡ Some r.end)
      × (length (front ++ b ∷ (rest ++ back)) < limit) × AreInBins (front ++ b ∷ (rest ++ back)) (bins_in f.max f.cells.bins)
  opened_place = (
    _,
    o.front,
    o.block,
    o.rest,
    o.back,
    opened_at f s t want short r o,
    o.ends,
    split_few f s t o.front (o.block ∷ o.rest) o.back o.is,
    opened_filed,
  )

  -- what is left, in the tables
  module _ (k : ℕ) (here : short ≡ names_short k (shown f)) {d : Cells} {last count top y : ℕ}
      (there : HasPlace d.chain f.cells.chain.reserved last count y (record {
        before = o.front ++ stepped t (o.block ∷ o.rest);
        block = free_block y (given_up t (o.block ∷ o.rest));
        after = o.back;
      })) (binned : IsBinned f.max d.bins top)
      (lists : bins_in f.max d.bins ≡ push (down (given_up t (o.block ∷ o.rest))) y (push_all (stepped t (o.block ∷ o.rest)) (remove_all (o.block ∷ o.rest) (bins_in f.max f.cells.bins))))
      (filed : AreInBins ((o.front ++ stepped t (o.block ∷ o.rest)) ++ o.back) (push_all (stepped t (o.block ∷ o.rest)) (remove_all (o.block ∷ o.rest) (bins_in f.max f.cells.bins)))) (j : ℕ) where
    abbrev new : Fields
    new = record f { cells = d; last = last; count = count; top = top; accesses = j }

    both : AreSound (record f { cells = d; last = last; count = count; top = top; accesses = j })
        × SameSpace (replace (shown f) o.front (o.block ∷ o.rest) (stepped t (o.block ∷ o.rest) ++ free_block y (given_up t (o.block ∷ o.rest)) ∷ []) o.back)
        (shown (record f { cells = d; last = last; count = count; top = top; accesses = j }))
    both = split_steps f s t o.front (o.block ∷ o.rest) o.back o.is (ap not o.idle) (opened_back f s t want short r o) (opened_few f s t want short r o k here) d last count y there binned lists filed

    pub slid_sound : AreSound (record f { cells = d; last = last; count = count; top = top; accesses = j })
    slid_sound = both.0

    -- and as a caller sees it
    pub slid : {F : Type 0} {R : F → Move → F → Type 0} {f₀ g : F} {z : View} {left : List ℕ} (n : ℕ) → want ≡ value (up n) → shown f ≡ z → r.cost.ranges ≢ 0
        → IsTaken (length (o.front ++ o.block ∷ (o.rest ++ o.back))) (take f.count f.cells.chain.spare) y left → take count d.chain.spare ≡ left ++ names_of (used_up t (o.block ∷ o.rest))
        → FoldsTo R f₀ (moves_by t (units o.front) (units o.front) (o.block ∷ o.rest)) g
        → MakesRoomBy R t want short z f₀ (Some r.cost) (shown (record f { cells = d; last = last; count = count; top = top; accesses = j })) g × (live (blocks d.chain last) ≡ live z.blocks)
        × KeepsSizes z (shown (record f { cells = d; last = last; count = count; top = top; accesses = j }))
        × CanGrant k n (shown (record f { cells = d; last = last; count = count; top = top; accesses = j }))
    slid {z = z} n want_is e some taken unused calls =
        let w : View = shown new in
        let well = (known_sound new both.0 w refl).0 in
        let slides = opened_slides f s t want short r o taken unused both.1 in
        let same = stays_live t y (shown f) w o.front (o.block ∷ o.rest) o.back o.is both.1 in (
          opened_makes f s t want short r o w slides.0 slides.1 slides.2 calls z e some,
          same ∙ ap (λ (u : View). live u.blocks) e,
          subst (λ (u : View). KeepsSizes u w) e (live_sizes (shown f) w (known_sound f s (shown f) refl).0 well same),
          opened_grants f s t want short r o k here y w well both.1 n want_is,
        )

  -- what it counts, with the searches before it
  pub slid_costs : {v : View} {k₁ k₂ k₃ : ℕ} → shown f ≡ v → Costs 1 2 f.accesses k₁ → Costs (4 * length (blocks f.cells.chain f.last)) (7 * length (blocks f.cells.chain f.last)) k₁ k₂ → k₂ ≤ k₃
      → k₃ + 11 * count_used (o.block ∷ o.rest) ≤ k₂ + 18 * length (o.block ∷ o.rest) + 36 → Costs 0 (7 * length v.blocks + 36 * r.cost.ranges + 60) v.accesses k₃
  slid_costs e first search more slide =
      let few = opened_short f s t want short r o in
      let all = ap (λ (u : View). length u.blocks) e in
      let old = ap (λ (u : View). u.accesses) e in (
        omega (arith, old, first.0, search.0, more),
        omega (arith, few, all, old, slide, first.1, search.1),
      )
