-- The whole allocator after a run has slid to its front: one of enough free units is one that serves by steps of one unit.
use Rattle.offset_allocator.proofs.{Filing.Filed.filed_in, Linking.Places.at_place, Common.IsAmong, Common.Node, Common.ap₂, Common.bin_at, Common.node, Sound.AreSound, Sound.Fields, Sound.known_sound, Sound.shown, Sound.well_counted}
use Rattle.offset_allocator.proofs.Moving.Compacting.{free_here}
use Rattle.offset_allocator.proofs.Moving.Gathered.{gathered_absent, gathered_below, gathered_is, gathered_steps}
use Rattle.offset_allocator.proofs.Moving.OneStep.{given_one, moves_one, serves_one, used_up_one}
use Rattle.offset_allocator.proofs.Moving.RoomsBySteps.{IsOpenedBy, opened_at, opened_back, opened_filed, opened_grants}
use Rattle.offset_allocator.proofs.{Moving.Stepped.stays_live, Moving.Packed.live_sizes, Moving.Sliding.moves_idle, Moving.Stepping.emptied_free}
use Rattle.offset_allocator.proofs.Common.{◌≡◌, ◌≢◌, ℕ, ◌+◌, ◌≤◌, Bool, false, not, ◌&&◌, nat_eq, Some, None, List, [], ◌∷◌, ◌++◌, length, if◌then◌else◌, refl, sym, ap, subst, ◌∙◌, arith, length-append}
use Rattle.offset_allocator.proofs.Common.{AreInBins, Block, CanGrant, Cells, FoldsTo, HasPlace, IsBinned, IsWellFormed, KeepsSizes, Move, SameSpace, View, bins_in, blocks, count_used, down, drop, ends_used, first_free, free_block, last_or}
use Rattle.offset_allocator.proofs.Common.{live, moves, one, push, push_all, remove, remove_all, replace, take, units, up, value}
use Rattle.offset_allocator.specs.Moving.BySteps.{given_up, kept, moves_by, stepped, used_up}
use Rattle.offset_allocator.specs.Moving.Room.{IsLess, MakesRoom, SlidesRun, cost_of}
use Rattle.offset_allocator.specs.Moving.RoomBySteps.{names_short}
use Rattle.offset_allocator.specs.{Names.names_of}
use Rattle.offset_allocator.specs.declared.moves.room.RoomCost.{RoomCost}
use Rattle.offset_allocator.specs.declared.moves.runs.Run.{Run}

-- the last block of a run is free, and so used up; and so is the first one
pub last_used_up : (b : Block) (bs : List Block) → ends_used (b ∷ bs) ≡ false → 1 ≤ length (used_up 1 (b ∷ bs))
last_used_up b [] u = omega (arith, ap (λ (l : List Block). length l) (emptied_free 1 b [] u 0 refl))
last_used_up b (c ∷ cs) u = omega (arith, last_used_up c cs u, length-append (if not b.used && nat_eq (kept 1 b.size (c ∷ cs)) 0 then b ∷ [] else []) (used_up 1 (c ∷ cs)))

-- the live blocks stay
pub slides_live : (want : ℕ) (v w : View) → SlidesRun want v w → live w.blocks ≡ live v.blocks
slides_live want v w h = stays_live 1 h.name v w h.front h.run h.back h.is (subst (λ (l : List Block). SameSpace (replace v h.front h.run l h.back) w) (sym (gathered_is h.name h.run)) h.view)

module _ (f : Fields) (s : AreSound f) (want : ℕ) (r : Run) (o : IsOpenedBy 1 want 0 (blocks f.cells.chain f.last) r) (some : r.cost.ranges ≢ 0) where
  abbrev v : View
  v = shown f

  abbrev run : List Block
  run = o.block ∷ o.rest

  abbrev lists : List (List ℕ)
  lists = push_all (stepped 1 o.rest) (remove_all o.rest (remove (down o.block.size) o.block.name (bins_in f.max f.cells.bins)))

  w : IsWellFormed v
  w = well_counted (shown (record f { accesses = 0 })) f.accesses s.well

  -- its first block leaves its bin
  pub first_size : {n : ℕ} → n ≡ (node f.cells.chain r.first).size → n ≡ o.block.size
  first_size e = e ∙ ap (λ (m : Node). m.size) (at_place (opened_at f s 1 want 0 r o))

  pub first_listed : {n : ℕ} → n ≡ (node f.cells.chain r.first).size → IsAmong r.first (bin_at (bins_in f.max f.cells.bins) (down n))
  first_listed {n} e = subst (λ k. IsAmong k (bin_at (bins_in f.max f.cells.bins) (down n))) o.name
      (subst (λ k. IsAmong o.block.name (bin_at (bins_in f.max f.cells.bins) (down k))) (sym (first_size e))
      (filed_in o.front (o.rest ++ o.back) o.block (bins_in f.max f.cells.bins) (opened_filed f s 1 want 0 r o) o.idle))

  pub first_gone : {n : ℕ} {bins : List (List ℕ)} → n ≡ (node f.cells.chain r.first).size → bins ≡ remove (down n) r.first (bins_in f.max f.cells.bins)
      → bins ≡ remove (down o.block.size) o.block.name (bins_in f.max f.cells.bins)
  first_gone e gone = gone ∙ ap₂ (λ (k y : ℕ). remove (down k) y (bins_in f.max f.cells.bins)) (first_size e) (sym o.name)

  -- there are blocks behind the first one
  more : o.rest ≡ [] → ⊥
  more none = some (omega (arith, ap (λ (c : RoomCost). c.ranges) o.cost, ap (λ (l : List Block). count_used (o.block ∷ l)) none, ap one o.idle))

  pub rest_ends : last_or None o.rest ≡ Some r.end
  rest_ends = go o.rest more o.ends
    where
      go : (l : List Block) → (l ≡ [] → ⊥) → last_or None (o.block ∷ l) ≡ Some r.end → last_or None l ≡ Some r.end
      go [] m e = absurd (m refl)
      go (c ∷ cs) m e = e

  two : 2 ≤ length (used_up 1 (o.block ∷ o.rest))
  two = go o.rest more o.free
    where
      go : (l : List Block) → (l ≡ [] → ⊥) → ends_used (o.block ∷ l) ≡ false → 2 ≤ length (used_up 1 (o.block ∷ l))
      go [] m e = absurd (m refl)
      go (c ∷ cs) m e = omega (arith, last_used_up c cs e, ap (λ (l : List Block). length l) (used_up_one (o.block ∷ c ∷ cs) ∙ free_here o.block (c ∷ cs) o.idle), ap (λ (l : List Block). length l) (used_up_one (c ∷ cs)))

  -- so there is a node for the block of the request
  abbrev opened : IsOpenedBy 1 want (names_short 1 v) (blocks f.cells.chain f.last) r
  opened = record {
    front = o.front;
    rest = o.rest;
    back = o.back;
    block = o.block;
    is = o.is;
    idle = o.idle;
    name = o.name;
    ends = o.ends;
    free = o.free;
    cost = o.cost;
    serves = record { units = o.serves.units; names = omega (arith, two, w.room) };
    later = λ q k l. o.later q k (record { units = l.units; names = omega arith });
  }

  -- what is left
  module _ (d : Cells) (last count x n : ℕ) (there : HasPlace d.chain f.cells.chain.reserved last count x (record { before = o.front ++ stepped 1 o.rest; block = free_block x n; after = o.back }))
      (sized : n ≡ o.block.size + given_up 1 o.rest) (top : ℕ) (binned : IsBinned f.max d.bins top)
      (is_filed : bins_in f.max d.bins ≡ push (down n) x (push_all (stepped 1 o.rest) (remove_all o.rest (remove (down o.block.size) o.block.name (bins_in f.max f.cells.bins)))))
      (filed : AreInBins ((o.front ++ stepped 1 o.rest) ++ o.back) (push_all (stepped 1 o.rest) (remove_all o.rest (remove (down o.block.size) o.block.name (bins_in f.max f.cells.bins))))) (j : ℕ) where
    abbrev new : Fields
    new = record f { cells = d; last = last; count = count; top = top; accesses = j }

    both : AreSound new × SameSpace (replace v o.front run (stepped 1 run ++ free_block x (given_up 1 run) ∷ []) o.back) (shown new)
    both = gathered_steps f s o.front o.block o.rest o.back o.is o.idle (opened_back f s 1 want 0 r o) d last count x n there sized binned refl is_filed filed

    pub slides_sound : AreSound (record f { cells = d; last = last; count = count; top = top; accesses = j })
    slides_sound = both.0

    -- and as a caller sees it
    pub slides : {F : Type 0} {R : F → Move → F → Type 0} {f₀ g : F} {z : View} (size : ℕ) → want ≡ value (up size) → shown f ≡ z → x ≡ r.first
        → take count d.chain.spare ≡ take f.count f.cells.chain.spare ++ names_of (used_up 1 o.rest) → FoldsTo R f₀ (moves_by 1 (units o.front + o.block.size) (units o.front) o.rest) g
        → MakesRoom R want z f₀ (Some r.cost) (shown (record f { cells = d; last = last; count = count; top = top; accesses = j })) g × (live (blocks d.chain last) ≡ live z.blocks)
        × KeepsSizes z (shown (record f { cells = d; last = last; count = count; top = top; accesses = j }))
        × CanGrant 1 size (shown (record f { cells = d; last = last; count = count; top = top; accesses = j }))
    slides {F} {R} {f₀} {g} {z} size wanted e same_name unused calls =
        let u : View = shown new in
        let well = (known_sound new both.0 u refl).0 in
        let h : SlidesRun want v u = record {
          front = o.front;
          run = run;
          back = o.back;
          is = o.is;
          begins = ap not o.idle;
          ends = o.free;
          serves = omega (arith, o.serves.units, given_one run);
          later = λ q k l. subst (λ (c : RoomCost). IsLess c (cost_of q)) o.cost (o.later q k (serves_one want q l));
          name = x;
          below = gathered_below f s o.front o.block o.rest o.back o.is o.idle (opened_back f s 1 want 0 r o) d last count x n there sized;
          first = ap (λ (t : Bool). if t then first_free o.rest else Some o.block.name) o.idle ∙ ap (λ (i : ℕ). Some i) (o.name ∙ sym same_name);
          names = unused ∙ ap (λ (l : List Block). take f.count f.cells.chain.spare ++ names_of l) (used_up_one o.rest ∙ sym (ap (drop 1) (free_here o.block o.rest o.idle)));
          absent = gathered_absent f s o.front o.block o.rest o.back o.is o.idle (opened_back f s 1 want 0 r o) d last count x n there sized;
          view = subst (λ (l : List Block). SameSpace (replace v o.front run l o.back) u) (gathered_is x run) both.1;
        } in
        let same = slides_live want v u h in
        let all : moves_by 1 (units o.front + o.block.size) (units o.front) o.rest ≡ moves (units o.front) (units o.front) run =
        moves_one (units o.front + o.block.size) (units o.front) o.rest ∙ sym (moves_idle (units o.front) (units o.front) o.block o.rest o.idle) in (
          (
            λ none. absurd (some none),
            λ _. subst (λ (z : View). (k : SlidesRun want z u) × (r.cost ≡ cost_of k.run) × FoldsTo R f₀ (moves (units k.front) (units k.front) k.run) g) e
                (h, o.cost, subst (λ (l : List Move). FoldsTo R f₀ l g) all calls),
          ),
          same ∙ ap (λ (y : View). live y.blocks) e,
          subst (λ (y : View). KeepsSizes y u) e (live_sizes v u (known_sound f s v refl).0 well same),
          opened_grants f s 1 want (names_short 1 v) r opened 1 refl x u well both.1 size wanted,
        )
