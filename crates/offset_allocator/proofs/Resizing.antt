-- A block that is resized with the free block after it: what that leaves of a view, and of the whole allocator.
use Rattle.offset_allocator.proofs.{Freeing.Release, Freeing.at, Freeing.used, Freeing.w, Freeing.remove_used, Freeing.units_start, Views.ViewApart.ends_free, Views.ViewApart.apart_parts}
use Rattle.offset_allocator.proofs.{Views.ViewApart.apart_append, Views.ViewApart.apart_without_start, Views.ViewApart.apart_free_part, Views.ViewApart.start_parts, Linking.Exchange.each-le}
use Rattle.offset_allocator.proofs.{Linking.Exchange.there-below, Granting.part_names, Joints.stepped, Joints.free_part_units, Joints.free_units-append, Joints.free_units-used}
use Rattle.offset_allocator.proofs.{Linking.Places.at_place, Linking.Places.next_place, Ranges.resizes_units, Ranges.resizes_others, Reading.size_is, Reading.size_at, Released.idle_start}
use Rattle.offset_allocator.proofs.{Sound.Fields, Sound.AreSound, Sound.shown, Sound.well_same, Views.ViewReplaced.well_replaced}
use Rattle.offset_allocator.proofs.Common.{take, IsSome, ◌≡◌, ◌≢◌, ◌↔◌, ℕ, zero, suc, ◌+◌, ◌-◌, ◌<◌, ◌≤◌, Bool, true, false, ◌⊎◌, List, [], ◌∷◌, ◌++◌, length, Option, Some, None, is_some, nat_eq}
use Rattle.offset_allocator.proofs.Common.{refl, sym, ap, ap₂, subst, ◌∙◌, inl, inr, arith, length-append, eq-zero-or-pos, if◌then◌else◌, false≢true, true≢false, and_right, Cells, Node, Block, View}
use Rattle.offset_allocator.proofs.Common.{Place, one, units, count_named, count_used, used_block, AreCoalesced, IsWellFormed, IsNew, free_start, without_start, free_part, remove_all, push_all, replace}
use Rattle.offset_allocator.proofs.Common.{AdmitsBlocks, range_of, size_of, KeepsOthers, SameSpace, Resizes, ResizesTo, Shrinks, Grows, CanShrink, CanGrow, HasUnits, free_after, HasPlace, IsFreeAfter}
use Rattle.offset_allocator.proofs.Common.{bins_in, IsBinned, option_map, unwrap_or, common_steps}
use Rattle.offset_allocator.proofs.Tallies.{tally_three, part_sums, counted_none, new_absent, hit_cases, one-same, free_units, free_sum}
use Rattle.offset_allocator.specs.{Names.AreTaken, Names.names_of, Relations.SameState}

-- the name of a free part, where it has units
part_named : (z m y : ℕ) → (count_named y (free_part z m) ≡ 0) ⊎ ((y ≡ z) × (1 ≤ m) × (count_named y (free_part z m) ≡ 1))
part_named z zero y = inl refl
part_named z (suc m) y = elim (hit_cases y z) [ inl h ↦ inr (h.0, omega arith, omega (arith, h.1)) | inr h ↦ inl (omega (arith, h.1)) ]

-- a view that is left is well formed, in a space with room for the free block
module _ {x n : ℕ} {v u : View} (r : Resizes x n v u) (k : IsWellFormed v) where
  abbrev old : List Block
  old = r.block ∷ r.next

  abbrev rest : List Block
  rest = free_part r.name r.left

  abbrev parts : List Block
  parts = used_block x n ∷ rest

  count_of : (y : ℕ) → count_named y v.blocks ≡ count_named y r.before + ((one (nat_eq y x) + count_named y r.next) + count_named y r.after)
  count_of y = ap (count_named y) r.blocks ∙ tally_three (λ (b : Block). one (nat_eq y b.name)) r.before old r.after
      ∙ ap (λ i. count_named y r.before + ((one (nat_eq y i) + count_named y r.next) + count_named y r.after)) r.named

  fresh : 1 ≤ r.left → (1 ≤ count_named r.name r.next) ⊎ (count_named r.name v.blocks ≡ 0)
  fresh l = elim (r.new l) [ inl a ↦ inl a | inr n ↦ inr (new_absent r.name v n) ]

  distinct_parts : (y : ℕ) → count_named y parts ≤ 1
  distinct_parts y = grind (arith, part_named, count_of, fresh)

  named_parts : (y : ℕ) → 1 ≤ count_named y parts → (1 ≤ count_named y old) ⊎ IsNew y v
  named_parts y l = grind (arith, part_named)

  pub well_resized : (1 ≤ length r.next) ⊎ AdmitsBlocks 1 v → IsWellFormed u
  well_resized room = well_same (replace v r.before old parts r.after) u r.view (well_replaced v r.before old parts r.after v.size k
      (record {
        list_is = r.blocks;
        some = omega arith;
        distinct = distinct_parts;
        names = named_parts;
        apart = subst AreCoalesced (ap (λ (z : View). z.blocks) r.view) r.apart;
        room = grind (arith, common_steps, old_length, new_length, part_sums);
        few_used = omega (
          arith,
          k.few_used,
          ap count_used r.blocks,
          tally_three (λ (b : Block). one b.used) r.before old r.after,
          tally_three (λ (b : Block). one b.used) r.before parts r.after,
          ap one r.used,
          (part_sums r.name r.left).2,
        );
      })
      (omega (arith, r.whole, (part_sums r.name r.left).1)) k.fits)
    where
      old_length : length v.blocks ≡ length r.before + (suc (length r.next) + length r.after)
      old_length = ap length r.blocks ∙ length-append r.before (old ++ r.after) ∙ ap (λ m. length r.before + m) (length-append old r.after)

      new_length : length (r.before ++ (parts ++ r.after)) ≡ length r.before + (suc (length rest) + length r.after)
      new_length = length-append r.before (parts ++ r.after) ∙ ap (λ m. length r.before + m) (length-append parts r.after)

-- the fields that are left
module _ {f : Fields} {x : ℕ} (call : Release f x) where
  abbrev v : View
  v = shown f

  abbrev p : Place
  p = (at call).place

  abbrev ls : List (List ℕ)
  ls = bins_in f.max f.cells.bins

  abbrev next : List Block
  next = free_start p.after

  abbrev after : List Block
  after = without_start p.after

  -- the units of the block and of the free block after it
  abbrev pub both : ℕ
  both = (at call).place.block.size + units (free_start (at call).place.after)

  split : v.blocks ≡ p.before ++ ((p.block ∷ next) ++ after)
  split = (at call).list_is ∙ ap (λ l. p.before ++ p.block ∷ l) (start_parts p.after)

  had_free : f.free ≡ free_units p.before + (units next + free_units after)
  had_free = grind (arith, split, free_units-append, free_units-used, used, units_start, free_sum)

  pub free_beside : units (free_start (at call).place.after) ≤ f.free
  free_beside = omega (arith, had_free)

  module _ (n : ℕ) (enough : n ≤ both) (room : (1 ≤ length (free_start (at call).place.after)) ⊎ AdmitsBlocks 1 (shown f))
      (d : Cells) (last count name : ℕ) (there : HasPlace d.chain f.cells.chain.reserved last count x (record {
        before = (at call).place.before;
        block = record (at call).place.block { size = n };
        after = free_part name (both - n) ++ without_start (at call).place.after;
      })) where
    abbrev left : ℕ
    left = both - n

    abbrev new : List Block
    new = used_block x n ∷ free_part name left

    abbrev left_view : View
    left_view = record (replace v p.before (p.block ∷ next) new after) { unused = take count d.chain.spare }

    same_block : record p.block { size = n } ≡ used_block x n
    same_block = ap₂ (λ (i : ℕ) (u : Bool). record { name = i; size = n; used = u }) (at call).held.name (used call)

    -- the name of the free block
    counted : (y : ℕ) → count_named y v.blocks ≡ count_named y p.before + (one (nat_eq y p.block.name) + (count_named y next + count_named y after))
    counted y = ap (count_named y) split ∙ tally_three (λ (b : Block). one (nat_eq y b.name)) p.before (p.block ∷ next) after ∙ omega arith

    now : (y : ℕ) → count_named y (p.before ++ record p.block { size = n } ∷ (free_part name left ++ after)) ≡ count_named y
        p.before + (one (nat_eq y p.block.name) + (count_named y (free_part name left) + count_named y after))
    now y = tally_three (λ (b : Block). one (nat_eq y b.name)) p.before (record p.block { size = n } ∷ free_part name left) after ∙ omega arith

    named : 1 ≤ left → (1 ≤ count_named name next) ⊎ IsNew name v
    named l =
        let here : count_named name (free_part name left) ≡ 1 = part_names name name left l ∙ one-same name in
        elim (eq-zero-or-pos (count_named name next)) [
          | inl z ↦ inr (record {
            below = omega (arith, there-below d.chain _ last count name _ there.chain (omega (arith, now name, here)), there.chain.within, call.sound.memory);
            absent = counted_none name v.blocks (omega (arith, z, counted name, now name, here, each-le d.chain _ last count _ there.chain name));
          })
          | inr s ↦ inl s
        ]

    apart : AreCoalesced (p.before ++ (new ++ after))
    apart =
        let parts = apart_parts p.before (p.block ∷ p.after) (subst AreCoalesced (at call).list_is (w call).apart) in
        let tail = apart_without_start p.after parts.1.1 in
        apart_append p.before (new ++ after) parts.0 (refl, apart_free_part name left after tail.0 tail.1) (and_right (ends_free p.before) false refl)

    resizes : (u : View) → SameSpace left_view u → u.unused ≡ take count d.chain.spare
        → AreTaken (length v.blocks) (v.unused ++ names_of next) (names_of (free_part name left)) (take count d.chain.spare) → Resizes x n v u
    resizes u same left_unused taken = record {
      before = p.before;
      block = p.block;
      next = next;
      after = after;
      blocks = split;
      named = (at call).held.name;
      used = used call;
      free = idle_start p.after;
      left = left;
      whole = omega (arith, enough);
      name = name;
      new = named;
      names = rw left_unused taken;
      view = same;
      apart = subst AreCoalesced (sym (ap (λ (z : View). z.blocks) same)) apart;
    }

    pub resized : {top : ℕ} (accesses free : ℕ) → IsBinned f.max d.bins top
        → bins_in f.max d.bins ≡ push_all (free_part name (both - n)) (remove_all (free_start (at call).place.after) (bins_in f.max f.cells.bins))
        → free + n ≡ f.free + (at call).place.block.size
        → AreTaken (length ((at call).place.before ++ (at call).place.block ∷ (at call).place.after)) (take f.count f.cells.chain.spare ++ names_of (free_start (at call).place.after))
        (names_of (free_part name (both - n))) (take count d.chain.spare)
        → AreSound (record f { cells = d; last = last; count = count; top = top; free = free; accesses = accesses })
        × Resizes x n (shown f) (shown (record f { cells = d; last = last; count = count; top = top; free = free; accesses = accesses }))
    unfolding resizes
    resized {top} accesses free bins lists total names_are =
        let taken = rw (← (at call).list_is) at names_are in
        let well = well_resized (resizes left_view refl refl taken) (w call) room in
        let flat : p.before ++ record p.block { size = n } ∷ (free_part name left ++ after) ≡ p.before ++ (new ++ after) = ap (λ b. p.before ++ b ∷ (free_part name left ++ after)) same_block in
        let bins_are : bins_in f.max d.bins ≡ push_all new (remove_all (p.block ∷ next) ls) = lists ∙ ap (push_all (free_part name left)) (sym (remove_used p.block next ls (used call))) in
        let units_are = free_units-append p.before (new ++ after) in
        let done = stepped f call.sound left_view d free accesses well refl there.chain flat bins bins_are
        (ap free_units flat ∙ units_are ∙ omega (arith, free_units-used (used_block x n) (free_part name left ++ after) refl, free_part_units name left after, had_free, total, enough)) in
        (done.0, resizes _ done.1 refl taken)

  -- whether a free block is after it
  pub next_some : (o : Option ℕ) → IsFreeAfter f.cells.chain x o → (is_some o ≡ true → 1 ≤ length (free_start (at call).place.after))
      × (is_some o ≡ false → free_start (at call).place.after ≡ [])
  next_some None h = (λ e. absurd (false≢true e), λ _. h _ _ _ _ (at call).held)
  next_some (Some y) h =
      let n = next_place (at call).held h.0 in
      let idle : n.block.used ≡ false = sym (ap (λ (v : Node). v.used) (at_place n.place)) ∙ h.1 in
      let is : free_start (n.block ∷ n.rest) ≡ n.block ∷ [] = rw idle refl in
      (λ _. omega (arith, ap (λ l. length (free_start l)) n.is, ap length is), λ e. absurd (true≢false e))

  pub some_after : (o : Option ℕ) → IsFreeAfter f.cells.chain x o → 1 ≤ units (free_start (at call).place.after) → IsSome o
  some_after None h l = absurd (omega (arith, l, ap units (h _ _ _ _ (at call).held)))
  some_after (Some y) h l = refl

  -- what the calls do
  pub size_there : size_of x v ≡ p.block.size
  size_there = size_is x v ∙ ap size_at (at call).is ∙ ap (λ (u : Bool). if u then p.block.size else 0) (used call)

  next_there : free_after x v ≡ next
  next_there = ap (λ (o : Option Place). unwrap_or (option_map (λ (p : Place). free_start p.after) o) []) (at call).is

  -- no block may take the units that are given back
  pub resizes_full : (n accesses : ℕ) → n < (at call).place.block.size → free_start (at call).place.after ≡ [] → f.limit ≤ length (shown f).blocks + 1
      → ResizesTo x n (shown f) (shown (record f { accesses = accesses })) false
  resizes_full n accesses l e full = (λ c. elim (c.1 (omega (arith, l, size_there))) [ inl some ↦ some (next_there ∙ e) | inr room ↦ omega (arith, room, full) ], refl)

  -- the free block after it has too few units
  pub resizes_short : (n accesses : ℕ) → both < n → ResizesTo x n (shown f) (shown (record f { accesses = accesses })) false
  resizes_short n accesses l = (λ c. omega (arith, c.0, l, size_there, ap units next_there), refl)

  pub resizes_done : (n : ℕ) (u : View) → n ≢ (at call).place.block.size → n ≤ both → (1 ≤ length (free_start (at call).place.after)) ⊎ AdmitsBlocks 1 (shown f)
      → Resizes x n (shown f) u → ResizesTo x n (shown f) u true
  resizes_done n u ne m room r = grind (arith, size_there, next_there)

-- however many accesses were counted before
resizes_counted : (x n : ℕ) (v w : View) (accesses : ℕ) → Resizes x n (record v { accesses = accesses }) w → Resizes x n v w
resizes_counted x n v w accesses r = record {
  before = r.before;
  block = r.block;
  next = r.next;
  after = r.after;
  blocks = r.blocks;
  named = r.named;
  used = r.used;
  free = r.free;
  left = r.left;
  whole = r.whole;
  name = r.name;
  new = λ l. elim (r.new l) [ inl a ↦ inl a | inr n ↦ inr (record { below = n.below; absent = n.absent }) ];
  names = r.names;
  view = r.view;
  apart = r.apart;
}

pub resized_counted : (x n : ℕ) (v w : View) (accesses : ℕ) (done : Bool) → ResizesTo x n (record v { accesses = accesses }) w done → ResizesTo x n v w done
resized_counted x n v w accesses true s = elim s [ inl z ↦ inl z | inr r ↦ inr (r.0, r.1, resizes_counted x n v w accesses r.2) ]
resized_counted x n v w accesses false s = s

-- what the one change is to a call for fewer units, and to one for more
pub shrinks_of : (x n : ℕ) (v w : View) (done : Bool) → n ≤ size_of x v → ResizesTo x n v w done → Shrinks x n v w done
shrinks_of x n v w true l s = elim s [ inl z ↦ inl z | inr r ↦ inr (omega (arith, l, r.0), (l, r.1.1), r.2) ]
shrinks_of x n v w false l s = (λ c. s.0 (omega (arith, c.0), c.1), s.1)

pub grows_of : (x n : ℕ) (v w : View) (done : Bool) → size_of x v ≤ n → ResizesTo x n v w done → Grows x n v w done
grows_of x n v w true l s = elim s [ inl z ↦ inl z | inr r ↦ inr (omega (arith, l, r.0), (l, r.1.0), r.2) ]
grows_of x n v w false l s = (λ c. s.0 (c.1, λ m. absurd (omega (arith, m, c.0))), s.1)

-- when it is done
pub shrinks_can : (x n : ℕ) (v w : View) (done : Bool) → Shrinks x n v w done → (done ≡ true) ↔ CanShrink x n v
shrinks_can x n v w true s = (λ h. elim s [ inl z ↦ (omega (arith, z.0), λ l. absurd (omega (arith, z.0, l))) | inr r ↦ r.1 ], λ h. refl)
shrinks_can x n v w false s = (λ h. absurd (false≢true h), λ h. absurd (s.0 h))

pub grows_can : (x n : ℕ) (v w : View) (done : Bool) → Grows x n v w done → (done ≡ true) ↔ CanGrow x n v
grows_can x n v w true s = (λ h. elim s [ inl z ↦ (omega (arith, z.0), omega (arith, z.0)) | inr r ↦ r.1 ], λ h. refl)
grows_can x n v w false s = (λ h. absurd (false≢true h), λ h. absurd (s.0 h))

-- a range of n units has them already
pub has_units : (x n : ℕ) (v w : View) → n ≡ size_of x v → SameState v w → HasUnits x n v w
has_units x n v w e same r is = grind arith

-- what the calls leave of ranges
module _ (x n : ℕ) (v w : View) (k : IsWellFormed v) (left : IsWellFormed w) where
  pub resized_units : (done : Bool) → ResizesTo x n v w done → done ≡ true → HasUnits x n v w
  resized_units true s e = elim s [ inl z ↦ has_units x n v w z.0 z.1 | inr r ↦ resizes_units x n v w k left r.2 ]
  resized_units false s e = absurd (false≢true e)

  pub resized_others : ResizesTo x n v w true → KeepsOthers x v w
  resized_others s = elim s [ inl z ↦ λ y d. ap (range_of y) z.1 | inr r ↦ resizes_others x n v w k left r.2 ]
