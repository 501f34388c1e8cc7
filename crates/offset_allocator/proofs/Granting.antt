-- What a grant leaves of the whole allocator.
use Rattle.std.specs.Prelude.{min}
use Rattle.offset_allocator.proofs.{Sound.Fields, Sound.AreSound, Sound.shown, Sound.well_counted, Linking.Exchange.each-le, Linking.Exchange.there-below, Linking.Places.placed}
use Rattle.offset_allocator.proofs.{Linking.Places.end_fits, Classes.fits_size, Classes.value_clauses, Views.Split.well_divided, Views.Split.part_length, Taken.Taken, Taken.taken, Taken.listed_block}
use Rattle.offset_allocator.proofs.{Views.ViewBins.unlisted_removed, Common.common_steps, Common.append-nil, Common.take}
use Rattle.offset_allocator.proofs.Common.{◌≡◌, ℕ, zero, suc, ◌+◌, ◌-◌, ◌<◌, ◌≤◌, ◌^◌, List, [], ◌∷◌, ◌++◌, length, refl, sym, ap, ap₂, ◌∙◌, arith, slice_set, append_assoc, le-leb, padding_to}
use Rattle.offset_allocator.proofs.Common.{units_needed, times, count_in_bin, nat_eq, value, up, down, ◌%◌, Cells, ChainCells, Block, View, Place, Handle, one, count_named, bin_at, IsWellFormed}
use Rattle.offset_allocator.proofs.Common.{IsNew, free_part, used_block, units, replace, remove_all, push_all, remove, HasPlace, IsFoundFrom, Some, bins_in, IsBinned, ListsOnly, SameSpace, Splits}
use Rattle.offset_allocator.proofs.Joints.{stepped, unused_unlisted, free_part_units, remove_free, free_units-append, free_units-free, free_units-used}
use Rattle.offset_allocator.proofs.Tallies.{one-same, one-eq, times-append, without, counted_none, free_units, free_sum}
use Rattle.offset_allocator.specs.{Requests.NewestHolds, Names.AreTaken, Names.names_of}

-- a grant: sound fields, a class that has a block, and the first name there
pub record Call (f : Fields) (class x : ℕ) : Type 0 where
  pub sound : AreSound f
  pub classed : class < 256
  pub older : List ℕ
  pub newest : bin_at (bins_in f.max f.cells.bins) class ≡ x ∷ older

-- the bins without that name
abbrev pub popped : Fields → ℕ → ℕ → List (List ℕ)
popped f class x = slice_set (bins_in f.max f.cells.bins) class (without x (bin_at (bins_in f.max f.cells.bins) class))

-- a request for the value of a class with a block takes that class
pub found_itself : (class : ℕ) → class < 256 → (xs : List ℕ) → (xs ≡ [] → ⊥) → (ls : List (List ℕ)) → xs ≡ bin_at ls class → IsFoundFrom (up (value class)) ls (Some class)
found_itself class l xs some ls e =
    let again = (value_clauses class (value class % 2 ^ 32) l refl).up_again in
    (omega (arith, again), l, λ n. some (e ∙ n), λ d low high. absurd (omega (arith, again, low, high)))

-- padding or a remainder has a name where it has units
pub part_names : (y k n : ℕ) → 1 ≤ n → count_named y (free_part k n) ≡ one (nat_eq y k)
part_names y k zero l = absurd (omega arith)
part_names y k (suc n) l = omega arith

module _ {f : Fields} {class x : ℕ} (call : Call f class x) where
  abbrev v : View
  v = shown f

  abbrev ls : List (List ℕ)
  ls = bins_in f.max f.cells.bins

  w : IsWellFormed (shown f)
  w = well_counted (shown (record f { accesses = 0 })) f.accesses call.sound.well

  -- the block that is taken
  pub got : Taken (shown f) class x
  got = taken (shown f) w class x call.older call.newest

  abbrev p : Place
  p = got.place

  pub held : {d : ChainCells} → d ≡ f.cells.chain → HasPlace d f.cells.chain.reserved f.last f.count x got.place
  held e = rw e (placed (rw got.list_is at call.sound.space) got.name)

  -- the name is in no bin then
  pub unlisted : ListsOnly (got.place.before ++ got.place.block ∷ got.place.after) (popped f class x)
  unlisted y e = unlisted_removed y x class ls w.classes call.classed (unused_unlisted v w y (ap (count_named y) got.list_is ∙ e))

  removed : remove_all (p.block ∷ []) ls ≡ popped f class x
  removed = remove_free p.block ls got.free ∙ ap₂ (λ i y. remove i y ls) got.class got.name

  had_free : f.free ≡ free_units p.before + (p.block.size + free_units p.after)
  had_free = sym call.sound.total ∙ free_sum (shown f).blocks ∙ ap free_units got.list_is
      ∙ free_units-append p.before (p.block ∷ p.after) ∙ ap (λ k. free_units p.before + k) (free_units-free p.block p.after got.free)

  -- a request for n units, with padding, that the block holds
  module _ (n : ℕ) (padding_at : ℕ → ℕ) (whole_fits : padding_at (units got.place.before) + n ≤ got.place.block.size) where
    abbrev padding : ℕ
    padding = padding_at (units p.before)

    abbrev left : ℕ
    left = p.block.size - (padding + n)

    pub padding_fits : units got.place.before + padding_at (units got.place.before) < 2 ^ 32
    padding_fits = omega (arith, whole_fits, end_fits (held refl))

    pub units_free : n ≤ f.free
    units_free = omega (arith, had_free, whole_fits)

    -- with room for the blocks that it adds; the tables that are left
    module _ (k : ℕ) (room : length (shown f).blocks + k < f.limit) (some : 1 ≤ k)
        (most : min 1 (padding_at (units got.place.before)) + min 1 (got.place.block.size - (padding_at (units got.place.before) + n)) ≤ k) (d : Cells) (last count front rest : ℕ)
        (there : HasPlace d.chain f.cells.chain.reserved last count x (record {
          before = got.place.before ++ free_part front (padding_at (units got.place.before));
          block = used_block got.place.block.name n;
          after = free_part rest (got.place.block.size - (padding_at (units got.place.before) + n)) ++ got.place.after;
        })) where
      abbrev parts : List Block
      parts = free_part front padding ++ (used_block p.block.name n ∷ free_part rest left)

      each_once : (y : ℕ) → (count_named y p.before + count_named y (free_part front padding)) + (count_named y
          (used_block p.block.name n ∷ []) + (count_named y (free_part rest left) + count_named y p.after)) ≤ 1
      each_once y = omega (
        arith,
        each-le d.chain _ last count _ there.chain y,
        times-append y (p.before ++ free_part front padding) (used_block p.block.name n ∷ (free_part rest left ++ p.after)),
        times-append y p.before (free_part front padding),
        times-append y (free_part rest left) p.after,
      )

      unused : (y : ℕ) → 1 ≤ count_named y (free_part front padding) + count_named y (free_part rest left) → IsNew y v
      unused y l =
          let some : 1 ≤ count_named y ((p.before ++ free_part front padding) ++ used_block p.block.name n ∷ (free_part rest left ++ p.after)) = grind (arith, common_steps, times-append) in
          record {
            below = omega (arith, there-below d.chain _ last count y _ there.chain some, there.chain.within, call.sound.memory);
            absent = counted_none y v.blocks (ap (count_named y) got.list_is ∙ omega (arith, l, each_once y, times-append y p.before (p.block ∷ p.after)));
          }

      abbrev left_view : View
      left_view = record (replace v p.before (p.block ∷ []) parts p.after) { unused = take count d.chain.spare }

      abbrev grant : Handle
      grant = record { name = x; offset = units p.before + padding }

      split : (needed : ℕ) → IsFoundFrom (up needed) ls (Some class) → (u : View) → SameSpace left_view u → u.unused ≡ take count d.chain.spare
          → AreTaken (length v.blocks) v.unused (names_of (free_part front padding ++ free_part rest left)) (take count d.chain.spare) → Splits needed n padding_at v u grant
      split needed smallest u same left_unused names_are = record {
        before = p.before;
        block = p.block;
        after = p.after;
        blocks = got.list_is;
        free = got.free;
        fits = omega (arith, got.class, smallest.0);
        smallest = λ c l m. smallest.3 c l (omega (arith, m, got.class));
        older = call.older;
        newest = ap (bin_at ls) got.class ∙ call.newest ∙ ap (λ y. y ∷ call.older) (sym got.name);
        padding = padding;
        padded = refl;
        remainder = left;
        whole = omega (arith, whole_fits);
        padding_name = front;
        remainder_name = rest;
        padding_new = λ l. unused front (omega (arith, part_names front front padding l, one-same front));
        remainder_new = λ l. unused rest (omega (arith, part_names rest rest left l, one-same rest));
        differ = λ l m q. absurd (omega (arith, each_once front, part_names front front padding l, one-same front, part_names front rest left m, one-eq front rest (sym q)));
        grant = ap (λ i. record { name = i; offset = units p.before + padding }) (sym got.name);
        parts = parts;
        made = refl;
        names = rw (append-nil v.unused, left_unused) names_are;
        view = same ∙ ap (λ o. record v { blocks = p.before ++ (parts ++ p.after); bins = push_all parts o; unused = u.unused; accesses = u.accesses }) (remove_free p.block ls got.free);
      }

      pub granted : {top accesses : ℕ} → IsBinned f.max d.bins top
          → bins_in f.max d.bins ≡ push_all (free_part front
          (padding_at (units got.place.before)) ++ (used_block x n ∷ free_part rest (got.place.block.size - (padding_at (units got.place.before) + n)))) (popped f class x)
          → AreTaken (length (got.place.before ++ got.place.block ∷ got.place.after)) (take f.count f.cells.chain.spare)
          (names_of (free_part front (padding_at (units got.place.before)) ++ free_part rest (got.place.block.size - (padding_at (units got.place.before) + n)))) (take count d.chain.spare)
          → AreSound (record f { cells = d; last = last; count = count; top = top; free = f.free - n; accesses = accesses })
          × ((needed : ℕ) → IsFoundFrom (up needed) (bins_in f.max f.cells.bins) (Some class)
          → Splits needed n padding_at (shown f) (shown (record f { cells = d; last = last; count = count; top = top; free = f.free - n; accesses = accesses }))
          (record { name = x; offset = units got.place.before + padding_at (units got.place.before) }))
      unfolding split
      granted {top} {accesses} bins lists names_are =
          let flat : (p.before ++ free_part front padding) ++ (used_block p.block.name n ∷ (free_part rest left ++ p.after)) ≡ p.before ++ (parts ++ p.after) = simp append_assoc in
          let names = rw (← got.list_is) at names_are in
          let well = well_divided (split (value class) (found_itself class call.classed (bin_at ls class) (λ e. absurd (let q = sym call.newest ∙ e in cc)) ls refl) left_view refl refl names) k w room
          some (omega (arith, most, part_length front padding, part_length rest left)) in
          let units_are = ap free_units flat ∙ free_units-append p.before (parts ++ p.after) in
          let parts_are = ap free_units (append_assoc (free_part front padding) (used_block p.block.name n ∷ free_part rest left) p.after) in
          let done = stepped f call.sound left_view d (f.free - n) accesses well refl there.chain flat bins (rw (removed, got.name) lists)
          (omega (
            arith,
            units_are,
            parts_are,
            free_part_units front padding (used_block p.block.name n ∷ (free_part rest left ++ p.after)),
            free_units-used (used_block p.block.name n) (free_part rest left ++ p.after) refl,
            free_part_units rest left p.after,
            had_free,
            whole_fits,
          )) in
          (done.0, λ needed smallest. split needed smallest _ done.1 refl names)

-- the padding and the units are within the units needed
pub within : (n align o : ℕ) → 1 ≤ align → padding_to align o + n ≤ units_needed n align
within n align o l = omega arith

-- a block of a class that is large enough for them holds them
pub first_holds : (v : View) → IsWellFormed v → (n align class : ℕ) → 1 ≤ align → up (units_needed n align) ≤ class → NewestHolds class n align v
first_holds v w n align class some l p older is newest =
    let listed = listed_block class p.block.name p.before p.block p.after refl (omega (arith, w.distinct p.block.name, ap (count_named p.block.name) is))
    (omega (arith, w.binned class p.block.name, ap (times p.block.name) newest, one-same p.block.name, ap (count_in_bin class p.block.name) is)) in
    omega (arith, within n align (units p.before) some, fits_size (units_needed n align) p.block.size (le-leb (up (units_needed n align)) (down p.block.size) (omega (arith, listed.1, l))))
