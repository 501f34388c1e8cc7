-- The whole allocator after its live ranges have moved by whole steps.
use Rattle.offset_allocator.proofs.{Joints.free_units-append, Joints.free_units-free, Joints.free_units-used, Joints.free_part_units, Linking.Exchange.each-le, Linking.Exchange.there-below}
use Rattle.offset_allocator.proofs.{Linking.Places.placed, Moving.Sliding.live_used, Moving.Sliding.live_idle, Moving.Compacting.live_append, Sound.Fields, Sound.AreSound, Sound.shown, Sound.well_counted}
use Rattle.offset_allocator.proofs.{Moving.Stepping.stepped_used, Moving.Stepping.stepped_free, Moving.Stepping.given_used, Moving.Stepping.given_free, Moving.Stepping.moves_by_used, Moving.Stepping.moves_by_free}
use Rattle.offset_allocator.proofs.{Moving.Refiled.push_all-append, Moving.Stepping.emptied_used, Moving.Stepping.emptied_free, Moving.Stepping.run_here, Moving.Stepping.filed_put, Views.ViewBins.length_put}
use Rattle.offset_allocator.proofs.Views.ViewApart.{apart_parts, apart_append, ends_free, left_false, right_false}
use Rattle.offset_allocator.proofs.Tallies.{tally_append, units-append, free_units, free_sum, part_sums}
use Rattle.offset_allocator.proofs.Joints as joints
use Rattle.offset_allocator.proofs.Common.{◌≡◌, ◌≢◌, ℕ, zero, suc, ◌+◌, ◌-◌, ◌*◌, ◌/◌, ◌%◌, ◌<◌, ◌≤◌, Bool, true, false, not, ◌&&◌, nat_le, Some, None, List, [], ◌∷◌, ◌++◌, if◌then◌else◌, refl, sym}
use Rattle.offset_allocator.proofs.Common.{ap, subst, ◌∙◌, arith, inl, inr, append_assoc, append-nil, length, length-append, AllByRecursion, not-true, not-false, true≢false, leb-true, leb-false, common_steps, first_or, ne_eqb, push_all, remove_all, replace}
use Rattle.offset_allocator.proofs.Common.{nat_tests, nat_eq, cases_eq, eq-zero-or-pos, Cells, ChainCells, Block, View, one, units, count_used, free_block, free_part, count_named, starts_free, live, move_of}
use Rattle.offset_allocator.proofs.Common.{down, push, AreInBins, AreCoalesced, IsWellFormed, SameSpace, HasPlace, IsChain, blocks, IsBinned, bins_in}
use Rattle.offset_allocator.specs.Moving.BySteps.{run_by, kept, stepped, given_up, used_up, moves_by, SlidesBy}
use Rattle.std.proofs.Math.Nat.{mod-le, mod-eq_of_lt, mod-mod, add-mod, add-mul-mod_self_right, mul_assoc}
use Rattle.std.proofs.Math.Nat.{mod-add-div'}
use Rattle.offset_allocator.specs.Moving.Compacting.{Move, AreBetween, AreSafe}

kept_most : (s n : ℕ) (bs : List Block) → kept s n bs ≤ n
kept_most s n [] = omega arith
kept_most s n (b ∷ bs) = mod-le n s

stays : (i : ℕ) (b : Block) → move_of i i b ≡ []
stays i b = grind (arith, nat_tests)

-- what is found first
pub record IsWhole (s : ℕ) (bs : List Block) (x : ℕ) : Type 0 where
  pub front : List Block
  pub first : Block
  pub rest : List Block
  pub is : bs ≡ front ++ first ∷ rest
  pub name : first.name ≡ x
  pub few : AllByRecursion (λ b. b.used ≡ false → b.size < s) front
  pub free : first.used ≡ false
  pub whole : s ≤ first.size
  pub more : rest ≢ []
  pub run : run_by s bs ≡ first ∷ rest
  pub moves : (i : ℕ) → moves_by s i i bs ≡ moves_by s (i + units front) (i + units front) (first ∷ rest)

-- a block that is passed before the first one moves none
module _ (s : ℕ) (b : Block) (bs : List Block) (some : bs ≢ []) (e : (not b.used && nat_le s b.size) ≡ false) where
  pub less : b.used ≡ false → b.size < s
  less u = leb-false s b.size (sym (ap (λ t. not t && nat_le s b.size) u) ∙ e)

  still : (i : ℕ) → moves_by s i i (b ∷ bs) ≡ moves_by s (i + b.size) (i + b.size) bs
  still i = go b.used refl
    where
      whole : (l : List Block) → bs ≡ l → b.size < s → kept s b.size l ≡ b.size
      whole [] q l = absurd (some q)
      whole (c ∷ cs) q l = mod-eq_of_lt l

      go : (u : Bool) → b.used ≡ u → moves_by s i i (b ∷ bs) ≡ moves_by s (i + b.size) (i + b.size) bs
      go true u = moves_by_used s b bs u i i ∙ ap (λ l. l ++ moves_by s (i + b.size) (i + b.size) bs) (stays i b)
      go false u = moves_by_free s b bs u i i ∙ ap (λ n. moves_by s (i + b.size) (i + n) bs) (whole bs refl (less u))

pub whole_is : (s : ℕ) (bs : List Block) (x : ℕ) → first_or None (run_by s bs) ≡ Some x → IsWhole s bs x
whole_is s [] x e = absurd (cc)
whole_is s (b ∷ []) x e = absurd (cc)
whole_is s (b ∷ c ∷ bs) x e = go (not b.used && nat_le s b.size) refl (λ h. whole_is s (c ∷ bs) x h)
  where
    some : c ∷ bs ≢ []
    some q = absurd (cc)

    go : (t : Bool) → (not b.used && nat_le s b.size) ≡ t → (first_or None (run_by s (c ∷ bs)) ≡ Some x → IsWhole s (c ∷ bs) x) → IsWhole s (b ∷ c ∷ bs) x
    go true t rest = record {
      front = [];
      first = b;
      rest = c ∷ bs;
      is = refl;
      name = let h : Some b.name ≡ Some x = ap (first_or None) (sym (run_here s b (c ∷ bs) some true (sym t))) ∙ e in cc;
      few = tt;
      free = not-true b.used (left b.used (nat_le s b.size) t);
      whole = leb-true s b.size (right b.used (nat_le s b.size) t);
      more = some;
      run = run_here s b (c ∷ bs) some true (sym t);
      moves = λ i. let same : i ≡ i + 0 = omega arith in ap (λ j. moves_by s j j (b ∷ c ∷ bs)) same;
    }
      where
        left : (u v : Bool) → (not u && v) ≡ true → not u ≡ true
        left true v q = q
        left false v q = refl

        right : (u v : Bool) → (not u && v) ≡ true → v ≡ true
        right true v q = absurd (true≢false (sym q))
        right false v q = q
    go false t rest =
        let o : IsWhole s (c ∷ bs) x = rest (ap (first_or None) (sym (run_here s b (c ∷ bs) some false (sym t))) ∙ e) in
        record {
          front = b ∷ o.front;
          first = o.first;
          rest = o.rest;
          is = ap (λ l. b ∷ l) o.is;
          name = o.name;
          few = (less s b (c ∷ bs) some t, o.few);
          free = o.free;
          whole = o.whole;
          more = o.more;
          run = run_here s b (c ∷ bs) some false (sym t) ∙ o.run;
          moves = λ i. let same : (i + b.size) + units o.front ≡ i + (b.size + units o.front) = omega arith in
              still s b (c ∷ bs) some t i ∙ o.moves (i + b.size) ∙ ap (λ j. moves_by s j j (o.first ∷ o.rest)) same;
        }

pub none_whole : (s : ℕ) (bs : List Block) → run_by s bs ≡ [] → (i : ℕ) → moves_by s i i bs ≡ []
none_whole s [] e i = refl
none_whole s (b ∷ []) e i = go b.used refl
  where
    go : (u : Bool) → b.used ≡ u → moves_by s i i (b ∷ []) ≡ []
    go true u = moves_by_used s b [] u i i ∙ ap (λ l. l ++ []) (stays i b)
    go false u = moves_by_free s b [] u i i
none_whole s (b ∷ c ∷ bs) e i = go (not b.used && nat_le s b.size) refl (λ h. none_whole s (c ∷ bs) h (i + b.size))
  where
    some : c ∷ bs ≢ []
    some q = absurd (cc)

    go : (t : Bool) → (not b.used && nat_le s b.size) ≡ t → (run_by s (c ∷ bs) ≡ [] → moves_by s (i + b.size) (i + b.size) (c ∷ bs) ≡ []) → moves_by s i i (b ∷ c ∷ bs) ≡ []
    go true t rest = let h : b ∷ c ∷ bs ≡ [] = sym (run_here s b (c ∷ bs) some true (sym t)) ∙ e in absurd (cc)
    go false t rest = still s b (c ∷ bs) some t i ∙ rest (sym (run_here s b (c ∷ bs) some false (sym t)) ∙ e)

-- what is left of a run
pub stepped_units : (s : ℕ) (bs : List Block) → units (stepped s bs) + given_up s bs ≡ units bs
stepped_units s [] = refl
stepped_units s (b ∷ bs) = go b.used refl (stepped_units s bs)
  where
    go : (u : Bool) → b.used ≡ u → units (stepped s bs) + given_up s bs ≡ units bs → units (stepped s (b ∷ bs)) + given_up s (b ∷ bs) ≡ units (b ∷ bs)
    go true u ih = omega (arith, ih, ap units (stepped_used s b bs u), given_used s b bs u)
    go false u ih = omega (
      arith,
      ih,
      ap units (stepped_free s b bs u),
      units-append (free_part b.name (kept s b.size bs)) (stepped s bs),
      (part_sums b.name (kept s b.size bs)).1,
      given_free s b bs u,
      kept_most s b.size bs,
    )

pub stepped_free_units : (s : ℕ) (bs : List Block) → free_units (stepped s bs) + given_up s bs ≡ free_units bs
stepped_free_units s [] = refl
stepped_free_units s (b ∷ bs) = go b.used refl (stepped_free_units s bs)
  where
    go : (u : Bool) → b.used ≡ u → free_units (stepped s bs) + given_up s bs ≡ free_units bs → free_units (stepped s (b ∷ bs)) + given_up s (b ∷ bs) ≡ free_units (b ∷ bs)
    go true u ih = omega (arith, ih, ap free_units (stepped_used s b bs u), free_units-used b (stepped s bs) u, free_units-used b bs u, given_used s b bs u)
    go false u ih = omega (
      arith,
      ih,
      ap free_units (stepped_free s b bs u),
      free_part_units b.name (kept s b.size bs) (stepped s bs),
      free_units-free b bs u,
      given_free s b bs u,
      kept_most s b.size bs,
    )

pub stepped_used_of : (s : ℕ) (bs : List Block) → count_used (stepped s bs) ≡ count_used bs
stepped_used_of s [] = refl
stepped_used_of s (b ∷ bs) = go b.used refl (stepped_used_of s bs)
  where
    go : (u : Bool) → b.used ≡ u → count_used (stepped s bs) ≡ count_used bs → count_used (stepped s (b ∷ bs)) ≡ count_used (b ∷ bs)
    go true u ih = omega (arith, ih, ap count_used (stepped_used s b bs u))
    go false u ih = omega (
      arith,
      ih,
      ap count_used (stepped_free s b bs u),
      tally_append (λ (d : Block). one d.used) (free_part b.name (kept s b.size bs)) (stepped s bs),
      (part_sums b.name (kept s b.size bs)).2,
      ap one u,
    )

part_live : (x n : ℕ) (bs : List Block) → live (free_part x n ++ bs) ≡ live bs
part_live x zero bs = refl
part_live x (suc n) bs = refl

pub stepped_live : (s : ℕ) (bs : List Block) → live (stepped s bs) ≡ live bs
stepped_live s [] = refl
stepped_live s (b ∷ bs) = go b.used refl (stepped_live s bs)
  where
    go : (u : Bool) → b.used ≡ u → live (stepped s bs) ≡ live bs → live (stepped s (b ∷ bs)) ≡ live (b ∷ bs)
    go true u ih = ap live (stepped_used s b bs u) ∙ live_used b (stepped s bs) u ∙ ap (λ l. b ∷ l) ih ∙ sym (live_used b bs u)
    go false u ih = ap live (stepped_free s b bs u) ∙ part_live b.name (kept s b.size bs) (stepped s bs) ∙ ih ∙ sym (live_idle b bs u)

pub stepped_length : (s : ℕ) (bs : List Block) → length (stepped s bs) ≤ length bs
stepped_length s [] = omega arith
stepped_length s (b ∷ bs) = go b.used refl (stepped_length s bs)
  where
    go : (u : Bool) → b.used ≡ u → length (stepped s bs) ≤ length bs → length (stepped s (b ∷ bs)) ≤ length (b ∷ bs)
    go true u ih = omega (arith, ih, ap (λ (l : List Block). length l) (stepped_used s b bs u))
    go false u ih = omega (
      arith,
      ih,
      ap (λ (l : List Block). length l) (stepped_free s b bs u),
      length-append (free_part b.name (kept s b.size bs)) (stepped s bs),
      (part_sums b.name (kept s b.size bs)).0,
    )

-- what free blocks keep is between used ones
pub stepped_apart : (s : ℕ) (bs : List Block) (h : Block) (cs : List Block) → AreCoalesced bs → AreCoalesced (h ∷ cs) → AreCoalesced (stepped s bs ++ h ∷ cs)
stepped_apart s [] h cs a k = k
stepped_apart s (b ∷ bs) h cs a k = go b.used refl (stepped_apart s bs h cs a.1 k)
  where
    part : (n : ℕ) (l : List Block) → starts_free l ≡ false → AreCoalesced l → AreCoalesced (free_part b.name n ++ l)
    part zero l e k = k
    part (suc n) l e k = (e, k)

    next : (l : List Block) → bs ≡ l → starts_free l ≡ false → (l ≡ [] → ⊥) → starts_free (stepped s l ++ h ∷ cs) ≡ false
    next [] q e some = absurd (some refl)
    next (d ∷ ds) q e some = let used : d.used ≡ true = not-false d.used e in
        ap (λ l. starts_free (l ++ h ∷ cs)) (stepped_used s d ds used) ∙ e

    none : (l : List Block) → bs ≡ l → kept s b.size l ≢ 0 → l ≡ [] → ⊥
    none l q some e = some (ap (kept s b.size) e)

    go : (u : Bool) → b.used ≡ u → AreCoalesced (stepped s bs ++ h ∷ cs) → AreCoalesced (stepped s (b ∷ bs) ++ h ∷ cs)
    go true u ih = subst (λ l. AreCoalesced (l ++ h ∷ cs)) (sym (stepped_used s b bs u)) (ap (λ t. not t && starts_free (stepped s bs ++ h ∷ cs)) u, ih)
    go false u ih = subst (λ l. AreCoalesced (l ++ h ∷ cs)) (sym (stepped_free s b bs u))
        (subst AreCoalesced (sym (append_assoc (free_part b.name (kept s b.size bs)) (stepped s bs) (h ∷ cs))) (keeps (kept s b.size bs) refl))
      where
        before : starts_free bs ≡ false
        before = right_false (not b.used) (starts_free bs) a.0 (ap not u)

        keeps : (n : ℕ) → kept s b.size bs ≡ n → AreCoalesced (free_part b.name n ++ (stepped s bs ++ h ∷ cs))
        keeps zero q = ih
        keeps (suc n) q = part (suc n) (stepped s bs ++ h ∷ cs) (next bs refl before (none bs refl (λ z. absurd (omega (arith, q, z))))) ih

-- each block stays, or is used up
pub used_up_length : (s : ℕ) (bs : List Block) → length (stepped s bs) + length (used_up s bs) ≡ length bs
used_up_length s [] = refl
used_up_length s (b ∷ bs) = go b.used refl (used_up_length s bs)
  where
    part : (n : ℕ) → length (free_part b.name n) + length (if nat_eq n 0 then b ∷ [] else []) ≡ 1
    part zero = refl
    part (suc n) = omega (arith, ap (λ (t : Bool). length (if t then b ∷ [] else [])) (ne_eqb (suc n) 0 (λ q. absurd (omega (arith, q)))))

    go : (u : Bool) → b.used ≡ u → length (stepped s bs) + length (used_up s bs) ≡ length bs → length (stepped s (b ∷ bs)) + length (used_up s (b ∷ bs)) ≡ length (b ∷ bs)
    go true u ih = omega (arith, ih, ap (λ (l : List Block). length l) (stepped_used s b bs u), ap (λ (l : List Block). length l) (emptied_used s b bs u))
    go false u ih = omega (
      arith,
      ih,
      ap (λ (l : List Block). length l) (stepped_free s b bs u),
      ap (λ (l : List Block). length l) (emptied_free s b bs u (kept s b.size bs) refl),
      length-append (free_part b.name (kept s b.size bs)) (stepped s bs),
      length-append (if nat_eq (kept s b.size bs) 0 then b ∷ [] else []) (used_up s bs),
      part (kept s b.size bs),
    )

-- so where one is used up, there are fewer
pub stepped_fewer : (s : ℕ) (bs : List Block) → used_up s bs ≢ [] → length (stepped s bs) + 1 ≤ length bs
stepped_fewer s bs e = let n = used_up_length s bs in go (used_up s bs) n e
  where
    go : (l : List Block) → length (stepped s bs) + length l ≡ length bs → l ≢ [] → length (stepped s bs) + 1 ≤ length bs
    go [] n some = absurd (some refl)
    go (b ∷ l) n some = omega (arith, n)

-- the bins, once the free ones have left theirs, and what they keep is in its own
abbrev pub refiled : ℕ → List Block → List (List ℕ) → List (List ℕ)
refiled s bs ls = push_all (stepped s bs) (remove_all bs ls)

-- a space with a run of blocks that begins with a free one
module _ (f : Fields) (s : AreSound f) (t : ℕ) (front run back : List Block) (is : blocks f.cells.chain f.last ≡ front ++ (run ++ back)) where
  abbrev v : View
  v = shown f

  w : IsWellFormed v
  w = well_counted (shown (record f { accesses = 0 })) f.accesses s.well

  pub split_filed : AreInBins (front ++ (run ++ back)) (bins_in f.max f.cells.bins)
  split_filed = subst (λ l. AreInBins l (bins_in f.max f.cells.bins)) is w.binned

  pub split_length : length v.blocks ≡ length front + (length run + length back)
  split_length = omega (arith, ap (λ (l : List Block). length l) is, length-append front (run ++ back), length-append run back)

  -- not all nodes that may be made are those of blocks
  pub split_few : length (front ++ (run ++ back)) < f.cells.chain.reserved
  split_few = omega (arith, w.room, ap (λ (l : List Block). length l) is, s.memory)

  -- what is left
  module _ (begins : starts_free run ≡ true) (apart : starts_free back ≡ false) (few : length front + (length (stepped t run) + length back) + 2 ≤ f.limit) (d : Cells) (last count y : ℕ)
      (there : HasPlace d.chain f.cells.chain.reserved last count y (record { before = front ++ stepped t run; block = free_block y (given_up t run); after = back })) where
    abbrev hole : Block
    hole = free_block y (given_up t run)

    abbrev left_blocks : List Block
    left_blocks = front ++ ((stepped t run ++ hole ∷ []) ++ back)

    abbrev left_view : View
    left_view = record v { blocks = left_blocks; bins = push (down (given_up t run)) y (refiled t run v.bins) }

    inner_is : stepped t run ++ (hole ∷ back) ≡ (stepped t run ++ hole ∷ []) ++ back
    inner_is = sym (append_assoc (stepped t run) (hole ∷ []) back)

    list_is : (front ++ stepped t run) ++ (hole ∷ back) ≡ left_blocks
    list_is = append_assoc front (stepped t run) (hole ∷ back) ∙ ap (λ l. front ++ l) inner_is

    left_length : length left_blocks ≡ length front + (length (stepped t run) + length back) + 1
    left_length = omega (
      arith,
      length-append front ((stepped t run ++ hole ∷ []) ++ back),
      length-append (stepped t run ++ hole ∷ []) back,
      length-append (stepped t run) (hole ∷ []),
    )

    starts : (l : List Block) → starts_free l ≡ true → starts_free (l ++ back) ≡ true
    starts [] e = absurd (true≢false (sym e))
    starts (b ∷ l) e = e

    parts : AreCoalesced front × AreCoalesced (run ++ back) × ((ends_free front && starts_free (run ++ back)) ≡ false)
    parts = apart_parts front (run ++ back) (subst AreCoalesced is w.apart)

    inner_parts : AreCoalesced run × AreCoalesced back × ((ends_free run && starts_free back) ≡ false)
    inner_parts = apart_parts run back parts.1

    left_well : length (refiled t run (bins_in f.max f.cells.bins)) ≡ 256 → AreInBins ((front ++ stepped t run) ++ back) (refiled t run (bins_in f.max f.cells.bins))
        → IsWellFormed left_view
    left_well long filed = record {
      some = omega (arith, left_length);
      distinct = λ k. subst (λ l. count_named k l ≤ 1) list_is (omega (arith, each-le d.chain _ last count _ there.chain k));
      below = λ k big. subst (λ l. count_named k l ≡ 0) list_is (elim (eq-zero-or-pos (count_named k ((front ++ stepped t run) ++ (hole ∷ back)))) [
        | inl z ↦ z
        | inr p ↦ absurd (omega (arith, big, there-below d.chain _ last count k _ there.chain (omega (arith, p)), there.chain.within, s.memory))
      ]);
      whole = omega (
        arith,
        w.whole,
        ap units is,
        units-append front (run ++ back),
        units-append run back,
        units-append front ((stepped t run ++ hole ∷ []) ++ back),
        units-append (stepped t run ++ hole ∷ []) back,
        units-append (stepped t run) (hole ∷ []),
        stepped_units t run,
      );
      fits = w.fits;
      apart = subst (λ l. AreCoalesced (front ++ l)) inner_is (apart_append front (stepped t run ++ (hole ∷ back)) parts.0 (stepped_apart t run hole back inner_parts.0 (apart, inner_parts.1))
          (ap (λ u. u && starts_free (stepped t run ++ (hole ∷ back))) (left_false (ends_free front) (starts_free (run ++ back)) parts.2 (starts run begins))));
      classes = length_put (down (given_up t run)) y (refiled t run v.bins) ∙ long;
      binned = subst (λ l. AreInBins l (push (down (given_up t run)) y (refiled t run v.bins))) (append_assoc (front ++ stepped t run) (hole ∷ []) back ∙ list_is)
          (filed_put (front ++ stepped t run) back hole (refiled t run v.bins) refl long filed);
      room = omega (arith, few, left_length);
      few_used = omega (
        arith,
        w.few_used,
        ap count_used is,
        tally_append (λ (b : Block). one b.used) front (run ++ back),
        tally_append (λ (b : Block). one b.used) run back,
        tally_append (λ (b : Block). one b.used) front ((stepped t run ++ hole ∷ []) ++ back),
        tally_append (λ (b : Block). one b.used) (stepped t run ++ hole ∷ []) back,
        tally_append (λ (b : Block). one b.used) (stepped t run) (hole ∷ []),
        stepped_used_of t run,
      );
    }

    total : free_units ((front ++ stepped t run) ++ (hole ∷ back)) ≡ f.free
    total = omega (
      arith,
      s.total,
      free_sum (blocks f.cells.chain f.last),
      ap free_units is,
      free_units-append front (run ++ back),
      free_units-append run back,
      free_units-append (front ++ stepped t run) (hole ∷ back),
      free_units-append front (stepped t run),
      free_units-free hole back refl,
      stepped_free_units t run,
    )

    pub split_steps : {top accesses : ℕ} → IsBinned f.max d.bins top
        → bins_in f.max d.bins ≡ push (down (given_up t run)) y (refiled t run (bins_in f.max f.cells.bins))
        → AreInBins ((front ++ stepped t run) ++ back) (refiled t run (bins_in f.max f.cells.bins))
        → AreSound (record f { cells = d; last = last; count = count; top = top; accesses = accesses })
        × SameSpace (replace (shown f) front run (stepped t run ++ free_block y (given_up t run) ∷ []) back) (shown (record f { cells = d; last = last; count = count; top = top; accesses = accesses }))
    split_steps {top} {accesses} bins lists filed =
        let long : length (refiled t run (bins_in f.max f.cells.bins)) ≡ 256 =
        sym (length_put (down (given_up t run)) y (refiled t run (bins_in f.max f.cells.bins))) ∙ ap (λ (l : List (List ℕ)). length l) (sym lists) ∙ bins.linked.lists_len in
        let r = joints.stepped f s left_view d f.free accesses (left_well long filed) refl there.chain list_is bins lists total in (
          r.0,
          subst (λ (ls : List (List ℕ)). SameSpace (record (shown f) { blocks = left_blocks; bins = ls }) (shown (record f { cells = d; last = last; count = count; top = top; accesses = accesses })))
              (sym (push_all-append (stepped t run) (hole ∷ []) (remove_all run v.bins))) r.1,
        )

-- the live blocks stay
pub stays_live : (t x : ℕ) (v w : View) (front run back : List Block) → v.blocks ≡ front ++ (run ++ back)
    → SameSpace (replace v front run (stepped t run ++ free_block x (given_up t run) ∷ []) back) w → live w.blocks ≡ live v.blocks
stays_live t x v w front run back is view =
    ap (λ (u : View). live u.blocks) view ∙ live_append front ((stepped t run ++ free_block x (given_up t run) ∷ []) ++ back)
    ∙ ap (λ l. live front ++ l) (live_append (stepped t run ++ free_block x (given_up t run) ∷ []) back
    ∙ ap (λ l. l ++ live back) (live_append (stepped t run) (free_block x (given_up t run) ∷ []) ∙ append-nil (live (stepped t run)) ∙ stepped_live t run)
    ∙ sym (live_append run back)) ∙ sym (live_append front (run ++ back)) ∙ sym (ap live is)

pub steps_live : (t : ℕ) (v w : View) → SlidesBy t v w → live w.blocks ≡ live v.blocks
steps_live t v w h = stays_live t h.name v w h.front (h.first ∷ h.rest) [] (h.is ∙ ap (λ (l : List Block). h.front ++ l) (sym (append-nil (h.first ∷ h.rest)))) h.view

-- a block of no units before a block
pub opened_place : {c : ChainCells} {m last count x : ℕ} (y : ℕ) (fs : List Block) (b : Block) (cs : List Block)
    → HasPlace c m last count x (record { before = fs ++ free_block y 0 ∷ []; block = record b { size = b.size - 0 }; after = cs })
    → HasPlace c m last count y (record { before = fs; block = free_block y 0; after = b ∷ cs })
opened_place {c} {m} {last} {count} y fs b cs h =
    let same : b.size - 0 ≡ b.size = omega arith in
    placed (subst (λ (n : ℕ). IsChain c m last count (fs ++ free_block y 0 ∷ record b { size = n } ∷ cs)) same
    (subst (λ l. IsChain c m last count l) (append_assoc fs (free_block y 0 ∷ []) (record b { size = b.size - 0 } ∷ cs)) h.chain)) refl

-- moves: each goes to a smaller offset by whole steps, and can be copied before the later ones
later : (s n from to : ℕ) (bs : List Block) → n ≤ from → AllByRecursion (λ (k : Move). n ≤ k.from) (moves_by s from to bs)
later s n from to [] l = tt
later s n from to (b ∷ bs) l =
    let ih = later s n (from + b.size) (to + b.size) bs (omega (arith, l)) in
    let other = later s n (from + b.size) (to + kept s b.size bs) bs (omega (arith, l)) in
    elim b.used as (λ u. AllByRecursion (λ (k : Move). n ≤ k.from) (if u then move_of from to b ++ moves_by s (from + b.size) (to + b.size) bs else moves_by s (from + b.size) (to + kept s b.size bs) bs)) [
      | true ↦ elim (nat_eq from to) as (λ t. AllByRecursion (λ (k : Move). n ≤ k.from)
          ((if t then [] else record { name = b.name; from = from; to = to; size = b.size } ∷ []) ++ moves_by s (from + b.size) (to + b.size) bs)) [ true ↦ ih | false ↦ (l, ih) ]
      | false ↦ other
    ]

pub safe_by : (s from to : ℕ) (bs : List Block) → to ≤ from → AreSafe (moves_by s from to bs)
safe_by s from to [] l = tt
safe_by s from to (b ∷ bs) l =
    let ih = safe_by s (from + b.size) (to + b.size) bs (omega (arith, l)) in
    let other = safe_by s (from + b.size) (to + kept s b.size bs) bs (omega (arith, l, kept_most s b.size bs)) in
    let rest = later s (to + b.size) (from + b.size) (to + b.size) bs (omega (arith, l)) in
    elim b.used as (λ u. AreSafe (if u then move_of from to b ++ moves_by s (from + b.size) (to + b.size) bs else moves_by s (from + b.size) (to + kept s b.size bs) bs)) [
      | true ↦ grind (arith, common_steps, cases_eq, nat_tests)
      | false ↦ other
    ]

pub between_by : (s first end from to : ℕ) (bs : List Block) → first ≤ to → to ≤ from → from + units bs ≤ end → AreBetween first end (moves_by s from to bs)
between_by s first end from to [] l d e = tt
between_by s first end from to (b ∷ bs) l d e =
    let ih = between_by s first end (from + b.size) (to + b.size) bs (omega (arith, l)) (omega (arith, d)) (omega (arith, e)) in
    let other = between_by s first end (from + b.size) (to + kept s b.size bs) bs (omega (arith, l)) (omega (arith, d, kept_most s b.size bs)) (omega (arith, e)) in
    elim b.used as (λ u. AreBetween first end (if u then move_of from to b ++ moves_by s (from + b.size) (to + b.size) bs else moves_by s (from + b.size) (to + kept s b.size bs) bs)) [
      | true ↦ elim (nat_eq from to) as (λ t. AreBetween first end
          ((if t then [] else record { name = b.name; from = from; to = to; size = b.size } ∷ []) ++ moves_by s (from + b.size) (to + b.size) bs)) [
            | true ↦ ih
            | false ↦ ((l, omega (arith, d, e), omega (arith, e)), ih)
          ]
      | false ↦ other
    ]

-- what is added to numbers that leave the same of a step
same_rest : (s i j n : ℕ) → i % s ≡ j % s → (i + n) % s ≡ (j + n) % s
same_rest s i j n e = add-mod i n s ∙ ap (λ k. (k + n % s) % s) e ∙ sym (add-mod j n s)

same_kept : (s i j n : ℕ) → i % s ≡ j % s → (i + n) % s ≡ (j + n % s) % s
same_kept s i j n e = same_rest s i j n e ∙ add-mod j n s ∙ ap (λ k. (j % s + k) % s) (sym (mod-mod n s)) ∙ sym (add-mod j (n % s) s)

moved_rests : (s from to : ℕ) (b : Block) (ms : List Move) → from % s ≡ to % s → AllByRecursion (λ (m : Move). m.from % s ≡ m.to % s) ms
    → AllByRecursion (λ (m : Move). m.from % s ≡ m.to % s) (move_of from to b ++ ms)
moved_rests s from to b ms e h = elim (nat_eq from to) as (λ t. AllByRecursion (λ (m : Move). m.from % s ≡ m.to % s)
    ((if t then [] else record { name = b.name; from = from; to = to; size = b.size } ∷ []) ++ ms)) [ true ↦ h | false ↦ (e, h) ]

pub rests_by : (s from to : ℕ) (bs : List Block) → from % s ≡ to % s → AllByRecursion (λ (m : Move). m.from % s ≡ m.to % s) (moves_by s from to bs)
rests_by s from to [] e = tt
rests_by s from to (b ∷ []) e =
    elim b.used as (λ u. AllByRecursion (λ (m : Move). m.from % s ≡ m.to % s) (if u then move_of from to b ++ [] else [])) [ true ↦ moved_rests s from to b [] e tt | false ↦ tt ]
rests_by s from to (b ∷ c ∷ bs) e =
    let ih = rests_by s (from + b.size) (to + b.size) (c ∷ bs) (same_rest s from to b.size e) in
    let other = rests_by s (from + b.size) (to + b.size % s) (c ∷ bs) (same_kept s from to b.size e) in
    elim b.used as (λ u. AllByRecursion (λ (m : Move). m.from % s ≡ m.to % s)
    (if u then move_of from to b ++ moves_by s (from + b.size) (to + b.size) (c ∷ bs) else moves_by s (from + b.size) (to + b.size % s) (c ∷ bs))) [
      | true ↦ moved_rests s from to b (moves_by s (from + b.size) (to + b.size) (c ∷ bs)) e ih
      | false ↦ other
    ]

-- and so keeps each alignment that divides the step
pub aligned_by : (align k from to : ℕ) (bs : List Block) → from ≡ to → AllByRecursion (λ (m : Move). m.from % align ≡ m.to % align) (moves_by (k * align) from to bs)
aligned_by align k from to bs e = each (moves_by (k * align) from to bs) (rests_by (k * align) from to bs (ap (λ n. n % (k * align)) e))
  where
    divides : (n : ℕ) → n % align ≡ (n % (k * align)) % align
    divides n = ap (λ m. m % align) (sym (mod-add-div' n (k * align)) ∙ ap (λ m. n % (k * align) + m) (sym (mul_assoc (n / (k * align)) k align)))
        ∙ add-mul-mod_self_right (n % (k * align)) (n / (k * align) * k) align

    each : (ms : List Move) → AllByRecursion (λ (m : Move). m.from % (k * align) ≡ m.to % (k * align)) ms → AllByRecursion (λ (m : Move). m.from % align ≡ m.to % align) ms
    each [] h = tt
    each (m ∷ ms) h = (divides m.from ∙ ap (λ n. n % align) h.0 ∙ sym (divides m.to), each ms h.1)
