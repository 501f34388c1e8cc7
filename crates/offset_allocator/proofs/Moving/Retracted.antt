-- The last block of a space has fewer units, or goes.
use Rattle.offset_allocator.proofs.{Sound.Fields, Sound.AreSound, Sound.shown, Sound.well_same, Joints.stepped, Joints.free_units-append, Joints.free_units-free, Views.ViewApart.apart_parts}
use Rattle.offset_allocator.proofs.{Views.ViewApart.apart_append, Views.ViewApart.ends_free, Views.ViewReplaced.well_replaced, Reporting.Nearby.one_used, Reporting.Nearby.other_used, Ranges.cuts_keep}
use Rattle.offset_allocator.proofs.Common.{◌≡◌, ℕ, zero, suc, ◌+◌, ◌-◌, ◌<◌, ◌≤◌, Bool, true, false, not, ◌&&◌, List, [], ◌∷◌, ◌++◌, length, take, refl, sym, ap, subst, ◌∙◌, arith, inl, inr}
use Rattle.offset_allocator.proofs.Common.{append-nil, append_assoc, length-append, Block, View, Cells, units, one, down, free_block, count_used, AreCoalesced, IsWellFormed, IsChain, IsBinned, bins_in}
use Rattle.offset_allocator.proofs.Common.{blocks, push, push_all, remove_all, replace, ends_used, KeepsAll, true≢false}
use Rattle.offset_allocator.proofs.Tallies.{free_units, free_sum, units-append, tally_append, hit_cases}
use Rattle.offset_allocator.proofs.Extending.{ends_last, EndsFree, last_of, known_of, last_free, last_left, last_removed}
use Rattle.offset_allocator.specs.{Names.AreTaken, Names.names_of, Moving.Retracting.CanRetract, Moving.Retracting.Cuts, Moving.Retracting.Retracts, Moving.Retracting.end_part}

-- what is left at the end
end_some : (fs : List Block) (x n : ℕ) → (n ≡ 0 → fs ≡ []) → end_part fs x n ≡ free_block x n ∷ []
end_some [] x n e = refl
end_some (f ∷ fs) x zero e = let q = e refl in absurd (cc)
end_some (f ∷ fs) x (suc n) e = refl

end_none : (gs : List Block) (a : Block) (x : ℕ) → end_part (gs ++ a ∷ []) x 0 ≡ []
end_none [] a x = refl
end_none (g ∷ gs) a x = refl

as_free : (b : Block) (n : ℕ) → b.used ≡ false → record b { size = n } ≡ free_block b.name n
as_free b n e = ap (λ (u : Bool). record { name = b.name; size = n; used = u }) e

module _ {it : Fields} (r : EndsFree it) (less : ℕ) (enough : less ≤ (last_of r).last.size) where
  s : AreSound it
  s = r.sound

  abbrev fs : List Block
  fs = (last_of r).front

  abbrev b : Block
  b = (last_of r).last

  w : IsWellFormed (shown it)
  w = known_of r

  its_units : units (shown it).blocks ≡ units (last_of r).front + (last_of r).last.size
  its_units = omega (arith, ap units (last_of r).is, units-append fs (b ∷ []))

  its_free : it.free ≡ free_units (last_of r).front + (last_of r).last.size
  its_free = omega (arith, s.total, free_sum (blocks it.cells.chain it.last), ap free_units (last_of r).is, free_units-append fs (b ∷ []), free_units-free b [] (last_free r))

  pub size_fits : less ≤ it.size
  size_fits = omega (arith, enough, its_units, w.whole)

  pub free_fits : less ≤ it.free
  free_fits = omega (arith, enough, its_free)

  parts : AreCoalesced (last_of r).front × AreCoalesced ((last_of r).last ∷ []) × ((ends_free (last_of r).front && not (last_of r).last.used) ≡ false)
  parts = apart_parts fs (b ∷ []) (subst AreCoalesced (last_of r).is w.apart)

  abbrev pub Cut : Cells → ℕ → ℕ → ℕ → ℕ → Type 0
  Cut d last count top k =
      let new : Fields = record it { size = it.size - less; cells = d; last = last; count = count; top = top; free = it.free - less; accesses = k } in
      AreSound new × Cuts less (shown it) (shown new) × KeepsAll (shown it) (shown new)

  -- some of it stays
  abbrev narrow_view : View
  narrow_view = record (replace (shown it) (last_of r).front ((last_of r).last ∷ []) (free_block (last_of r).last.name ((last_of r).last.size - less) ∷ []) []) { size = it.size - less }

  well_narrow : IsWellFormed (record (replace (shown it) (last_of r).front ((last_of r).last ∷ []) (free_block (last_of r).last.name ((last_of r).last.size - less) ∷ []) []) { size = it.size - less })
  well_narrow = well_replaced (shown it) fs (b ∷ []) (free_block b.name (b.size - less) ∷ []) [] (it.size - less) w
      (record {
        list_is = (last_of r).is;
        some = omega arith;
        distinct = λ y. elim (hit_cases y b.name) [ inl i ↦ omega (arith, i.1) | inr i ↦ omega (arith, i.1) ];
        names = λ x l. inl l;
        apart = apart_append fs (free_block b.name (b.size - less) ∷ []) parts.0 (refl, tt) (ap (λ (u : Bool). ends_free fs && not u) (sym (last_free r)) ∙ parts.2);
        room = omega (arith, w.room, ap (λ (l : List Block). length l) (last_of r).is, length-append fs (b ∷ []), length-append fs (free_block b.name (b.size - less) ∷ []));
        few_used = omega (
          arith,
          w.few_used,
          ap count_used (last_of r).is,
          tally_append (λ (c : Block). one c.used) fs (b ∷ []),
          tally_append (λ (c : Block). one c.used) fs (free_block b.name (b.size - less)
              ∷ []),
        );
      })
      (omega (arith, enough, size_fits)) (omega (arith, w.fits))

  pub narrowed : ((last_of r).last.size - less ≡ 0 → (last_of r).front ≡ []) → (d : Cells) (k : ℕ) {count top : ℕ}
      → IsChain d.chain it.cells.chain.reserved it.last count ((last_of r).front ++ record (last_of r).last { size = (last_of r).last.size - less } ∷ []) → IsBinned it.max d.bins top
      → bins_in it.max d.bins ≡ push (down ((last_of r).last.size - less)) it.last (last_left r) → take count d.chain.spare ≡ take it.count it.cells.chain.spare
      → Cut d it.last count top k
  narrowed rest d k {count} {top} chain bins lists unused =
      let n : ℕ = b.size - less in
      let made = stepped it s narrow_view d (it.free - less) k well_narrow refl chain (ap (λ (c : Block). fs ++ c ∷ []) (as_free b n (last_free r))) bins
      (lists ∙ ap (λ (x : ℕ). push (down n) x (last_left r)) (sym (last_of r).name) ∙ ap (push (down n) b.name) (last_removed r))
      (free_units-append fs (record b { size = n } ∷ []) ∙ omega (arith, its_free, enough, free_units-free (record b { size = n }) [] (last_free r))) in
      let is : Cuts less (shown it) (shown (record it { size = it.size - less; cells = d; last = it.last; count = count; top = top; free = it.free - less; accesses = k })) = record {
        before = fs;
        last = b;
        blocks = (last_of r).is;
        free = last_free r;
        enough = enough;
        names =
            subst (λ (new : List Block). AreTaken (length (shown it).blocks) ((shown it).unused ++ b.name ∷ []) (names_of new) (take count d.chain.spare)) (sym (end_some fs b.name n rest))
            (take count d.chain.spare, inl (ap (λ (l : List ℕ). l ++ b.name ∷ []) (sym unused)), refl);
        view = made.1 ∙ ap (λ (new : List Block). record (replace (shown it) fs (b ∷ []) new []) { size = it.size - less; unused = take count d.chain.spare; accesses = k }) (sym (end_some fs b.name n rest));
      } in (
        made.0,
        is,
        cuts_keep (shown it) (shown (record it { size = it.size - less; cells = d; last = it.last; count = count; top = top; free = it.free - less; accesses = k })) w
            (well_same narrow_view _ made.1 well_narrow) less is,
      )

  pub narrowed_to : (n : ℕ) → n ≡ (last_of r).last.size - less → (n ≡ 0 → (last_of r).front ≡ []) → (d : Cells) (k : ℕ) {count top : ℕ}
      → IsChain d.chain it.cells.chain.reserved it.last count ((last_of r).front ++ record (last_of r).last { size = n } ∷ []) → IsBinned it.max d.bins top
      → bins_in it.max d.bins ≡ push (down n) it.last (last_left r) → take count d.chain.spare ≡ take it.count it.cells.chain.spare → Cut d it.last count top k
  narrowed_to n e rest d k {count} chain bins lists unused =
      narrowed (λ q. rest (e ∙ q)) d k (subst (λ (m : ℕ). IsChain d.chain it.cells.chain.reserved it.last count (fs ++ record b { size = m } ∷ [])) e chain) bins (lists
      ∙ ap (λ (m : ℕ). push (down m) it.last (last_left r)) e) unused

  -- nothing of it does
  module _ (gs : List Block) (a : Block) (others : (last_of r).front ≡ gs ++ a ∷ []) (whole : less ≡ (last_of r).last.size) where
    all_is : (shown it).blocks ≡ gs ++ a ∷ b ∷ []
    all_is = (last_of r).is ∙ ap (λ (l : List Block). l ++ b ∷ []) others ∙ append_assoc gs (a ∷ []) (b ∷ [])

    a_used : a.used ≡ true
    a_used = other_used a.used b.used (one_used gs a b [] (subst AreCoalesced all_is w.apart)) (last_free r)

    abbrev cut_view : View
    cut_view = record (replace (shown it) gs (a ∷ (last_of r).last ∷ []) (a ∷ []) []) { size = it.size - less }

    well_cut : IsWellFormed (record (replace (shown it) gs (a ∷ (last_of r).last ∷ []) (a ∷ []) []) { size = it.size - less })
    well_cut = well_replaced (shown it) gs (a ∷ b ∷ []) (a ∷ []) [] (it.size - less) w
        (record {
          list_is = all_is;
          some = omega arith;
          distinct = λ y. elim (hit_cases y a.name) [ inl i ↦ omega (arith, i.1) | inr i ↦ omega (arith, i.1) ];
          names = λ x l. inl (omega (arith, l));
          apart = subst AreCoalesced others parts.0;
          room = omega (arith, w.room, ap (λ (l : List Block). length l) all_is, length-append gs (a ∷ b ∷ []), length-append gs (a ∷ []));
          few_used = omega (arith, w.few_used, ap count_used all_is, tally_append (λ (c : Block). one c.used) gs (a ∷ b ∷ []), tally_append (λ (c : Block). one c.used) gs (a ∷ []));
        })
        (omega (arith, whole, size_fits)) (omega (arith, w.fits))

    removed : push_all (a ∷ []) (remove_all (a ∷ (last_of r).last ∷ []) (bins_in it.max it.cells.bins)) ≡ remove_all ((last_of r).last ∷ []) (bins_in it.max it.cells.bins)
    removed = grind (arith, a_used)

    pub dropped : (d : Cells) (k x : ℕ) {count top : ℕ} → IsChain d.chain it.cells.chain.reserved x count (gs ++ a ∷ []) → IsBinned it.max d.bins top → bins_in it.max d.bins ≡ last_left r
        → take count d.chain.spare ≡ take it.count it.cells.chain.spare ++ it.last ∷ [] → Cut d x count top k
    dropped d k x {count} {top} chain bins lists unused =
        let made = stepped it s cut_view d (it.free - less) k well_cut refl chain refl bins (lists ∙ last_removed r ∙ sym removed)
        (sym (ap free_units others) ∙ omega (arith, its_free, whole)) in
        let is : Cuts less (shown it) (shown (record it { size = it.size - less; cells = d; last = x; count = count; top = top; free = it.free - less; accesses = k })) = record {
          before = fs;
          last = b;
          blocks = (last_of r).is;
          free = last_free r;
          enough = enough;
          names =
              subst (λ (new : List Block). AreTaken (length (shown it).blocks) ((shown it).unused ++ b.name ∷ []) (names_of new) (take count d.chain.spare))
              (sym (gone (b.size - less) (omega (arith, whole)))) (unused ∙ ap (λ (i : ℕ). (shown it).unused ++ i ∷ []) (sym (last_of r).name));
          view =
              made.1
              ∙ ap (λ (o : List (List ℕ)). record (shown it) { blocks = gs ++ a ∷ []; bins = o; size = it.size - less; unused = take count d.chain.spare; accesses = k }) removed
              ∙ ap (λ (l : List Block). record (shown it) { blocks = l; bins = remove_all (b ∷ []) (bins_in it.max it.cells.bins); size = it.size - less; unused = take count d.chain.spare; accesses = k }) (sym others
              ∙ sym (append-nil fs))
              ∙ ap (λ (new : List Block). record (replace (shown it) fs (b ∷ []) new []) { size = it.size - less; unused = take count d.chain.spare; accesses = k }) (sym (gone (b.size - less) (omega (arith, whole))));
        } in (
          made.0,
          is,
          cuts_keep (shown it) (shown (record it { size = it.size - less; cells = d; last = x; count = count; top = top; free = it.free - less; accesses = k })) w
              (well_same cut_view _ made.1 well_cut) less is,
        )
      where
        gone : (n : ℕ) → n ≡ 0 → end_part (last_of r).front (last_of r).last.name n ≡ []
        gone n e = ap (λ (m : ℕ). end_part fs b.name m) e ∙ ap (λ (l : List Block). end_part l b.name 0) others ∙ end_none gs a b.name

-- the last block of a list
last_same : (fs gs : List Block) (b c : Block) → fs ++ b ∷ [] ≡ gs ++ c ∷ [] → b ≡ c
last_same [] [] b c e = cc
last_same [] (g ∷ []) b c e = absurd (cc)
last_same [] (g ∷ h ∷ gs) b c e = absurd (cc)
last_same (f ∷ []) [] b c e = absurd (cc)
last_same (f ∷ h ∷ fs) [] b c e = absurd (cc)
last_same (f ∷ fs) (g ∷ gs) b c e = last_same fs gs b c (cc)

pub too_few : {it : Fields} (r : EndsFree it) (less : ℕ) → (last_of r).last.size < less → CanRetract less (shown it) → ⊥
too_few r less l c = let e = last_same (last_of r).front c.0 (last_of r).last c.1 (sym (last_of r).is ∙ c.2) in omega (arith, l, c.4, ap (λ (d : Block). d.size) e)

-- a call after some accesses
pub retracts_counted : (less : ℕ) (v w : View) (k : ℕ) (done : Bool) → Retracts less (record v { accesses = k }) w done → Retracts less v w done
retracts_counted less v w k true (inl a) = inl a
retracts_counted less v w k true (inr a) = inr (a.0, record { before = a.1.before; last = a.1.last; blocks = a.1.blocks; free = a.1.free; enough = a.1.enough; names = a.1.names; view = a.1.view })
retracts_counted less v w k false a = a

-- nothing is taken off a used block
pub none_retracts : (less : ℕ) (v : View) → ends_used v.blocks ≡ true → CanRetract less v → ⊥
none_retracts less v e c = true≢false (sym e ∙ ap ends_used c.2 ∙ ends_last c.0 c.1 ∙ c.3)

-- how many units are left
pub retracts_size : (less : ℕ) (v w : View) → IsWellFormed v → Retracts less v w true → w.size + less ≡ v.size
retracts_size less v w f (inl a) = omega (arith, a.0, ap (λ (u : View). u.size) a.1)
retracts_size less v w f (inr a) = omega (arith, ap (λ (u : View). u.size) a.1.view, f.whole, ap units a.1.blocks, units-append a.1.before (a.1.last ∷ []), a.1.enough)
