-- A slide by whole steps: what is found first, and how far it has come.
use Rattle.offset_allocator.proofs.{Linking.Rows.times-end, Linking.Parts.some_part, Filing.Filed.filed_in, Filing.Filed.filed_out, Filing.Filed.share, Moving.Gaps.follows}
use Rattle.offset_allocator.proofs.{Moving.Gaps.before_below, Moving.Gaps.kept_gap, Moving.Gaps.met_below, Moving.Gaps.met_ends, Moving.Gaps.met_fits, Moving.Gaps.met_short, Moving.Gaps.met_sized, Moving.Gaps.met_used}
use Rattle.offset_allocator.proofs.{Linking.Exchange.each-le, Linking.Rows.IsRow-back, Linking.Rows.last_or-append, Common.Node, Common.Place, Common.◌^◌}
use Rattle.offset_allocator.proofs.{Moving.Gaps.next_after, Moving.Gaps.seen, Moving.Sliding.folds_append, Tallies.listed_named, Tallies.one-same, Tallies.tally_append, Tallies.times-append, Tallies.units-append}
use Rattle.offset_allocator.proofs.{Views.ViewBins.hit, Views.ViewBins.length_remove, Views.ViewBins.times_put, Classes.down_small}
use Rattle.offset_allocator.proofs.Common.{◌≡◌, ◌≢◌, ℕ, ◌+◌, ◌-◌, ◌*◌, ◌<◌, ◌≤◌, Bool, true, false, not, ◌&&◌, nat_le, nat_eq, Some, None, Option, List, [], ◌∷◌, ◌++◌, if◌then◌else◌, refl, sym}
use Rattle.offset_allocator.proofs.Common.{ap, ap₂, subst, ◌∙◌, arith, append_assoc, append-nil, length, length-append, FoldsTo, ChainCells, node, Block, free_block, free_part, units, first_or, Move, move_of, HasPlace}
use Rattle.offset_allocator.proofs.Common.{true≢false, ◌%◌, ◌⊎◌, inl, inr, nat_tests, AreInBins, IsAmong, IsUnlisted, ne_eqb, eq-eqb, bin_at, last_or, down, remove, push, push_all, count_named, count_used, one}
use Rattle.offset_allocator.specs.Moving.BySteps.{run_by, kept, stepped, given_up, used_up, moves_by, EndsAt, is_end}
use Rattle.offset_allocator.specs.{Accesses.Costs, Moving.Gaps.HasGap, Moving.Gaps.IsGap, Names.names_of}
use Rattle.offset_allocator.specs.declared.moves.gap.Gap.{Gap}

-- each free one leaves its bin, and what it keeps is then the newest of its own
abbrev pub rebinned : ℕ → List Block → List (List ℕ) → List (List ℕ)
rebinned s [] bins = bins
rebinned s (b ∷ bs) bins = rebinned s bs (if b.used then bins else push_all (free_part b.name (kept s b.size bs)) (remove (down b.size) b.name bins))

-- one block more in front
pub run_here : (s : ℕ) (b : Block) (bs : List Block) → bs ≢ [] → (u : Bool) → u ≡ (not b.used && nat_le s b.size)
    → run_by s (b ∷ bs) ≡ (if u then b ∷ bs else run_by s bs)
run_here s b [] some u e = absurd (some refl)
run_here s b (c ∷ bs) some u e = ap (λ (t : Bool). if t then b ∷ c ∷ bs else run_by s (c ∷ bs)) (sym e)

-- a used block stays as it is
module _ (s : ℕ) (b : Block) (bs : List Block) (u : b.used ≡ true) where
  pub stepped_used : stepped s (b ∷ bs) ≡ b ∷ stepped s bs
  stepped_used = ap (λ (t : Bool). (if t then b ∷ [] else free_part b.name (kept s b.size bs)) ++ stepped s bs) u

  pub given_used : given_up s (b ∷ bs) ≡ given_up s bs
  given_used = ap (λ (t : Bool). (if t then 0 else b.size - kept s b.size bs) + given_up s bs) u ∙ omega arith

  pub emptied_used : used_up s (b ∷ bs) ≡ used_up s bs
  emptied_used = ap (λ (t : Bool). (if not t && nat_eq (kept s b.size bs) 0 then b ∷ [] else []) ++ used_up s bs) u

  pub rebinned_used : (ls : List (List ℕ)) → rebinned s (b ∷ bs) ls ≡ rebinned s bs ls
  rebinned_used ls = ap (λ (t : Bool). rebinned s bs (if t then ls else push_all (free_part b.name (kept s b.size bs)) (remove (down b.size) b.name ls))) u

  pub moves_by_used : (i j : ℕ) → moves_by s i j (b ∷ bs) ≡ move_of i j b ++ moves_by s (i + b.size) (j + b.size) bs
  moves_by_used i j = ap (λ (t : Bool). if t then move_of i j b ++ moves_by s (i + b.size) (j + b.size) bs else moves_by s (i + b.size) (j + kept s b.size bs) bs) u

-- a free one keeps a part
module _ (s : ℕ) (b : Block) (bs : List Block) (u : b.used ≡ false) where
  pub stepped_free : stepped s (b ∷ bs) ≡ free_part b.name (kept s b.size bs) ++ stepped s bs
  stepped_free = ap (λ (t : Bool). (if t then b ∷ [] else free_part b.name (kept s b.size bs)) ++ stepped s bs) u

  pub given_free : given_up s (b ∷ bs) ≡ (b.size - kept s b.size bs) + given_up s bs
  given_free = ap (λ (t : Bool). (if t then 0 else b.size - kept s b.size bs) + given_up s bs) u

  pub emptied_free : (n : ℕ) → n ≡ kept s b.size bs → used_up s (b ∷ bs) ≡ (if nat_eq n 0 then b ∷ [] else []) ++ used_up s bs
  emptied_free n e = ap (λ (t : Bool). (if not t && nat_eq (kept s b.size bs) 0 then b ∷ [] else []) ++ used_up s bs) u
      ∙ ap (λ (m : ℕ). (if nat_eq m 0 then b ∷ [] else []) ++ used_up s bs) (sym e)

  pub rebinned_free : (ls : List (List ℕ)) → rebinned s (b ∷ bs) ls ≡ rebinned s bs (push_all (free_part b.name (kept s b.size bs)) (remove (down b.size) b.name ls))
  rebinned_free ls = ap (λ (t : Bool). rebinned s bs (if t then ls else push_all (free_part b.name (kept s b.size bs)) (remove (down b.size) b.name ls))) u

  pub moves_by_free : (i j : ℕ) → moves_by s i j (b ∷ bs) ≡ moves_by s (i + b.size) (j + kept s b.size bs) bs
  moves_by_free i j = ap (λ (t : Bool). if t then move_of i j b ++ moves_by s (i + b.size) (j + b.size) bs else moves_by s (i + b.size) (j + kept s b.size bs) bs) u

-- what one block more in front gives up its node for
module _ (s : ℕ) (b : Block) where
  pub freed_here : (bs : List Block) → bs ≢ [] → used_up s (b ∷ bs) ≢ [] → (used_up s bs ≢ []) ⊎ ((b.used ≡ false) × (b.size % s ≡ 0))
  freed_here [] some e = absurd (some refl)
  freed_here (c ∷ cs) some e = go b.used refl (nat_eq (b.size % s) 0) refl
    where
      go : (u : Bool) → b.used ≡ u → (t : Bool) → nat_eq (b.size % s) 0 ≡ t → (used_up s (c ∷ cs) ≢ []) ⊎ ((b.used ≡ false) × (b.size % s ≡ 0))
      go true u t q = inl (λ z. e (emptied_used s b (c ∷ cs) u ∙ z))
      go false u true q = inr (u, grind (arith, nat_tests))
      go false u false q = inl (λ z. e (ap (λ (v : Bool). (if not v && nat_eq (b.size % s) 0 then b ∷ [] else []) ++ used_up s (c ∷ cs)) u
          ∙ ap (λ (v : Bool). (if v then b ∷ [] else []) ++ used_up s (c ∷ cs)) q ∙ z))

  pub freed_still : (bs : List Block) → used_up s bs ≢ [] → used_up s (b ∷ bs) ≢ []
  freed_still bs e z = go (not b.used && nat_eq (kept s b.size bs) 0) z
    where
      go : (t : Bool) → (if t then b ∷ [] else []) ++ used_up s bs ≡ [] → ⊥
      go true q = absurd (cc)
      go false q = e q

  pub freed_now : (bs : List Block) → b.used ≡ false → b.size % s ≡ 0 → used_up s (b ∷ bs) ≢ []
  freed_now bs u e z = go (kept s b.size bs) (none bs) (sym (emptied_free s b bs u (kept s b.size bs) refl) ∙ z)
    where
      none : (l : List Block) → kept s b.size l ≡ 0
      none [] = refl
      none (c ∷ cs) = e

      go : (n : ℕ) → n ≡ 0 → (if nat_eq n 0 then b ∷ [] else []) ++ used_up s bs ≡ [] → ⊥
      go n q r = let k : b ∷ used_up s bs ≡ [] = ap (λ (m : ℕ). (if nat_eq m 0 then b ∷ [] else []) ++ used_up s bs) (sym q) ∙ r in absurd (cc)

-- a free block goes into its bin
pub filed_put : (fs cs : List Block) (d : Block) (ls : List (List ℕ)) → d.used ≡ false → length ls ≡ 256 → AreInBins (fs ++ cs) ls → AreInBins ((fs ++ d ∷ []) ++ cs) (push (down d.size) d.name ls)
filed_put fs cs d ls u long f k y =
    let here : share k y d ≡ hit k (down d.size) y d.name = ap (λ (t : Bool). one (not t && (nat_eq k (down d.size) && nat_eq y d.name))) u in
    omega (
      arith,
      f k y,
      here,
      times_put (down d.size) d.name k y ls long (down_small d.size),
      tally_append (share k y) fs cs,
      tally_append (share k y) (fs ++ d ∷ []) cs,
      tally_append (share k y) fs (d ∷ []),
    )

-- a turn of the slide, which reads three cells first, makes at least 4 accesses, and at most 7 for a used block, or where no
-- bins change, and 18 else
pub record IsTurn (in_bins : Bool) (at_most old new : ℕ) : Type 0 where
  pub least : old + 4 ≤ new
  pub most : new ≤ old + at_most
  pub light : in_bins ≡ false → new ≤ old + 7

pub turn_of_pass : (in_bins : Bool) {k₀ k₁ k₂ k₃ k₄ : ℕ} → k₁ ≡ k₀ + 1 → k₂ ≡ k₁ + 1 → k₃ ≡ k₂ + 1 → Costs 3 4 k₃ k₄ → IsTurn in_bins 7 k₀ k₄
turn_of_pass in_bins a b c d = record { least = omega arith; most = omega arith; light = λ _. omega arith }

pub turn_of_into : (in_bins : Bool) {k₀ k₁ k₂ k₃ k₄ k₅ : ℕ} → k₁ ≡ k₀ + 1 → k₂ ≡ k₁ + 1 → k₃ ≡ k₂ + 1 → Costs 0 5 k₃ k₄ → (in_bins ≡ false → k₄ ≡ k₃) → k₅ ≡ k₄ + 1 → IsTurn in_bins 18 k₀ k₅
turn_of_into in_bins a b c d n e = record { least = omega (arith, a, b, c, d.0, e); most = omega (arith, a, b, c, d.1, e); light = λ u. let same = n u in omega (arith, a, b, c, same, e) }

pub turn_of_part : (in_bins : Bool) {k₀ k₁ k₂ k₃ k₄ k₅ k₆ : ℕ} → k₁ ≡ k₀ + 1 → k₂ ≡ k₁ + 1 → k₃ ≡ k₂ + 1 → Costs 0 5 k₃ k₄ → Costs 3 4 k₄ k₅ → Costs 5 6 k₅ k₆ → in_bins ≡ true → IsTurn in_bins 18 k₀ k₆
turn_of_part in_bins a b c d e f filed = record { least = omega arith; most = omega arith; light = λ u. absurd (true≢false (sym filed ∙ u)) }

-- the blocks that are left go to the same end, or are none
abbrev pub GoesTo : Option ℕ → List Block → List Block → Type 0
GoesTo None rest back = back ≡ []
GoesTo (Some x) rest back = last_or (Some x) rest ≡ Some x

goes_on : (end : Option ℕ) (b : Block) (bs back : List Block) → GoesTo end (b ∷ bs) back → GoesTo end bs back
goes_on None b bs back h = h
goes_on (Some x) b [] back h = refl
goes_on (Some x) b (d ∷ bs) back h = h

goes_first : (end : Option ℕ) (run back : List Block) → EndsAt end run back → GoesTo end run back
goes_first None run back h = h
goes_first (Some x) [] back h = absurd (cc)
goes_first (Some x) (b ∷ bs) back h = h

first_there : (end : Option ℕ) (run back : List Block) → EndsAt end run back → first_or None (run ++ back) ≡ first_or None run
first_there None run back h = ap (first_or None) (ap (λ l. run ++ l) h ∙ append-nil run)
first_there (Some x) [] back h = absurd (cc)
first_there (Some x) (b ∷ bs) back h = refl

-- how far a gap has come over the blocks of a run: `left` is what stays of those that were met, those in `rest` were not
-- met yet, `at` is the next one, and `link` names the block after those that were met; the gap had n₀ units at first, and
-- `in_bins` says whether bins change
pub record IsStepping {F A B : Type 0} (R : F → Move → F → Type 0) (s n₀ : ℕ) (in_bins : Bool) (front run back : List Block) (end : Option ℕ) (f : F) (accesses : ℕ) (max : ℕ) (number : A → ℕ)
    (t : ChainCells) (m last count : ℕ) (gap : Gap A B) (at link : Option ℕ) (g : F) (used : ℕ) (ls₀ ls : List (List ℕ)) (u₀ u : List ℕ) : Type 0 where
  pub left : List Block
  pub rest : List Block
  pub there : IsGap max number gap t m last count (record { before = front ++ left; block = free_block gap.name gap.size; after = rest ++ back })
  pub next : at ≡ first_or None rest
  pub linked : link ≡ first_or None (rest ++ back)
  pub ends : GoesTo end rest back
  pub blocks : left ++ stepped s rest ≡ stepped s run
  pub sized : gap.size + given_up s rest ≡ n₀ + given_up s run
  pub moved : List Move
  pub calls : FoldsTo R f moved g
  pub all : moved ++ moves_by s (gap.offset + gap.size) gap.offset rest ≡ moves_by s (units front + n₀) (units front) run
  pub bins : rebinned s rest ls ≡ rebinned s run ls₀
  pub filed : AreInBins ((front ++ left) ++ (rest ++ back)) ls
  pub put : List ℕ
  pub unused : u ≡ u₀ ++ put
  pub names : put ++ names_of (used_up s rest) ≡ names_of (used_up s run)
  pub bounded : used + 18 * length rest ≤ accesses + 18 * length run
  pub sharp : used + 18 * length rest + 11 * count_used run ≤ accesses + 18 * length run + 11 * count_used rest
  pub light : in_bins ≡ false → used + 7 * length rest ≤ accesses + 7 * length run
  pub least : accesses + 4 * length run ≤ used + 4 * length rest

-- at first
pub stepping_start : {F A B : Type 0} {R : F → Move → F → Type 0} (s : ℕ) (in_bins : Bool) {front run back : List Block} {end : Option ℕ} {d : Block} {f : F} {accesses : ℕ} {max : ℕ} {number : A → ℕ} {t : ChainCells} {m last count : ℕ}
    {gap : Gap A B} {at link : Option ℕ} {ls : List (List ℕ)} {u : List ℕ}
    → IsGap max number gap t m last count (record { before = front; block = d; after = run ++ back }) → at ≡ link → link ≡ first_or None (run ++ back) → EndsAt end run back
    → AreInBins (front ++ (run ++ back)) ls → IsStepping R s d.size in_bins front run back end f accesses max number t m last count gap at link f accesses ls ls u u
stepping_start s in_bins {front} {run} {back} {end} {d} {max = max} {number = number} {t = t} {m = m} {last = last} {count = count} {gap = gap} {ls = ls} {u = u} i at_is link_is ends filed =
    record {
      left = [];
      rest = run;
      there = subst (λ (l : List Block). IsGap max number gap t m last count (record { before = l; block = free_block gap.name gap.size; after = run ++ back })) (sym (append-nil front))
          (subst (λ (b : Block). IsGap max number gap t m last count (record { before = front; block = b; after = run ++ back })) block i);
      next = at_is ∙ link_is ∙ first_there end run back ends;
      linked = link_is;
      ends = goes_first end run back ends;
      blocks = refl;
      sized = omega (arith, i.size);
      moved = [];
      calls = refl;
      all = rw (i.size, i.offset) refl;
      bins = refl;
      filed = subst (λ (l : List Block). AreInBins (l ++ (run ++ back)) ls) (sym (append-nil front)) filed;
      put = [];
      unused = sym (append-nil u);
      names = refl;
      bounded = omega arith;
      sharp = omega arith;
      light = λ _. omega arith;
      least = omega arith;
    }
  where
    block : d ≡ free_block gap.name gap.size
    block = rw (i.size, ← i.there.name, ← i.there.free) refl

module _ {F A B : Type 0} {R : F → Move → F → Type 0} {s n₀ : ℕ} {in_bins : Bool} {front run back : List Block} {end : Option ℕ} {f : F} {accesses : ℕ} {max : ℕ} {number : A → ℕ} {t : ChainCells} {m last count : ℕ}
    {gap : Gap A B} {at link : Option ℕ} {g : F} {used : ℕ} {ls₀ ls : List (List ℕ)} {u₀ u : List ℕ}
    (i : IsStepping R s n₀ in_bins front run back end f accesses max number t m last count gap at link g used ls₀ ls u₀ u) where
  -- a block is left where there is a next one
  pub stepping_next : {y : ℕ} → at ≡ Some y → (b : Block) × (bs : List Block) × (i.rest ≡ b ∷ bs) × (b.name ≡ y)
  stepping_next {y} q = go i.rest refl (sym i.next ∙ q)
    where
      go : (l : List Block) → i.rest ≡ l → first_or None l ≡ Some y → (b : Block) × (bs : List Block) × (i.rest ≡ b ∷ bs) × (b.name ≡ y)
      go [] e n = absurd (cc)
      go (b ∷ bs) e n = (b, bs, e, cc)

  -- none is left where there is none
  pub stepping_end : at ≡ None → i.rest ≡ []
  stepping_end q = go i.rest refl (sym i.next ∙ q)
    where
      go : (l : List Block) → i.rest ≡ l → first_or None l ≡ None → i.rest ≡ []
      go [] e n = e
      go (b ∷ bs) e n = absurd (cc)

  pub stepping_within : {c : ChainCells} {last₀ count₀ x : ℕ} {b : Block} → HasPlace c m last₀ count₀ x (record { before = front; block = b; after = run ++ back }) → length run < length c.nodes
  stepping_within {b = b} h = omega (arith, h.chain.full, length-append front (b ∷ (run ++ back)), length-append run back)

  module _ (b : Block) (bs : List Block) (e : i.rest ≡ b ∷ bs) where
    after_is : i.rest ++ back ≡ b ∷ (bs ++ back)
    after_is = ap (λ l. l ++ back) e

    -- the gap, before the next block
    pub gap_here : HasGap t m last count gap.name (record { before = front ++ i.left; block = free_block gap.name gap.size; after = b ∷ (bs ++ back) })
    gap_here = follows i.there.there after_is

    pub gap_after : i.rest ++ back ≡ b ∷ (bs ++ back)
    gap_after = after_is

    ends_here : GoesTo end (b ∷ bs) back
    ends_here = subst (λ l. GoesTo end l back) e i.ends

    pub ends_after : GoesTo end bs back
    ends_after = goes_on end b bs back ends_here

    -- the block after it, where it is not the last one
    pub next_within : {r link' : Option ℕ} → r ≡ (if is_end end b.name then None else link') → link' ≡ first_or None (bs ++ back) → r ≡ first_or None bs
    next_within {r} {link'} is l = to end ends_here is
      where
        to : (o : Option ℕ) → GoesTo o (b ∷ bs) back → r ≡ (if is_end o b.name then None else link') → r ≡ first_or None bs
        to None h is = is ∙ l ∙ ap (first_or None) (ap (λ k. bs ++ k) h ∙ append-nil bs)
        to (Some x) h is = go bs refl h
          where
            go : (ds : List Block) → bs ≡ ds → last_or (Some b.name) ds ≡ Some x → r ≡ first_or None bs
            go [] q h = let same : b.name ≡ x = cc in is ∙ ap (λ (t : Bool). if t then None else link') (eq-eqb b.name x same) ∙ sym (ap (first_or None) q)
            go (d ∷ ds) q h = is ∙ ap (λ (t : Bool). if t then None else link') (ne_eqb b.name x (λ same. twice same)) ∙ l ∙ ap (λ k. first_or None (k ++ back)) q ∙ sym (ap (first_or None) q)
              where
                twice : b.name ≡ x → ⊥
                twice same =
                    let two = times-end b.name (d ∷ ds) (h ∙ ap (λ n. Some n) (sym same)) in
                    omega (arith, two, seen _ _ (b ∷ (bs ++ back)) gap_here b.name, ap (λ k. count_named b.name (k ++ back)) q, times-append b.name (d ∷ ds) back, one-same b.name)

    pub next_filed : b.used ≡ false → IsAmong b.name (bin_at ls (down b.size))
    next_filed free = filed_in (front ++ i.left) (bs ++ back) b ls (subst (λ l. AreInBins ((front ++ i.left) ++ l) ls) after_is i.filed) free

    pub next_gone : b.used ≡ false → length ls ≡ 256 → AreInBins ((front ++ i.left) ++ (bs ++ back)) (remove (down b.size) b.name ls)
    next_gone free long = filed_out (front ++ i.left) (bs ++ back) b ls (subst (λ l. AreInBins ((front ++ i.left) ++ l) ls) after_is i.filed) free long
        (λ y. omega (arith, seen _ _ (b ∷ (bs ++ back)) gap_here y, times-append y (front ++ i.left) (b ∷ (bs ++ back))))

    pub next_unlisted : b.used ≡ false → length ls ≡ 256 → IsUnlisted b.name (remove (down b.size) b.name ls)
    next_unlisted free long k l a = omega (
      arith,
      next_gone free long k b.name,
      listed_named k b.name ((front ++ i.left) ++ (bs ++ back)),
      seen _ _ (b ∷ (bs ++ back)) gap_here b.name,
      one-same b.name,
      times-append b.name (front ++ i.left) (bs ++ back),
      a,
    )

    -- a used block passes it
    pub step_past : {t' : ChainCells} {last' count' : ℕ} {gap' : Gap A B} {at' link' : Option ℕ} {g' : F} {used' : ℕ} {ls' : List (List ℕ)} {u' : List ℕ} → b.used ≡ true
        → IsGap max number gap' t' m last' count' (record { before = (front ++ i.left) ++ b ∷ []; block = free_block gap.name gap.size; after = bs ++ back })
        → at' ≡ (if is_end end b.name then None else link') → link' ≡ (node t b.name).after → FoldsTo R g (move_of (gap.offset + gap.size) gap.offset b) g' → IsTurn in_bins 7 used used' → ls' ≡ ls → u' ≡ u
        → IsStepping R s n₀ in_bins front run back end f accesses max number t' m last' count' gap' at' link' g' used' ls₀ ls' u₀ u'
    step_past {t'} {last'} {count'} {gap'} {at'} {link'} {g'} {used'} {ls'} {u'} live h w q call few same_bins same_names =
        let offset : gap'.offset ≡ gap.offset + b.size = omega (arith, h.offset, i.there.offset, units-append (front ++ i.left) (b ∷ [])) in
        let from : (gap.offset + gap.size) + b.size ≡ gap'.offset + gap'.size = omega (arith, offset, h.size) in
        record {
          left = i.left ++ b ∷ [];
          rest = bs;
          there = subst (λ (l : List Block). IsGap max number gap' t' m last' count' (record { before = l; block = free_block gap'.name gap'.size; after = bs ++ back })) (append_assoc front i.left (b ∷ []))
              (subst (λ (d : Block). IsGap max number gap' t' m last' count' (record { before = (front ++ i.left) ++ b ∷ []; block = d; after = bs ++ back })) (ap₂ free_block h.there.name (sym h.size)) h);
          next = next_within w (q ∙ next_after _ _ b (bs ++ back) gap_here);
          linked = q ∙ next_after _ _ b (bs ++ back) gap_here;
          ends = ends_after;
          blocks = append_assoc i.left (b ∷ []) (stepped s bs) ∙ ap (λ l. i.left ++ l) (sym (ap (stepped s) e ∙ stepped_used s b bs live)) ∙ i.blocks;
          sized = omega (arith, i.sized, h.size, ap (given_up s) e, given_used s b bs live);
          moved = i.moved ++ move_of (gap.offset + gap.size) gap.offset b;
          calls = folds_append R i.moved (move_of (gap.offset + gap.size) gap.offset b) f g g' i.calls call;
          all = append_assoc i.moved (move_of (gap.offset + gap.size) gap.offset b) (moves_by s (gap'.offset + gap'.size) gap'.offset bs)
              ∙ ap (λ l. i.moved ++ l) (ap₂ (λ k j. move_of (gap.offset + gap.size) gap.offset b ++ moves_by s k j bs) (sym from) offset
              ∙ sym (ap (moves_by s (gap.offset + gap.size) gap.offset) e ∙ moves_by_used s b bs live (gap.offset + gap.size) gap.offset)) ∙ i.all;
          bins = rw same_bins (sym (ap (λ l. rebinned s l ls) e ∙ rebinned_used s b bs live ls) ∙ i.bins);
          filed = rw same_bins (subst (λ (l : List Block). AreInBins l ls)
              (ap (λ l. (front ++ i.left) ++ l) after_is ∙ sym (append_assoc (front ++ i.left) (b ∷ []) (bs ++ back)) ∙ ap (λ l. l ++ (bs ++ back)) (append_assoc front i.left (b ∷ []))) i.filed);
          put = i.put;
          unused = same_names ∙ i.unused;
          names = ap (λ l. i.put ++ names_of l) (sym (ap (used_up s) e ∙ emptied_used s b bs live)) ∙ i.names;
          bounded = let most = few.most in omega (arith, i.bounded, most, ap (λ (l : List Block). length l) e);
          sharp = let most = few.most in let sharp = i.sharp in omega (arith, sharp, most, ap (λ (l : List Block). length l) e, ap count_used e, ap one live);
          light = λ n. let most = few.light n in let before = i.light n in omega (arith, before, most, ap (λ (l : List Block). length l) e);
          least = let least = few.least in omega (arith, i.least, least, ap (λ (l : List Block). length l) e);
        }

    -- a free block keeps a part, which passes it
    pub step_part : {t' : ChainCells} {last' count' : ℕ} {gap' : Gap A B} {at' link' : Option ℕ} {used' : ℕ} {ls' : List (List ℕ)} {u' : List ℕ} (n : ℕ) → b.used ≡ false → n ≡ kept s b.size bs → 0 < n → n ≤ b.size
        → length ls ≡ 256
        → IsGap max number gap' t' m last' count' (record {
          before = (front ++ i.left) ++ record b { size = n } ∷ [];
          block = record (free_block gap.name gap.size) { size = gap.size + (b.size - n) };
          after = bs ++ back;
        })
        → at' ≡ (if is_end end b.name then None else link') → link' ≡ (node t b.name).after → IsTurn in_bins 18 used used' → ls' ≡ push (down n) b.name (remove (down b.size) b.name ls) → u' ≡ u
        → IsStepping R s n₀ in_bins front run back end f accesses max number t' m last' count' gap' at' link' g used' ls₀ ls' u₀ u'
    step_part {t'} {last'} {count'} {gap'} {at'} {link'} {used'} {ls'} {u'} n free is some within long h w q few new_bins same_names =
        let d : Block = record b { size = n } in
        let offset : gap'.offset ≡ gap.offset + n = omega (arith, h.offset, i.there.offset, units-append (front ++ i.left) (d ∷ [])) in
        let from : (gap.offset + gap.size) + b.size ≡ gap'.offset + gap'.size = omega (arith, offset, h.size, within) in
        let part : d ∷ [] ≡ free_part b.name (kept s b.size bs) = ap (λ (t : Bool). record { name = b.name; size = n; used = t } ∷ []) free ∙ some_part b.name n some ∙ ap (free_part b.name) is in
        let pushed : ls' ≡ push_all (free_part b.name (kept s b.size bs)) (remove (down b.size) b.name ls) =
        new_bins ∙ ap (λ (t : Bool). if t then remove (down b.size) b.name ls else push (down n) b.name (remove (down b.size) b.name ls)) (sym free)
        ∙ ap (λ l. push_all l (remove (down b.size) b.name ls)) part in
        record {
          left = i.left ++ d ∷ [];
          rest = bs;
          there = subst (λ (l : List Block). IsGap max number gap' t' m last' count' (record { before = l; block = free_block gap'.name gap'.size; after = bs ++ back })) (append_assoc front i.left (d ∷ []))
              (subst (λ (c : Block). IsGap max number gap' t' m last' count' (record { before = (front ++ i.left) ++ d ∷ []; block = c; after = bs ++ back })) (ap₂ free_block h.there.name (sym h.size)) h);
          next = next_within w (q ∙ next_after _ _ b (bs ++ back) gap_here);
          linked = q ∙ next_after _ _ b (bs ++ back) gap_here;
          ends = ends_after;
          blocks = append_assoc i.left (d ∷ []) (stepped s bs)
              ∙ ap (λ l. i.left ++ l) (ap (λ l. l ++ stepped s bs) part ∙ sym (ap (stepped s) e ∙ stepped_free s b bs free)) ∙ i.blocks;
          sized = omega (arith, i.sized, h.size, ap (given_up s) e, given_free s b bs free, is);
          moved = i.moved;
          calls = i.calls;
          all = ap (λ l. i.moved ++ l) (ap₂ (λ k j. moves_by s k j bs) (sym from) (offset ∙ ap (λ k. gap.offset + k) is)
              ∙ sym (ap (moves_by s (gap.offset + gap.size) gap.offset) e ∙ moves_by_free s b bs free (gap.offset + gap.size) gap.offset)) ∙ i.all;
          bins = ap (rebinned s bs) pushed ∙ sym (ap (λ l. rebinned s l ls) e ∙ rebinned_free s b bs free ls) ∙ i.bins;
          filed = rw new_bins (subst (λ (l : List Block). AreInBins (l ++ (bs ++ back)) (push (down n) b.name (remove (down b.size) b.name ls))) (append_assoc front i.left (d ∷ []))
              (filed_put (front ++ i.left) (bs ++ back) d (remove (down b.size) b.name ls) free (length_remove _ _ ls ∙ long) (next_gone free long)));
          put = i.put;
          unused = same_names ∙ i.unused;
          names = ap (λ l. i.put ++ names_of l) (sym (ap (used_up s) e ∙ emptied_free s b bs free n is ∙ none n some)) ∙ i.names;
          bounded = let most = few.most in omega (arith, i.bounded, most, ap (λ (l : List Block). length l) e);
          sharp = let most = few.most in let sharp = i.sharp in omega (arith, sharp, most, ap (λ (l : List Block). length l) e, ap count_used e, ap one free);
          light = λ n. let most = few.light n in let before = i.light n in omega (arith, before, most, ap (λ (l : List Block). length l) e);
          least = let least = few.least in omega (arith, i.least, least, ap (λ (l : List Block). length l) e);
        }
      where
        none : (n : ℕ) → 0 < n → (if nat_eq n 0 then b ∷ [] else []) ++ used_up s bs ≡ used_up s bs
        none n l = ap (λ (t : Bool). (if t then b ∷ [] else []) ++ used_up s bs) (ne_eqb n 0 (λ q. absurd (omega (arith, l, q))))

    -- a free block goes into it
    pub step_into : {t' : ChainCells} {last' count' : ℕ} {gap' : Gap A B} {at' link' : Option ℕ} {used' : ℕ} {ls' : List (List ℕ)} {u' : List ℕ} → b.used ≡ false → 0 ≡ kept s b.size bs → length ls ≡ 256
        → IsGap max number gap' t' m last' count' (record { before = front ++ i.left; block = record (free_block gap.name gap.size) { size = gap.size + b.size }; after = bs ++ back })
        → at' ≡ (if is_end end b.name then None else link') → link' ≡ (node t b.name).after → IsTurn in_bins 18 used used' → ls' ≡ remove (down b.size) b.name ls → u' ≡ u ++ b.name ∷ []
        → IsStepping R s n₀ in_bins front run back end f accesses max number t' m last' count' gap' at' link' g used' ls₀ ls' u₀ u'
    step_into {t'} {last'} {count'} {gap'} {at'} {link'} {used'} {ls'} {u'} free is long h w q few new_bins more_names =
        let offset : gap'.offset ≡ gap.offset = omega (arith, h.offset, i.there.offset) in
        let from : (gap.offset + gap.size) + b.size ≡ gap'.offset + gap'.size = omega (arith, offset, h.size) in
        let zero_more : gap.offset + 0 ≡ gap'.offset = omega (arith, offset) in
        record {
          left = i.left;
          rest = bs;
          there = subst (λ (c : Block). IsGap max number gap' t' m last' count' (record { before = front ++ i.left; block = c; after = bs ++ back })) (ap₂ free_block h.there.name (sym h.size)) h;
          next = next_within w (q ∙ next_after _ _ b (bs ++ back) gap_here);
          linked = q ∙ next_after _ _ b (bs ++ back) gap_here;
          ends = ends_after;
          blocks = ap (λ l. i.left ++ l) (ap (λ n. free_part b.name n ++ stepped s bs) is ∙ sym (ap (stepped s) e ∙ stepped_free s b bs free)) ∙ i.blocks;
          sized = omega (arith, i.sized, h.size, ap (given_up s) e, given_free s b bs free, is);
          moved = i.moved;
          calls = i.calls;
          all = ap (λ l. i.moved ++ l) (ap₂ (λ k j. moves_by s k j bs) (sym from) (sym zero_more ∙ ap (λ k. gap.offset + k) is)
              ∙ sym (ap (moves_by s (gap.offset + gap.size) gap.offset) e ∙ moves_by_free s b bs free (gap.offset + gap.size) gap.offset)) ∙ i.all;
          bins = ap (rebinned s bs) (new_bins ∙ ap (λ n. push_all (free_part b.name n) (remove (down b.size) b.name ls)) is)
              ∙ sym (ap (λ l. rebinned s l ls) e ∙ rebinned_free s b bs free ls) ∙ i.bins;
          filed = rw new_bins (next_gone free long);
          put = i.put ++ b.name ∷ [];
          unused = more_names ∙ ap (λ l. l ++ b.name ∷ []) i.unused ∙ append_assoc u₀ i.put (b.name ∷ []);
          names = append_assoc i.put (b.name ∷ []) (names_of (used_up s bs))
              ∙ ap (λ l. i.put ++ names_of l) (sym (ap (used_up s) e ∙ emptied_free s b bs free 0 is)) ∙ i.names;
          bounded = let most = few.most in omega (arith, i.bounded, most, ap (λ (l : List Block). length l) e);
          sharp = let most = few.most in let sharp = i.sharp in omega (arith, sharp, most, ap (λ (l : List Block). length l) e, ap count_used e, ap one free);
          light = λ n. let most = few.light n in let before = i.light n in omega (arith, before, most, ap (λ (l : List Block). length l) e);
          least = let least = few.least in omega (arith, i.least, least, ap (λ (l : List Block). length l) e);
        }

  -- at the end
  pub stepping_done : i.rest ≡ [] → IsGap max number gap t m last count (record { before = front ++ stepped s run; block = free_block gap.name gap.size; after = back })
      × (link ≡ first_or None back) × (gap.size ≡ n₀ + given_up s run) × FoldsTo R f (moves_by s (units front + n₀) (units front) run) g × (ls ≡ rebinned s run ls₀)
      × AreInBins ((front ++ stepped s run) ++ back) ls × (u ≡ u₀ ++ names_of (used_up s run)) × (used + 11 * count_used run ≤ accesses + 18 * length run)
      × (in_bins ≡ false → used ≤ accesses + 7 * length run) × (accesses + 4 * length run ≤ used)
  stepping_done none =
      let left_is : i.left ≡ stepped s run = sym (append-nil i.left) ∙ ap (λ l. i.left ++ stepped s l) (sym none) ∙ i.blocks in (
        subst (λ (l : List Block). IsGap max number gap t m last count (record { before = front ++ l; block = free_block gap.name gap.size; after = back })) left_is
            (subst (λ (l : List Block). IsGap max number gap t m last count (record { before = front ++ i.left; block = free_block gap.name gap.size; after = l ++ back })) none i.there),
        i.linked ∙ ap (λ l. first_or None (l ++ back)) none,
        omega (arith, i.sized, ap (given_up s) none),
        subst (λ l. FoldsTo R f l g) (sym (append-nil i.moved) ∙ ap (λ l. i.moved ++ moves_by s (gap.offset + gap.size) gap.offset l) (sym none) ∙ i.all) i.calls,
        sym (ap (λ l. rebinned s l ls) none) ∙ i.bins,
        subst (λ (l : List Block). AreInBins ((front ++ l) ++ back) ls) left_is (subst (λ (l : List Block). AreInBins ((front ++ i.left) ++ (l ++ back)) ls) none i.filed),
        i.unused ∙ ap (λ l. u₀ ++ l) (sym (append-nil i.put) ∙ ap (λ l. i.put ++ names_of (used_up s l)) (sym none) ∙ i.names),
        omega (arith, i.sharp, ap (λ (l : List Block). length l) none, ap count_used none),
        λ n. let light = i.light n in omega (arith, light, ap (λ (l : List Block). length l) none),
        omega (arith, i.least, ap (λ (l : List Block). length l) none),
      )

-- a block comes once among those of a run
pub run_once : {c : ChainCells} {m last count x : ℕ} {d : Block} (front run back : List Block) → HasPlace c m last count x (record { before = front; block = d; after = run ++ back }) → (k : ℕ)
    → count_named k run ≤ 1
run_once {d = d} front run back h k = omega (
  arith,
  each-le _ _ _ _ _ h.chain k,
  times-append k front (d ∷ (run ++ back)),
  times-append k run back,
)

pub turn_grows : {in_bins : Bool} {at_most j k l : ℕ} → j ≤ k → IsTurn in_bins at_most k l → j ≤ l
turn_grows a b = let more = b.least in omega (arith, a, more)

-- a turn of the slide, in what the tables say of the next block, named y
module _ {F A B : Type 0} {R : F → Move → F → Type 0} {s n₀ : ℕ} {in_bins : Bool} {front run back : List Block} {end : Option ℕ} {f : F} {accesses : ℕ} {max : ℕ} {number : A → ℕ} {t : ChainCells} {m last count : ℕ}
    {gap : Gap A B} {at link : Option ℕ} {g : F} {used : ℕ} {ls₀ ls : List (List ℕ)} {u₀ u : List ℕ}
    (i : IsStepping R s n₀ in_bins front run back end f accesses max number t m last count gap at link g used ls₀ ls u₀ u) {y : ℕ} (q : at ≡ Some y) where
  abbrev b : Block
  b = (stepping_next i q).0

  abbrev bs : List Block
  bs = (stepping_next i q).1

  is : i.rest ≡ b ∷ bs
  is = (stepping_next i q).2

  named : b.name ≡ y
  named = (stepping_next i q).3

  after : i.rest ++ back ≡ b ∷ (bs ++ back)
  after = gap_after i b bs is

  pub turn_below : y < length t.nodes
  turn_below = met_below i.there after named

  pub turn_short : {j k : ℕ} → j ≡ m → j < k → y < k
  turn_short = met_short i.there after named

  pub turn_ends : gap.offset + gap.size < 2 ^ 32
  turn_ends = met_ends i.there after named

  pub turn_fits : {n : ℕ} → n ≡ (node t y).size → (gap.offset + gap.size) + n ≤ 4294967295
  turn_fits = met_fits i.there after named

  -- the gap before it, also once a change of the bins has left the chain as it was
  pub turn_place : {d : ChainCells} {last' count' : ℕ} → (d ≡ t) × (last' ≡ last) × (count' ≡ count)
      → (l : ℕ) × (p : Place) × (c : Block) × (cs : List Block) × IsGap max number gap d l last' count' p × (p.after ≡ c ∷ cs) × (c.name ≡ y)
  turn_place k = (m, _, b, _, kept_gap k i.there, after, named)

  pub turn_idle : {d : ChainCells} {last' count' : ℕ} {w : Bool} → (d ≡ t) × (last' ≡ last) × (count' ≡ count) → w ≡ (node t y).used → w ≡ false
      → (l : ℕ) × (p : Place) × (c : Block) × (cs : List Block) × IsGap max number gap d l last' count' p × (p.after ≡ c ∷ cs) × (c.name ≡ y) × (c.used ≡ false)
  turn_idle k cell free = (m, _, b, _, kept_gap k i.there, after, named, met_used i.there after named cell free)

  pub turn_listed : {n : ℕ} {w : Bool} → n ≡ (node t y).size → w ≡ (node t y).used → w ≡ false → IsAmong y (bin_at ls (down n))
  turn_listed {n} sized cell free = subst (λ k. IsAmong k (bin_at ls (down n))) named
      (subst (λ k. IsAmong b.name (bin_at ls (down k))) (sym (met_sized i.there after named sized)) (next_filed i b bs is (met_used i.there after named cell free)))

  -- each turn counts, and there are at most as many as nodes
  pub turn_less : {c : ChainCells} {last₀ count₀ x k at_most : ℕ} {d : Block} → HasPlace c m last₀ count₀ x (record { before = front; block = d; after = run ++ back }) → IsTurn in_bins at_most used k
      → (accesses + 18 * length c.nodes) - k < (accesses + 18 * length c.nodes) - used
  turn_less h more = let few = stepping_within i h in let all = ap (λ (l : List Block). length l) is in let bounded = i.bounded in let least = more.least in omega (arith, few, all, bounded, least)

  -- a used block passes the gap
  pub turn_past : {t' : ChainCells} {last' count' : ℕ} {gap' : Gap A B} {at' link' linked : Option ℕ} {g' : F} {used' n : ℕ} {ls' : List (List ℕ)} {u' : List ℕ} {w : Bool}
      → n ≡ (node t y).size → w ≡ (node t y).used → w ≡ true → at' ≡ (if is_end end y then None else linked) → linked ≡ link' → link' ≡ (node t y).after
      → ((p : Place) (c : Block) (cs : List Block) → IsGap max number gap t m last count p → p.after ≡ c ∷ cs → c.name ≡ y
      → IsGap max number gap' t' m last' count' (record { before = p.before ++ c ∷ []; block = p.block; after = cs }))
      → ((v : Bool) → FoldsTo R g (move_of (gap.offset + gap.size) gap.offset (record { name = y; size = n; used = v })) g') → IsTurn in_bins 7 used used' → ls' ≡ ls → u' ≡ u
      → IsStepping R s n₀ in_bins front run back end f accesses max number t' m last' count' gap' at' link' g' used' ls₀ ls' u₀ u'
  turn_past {g' = g'} sized cell live within linked next passed called more same_bins same_names =
      step_past i b bs is (met_used i.there after named cell live) (passed _ b _ i.there after named)
      (within ∙ ap₂ (λ (k : ℕ) (o : Option ℕ). if is_end end k then None else o) (sym named) linked) (next ∙ ap (λ k. (node t k).after) (sym named))
      (subst (λ (l : List Move). FoldsTo R g l g')
      (ap₂ (λ k j. move_of (gap.offset + gap.size) gap.offset (record { name = k; size = j; used = b.used })) (sym named) (met_sized i.there after named sized)) (called b.used))
      more same_bins same_names

  -- what it keeps
  kept_is : {at' linked link' : Option ℕ} {n keep : ℕ} → n ≡ b.size → at' ≡ (if is_end end y then None else linked) → linked ≡ link' → link' ≡ (node t y).after
      → ((cs : List Block) → at' ≡ first_or None cs → keep ≡ kept s n cs) → keep ≡ kept s b.size bs
  kept_is size within linked next keeps = keeps bs (next_within i b bs is (within ∙ ap₂ (λ (k : ℕ) (o : Option ℕ). if is_end end k then None else o) (sym named) linked)
      (next ∙ ap (λ k. (node t k).after) (sym named) ∙ next_after _ _ b (bs ++ back) (gap_here i b bs is))) ∙ ap (λ n. kept s n bs) size

  -- a free block goes into the gap
  pub turn_into : {t₁ t' : ChainCells} {last₁ count₁ last' count' : ℕ} {gap' : Gap A B} {at' link' linked : Option ℕ} {used' n keep : ℕ} {ls₁ ls' : List (List ℕ)} {u₁ u' : List ℕ} {w : Bool}
      → n ≡ (node t y).size → w ≡ (node t y).used → w ≡ false → at' ≡ (if is_end end y then None else linked) → linked ≡ link' → link' ≡ (node t y).after
      → ((cs : List Block) → at' ≡ first_or None cs → keep ≡ kept s n cs) → keep ≡ 0 → length ls ≡ 256 → (t₁ ≡ t) × (last₁ ≡ last) × (count₁ ≡ count)
      → ((p : Place) (c : Block) (cs : List Block) → IsGap max number gap t₁ m last₁ count₁ p → p.after ≡ c ∷ cs → c.name ≡ y → c.used ≡ false
      → IsGap max number gap' t' m last' count' (record { before = p.before; block = record p.block { size = p.block.size + c.size }; after = cs }))
      → IsTurn in_bins 18 used used' → ls₁ ≡ remove (down n) y ls → ls' ≡ ls₁ → u₁ ≡ u → u' ≡ u₁ ++ y ∷ []
      → IsStepping R s n₀ in_bins front run back end f accesses max number t' m last' count' gap' at' link' g used' ls₀ ls' u₀ u'
  turn_into sized cell idle within linked next keeps none long same gathered more removed same_bins same_names one_more =
      let free = met_used i.there after named cell idle in
      let size = met_sized i.there after named sized in
      step_into i b bs is free (sym none ∙ kept_is size within linked next keeps) long (gathered _ b _ (kept_gap same i.there) after named free)
      (within ∙ ap₂ (λ (k : ℕ) (o : Option ℕ). if is_end end k then None else o) (sym named) linked) (next ∙ ap (λ k. (node t k).after) (sym named)) more
      (same_bins ∙ removed ∙ ap₂ (λ j k. remove (down j) k ls) size (sym named)) (one_more ∙ ap₂ (λ (l : List ℕ) (k : ℕ). l ++ k ∷ []) same_names (sym named))

  -- a part of a free block has passed the gap
  module _ {t₁ t₂ : ChainCells} {last₁ count₁ last₂ count₂ : ℕ} {gap' : Gap A B} {n keep : ℕ} {w : Bool} (sized : n ≡ (node t y).size) (cell : w ≡ (node t y).used) (idle : w ≡ false)
      (same : (t₁ ≡ t) × (last₁ ≡ last) × (count₁ ≡ count))
      (passed : (p : Place) (c : Block) (cs : List Block) → IsGap max number gap t₁ m last₁ count₁ p → p.after ≡ c ∷ cs → c.name ≡ y → IsGap max number gap' t₂ m last₂ count₂ (record {
        before = p.before ++ record c { size = keep } ∷ [];
        block = record p.block { size = p.block.size + (c.size - keep) };
        after = cs;
      })) where
    abbrev d : Block
    d = record b { size = keep }

    part : IsGap max number gap' t₂ m last₂ count₂ (record {
      before = (front ++ i.left) ++ d ∷ [];
      block = record (free_block gap.name gap.size) { size = gap.size + (b.size - keep) };
      after = bs ++ back;
    })
    part = passed _ b _ (kept_gap same i.there) after named

    pub part_below : y < length t₂.nodes
    part_below = subst (λ k. k < length t₂.nodes) named (before_below _ _ _ part.there b.name (last_or-append None (front ++ i.left) (d ∷ [])))

    pub part_idle : (node t₂ y).used ≡ false
    part_idle =
        let row = IsRow-back _ None 0 (front ++ i.left) (d ∷ []) _ part.there.front.1 in
        sym (ap (λ k. (node t₂ k).used) named) ∙ ap (λ (v : Node). v.used) row.0 ∙ met_used i.there after named cell idle

    pub part_unlisted : {ls₁ ls₂ : List (List ℕ)} → length ls ≡ 256 → ls₁ ≡ remove (down n) y ls → ls₂ ≡ ls₁ → IsUnlisted y ls₂
    part_unlisted {ls₁} {ls₂} long removed same_bins =
        let lists = same_bins ∙ removed ∙ ap₂ (λ j k. remove (down j) k ls) (met_sized i.there after named sized) (sym named) in
        subst (λ k. IsUnlisted k ls₂) named (subst (λ l. IsUnlisted b.name l) (sym lists) (next_unlisted i b bs is (met_used i.there after named cell idle) long))

    pub turn_part : {t' : ChainCells} {last' count' : ℕ} {at' link' linked : Option ℕ} {used' class : ℕ} {ls₁ ls₂ ls' : List (List ℕ)} {u₁ u₂ u' : List ℕ}
        → at' ≡ (if is_end end y then None else linked) → linked ≡ link' → link' ≡ (node t y).after → ((cs : List Block) → at' ≡ first_or None cs → keep ≡ kept s n cs) → keep ≢ 0 → keep ≤ n
        → length ls ≡ 256 → (t' ≡ t₂) × (last' ≡ last₂) × (count' ≡ count₂) → IsTurn in_bins 18 used used' → ls₁ ≡ remove (down n) y ls → ls₂ ≡ ls₁ → class ≡ down keep → ls' ≡ push class y ls₂
        → u₁ ≡ u → u₂ ≡ u₁ → u' ≡ u₂ → IsStepping R s n₀ in_bins front run back end f accesses max number t' m last' count' gap' at' link' g used' ls₀ ls' u₀ u'
    turn_part within linked next keeps some whole long pushed more removed same_bins classed put same_names₁ same_names₂ same_names₃ =
        let free = met_used i.there after named cell idle in
        let size = met_sized i.there after named sized in
        step_part i b bs is keep free (kept_is size within linked next keeps) (omega (arith, some)) (omega (arith, size, whole)) long (kept_gap pushed part)
        (within ∙ ap₂ (λ (k : ℕ) (o : Option ℕ). if is_end end k then None else o) (sym named) linked) (next ∙ ap (λ k. (node t k).after) (sym named)) more
        (put ∙ ap₂ (λ k l. push k y l) classed (same_bins ∙ removed) ∙ ap₂ (λ j k. push (down keep) k (remove (down j) k ls)) size (sym named)) (same_names₃ ∙ same_names₂ ∙ same_names₁)
