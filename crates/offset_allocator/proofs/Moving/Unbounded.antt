-- A compaction by whole steps is one pass of those within budgets, which begins at the start, and which no budget ends.
use Rattle.offset_allocator.proofs.Moving.Budgeted.{none_left, used_fit}
use Rattle.offset_allocator.proofs.Moving.DecidedBudget.{same_named}
use Rattle.offset_allocator.proofs.Moving.Runs.{used_few}
use Rattle.offset_allocator.proofs.Moving.Stepped.{IsWhole, none_whole, whole_is}
use Rattle.offset_allocator.proofs.{Moving.PassDone.from_start, Tallies.units-append}
use Rattle.offset_allocator.proofs.Common.{◌≡◌, ◌≢◌, ℕ, ◌+◌, ◌<◌, ◌≤◌, false, Some, None, Option, is_some, if◌then◌else◌, List, [], ◌∷◌, ◌++◌, length, length-append, refl, sym, ap, ap₂, subst, ◌∙◌, arith, inl, inr, append-nil}
use Rattle.offset_allocator.proofs.Common.{AllByRecursion, Block, FoldsTo, IsWellFormed, Move, View, count_named, free_block, replace, units, SameSpace}
use Rattle.offset_allocator.specs.Moving.Budget.{CompactsWithin, IsRunWithin, SlidesWithin, StopsAt}
use Rattle.offset_allocator.specs.Moving.BySteps.{CanFollow, CompactsBy, SlidesBy, given_up, moves_by, run_by, stepped}
use Rattle.offset_allocator.specs.declared.moves.over_frames.Progress.{Progress}

module _ (s : ℕ) where
  module _ (v : View) (known : IsWellFormed v) (few : length v.blocks ≤ 4294967295) where
    none_stops : (front : List Block) (b : Block) (rest back : List Block) → v.blocks ≡ front ++ (b ∷ (rest ++ back)) → StopsAt 4294967295 4294967295 rest back → back ≡ []
    none_stops front b rest [] is stops = refl
    none_stops front b rest (d ∷ back) is stops = absurd (stops.1 (inr (
      omega (arith, used_fit (rest ++ d ∷ []), known.whole, known.fits, ap units is, units-append front (b ∷ (rest ++ d ∷ back)), units-append rest (d ∷ back), units-append rest (d ∷ [])),
      omega (
        arith,
        used_few (rest ++ d ∷ []),
        few,
        ap (λ (l : List Block). length l) is,
        length-append front (b ∷ (rest ++ d ∷ back)),
        length-append rest (d ∷ back),
        length-append rest (d ∷ []),
      ),
    )))

    -- the run of both is one
    module _ (front : List Block) (first : Block) (rest back : List Block) (h : IsRunWithin s 0 4294967295 4294967295 v front first rest back) where
      none : back ≡ []
      none = none_stops front first rest back h.is h.stops

      o : IsWhole s v.blocks first.name
      o = whole_is s v.blocks first.name (sym (from_start s 0 v.blocks) ∙ h.begins)

      is : v.blocks ≡ front ++ first ∷ rest
      is = h.is ∙ ap (λ (l : List Block). front ++ first ∷ l) (ap (λ (l : List Block). rest ++ l) none ∙ append-nil rest)

      at : (o.front ≡ front) × (o.first ≡ first) × (o.rest ≡ rest)
      at = same_named o.front front o.first first o.rest rest (sym o.is ∙ is) (λ x. subst (λ (l : List Block). count_named x l ≤ 1) o.is (known.distinct x)) o.name

      run_is : run_by s v.blocks ≡ first ∷ rest
      run_is = o.run ∙ ap₂ (λ (b : Block) (bs : List Block). b ∷ bs) at.1 at.2

      moves_are : moves_by s 0 0 v.blocks ≡ moves_by s (units front) (units front) (first ∷ rest)
      moves_are =
          let zero_more : 0 + units o.front ≡ units o.front = omega arith in
          o.moves 0 ∙ ap (λ n. moves_by s n n (o.first ∷ o.rest)) zero_more ∙ ap₂ (λ (l k : List Block). moves_by s (units l) (units l) k) at.0 (ap₂ (λ (b : Block) (bs : List Block). b ∷ bs) at.1 at.2)

    slides_all : (w : View) (p : Progress) → SlidesWithin s 0 4294967295 4294967295 v w p → SlidesBy s v w
    slides_all w p k =
        let x = o k.front k.first k.rest k.back k.reached in
        let same = at k.front k.first k.rest k.back k.reached in
        let run : List Block = k.first ∷ k.rest in
        record {
          front = k.front;
          first = k.first;
          rest = k.rest;
          is = is k.front k.first k.rest k.back k.reached;
          few = subst (λ (l : List Block). AllByRecursion (λ b. b.used ≡ false → b.size < s) l) same.0 x.few;
          free = subst (λ (b : Block). b.used ≡ false) same.1 x.free;
          whole = subst (λ (b : Block). s ≤ b.size) same.1 x.whole;
          more = subst (λ (l : List Block). l ≢ []) same.2 x.more;
          name = k.name;
          left = k.left;
          taken = k.taken;
          names = k.names;
          view = subst (λ (l : List Block). SameSpace (replace v k.front run (stepped s run ++ free_block k.name (given_up s run) ∷ []) l) w) (none k.front k.first k.rest k.back k.reached) k.view;
        }

    pub all_within : {F : Type 0} (R : F → Move → F → Type 0) (f g : F) (w : View) (r : Option Progress) → CompactsWithin R s 0 4294967295 4294967295 v f r w g
        → CompactsBy s v w (is_some r) × FoldsTo R f (if is_some r then moves_by s 0 0 v.blocks else []) g
    all_within R f g w None h =
        let is = run_is h.2.0 h.2.1 h.2.2 h.2.3 h.2.4 in (
          (λ e. let q : h.2.1 ∷ h.2.2 ≡ [] = sym is ∙ e in absurd (cc), λ can. h.2.5 (subst (CanFollow s v) is can), h.0),
          sym h.1,
        )
    all_within R f g w (Some p) (inl h) =
        let none = none_left (run_by s v.blocks) (sym (from_start s 0 v.blocks) ∙ h.0) in
        (inl (none, h.2), subst (λ (l : List Move). FoldsTo R f l g) (sym (none_whole s v.blocks none 0)) (sym h.3))
    all_within R f g w (Some p) (inr k) =
        let h = k.0 in (
          inr (subst (CanFollow s v) (sym (run_is h.front h.first h.rest h.back h.reached)) k.1, slides_all w p h),
          subst (λ (l : List Move). FoldsTo R f l g) (sym (moves_are h.front h.first h.rest h.back h.reached)) k.2,
        )
