-- A compaction by whole steps that is done: which free blocks are left, and what is granted then.
use Rattle.offset_allocator.proofs.Common.{◌≡◌, ◌≢◌, ◌↔◌, ℕ, zero, suc, ◌+◌, ◌-◌, ◌*◌, ◌/◌, ◌%◌, ◌^◌, ◌<◌, ◌≤◌, Bool, true, false, not, ◌&&◌, nat_le, List, [], ◌∷◌, ◌++◌, refl, sym, ap, subst, ◌∙◌, inl, inr, arith}
use Rattle.offset_allocator.proofs.Common.{if◌then◌else◌, append-nil, append_assoc, true≢false, leb-false, AllByRecursion, Block, View, free_block, free_part, free_sizes, largest, value, down, units, IsWellFormed, CanGrant, AdmitsBlocks}
use Rattle.offset_allocator.proofs.{Refusals.fit_small, Classes.down_law, Classes.value_down, Classes.value_grows, Tallies.units-append, Views.ViewFits.fits_exactly, Views.ViewFits.largest_small}
use Rattle.offset_allocator.proofs.Moving.{DecidedSteps.steps_run, Stepping.run_here, Stepping.stepped_free, Stepping.stepped_used, Stepping.given_free}
use Rattle.offset_allocator.specs.Moving.BySteps.{kept, stepped, given_up, run_by, SlidesBy, CompactsBy}
use Rattle.std.proofs.Math.Nat.{mod-lt, mod-add-div'}

-- a block is live, or has less than a step
abbrev IsFew : ℕ → Block → Type 0
IsFew s b = b.used ≡ false → b.size < s

few_append : (s : ℕ) (xs ys : List Block) → AllByRecursion (IsFew s) xs → AllByRecursion (IsFew s) ys → AllByRecursion (IsFew s) (xs ++ ys)
few_append s [] ys h k = k
few_append s (x ∷ xs) ys h k = (h.0, few_append s xs ys h.1 k)

same_end : (xs ys : List Block) (x y : Block) → xs ++ x ∷ [] ≡ ys ++ y ∷ [] → (xs ≡ ys) × (x ≡ y)
same_end [] [] x y e = (refl, cc)
same_end [] (k ∷ []) x y e = absurd (cc)
same_end [] (k ∷ l ∷ ys) x y e = absurd (cc)
same_end (k ∷ []) [] x y e = absurd (cc)
same_end (k ∷ l ∷ xs) [] x y e = absurd (cc)
same_end (k ∷ xs) (l ∷ ys) x y e =
    let first : k ≡ l = cc in
    let rest : xs ++ x ∷ [] ≡ ys ++ y ∷ [] = cc in
    let r = same_end xs ys x y rest in
    (ap (λ (b : Block). b ∷ xs) first ∙ ap (λ bs. l ∷ bs) r.0, r.1)

module _ (s : ℕ) (some : 1 ≤ s) where
  less : (n : ℕ) (bs : List Block) → kept s n bs < s
  less n [] = some
  less n (b ∷ bs) = mod-lt n some

  -- what free blocks keep is less than a step
  kept_few : (bs : List Block) → AllByRecursion (IsFew s) (stepped s bs)
  kept_few [] = tt
  kept_few (b ∷ bs) = go b.used refl (kept_few bs)
    where
      part : (n : ℕ) → n < s → AllByRecursion (IsFew s) (free_part b.name n)
      part zero l = tt
      part (suc n) l = (λ e. l, tt)

      go : (u : Bool) → b.used ≡ u → AllByRecursion (IsFew s) (stepped s bs) → AllByRecursion (IsFew s) (stepped s (b ∷ bs))
      go true u ih = subst (AllByRecursion (IsFew s)) (sym (stepped_used s b bs u)) (λ e. absurd (true≢false (sym u ∙ e)), ih)
      go false u ih = subst (AllByRecursion (IsFew s)) (sym (stepped_free s b bs u)) (few_append s (free_part b.name (kept s b.size bs)) (stepped s bs) (part (kept s b.size bs) (less b.size bs)) ih)

  -- where nothing slides, none has a step
  none_few : (front : List Block) (last : Block) → run_by s (front ++ last ∷ []) ≡ [] → AllByRecursion (IsFew s) front
  none_few [] last e = tt
  none_few (b ∷ front) last e = go (not b.used && nat_le s b.size) refl (more front) (λ h. none_few front last h)
    where
      more : (bs : List Block) → bs ++ last ∷ [] ≢ []
      more [] q = absurd (cc)
      more (c ∷ cs) q = absurd (cc)

      go : (t : Bool) → (not b.used && nat_le s b.size) ≡ t → front ++ last ∷ [] ≢ [] → (run_by s (front ++ last ∷ []) ≡ [] → AllByRecursion (IsFew s) front) → AllByRecursion (IsFew s) (b ∷ front)
      go true t q ih = let h : b ∷ (front ++ last ∷ []) ≡ [] = sym (run_here s b (front ++ last ∷ []) q true (sym t)) ∙ e in absurd (cc)
      go false t q ih = (λ u. leb-false s b.size (sym (ap (λ v. not v && nat_le s b.size) u) ∙ t), ih (sym (run_here s b (front ++ last ∷ []) q false (sym t)) ∙ e))

  -- the first one gives up a step
  step_given : (n : ℕ) → s ≤ n → s ≤ n - n % s
  step_given n l = go (n / s) refl
    where
      go : (q : ℕ) → n / s ≡ q → s ≤ n - n % s
      go zero e = absurd (omega (arith, l, mod-lt n some, mod-add-div' n s, ap (λ k. k * s) e))
      go (suc q) e = let whole : suc q * s ≡ s + q * s = omega arith in omega (arith, whole, mod-add-div' n s, ap (λ k. k * s) e)

  pub given_enough : (b : Block) (bs : List Block) → b.used ≡ false → s ≤ b.size → bs ≢ [] → s ≤ given_up s (b ∷ bs)
  given_enough b [] u l more = absurd (more refl)
  given_enough b (c ∷ cs) u l more = omega (arith, given_free s b (c ∷ cs) u, step_given b.size l)

  -- what it leaves
  module _ (v w : View) (h : SlidesBy s v w) where
    abbrev run : List Block
    run = h.first ∷ h.rest

    pub run_is : run_by s v.blocks ≡ h.first ∷ h.rest
    run_is = steps_run h

    abbrev stays : List Block
    stays = h.front ++ stepped s run

    left : w.blocks ≡ stays ++ free_block h.name (given_up s run) ∷ []
    left = ap (λ (u : View). u.blocks) h.view ∙ ap (λ l. h.front ++ l) (append-nil (stepped s run ++ free_block h.name (given_up s run) ∷ []))
        ∙ sym (append_assoc h.front (stepped s run) (free_block h.name (given_up s run) ∷ []))

    stays_few : AllByRecursion (IsFew s) stays
    stays_few = few_append s h.front (stepped s run) h.few (kept_few run)

    enough : s ≤ given_up s run
    enough = given_enough h.first h.rest h.free h.whole h.more

  -- no free block but the last has a step
  pub few_after : (v w : View) → CompactsBy s v w true → (front : List Block) (last : Block) → w.blocks ≡ front ++ last ∷ [] → AllByRecursion (λ (b : Block). b.used ≡ false → b.size < s) front
  few_after v w (inl n) front last is = none_few front last (ap (run_by s) (sym is ∙ ap (λ (u : View). u.blocks) n.1) ∙ n.0)
  few_after v w (inr k) front last is = subst (AllByRecursion (IsFew s)) (same_end (stays v w k.1) front _ last (sym (left v w k.1) ∙ is)).0 (stays_few v w k.1)

  -- the last one is free, and has one
  pub last_after : (v w : View) → run_by s v.blocks ≢ [] → CompactsBy s v w true
      → (front : List Block) × (x : ℕ) × (w.blocks ≡ front ++ free_block x (given_up s (run_by s v.blocks)) ∷ []) × (s ≤ given_up s (run_by s v.blocks))
  last_after v w more (inl n) = absurd (more n.0)
  last_after v w more (inr k) = (
    stays v w k.1,
    k.1.name,
    left v w k.1 ∙ ap (λ l. stays v w k.1 ++ free_block k.1.name (given_up s l) ∷ []) (sym (run_is v w k.1)),
    subst (λ l. s ≤ given_up s l) (sym (run_is v w k.1)) (enough v w k.1),
  )

  -- so it is the largest
  largest_last : (xs : List Block) (x g : ℕ) → AllByRecursion (IsFew s) xs → s ≤ g → g < 2 ^ 32 → largest (free_sizes (xs ++ free_block x g ∷ [])) ≡ value (down g)
  largest_last [] x g few l fits = omega arith
  largest_last (b ∷ xs) x g few l fits = go b.used refl (largest_last xs x g few.1 l fits)
    where
      go : (u : Bool) → b.used ≡ u → largest (free_sizes (xs ++ free_block x g ∷ [])) ≡ value (down g) → largest (free_sizes (b ∷ (xs ++ free_block x g ∷ []))) ≡ value (down g)
      go true u ih = ap (λ (t : Bool). largest (if t then free_sizes (xs ++ free_block x g ∷ []) else b.size ∷ free_sizes (xs ++ free_block x g ∷ []))) u ∙ ih
      go false u ih =
          let small : value (down b.size) ≤ value (down g) = value_grows (down b.size) (down g) ((down_law g (down b.size) fits).1 (omega (arith, value_down b.size, few.0 u, l))) in
          ap (λ (t : Bool). largest (if t then free_sizes (xs ++ free_block x g ∷ []) else b.size ∷ free_sizes (xs ++ free_block x g ∷ []))) u ∙ omega (arith, ih, small)

  pub steps_grant : (v w : View) (n : ℕ) → IsWellFormed w → 1 ≤ n → run_by s v.blocks ≢ [] → CompactsBy s v w true
      → CanGrant 1 n w ↔ (AdmitsBlocks 1 w × (n ≤ value (down (given_up s (run_by s v.blocks)))))
  steps_grant v w n well one more (inl e) = absurd (more e.0)
  steps_grant v w n well one more (inr k) =
      let g = given_up s (run v w k.1) in
      let fits : g < 2 ^ 32 = omega (arith, well.whole, well.fits, ap units (left v w k.1), units-append (stays v w k.1) (free_block k.1.name g ∷ [])) in
      let is : largest (free_sizes w.blocks) ≡ value (down (given_up s (run_by s v.blocks))) =
      ap (λ l. largest (free_sizes l)) (left v w k.1) ∙ largest_last (stays v w k.1) k.1.name g (stays_few v w k.1) (enough v w k.1) fits ∙ ap (λ l. value (down (given_up s l))) (sym (run_is v w k.1)) in (
        λ h. (h.0, let small : n ≤ 4294967295 = omega (arith, fit_small n w well h.1, well.fits) in omega (arith, (fits_exactly w well n small well.fits one).0 h.1, is)),
        λ h. (h.0, (fits_exactly w well n (largest_small w well well.fits n one (omega (arith, h.1, is))) well.fits one).1 (omega (arith, h.1, is))),
      )
