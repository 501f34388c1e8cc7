-- What a compaction by whole steps would copy: the sums of blocks that would slide, one block after another, and what is
-- granted where none would.
use Rattle.offset_allocator.proofs.Common.{◌≡◌, ◌≢◌, ◌↔◌, ◌⊎◌, ◌∙◌, ◌++◌, ◌∷◌, ℕ, Bool, true, false, nat_eq, nat_tests, if◌then◌else◌, List, [], inl, inr, refl, sym, ap, arith, Block}
use Rattle.offset_allocator.proofs.Common.{ChainCells, HasPlace, IsChain, IsSpace, append_assoc, blocks, subst}
use Rattle.offset_allocator.proofs.{Linking.Places.placed, Moving.Budgeted.Started}
use Rattle.offset_allocator.proofs.Common.{◌≤◌, IsWellFormed, View, free_sizes, largest}
use Rattle.offset_allocator.proofs.{Refusals.fit_small, Views.ViewFits.fits_exactly, Views.ViewFits.largest_small}
use Rattle.offset_allocator.proofs.Moving.DecidedSteps.{steps_run}
use Rattle.offset_allocator.proofs.Moving.Stepping.{emptied_free, emptied_used, freed_still}
use Rattle.offset_allocator.specs.Moving.BySteps.{CompactsBy, kept, run_by, used_up}
use Rattle.offset_allocator.specs.Requests.{AdmitsBlocks, CanGrant}

-- the place of the first of those that are left
pub left_place : {c : ChainCells} {last count x : ℕ} → IsSpace c last count → (front passed left : List Block) → blocks c last ≡ front ++ (passed ++ left) → (s : Started left x)
    → HasPlace c c.reserved last count x (record { before = front ++ passed; block = s.first; after = s.rest })
left_place {c} {last} {count} h front passed left is s =
    placed (subst (λ (l : List Block). IsChain c c.reserved last count l) (is ∙ ap (λ (l : List Block). front ++ (passed ++ l)) s.is ∙ sym (append_assoc front passed (s.first ∷ s.rest))) h) s.name

-- whether one is used up, with one block more
pub emptied_on : (s : ℕ) (b : Block) (bs : List Block) (was is : Bool) (keep : ℕ) → keep ≡ kept s b.size bs → (is ≡ true) ↔ ((was ≡ true) ⊎ ((b.used ≡ false) × (keep ≡ 0)))
    → ((is ≡ true) ⊎ (used_up s bs ≢ [])) ↔ ((was ≡ true) ⊎ (used_up s (b ∷ bs) ≢ []))
emptied_on s b bs was is keep k h = (
  λ e. elim e [
    | inl i ↦ elim (h.0 i) [ inl w ↦ inl w | inr z ↦ inr (here z.0 (sym k ∙ z.1)) ]
    | inr l ↦ inr (freed_still s b bs l)
  ],
  λ e. elim e [
    | inl w ↦ inl (h.1 (inl w))
    | inr l ↦ go b.used refl (nat_eq (kept s b.size bs) 0) refl l
  ],
)
  where
    here : b.used ≡ false → kept s b.size bs ≡ 0 → used_up s (b ∷ bs) ≢ []
    here u z q = let r : b ∷ used_up s bs ≡ [] = ap (λ (n : ℕ). (if nat_eq n 0 then b ∷ [] else []) ++ used_up s bs) (sym z) ∙ sym (emptied_free s b bs u (kept s b.size bs) refl) ∙ q in absurd (cc)

    zero : (n : ℕ) → nat_eq n 0 ≡ true → n ≡ 0
    zero n q = grind (arith, nat_tests)

    go : (u : Bool) → b.used ≡ u → (t : Bool) → nat_eq (kept s b.size bs) 0 ≡ t → used_up s (b ∷ bs) ≢ [] → (is ≡ true) ⊎ (used_up s bs ≢ [])
    go true u t q l = inr (λ z. l (emptied_used s b bs u ∙ z))
    go false u true q l = inl (h.1 (inr (u, k ∙ zero (kept s b.size bs) q)))
    go false u false q l = inr (λ z. l (emptied_free s b bs u (kept s b.size bs) refl ∙ ap (λ (t : Bool). (if t then b ∷ [] else []) ++ used_up s bs) q ∙ z))

-- where none would slide, what is granted afterwards is what is reported now
pub still_grants : (s : ℕ) (v w : View) (n : ℕ) → IsWellFormed w → 1 ≤ n → run_by s v.blocks ≡ [] → CompactsBy s v w true → CanGrant 1 n w ↔ (AdmitsBlocks 1 w × (n ≤ largest (free_sizes v.blocks)))
still_grants s v w n well one none (inr k) = let q : k.1.first ∷ k.1.rest ≡ [] = sym (steps_run k.1) ∙ none in absurd (cc)
still_grants s v w n well one none (inl e) =
    let is : largest (free_sizes w.blocks) ≡ largest (free_sizes v.blocks) = ap (λ (u : View). largest (free_sizes u.blocks)) e.1 in (
      λ h. (h.0, let small : n ≤ 4294967295 = omega (arith, fit_small n w well h.1, well.fits) in omega (arith, (fits_exactly w well n small well.fits one).0 h.1, is)),
      λ h. (h.0, (fits_exactly w well n (largest_small w well well.fits n one (omega (arith, h.1, is))) well.fits one).1 (omega (arith, h.1, is))),
    )
