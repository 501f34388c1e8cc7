-- The places that hold a request, and which of them is taken.
use Rattle.offset_calls.proofs.Common.{◌≡◌, ℕ, ◌+◌, Bool, true, false, ◌&&◌, ◌⊎◌, List, [], ◌∷◌, ◌++◌, Option, Some, None, if◌then◌else◌, refl, sym, ap, subst, ◌∙◌, inl, inr, arith}
use Rattle.offset_calls.proofs.Common.{and_parts, true≢false, total}
use Rattle.std.proofs.lemmas.Bool.Decides.{nat_tests}
use Rattle.offset_allocator.proofs.Views.ViewApart.{right_false}
use Rattle.offset_script.proofs.{Found.taken_transitive, Lists.whole}
use Rattle.offset_script.specs.Machine.{Block, Place, here, prepend, is_taken_before}
use Rattle.offset_calls.specs.Tight.{holds, better, holding_place}

-- whether the block at a place, in blocks from an offset on, holds a request
abbrev pub holds_at : ℕ → ℕ → ℕ → Place → Bool
holds_at n align o p = holds n align (o + total p.before) p.block

-- a place of a longer list is its first, or one of the rest
split_at : (b : Block) (bs xs : List Block) (c : Block) (ys : List Block) → b ∷ bs ≡ xs ++ c ∷ ys
    → (record { before = xs; block = c; after = ys } ≡ here b bs) ⊎ ((r : Place) × (bs ≡ whole r) × (record { before = xs; block = c; after = ys } ≡ prepend b r))
split_at b bs [] c ys e = inl (cc)
split_at b bs (x ∷ xs) c ys e = inr (record { before = xs; block = c; after = ys }, cc, cc)

split_place : (b : Block) (bs : List Block) (q : Place) → b ∷ bs ≡ whole q → (q ≡ here b bs) ⊎ ((r : Place) × (bs ≡ whole r) × (q ≡ prepend b r))
split_place b bs q e = split_at b bs q.before q.block q.after e

module _ (n align : ℕ) where
  -- what is found: of all that hold the request none is taken before it, and where nothing is found, none does
  abbrev IsHeldAt : ℕ → List Block → Option Place → Type 0
  IsHeldAt o bs None = (p : Place) → bs ≡ whole p → holds_at n align o p ≡ false
  IsHeldAt o bs (Some p) = (bs ≡ whole p) × (holds_at n align o p ≡ true)
      × ((q : Place) → bs ≡ whole q → holds_at n align o q ≡ true → is_taken_before q.block p.block ≡ false)

  at_here : (o : ℕ) (b : Block) (bs : List Block) → holds_at n align o (here b bs) ≡ holds n align o b
  at_here o b bs = ap (λ k. holds n align k b) (omega arith)

  at_later : (o : ℕ) (b : Block) (r : Place) → holds_at n align o (prepend b r) ≡ holds_at n align (o + b.size) r
  at_later o b r = ap (λ k. holds n align k r.block) (omega arith)

  not_itself : (b : Block) → is_taken_before b b ≡ false
  not_itself b = grind (arith, nat_tests)

  module _ (o : ℕ) (b : Block) (bs : List Block) where
    none_step : IsHeldAt (o + b.size) bs None → (x : Bool) → holds n align o b ≡ x → IsHeldAt o (b ∷ bs) (if x then Some (here b bs) else None)
    none_step h true e = (
      refl,
      at_here o b bs ∙ e,
      λ q w t. elim (split_place b bs q w) [
        | inl f ↦ subst (λ (p : Place). is_taken_before p.block b ≡ false) (sym f) (not_itself b)
        | inr r ↦ absurd (true≢false (sym t ∙ ap (holds_at n align o) r.2 ∙ at_later o b r.0 ∙ h r.0 r.1))
      ],
    )
    none_step h false e = λ q w. elim (split_place b bs q w) [
      | inl f ↦ ap (holds_at n align o) f ∙ at_here o b bs ∙ e
      | inr r ↦ ap (holds_at n align o) r.2 ∙ at_later o b r.0 ∙ h r.0 r.1
    ]

    some_step : (p : Place) → IsHeldAt (o + b.size) bs (Some p) → (x : Bool) → (holds n align o b && is_taken_before b p.block) ≡ x
        → IsHeldAt o (b ∷ bs) (if x then Some (here b bs) else Some (prepend b p))
    some_step p h true e = (
      refl,
      at_here o b bs ∙ (and_parts _ _ e).0,
      λ q w t. elim (split_place b bs q w) [
        | inl f ↦ subst (λ (p : Place). is_taken_before p.block b ≡ false) (sym f) (not_itself b)
        | inr r ↦ subst (λ (q : Place). is_taken_before q.block b ≡ false) (sym r.2)
            (taken_transitive r.0.block p.block b (h.2 r.0 r.1 (sym (at_later o b r.0) ∙ sym (ap (holds_at n align o) r.2) ∙ t)) (and_parts _ _ e).1)
      ],
    )
    some_step p h false e = (
      ap (λ l. b ∷ l) h.0,
      at_later o b p ∙ h.1,
      λ q w t. elim (split_place b bs q w) [
        | inl f ↦ subst (λ (q : Place). is_taken_before q.block p.block ≡ false) (sym f)
            (right_false (holds n align o b) (is_taken_before b p.block) e (sym (at_here o b bs) ∙ sym (ap (holds_at n align o) f) ∙ t))
        | inr r ↦ subst (λ (q : Place). is_taken_before q.block p.block ≡ false) (sym r.2) (h.2 r.0 r.1 (sym (at_later o b r.0) ∙ sym (ap (holds_at n align o) r.2) ∙ t))
      ],
    )

    held_step : (r : Option Place) → IsHeldAt (o + b.size) bs r → IsHeldAt o (b ∷ bs) (better (holds n align o b) b bs r)
    held_step None h = none_step h (holds n align o b) refl
    held_step (Some p) h = some_step p h _ refl

  nothing : (xs : List Block) (c : Block) (ys : List Block) → [] ≡ xs ++ c ∷ ys → ⊥
  nothing [] c ys e = cc
  nothing (x ∷ xs) c ys e = cc

  held_all : (o : ℕ) (bs : List Block) → IsHeldAt o bs (holding_place n align o bs)
  held_all o [] = λ p w. absurd (nothing p.before p.block p.after w)
  held_all o (b ∷ bs) = held_step o b bs _ (held_all (o + b.size) bs)

  -- the place that is found is one of the list, holds the request, and none that does is taken before it
  pub held_at : (bs : List Block) (p : Place) → holding_place n align 0 bs ≡ Some p
      → (bs ≡ whole p) × (holds_at n align 0 p ≡ true) × ((q : Place) → bs ≡ whole q → holds_at n align 0 q ≡ true → is_taken_before q.block p.block ≡ false)
  held_at bs p e = subst (IsHeldAt 0 bs) e (held_all 0 bs)

  -- where nothing is found, nothing holds it
  pub not_held : (bs : List Block) → holding_place n align 0 bs ≡ None → (p : Place) → bs ≡ whole p → holds_at n align 0 p ≡ false
  not_held bs e = subst (IsHeldAt 0 bs) e (held_all 0 bs)
