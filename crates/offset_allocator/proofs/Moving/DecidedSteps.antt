-- A compaction by whole steps: in the same state it leaves the same state.
use Rattle.offset_allocator.proofs.{Decided.both_leave, Decided.both_stay, Decided.one_name, Moving.Stepping.run_here}
use Rattle.offset_allocator.proofs.Common.{◌≡◌, ◌≢◌, ℕ, ◌<◌, ◌≤◌, Bool, true, false, not, ◌&&◌, nat_le, List, [], ◌∷◌, ◌++◌, length, refl, sym, ap, ap₂, subst, ◌∙◌, inl, inr, AllByRecursion, le-leb}
use Rattle.offset_allocator.proofs.Common.{lt-leb, Block, View, free_block, replace}
use Rattle.std.proofs.lemmas.List.{append_cancel_right}
use Rattle.offset_allocator.specs.Moving.BySteps.{run_by, stepped, given_up, used_up, SlidesBy, CompactsBy}
use Rattle.offset_allocator.specs.{Names.names_of, Relations.SameState}

-- there is one where such a block is
pub whole_there : (s : ℕ) (fs : List Block) (b : Block) (bs : List Block) → AllByRecursion (λ d. d.used ≡ false → d.size < s) fs → b.used ≡ false → s ≤ b.size → bs ≢ []
    → run_by s (fs ++ b ∷ bs) ≡ b ∷ bs
whole_there s [] b bs f u l more = run_here s b bs more true (sym (ap (λ t. not t && nat_le s b.size) u ∙ le-leb s b.size l))
whole_there s (d ∷ fs) b bs f u l more = run_here s d (fs ++ b ∷ bs) (some fs) false (sym (none d.used refl)) ∙ whole_there s fs b bs f.1 u l more
  where
    some : (gs : List Block) → gs ++ b ∷ bs ≢ []
    some [] q = absurd (cc)
    some (g ∷ gs) q = absurd (cc)

    none : (t : Bool) → d.used ≡ t → (not d.used && nat_le s d.size) ≡ false
    none true q = ap (λ t. not t && nat_le s d.size) q
    none false q = ap (λ t. not t && nat_le s d.size) q ∙ lt-leb s d.size (f.0 q)

pub steps_run : {s : ℕ} {v w : View} (h : SlidesBy s v w) → run_by s v.blocks ≡ h.first ∷ h.rest
steps_run {s} h = ap (run_by s) h.is ∙ whole_there s h.front h.first h.rest h.few h.free h.whole h.more

steps_whole : {s : ℕ} {v w : View} → SlidesBy s v w → run_by s v.blocks ≢ []
steps_whole h e = let q = sym (steps_run h) ∙ e in absurd (cc)

module _ (s : ℕ) (v : View) (a : ℕ) (w w' : View) (f : SlidesBy s v w) (k : SlidesBy s (record v { accesses = a }) w') where
  run : f.first ∷ f.rest ≡ k.first ∷ k.rest
  run = sym (steps_run f) ∙ steps_run k

  front : f.front ≡ k.front
  front = append_cancel_right f.front k.front (f.first ∷ f.rest) (sym f.is ∙ k.is ∙ ap (λ (l : List Block). k.front ++ l) (sym run))

  name : (f.name ≡ k.name) × (f.left ≡ k.left)
  name = one_name (length v.blocks) v.unused f.name k.name f.left k.left f.taken k.taken

  abbrev moved : View → List Block → List Block → ℕ → View
  moved z front bs x = replace z front bs (stepped s bs ++ free_block x (given_up s bs) ∷ []) []

  steps_same : SameState w w'
  steps_same = both_leave (moved v f.front (f.first ∷ f.rest) f.name) (moved (record v { accesses = a }) k.front (k.first ∷ k.rest) k.name) w w' f.view k.view
      (ap₂ (λ (front bs : List Block). moved (record v { accesses = a }) front bs k.name) (sym front) (sym run)
      ∙ ap (moved (record v { accesses = a }) f.front (f.first ∷ f.rest)) (sym name.0))
      (f.names ∙ ap₂ (λ (l : List ℕ) (bs : List Block). l ++ names_of (used_up s bs)) name.1 run ∙ sym k.names)

by_same : (s : ℕ) (v : View) (a : ℕ) (w w' : View) (r r' : Bool) → CompactsBy s v w r → CompactsBy s (record v { accesses = a }) w' r' → (r ≡ r') × SameState w w'
by_same s v a w w' true true (inl e) (inl f) = (refl, both_stay v w w' e.1 f.1)
by_same s v a w w' true true (inl e) (inr f) = absurd (steps_whole f.1 e.0)
by_same s v a w w' true true (inr e) (inl f) = absurd (steps_whole e.1 f.0)
by_same s v a w w' true true (inr e) (inr f) = (refl, steps_same s v a w w' e.1 f.1)
by_same s v a w w' true false (inl e) f = absurd (f.0 e.0)
by_same s v a w w' true false (inr e) f = absurd (f.1 e.0)
by_same s v a w w' false true e (inl f) = absurd (e.0 f.0)
by_same s v a w w' false true e (inr f) = absurd (e.1 f.0)
by_same s v a w w' false false e f = (refl, both_stay v w w' e.2 f.2)

pub compacts_by_decided : (s : ℕ) (v v' w w' : View) → SameState v v' → (r r' : Bool) → CompactsBy s v w r → CompactsBy s v' w' r' → (r ≡ r') × SameState w w'
compacts_by_decided s v v' w w' same r r' f k = by_same s v v'.accesses w w' r r' f (subst (λ z. CompactsBy s z w' r') same k)
