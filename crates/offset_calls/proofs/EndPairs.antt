-- Calls at the end of the space, at two states that differ only in numbers and stamps.
use Rattle.offset_calls.proofs.Common.{◌≡◌, ℕ, zero, suc, ◌+◌, ◌-◌, ◌*◌, true, false, List, [], ◌∷◌, ◌++◌, Option, Some, None, nat_le, if◌then◌else◌, refl, sym, ap, ap₂, ◌∙◌}
use Rattle.offset_calls.proofs.Common.{inl, inr, map-append, option_map, State, is_free, total, stamp_of_call}
use Rattle.std.specs.Option.{option_or}
use Rattle.offset_script.proofs.Alike.{IsAlike, IsSameOutcome, alike_step, same_quiet, same_leaves, fresh_kinds}
use Rattle.offset_script.proofs.Pairs.{Kind, Lives, Frees, Pair, pair, left_tag, right_tag, left, right, lefts, rights, IsSamePlace, neither, both, same_free, same_total}
use Rattle.offset_script.proofs.{Pairs.pair_free_part, Pairs.lefts_free_part, Pairs.rights_free_part, Pairs.in_free_part, Members.IsIn, Members.in_append, Tests.if_same}
use Rattle.offset_script.specs.Histories.{raise_number}
use Rattle.offset_script.specs.declared.scripts.Command.TheVariants as command
use Rattle.offset_calls.specs.declared.calls.LiveRange.{LiveRange}
use Rattle.offset_calls.specs.Ending.{begins_before, relocate, relocate_aligned, can_retract, end_block, with_end, retracted, live_range, first_live, last_live}
use Rattle.offset_script.specs.Machine as machine

-- ---- lists of pairs without a free one at the end
abbrev without_pairs : List Pair → List Pair
without_pairs [] = []
without_pairs (q ∷ []) = if is_free (left_tag q.kind) then [] else q ∷ []
without_pairs (q ∷ x ∷ ps) = q ∷ without_pairs (x ∷ ps)

lefts_without : (ps : List Pair) → lefts (without_pairs ps) ≡ machine.without_end (lefts ps)
lefts_without [] = refl
lefts_without (q ∷ []) = elim (is_free (left_tag q.kind)) as (λ b. lefts (if b then [] else q ∷ []) ≡ (if b then [] else left q ∷ [])) [ true ↦ refl | false ↦ refl ]
lefts_without (q ∷ x ∷ ps) = ap (λ l. left q ∷ l) (lefts_without (x ∷ ps))

rights_without : (ps : List Pair) → rights (without_pairs ps) ≡ machine.without_end (rights ps)
rights_without [] = refl
rights_without (q ∷ []) = elim (is_free (left_tag q.kind)) as (λ b. rights (if b then [] else q ∷ []) ≡ (if b then [] else right q ∷ [])) [ true ↦ refl | false ↦ refl ]
    ∙ ap (λ b. if b then [] else right q ∷ []) (same_free q.kind)
rights_without (q ∷ x ∷ ps) = ap (λ l. right q ∷ l) (rights_without (x ∷ ps))

in_without : (p : Pair) (ps : List Pair) → IsIn p (without_pairs ps) → IsIn p ps
in_without p [] i = i
in_without p (q ∷ []) i = elim (is_free (left_tag q.kind)) as (λ b. IsIn p (if b then [] else q ∷ []) → IsIn p (q ∷ [])) [ true ↦ λ i. absurd i | false ↦ λ i. i ] i
in_without p (q ∷ x ∷ ps) (inl e) = inl e
in_without p (q ∷ x ∷ ps) (inr i) = inr (in_without p (x ∷ ps) i)

pub same_free_end : (ps : List Pair) → machine.units_at_end (lefts ps) ≡ machine.units_at_end (rights ps)
same_free_end [] = refl
same_free_end (q ∷ []) = ap (λ b. if b then q.size else 0) (same_free q.kind)
same_free_end (q ∷ x ∷ ps) = same_free_end (x ∷ ps)

-- what is left at the end
abbrev end_pairs : List Pair → ℕ → Kind → List Pair
end_pairs [] n k = pair n k ∷ []
end_pairs (q ∷ ps) n k = pair_free_part n k

lefts_end : (ps : List Pair) (n s u : ℕ) → lefts (end_pairs ps n (Frees s u)) ≡ end_block (lefts ps) n s
lefts_end [] n s u = refl
lefts_end (q ∷ ps) n s u = lefts_free_part n s u

rights_end : (ps : List Pair) (n s u : ℕ) → rights (end_pairs ps n (Frees s u)) ≡ end_block (rights ps) n u
rights_end [] n s u = refl
rights_end (q ∷ ps) n s u = rights_free_part n s u

in_end : (p : Pair) (ps : List Pair) (n : ℕ) (k : Kind) → IsIn p (end_pairs ps n k) → p.kind ≡ k
in_end p [] n k (inl e) = ap (λ (z : Pair). z.kind) e
in_end p [] n k (inr i) = absurd i
in_end p (q ∷ ps) n k i = in_free_part p n k i

lefts_with : (ps : List Pair) (n s u : ℕ) → lefts (without_pairs ps ++ end_pairs (without_pairs ps) n (Frees s u)) ≡ with_end n s (lefts ps)
lefts_with ps n s u = map-append left (without_pairs ps) _ ∙ ap (λ l. lefts (without_pairs ps) ++ l) (lefts_end (without_pairs ps) n s u)
    ∙ ap (λ l. l ++ end_block l n s) (lefts_without ps)

rights_with : (ps : List Pair) (n s u : ℕ) → rights (without_pairs ps ++ end_pairs (without_pairs ps) n (Frees s u)) ≡ with_end n u (rights ps)
rights_with ps n s u = map-append right (without_pairs ps) _ ∙ ap (λ l. rights (without_pairs ps) ++ l) (rights_end (without_pairs ps) n s u)
    ∙ ap (λ l. l ++ end_block l n u) (rights_without ps)

module _ (r : ℕ → ℕ) (d : ℕ) (s t : State) (a : IsAlike r d s t) where
  -- whether units can go off the end, and what is left
  pub same_can : (n : ℕ) → can_retract n s.blocks ≡ can_retract n t.blocks
  same_can n = ap (nat_le n) (ap machine.units_at_end a.left_blocks ∙ same_free_end a.pairs ∙ ap machine.units_at_end (sym a.right_blocks))

  with_alike : (m n : ℕ) → m ≡ n
      → IsAlike r d (machine.leaves s (with_end m (stamp_of_call s) s.blocks) machine.Freed).state (machine.leaves t (with_end n (stamp_of_call t) t.blocks) machine.Freed).state
  with_alike m n e =
      let ps = without_pairs a.pairs ++ end_pairs (without_pairs a.pairs) m (Frees (2 * (s.calls + 1) + 1) (2 * (t.calls + 1) + 1)) in
      (same_leaves r d s t a machine.Freed machine.Freed ps _ _ refl
      (ap (with_end m (stamp_of_call s)) a.left_blocks ∙ sym (lefts_with a.pairs m _ _))
      (ap₂ (λ k bs. with_end k (stamp_of_call t) bs) (sym e) a.right_blocks ∙ sym (rights_with a.pairs m _ _))
      (λ q i. elim (in_append q (without_pairs a.pairs) _ i) [
        | inl h ↦ inl (in_without q a.pairs h)
        | inr h ↦ inr (fresh_kinds s.grants t.grants s.calls t.calls q (inr (inr (in_end q (without_pairs a.pairs) m _ h))))
      ])).state

  pub retracted_alike : (n : ℕ)
      → IsAlike r d (machine.leaves s (retracted n (stamp_of_call s) s.blocks) machine.Freed).state (machine.leaves t (retracted n (stamp_of_call t) t.blocks) machine.Freed).state
  retracted_alike zero = (same_quiet r d s t a machine.Freed machine.Freed refl).state
  retracted_alike (suc n) = with_alike _ _ (ap (λ m. m - suc n) (ap machine.units_at_end a.left_blocks ∙ same_free_end a.pairs ∙ ap machine.units_at_end (sym a.right_blocks)))

  -- a number has no part in where a grant begins
  raised_before : (o : ℕ) (x : machine.Answer) → begins_before o (raise_number d x) ≡ begins_before o x
  raised_before o (machine.Grant k m) = refl
  raised_before o other = refl

  pub same_relocated : (o o' : Option machine.Place) → IsSamePlace (λ q. Unit {0}) a.pairs o o' → IsSameOutcome r d (relocate s o) (relocate t o')
  same_relocated None None neither = same_quiet r d s t a _ _ refl
  same_relocated o o' (both xs q ys e f) =
      let g = alike_step r d (command.Alloc q.size) s t a in
      if_same (IsSameOutcome r d) _ _ _ _ _ _
      (ap₂ begins_before (same_total xs) g.answer ∙ raised_before (total (rights xs)) (machine.allocate q.size t).answer)
      (λ z. g) (same_quiet r d s t a _ _ refl)

  pub same_relocated_aligned : (align : ℕ) (o o' : Option machine.Place) → IsSamePlace (λ q. Unit {0}) a.pairs o o' → IsSameOutcome r d (relocate_aligned align s o) (relocate_aligned align t o')
  same_relocated_aligned align None None neither = same_quiet r d s t a _ _ refl
  same_relocated_aligned align o o' (both xs q ys e f) =
      let n = q.size + align - 1 in
      let g = alike_step r d (command.Alloc n) s t a in
      if_same (IsSameOutcome r d) _ _ _ _ _ _
      (ap₂ begins_before (same_total xs) g.answer ∙ raised_before (total (rights xs)) (machine.allocate n t).answer)
      (λ z. alike_step r d (command.Align q.size align) s t a) (same_quiet r d s t a _ _ refl)

-- ---- live ranges

-- the number of the first block of a pair is that of the second, changed by f
abbrev pub IsSent : (ℕ → ℕ) → Kind → Type 0
IsSent f (Lives i j) = i ≡ f j
IsSent f (Frees s u) = Unit {0}

abbrev pub AreSent : (ℕ → ℕ) → List Pair → Type 0
AreSent f ps = (q : Pair) → IsIn q ps → IsSent f q.kind

abbrev pub sent : (ℕ → ℕ) → LiveRange → LiveRange
sent f r = record { number = f r.number; offset = r.offset }

sent_here : (f : ℕ → ℕ) (o : ℕ) (k : Kind) → IsSent f k → live_range o (left_tag k) ≡ option_map (sent f) (live_range o (right_tag k))
sent_here f o (Lives i j) e = ap (λ n. Some (record { number = n; offset = o })) e
sent_here f o (Frees s u) e = refl

sent_or : (f : ℕ → ℕ) (x y : Option LiveRange) → option_or (option_map (sent f) x) (option_map (sent f) y) ≡ option_map (sent f) (option_or x y)
sent_or f None y = refl
sent_or f (Some r) y = refl

pub sent_first : (f : ℕ → ℕ) (o : ℕ) (ps : List Pair) → AreSent f ps → first_live o (lefts ps) ≡ option_map (sent f) (first_live o (rights ps))
sent_first f o [] a = refl
sent_first f o (q ∷ ps) a =
    ap₂ option_or (sent_here f o q.kind (a q (inl refl))) (sent_first f (o + q.size) ps (λ x i. a x (inr i)))
    ∙ sent_or f (live_range o (right_tag q.kind)) (first_live (o + q.size) (rights ps))

pub sent_last : (f : ℕ → ℕ) (o : ℕ) (ps : List Pair) → AreSent f ps → last_live o (lefts ps) ≡ option_map (sent f) (last_live o (rights ps))
sent_last f o [] a = refl
sent_last f o (q ∷ ps) a =
    ap₂ option_or (sent_last f (o + q.size) ps (λ x i. a x (inr i))) (sent_here f o q.kind (a q (inl refl)))
    ∙ sent_or f (last_live (o + q.size) (rights ps)) (live_range o (right_tag q.kind))
