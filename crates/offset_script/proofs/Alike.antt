-- Two states that differ only in numbers, and in stamps of the same order in each class, return the same answers.
use Rattle.offset_script.proofs.Common.{◌≡◌, ℕ, zero, suc, ◌+◌, ◌-◌, ◌*◌, ◌<◌, ◌≤◌, true, ◌⊎◌, List, [], ◌∷◌, ◌++◌, map, Option, None, nat_eq, nat_lt, refl, sym, ap, ap₂, subst, subst₂, ⊎_elim, ◌∙◌}
use Rattle.offset_script.proofs.Common.{inl, inr, arith, lt-ltb, le-ltb, sum, Command, Free, Block, block, has_number, total, Place, fits, chosen_place, place_of, coalesce, State, Answer, Outcome}
use Rattle.offset_script.proofs.Common.{step, answers, request, grant, grant_or_refuse, returns_only, leaves, release, size_at, report, reset, extend, stamp_of_call, padding_to, rows_below, cases_lt}
use Rattle.offset_script.proofs.{Common.nat_tests, Common.renumber, Common.raise_number, Members.IsIn, Members.in_parts, Tests.if_same}
use Rattle.offset_script.proofs.Pairs.{Kind, Lives, Frees, Pair, pair, left_tag, right_tag, left, right, lefts, rights, AreAgreed, AreAllAgreed, IsSameOrder, IsSamePlace, neither, both, same_total}
use Rattle.offset_script.proofs.Pairs.{same_short, same_units, same_free_sizes, same_refusal, both_coalesced, same_place_of, same_chosen, pairs_granted, in_granted, lefts_granted, rights_granted}
use Rattle.offset_script.specs.declared.scripts.Command.TheVariants as command
use Rattle.offset_script.specs.Machine as machine

-- Numbers are changed by r, and stamps are below x and below y.
abbrev pub IsMatched : (ℕ → ℕ) → ℕ → ℕ → Kind → Type 0
IsMatched r x y (Lives j j') = (k : ℕ) → nat_eq k j ≡ nat_eq (r k) j'
IsMatched r x y (Frees s s') = (s < x) × (s' < y)

-- s and t return the same answers, except that grant numbers of s are those of t with d added; r maps numbers of s to
-- those of t
pub record IsAlike (r : ℕ → ℕ) (d : ℕ) (s t : State) : Type 0 where
  pub limit : s.limit ≡ t.limit
  pub pairs : List Pair
  pub left_blocks : s.blocks ≡ lefts pairs
  pub right_blocks : t.blocks ≡ rights pairs
  pub matched : (q : Pair) → IsIn q pairs → IsMatched r (2 * (s.calls + 1)) (2 * (t.calls + 1)) q.kind
  pub agree : AreAllAgreed pairs
  pub grants : s.grants ≡ t.grants + d
  pub past : (k : ℕ) → k ≤ s.grants → r k ≤ t.grants
  pub future : (k : ℕ) → s.grants < k → r k + d ≡ k

-- what a call adds: the live block of the next grant, and free blocks with stamps of this call
abbrev pub IsFreshKind : ℕ → ℕ → ℕ → ℕ → Kind → Type 0
IsFreshKind g h x y (Lives j j') = (j ≡ g + 1) × (j' ≡ h + 1)
IsFreshKind g h x y (Frees s s') = (e : ℕ) × (e < 2) × (s ≡ 2 * (x + 1) + e) × (s' ≡ 2 * (y + 1) + e)

fresh_order : (x y s u t v a b : ℕ) → s ≡ 2 * (x + 1) + a → u ≡ 2 * (y + 1) + a → t ≡ 2 * (x + 1) + b → v ≡ 2 * (y + 1) + b → nat_lt s t ≡ nat_lt u v
fresh_order x y s u t v a b m m' n n' = search (arith, cases_lt, lt-ltb, le-ltb)

old_before_fresh : (r : ℕ → ℕ) (g h x y : ℕ) (a b : Kind) → IsMatched r (2 * (x + 1)) (2 * (y + 1)) a → IsFreshKind g h x y b → IsSameOrder a b
old_before_fresh r g h x y (Frees s u) (Frees t v) m n = lt-ltb s t (omega arith) ∙ sym (lt-ltb u v (omega arith))
old_before_fresh r g h x y a b m n = tt

fresh_after_old : (r : ℕ → ℕ) (g h x y : ℕ) (a b : Kind) → IsFreshKind g h x y a → IsMatched r (2 * (x + 1)) (2 * (y + 1)) b → IsSameOrder a b
fresh_after_old r g h x y (Frees s u) (Frees t v) m n = le-ltb s t (omega arith) ∙ sym (le-ltb u v (omega arith))
fresh_after_old r g h x y a b m n = tt

both_fresh : (g h x y : ℕ) (a b : Kind) → IsFreshKind g h x y a → IsFreshKind g h x y b → IsSameOrder a b
both_fresh g h x y (Frees s u) (Frees t v) m n = fresh_order x y s u t v m.0 n.0 m.2 m.3 n.2 n.3
both_fresh g h x y a b m n = tt

-- a pair that a call leaves is matched at the next call
pub matched_in_new : (r : ℕ → ℕ) (d g h x y : ℕ) → g ≡ h + d → ((k : ℕ) → k ≤ g → r k ≤ h) → ((k : ℕ) → g < k → r k + d ≡ k)
    → (a : Kind) → IsMatched r (2 * (x + 1)) (2 * (y + 1)) a ⊎ IsFreshKind g h x y a → IsMatched r (2 * (x + 1 + 1)) (2 * (y + 1 + 1)) a
matched_in_new r d g h x y e past future (Lives j j') (inl m) = m
matched_in_new r d g h x y e past future (Lives j j') (inr m) = search (arith, cases_lt, nat_tests)
matched_in_new r d g h x y e past future (Frees s u) (inl m) = omega arith
matched_in_new r d g h x y e past future (Frees s u) (inr m) = omega arith

-- what a call leaves: old pairs, and what is fresh
abbrev pub IsLeft : (r : ℕ → ℕ) (d : ℕ) (s t : State) → IsAlike r d s t → List Pair → Type 0
IsLeft r d s t a p = (q : Pair) → IsIn q p → IsIn q a.pairs ⊎ IsFreshKind s.grants t.grants s.calls t.calls q.kind

pub agree_in_new : (r : ℕ → ℕ) (d : ℕ) (s t : State) (a : IsAlike r d s t) (x y : Pair) → IsIn x a.pairs ⊎ IsFreshKind s.grants t.grants s.calls t.calls x.kind
    → IsIn y a.pairs ⊎ IsFreshKind s.grants t.grants s.calls t.calls y.kind → AreAgreed x y
agree_in_new r d s t a x y (inl i) (inl j) = a.agree x y i j
agree_in_new r d s t a x y (inl i) (inr f) = λ same. old_before_fresh r s.grants t.grants s.calls t.calls x.kind y.kind (a.matched x i) f
agree_in_new r d s t a x y (inr f) (inl j) = λ same. fresh_after_old r s.grants t.grants s.calls t.calls x.kind y.kind f (a.matched y j)
agree_in_new r d s t a x y (inr f) (inr f') = λ same. both_fresh s.grants t.grants s.calls t.calls x.kind y.kind f f'

pub either : (r : ℕ → ℕ) (d : ℕ) (s t : State) (a : IsAlike r d s t) (q : Pair) → IsIn q a.pairs ⊎ IsFreshKind s.grants t.grants s.calls t.calls q.kind
    → IsMatched r (2 * (s.calls + 1)) (2 * (t.calls + 1)) q.kind ⊎ IsFreshKind s.grants t.grants s.calls t.calls q.kind
either r d s t a q (inl i) = inl (a.matched q i)
either r d s t a q (inr f) = inr f

pub past_in_new : (r : ℕ → ℕ) (d x y g h k : ℕ) → ((k : ℕ) → k ≤ x → r k ≤ y) → ((k : ℕ) → x < k → r k + d ≡ k) → y ≤ h → g ≡ h + d → k ≤ g → r k ≤ h
past_in_new r d x y g h k past future from e l = search (arith, cases_lt)

-- A call that leaves such pairs keeps the states alike.
pub keeps_alike : (r : ℕ → ℕ) (d : ℕ) (s t : State) → (a : IsAlike r d s t) → (p : List Pair) (g h : ℕ) (bs cs : List Block) → bs ≡ lefts p → cs ≡ rights p → IsLeft r d s t a p
    → s.grants ≤ g → t.grants ≤ h → g ≡ h + d
    → IsAlike r d (record { limit = s.limit; blocks = bs; calls = s.calls + 1; grants = g }) (record { limit = t.limit; blocks = cs; calls = t.calls + 1; grants = h })
keeps_alike r d s t a p g h bs cs on_left on_right each from from' e =
    let matched = λ (q : Pair) (i : IsIn q p). matched_in_new r d s.grants t.grants s.calls t.calls a.grants a.past a.future q.kind (either r d s t a q (each q i)) in
    let agree = λ (x y : Pair) (i : IsIn x p) (j : IsIn y p). agree_in_new r d s t a x y (each x i) (each y j) in
    let past = λ (k : ℕ) (l : k ≤ g). past_in_new r d s.grants t.grants g h k a.past a.future from' e l in
    let future = λ (k : ℕ) (l : g < k). a.future k (omega arith) in
    record { limit = a.limit; pairs = p; left_blocks = on_left; right_blocks = on_right; matched = matched; agree = agree; grants = e; past = past; future = future }

-- the same answer, except for the number of a grant, and states that are alike again
pub record IsSameOutcome (r : ℕ → ℕ) (d : ℕ) (o p : Outcome) : Type 0 where
  pub answer : o.answer ≡ raise_number d p.answer
  pub state : IsAlike r d o.state p.state

pub same_quiet : (r : ℕ → ℕ) (d : ℕ) (s t : State) → IsAlike r d s t → (x y : Answer) → x ≡ raise_number d y → IsSameOutcome r d (returns_only s x) (returns_only t y)
same_quiet r d s t a x y e =
    record { answer = e; state = keeps_alike r d s t a a.pairs s.grants t.grants s.blocks t.blocks a.left_blocks a.right_blocks (λ q i. inl i) (omega arith) (omega arith) a.grants }

pub same_leaves : (r : ℕ → ℕ) (d : ℕ) (s t : State) (a : IsAlike r d s t) (x y : Answer) (p : List Pair) (bs cs : List Block) → x ≡ raise_number d y → bs ≡ lefts p → cs ≡ rights p → IsLeft r d s t a p
    → IsSameOutcome r d (leaves s bs x) (leaves t cs y)
same_leaves r d s t a x y p bs cs e on_left on_right each = record { answer = e; state = keeps_alike r d s t a p s.grants t.grants bs cs on_left on_right each (omega arith) (omega arith) a.grants }

-- a grant
pub fresh_kinds : (g h x y : ℕ) (q : Pair) → (q.kind ≡ Frees (2 * (x + 1)) (2 * (y + 1))) ⊎ (q.kind ≡ Lives (g + 1) (h + 1)) ⊎ (q.kind ≡ Frees (2 * (x + 1) + 1) (2 * (y + 1) + 1))
    → IsFreshKind g h x y q.kind
fresh_kinds g h x y q (inl e) = subst (IsFreshKind g h x y) (sym e) (0, omega arith, omega arith, omega arith)
fresh_kinds g h x y q (inr (inl e)) = subst (IsFreshKind g h x y) (sym e) (refl, refl)
fresh_kinds g h x y q (inr (inr e)) = subst (IsFreshKind g h x y) (sym e) (1, omega arith, omega arith, omega arith)

same_grant : (r : ℕ → ℕ) (d : ℕ) (s t : State) (a : IsAlike r d s t) (n padding : ℕ) (xs : List Pair) (q : Pair) (ys : List Pair) → a.pairs ≡ xs ++ q ∷ ys
    → IsSameOutcome r d (grant s n padding (record { before = lefts xs; block = left q; after = lefts ys })) (grant t n padding (record { before = rights xs; block = right q; after = rights ys }))
same_grant r d s t a n padding xs q ys e =
    let front = Frees (2 * (s.calls + 1)) (2 * (t.calls + 1)) in
    let live = Lives (s.grants + 1) (t.grants + 1) in
    let rest = Frees (2 * (s.calls + 1) + 1) (2 * (t.calls + 1) + 1) in
    let kept = λ (x : Pair) (i : IsIn x (pairs_granted xs q ys n padding front live rest)). ⊎_elim {C = IsIn x a.pairs ⊎ IsFreshKind s.grants t.grants s.calls t.calls x.kind}
    (λ h. inl (subst (IsIn x) (sym e) h)) (λ f. inr (fresh_kinds s.grants t.grants s.calls t.calls x f)) (in_granted x xs q ys n padding front live rest i) in
    let answer = ap₂ machine.Grant (omega (arith, a.grants)) (ap (λ n. n + padding) (same_total xs)) in
    let state = keeps_alike r d s t a (pairs_granted xs q ys n padding front live rest) (s.grants + 1) (t.grants + 1) _ _ (sym (lefts_granted xs q ys n padding _ _ _ _ _ _))
    (sym (rights_granted xs q ys n padding _ _ _ _ _ _)) kept (omega arith) (omega arith) (omega (arith, a.grants)) in
    record { answer = answer; state = state }

pub same_granted : (r : ℕ → ℕ) (d : ℕ) (s t : State) (a : IsAlike r d s t) (n : ℕ) (P : Pair → Type 0) (padding_at : ℕ → ℕ) (o o' : Option Place) → IsSamePlace P a.pairs o o'
    → IsSameOutcome r d (grant_or_refuse s n padding_at o) (grant_or_refuse t n padding_at o')
same_granted r d s t a n P padding_at None None neither = same_quiet r d s t a _ _ refl
same_granted r d s t a n P padding_at o o' (both xs q ys e f) =
    subst (λ x. IsSameOutcome r d (grant s n (padding_at (total (lefts xs))) (record { before = lefts xs; block = left q; after = lefts ys }))
    (grant t n (padding_at x) (record { before = rights xs; block = right q; after = rights ys }))) (same_total xs)
    (same_grant r d s t a n (padding_at (total (lefts xs))) xs q ys e)

same_request : (r : ℕ → ℕ) (d : ℕ) (s t : State) (a : IsAlike r d s t) (spare needed n : ℕ) (padding_at : ℕ → ℕ)
    → IsSameOutcome r d (request s spare needed n padding_at) (request t spare needed n padding_at)
same_request r d s t a spare needed n padding_at = if_same (IsSameOutcome r d) _ _ _ _ _ _ (same_short s t a.pairs a.limit a.left_blocks a.right_blocks spare) (λ e. same_quiet r d s t a _ _ refl)
    (subst₂ (λ x y. IsSameOutcome r d (grant_or_refuse s n padding_at (chosen_place needed x)) (grant_or_refuse t n padding_at (chosen_place needed y))) (sym a.left_blocks) (sym a.right_blocks)
    (same_granted r d s t a n (λ x. fits needed (left x) ≡ true) padding_at _ _ (same_chosen needed a.pairs a.agree)))

-- the place of a grant
same_number : (r : ℕ → ℕ) (x y k : ℕ) (q : Kind) → IsMatched r x y q → has_number k (left_tag q) ≡ has_number (r k) (right_tag q)
same_number r x y k (Lives i j) m = m k
same_number r x y k (Frees s u) m = refl

pub same_placed : (r : ℕ → ℕ) (d : ℕ) (s t : State) (a : IsAlike r d s t) (k : ℕ) → IsSamePlace (λ q. Unit {0}) a.pairs (place_of k s.blocks) (place_of (r k) t.blocks)
same_placed r d s t a k = subst₂ (λ x y. IsSamePlace (λ q. Unit {0}) a.pairs (place_of k x) (place_of (r k) y)) (sym a.left_blocks) (sym a.right_blocks)
    (same_place_of k (r k) a.pairs (λ q i. same_number r _ _ k q.kind (a.matched q i)))

same_coalesce : (r : ℕ → ℕ) (d : ℕ) (s t : State) (a : IsAlike r d s t) (x : Answer) (ps : List Pair) (n : ℕ) (qs : List Pair) → x ≡ raise_number d x
    → ((q : Pair) → IsIn q ps ⊎ IsIn q qs → IsIn q a.pairs)
    → IsSameOutcome r d (leaves s (coalesce (lefts ps) n (stamp_of_call s) (lefts qs)) x) (leaves t (coalesce (rights ps) n (stamp_of_call t) (rights qs)) x)
same_coalesce r d s t a x ps n qs e old =
    let c = both_coalesced ps n (2 * (s.calls + 1) + 1) (2 * (t.calls + 1) + 1) qs in
    same_leaves r d s t a x x c.pairs _ _ e c.on_left c.on_right (λ q i. elim (c.old q i) [ inl h ↦ inl (old q h) | inr h ↦ inr (fresh_kinds s.grants t.grants s.calls t.calls q (inr (inr h))) ])

same_released : (r : ℕ → ℕ) (d : ℕ) (s t : State) (a : IsAlike r d s t) (o o' : Option Place) → IsSamePlace (λ q. Unit {0}) a.pairs o o' → IsSameOutcome r d (release s o) (release t o')
same_released r d s t a None None neither = same_quiet r d s t a _ _ refl
same_released r d s t a o o' (both xs q ys e f) = same_coalesce r d s t a machine.Freed xs q.size ys refl (λ x i. subst (IsIn x) (sym e) (in_parts x xs q ys i))

same_size : (r : ℕ → ℕ) (d : ℕ) (s t : State) (a : IsAlike r d s t) (o o' : Option Place) → IsSamePlace (λ q. Unit {0}) a.pairs o o' → size_at o ≡ raise_number d (size_at o')
same_size r d s t a None None neither = refl
same_size r d s t a o o' (both xs q ys e f) = refl

same_report : (r : ℕ → ℕ) (d : ℕ) (s t : State) (a : IsAlike r d s t) → report s ≡ raise_number d (report t)
same_report r d s t a = search (arith, sum, same_short, same_free_sizes)

same_reset : (r : ℕ → ℕ) (d : ℕ) (s t : State) (a : IsAlike r d s t) → IsSameOutcome r d (reset s) (reset t)
same_reset r d s t a =
    let q = pair (total s.blocks) (Frees (2 * (s.calls + 1) + 1) (2 * (t.calls + 1) + 1)) in
    same_leaves r d s t a _ _ (q ∷ []) _ _ refl refl (ap (λ n. block n (Free (stamp_of_call t)) ∷ []) (sym (same_units s t a.pairs a.limit a.left_blocks a.right_blocks)))
    (λ x i. inr (fresh_kinds s.grants t.grants s.calls t.calls x (inr (inr (⊎_elim (λ e. ap (λ (z : Pair). z.kind) e) (λ h. absurd h) i)))))

same_extend : (r : ℕ → ℕ) (d : ℕ) (s t : State) (a : IsAlike r d s t) (more : ℕ) → IsSameOutcome r d (extend more s) (extend more t)
same_extend r d s t a zero = same_quiet r d s t a _ _ refl
same_extend r d s t a (suc more) = if_same (IsSameOutcome r d) _ _ _ _ _ _ (same_refusal s t a.pairs a.limit a.left_blocks a.right_blocks (suc more)) (λ e. same_quiet r d s t a _ _ refl)
    (subst₂ (λ x y. IsSameOutcome r d (leaves s (coalesce x (suc more) (stamp_of_call s) []) machine.Extended) (leaves t (coalesce y (suc more) (stamp_of_call t) []) machine.Extended))
    (sym a.left_blocks) (sym a.right_blocks)
    (same_coalesce r d s t a machine.Extended a.pairs (suc more) [] refl (λ q i. ⊎_elim (λ h. h) (λ h. absurd h) i)))

pub alike_step : (r : ℕ → ℕ) (d : ℕ) (c : Command) (s t : State) → IsAlike r d s t → IsSameOutcome r d (step c s) (step (renumber r c) t)
alike_step r d (command.Alloc n) s t a = same_request r d s t a 1 n n (λ offset. 0)
alike_step r d (command.Free k) s t a = same_released r d s t a _ _ (same_placed r d s t a k)
alike_step r d (command.Size k) s t a = same_quiet r d s t a _ _ (same_size r d s t a _ _ (same_placed r d s t a k))
alike_step r d command.Report s t a = same_quiet r d s t a _ _ (same_report r d s t a)
alike_step r d command.Full s t a = same_quiet r d s t a _ _ (ap (λ l. machine.Full (rows_below 256 l)) (same_free_sizes s t a.pairs a.limit a.left_blocks a.right_blocks))
alike_step r d command.Reset s t a = same_reset r d s t a
alike_step r d (command.Align n align) s t a = if_same (IsSameOutcome r d) _ _ _ _ _ _ refl (λ e. same_request r d s t a 1 n n (λ offset. 0))
    (if_same (IsSameOutcome r d) _ _ _ _ _ _ refl (λ e. same_quiet r d s t a _ _ refl) (same_request r d s t a 2 (n + align - 1) n (padding_to align)))
alike_step r d (command.Extend more) s t a = same_extend r d s t a more

-- alike states return the same answers to any commands
pub alike_answers : (r : ℕ → ℕ) (d : ℕ) (cs : List Command) (s t : State) → IsAlike r d s t → answers cs s ≡ map (raise_number d) (answers (map (renumber r) cs) t)
alike_answers r d [] s t a = refl
alike_answers r d (c ∷ cs) s t a = let o = alike_step r d c s t a in ap₂ (λ x xs. x ∷ xs) o.answer (alike_answers r d cs _ _ o.state)
