-- A nest leaves no trace.
use Rattle.offset_script.proofs.Common.{length, ◌≡◌, ◌≢◌, ℕ, ◌+◌, ◌-◌, ◌*◌, ◌<◌, ◌≤◌, Bool, true, false, ◌⊎◌, List, [], ◌∷◌, ◌++◌, Option, Some, None, nat_eq, nat_lt, nat_le, if◌then◌else◌, refl, sym}
use Rattle.offset_script.proofs.Common.{ap, subst, ◌∙◌, inl, inr, arith, leb-false, le-leb, ne_eqb, cases_lt, lt-leb, and_parts, Command, up, down, max_size, padding_to, Live, Free, is_free, total}
use Rattle.offset_script.proofs.Common.{Place, chosen_place, place_of, coalesce, State, Answer, Outcome, start, step, after, answers, request, grant, grant_or_refuse, is_short_of, returns_only}
use Rattle.offset_script.proofs.Common.{leaves, release, size_at, stamp_of_call, rows_below, IsGrant, KeepsSpace, IsNest, number_without, answers_renumbered, cond_both}
use Rattle.offset_script.proofs.{Members.IsIn, Members.in_map, Pairs.Pair, Pairs.Kind, Pairs.Lives, Pairs.Frees, Pairs.left_tag, Pairs.right_tag, Pairs.left, Pairs.right, Pairs.lefts, Pairs.rights}
use Rattle.offset_script.proofs.{Alike.IsAlike, Alike.IsMatched, Alike.alike_answers, Lists.in_count, Lists.count, Found.chosen_at, Well.IsWell, Well.well_start, Well.well_after, Well.well_step}
use Rattle.offset_script.proofs.{Similar.HasSameNumber, Similar.AreSimilar, Similar.similar_refl, Similar.similar_sym, Similar.similar_trans, Restored.IsRestored, Restored.restored}
use Rattle.offset_script.specs.Totals.{requested_units}
use Rattle.offset_allocator.proofs.Classes.{fits_size}
use Rattle.offset_script.specs.declared.scripts.Command.TheVariants as command
use Rattle.offset_script.specs.Machine as machine
use Rattle.offset_script.specs.Histories as history

-- What a call does that keeps the space: it only returns an answer, or grants, or releases.

-- an answer that is neither a grant nor a release
abbrev pub IsQuiet : Answer → Type 0
IsQuiet (machine.Grant k offset) = ⊥
IsQuiet machine.Freed = ⊥
IsQuiet a = Unit {0}

-- a grant of n units, after padding units, of the block that is chosen for needed units
pub record IsGranted (n : ℕ) (s : State) (o : Outcome) : Type 0 where
  pub needed : ℕ
  pub padding : ℕ
  pub place : Place
  pub room : length s.blocks + 1 < s.limit
  pub chose : chosen_place needed s.blocks ≡ Some place
  pub within : padding + n ≤ place.block.size
  pub is : o ≡ grant s n padding place

-- a release of a live grant
pub record IsReleased (c : Command) (s : State) (o : Outcome) : Type 0 where
  pub number : ℕ
  pub frees : c ≡ command.Free number
  pub place : Place
  pub found : place_of number s.blocks ≡ Some place
  pub is : o ≡ leaves s (coalesce place.before place.block.size (stamp_of_call s) place.after) machine.Freed

-- such an answer, with no other change
pub record IsOnly (s : State) (o : Outcome) : Type 0 where
  pub answer : Answer
  pub quiet : IsQuiet answer
  pub is : o ≡ returns_only s answer

-- one of the three
abbrev pub Does : Command → State → Outcome → Type 0
Does c s o = IsOnly s o ⊎ (IsGranted (requested_units c) s o ⊎ IsReleased c s o)

only : (c : Command) (s : State) (a : Answer) → IsQuiet a → Does c s (returns_only s a)
only c s a q = inl (record { answer = a; quiet = q; is = refl })

does_grant : (c : Command) (s : State) → length s.blocks + 1 < s.limit → (needed : ℕ) (padding_at : ℕ → ℕ) → ((o : ℕ) → padding_at o + requested_units c ≤ needed) → (p : Option Place)
    → chosen_place needed s.blocks ≡ p → Does c s (grant_or_refuse s (requested_units c) padding_at p)
does_grant c s room needed padding_at h None e = only c s machine.Refused tt
does_grant c s room needed padding_at h (Some p) e =
    let f = fits_size needed p.block.size (and_parts (is_free p.block.tag) (nat_le (up needed) (down p.block.size)) (chosen_at needed s.blocks p e).1).1 in
    let within : padding_at (total p.before) + requested_units c ≤ p.block.size = omega (arith, h (total p.before)) in
    inr (inl (record { needed = needed; padding = padding_at (total p.before); place = p; room = room; chose = e; within = within; is = refl }))

does_request : (c : Command) (s : State) (spare : ℕ) → 1 ≤ spare → (needed : ℕ) (padding_at : ℕ → ℕ) → ((o : ℕ) → padding_at o + requested_units c ≤ needed)
    → Does c s (request s spare needed (requested_units c) padding_at)
does_request c s spare some needed padding_at h = search (arith, cond_both, needed, only, does_grant, leb-false, length)

does_release : (s : State) (k : ℕ) (o : Option Place) → place_of k s.blocks ≡ o → Does (command.Free k) s (release s o)
does_release s k None e = only (command.Free k) s machine.Gone tt
does_release s k (Some p) e = inr (inr (record { number = k; frees = refl; place = p; found = e; is = refl }))

pub quiet_size : (o : Option Place) → IsQuiet (size_at o)
quiet_size None = tt
quiet_size (Some p) = tt

pub quiet_report : (b : Bool) (x y : ℕ) → IsQuiet (if b then machine.Report 0 0 else machine.Report x y)
quiet_report true x y = tt
quiet_report false x y = tt

padding_fits : (n align o : ℕ) → 1 < align → padding_to align o + n ≤ n + align - 1
padding_fits n align o h = omega arith

pub does : (c : Command) (s : State) → KeepsSpace c → Does c s (step c s)
does (command.Alloc n) s k = does_request (command.Alloc n) s 1 (omega arith) n (λ offset. 0) (λ o. omega arith)
does (command.Free k) s h = does_release s k (place_of k s.blocks) refl
does (command.Size k) s h = only (command.Size k) s _ (quiet_size (place_of k s.blocks))
does command.Report s h = only command.Report s _ (quiet_report (is_short_of 1 s) _ _)
does command.Full s h = only command.Full s (machine.Full (rows_below 256 (machine.free_sizes s.blocks))) tt
does command.Reset s h = absurd h
does (command.Align n align) s h =
    cond_both (nat_le align 1) _ _ (Does (command.Align n align) s) (λ e. does_request (command.Align n align) s 1 (omega arith) n (λ offset. 0) (λ o. omega arith))
    (λ e. cond_both (nat_lt max_size (n + align - 1)) _ _ (Does (command.Align n align) s) (λ f. only (command.Align n align) s machine.Refused tt)
    (λ f. does_request (command.Align n align) s 2 (omega arith) (n + align - 1) (padding_to align) (λ o. padding_fits n align o (leb-false align 1 e))))
does (command.Extend more) s h = absurd h

-- what a nest keeps
pub record AreTraceless (s t : State) : Type 0 where
  pub limit : t.limit ≡ s.limit
  pub blocks : AreSimilar s.blocks t.blocks
  pub grants : s.grants ≤ t.grants

traceless_trans : (s t u : State) → AreTraceless s t → AreTraceless t u → AreTraceless s u
traceless_trans s t u a b = record { limit = b.limit ∙ a.limit; blocks = similar_trans s.blocks t.blocks u.blocks a.blocks b.blocks; grants = omega (arith, a.grants, b.grants) }

pub after-append : (xs ys : List Command) (s : State) → after (xs ++ ys) s ≡ after ys (after xs s)
after-append [] ys s = refl
after-append (c ∷ xs) ys s = after-append xs ys (step c s).state

-- a call that neither grants nor releases
traceless_quiet : (c : Command) (s : State) → KeepsSpace c → ((k : ℕ) → IsGrant (step c s).answer k → ⊥) → (step c s).answer ≢ machine.Freed → AreTraceless s (step c s).state
traceless_quiet c s k g f = elim (does c s k) [
  | inl q ↦ subst (λ (x : Outcome). AreTraceless s x.state) (sym q.is) (record { limit = refl; blocks = similar_refl s.blocks; grants = omega arith })
  | inr (inl d) ↦ absurd (g (s.grants + 1) (_, ap (λ (x : Outcome). x.answer) d.is))
  | inr (inr d) ↦ absurd (f (ap (λ (x : Outcome). x.answer) d.is))
]

granted_is : (c : Command) (s : State) (k : ℕ) → KeepsSpace c → IsGrant (step c s).answer k → IsGranted (requested_units c) s (step c s) × (k ≡ s.grants + 1)
granted_is c s k h g = elim (does c s h) [
  | inl q ↦ absurd (subst IsQuiet (ap (λ (x : Outcome). x.answer) (sym q.is) ∙ g.1) q.quiet)
  | inr (inl d) ↦ let e = ap (λ (x : Outcome). x.answer) d.is in (d, cc)
  | inr (inr d) ↦ let e = ap (λ (x : Outcome). x.answer) d.is in absurd cc
]

-- a grant, a nest, and its release
traceless_release : (s t : State) (k : ℕ) → (r : IsRestored s t) → k ≡ s.grants + 1 → s.limit ≡ t.limit → s.grants ≤ t.grants → AreTraceless s (step (command.Free k) t).state
traceless_release s t k r e l g = subst (λ o. AreTraceless s (release t o).state) (sym (ap (λ j. place_of j t.blocks) e ∙ r.found)) (record { limit = sym l; blocks = r.similar; grants = g })

traceless_pair : (c : Command) (s : State) (k : ℕ) → IsWell s → KeepsSpace c → IsGrant (step c s).answer k → (t : State) → IsWell t → AreTraceless (step c s).state t
    → AreTraceless s (step (command.Free k) t).state
traceless_pair c s k w h g t v m =
    let d = granted_is c s k h g in
    let p = d.0.place in
    let found = chosen_at d.0.needed s.blocks p d.0.chose in
    let m' : AreTraceless (grant s (requested_units c) d.0.padding p).state t = subst (λ (o : Outcome). AreTraceless o.state t) d.0.is m in
    traceless_release s t k (restored s w p d.0.needed (requested_units c) d.0.padding found.0 found.1 found.2 d.0.within t v m'.blocks) d.1 (sym m'.limit)
    (let l : s.grants + 1 ≤ t.grants = m'.grants in omega arith)

pub traceless : {s : State} {cs : List Command} → IsNest s cs → IsWell s → AreTraceless s (after cs s)
traceless (history.done {s = s}) w = record { limit = refl; blocks = similar_refl s.blocks; grants = omega arith }
traceless (history.quiet {s = s} {c = c} {cs = cs} h g f rest) w = traceless_trans s (step c s).state (after cs (step c s).state) (traceless_quiet c s h g f) (traceless rest (well_step c s w))
traceless (history.paired {s = s} {c = c} {k = k} {inner = inner} {outer = outer} h g i o) w =
    let s1 = (step c s).state in
    let w1 : IsWell s1 = well_step c s w in
    let s2 = after inner s1 in
    let w2 : IsWell s2 = well_after inner s1 w1 in
    let s3 = (step (command.Free k) s2).state in
    let same : after (inner ++ command.Free k ∷ []) s1 ≡ s3 = after-append inner (command.Free k ∷ []) s1 in
    let a : AreTraceless s s3 = traceless_pair c s k w h g s2 w2 (traceless i w1) in
    let b : AreTraceless s3 (after outer s3) = subst (λ x. AreTraceless x (after outer x)) same (traceless o (subst IsWell (sym same) (well_step (command.Free k) s2 w2))) in
    subst (AreTraceless s) (sym (after-append inner (command.Free k ∷ outer) s1)) (traceless_trans s s3 (after outer s3) a b)

-- numbers after grants that are left out
pub number_without_cases : (g j k : ℕ) → ((k ≤ g) × (number_without g j k ≡ k))
    ⊎ (((g < k) × (k ≤ g + j) × (number_without g j k ≡ 0)) ⊎ ((g + j < k) × (number_without g j k ≡ k - j)))
number_without_cases g j k = search (arith, cases_lt, nat_le, lt-leb, le-leb)

-- the same number, where no grants are left out
pub number_without_none : (g k : ℕ) → number_without g 0 k ≡ k
number_without_none g k = search (arith, number_without_cases)

number_without_kept : (g j i k : ℕ) → 1 ≤ i → i ≤ g → nat_eq k i ≡ nat_eq (number_without g j k) i
number_without_kept g j i k one most = search (arith, number_without_cases, nat_eq, ne_eqb)

pub number_without_past : (g j k : ℕ) → k ≤ g + j → number_without g j k ≤ g
number_without_past g j k l = search (arith, number_without_cases)

pub number_without_future : (g j k : ℕ) → g + j < k → number_without g j k + j ≡ k
number_without_future g j k l = elim (number_without_cases g j k) [ inl h ↦ absurd (omega arith) | inr (inl h) ↦ absurd (omega arith) | inr (inr h) ↦ omega arith ]

matched_kind : (s t : State) → IsWell s → IsWell t → (j : ℕ) (q : Kind) → HasSameNumber q → 1 ≤ count (left_tag q) t.blocks → 1 ≤ count (right_tag q) s.blocks
    → IsMatched (number_without s.grants j) (2 * (t.calls + 1)) (2 * (s.calls + 1)) q
matched_kind s t w v j (Lives i i') e c d = λ k. let b = w.old (Live i') d in
    subst (λ x. nat_eq k x ≡ nat_eq (number_without s.grants j k) i') (sym e) (number_without_kept s.grants j i' k b.0 b.1)
matched_kind s t w v j (Frees x y) e c d = (v.old (Free x) c, w.old (Free y) d)

pub alike_after : (s t : State) → IsWell s → IsWell t → AreTraceless s t → IsAlike (number_without s.grants (t.grants - s.grants)) (t.grants - s.grants) t s
alike_after s t w v m =
    let p = similar_sym s.blocks t.blocks m.blocks in
    let on_left = λ (q : Pair) (i : IsIn q p.pairs). subst (λ bs. 1 ≤ count (left_tag q.kind) bs) (sym p.left_blocks) (in_count (left q) (lefts p.pairs) (in_map left q p.pairs i)) in
    let on_right = λ (q : Pair) (i : IsIn q p.pairs). subst (λ bs. 1 ≤ count (right_tag q.kind) bs) (sym p.right_blocks) (in_count (right q) (rights p.pairs) (in_map right q p.pairs i)) in
    let matched = λ (q : Pair) (i : IsIn q p.pairs). matched_kind s t w v (t.grants - s.grants) q.kind (p.numbers q i) (on_left q i) (on_right q i) in
    let past = λ (k : ℕ) (l : k ≤ t.grants). number_without_past s.grants (t.grants - s.grants) k (omega (arith, m.grants)) in
    let future = λ (k : ℕ) (l : t.grants < k). number_without_future s.grants (t.grants - s.grants) k (omega (arith, m.grants)) in
    let grants : t.grants ≡ s.grants + (t.grants - s.grants) = omega (arith, m.grants) in
    record { limit = m.limit; pairs = p.pairs; left_blocks = p.left_blocks; right_blocks = p.right_blocks; matched = matched; agree = p.agree; grants = grants; past = past; future = future }

pub nest_law : (size limit : ℕ) → 2 ≤ limit → (cs nest : List Command) → let s = after cs (start size limit) in
    IsNest s nest → (next : List Command) → answers next (after nest s) ≡ answers_renumbered s (after nest s) next
nest_law size limit h cs nest n =
    let s = after cs (start size limit) in
    let w : IsWell s = well_after cs (start size limit) (well_start size limit h) in
    let t = after nest s in
    λ more. alike_answers (number_without s.grants (t.grants - s.grants)) (t.grants - s.grants) more t s (alike_after s t w (well_after nest s w) (traceless n w))
