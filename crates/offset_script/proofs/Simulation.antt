-- The steps of a player are those of the plain machine, call by call.
use Rattle.offset_script.proofs.Common.{◌≡◌, ℕ, zero, suc, ◌+◌, ◌-◌, ◌%◌, ◌^◌, ◌<◌, ◌≤◌, Bool, List, [], ◌∷◌, ◌++◌, map, length, Option, Some, None, option_map, Result, Ok, Err, IfOk, slice_index_or}
use Rattle.offset_script.proofs.Common.{slice_set, get_or, if◌then◌else◌, IsTrue, refl, sym, ap, ap₂, subst, subst₂, ◌∙◌, inl, inr, arith, eq-eqb, ne_eqb, add-one, leb-true, length-append, append_assoc}
use Rattle.offset_script.proofs.Common.{append-nil, map-append, get_or-set_same, get_or-set_other, get_or_past, length-set, cases_eq, cases_lt, value, row, rows_below, count_of, Command}
use Rattle.offset_script.proofs.Common.{has_valid_alignment, State, Answer, step, start, row_view, View, Handle, IsWellFormed, kept_name, Takes, AreSteps, AreStepsFromFresh, IsKept, IfNamed, Stays}
use Rattle.offset_script.specs.Agreement.{IsAtState}
use Rattle.offset_script.proofs.{Common.AreLive, Common.IsFresh, Common.Frees, Common.Extends, Common.Resets, Well.IsWell}
use Rattle.std.proofs.{Math.ListN.get_or-append, Math.Seq.get_or-append_seam}
use Rattle.offset_allocator.specs.declared.reports.StorageReportFullRegion.{StorageReportFullRegion}
use Rattle.offset_allocator.specs.{declared.reports.StorageReportFull.StorageReportFull, View.free_sizes, Reporting.Reports.IsFullReport, Ranges.size_of}
use Rattle.offset_script.proofs.Agreed.{with_name, without_name, IsMatch, serve_agrees, aligned_agrees, extend_agrees, free_agrees, live_agrees, gone_agrees, size_gone_agrees, size_agrees}
use Rattle.offset_script.proofs.Agreed.{report_agrees, full_agrees, agrees_quiet, agrees_kept, alone_agrees, same_units}
use Rattle.offset_script.specs.declared.answers.FullRow.{FullRow}
use Rattle.offset_allocator.proofs.{Reading.used_live, Reading.size_is, Served.plain_serves, Served.aligned_serves}
use Rattle.offset_script.specs.declared.scripts.Command.TheVariants as command
use Rattle.offset_script.specs.Machine as machine

-- the name in a handle
abbrev handle_name : Handle → ℕ
handle_name h = h.name

-- the handles kept
pub kept_push : (hs : List (Option Handle)) (h : Handle) (k : ℕ) → kept_name (hs ++ Some h ∷ []) k ≡ with_name (length hs + 1) h.name (kept_name hs) k
kept_push hs h zero = rw (ne_eqb 0 (length hs + 1) (omega arith)) refl
kept_push hs h (suc k) = elim (cases_eq k (length hs)) [
  | inl e ↦ search (arith, option_map, get_or-append_seam, eq-eqb)
  | inr n ↦ elim (cases_lt k (length hs)) [
    | inl l ↦ search (arith, option_map, get_or-append, ne_eqb)
    | inr m ↦ let e = length-append hs (Some h ∷ []) in search (arith, option_map, ne_eqb, get_or_past)
  ]
]

-- a handle is removed
pub kept_set : (hs : List (Option Handle)) (k : ℕ) → k < length hs → (j : ℕ) → kept_name (slice_set hs k None) j ≡ without_name (suc k) (kept_name hs) j
kept_set hs k l zero = rw (ne_eqb 0 (suc k) (omega arith)) refl
kept_set hs k l (suc j) = search (arith, cases_eq, option_map, get_or, slice_set, get_or-set_same, eq-eqb, get_or-set_other, ne_eqb)

-- a clause of what a call returned, from another
pub if_ok : {A E : Type 0} {P Q : A → Type 0} (r : Result A E) → ((a : A) → P a → Q a) → IfOk r P → IfOk r Q
if_ok (Ok a) f p = f a p
if_ok (Err e) f p = tt

-- only numbers from 1 to that of the last handle have one
pub kept_within : (hs : List (Option Handle)) (k x : ℕ) → kept_name hs k ≡ Some x → (1 ≤ k) × (k - 1 < length hs)
kept_within hs zero x e = absurd (cc)
kept_within hs (suc k) x e = search (arith, cases_lt, length, option_map, get_or_past)

-- where no handle is left, no name is kept
pub none_kept : (hs : List (Option Handle)) → ((i : ℕ) → i < length hs → slice_index_or hs i None ≡ None) → (k : ℕ) → kept_name hs k ≡ None
none_kept hs none zero = refl
none_kept hs none (suc k) = search (arith, cases_lt, option_map, get_or_past)

-- what is so of a name that is kept, or where none is
pub if_none : (o : Option ℕ) (P : ℕ → Type 0) (Q : Type 0) → o ≡ None → Q → IfNamed o P Q
if_none None P Q e q = q
if_none (Some x) P Q e q = absurd (cc)

pub if_some : (o : Option ℕ) (x : ℕ) (P : ℕ → Type 0) (Q : Type 0) → o ≡ Some x → P x → IfNamed o P Q
if_some None x P Q e q = absurd (cc)
if_some (Some y) x P Q e q = subst P (let f : x ≡ y = cc in f) q

-- a reset that leaves no handle
pub reset_takes : (v w : View) (hs left : List (Option Handle)) → Resets v w → length left ≡ length hs → ((i : ℕ) → i < length left → slice_index_or left i None ≡ None)
    → Takes command.Reset v hs w left machine.Reset
reset_takes v w hs left r len none = (r, len, none_kept left none, refl)

-- the handles that represent a state are live
pub all_live : (v : View) (hs : List (Option Handle)) (s : State) → IsWell s → IsAtState v hs s → AreLive v hs
all_live v hs s ws p k x e = used_live x v (live_agrees v (kept_name hs) s p.formed ws p.agrees k x e)

-- the plain machine has this answer, and a view and handles represent the state that it leaves
abbrev pub Follows : Command → State → View → List (Option Handle) → Answer → Type 0
Follows c s w left a = (a ≡ (step c s).answer) × IsAtState w left (step c s).state

module _ (v w : View) (hs left : List (Option Handle)) (a : Answer) (s : State) (formed : IsWellFormed w) (ws : IsWell s) (p : IsAtState v hs s) where
  -- a request, whose grant is kept
  pub requested : (o : machine.Outcome) (r : Option Handle) → IsMatch w (kept_name hs) s.grants r o → IsKept r hs left a → (a ≡ o.answer) × IsAtState w left o.state
  requested o None m k = search (arith, agrees_kept, length)
  requested o (Some h) m k = search (arith, length, length-append, agrees_kept, with_name, kept_push)

  -- a question leaves all as it is
  asked : (c : Command) → (step c s).state ≡ record s { calls = s.calls + 1 } → Stays v hs w left → a ≡ (step c s).answer → Follows c s w left a
  asked c same e found = search (arith, agrees_quiet)

  -- a release of a live grant, whose handle is removed
  freed : (k x : ℕ) → kept_name hs (suc k) ≡ Some x → k < length hs → Frees x v w → left ≡ slice_set hs k None → a ≡ machine.Freed → Follows (command.Free (suc k)) s w left a
  freed k x e l f but is =
      let r = free_agrees v (kept_name hs) s p.formed ws p.agrees (suc k) x e w formed f in
      let agrees = agrees_kept w (without_name (suc k) (kept_name hs)) (kept_name left) _ (λ j. ap (λ z. kept_name z j) but ∙ kept_set hs k l j) r.1 in
      (is ∙ sym r.0, record { formed = formed; agrees = agrees; grants = ap length but ∙ length-set hs k None ∙ p.grants ∙ sym r.2 })

  -- the same, by the number of the grant
  released : (k x : ℕ) → kept_name hs k ≡ Some x → Frees x v w → left ≡ slice_set hs (k - 1) None → a ≡ machine.Freed → Follows (command.Free k) s w left a
  released zero x e f but is = absurd (cc)
  released (suc k) x e f but is =
      let same : suc k - 1 ≡ k = omega arith in
      freed k x e (let l = (kept_within hs (suc k) x e).1 in omega arith) f (but ∙ ap (λ i. slice_set hs i None) same) is

  -- a release by any number
  release_step : (k : ℕ) (o : Option ℕ) → kept_name hs k ≡ o → IfNamed o (λ x. Frees x v w × (left ≡ slice_set hs (k - 1) None) × (a ≡ machine.Freed)) (Stays v hs w left × (a ≡ machine.Gone))
      → Follows (command.Free k) s w left a
  release_step k None e t =
      let r = gone_agrees v (kept_name hs) s p.formed ws p.agrees k e in
      (t.1 ∙ sym r.0, subst₂ (λ u l. IsAtState u l (step (command.Free k) s).state) (sym t.0.0) (sym t.0.1) (record { formed = p.formed; agrees = r.1; grants = p.grants ∙ sym r.2 }))
  release_step k (Some x) e t = released k x e t.0 t.1 t.2

  -- a question for a size
  size_found : (k : ℕ) (o : Option ℕ) → kept_name hs k ≡ o → IfNamed o (λ x. a ≡ machine.Size (size_of x v)) (a ≡ machine.Gone) → a ≡ (step (command.Size k) s).answer
  size_found k None e t = t ∙ sym (size_gone_agrees v (kept_name hs) s p.formed ws p.agrees k e)
  size_found k (Some x) e t = t ∙ ap machine.Size (size_is x v) ∙ sym (size_agrees v (kept_name hs) s p.formed ws p.agrees k x e)

  -- more units, or a refusal
  extended : (more : ℕ) (done : Bool) → Extends more v w done → left ≡ hs → a ≡ (if done then machine.Extended else machine.Refused) → Follows (command.Extend more) s w left a
  extended more done e same is =
      let r = extend_agrees v (kept_name hs) s p.formed ws p.agrees more w done formed e in
      (is ∙ sym r.0, subst (λ l. IsAtState w l (step (command.Extend more) s).state) (sym same) (record { formed = formed; agrees = r.1; grants = p.grants ∙ sym r.2 }))

  -- the plain machine follows each command
  pub follows : (c : Command) → IsTrue (has_valid_alignment c) → Takes c v hs w left a → Follows c s w left a
  follows (command.Alloc n) power t = requested (step (command.Alloc n) s) t.0 (serve_agrees v (kept_name hs) s p.formed ws p.agrees 1 n n (λ offset. 0) w formed t.0 (plain_serves n v w t.0 t.1)) t.2
  follows (command.Free k) power t = release_step k (kept_name hs k) refl t
  follows (command.Size k) power t = asked (command.Size k) refl t.0 (size_found k (kept_name hs k) refl t.1)
  follows command.Report power t = asked command.Report refl t.0 (t.1 ∙ sym (report_agrees v (kept_name hs) s p.formed ws p.agrees))
  follows command.Full power t = asked command.Full refl t.0 (t.1 ∙ sym (full_agrees v (kept_name hs) s p.formed ws p.agrees))
  follows command.Reset power t =
      let blocks = ap (λ n. machine.block n (machine.Free (machine.stamp_of_call s)) ∷ []) (sym (same_units v (kept_name hs) s p.formed ws p.agrees) ∙ p.formed.whole) in
      let agrees = alone_agrees w t.0.name v.size (machine.stamp_of_call s) (kept_name left) (step command.Reset s).state (ap (λ (u : View). u.blocks) t.0.view) (ap (λ (u : View). u.bins) t.0.view)
      (p.agrees.limit ∙ sym (ap (λ (u : View). u.max_allocs) t.0.view)) blocks t.2 in
      (t.3, record { formed = formed; agrees = agrees; grants = t.1 ∙ p.grants })
  follows (command.Align n align) power t =
      requested (step (command.Align n align) s) t.0
      (aligned_agrees v (kept_name hs) s p.formed ws p.agrees n align (leb-true 1 align power) w formed t.0 (aligned_serves n align v w t.0 t.1))
      t.2
  follows (command.Extend more) power t = extended more t.0 t.1 t.2 t.3

-- a fresh space represents the first state
pub fresh_represents : (w : View) → IsWellFormed w → (size limit : ℕ) (hs : List (Option Handle)) → IsFresh size limit w → hs ≡ [] → IsAtState w hs (start size limit)
fresh_represents w formed size limit hs f e =
    let agrees = alone_agrees w f.name size 0 (kept_name []) (start size limit) (ap (λ (v : View). v.blocks) f.view) (ap (λ (v : View). v.bins) f.view)
    (sym (ap (λ (v : View). v.max_allocs) f.view)) refl (none_kept [] (λ i l. refl)) in
    subst (λ l. IsAtState w l (start size limit)) (sym e) (record { formed = formed; agrees = agrees; grants = refl })

-- Runs, with one more step at their end.

-- the steps of a run on a fresh space that lead to this view and these handles
abbrev pub IsBegun : {C A : Type 0} → (C → View → List (Option Handle) → View → List (Option Handle) → A → Type 0) → (size limit : ℕ) → View → List (Option Handle)
    → List C → List A → Type 0
IsBegun {C} {A} take size limit v handles before found = (u : View) × IsFresh size limit u
    × ((cs : List C) (others : List A) → AreSteps take v handles cs others → AreSteps take u [] (before ++ cs) (found ++ others))

module _ {C A : Type 0} (take : C → View → List (Option Handle) → View → List (Option Handle) → A → Type 0) (size limit : ℕ) where
  pub steps_begin : (v : View) (handles : List (Option Handle)) (found : List A) → IsFresh size limit v → handles ≡ [] → found ≡ [] → IsBegun take size limit v handles [] found
  steps_begin v handles found f e none = (v, f, λ cs others r. subst₂ (λ hs l. AreSteps take v hs cs (l ++ others)) e (sym none) r)

  pub steps_go_on : (v w : View) (handles left : List (Option Handle)) (before before' : List C) (found found' : List A) (c : C) (a : A)
      → IsBegun take size limit v handles before found → take c v handles w left a → IsWellFormed w → before' ≡ before ++ c ∷ [] → found' ≡ found ++ a ∷ []
      → IsBegun take size limit w left before' found'
  steps_go_on v w handles left before before' found found' c a r t formed e f = search (arith, append_assoc)

  pub steps_end : (v : View) (handles : List (Option Handle)) (before cs : List C) (found : List A) → IsBegun take size limit v handles before found → before ≡ cs
      → AreStepsFromFresh take size limit cs found
  steps_end v handles before cs found r e = (r.0, r.1, subst₂ (AreSteps take r.0 []) (append-nil before ∙ e) (append-nil found) (r.2 [] [] tt))

-- The rows of a full report.

-- the full report, once all classes are seen
pub rows_all : (c : ℕ) (v : View) (rows : List FullRow) → map row_view rows ≡ rows_below c (free_sizes v.blocks) → c ≡ 256
    → machine.Full (map row_view rows) ≡ machine.Full (rows_below 256 (free_sizes v.blocks))
rows_all c v rows e all = ap machine.Full (e ∙ ap (λ n. rows_below n (free_sizes v.blocks)) all)

-- the row of a class with free blocks
row_of : (c n : ℕ) → 0 < n → row c n ≡ record { class = c; size = value c % 2 ^ 32; count = n } ∷ []
row_of c zero l = absurd (omega arith)
row_of c (suc n) l = refl

-- a class with free blocks adds its row
pub rows_more : (c : ℕ) (v : View) (report : StorageReportFull) (d : StorageReportFullRegion) (left rows : List FullRow) (r : FullRow) → IsFullReport report v → c < 256
    → map row_view rows ≡ rows_below c (free_sizes v.blocks)
    → left ≡ rows ++ r ∷ [] → r ≡ record { class = c; size = (slice_index_or report.free_regions c d).size; count = (slice_index_or report.free_regions c d).count }
    → 0 < (slice_index_or report.free_regions c d).count
    → map row_view left ≡ rows_below (c + 1) (free_sizes v.blocks)
rows_more c v report d left rows r full l e f h pos =
    let at = full c d l in
    let count = ap (λ (x : StorageReportFullRegion). x.count) at in
    let size = ap (λ (x : StorageReportFullRegion). x.size) at in
    rw add-one (ap (map row_view) f ∙ map-append row_view rows (r ∷ []) ∙ ap₂ (λ xs y. xs ++ row_view y ∷ []) e h
    ∙ ap₂ (λ (s n : ℕ). rows_below c (free_sizes v.blocks) ++ record { class = c; size = s; count = n } ∷ []) size count
    ∙ ap (λ z. rows_below c (free_sizes v.blocks) ++ z) (sym (row_of c (count_of c (free_sizes v.blocks)) (omega arith))))

-- a class with none adds nothing
pub rows_same : (c : ℕ) (v : View) (report : StorageReportFull) (d : StorageReportFullRegion) (rows : List FullRow) → IsFullReport report v → c < 256
    → map row_view rows ≡ rows_below c (free_sizes v.blocks) → (slice_index_or report.free_regions c d).count ≤ 0
    → map row_view rows ≡ rows_below (c + 1) (free_sizes v.blocks)
rows_same c v report d rows full l e nothing = search (arith, add-one, append-nil)
