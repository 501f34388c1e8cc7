-- Which calls of the plain machine are refused, and why.
use Rattle.offset_script.proofs.Common.{◌≡◌, ℕ, zero, suc, ◌+◌, ◌-◌, Bool, true, false, List, [], ◌∷◌, ◌++◌}
use Rattle.offset_script.proofs.Common.{None, Option, Some, ap, ap₂, arith, cond, false≢true, le-leb, le-ltb, length, lt-leb, lt-ltb, map, nat_le, nat_lt, refl, subst, sum, sym, up, value, ◌∙◌}
use Rattle.offset_allocator.specs.declared.reports.Refusal.{Refusal}
use Rattle.offset_allocator.specs.declared.reports.Refusal.TheVariants.{Nodes, TooLarge, Space, Fragmented}
use Rattle.offset_allocator.specs.{Relations.SameState, View.IsWellFormed, View.View, View.Handle, View.max_size}
use Rattle.offset_allocator.specs.Requests.{CanGrant, IsWhy, blocks_needed, size_needed, units_needed}
use Rattle.offset_allocator.specs.View as named
use Rattle.offset_script.specs.declared.scripts.Command.{Command}
use Rattle.offset_script.specs.declared.scripts.Command.TheVariants as command
use Rattle.offset_script.specs.Machine.{State, Answer, Outcome, Place, step, answers, after, start, total, free_sizes, is_short_of, chosen_place, place_of}
use Rattle.offset_script.specs.Machine.{returns_only, grant_or_refuse, release, size_at, report, request, allocate}
use Rattle.offset_script.specs.Machine as machine
use Rattle.offset_script.specs.{Listening.Shows, Steps.IsKept, Steps.Takes}
use Rattle.offset_allocator.proofs.Advice.{free_within}
use Rattle.offset_pictures.specs.declared.refusing.Refused.{Refused}
use Rattle.offset_pictures.specs.Refusals.{is_refusal, IsRefusedBy, Numbers, numbers_of, numbers_of_view, refusals_with_reasons, refusals_with_reasons_from}
use Rattle.offset_pictures.specs.Refusals.{RefusalsHaveReasons, refused_call, refused_calls_from, shortage}
use Rattle.offset_pictures.specs.Watching.{replace_all_full, replace_full}
use Rattle.offset_pictures.proofs.Quieter.{quiet_state}

-- ---- the numbers of a space

-- a space and a state that it shows have the same
pub same_numbers : (v : View) (s : State) → Shows v s → numbers_of_view v ≡ numbers_of s
same_numbers v s shown =
    ap₂ (λ (a b : ℕ). record { blocks = a; limit = b; units = v.size; free = sum (named.free_sizes v.blocks) }) shown.blocks shown.limit
    ∙ ap₂ (λ (a b : ℕ). record { blocks = length s.blocks; limit = s.limit; units = a; free = b }) shown.units shown.free

-- the reason that the allocator gives is that of these numbers
pub why_is : (v : View) → IsWellFormed v → (spare needed : ℕ) (r : Refusal) → IsWhy spare needed v r → r ≡ shortage spare needed (numbers_of_view v)
why_is v w spare needed Nodes h = sym (ap (λ b. cond b Nodes (cond (nat_lt v.size (value (up needed))) TooLarge
    (cond (nat_lt (sum (named.free_sizes v.blocks)) (size_needed needed)) Space Fragmented)))
    (le-leb v.max_allocs (length v.blocks + spare) h))
why_is v w spare needed TooLarge h = sym (ap₂ (λ a b. cond a Nodes (cond b TooLarge (cond (nat_lt (sum (named.free_sizes v.blocks)) (size_needed needed)) Space Fragmented)))
    (lt-leb v.max_allocs (length v.blocks + spare) h.0) (lt-ltb v.size (value (up needed)) h.1))
why_is v w spare needed Space h = sym (ap₂ (λ a b. cond a Nodes (cond b TooLarge (cond (nat_lt (sum (named.free_sizes v.blocks)) (size_needed needed)) Space Fragmented)))
    (lt-leb v.max_allocs (length v.blocks + spare) h.0) (le-ltb v.size (value (up needed)) h.1)
    ∙ ap (λ c. cond c Space Fragmented) (lt-ltb (sum (named.free_sizes v.blocks)) (size_needed needed) h.2))
why_is v w spare needed Fragmented h = sym (ap₂ (λ a b. cond a Nodes (cond b TooLarge (cond (nat_lt (sum (named.free_sizes v.blocks)) (size_needed needed)) Space Fragmented)))
    (lt-leb v.max_allocs (length v.blocks + spare) h.0) (le-ltb v.size (value (up needed)) (omega (arith, h.1, free_within v w)))
    ∙ ap (λ c. cond c Space Fragmented) (le-ltb (sum (named.free_sizes v.blocks)) (size_needed needed) h.1))

-- ---- a refused call leaves the space as it was

abbrev Keeps : State → Outcome → Type 0
Keeps s o = is_refusal o.answer ≡ true → numbers_of o.state ≡ numbers_of s

by_request : (b : Bool) (o : Option Place) (s : State) (n : ℕ) (padding : ℕ → ℕ) → Keeps s (cond b (returns_only s machine.Refused) (grant_or_refuse s n padding o))
by_request true o s n padding e = refl
by_request false None s n padding e = refl
by_request false (Some p) s n padding e = absurd (false≢true e)

by_tests : (a b : Bool) (s : State) (x y : Outcome) → Keeps s x → Keeps s y → Keeps s (cond a x (cond b (returns_only s machine.Refused) y))
by_tests true b s x y h k = h
by_tests false true s x y h k = λ e. refl
by_tests false false s x y h k = k

by_extend : (b : Bool) (s t : State) → Keeps s (cond b (returns_only s machine.Refused) (record { state = t; answer = machine.Extended }))
by_extend true s t e = refl
by_extend false s t e = absurd (false≢true e)

by_report : (b : Bool) (x y : ℕ) → is_refusal (cond b (machine.Report 0 0) (machine.Report x y)) ≡ false
by_report true x y = refl
by_report false x y = refl

by_release : (s : State) (o : Option Place) → is_refusal (release s o).answer ≡ false
by_release s None = refl
by_release s (Some p) = refl

by_size : (o : Option Place) → is_refusal (size_at o) ≡ false
by_size None = refl
by_size (Some p) = refl

pub refused_keeps : (c : Command) (s : State) → Keeps s (step c s)
refused_keeps (command.Alloc n) s e = by_request (is_short_of 1 s) (chosen_place n s.blocks) s n (λ offset. 0) e
refused_keeps (command.Free k) s e = absurd (false≢true (sym (by_release s (place_of k s.blocks)) ∙ e))
refused_keeps (command.Size k) s e = absurd (false≢true (sym (by_size (place_of k s.blocks)) ∙ e))
refused_keeps command.Report s e = absurd (false≢true (sym (by_report (is_short_of 1 s) _ _) ∙ e))
refused_keeps command.Full s e = absurd (false≢true e)
refused_keeps command.Reset s e = absurd (false≢true e)
refused_keeps (command.Align n align) s e =
    by_tests (nat_le align 1) (nat_lt max_size (n + align - 1)) s (allocate n s) (request s 2 (n + align - 1) n (named.padding_to align))
    (by_request (is_short_of 1 s) (chosen_place n s.blocks) s n (λ offset. 0))
    (by_request (is_short_of 2 s) (chosen_place (n + align - 1) s.blocks) s n (named.padding_to align)) e
refused_keeps (command.Extend zero) s e = absurd (false≢true e)
refused_keeps (command.Extend (suc more)) s e = by_extend _ s _ e

-- ---- a refused request cannot be granted, then and after

not_kept : (h : Handle) (hs left : List (Option Handle)) (a : Answer) → IsKept (Some h) hs left a → is_refusal a ≡ true → ⊥
not_kept h hs left a k e = false≢true (sym (ap is_refusal k.1) ∙ e)

still_not : (v w : View) (spare needed : ℕ) → SameState v w → (CanGrant spare needed v → ⊥) → CanGrant spare needed w → ⊥
still_not v w spare needed same none = subst (λ u. CanGrant spare needed u → ⊥) (sym same) none

pub is_refused : (c : Command) (v w : View) (hs left : List (Option Handle)) (a : Answer) → Takes c v hs w left a → is_refusal a ≡ true → IsRefusedBy w c
is_refused (command.Alloc n) v w hs left a (None, t, k) e = still_not v w 1 n t.1 t.0
is_refused (command.Alloc n) v w hs left a (Some h, t, k) e = absurd (not_kept h hs left a k e)
is_refused (command.Free k) v w hs left a t e = tt
is_refused (command.Size k) v w hs left a t e = tt
is_refused command.Report v w hs left a t e = tt
is_refused command.Full v w hs left a t e = tt
is_refused command.Reset v w hs left a t e = tt
is_refused (command.Align n align) v w hs left a (None, t, k) e = still_not v w (blocks_needed align) (units_needed n align) t.1 t.0
is_refused (command.Align n align) v w hs left a (Some h, t, k) e = absurd (not_kept h hs left a k e)
is_refused (command.Extend more) v w hs left a t e = tt

pub by_numbers : (b : Bool) (i : ℕ) (c : Command) (m n : Numbers) → (b ≡ true → m ≡ n) → cond b (refused_call i c m) [] ≡ cond b (refused_call i c n) []
by_numbers true i c m n h = ap (refused_call i c) (h refl)
by_numbers false i c m n h = refl

-- ---- a script without full reports

quiet_call : (i : ℕ) (c : Command) (s : State) → cond (is_refusal (step (replace_full c) s).answer) (refused_call i (replace_full c) (numbers_of s)) [] ≡ cond
    (is_refusal (step c s).answer) (refused_call i c (numbers_of s)) []
quiet_call i (command.Alloc n) s = refl
quiet_call i (command.Free k) s = refl
quiet_call i (command.Size k) s = refl
quiet_call i command.Report s = refl
quiet_call i command.Full s = ap (λ b. cond {A = List Refused} b [] []) (by_report (is_short_of 1 s) _ _)
quiet_call i command.Reset s = refl
quiet_call i (command.Align n align) s = refl
quiet_call i (command.Extend more) s = refl

quiet_from : (i : ℕ) (cs : List Command) (s : State) → refusals_with_reasons_from i (replace_all_full cs) s ≡ refusals_with_reasons_from i cs s
quiet_from i [] s = refl
quiet_from i (c ∷ cs) s = ap₂ (λ x y. x ++ y) (quiet_call i c s) (ap (refusals_with_reasons_from (i + 1) (replace_all_full cs)) (quiet_state c s) ∙ quiet_from (i + 1) cs (step c s).state)

pub quiet_refused : (size limit : ℕ) (cs : List Command) → refusals_with_reasons size limit (replace_all_full cs) ≡ refusals_with_reasons size limit cs
quiet_refused size limit cs = quiet_from 0 cs (start size limit)

-- ---- the calls with a reason are those that are refused

listed : (b : Bool) (r : Refused) (rest : List Refused) → map (λ (x : Refused). x.call) (cond b (r ∷ []) [] ++ rest) ≡ cond b (r.call ∷ map (λ (x : Refused). x.call) rest)
    (map (λ (x : Refused). x.call) rest)
listed true r rest = refl
listed false r rest = refl

unlisted : (b : Bool) (i : ℕ) (rest : List Refused) → b ≡ false → map (λ (x : Refused). x.call) (cond b [] [] ++ rest) ≡ cond b (i ∷ map (λ (x : Refused). x.call) rest)
    (map (λ (x : Refused). x.call) rest)
unlisted true i rest e = absurd (false≢true (sym e))
unlisted false i rest e = refl

one_call : (i : ℕ) (c : Command) (s : State) (rest : List Refused) → map (λ (x : Refused). x.call) (cond (is_refusal (step c s).answer) (refused_call i c (numbers_of s)) [] ++ rest)
    ≡ cond (is_refusal (step c s).answer) (i ∷ map (λ (x : Refused). x.call) rest) (map (λ (x : Refused). x.call) rest)
one_call i (command.Alloc n) s rest = listed _ _ rest
one_call i (command.Free k) s rest = unlisted _ i rest (by_release s (place_of k s.blocks))
one_call i (command.Size k) s rest = unlisted _ i rest (by_size (place_of k s.blocks))
one_call i command.Report s rest = unlisted _ i rest (by_report (is_short_of 1 s) _ _)
one_call i command.Full s rest = refl
one_call i command.Reset s rest = refl
one_call i (command.Align n align) s rest = listed _ _ rest
one_call i (command.Extend more) s rest = listed _ _ rest

have_reasons : (i : ℕ) (cs : List Command) (s : State) → map (λ (r : Refused). r.call) (refusals_with_reasons_from i cs s) ≡ refused_calls_from i (answers cs s)
have_reasons i [] s = refl
have_reasons i (c ∷ cs) s =
    one_call i c s (refusals_with_reasons_from (i + 1) cs (step c s).state)
    ∙ ap (λ rest. cond (is_refusal (step c s).answer) (i ∷ rest) rest) (have_reasons (i + 1) cs (step c s).state)

pub reasons_law : RefusalsHaveReasons
reasons_law size limit cs = have_reasons 0 cs (start size limit)
