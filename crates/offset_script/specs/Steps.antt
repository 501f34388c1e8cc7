-- The named step of each command, and runs of such steps.
use Rattle.std.specs.Prelude.{◌≡◌, ◌≢◌, ◌-◌, ℕ, zero, suc, Bool, List, [], ◌∷◌, ◌++◌, length, Option, Some, None, IfSome, option_map, slice_index_or, slice_set, if◌then◌else◌}
use Rattle.offset_allocator.specs.View.{View, Handle, IsWellFormed, free_sizes, reported_free, reported_largest}
use Rattle.offset_allocator.specs.Ranges.{IsLive, size_of}
use Rattle.offset_allocator.specs.Relations.{IsFresh, Allocates, Aligns, Frees, Resets, Extends}
use Rattle.offset_script.specs.declared.scripts.Command.{Command}
use Rattle.offset_script.specs.declared.scripts.Command.TheVariants as command
use Rattle.offset_script.specs.Machine.{Answer}
use Rattle.offset_script.specs.Machine as machine

-- ---- handles

-- the handle kept for grant k, where handle k - 1 is that of grant k
abbrev pub kept_handle : List (Option Handle) → ℕ → Option Handle
kept_handle hs zero = None
kept_handle hs (suc k) = slice_index_or hs k None

-- the name of the handle kept for grant k
abbrev pub kept_name : List (Option Handle) → ℕ → Option ℕ
kept_name hs zero = None
kept_name hs (suc k) = option_map (λ (h : Handle). h.name) (slice_index_or hs k None)

-- each handle that is kept is live
abbrev pub AreLive : View → List (Option Handle) → Type 0
AreLive v handles = (k x : ℕ) → kept_name handles k ≡ Some x → IsLive x v

-- no two handles that are kept have one name
abbrev pub AreNamedApart : List (Option Handle) → Type 0
AreNamedApart handles = (j k x : ℕ) → kept_name handles j ≡ Some x → kept_name handles k ≡ Some x → j ≡ k

-- what contracts see of a player: its allocator, and the handles of the grants so far, that of grant k at k - 1 while the grant is live
pub record Player : Type 0 where
  pub space : View
  pub handles : List (Option Handle)

-- what holds of a space and the handles that are kept before and after each call: each is live, and no two have one name
pub record AreHeld (v : View) (handles : List (Option Handle)) : Type 0 where
  pub live : AreLive v handles
  pub apart : AreNamedApart handles

-- a grant, if there is one, may be kept beside these handles: it is live, and none of them has its name
abbrev pub MayBeKept : Option Handle → View → List (Option Handle) → Type 0
MayBeKept granted v handles = IfSome granted (λ h. IsLive h.name v × ((k : ℕ) → kept_name handles k ≢ Some h.name))

-- ---- named steps

-- the answer to a request with this result; the handle of a grant is kept, under the number in the answer
abbrev pub IsKept : Option Handle → List (Option Handle) → List (Option Handle) → Answer → Type 0
IsKept None handles later a = (later ≡ handles) × (a ≡ machine.Refused)
IsKept (Some h) handles later a = (later ≡ handles ++ Some h ∷ []) × (a ≡ machine.Grant (length later) h.offset)

-- P holds of a name, or Q where there is none
abbrev pub IfNamed : Option ℕ → (ℕ → Type 0) → Type 0 → Type 0
IfNamed None P Q = Q
IfNamed (Some x) P Q = P x

-- the same view and the same handles
abbrev pub Stays : View → List (Option Handle) → View → List (Option Handle) → Type 0
Stays v handles w later = (w ≡ v) × (later ≡ handles)

-- the step of a command from the view v to the view w, with this answer: the handles of the grants so far are those in
-- `handles` before it, and in `later` after it, that of grant k at k - 1 while the grant is live
abbrev pub Takes : Command → View → List (Option Handle) → View → List (Option Handle) → Answer → Type 0
Takes (command.Alloc n) v handles w later a = (r : Option Handle) × Allocates n v w r × IsKept r handles later a
Takes (command.Free k) v handles w later a = IfNamed (kept_name handles k)
    (λ x. Frees x v w × (later ≡ slice_set handles (k - 1) None) × (a ≡ machine.Freed))
    (Stays v handles w later × (a ≡ machine.Gone))
Takes (command.Size k) v handles w later a = Stays v handles w later
    × IfNamed (kept_name handles k) (λ x. a ≡ machine.Size (size_of x v)) (a ≡ machine.Gone)
Takes command.Report v handles w later a = Stays v handles w later × (a ≡ machine.Report (reported_free v) (reported_largest v))
Takes command.Full v handles w later a = Stays v handles w later × (a ≡ machine.full_report (free_sizes v.blocks))
Takes command.Reset v handles w later a = Resets v w × (length later ≡ length handles)
    × ((k : ℕ) → kept_name later k ≡ None) × (a ≡ machine.Reset)
Takes (command.Align n align) v handles w later a = (r : Option Handle) × Aligns n align v w r × IsKept r handles later a
Takes (command.Extend more) v handles w later a = (done : Bool) × Extends more v w done × (later ≡ handles)
    × (a ≡ (if done then machine.Extended else machine.Refused))

-- ---- runs

-- calls with these answers, one step after the other, from a view and the handles of its grants on
abbrev pub AreSteps : {C A : Type 0} → (C → View → List (Option Handle) → View → List (Option Handle) → A → Type 0)
    → View → List (Option Handle) → List C → List A → Type 0
AreSteps step v handles [] [] = Unit {0}
AreSteps step v handles (c ∷ cs) (a ∷ others) = (w : View) × (later : List (Option Handle)) × step c v handles w later a
    × IsWellFormed w × AreSteps step w later cs others
AreSteps step v handles cs found = ⊥

-- the answers are those of a run on a fresh space, where a grant's number means the name that its grant gave
abbrev pub AreStepsFromFresh : {C A : Type 0} → (C → View → List (Option Handle) → View → List (Option Handle) → A → Type 0)
    → ℕ → ℕ → List C → List A → Type 0
AreStepsFromFresh step size max_allocs cs found = (v : View) × IsFresh size max_allocs v × AreSteps step v [] cs found
