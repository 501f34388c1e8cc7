-- What a heap has room for.
use Rattle.std.proofs.Common.{◌≡◌, ℕ, ◌+◌, ◌<◌, ◌≤◌, Bool, true, false, ◌&&◌, [], ◌∷◌, Option, Some, None, IfSome, length, max, nat_lt, if◌then◌else◌, refl, sym, ap, subst, ◌∙◌, inl, inr, arith, eq-eqb, ne_eqb, ◌↔◌}
use Rattle.std.proofs.lemmas.Bool.{cases_eq, cases_lt, lt-ltb, le-ltb, le-leb, lt-leb}
use Rattle.offset_allocator.specs.{Reporting.FreeSizes.largest, Reporting.Reports.IsReport, Requests.CanGrant, Requests.AdmitsBlocks, Requests.blocks_needed, Relations.IsFresh, View.View, View.IsWellFormed, View.free_block}
use Rattle.offset_allocator.specs.{View.free_sizes, Classes.down, Classes.up, Classes.value, Ranges.Range}
use Rattle.offset_allocator.specs.declared.reports.StorageReport.{StorageReport}
use Rattle.offset_allocator.proofs.{Classes.down_small, Classes.up_law, Classes.up_reached, Classes.value_down, Classes.value_grows, Taken.HasFit, Taken.fitting}
use Rattle.offset_allocator.proofs.Views.ViewFits.{HasName, fits_exactly, largest_small, sized_below, there_middle}
use Rattle.offset_allocator.specs.Ranges as named
use Rattle.offset_guarded.specs.Guard.{Guard, HasSerialLeft, Ticket, last_serial}
use Rattle.offset_guarded.specs.Guard as guarded
use Rattle.offset_heaps.specs.declared.limits.Limits.{Limits}
use Rattle.offset_heaps.specs.{Heaps.IsNew, Heaps.IsOfKind, Heaps.MustRaise, Heaps.MustRaiseIn, Heaps.room, Heaps.room_of, Heaps.top_limit, Slots.CanHoldIn, Slots.CanHoldNow, Slots.HasRoomNow}

-- ---- the largest limit
pub top_usual : (limits : Limits) (k : ℕ) (g : Guard) → k < limits.most → top_limit limits k g ≡ limits.max_allocs
top_usual limits k g l = rw (lt-ltb k limits.most l) refl

pub top_larger : (limits : Limits) (k : ℕ) (g : Guard) → limits.most ≤ k → top_limit limits k g ≡ g.space.max_allocs
top_larger limits k g l = rw (le-ltb k limits.most l) refl

-- a heap's own limit is at most that
pub top_above : (limits : Limits) (k : ℕ) (g : Guard) → IsOfKind limits k g → g.space.max_allocs ≤ top_limit limits k g
top_above limits k g (inl usual) = omega (arith, top_usual limits k g usual.0, usual.2.1)
top_above limits k g (inr larger) = omega (arith, top_larger limits k g larger.0)

-- ---- room
pub room_there : (limits : Limits) (k blocks : ℕ) (g : Guard) → HasSerialLeft g → length g.space.blocks + blocks < top_limit limits k g → room limits k blocks g ≡ largest (free_sizes g.space.blocks)
room_there limits k blocks g left some = rw (lt-ltb g.given last_serial left, lt-ltb (length g.space.blocks + blocks) (top_limit limits k g) some) refl

pub room_none : (limits : Limits) (k blocks : ℕ) (g : Guard) → top_limit limits k g ≤ length g.space.blocks + blocks → room limits k blocks g ≡ 0
room_none limits k blocks g full = rw (le-ltb (length g.space.blocks + blocks) (top_limit limits k g) full) (ap (λ (b : Bool). if b then largest (free_sizes g.space.blocks) else 0) (and_none (nat_lt g.given last_serial)))
  where
    and_none : (b : Bool) → (b && false) ≡ false
    and_none true = refl
    and_none false = refl

pub room_spent : (limits : Limits) (k blocks : ℕ) (g : Guard) → (HasSerialLeft g → ⊥) → room limits k blocks g ≡ 0
room_spent limits k blocks g spent = rw (le-ltb g.given last_serial (elim (cases_lt g.given last_serial) [ inl l ↦ absurd (spent l) | inr past ↦ past ])) refl

pub room_left : (limits : Limits) (k blocks units : ℕ) (g : Guard) → 1 ≤ units → units ≤ room limits k blocks g
    → HasSerialLeft g × (length g.space.blocks + blocks < top_limit limits k g) × (units ≤ largest (free_sizes g.space.blocks))
room_left limits k blocks units g some fits = elim (cases_lt g.given last_serial) [
  | inr past ↦ absurd (let none = room_spent limits k blocks g (λ l. omega (arith, l, past)) in omega (arith, none, some, fits))
  | inl left ↦ elim (cases_lt (length g.space.blocks + blocks) (top_limit limits k g)) [
    | inr full ↦ absurd (let none = room_none limits k blocks g full in omega (arith, none, some, fits))
    | inl l ↦ (left, l, subst (λ n. units ≤ n) (room_there limits k blocks g left l) fits)
  ]
]

-- under a limit that need not be raised a space admits the blocks
pub admitted : (limits : Limits) (k blocks : ℕ) (g : Guard) → IsOfKind limits k g → (MustRaise limits k blocks g → ⊥) → length g.space.blocks + blocks < top_limit limits k g → AdmitsBlocks blocks g.space
admitted limits k blocks g (inr larger) stays some = omega (arith, some, top_larger limits k g larger.0)
admitted limits k blocks g (inl usual) stays some = elim (cases_lt (length g.space.blocks + blocks) g.space.max_allocs) [
  | inl l ↦ l
  | inr near ↦ elim (cases_lt g.space.max_allocs limits.max_allocs) [
    | inl below ↦ absurd (stays (usual.0, below, near))
    | inr full ↦ omega (arith, some, top_usual limits k g usual.0, full)
  ]
]

pub room_now : (limits : Limits) (k blocks units : ℕ) (o : Option Guard) → IfSome o (IsOfKind limits k) → (MustRaiseIn limits k blocks o → ⊥) → 1 ≤ units → units ≤ room_of limits k blocks o
    → HasRoomNow blocks units o
room_now limits k blocks units None kind stays some fits = absurd (omega (arith, some, fits))
room_now limits k blocks units (Some g) kind stays some fits =
    let has = room_left limits k blocks units g some fits in
    (has.0, admitted limits k blocks g kind stays has.1, has.2)

-- what is held is held under a limit that need not be raised
pub holds_now : (limits : Limits) (k size align : ℕ) (o : Option Guard) → IfSome o (IsOfKind limits k) → (MustRaiseIn limits k (blocks_needed align) o → ⊥) → CanHoldIn limits k size align o
    → CanHoldNow size align o
holds_now limits k size align None kind stays held = absurd held
holds_now limits k size align (Some g) kind stays held = (held.0, (admitted limits k (blocks_needed align) g kind stays held.1, held.2))

-- a class large enough for one unit at least is so for none
fit_for : (units : ℕ) (v : View) → HasFit (max 1 units) v → HasFit units v
fit_for units v fit = elim (cases_lt 0 units) [
  | inl some ↦ let e : max 1 units ≡ units = omega (arith, some) in subst (λ n. HasFit n v) e fit
  | inr none ↦ let e : units ≡ 0 = omega (arith, none) in subst (λ n. HasFit n v) (sym e) (fit.0, (up_law 0 fit.0 (omega arith)).1 (omega arith), fit.2)
]

-- a request is granted where there is room now
pub can : (blocks units : ℕ) (g : Guard) → IsWellFormed g.space → HasRoomNow blocks (max 1 units) (Some g) → HasSerialLeft g × CanGrant blocks units g.space
can blocks units g known has =
    let n : ℕ = max 1 units in
    let some : 1 ≤ n = omega arith in
    let small = largest_small g.space known known.fits n some has.2 in
    (has.0, (has.1, fit_for units g.space ((fits_exactly g.space known n small known.fits some).1 has.2)))

-- and there is room for what is granted
largest_there : (n : ℕ) (v : View) → IsWellFormed v → 1 ≤ n → HasFit n v → n ≤ largest (free_sizes v.blocks)
largest_there n v w some h =
    let t = fitting n v w h in
    let there : HasName t.0.block v.blocks = subst (HasName t.0.block) (sym t.1) (there_middle t.0.before t.0.block t.0.after) in
    let reached : n ≤ value (up n) = up_reached n (omega (arith, t.3, down_small t.0.block.size)) in
    let small : n ≤ 4294967295 = omega (arith, reached, value_grows (up n) (down t.0.block.size) t.3, value_down t.0.block.size, sized_below t.0.block v.blocks there, w.whole, w.fits) in
    (fits_exactly v w n small w.fits some).0 h

-- under another limit, and after it was raised
pub room_grants : (limits : Limits) (k limit blocks units : ℕ) (g h : Guard) → IsWellFormed g.space → guarded.IsRaised limit g h → (length g.space.blocks + blocks < top_limit limits k g) ↔ (length g.space.blocks + blocks < limit)
    → 1 ≤ units → (units ≤ room limits k blocks g) ↔ (HasSerialLeft g × CanGrant blocks units h.space)
room_grants limits k limit blocks units g h known raised admits some = (
  λ fits.
      let has = room_left limits k blocks units g some fits in
      let small = largest_small g.space known known.fits units some has.2 in
      let fit : HasFit units g.space = (fits_exactly g.space known units small known.fits some).1 has.2 in
      (has.0, subst (λ (z : Guard). CanGrant blocks units z.space) (sym raised) (admits.0 has.1, fit)),
  λ can.
      let c : CanGrant blocks units (record g.space { max_allocs = limit; accesses = 0 }) = subst (λ (z : Guard). CanGrant blocks units z.space) raised can.1 in
      subst (λ n. units ≤ n) (sym (room_there limits k blocks g can.0 (admits.1 c.0))) (largest_there units g.space known some c.1),
)

-- ---- a report
pub room_reported : (limits : Limits) (k : ℕ) (g : Guard) (r : StorageReport) → HasSerialLeft g → g.space.max_allocs ≤ top_limit limits k g
    → (g.space.max_allocs < top_limit limits k g → AdmitsBlocks 1 g.space) → IsReport r g.space → room limits k 1 g ≡ r.largest_free_region
room_reported limits k g r left below own report = elim (cases_lt (length g.space.blocks + 1) g.space.max_allocs) [
  | inl l ↦ room_there limits k 1 g left (omega (arith, l, below)) ∙ sym (report.1 ∙ rw (lt-leb g.space.max_allocs (length g.space.blocks + 1) l) refl)
  | inr full ↦ elim (cases_lt g.space.max_allocs (top_limit limits k g)) [
    | inl more ↦ absurd (omega (arith, own more, full))
    | inr top ↦ room_none limits k 1 g (omega (arith, top, full)) ∙ sym (report.1 ∙ rw (le-leb g.space.max_allocs (length g.space.blocks + 1) full) refl)
  ]
]

pub room_under : (limits : Limits) (k : ℕ) (g h : Guard) (r : StorageReport) → HasSerialLeft g → guarded.IsRaised (top_limit limits k g) g h → IsReport r h.space → room limits k 1 g ≡ r.largest_free_region
room_under limits k g h r left raised report =
    let top : ℕ = top_limit limits k g in
    let says : IsReport r (record g.space { max_allocs = top; accesses = 0 }) = subst (λ (z : Guard). IsReport r z.space) raised report in
    elim (cases_lt (length g.space.blocks + 1) top) [
      | inl l ↦ room_there limits k 1 g left l ∙ sym (says.1 ∙ rw (lt-leb top (length g.space.blocks + 1) l) refl)
      | inr full ↦ room_none limits k 1 g full ∙ sym (says.1 ∙ rw (le-leb top (length g.space.blocks + 1) full) refl)
    ]

-- ---- fresh heaps
-- one of the size of a request has a block for it
pub new_holds : (size : ℕ) (g : Guard) → IsFresh size 4 g.space → g.given ≡ 0 → CanHoldNow size 1 (Some g)
new_holds size g f none =
    let blocks : g.space.blocks ≡ free_block f.name size ∷ [] = ap (λ (v : View). v.blocks) f.view in
    let limit : g.space.max_allocs ≡ 4 = ap (λ (v : View). v.max_allocs) f.view in
    let one : length g.space.blocks ≡ 1 = ap length blocks in
    (omega arith, (omega arith, (record { before = []; block = free_block f.name size; after = [] }, blocks, refl, omega arith)))

-- no ticket is live in a fresh heap
fresh_name : (size max x : ℕ) (v : View) → IsFresh size max v → named.range_of x v ≡ None
fresh_name size max x v f = ap (λ (v : View). named.range_of x v) f.view ∙ elim (cases_eq x f.name) [
  | inl e ↦ rw (eq-eqb x f.name e) refl
  | inr n ↦ rw (ne_eqb x f.name n) refl
]

pub fresh_none : (size max number : ℕ) (g : Guard) (t : Ticket) → IsNew size max number g → guarded.range_of t g ≡ None
fresh_none size max number g t new = none_if (guarded.fits t g) (named.range_of t.name g.space) (fresh_name size max t.name g.space new.space)
  where
    none_if : (b : Bool) (o : Option Range) → o ≡ None → (if b then o else None) ≡ None
    none_if true o e = e
    none_if false o e = refl

-- a fresh heap of the usual size
pub some_same : (g h : Guard) → Some g ≡ Some h → g ≡ h
some_same g h e = cc
