-- Which tickets are live, and what a grant leaves of them.
use Rattle.std.proofs.Common.{◌≡◌, ◌≢◌, ℕ, ◌+◌, ◌<◌, ◌≤◌, length, Bool, true, false, ◌&&◌, List, [], ◌∷◌, Option, Some, None, IsSome, nat_eq, option_map, slice_set, if◌then◌else◌, refl, sym, ap, ap₂}
use Rattle.std.proofs.Common.{subst, ◌∙◌, inl, inr, arith, eq-eqb, ne_eqb}
use Rattle.std.proofs.lemmas.Bool.{cases_eq, cases_lt, eqb-true, and_parts}
use Rattle.std.proofs.lemmas.List.{get_or-set_same, get_or-set_other, length-replicate, replicate_more}
use Rattle.std.proofs.Common.{zero, suc, ◌++◌, append_assoc, length-append, max, replicate}
use Rattle.offset_allocator.specs.View.{Block, View, Handle, Place, AreNames, IsWellFormed, count_named, place_of}
use Rattle.offset_allocator.specs.{Ranges.Range, Relations.Aligns, Relations.Allocates, Tight.AlignsTight, AtOffset.AllocatesAt}
use Rattle.offset_allocator.specs.Ranges as named
use Rattle.offset_allocator.proofs.{Reading.range_at, Tallies.hit_cases}
use Rattle.offset_guarded.specs.State as state
use Rattle.std.specs.Prelude.{MatchOption}
use Rattle.offset_allocator.specs.declared.reports.Refusal.{Refusal as OfSpace}
use Rattle.offset_allocator.specs.declared.reports.Refusal.TheVariants as why
use Rattle.offset_guarded.specs.declared.refusal.Refusal.{Refusal}
use Rattle.offset_guarded.specs.Answers.{Requests}
use Rattle.offset_guarded.specs.Guard.{Guard, Table, Grants, AreAlike, IsGuarded, IsLive, KeepsOthers, Ticket, last_serial, cell, covering, fits, for_space, nodes, of_space, serial_of}

-- what the fields show
abbrev pub guard : View → Table → ℕ → ℕ → Guard
guard v t realm step = record { space = v; serials = t.cells; given = t.given; realm = realm; step = step }

-- a range, where a test holds
abbrev range_if : Bool → Option Range → Option Range
range_if b o = if b then o else None

only_if : (b : Bool) (o : Option Range) → IsSome (range_if b o) → IsSome o
only_if true o h = h
only_if false o h = cc

none_if : (b : Bool) (o : Option Range) → o ≡ None → range_if b o ≡ None
none_if true o e = e
none_if false o e = refl

and_none : (b : Bool) → (b && false) ≡ false
and_none true = refl
and_none false = refl

-- a ticket with another serial or realm does not fit
no_serial : (t : Ticket) (g : Guard) → t.serial ≢ serial_of t.name g → fits t g ≡ false
no_serial t g n = ap (λ b. nat_eq t.realm g.realm && b) (ne_eqb t.serial (serial_of t.name g) n) ∙ and_none (nat_eq t.realm g.realm)

no_realm : (t : Ticket) (g : Guard) → t.realm ≢ g.realm → fits t g ≡ false
no_realm t g n = ap (λ b. b && nat_eq t.serial (serial_of t.name g)) (ne_eqb t.realm g.realm n)

-- a live ticket fits
pub live_fits : (t : Ticket) (g : Guard) → IsLive t g → (t.realm ≡ g.realm) × (t.serial ≡ serial_of t.name g)
live_fits t g h = search (arith, and_parts, nat_eq, eqb-true)

-- a live ticket has a live name
pub live_name : (t : Ticket) (g : Guard) → IsLive t g → named.IsLive t.name g.space
live_name t g h = only_if (fits t g) (named.range_of t.name g.space) h

-- a live name is that of a block
no_place : (x : ℕ) (bs : List Block) → count_named x bs ≡ 0 → place_of x bs ≡ None
no_place x [] e = refl
no_place x (b ∷ bs) e = elim (hit_cases x b.name) [
  | inl h ↦ absurd (let one = h.1 in omega arith)
  | inr n ↦ rw (ne_eqb x b.name n.0) (ap (option_map (λ (p : Place). record p { before = b ∷ p.before })) (no_place x bs (let none = n.1 in omega arith)))
]

pub no_range : (x : ℕ) (v : View) → count_named x v.blocks ≡ 0 → named.IsLive x v → ⊥
no_range x v e h = let q : IsSome (range_at None) = subst (λ o. IsSome (range_at o)) (no_place x v.blocks e) h in cc

pub is_named : (x : ℕ) (v : View) → named.IsLive x v → 1 ≤ count_named x v.blocks
is_named x v h = elim (cases_eq (count_named x v.blocks) 0) [ inl e ↦ absurd (no_range x v e h) | inr n ↦ omega arith ]

-- no ticket with a name above the largest is live
pub no_such : (max : ℕ) (ticket : Ticket) (g : Guard) (v : View) (t : Table) (realm step : ℕ) → guard v t realm step ≡ g → v.max_allocs < max → IsWellFormed v
    → max ≤ ticket.name → IsLive ticket g → ⊥
no_such max ticket g v t realm step shows admitted w above h = no_range ticket.name v (w.below ticket.name (omega arith)) (live_name ticket (guard v t realm step) (subst (IsLive ticket) (sym shows) h))

-- the serials after one more
pub cell_set : (cells : List ℕ) (name s x : ℕ) → name < length cells → cell x (slice_set cells name s) ≡ (if nat_eq x name then s else cell x cells)
cell_set cells name s x l = search (arith, cases_eq, eq-eqb, slice_set, get_or-set_same, ne_eqb, get_or-set_other)

-- the serials after the next one is given to the name y, from cells that are those of t
pub cell_given : (made next t : Table) (y name x : ℕ) → next ≡ record made { cells = slice_set made.cells y (made.given + 1); given = made.given + 1 } → y ≡ name → y < length made.cells
    → made.given ≡ t.given → cell x made.cells ≡ cell x t.cells
    → cell x next.cells ≡ (if nat_eq x name then t.given + 1 else cell x t.cells)
cell_given made next t y name x e same l given cells = search (arith, cell_set, nat_eq)

-- n more cells of 0, and one more after them
more_zeros : (cells : List ℕ) (n : ℕ) → (cells ++ replicate n 0) ++ 0 ∷ [] ≡ cells ++ replicate (n + 1) 0
more_zeros cells n = append_assoc cells (replicate n 0) (0 ∷ []) ∙ ap (λ (l : List ℕ). cells ++ l) (replicate_more n 0)

pub zero_more : (cells : List ℕ) (x : ℕ) → cell x (cells ++ 0 ∷ []) ≡ cell x cells
zero_more [] zero = refl
zero_more [] (suc x) = refl
zero_more (c ∷ cs) zero = refl
zero_more (c ∷ cs) (suc x) = zero_more cs x

-- cells that cover so many names, as far as they are made
abbrev pub IsCovered : ℕ → List ℕ → List ℕ → Type 0
IsCovered names cells now = (n : ℕ) × (now ≡ cells ++ replicate n 0) × (length cells + n ≤ max (length cells) names)

pub one_covered : (names : ℕ) (cells now : List ℕ) → IsCovered names cells now → length now < names → IsCovered names cells (now ++ 0 ∷ [])
one_covered names cells now c l =
    let long = ap length c.1 ∙ length-append cells (replicate c.0 0) in
    let zeros = length-replicate {A = ℕ} c.0 0 in
    (c.0 + 1, ap (λ (k : List ℕ). k ++ 0 ∷ []) c.1 ∙ more_zeros cells c.0, omega (arith, long, zeros, l))

-- a request leaves the node limit
pub same_limit : (n align : ℕ) (v w : View) (h : Handle) → Aligns n align v w (Some h) → w.max_allocs ≡ v.max_allocs
same_limit n align v w h t = ap (λ (z : View). z.max_allocs) t.1.view

pub same_limit_plain : (n : ℕ) (v w : View) (h : Handle) → Allocates n v w (Some h) → w.max_allocs ≡ v.max_allocs
same_limit_plain n v w h t = ap (λ (z : View). z.max_allocs) t.1.view

module _ (max n realm : ℕ) (v w : View) (t u : Table) (h : Handle) (is : IsGuarded max v t) (g : named.Grants n v w h)
    (cells : (x : ℕ) → cell x u.cells ≡ (if nat_eq x h.name then t.given + 1 else cell x t.cells)) (given : u.given ≡ t.given + 1) where
  here : (x : ℕ) → x ≡ h.name → cell x u.cells ≡ t.given + 1
  here x e = cells x ∙ ap (λ b. if b then t.given + 1 else cell x t.cells) (eq-eqb x h.name e)

  there : (x : ℕ) → x ≢ h.name → cell x u.cells ≡ cell x t.cells
  there x n = cells x ∙ ap (λ b. if b then t.given + 1 else cell x t.cells) (ne_eqb x h.name n)

  -- the fields agree after the grant
  pub issued : w.max_allocs ≡ v.max_allocs → u.room ≡ t.room → IsGuarded max w u
  issued limit room = search (arith, cases_eq, here, there)

  -- the ticket of the grant
  abbrev ticket : Ticket
  ticket = record { offset = h.offset; name = h.name; serial = t.given + 1; realm = realm }

  no_other : (now : ℕ) (z : Ticket) → (AreAlike z ticket → ⊥) → z.name ≡ h.name → fits z (guard w u realm now) ≡ false
  no_other now z d e = search (arith, cases_eq, no_serial, here, no_realm)

  pub others : (step now : ℕ) → KeepsOthers ticket (guard v t realm step) (guard w u realm now)
  others step now z d = search (arith, cases_eq, no_other, none_if, nat_eq, there)

  fit : (now : ℕ) → fits ticket (guard w u realm now) ≡ true
  fit now = ap₂ (λ a b. a && b) (eq-eqb realm realm refl) (eq-eqb (t.given + 1) (cell h.name u.cells) (sym (here h.name refl)))

  pub granted : u.cells ≡ slice_set (covering (nodes w) t.cells) h.name (t.given + 1) → (step now : ℕ) → Grants n (guard v t realm step) (guard w u realm now) ticket
  granted table step now = search (arith, none_if, fit, others)

  pub granted_as : u.cells ≡ slice_set (covering (nodes w) t.cells) h.name (t.given + 1) → (step now : ℕ) (g : Guard) (z : Ticket) → guard v t realm step ≡ g → z ≡ ticket
      → Requests n g (guard w u realm now) (Some z)
  granted_as table step now g z shows same = record {
    grants = subst (λ g. Grants n g (guard w u realm now) z) shows (subst (λ z. Grants n (guard v t realm step) (guard w u realm now) z) (sym same) (granted table step now));
    same = λ e. absurd (cc);
    serials = λ e. absurd (cc);
  }

-- what holds of a name in the space of the fields holds of it in what they show
pub shown : (P : ℕ → View → Type 0) (x y : ℕ) (g h : Guard) → g ≡ h → x ≡ y → P x g.space → P y h.space
shown P x y g h shows same p = subst (λ (k : Guard). P y k.space) shows (subst (λ z. P z g.space) same p)

-- the answer to a request that is granted
pub served : (Can : View → Type 0) (g h : Guard) → g ≡ h → g.given < last_serial → Can g.space
    → (true ≡ true → (h.given < last_serial) × Can h.space) × ((h.given < last_serial) × Can h.space → true ≡ true)
served Can g h shows left can = (λ e. subst (λ h. (h.given < last_serial) × Can h.space) shows (left, can), λ h. refl)

pub same_limit_at : (offset n : ℕ) (v w : View) (h : Handle) → AllocatesAt offset n v w (Some h) → w.max_allocs ≡ v.max_allocs
same_limit_at offset n v w h t = ap (λ (z : View). z.max_allocs) t.split.view

pub same_limit_tight : (n align : ℕ) (v w : View) (h : Handle) → AlignsTight n align v w (Some h) → w.max_allocs ≡ v.max_allocs
same_limit_tight n align v w h (inl t) = same_limit n align v w h t
same_limit_tight n align v w h (inr t) = ap (λ (z : View). z.max_allocs) t.1.1.3.view

-- a copy of the space under this node limit, and of the serials
pub raised : {max limit : ℕ} {v w : View} {t u : Table} → IsGuarded max v t → w ≡ record v { max_allocs = limit; accesses = 0 } → u.cells ≡ t.cells → u.given ≡ t.given
    → limit ≤ u.room → limit < max → IsGuarded max w u
raised {max} {limit} {v} {w} {t} {u} h e cells given room small = record {
  live = λ x l. rw cells (h.live x (subst (λ (k : View). named.IsLive x k) e l));
  given = λ x. rw (cells, given) (h.given x);
  memory = rw e room;
  admitted = rw e small;
}

-- what the fields show is well formed
pub formed : {max : ℕ} {v : View} {t : Table} → IsWellFormed v → AreNames v → IsGuarded max v t → (realm step : ℕ) → realm ≤ 4294967295 → step ≤ 4294967295
    → state.IsWellFormed (guard v t realm step)
formed {max} {v} {t} w names is realm step small few = record { space = w; names = names; live = is.live; given = is.given; realm = small; step = few }

-- ---- reasons
-- what is so of a reason of the allocator is so of the reason that is made of it
pub why_for : (P : OfSpace → Type 0) (Q : Type 0) (w : OfSpace) (r : Refusal) → r ≡ for_space w → P w → MatchOption (of_space r) Q P
why_for P Q w r e p = subst (λ (r : Refusal). MatchOption (of_space r) Q P) (sym e) (go w p)
  where
    go : (w : OfSpace) → P w → MatchOption (of_space (for_space w)) Q P
    go why.Nodes p = p
    go why.TooLarge p = p
    go why.Space p = p
    go why.Fragmented p = p

-- ---- names
-- a live name is below the node limit
pub name_below : (x : ℕ) (v : View) → IsWellFormed v → named.IsLive x v → x < v.max_allocs
name_below x v w h = elim (cases_lt x v.max_allocs) [
  | inl l ↦ l
  | inr m ↦ absurd (no_range x v (w.below x (omega (arith, m))) h)
]
