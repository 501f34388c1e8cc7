-- The live ranges beside one another: their numbers, and those of the plain machine.
use Rattle.offset_calls.proofs.Common.{◌≡◌, ℕ, ◌+◌, Bool, true, false, not, List, [], ◌∷◌, ◌++◌, length, reverse, Option, Some, None, option_map, option_and_then, if◌then◌else◌, refl, sym, ap, ap₂}
use Rattle.offset_calls.proofs.Common.{subst, subst₂, ◌∙◌, inl, inr, arith, AllByRecursion, reverse-append, Block, View, Handle, Place, IsWellFormed, units, Placed, placed, listing, kept_name}
use Rattle.offset_calls.proofs.Common.{AreKept, Tag, Live, Free, State, is_free, Ticket, Guard, AreAllTickets, handles_of}
use Rattle.std.specs.{List.slice_index, Option.option_or}
use Rattle.offset_allocator.specs.{View.place_of, Reporting.Listing.placed_at}
use Rattle.offset_allocator.specs.Reporting.Walking.{first_handle, first_live, last_live, live_before, live_after}
use Rattle.offset_allocator.proofs.Views.ViewPlaces.{place_at}
use Rattle.offset_guarded.specs.Guard.{ticket_at}
use Rattle.offset_script.specs.Agreement.{Label, by_name, HasBlocksOf}
use Rattle.offset_script.proofs.{Chosen.Spot, Chosen.named_place, Chosen.plain_place}
use Rattle.offset_script.proofs.{Ends.total_units, Labels.names, Labels.tags, Members.IsIn, Members.in_left, Members.in_right, Well.IsWell}
use Rattle.offset_calls.specs.declared.calls.LiveRange.{LiveRange}
use Rattle.offset_calls.specs.{Calls.Found, Steps.AreNumbers, Steps.Finds, Steps.IsKeptSome, Steps.IsNumbered}
use Rattle.offset_calls.specs.Ending as plain
use Rattle.offset_calls.proofs.{Compacted.one_number, Kept.number_kept, Resized.found, Resized.spot, Tickets.kept_serial}

-- ---- grants that are kept

abbrev AreUsedKept : List (Option Handle) → List Block → Type 0
AreUsedKept handles bs = AllByRecursion (λ (b : Block). b.used ≡ true → (k : ℕ) × (kept_name handles k ≡ Some b.name)) bs

-- the grants of placed blocks are kept
abbrev AreAllKept : List (Option Handle) → List Placed → Type 0
AreAllKept handles ps = AllByRecursion (λ (p : Placed). (g : Handle) → p.handle ≡ Some g → (k : ℕ) × (kept_name handles k ≡ Some g.name)) ps

kept-append : (handles : List (Option Handle)) (ps qs : List Placed) → AreAllKept handles ps → AreAllKept handles qs → AreAllKept handles (ps ++ qs)
kept-append handles [] qs a b = b
kept-append handles (p ∷ ps) qs a b = (a.0, kept-append handles ps qs a.1 b)

kept-reverse : (handles : List (Option Handle)) (ps : List Placed) → AreAllKept handles ps → AreAllKept handles (reverse ps)
kept-reverse handles [] a = tt
kept-reverse handles (p ∷ ps) a = subst (AreAllKept handles) (sym (reverse-append (p ∷ []) ps)) (kept-append handles (reverse ps) (p ∷ []) (kept-reverse handles ps a.1) (a.0, tt))

-- the grant of a block
abbrev grant_if : Bool → ℕ → ℕ → Option Handle
grant_if u x o = if u then Some (record { name = x; offset = o }) else None

kept-placed : (handles : List (Option Handle)) (o : ℕ) (bs : List Block) → AreUsedKept handles bs → AreAllKept handles (placed o bs)
kept-placed handles o [] a = tt
kept-placed handles o (b ∷ bs) a = (go b.used refl, kept-placed handles (o + b.size) bs a.1)
  where
    go : (u : Bool) → b.used ≡ u → (g : Handle) → grant_if b.used b.name o ≡ Some g → (k : ℕ) × (kept_name handles k ≡ Some g.name)
    go true u g e = search (arith, option_map)
    go false u g e = absurd (let f : grant_if false b.name o ≡ Some g = sym (ap (λ v. grant_if v b.name o) u) ∙ e in cc)

kept-listing : (v : View) (handles : List (Option Handle)) → AreKept v handles → AreAllKept handles (listing v)
kept-listing v handles a = kept-reverse handles (placed 0 v.blocks) (kept-placed handles 0 v.blocks a)

-- ---- the first grant of placed blocks

-- its handle is kept, where those of all are
first_step : (handles : List (Option Handle)) (o p : Option Handle) → IsKeptSome handles o → IsKeptSome handles p → IsKeptSome handles (option_or o p)
first_step handles None p a b = b
first_step handles (Some g) p a b = a

first_kept : (handles : List (Option Handle)) (ps : List Placed) → AreAllKept handles ps → IsKeptSome handles (first_handle ps)
first_kept handles [] a = λ g e. absurd (cc)
first_kept handles (p ∷ ps) a = first_step handles p.handle (first_handle ps) a.0 (first_kept handles ps a.1)

pub front_kept : (v : View) (handles : List (Option Handle)) → AreKept v handles → IsKeptSome handles (first_live v)
front_kept v handles a = first_kept handles (placed 0 v.blocks) (kept-placed handles 0 v.blocks a)

pub last_kept : (v : View) (handles : List (Option Handle)) → AreKept v handles → IsKeptSome handles (last_live v)
last_kept v handles a = first_kept handles (listing v) (kept-listing v handles a)

kept_parts : (handles : List (Option Handle)) (xs ys : List Block) → AreUsedKept handles (xs ++ ys) → AreUsedKept handles xs × AreUsedKept handles ys
kept_parts handles [] ys a = (tt, a)
kept_parts handles (x ∷ xs) ys a = let r = kept_parts handles xs ys a.1 in ((a.0, r.0), r.1)

none_kept : (handles : List (Option Handle)) → IsKeptSome handles None
none_kept handles g e = absurd (cc)

-- of a block that is used, the range before it or after it
if_kept : (handles : List (Option Handle)) (b : Bool) (o : Option Handle) → IsKeptSome handles o → IsKeptSome handles (if b then o else None)
if_kept handles true o k = k
if_kept handles false o k = none_kept handles

module _ (x : ℕ) (v : View) (handles : List (Option Handle)) (a : AreKept v handles) where
  at_place : (f : Place → Option Handle) → ((p : Place) → AreUsedKept handles p.before → AreUsedKept handles p.after → IsKeptSome handles (f p)) → (o : Option Place) → place_of x v.blocks ≡ o
      → IsKeptSome handles (option_and_then (λ (p : Place). if p.block.used then f p else None) o)
  at_place f each None e = none_kept handles
  at_place f each (Some p) e =
      let parts = kept_parts handles p.before (p.block ∷ p.after) (subst (AreUsedKept handles) (place_at x v.blocks p e).0 a) in
      if_kept handles p.block.used (f p) (each p parts.0 parts.1.1)

  pub before_kept : IsKeptSome handles (live_before x v)
  before_kept = at_place (λ p. first_handle (reverse (placed 0 p.before))) (λ p b c. first_kept handles _ (kept-reverse handles (placed 0 p.before) (kept-placed handles 0 p.before b)))
      (place_of x v.blocks) refl

  pub after_kept : IsKeptSome handles (live_after x v)
  after_kept = at_place (λ p. first_handle (placed (units p.before + p.block.size) p.after)) (λ p b c. first_kept handles _ (kept-placed handles (units p.before + p.block.size) p.after c))
      (place_of x v.blocks) refl

-- ---- numbers

-- by the numbers at names
pub finds_some : (handles : List (Option Handle)) (numbers : List ℕ) (o : Option Handle) (g : Handle) (n m : ℕ) → AreNumbers handles (length handles) numbers → IsKeptSome handles o
    → o ≡ Some g → n ≡ slice_index numbers g.name → m ≡ g.offset → Finds handles o (Found (Some (record { number = n; offset = m })))
finds_some handles numbers o g n m a kept e f h =
    let k = kept g e in (
      Some (record { number = n; offset = m }),
      subst (λ x. IsNumbered handles x (Some (record { number = n; offset = m }))) (sym e) (number_kept handles numbers k.0 n g.name g.name a k.1 f refl, h),
      refl,
    )

-- by serials
pub are_serials : (g : Guard) (ts : List Ticket) (o : Option Handle) → AreAllTickets g ts → IsKeptSome (handles_of g ts) o
    → IsNumbered (handles_of g ts) o (option_map (λ (t : Ticket). record { number = t.serial; offset = t.offset }) (option_map (λ (h : Handle). ticket_at h g) o))
are_serials g ts None is kept = tt
are_serials g ts (Some h) is kept = let k = kept h refl in (subst (λ n. kept_name (handles_of g ts) n ≡ Some h.name) (sym (kept_serial g ts k.0 h.name is k.1)) k.1, refl)

-- ---- the plain machine

-- a grant, and a live range, of one label
abbrev AreOf : List Label → Option Handle → Option LiveRange → Type 0
AreOf ls None None = Unit {0}
AreOf ls (Some g) (Some r) = (l : Label) × IsIn l ls × (l.tag ≡ Live r.number) × (l.name ≡ g.name) × (r.offset ≡ g.offset)
AreOf ls g r = ⊥

more_of : (ls : List Label) (l : Label) (a : Option Handle) (b : Option LiveRange) → AreOf ls a b → AreOf (l ∷ ls) a b
more_of ls l None None h = tt
more_of ls l (Some g) (Some r) h = (h.0, inr h.1, h.2, h.3, h.4)
more_of ls l None (Some r) h = absurd h
more_of ls l (Some g) None h = absurd h

-- of one label
here_of : (o : ℕ) (l : Label) (ls : List Label) (t : Tag) → l.tag ≡ t → AreOf (l ∷ ls) (if not (is_free t) then Some (record { name = l.name; offset = o }) else None) (plain.live_range o t)
here_of o l ls (Live k) e = (l, inl refl, e, refl, refl)
here_of o l ls (Free s) e = tt

or_of : (ls : List Label) (a c : Option Handle) (b d : Option LiveRange) → AreOf ls a b → AreOf ls c d → AreOf ls (option_or a c) (option_or b d)
or_of ls None c None d h k = k
or_of ls (Some g) c (Some r) d h k = h
or_of ls None c (Some r) d h k = absurd h
or_of ls (Some g) c None d h k = absurd h

first_of : (o : ℕ) (ls : List Label) → AreOf ls (first_handle (placed o (names ls))) (plain.first_live o (tags ls))
first_of o [] = tt
first_of o (l ∷ ls) = or_of (l ∷ ls) _ _ _ _ (here_of o l ls l.tag refl) (more_of ls l _ _ (first_of (o + l.size) ls))

first_last : (ps : List Placed) (p : Placed) → first_handle (ps ++ p ∷ []) ≡ option_or (first_handle ps) p.handle
first_last [] p = whole p.handle
  where
    whole : (o : Option Handle) → option_or o None ≡ o
    whole None = refl
    whole (Some g) = refl
first_last (q ∷ ps) p = ap (option_or q.handle) (first_last ps p) ∙ apart q.handle (first_handle ps) p.handle
  where
    apart : (a b c : Option Handle) → option_or a (option_or b c) ≡ option_or (option_or a b) c
    apart None b c = refl
    apart (Some g) b c = refl

last_of : (o : ℕ) (ls : List Label) → AreOf ls (first_handle (reverse (placed o (names ls)))) (plain.last_live o (tags ls))
last_of o [] = tt
last_of o (l ∷ ls) =
    let ps = placed (o + l.size) (names ls) in
    let p = placed_at o (by_name l) in
    let e = ap first_handle (reverse-append (p ∷ []) ps) ∙ first_last (reverse ps) p in
    subst (λ a. AreOf (l ∷ ls) a (plain.last_live o (tags (l ∷ ls)))) (sym e)
    (or_of (l ∷ ls) _ _ _ _ (more_of ls l _ _ (last_of (o + l.size) ls)) (here_of o l ls l.tag refl))

module _ (v : View) (handles : List (Option Handle)) (s : State) (w : IsWellFormed v) (ws : IsWell s) (g : HasBlocksOf v (kept_name handles) s) where
  -- what has the number of a label is its range
  same_range : (ls : List Label) → ((l : Label) → IsIn l ls → IsIn l g.labels) → (a : Option Handle) (b c : Option LiveRange) → AreOf ls a b → IsNumbered handles a c → c ≡ b
  same_range ls within None None None h n = refl
  same_range ls within None None (Some q) h n = absurd n
  same_range ls within (Some x) (Some r) None h n = absurd n
  same_range ls within (Some x) (Some r) (Some q) h n =
      let k : q.number ≡ r.number = one_number v handles s w ws g h.0 (within h.0 h.1) r.number h.2 q.number (n.0 ∙ ap Some (sym h.3)) in
      ap₂ (λ (k o : ℕ). Some (record { number = k; offset = o })) k (n.1 ∙ sym h.4)
  same_range ls within None (Some r) c h n = absurd h
  same_range ls within (Some x) None c h n = absurd h

  pub first_same : (r : Option LiveRange) → IsNumbered handles (first_live v) r → r ≡ plain.first_live 0 s.blocks
  first_same r n = same_range g.labels (λ l i. i) (first_live v) (plain.first_live 0 s.blocks) r
      (subst₂ (λ bs cs. AreOf g.labels (first_handle (placed 0 bs)) (plain.first_live 0 cs)) (sym g.view) (sym g.state) (first_of 0 g.labels)) n

  pub last_same : (r : Option LiveRange) → IsNumbered handles (last_live v) r → r ≡ plain.last_live 0 s.blocks
  last_same r n = same_range g.labels (λ l i. i) (last_live v) (plain.last_live 0 s.blocks) r
      (subst₂ (λ bs cs. AreOf g.labels (first_handle (reverse (placed 0 bs))) (plain.last_live 0 cs)) (sym g.view) (sym g.state) (last_of 0 g.labels)) n

  module _ (k x : ℕ) (e : kept_name handles k ≡ Some x) where
    abbrev at : Spot
    at = spot v (kept_name handles) s w ws g k x e

    within_before : (l : Label) → IsIn l at.before → IsIn l g.labels
    within_before l i = subst (IsIn l) (sym (found v (kept_name handles) s w ws g k x e).split) (in_left l at.before (at.label ∷ at.after) i)

    within_after : (l : Label) → IsIn l at.after → IsIn l g.labels
    within_after l i = subst (IsIn l) (sym (found v (kept_name handles) s w ws g k x e).split) (in_right l at.before (at.label ∷ at.after) (inr i))

    used_there : (f : Place → Option Handle) → option_and_then (λ (p : Place). if p.block.used then f p else None) (place_of x v.blocks) ≡ f (named_place at)
    used_there f =
        let l = found v (kept_name handles) s w ws g k x e in
        ap (option_and_then (λ (p : Place). if p.block.used then f p else None)) l.named ∙ ap (λ t. if not (is_free t) then f (named_place at) else None) l.tag

    pub before_same : (r : Option LiveRange) → IsNumbered handles (live_before x v) r → r ≡ plain.live_before (plain_place at)
    before_same r n = same_range at.before within_before _ _ r (last_of 0 at.before)
        (subst (λ a. IsNumbered handles a r) (used_there (λ p. first_handle (reverse (placed 0 p.before)))) n)

    pub after_same : (r : Option LiveRange) → IsNumbered handles (live_after x v) r → r ≡ plain.live_after (plain_place at)
    after_same r n = same_range at.after within_after _ _ r
        (subst (λ m. AreOf at.after (first_handle (placed (units (names at.before) + at.label.size) (names at.after)))
        (plain.first_live (m + at.label.size) (tags at.after))) (sym (total_units at.before))
        (first_of (units (names at.before) + at.label.size) at.after))
        (subst (λ a. IsNumbered handles a r) (used_there (λ p. first_handle (placed (units p.before + p.block.size) p.after))) n)
