-- A compaction: what is left agrees with the plain machine, and the moves are the same.
use Rattle.offset_calls.proofs.Common.{◌≡◌, ℕ, ◌+◌, ◌≤◌, Bool, true, false, not, ◌&&◌, List, [], ◌∷◌, ◌++◌, length, replicate, sum, Option, Some, None, nat_eq, if◌then◌else◌, refl, sym, ap, ap₂}
use Rattle.offset_calls.proofs.Common.{subst, subst₂, ◌∙◌, inl, inr, arith, eq-eqb, ne_eqb, length-append, cases_eq, true≢false, false≢true, map-append, length-replicate, AllByRecursion, Block, View}
use Rattle.offset_calls.proofs.Common.{Handle, one, count_named, bin_at, push_all, IsWellFormed, Compacts, kept_name, Tag, Live, Free, State, is_free, has_number, free_sizes, stamp_of_call, Move}
use Rattle.offset_calls.proofs.Common.{moves, gathered, compact, number, AreNumbered}
use Rattle.offset_allocator.specs.Classes.{down}
use Rattle.offset_allocator.proofs.{Emptied.none_at, Classes.down_small, Tallies.hit_cases, Views.ViewBins.names_same, Views.ViewBins.names_other}
use Rattle.offset_script.specs.Agreement.{Label, by_name, by_tag, name_of, IsFalling, stamp_of, HasBlocksOf}
use Rattle.offset_script.proofs.Lists.{AreApart, apart_append, count, hit, count-append, ends_free, starts_free}
use Rattle.offset_script.proofs.{Ends.free_sizes_labels, Ends.name_append, Ends.or_none, Labels.names, Labels.tags, Members.IsIn, Well.IsWell, Well.well_leaves}
use Rattle.offset_script.specs.Totals.{live}
use Rattle.offset_allocator.specs.View as named
use Rattle.offset_allocator.specs.Moving.Compacting as named_moves
use Rattle.offset_script.specs.Machine as machine

-- lists of live blocks

pub count_live : (t : Tag) (bs : List machine.Block) → count t (live bs) ≤ count t bs
count_live t [] = omega arith
count_live t (b ∷ bs) = search (arith, (count_live t bs), not)

pub length_live : (bs : List machine.Block) → length (live bs) + length (free_sizes bs) ≡ length bs
length_live [] = refl
length_live (b ∷ bs) = search (arith, (length_live bs), not, length)

-- live blocks are apart
apart_cons : (b : machine.Block) (bs : List machine.Block) → is_free b.tag ≡ false → AreApart bs → AreApart (b ∷ bs)
apart_cons b bs e a = (ap (λ x. x && starts_free bs) e, a)

pub apart_live : (bs : List machine.Block) → AreApart (live bs)
apart_live [] = tt
apart_live (b ∷ bs) = search (arith, (apart_live bs), not, apart_cons)

ends_cons : (b : machine.Block) (bs : List machine.Block) → is_free b.tag ≡ false → ends_free bs ≡ false → ends_free (b ∷ bs) ≡ false
ends_cons b [] e f = e
ends_cons b (c ∷ bs) e f = f

pub ends_of_live : (bs : List machine.Block) → ends_free (live bs) ≡ false
ends_of_live [] = refl
ends_of_live (b ∷ bs) = search (arith, (ends_of_live bs), ends_free, not, ends_cons)

-- what a compaction leaves is well-formed
well_gathered : (s : State) → IsWell s → (ns : List ℕ) → free_sizes s.blocks ≡ ns → IsWell (machine.leaves s (live s.blocks ++ gathered (stamp_of_call s) ns) machine.Freed).state
well_gathered s w [] e = search (arith, well_leaves, length_live, length, length-append, apart_append, apart_live, ends_of_live, count_live, count-append)
well_gathered s w (n ∷ ns) e = search (arith, well_leaves, length-append, length_live, length, apart_append, apart_live, ends_of_live, count_live, count-append)

pub well_compact : (s : State) → IsWell s → IsWell (compact s).state
well_compact s w = well_gathered s w (free_sizes s.blocks) refl

-- labels of live blocks
abbrev pub live_labels : List Label → List Label
live_labels [] = []
live_labels (l ∷ ls) = if is_free l.tag then live_labels ls else l ∷ live_labels ls

pub live_names : (ls : List Label) → names (live_labels ls) ≡ named_moves.live (names ls)
live_names [] = refl
live_names (l ∷ ls) = search (arith, (live_names ls), not)

pub live_tags : (ls : List Label) → tags (live_labels ls) ≡ live (tags ls)
live_tags [] = refl
live_tags (l ∷ ls) = search (arith, (live_tags ls), not)

no_number : (k : ℕ) (t : Tag) → is_free t ≡ true → has_number k t ≡ false
no_number k (Live j) e = absurd (false≢true e)
no_number k (Free s) e = refl

pub live_name_of : (k : ℕ) (ls : List Label) → name_of k (live_labels ls) ≡ name_of k ls
live_name_of k [] = refl
live_name_of k (l ∷ ls) = search (arith, (live_name_of k ls), name_of, no_number)

-- the label of the free block
abbrev gathered_label : ℕ → ℕ → List ℕ → List Label
gathered_label x t [] = []
gathered_label x t (n ∷ ns) = (record { name = x; size = n + sum ns; tag = Free t }) ∷ []

gathered_names : (x t : ℕ) (ns : List ℕ) → names (gathered_label x t ns) ≡ named_moves.gathered x ns
gathered_names x t [] = refl
gathered_names x t (n ∷ ns) = refl

gathered_tags : (x t : ℕ) (ns : List ℕ) → tags (gathered_label x t ns) ≡ gathered t ns
gathered_tags x t [] = refl
gathered_tags x t (n ∷ ns) = refl

gathered_name_of : (k x t : ℕ) (ns : List ℕ) → name_of k (gathered_label x t ns) ≡ None
gathered_name_of k x t [] = refl
gathered_name_of k x t (n ∷ ns) = refl

-- its bin
gathered_newest : (f : ℕ → ℕ) (x : ℕ) (ns : List ℕ) (c : ℕ) → IsFalling f (bin_at (push_all (named_moves.gathered x ns) (replicate 256 [])) c)
gathered_newest f x [] c = subst (IsFalling f) (sym (none_at c)) tt
gathered_newest f x (n ∷ ns) c = elim (cases_eq c (down (n + sum ns))) [
  | inl e ↦ subst (λ d. IsFalling f (bin_at (push_all (named_moves.gathered x (n ∷ ns)) (replicate 256 [])) d)) (sym e)
      (subst (IsFalling f) (sym (names_same (replicate 256 []) (down (n + sum ns)) _ (length-replicate {A = List ℕ} 256 []) (down_small (n + sum ns))))
      (subst (λ l. IsFalling f (x ∷ l)) (sym (none_at (down (n + sum ns)))) ((λ y m. absurd (omega arith)), tt)))
  | inr d ↦ subst (IsFalling f) (sym (names_other (replicate 256 []) (down (n + sum ns)) c _ d ∙ none_at c)) tt
]

-- what a compaction leaves agrees
pub compact_agrees : (v : View) (kept_name : ℕ → Option ℕ) (s : State) → HasBlocksOf v kept_name s → (u : View) → Compacts v u → HasBlocksOf u kept_name (compact s).state
compact_agrees v kept_name s g u f =
    let free = gathered_label f.name (stamp_of_call s) (free_sizes s.blocks) in
    let same_sizes : free_sizes s.blocks ≡ named.free_sizes v.blocks = ap free_sizes g.state ∙ free_sizes_labels g.labels ∙ sym (ap named.free_sizes g.view) in
    let view = ap (λ (x : View). x.blocks) f.view ∙ ap₂ (λ a b. a ++ b) (ap named_moves.live g.view ∙ sym (live_names g.labels))
    (ap (named_moves.gathered f.name) (sym same_sizes) ∙ sym (gathered_names f.name (stamp_of_call s) (free_sizes s.blocks))) ∙ sym (map-append by_name (live_labels g.labels) free) in
    let state = ap₂ (λ a b. a ++ b) (ap live g.state ∙ sym (live_tags g.labels)) (sym (gathered_tags f.name (stamp_of_call s) (free_sizes s.blocks)))
    ∙ sym (map-append by_tag (live_labels g.labels) free) in
    let newest = λ (c : ℕ). subst (λ o. IsFalling (λ x. stamp_of x (live_labels g.labels ++ free)) (bin_at o c)) (sym (ap (λ (x : View). x.bins) f.view))
    (gathered_newest _ f.name (named.free_sizes v.blocks) c) in
    let limit = g.limit ∙ sym (ap (λ (x : View). x.max_allocs) f.view) in
    let handles : (k : ℕ) → kept_name k ≡ name_of k (live_labels g.labels ++ free) = λ k. search (arith, g.handles, live_name_of, or_none, gathered_name_of, name_append) in
    record { labels = live_labels g.labels ++ free; view = view; state = state; limit = limit; newest = newest; handles = handles }

-- the numbers of names

-- a name of a grant is that of a block
name_there : (j x : ℕ) (ls : List Label) → name_of j ls ≡ Some x → 1 ≤ count_named x (names ls)
name_there j x [] e = absurd (cc)
name_there j x (l ∷ ls) e = search (arith, (name_there j x ls), name_of, names, hit_cases)

label_there : (l : Label) (ls : List Label) → IsIn l ls → 1 ≤ count_named l.name (names ls)
label_there l [] i = absurd i
label_there l (m ∷ ls) (inl e) = elim (hit_cases l.name m.name) [ inl i ↦ omega (arith, i.1) | inr i ↦ absurd (i.0 (ap (λ (l : Label). l.name) e)) ]
label_there l (m ∷ ls) (inr i) = let r = label_there l ls i in omega arith

-- the grant of a name is that of its label
only_number : (j k : ℕ) (ls : List Label) (l : Label) → count_named l.name (names ls) ≤ 1 → name_of j ls ≡ Some l.name → IsIn l ls → l.tag ≡ Live k → j ≡ k
only_number j k [] l few e i t = absurd i
only_number j k (m ∷ ls) l few e i t = go (has_number j m.tag) refl i (λ f e h. only_number j k ls l f e h t)
  where
    rest : has_number j m.tag ≡ false → name_of j ls ≡ Some l.name
    rest h = sym (ap (λ b. if b then Some m.name else name_of j ls) h) ∙ e

    here : has_number j m.tag ≡ true → m.name ≡ l.name
    here h = let f : Some m.name ≡ Some l.name = sym (ap (λ b. if b then Some m.name else name_of j ls) h) ∙ e in cc

    twice : m.name ≡ l.name → 1 ≤ count_named l.name (names ls) → ⊥
    twice n o = elim (hit_cases l.name m.name) [ inl h ↦ omega (arith, h.1, few, o) | inr h ↦ h.0 (sym n) ]

    same : (a b : ℕ) (c : Tag) → has_number a c ≡ true → c ≡ Live b → a ≡ b
    same a b c h d = let z : nat_eq a b ≡ true = sym (ap (has_number a) d) ∙ h in elim (cases_eq a b) [ inl e ↦ e | inr n ↦ absurd (true≢false (sym z ∙ ne_eqb a b n)) ]

    go : (b : Bool) → has_number j m.tag ≡ b → IsIn l (m ∷ ls) → (count_named l.name (names ls) ≤ 1 → name_of j ls ≡ Some l.name → IsIn l ls → j ≡ k) → j ≡ k
    go true h (inl f) ih = same j k m.tag h (sym (ap (λ (l : Label). l.tag) f) ∙ t)
    go true h (inr f) ih = absurd (twice (here h) (label_there l ls f))
    go false h (inl f) ih = absurd (twice (sym (ap (λ (l : Label). l.name) f)) (name_there j l.name ls (rest h)))
    go false h (inr f) ih = ih (omega (arith, few)) (rest h) f

-- the name of a live label is found
pub name_found : (k : ℕ) (ls : List Label) (l : Label) → count (Live k) (tags ls) ≤ 1 → IsIn l ls → l.tag ≡ Live k → name_of k ls ≡ Some l.name
name_found k [] l few i t = absurd i
name_found k (m ∷ ls) l few (inl f) t = search (arith, name_of, eq-eqb)
name_found k (m ∷ ls) l few (inr f) t = go (has_number k m.tag) refl (λ few. name_found k ls l few f t)
  where
    there : (l : Label) (ls : List Label) → IsIn l ls → l.tag ≡ Live k → 1 ≤ count (Live k) (tags ls)
    there l [] i t = absurd i
    there l (m ∷ ls) (inl f) t = let h : hit (Live k) m.tag ≡ 1 = ap (hit (Live k)) (sym (ap (λ (l : Label). l.tag) f) ∙ t) ∙ ap one (eq-eqb k k refl) in omega arith
    there l (m ∷ ls) (inr f) t = let r = there l ls f t in omega arith

    hits : (t : Tag) → has_number k t ≡ true → hit (Live k) t ≡ 1
    hits (Live j) h = ap one h
    hits (Free s) h = absurd (false≢true h)

    go : (b : Bool) → has_number k m.tag ≡ b → (count (Live k) (tags ls) ≤ 1 → name_of k ls ≡ Some l.name) → name_of k (m ∷ ls) ≡ Some l.name
    go true h ih = absurd (let x = hits m.tag h in let y = there l ls f t in omega (arith, few))
    go false h ih = ap (λ b. if b then Some m.name else name_of k ls) h ∙ ih (omega (arith, few))

pub same_move : (m : Move) (k from to size : ℕ) → m.number ≡ k → m.from ≡ from → m.to ≡ to → m.size ≡ size → m ≡ record { number = k; from = from; to = to; size = size }
same_move m k from to size e f g h = search (arith)

-- the moves of a block and those after it
abbrev named_step : ℕ → ℕ → Label → List Label → Bool → Bool → List named_moves.Move
named_step from to l ls u b = if u then (if b then [] else record { name = l.name; from = from; to = to; size = l.size } ∷ [])
    ++ named_moves.moves (from + l.size) (to + l.size) (names ls) else named_moves.moves (from + l.size) to (names ls)

abbrev plain_step : ℕ → ℕ → Label → List Label → Tag → Bool → List Move
plain_step from to l ls t b = if is_free t then moves (from + l.size) to (tags ls) else (if b then [] else record { number = number t; from = from; to = to; size = l.size } ∷ [])
    ++ moves (from + l.size) (to + l.size) (tags ls)

-- the moves are those of the plain machine, where the name of each label has one number
pub moves_agree : (handles : List (Option Handle)) (from to : ℕ) (ls : List Label) (ms : List Move)
    → ((l : Label) → IsIn l ls → (k : ℕ) → l.tag ≡ Live k → (j : ℕ) → kept_name handles j ≡ Some l.name → j ≡ k)
    → AreNumbered handles (named_moves.moves from to (names ls)) ms → ms ≡ moves from to (tags ls)
moves_agree handles from to [] [] h a = refl
moves_agree handles from to [] (m ∷ ms) h a = absurd a
moves_agree handles from to (l ∷ ls) ms h a = go l.tag refl (nat_eq from to) refl ms a (λ t r. moves_agree handles (from + l.size) t ls r (λ x i. h x (inr i)))
  where
    first : (k : ℕ) → l.tag ≡ Live k → (ms : List Move)
        → ((r : List Move) → AreNumbered handles (named_moves.moves (from + l.size) (to + l.size) (names ls)) r → r ≡ moves (from + l.size) (to + l.size) (tags ls))
        → AreNumbered handles (record { name = l.name; from = from; to = to; size = l.size } ∷ named_moves.moves (from + l.size) (to + l.size) (names ls)) ms
        → ms ≡ record { number = k; from = from; to = to; size = l.size } ∷ moves (from + l.size) (to + l.size) (tags ls)
    first k t [] ih a = absurd a
    first k t (m ∷ ms) ih a = ap₂ (λ (x : Move) y. x ∷ y) (same_move m k from to l.size (h l (inl refl) k t m.number a.0) a.1 a.2 a.3) (ih ms a.4)

    go : (t : Tag) → l.tag ≡ t → (b : Bool) → nat_eq from to ≡ b → (ms : List Move) → AreNumbered handles (named_step from to l ls (not (is_free l.tag)) (nat_eq from to)) ms
        → ((t : ℕ) (r : List Move) → AreNumbered handles (named_moves.moves (from + l.size) t (names ls)) r → r ≡ moves (from + l.size) t (tags ls))
        → ms ≡ plain_step from to l ls l.tag (nat_eq from to)
    go (Free s) t b e ms a ih = search (arith, not, nat_eq)
    go (Live k) t true e ms a ih = ih (to + l.size) ms (subst₂ (λ y b. AreNumbered handles (named_step from to l ls (not (is_free y)) b) ms) t e a) ∙ sym (ap₂ (plain_step from to l ls) t e)
    go (Live k) t false e ms a ih = first k t ms (ih (to + l.size)) (subst₂ (λ y b. AreNumbered handles (named_step from to l ls (not (is_free y)) b) ms) t e a)
        ∙ sym (ap₂ (plain_step from to l ls) t e)

module _ (v : View) (handles : List (Option Handle)) (s : State) (w : IsWellFormed v) (ws : IsWell s) (g : HasBlocksOf v (kept_name handles) s) where
  pub one_number : (l : Label) → IsIn l g.labels → (k : ℕ) → l.tag ≡ Live k → (j : ℕ) → kept_name handles j ≡ Some l.name → j ≡ k
  one_number l i k t j e = only_number j k g.labels l (subst (λ bs. count_named l.name bs ≤ 1) g.view (w.distinct l.name)) (sym (g.handles j) ∙ e) i t

  pub moves_are : (ms : List Move) → AreNumbered handles (named_moves.moves 0 0 v.blocks) ms → ms ≡ moves 0 0 s.blocks
  moves_are ms a = moves_agree handles 0 0 g.labels ms one_number (subst (λ bs. AreNumbered handles (named_moves.moves 0 0 bs) ms) g.view a) ∙ ap (moves 0 0) (sym g.state)

  -- each used block has a handle
  pub all_kept : AllByRecursion (λ (b : Block). b.used ≡ true → (k : ℕ) × (kept_name handles k ≡ Some b.name)) v.blocks
  all_kept = subst (AllByRecursion (λ (b : Block). b.used ≡ true → (k : ℕ) × (kept_name handles k ≡ Some b.name))) (sym g.view) (go g.labels (λ l i. i))
    where
      live_tag : (t : Tag) → not (is_free t) ≡ true → (k : ℕ) × (t ≡ Live k)
      live_tag (Live k) e = (k, refl)
      live_tag (Free x) e = absurd (false≢true e)

      kept : (l : Label) → IsIn l g.labels → not (is_free l.tag) ≡ true → (k : ℕ) × (kept_name handles k ≡ Some l.name)
      kept l i u = let t = live_tag l.tag u in (t.0, g.handles t.0 ∙ name_found t.0 g.labels l (subst (λ bs. count (Live t.0) bs ≤ 1) g.state (ws.once (Live t.0))) i t.1)

      go : (ls : List Label) → ((l : Label) → IsIn l ls → IsIn l g.labels) → AllByRecursion (λ (b : Block). b.used ≡ true → (k : ℕ) × (kept_name handles k ≡ Some b.name)) (names ls)
      go [] f = tt
      go (l ∷ ls) f = (kept l (f l (inl refl)), go ls (λ m i. f m (inr i)))
