-- The plain machine chooses the block that a grant splits: the newest of the smallest class that fits.
use Rattle.offset_script.proofs.Common.{◌≡◌, ◌≢◌, ℕ, ◌<◌, ◌≤◌, true, false, not, List, [], ◌∷◌, ◌++◌, Option, Some, None, nat_eq, nat_lt, nat_le, refl, sym, ap, ap₂, subst, ◌∙◌, inl, arith, eq-eqb}
use Rattle.offset_script.proofs.Common.{le-leb, lt-ltb, leb-true, map-append, cases_eq, cases_lt, true≢false, and_parts, not-false, or_right, up, down, is_free, stamp, fits, is_taken_before}
use Rattle.offset_script.proofs.Common.{chosen_place, View, Handle, one, times, count_named, bin_at, IsWellFormed, Splits}
use Rattle.offset_script.specs.Agreement.{Label, by_name, by_tag, stamp_of, IsFalling}
use Rattle.offset_script.proofs.{Tests.same_some, Found.chosen_at, Found.not_chosen, Members.IsIn, Members.in_right, Members.map_split, Labels.names, Labels.tags, Labels.gives_parts, Labels.gives_all}
use Rattle.offset_allocator.specs.View.{Block, Place, place_of}
use Rattle.offset_allocator.proofs.{Views.ViewPlaces.place_here, Tallies.tally_append, Tallies.hit_cases, Tallies.one-same}
use Rattle.offset_script.specs.Machine as plain

-- a list of labels, split at one
pub record Spot : Type 0 where
  pub before : List Label
  pub label : Label
  pub after : List Label

-- the list that was split
abbrev pub whole : Spot → List Label
whole s = s.before ++ s.label ∷ s.after

-- a place of a named view
abbrev pub place_at : List Block → Block → List Block → Place
place_at xs b ys = record { before = xs; block = b; after = ys }

-- a place of a plain state
abbrev pub plain_at : List plain.Block → plain.Block → List plain.Block → plain.Place
plain_at xs b ys = record { before = xs; block = b; after = ys }

-- a spot, by names
abbrev pub named_place : Spot → Place
named_place s = record { before = names s.before; block = by_name s.label; after = names s.after }

-- a spot, by tags
abbrev pub plain_place : Spot → plain.Place
plain_place s = record { before = tags s.before; block = by_tag s.label; after = tags s.after }

-- where named blocks are split, their labels are
pub named_spot : (ls : List Label) (p : Place) → names ls ≡ p.before ++ p.block ∷ p.after → (s : Spot) × (ls ≡ whole s) × (named_place s ≡ p)
named_spot ls p e =
    let r = map_split by_name ls p.before p.block p.after e in
    (record { before = r.0; label = r.1; after = r.2 }, r.3, ap₂ (λ x y. place_at x (by_name r.1) y) r.4 r.6 ∙ ap (λ b. place_at p.before b p.after) r.5)

-- where plain blocks are split, their labels are
pub plain_spot : (ls : List Label) (p : plain.Place) → tags ls ≡ p.before ++ p.block ∷ p.after → (s : Spot) × (ls ≡ whole s) × (plain_place s ≡ p)
plain_spot ls p e =
    let r = map_split by_tag ls p.before p.block p.after e in
    (record { before = r.0; label = r.1; after = r.2 }, r.3, ap₂ (λ x y. plain_at x (by_tag r.1) y) r.4 r.6 ∙ ap (λ b. plain_at p.before b p.after) r.5)

occurs_spot : (s : Spot) → IsIn (by_tag s.label) (tags (whole s))
occurs_spot s = subst (IsIn (by_tag s.label)) (sym (map-append by_tag s.before (s.label ∷ s.after))) (in_right (by_tag s.label) (tags s.before) (by_tag s.label ∷ tags s.after) (inl refl))

-- a spot splits the named blocks
pub names_whole : (s : Spot) → names (whole s) ≡ names s.before ++ by_name s.label ∷ names s.after
names_whole s = map-append by_name s.before (s.label ∷ s.after)

-- what holds of a view and a list of labels that agree
pub record IsLabelled (v : View) (ls : List Label) : Type 0 where
  pub view : v.blocks ≡ names ls
  pub newest : (c : ℕ) → IsFalling (λ x. stamp_of x ls) (bin_at v.bins c)

-- no block before a spot has its name
pub alone_before : (v : View) → IsWellFormed v → (s : Spot) → v.blocks ≡ names (whole s) → count_named s.label.name (names s.before) ≡ 0
alone_before v w s e =
    let d = w.distinct s.label.name in
    let n = tally_append (λ (b : Block). one (nat_eq s.label.name b.name)) (names s.before) (by_name s.label ∷ names s.after) in
    omega (arith, one-same s.label.name, ap (count_named s.label.name) (e ∙ names_whole s))

-- a spot is the place of its name
pub place_of_spot : (v : View) → IsWellFormed v → (s : Spot) → v.blocks ≡ names (whole s) → place_of s.label.name v.blocks ≡ Some (named_place s)
place_of_spot v w s e = ap (place_of s.label.name) (e ∙ names_whole s) ∙ place_here s.label.name (names s.before) (by_name s.label) (names s.after) (alone_before v w s e) refl

-- a free block is listed in its class
pub listed_spot : (v : View) → IsWellFormed v → (s : Spot) → v.blocks ≡ names (whole s) → is_free s.label.tag ≡ true → 1 ≤ times s.label.name (bin_at v.bins (down s.label.size))
listed_spot v w s e f = search (arith, names_whole, tally_append, not, nat_eq, names, by_name, eq-eqb)

-- the stamp of the name at a spot
pub spot_stamp : (v : View) → IsWellFormed v → (s : Spot) → v.blocks ≡ names (whole s) → stamp_of s.label.name (whole s) ≡ stamp s.label.tag
spot_stamp v w s e = (gives_parts (λ x. stamp_of x (whole s)) s.before (s.label ∷ s.after) (gives_all (whole s) (λ x. let d = w.distinct x in let n = ap (count_named x) e in omega arith))).1.0

-- of two blocks of a class the newer is chosen
pub newer_before : (a b : Label) → down a.size ≡ down b.size → stamp b.tag < stamp a.tag → is_taken_before (by_tag a) (by_tag b) ≡ true
newer_before a b e l = rw (eq-eqb (down a.size) (down b.size) e, lt-ltb (stamp b.tag) (stamp a.tag) l) (or_right (nat_lt (down a.size) (down b.size)) true refl)

module _ (v : View) (w : IsWellFormed v) (ls : List Label) (a : IsLabelled v ls) (n : ℕ) where
  -- the place that the machine chooses
  chosen_spot : (p : plain.Place) → chosen_place n (tags ls) ≡ Some p → (s : Spot) × (ls ≡ whole s) × (plain_place s ≡ p) × (is_free s.label.tag ≡ true) × (up n ≤ down s.label.size)
  chosen_spot p e =
      let c = chosen_at n (tags ls) p e in
      let r = plain_spot ls p c.0 in
      let parts = and_parts (is_free r.0.label.tag) (nat_le (up n) (down r.0.label.size)) (ap (λ (q : plain.Place). fits n q.block) r.2 ∙ c.1) in
      (r.0, r.1, r.2, parts.0, leb-true (up n) (down r.0.label.size) parts.1)

  none_if : ((c : ℕ) × (up n ≤ c) × (bin_at v.bins c ≢ []) → ⊥) → (o : Option plain.Place) → chosen_place n (tags ls) ≡ o → o ≡ None
  none_if none None e = refl
  none_if none (Some p) e =
      let r = chosen_spot p e in
      absurd (none (down r.0.label.size, r.4, λ z. let h = listed_spot v w r.0 (a.view ∙ ap names r.1) r.3 in let k = ap (times r.0.label.name) z in absurd (omega arith)))

  -- where no bin of a large enough class has a block, the machine chooses none
  pub none_chosen : ((c : ℕ) × (up n ≤ c) × (bin_at v.bins c ≢ []) → ⊥) → chosen_place n (tags ls) ≡ None
  none_chosen none = none_if none (chosen_place n (tags ls)) refl

  module _ (m : ℕ) (padding_at : ℕ → ℕ) (u : View) (g : Handle) (t : Splits n m padding_at v u g) where
    -- where the block that is split is
    taken_spot : (s : Spot) × (ls ≡ whole s) × (named_place s ≡ place_at t.before t.block t.after) × (is_free s.label.tag ≡ true)
    taken_spot =
        let r = named_spot ls (place_at t.before t.block t.after) (sym a.view ∙ t.blocks) in
        (r.0, r.1, r.2, not-false (is_free r.0.label.tag) (ap (λ (p : Place). p.block.used) r.2 ∙ t.free))

    -- it is the first of its bin, and of another block that is chosen over all, this one has the name
    same_name : (s l : Spot) → ls ≡ whole s → named_place s ≡ place_at t.before t.block t.after → ls ≡ whole l → is_free l.label.tag ≡ true → up n ≤ down l.label.size
        → is_taken_before (by_tag s.label) (by_tag l.label) ≡ false → s.label.name ≡ l.label.name
    same_name s l es place el fl cl best =
        let class : down s.label.size ≡ down t.block.size = ap (λ (p : Place). down p.block.size) place in
        let name : s.label.name ≡ t.block.name = ap (λ (p : Place). p.block.name) place in
        let listed = listed_spot v w l (a.view ∙ ap names el) fl in
        let newer : s.label.name ≢ l.label.name → down s.label.size ≡ down l.label.size → stamp l.label.tag < stamp s.label.tag =
        λ d e. search (arith, class, stamp_of, hit_cases, name, listed, spot_stamp, names) in
        search (arith, cases_eq, cases_lt, lt-ltb, newer_before, newer, listed, class, t.smallest, times)

    -- the machine chooses it
    pub record Choice : Type 0 where
      pub spot : Spot
      pub split : ls ≡ whole spot
      pub place : named_place spot ≡ place_at t.before t.block t.after
      pub free : is_free spot.label.tag ≡ true
      pub is : chosen_place n (tags ls) ≡ Some (plain_place spot)

    pub chosen : Choice
    chosen = go (chosen_place n (tags ls)) refl
      where
        s : Spot
        s = taken_spot.0

        there : IsIn (by_tag s.label) (tags ls)
        there = subst (λ xs. IsIn (by_tag s.label) (tags xs)) (sym taken_spot.1) (occurs_spot s)

        fit : fits n (by_tag s.label) ≡ true
        fit = rw (taken_spot.3, le-leb (up n) (down s.label.size) (let e = ap (λ (p : Place). down p.block.size) taken_spot.2 in let c = t.fits in omega arith)) refl

        go : (o : Option plain.Place) → chosen_place n (tags ls) ≡ o → Choice
        go None e = absurd (true≢false (sym fit ∙ not_chosen n (tags ls) e (by_tag s.label) there))
        go (Some p) e =
            let l = chosen_spot p e in
            let best = (chosen_at n (tags ls) p e).2 (by_tag s.label) there fit in
            let name = same_name s l.0 taken_spot.1 taken_spot.2 l.1 l.3 l.4 (ap (λ (q : plain.Place). is_taken_before (by_tag s.label) q.block) l.2 ∙ best) in
            let same = same_some (named_place l.0) (named_place s)
            (sym (place_of_spot v w l.0 (a.view ∙ ap names l.1)) ∙ ap (λ x. place_of x v.blocks) (sym name) ∙ place_of_spot v w s (a.view ∙ ap names taken_spot.1)) in
            record { spot = l.0; split = l.1; place = same ∙ taken_spot.2; free = l.3; is = e ∙ ap Some (sym l.2) }
