-- Blocks with both their names and their tags.
use Rattle.offset_script.proofs.Common.{◌≡◌, ℕ, ◌+◌, ◌<◌, ◌≤◌, true, false, not, List, [], ◌∷◌, ◌++◌, map, nat_eq, refl, sym, ap, subst, ◌∙◌, inl, inr, arith, eq-eqb, ne_eqb, append_assoc, map-append}
use Rattle.offset_script.proofs.Common.{cases_lt, not-true, not-false, Tag, Live, Free, is_free, stamp, View, times, count_named, bin_at, push_all, remove_all, IsWellFormed}
use Rattle.offset_allocator.specs.View.{Block}
use Rattle.offset_script.proofs.Falling.{falling_remove_all, falling_same, falling_put_all, IsRising}
use Rattle.offset_script.specs.Agreement.{Label, by_name, by_tag, stamp_of, IsFalling}
use Rattle.offset_script.proofs.{Lists.count, Lists.hit, Lists.hit_self}
use Rattle.offset_allocator.proofs.{Tallies.tally_three, Tallies.listed_named, Tallies.tally_append, Tallies.hit_cases, Tallies.one-same, Views.ViewBins.length_remove_all}
use Rattle.offset_allocator.proofs.{Views.ViewReplaced.bins_replaced}
use Rattle.offset_script.specs.Machine as plain

-- the blocks by name
abbrev pub names : List Label → List Block
names ls = map by_name ls

-- the blocks by tag
abbrev pub tags : List Label → List plain.Block
tags ls = map by_tag ls

-- a map over three lists
pub map_three : {A B : Type 0} (f : A → B) (xs ys zs : List A) → map f (xs ++ (ys ++ zs)) ≡ map f xs ++ (map f ys ++ map f zs)
map_three f xs ys zs = map-append f xs (ys ++ zs) ∙ ap (λ l. map f xs ++ l) (map-append f ys zs)

-- stamps
pub stamp_none : (x : ℕ) (ls : List Label) → count_named x (names ls) ≡ 0 → stamp_of x ls ≡ 0
stamp_none x [] e = refl
stamp_none x (l ∷ ls) e = search (arith, hit_cases, (stamp_none x ls), ne_eqb)

-- f returns the stamp of each of these labels
abbrev pub HasStamps : (ℕ → ℕ) → List Label → Type 0
HasStamps f [] = Unit {0}
HasStamps f (l ∷ ls) = (f l.name ≡ stamp l.tag) × HasStamps f ls

-- what returns the stamps of two lists returns those of each
pub gives_parts : (f : ℕ → ℕ) (xs ys : List Label) → HasStamps f (xs ++ ys) → HasStamps f xs × HasStamps f ys
gives_parts f [] ys g = (tt, g)
gives_parts f (x ∷ xs) ys g = let r = gives_parts f xs ys g.1 in ((g.0, r.0), r.1)

stamp_at : (before : List Label) (l : Label) (after : List Label) → count_named l.name (names (before ++ l ∷ after)) ≤ 1 → stamp_of l.name (before ++ l ∷ after) ≡ stamp l.tag
stamp_at before l after most = search (arith, one-same, map-append, by_name, tally_append, nat_eq, stamp_none, eq-eqb)

gives_from : (before ls : List Label) → ((x : ℕ) → count_named x (names (before ++ ls)) ≤ 1) → HasStamps (λ x. stamp_of x (before ++ ls)) ls
gives_from before [] most = tt
gives_from before (l ∷ ls) most =
    let same : (before ++ l ∷ []) ++ ls ≡ before ++ l ∷ ls = simp append_assoc in (
      stamp_at before l ls (most l.name),
      subst (λ all. HasStamps (λ x. stamp_of x all) ls) same
          (gives_from (before ++ l ∷ []) ls (λ x. subst (λ all. count_named x (names all) ≤ 1) (sym same) (most x))),
    )

-- where each name occurs once, the stamp of a name is that of its block
pub gives_all : (ls : List Label) → ((x : ℕ) → count_named x (names ls) ≤ 1) → HasStamps (λ x. stamp_of x ls) ls
gives_all ls most = gives_from [] ls most

-- the stamp of a tag is below t, and so is that of every name
stamp_below : (t : ℕ) (u : Tag) → 1 ≤ t → ((x : ℕ) → t ≤ x → hit (Free x) u ≡ 0) → stamp u < t
stamp_below t (Live k) pos low = pos
stamp_below t (Free s) pos low = elim (cases_lt s t) [ inl b ↦ b | inr b ↦ absurd (omega (arith, low s b, hit_self (Free s))) ]

pub stamps_below : (t : ℕ) (ls : List Label) → ((x : ℕ) → count_named x (names ls) ≤ 1) → ((x : ℕ) → t ≤ x → count (Free x) (tags ls) ≡ 0) → 1 ≤ t
    → (x : ℕ) → stamp_of x ls < t
stamps_below t [] most low pos x = omega arith
stamps_below t (l ∷ ls) most low pos x =
    let here = stamp_below t l.tag pos (λ y b. let c = low y b in omega arith) in
    let ih = stamps_below t ls (λ y. let m = most y in omega arith) (λ y b. let c = low y b in omega arith) pos x in
    elim (hit_cases x l.name) [
      | inl i ↦ let m = most x in let z = stamp_none x ls (omega arith) in rw (eq-eqb x l.name i.0) (omega arith)
      | inr i ↦ rw (ne_eqb x l.name i.0) (omega arith)
    ]

-- the stamps of free blocks that are added rise from t on
abbrev pub AreRising : ℕ → List Label → Type 0
AreRising t [] = Unit {0}
AreRising t (l ∷ ls) = (is_free l.tag ≡ false → AreRising t ls) × (is_free l.tag ≡ true → (t ≤ stamp l.tag) × AreRising (stamp l.tag + 1) ls)

rises_named : (f : ℕ → ℕ) (t : ℕ) (ls : List Label) → HasStamps f ls → AreRising t ls → IsRising f t (names ls)
rises_named f t [] g r = tt
rises_named f t (l ∷ ls) g r = (
  λ e. rises_named f t ls g.1 (r.0 (not-true _ e)),
  λ e. let r' = r.1 (not-false _ e) in (omega (arith, g.0, r'.0), subst (λ n. IsRising f (n + 1) (names ls)) (sym g.0) (rises_named f (stamp l.tag + 1) ls g.1 r'.1)),
)

-- new blocks in place of old ones, where the new stamps are above the old
pub newest_replaced : (v : View) (before old new after : List Label) → IsWellFormed v → v.blocks ≡ names (before ++ (old ++ after)) → ((x : ℕ) → count_named x (names (before ++ (new ++ after))) ≤ 1)
    → (t : ℕ) → ((x : ℕ) → stamp_of x (before ++ (old ++ after)) < t) → AreRising t new → ((c : ℕ) → IsFalling (λ x. stamp_of x (before ++ (old ++ after))) (bin_at v.bins c))
    → (c : ℕ) → IsFalling (λ x. stamp_of x (before ++ (new ++ after))) (bin_at (push_all (names new) (remove_all (names old) v.bins)) c)
newest_replaced v before old new after w e distinct t low rises newest =
    let f = λ (x : ℕ). stamp_of x (before ++ (old ++ after)) in
    let f' = λ (x : ℕ). stamp_of x (before ++ (new ++ after)) in
    let parted = e ∙ map_three by_name before old after in
    let same : (d y : ℕ) → 1 ≤ times y (bin_at (remove_all (names old) v.bins) d) → f y ≡ f' y =
    λ d y m. search (arith, bins_replaced, parted, tally_three, not, nat_eq, listed_named, map_three, by_name, stamp_none) in
    let rising = rises_named f' t new (gives_parts f' new after (gives_parts f' before (new ++ after) (gives_all _ distinct)).1).0 rises in
    falling_put_all f' t (names new) (remove_all (names old) v.bins) (length_remove_all (names old) v.bins ∙ w.classes)
    (λ d. falling_same f f' _ (same d) (falling_remove_all f (names old) v.bins w.classes newest d)) (λ d y m. let s = same d y m in let l = low y in omega arith) rising
