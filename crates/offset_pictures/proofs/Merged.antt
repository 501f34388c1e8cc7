-- Where lives are on the picture, and that merging rectangles keeps the places that they cover.
use Rattle.std.proofs.Common.{◌≡◌, ℕ, ◌+◌, ◌*◌, ◌/◌, ◌%◌, ◌^◌, ◌<◌, ◌≤◌, All, Bool, true, false, not, cond, ◌||◌, List, [], ◌∷◌, map, Option, Some, None, arith, sym, ◌∙◌, ap, ap₂, refl, subst, min}
use Rattle.std.specs.{Prelude.filter, Prelude.if◌then◌else◌, List.list_any}
use Rattle.std.proofs.lemmas.Bool.Decides.{nat_tests}
use Rattle.std.proofs.lemmas.List.Elements.{All-append, All-cons, All-filter, All-head, All-map, All-nil, All-tail}
use Rattle.std.proofs.lemmas.List.Folds.{list_any-append}
use Rattle.std.proofs.lemmas.List.Sorted.{IsPermutation-map, list_any-IsPermutation}
use Rattle.offset_pictures.specs.declared.axes.Axis.{Axis}
use Rattle.offset_pictures.specs.declared.living.Life.{Life}
use Rattle.offset_pictures.specs.declared.plots.Plot.{Plot}
use Rattle.offset_pictures.specs.declared.shapes.Shape.{Shape}
use Rattle.offset_pictures.specs.{Axes.right_of, Axes.up_of, Scales.along, Merging.tiny_shapes, Merging.touch, Shapes.shape_of, Rectangles.MergedRectanglesAreDrawn}
use Rattle.offset_pictures.specs.Merging.{IsAtTenth, MergedRectanglesCoverLives, Point, covers, is_tiny, join, key_of, large_shapes, merge, merge_after, round_out, rounded_if_tiny, shape_of_key}
use Rattle.offset_pictures.proofs.{Lined.along_within, Parted.all_young, Parted.parted, Parted.young}

-- a value that is cut to 64 bits lies where it lay
pub along_capped : (span most v w : ℕ) → most < 4294967296 → v ≡ min w 18446744073709551615 → along span most v ≡ along span most w
along_capped span most v w h e = let same : min v most ≡ min w most = omega arith in ap (λ m. m * span / most) same

pub no_last : (o : Option Shape) → ((x : Shape) → o ≡ Some x → ⊥) → o ≡ None
no_last None h = refl
no_last (Some x) h = absurd (h x refl)

-- ---- merging

-- two rectangles that touch cover what their union covers
join_covers : (p : Point) (a b : Shape) → touch a b ≡ true → covers p (join a b) ≡ (covers p a || covers p b)
join_covers p a b h = grind (arith, nat_tests)

assoc : (r t b : Bool) → ((r || t) || b) ≡ (r || (t || b))
assoc true t b = refl
assoc false t b = refl

after_step : (p : Point) (a b : Shape) (bs : List Shape) (t : Bool) → touch a b ≡ t → list_any (covers p) (merge_after (join a b) bs) ≡ (covers p (join a b) || list_any (covers p) bs)
    → list_any (covers p) (merge_after b bs) ≡ (covers p b || list_any (covers p) bs)
    → list_any (covers p) (if t then merge_after (join a b) bs else a ∷ merge_after b bs) ≡ (covers p a || (covers p b || list_any (covers p) bs))
after_step p a b bs true e joined apart = joined ∙ ap (λ x. x || list_any (covers p) bs) (join_covers p a b e) ∙ assoc (covers p a) (covers p b) (list_any (covers p) bs)
after_step p a b bs false e joined apart = ap (λ x. covers p a || x) apart

-- a rectangle, as far as it has grown, and those after it
after_covers : (p : Point) (a : Shape) (bs : List Shape) → list_any (covers p) (merge_after a bs) ≡ (covers p a || list_any (covers p) bs)
after_covers p a [] = refl
after_covers p a (b ∷ bs) = after_step p a b bs (touch a b) refl (after_covers p (join a b) bs) (after_covers p b bs)

merge_covers : (p : Point) (bs : List Shape) → list_any (covers p) (merge bs) ≡ list_any (covers p) bs
merge_covers p [] = refl
merge_covers p (b ∷ bs) = after_covers p b bs

-- ---- numbers of rectangles

abbrev shape_with : ℕ → ℕ → ℕ → ℕ → ℕ → Shape
shape_with t b g l r = record { top = t; bottom = b; age = g; left = l; right = r }

same_shape : (t b g l r t' b' g' l' r' : ℕ) → t ≡ t' → b ≡ b' → g ≡ g' → l ≡ l' → r ≡ r' → shape_with t b g l r ≡ shape_with t' b' g' l' r'
same_shape t b g l r t' b' g' l' r' x y z u v = ap (λ n. shape_with n b g l r) x ∙ ap (λ n. shape_with t' n g l r) y ∙ ap (λ n. shape_with t' b' n l r) z ∙ ap₂ (shape_with t' b' g') u v

-- the number of a rectangle is that of no other
key_back : (s : Shape) → IsAtTenth s.top → IsAtTenth s.bottom → IsAtTenth s.left → IsAtTenth s.right → s.age < 8 → shape_of_key (key_of s) ≡ s
unfolding shape_of_key
key_back s top bottom left right age =
    let t = top.0 in let t' = top.1 in let b = bottom.0 in let b' = bottom.1 in let l = left.0 in let l' = left.1 in let r = right.0 in let r' = right.1 in
    same_shape (key_of s / 2 ^ 45 * 10) (key_of s / 2 ^ 31 % 2 ^ 14 * 10) (key_of s / 2 ^ 28 % 8) (key_of s / 2 ^ 14 % 2 ^ 14 * 10) (key_of s % 2 ^ 14 * 10) s.top s.bottom s.age s.left s.right
    (omega arith) (omega arith) (omega arith) (omega arith) (omega arith)

tenth_below : (n : ℕ) → n ≤ 120000 → IsAtTenth (n / 10 * 10)
tenth_below n h = (omega arith, omega arith)

tenth_above : (n : ℕ) → n ≤ 120000 → IsAtTenth ((n + 9) / 10 * 10)
tenth_above n h = (omega arith, omega arith)

-- an axis is on the picture
up_within : (a : Axis) (value : ℕ) → up_of a value ≤ 120000
up_within a value = let within = a.within in omega arith

right_within : (a : Axis) (value : ℕ) → right_of a value ≤ 120000
right_within a value = let within = a.within in let short = along_within a.span a.most value a.positive in omega arith

rounded_back : (plot : Plot) (l : Life) → shape_of_key (key_of (round_out (shape_of plot l))) ≡ round_out (shape_of plot l)
rounded_back plot l =
    let s : Shape = shape_of plot l in
    key_back (round_out s) (tenth_below s.top (up_within plot.units (l.offset + l.size))) (tenth_above s.bottom (up_within plot.units l.offset))
    (tenth_below s.left (right_within plot.calls (l.first + 1))) (tenth_above s.right (right_within plot.calls (l.last + 1))) (young l.lived)

back_step : (s : Shape) (rest : List Shape) (t : Bool) → shape_of_key (key_of (round_out s)) ≡ round_out s → map shape_of_key (map key_of (map round_out rest)) ≡ map round_out rest
    → map shape_of_key (map key_of (map round_out (cond t (s ∷ rest) rest))) ≡ map round_out (cond t (s ∷ rest) rest)
back_step s rest true e h = ap₂ (λ x xs. x ∷ xs) e h
back_step s rest false e h = h

keys_back : (plot : Plot) (ls : List Life) → map shape_of_key (map key_of (tiny_shapes plot ls)) ≡ tiny_shapes plot ls
keys_back plot [] = refl
keys_back plot (l ∷ ls) = back_step (shape_of plot l) (filter is_tiny (map (shape_of plot) ls)) (is_tiny (shape_of plot l)) (rounded_back plot l) (keys_back plot ls)

-- ---- lives

or_second : (a x b r : Bool) → (a || b) ≡ r → (a || (x || b)) ≡ (x || r)
or_second true true b r e = refl
or_second true false b r e = e
or_second false x b r e = ap (λ y. x || y) e

or_first : (a x b r : Bool) → (a || b) ≡ r → ((x || a) || b) ≡ (x || r)
or_first a true b r e = refl
or_first a false b r e = e

parts_step : (p : Point) (s : Shape) (large tiny : List Shape) (rest : Bool) (t : Bool) → is_tiny s ≡ t → (list_any (covers p) large || list_any (covers p) (map round_out tiny)) ≡ rest
    → (list_any (covers p) (cond (not t) (s ∷ large) large) || list_any (covers p) (map round_out (cond t (s ∷ tiny) tiny))) ≡ (covers p (if t then round_out s else s) || rest)
parts_step p s large tiny rest true e h = or_second (list_any (covers p) large) (covers p (round_out s)) (list_any (covers p) (map round_out tiny)) rest h
parts_step p s large tiny rest false e h = or_first (list_any (covers p) large) (covers p s) (list_any (covers p) (map round_out tiny)) rest h

-- the rectangles that are not tiny, and those that are, rounded
parts_cover : (p : Point) (plot : Plot) (ls : List Life)
    → (list_any (covers p) (large_shapes plot ls) || list_any (covers p) (tiny_shapes plot ls)) ≡ list_any (covers p) (map (λ l. rounded_if_tiny (shape_of plot l)) ls)
parts_cover p plot [] = refl
parts_cover p plot (l ∷ ls) =
    parts_step p (shape_of plot l) (large_shapes plot ls) (filter is_tiny (map (shape_of plot) ls)) (list_any (covers p) (map (λ k. rounded_if_tiny (shape_of plot k)) ls)) (is_tiny (shape_of plot l)) refl
    (parts_cover p plot ls)

pub covers_law : MergedRectanglesCoverLives
covers_law plot lives shapes m p =
    ap (list_any (covers p)) m.3 ∙ list_any-append (covers p) (large_shapes plot lives) (merge (map shape_of_key m.0))
    ∙ ap (λ b. list_any (covers p) (large_shapes plot lives) || b)
    (merge_covers p (map shape_of_key m.0)
    ∙ sym (list_any-IsPermutation (covers p) (map shape_of_key (map key_of (tiny_shapes plot lives))) (map shape_of_key m.0) (IsPermutation-map shape_of_key (map key_of (tiny_shapes plot lives)) m.0 m.1))
    ∙ ap (list_any (covers p)) (keys_back plot lives))
    ∙ parts_cover p plot lives

-- ---- ages

abbrev IsYoung : Shape → Type 0
IsYoung s = s.age < 8

after_young_step : (a b : Shape) (bs : List Shape) (t : Bool) → IsYoung a → All IsYoung (merge_after (join a b) bs) → All IsYoung (merge_after b bs)
    → All IsYoung (if t then merge_after (join a b) bs else a ∷ merge_after b bs)
after_young_step a b bs true young joined apart = joined
after_young_step a b bs false young joined apart = All-cons IsYoung a (merge_after b bs) young apart

after_young : (a : Shape) (bs : List Shape) → IsYoung a → All IsYoung bs → All IsYoung (merge_after a bs)
after_young a [] young h = All-cons IsYoung a [] young (All-nil IsYoung)
after_young a (b ∷ bs) young h =
    let rest = All-tail IsYoung b bs h in
    after_young_step a b bs (touch a b) young (after_young (join a b) bs young rest) (after_young b bs (All-head IsYoung b bs h) rest)

merged_young : (bs : List Shape) → All IsYoung bs → All IsYoung (merge bs)
merged_young [] h = All-nil IsYoung
merged_young (b ∷ bs) h = after_young b bs (All-head IsYoung b bs h) (All-tail IsYoung b bs h)

key_young : (key : ℕ) → IsYoung (shape_of_key key)
unfolding shape_of_key
key_young key = omega arith

keys_young : (keys : List ℕ) → All IsYoung (map shape_of_key keys)
keys_young [] = All-nil IsYoung
keys_young (k ∷ ks) = All-cons IsYoung (shape_of_key k) (map shape_of_key ks) (key_young k) (keys_young ks)

pub drawn_law : MergedRectanglesAreDrawn
drawn_law plot lives shapes m =
    let large = All-filter (λ s. not (is_tiny s)) IsYoung (map (shape_of plot) lives) (All-map IsYoung (shape_of plot) lives (all_young lives)) in
    let all = All-append IsYoung (large_shapes plot lives) (merge (map shape_of_key m.0)) large (merged_young (map shape_of_key m.0) (keys_young m.0)) in
    parted (λ s. s.age) 8 shapes (subst (All IsYoung) (sym m.3) all)
