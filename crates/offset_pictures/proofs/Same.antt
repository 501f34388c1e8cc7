-- Two pictures of one course are one, and so are two of one script.
use Rattle.std.proofs.Common.{◌≡◌, ℕ, suc, ◌+◌, ◌-◌, ◌<◌, ◌≤◌, ◌∙◌, Bool, true, false, cond, ◌&&◌, List, [], ◌∷◌, ◌++◌}
use Rattle.std.proofs.Common.{Option, Some, None, All, codes, length, map, nat_eq, nat_lt, refl, sym, ap, ap₂, subst, arith, eqb-true, eq-eqb, if◌then◌else◌}
use Rattle.std.proofs.Math.Bridge.{le_prop}
use Rattle.std.proofs.lemmas.List.Elements.{All-cons, All-head, All-tail, All-weaker}
use Rattle.std.proofs.lemmas.List.Sorted.{sum_by-IsPermutation}
use Rattle.std.proofs.lemmas.List.Sums.{sum_by-cons}
use Rattle.std.specs.{Bool.MatchBool, List.Sorted.IsNonDecreasing, Prelude.IsPermutation, Prelude.count_by, Prelude.min, Prelude.slice_index, Prelude.sum_by}
use Rattle.offset_pictures.specs.declared.axes.Axis.{Axis}
use Rattle.offset_pictures.specs.declared.course.Course.{Course}
use Rattle.offset_allocator.specs.declared.reports.StorageReport.{StorageReport}
use Rattle.offset_pictures.specs.declared.figures.Figures.{Figures}
use Rattle.offset_pictures.specs.declared.living.Life.{Life}
use Rattle.offset_pictures.specs.declared.plots.Plot.{Plot}
use Rattle.offset_pictures.specs.declared.refusing.Refused.{Refused}
use Rattle.offset_pictures.specs.declared.shapes.Shape.{Shape}
use Rattle.offset_pictures.specs.Figures.{AreFigures, AreTotals, count_below, counted, end_of, IsFirstLargest, IsFirstSmallest, largest}
use Rattle.offset_pictures.specs.{Legend.legend_text, Legend.notes_text, Levels.free_of, Levels.joined_of, Levels.most_of, Lives.is_on, Lives.life_view, Reports.report_view, Course.IsCourse}
use Rattle.offset_pictures.specs.{Plots.IsPlot, Plots.bottom_of, Plots.ranges_end, Plots.reports_end, Shapes.shape_of, Rectangles.ages_text, Rectangles.AreRectangles, Rectangles.plain_of_age}
use Rattle.offset_pictures.specs.{Rectangles.titled_of_age, StepLines.line_text, Marks.refusals_text, Ticks.axes_text, Titles.escaped, Titles.heading_text}
use Rattle.offset_pictures.specs.Lives as plain
use Rattle.offset_script.specs.{Grammar.Plan, Machine.Answer, Machine.Report}
use Rattle.offset_pictures.specs.Merging.{AreMerged, key_of, large_shapes, merge, shape_of_key, tiny_shapes}
use Rattle.offset_pictures.specs.Picture.{IsBody, IsPictureOf, opening, PicturesAreFixed, ScriptsFixTheirPictures, style}
use Rattle.offset_pictures.proofs.Fixed.{figures_law}

-- ---- lists

same_items : (xs ys : List ℕ) → length xs ≡ length ys → ((i : ℕ) → i < length xs → slice_index xs i ≡ slice_index ys i) → xs ≡ ys
same_items [] [] e h = refl
same_items [] (y ∷ ys) e h = absurd (omega arith)
same_items (x ∷ xs) [] e h = absurd (omega arith)
same_items (x ∷ xs) (y ∷ ys) e h = ap₂ (λ a b. a ∷ b) (h 0 (omega arith)) (same_items xs ys (omega arith) (λ i l. h (suc i) (omega arith)))

back : {X Y : Type 0} (f : X → Y) (g : Y → X) → ((x : X) → g (f x) ≡ x) → (xs : List X) → map g (map f xs) ≡ xs
back f g h [] = refl
back f g h (x ∷ xs) = ap₂ (λ a b. a ∷ b) (h x) (back f g h xs)

pub same_from_map : {X Y : Type 0} (f : X → Y) (g : Y → X) → ((x : X) → g (f x) ≡ x) → (xs ys : List X) → map f xs ≡ map f ys → xs ≡ ys
same_from_map f g h xs ys e = sym (back f g h xs) ∙ ap (map g) e ∙ back f g h ys

-- how often a number is in a list
abbrev times : ℕ → List ℕ → ℕ
times v xs = sum_by (λ x. cond (nat_eq x v) 1 0) xs

none_step : (v x n : ℕ) (b : Bool) → nat_eq x v ≡ b → v < x → n ≡ 0 → cond b 1 0 + n ≡ 0
none_step v x n true e l z = let same = eqb-true x v e in absurd (omega arith)
none_step v x n false e l z = omega arith

none_of : (v : ℕ) (xs : List ℕ) → All (λ x. v < x) xs → times v xs ≡ 0
none_of v [] h = refl
none_of v (x ∷ xs) h = sum_by-cons (λ y. cond (nat_eq y v) 1 0) x xs ∙ none_step v x (times v xs) (nat_eq x v) refl (All-head (λ y. v < y) x xs h) (none_of v xs (All-tail (λ y. v < y) x xs h))

-- a first number is in its list
once : (x : ℕ) → cond {A = ℕ} (nat_eq x x) 1 0 ≡ 1
once x = ap (λ b. cond {A = ℕ} b 1 0) (eq-eqb x x refl)

some_times : (x : ℕ) (xs : List ℕ) → times x (x ∷ xs) ≡ 0 → ⊥
some_times x xs e =
    let first = sum_by-cons (λ z. cond (nat_eq z x) 1 0) x xs in
    omega (arith, once x, first, e)

-- the smaller of two first numbers is not in the other list
not_smaller : (x y : ℕ) (xs ys : List ℕ) → x < y → All (λ z. y ≤ z) ys → times x (x ∷ xs) ≡ times x (y ∷ ys) → ⊥
not_smaller x y xs ys l h e =
    let none : times x (y ∷ ys) ≡ 0 = none_of x (y ∷ ys) (All-cons (λ z. x < z) y ys l (All-weaker (λ z. y ≤ z) (λ z. x < z) (λ z k. omega arith) ys h)) in
    let some = some_times x xs in omega (arith, none, e)

rest_times : (x v : ℕ) (xs ys : List ℕ) → times v (x ∷ xs) ≡ times v (x ∷ ys) → times v xs ≡ times v ys
rest_times x v xs ys e = let a = sum_by-cons (λ z. cond (nat_eq z v) 1 0) x xs in let b = sum_by-cons (λ z. cond (nat_eq z v) 1 0) x ys in omega (arith, a, b, e)

later_ones : (x : ℕ) (xs : List ℕ) → IsNonDecreasing (x ∷ xs) → All (λ z. x ≤ z) xs
later_ones x xs h k d l = h 0 (suc k) d (omega arith) (omega arith)

rest_sorted : (x : ℕ) (xs : List ℕ) → IsNonDecreasing (x ∷ xs) → IsNonDecreasing xs
rest_sorted x xs h i j d l m = h (suc i) (suc j) d (omega arith) (omega arith)

same_first : (x y : ℕ) (xs ys : List ℕ) → IsNonDecreasing (x ∷ xs) → IsNonDecreasing (y ∷ ys) → ((v : ℕ) → times v (x ∷ xs) ≡ times v (y ∷ ys)) → x ≡ y
same_first x y xs ys r s h =
    let p : x < y → ⊥ = λ l. not_smaller x y xs ys l (later_ones y ys s) (h x) in
    let q : y < x → ⊥ = λ l. not_smaller y x ys xs l (later_ones x xs r) (sym (h y)) in
    omega arith

-- two lists that rise, and have each number equally often, are one
same_sorted : (xs ys : List ℕ) → IsNonDecreasing xs → IsNonDecreasing ys → ((v : ℕ) → times v xs ≡ times v ys) → xs ≡ ys
same_sorted [] [] r s h = refl
same_sorted [] (y ∷ ys) r s h = absurd (some_times y ys (sym (h y)))
same_sorted (x ∷ xs) [] r s h = absurd (some_times x xs (h x))
same_sorted (x ∷ xs) (y ∷ ys) r s h =
    let e = same_first x y xs ys r s h in
    ap₂ (λ a b. a ∷ b) e (same_sorted xs ys (rest_sorted x xs r) (rest_sorted y ys s) (λ v. rest_times x v xs ys (h v ∙ ap (λ z. times v (z ∷ ys)) (sym e))))

pub one_sorted : (all xs ys : List ℕ) → IsPermutation all xs → IsPermutation all ys → IsNonDecreasing xs → IsNonDecreasing ys → xs ≡ ys
one_sorted all xs ys p q r s = same_sorted xs ys r s (λ v. sum_by-IsPermutation (λ x. cond (nat_eq x v) 1 0) all xs p ∙ sym (sum_by-IsPermutation (λ x. cond (nat_eq x v) 1 0) all ys q))

-- ---- axes

abbrev axis_of : (start span most : ℕ) → 0 < most → start + span ≤ 120000 → Axis
axis_of start span most x y = record { start = start; span = span; most = most; positive = x; within = y }

same_axis : (s t m s' t' m' : ℕ) (x : 0 < m) (y : s + t ≤ 120000) (x' : 0 < m') (y' : s' + t' ≤ 120000) → s ≡ s' → t ≡ t' → m ≡ m' → axis_of s t m x y ≡ axis_of s' t' m' x' y'
same_axis s t m s' t' m' x y x' y' a b c =
    subst (λ (u : ℕ). (v : u + t' ≤ 120000) → axis_of s t m x y ≡ axis_of u t' m' x' v) a
    (subst (λ (u : ℕ). (v : s + u ≤ 120000) → axis_of s t m x y ≡ axis_of s u m' x' v) b
    (λ v. subst (λ (u : ℕ). (w : 0 < u) → axis_of s t m x y ≡ axis_of s t u w v) c (λ w. ap₂ (λ (p : 0 < m) (q : s + t ≤ 120000). axis_of s t m p q) (le_prop x w) (le_prop y v)) x'))
    y'

same_fields : (a b : Axis) → a.start ≡ b.start → a.span ≡ b.span → a.most ≡ b.most → a ≡ b
same_fields a b x y z = same_axis a.start a.span a.most b.start b.span b.most a.positive a.within b.positive b.within x y z

abbrev plot_of : Axis → Axis → Plot
plot_of calls units = record { calls = calls; units = units }

one_plot : {n top height l n' l' : ℕ} (p q : Plot) → IsPlot n top height l p → IsPlot n' top height l' q → n ≡ n' → l ≡ l' → p ≡ q
one_plot p q x y e f =
    ap₂ plot_of
    (same_fields p.calls q.calls (x.calls.0 ∙ sym y.calls.0) (x.calls.1 ∙ sym y.calls.1) (x.calls.2 ∙ ap (λ k. counted (k + 1)) e ∙ sym y.calls.2))
    (same_fields p.units q.units (x.units.0 ∙ sym y.units.0) (x.units.1 ∙ sym y.units.1) (x.units.2 ∙ f ∙ sym y.units.2))

-- ---- rectangles

abbrev AreRectanglesBy : Bool → Plot → List Life → ℕ → Option ℕ → List ℕ → Type 0
AreRectanglesBy b plot lives calls merged text = MatchBool b
    ((shapes : List Shape) × AreMerged plot lives shapes × (merged ≡ Some (length shapes)) × (text ≡ ages_text (plain_of_age shapes)))
    ((merged ≡ None) × (text ≡ ages_text (titled_of_age calls (map (shape_of plot) lives) lives)))

one_merging : (p : Plot) (ls : List Life) (s t : List Shape) → AreMerged p ls s → AreMerged p ls t → s ≡ t
one_merging p ls s t x y = x.3 ∙ ap (λ keys. large_shapes p ls ++ merge (map shape_of_key keys)) (one_sorted (map key_of (tiny_shapes p ls)) x.0 y.0 x.1 y.1 x.2 y.2) ∙ sym y.3

one_rectangles : (b : Bool) (p : Plot) (ls : List Life) (calls : ℕ) (m n : Option ℕ) (s t : List ℕ) → AreRectanglesBy b p ls calls m s → AreRectanglesBy b p ls calls n t → (m ≡ n) × (s ≡ t)
one_rectangles true p ls calls m n s t x y =
    let e = one_merging p ls x.0 y.0 x.1 y.1 in (x.2 ∙ ap (λ z. Some (length z)) e ∙ sym y.2, x.3 ∙ ap (λ z. ages_text (plain_of_age z)) e ∙ sym y.3)
one_rectangles false p ls calls m n s t x y = (x.0 ∙ sym y.0, x.1 ∙ sym y.1)

-- ---- figures

-- what is read of a course
pub record IsLike (c d : Course) : Type 0 where
  pub nodes : c.max_allocs ≡ d.max_allocs
  pub grants : c.grants ≡ d.grants
  pub lives : c.lives.items ≡ d.lives.items
  pub reports : c.reports.items ≡ d.reports.items
  pub sizes : c.sizes.items ≡ d.sizes.items
  pub refused : c.refused.items ≡ d.refused.items

moved : {A B C : Type 0} (P : A → B → C → Type 0) (a a' : A) (b b' : B) (c c' : C) → a ≡ a' → b ≡ b' → c ≡ c' → P a b c → P a' b' c'
moved P a a' b b' c c' x y z h = subst (λ u. P a' b' u) z (subst (λ u. P a' u c) y (subst (λ u. P u b c) x h))

abbrev live_in : List Life → ℕ → ℕ
live_in ls s = counted (count_by (λ l. is_on s (life_view l)) ls)

abbrev used_in : List Life → ℕ → ℕ
used_in ls s = counted (sum_by (λ l. if is_on s (life_view l) then l.size else 0) ls)

abbrev size_in : List ℕ → ℕ → ℕ
size_in sizes s = slice_index sizes s

abbrev region_in : List StorageReport → ℕ → ℕ
region_in reports s = slice_index (map (λ r. r.largest_free_region) reports) s

abbrev free_in : List StorageReport → ℕ → ℕ
free_in reports s = slice_index (map (λ r. r.total_free_space) reports) s

abbrev states_in : List StorageReport → List ℕ → ℕ
states_in reports sizes = min (length sizes) (length reports)

-- what holds of what is read of one course holds of the same of the other
like_read : (c d : Course) (P : List Life → List StorageReport → List ℕ → Type 0) → IsLike c d → P c.lives.items c.reports.items c.sizes.items → P d.lives.items d.reports.items d.sizes.items
like_read c d P e h = moved P c.lives.items d.lives.items c.reports.items d.reports.items c.sizes.items d.sizes.items e.lives e.reports e.sizes h

like_totals : (c d : Course) (f : Figures) → IsLike c d → AreTotals f c → AreTotals f d
like_totals c d f e x = record {
  calls = x.calls ∙ ap (λ ss. counted (length ss - 1)) e.sizes;
  grants = x.grants ∙ ap counted e.grants;
  refusals = x.refusals ∙ ap (λ rs. counted (length rs)) e.refused;
  first_size = x.first_size ∙ ap (λ ss. slice_index ss 0) e.sizes;
  highest = x.highest ∙ ap (λ ls. largest (map end_of ls)) e.lives;
}

like_figures : (c d : Course) (f : Figures) → IsLike c d → AreFigures f c → AreFigures f d
like_figures c d f e x = record {
  totals = like_totals c d f e x.totals;
  live = like_read c d (λ ls rs ss. (s : ℕ) × IsFirstLargest (live_in ls) (states_in rs ss) s × (f.most_live ≡ live_in ls s)) e x.live;
  used =
      like_read c d (λ ls rs ss. (s : ℕ) × IsFirstLargest (used_in ls) (states_in rs ss) s × (f.most_used ≡ used_in ls s) × (f.size_then ≡ size_in ss s)) e x.used;
  size = like_read c d (λ ls rs ss. (s : ℕ) × IsFirstLargest (size_in ss) (states_in rs ss) s × (f.largest_size ≡ size_in ss s)) e x.size;
  worst =
      like_read c d
      (λ ls rs ss. (s : ℕ) × IsFirstSmallest (region_in rs) (states_in rs ss) s × (f.worst ≡ counted s) × (f.worst_region ≡ region_in rs s) × (f.worst_free ≡ free_in rs s)) e
      x.worst;
  full = like_read c d (λ ls rs ss. f.full_states ≡ counted (count_below (λ s. nat_lt (used_in ls s) (size_in ss s) && nat_eq (free_in rs s) 0) (states_in rs ss))) e x.full;
}

-- ---- the whole text

-- the text below the heading, of what is read for it
abbrev whole : Figures → ℕ → Plot → Plot → List ℕ → List Refused → List StorageReport → List ℕ → Option ℕ → List ℕ
whole f nodes p q sizes refused reports rectangles merged =
    legend_text f nodes p.units.most ++ line_text (codes "out") p p.units.start sizes ++ axes_text p 6 12 ++ rectangles ++ refusals_text p reports refused
    ++ (line_text (codes "free") q (bottom_of q) (map free_of reports) ++ line_text (codes "joined") q (bottom_of q) (map joined_of reports)
    ++ line_text (codes "most") q (bottom_of q) (map most_of reports))
    ++ axes_text q 4 12 ++ notes_text merged

pub one_body : (c d : Course) (a b : List ℕ) → IsLike c d → IsBody c a → IsBody d b → a ≡ b
one_body c d a b e x y =
    let f : x.figures ≡ y.figures = figures_law d x.figures y.figures (like_figures c d x.figures e x.are) y.are in
    let p : x.ranges ≡ y.ranges = one_plot x.ranges y.ranges x.is_ranges y.is_ranges (ap (λ g. g.calls) f) (ap ranges_end f) in
    let q : x.reports ≡ y.reports = one_plot x.reports y.reports x.is_reports y.is_reports (ap (λ g. g.calls) f) (ap reports_end f) in
    let here : AreRectangles y.ranges d.lives.items y.figures.calls x.merged x.rectangles =
    moved (λ t ls n. AreRectangles t ls n x.merged x.rectangles) x.ranges y.ranges c.lives.items d.lives.items x.figures.calls y.figures.calls p e.lives (ap (λ g. g.calls) f) x.are_rectangles in
    let g = one_rectangles (nat_lt 20000 (length d.lives.items)) y.ranges d.lives.items y.figures.calls x.merged y.merged x.rectangles y.rectangles here y.are_rectangles in
    x.is
    ∙ ap (λ z. whole z c.max_allocs x.ranges x.reports c.sizes.items c.refused.items c.reports.items x.rectangles x.merged) f
    ∙ ap (λ z. whole y.figures z x.ranges x.reports c.sizes.items c.refused.items c.reports.items x.rectangles x.merged) e.nodes
    ∙ ap (λ z. whole y.figures d.max_allocs z x.reports c.sizes.items c.refused.items c.reports.items x.rectangles x.merged) p
    ∙ ap (λ z. whole y.figures d.max_allocs y.ranges z c.sizes.items c.refused.items c.reports.items x.rectangles x.merged) q
    ∙ ap (λ z. whole y.figures d.max_allocs y.ranges y.reports z c.refused.items c.reports.items x.rectangles x.merged) e.sizes
    ∙ ap (λ z. whole y.figures d.max_allocs y.ranges y.reports d.sizes.items z c.reports.items x.rectangles x.merged) e.refused
    ∙ ap (λ z. whole y.figures d.max_allocs y.ranges y.reports d.sizes.items d.refused.items z x.rectangles x.merged) e.reports
    ∙ ap₂ (λ t m. whole y.figures d.max_allocs y.ranges y.reports d.sizes.items d.refused.items d.reports.items t m) g.1 g.0
    ∙ sym y.is

pub one_picture : (title : List ℕ) (c d : Course) (a b : List ℕ) → IsLike c d → IsPictureOf title c a → IsPictureOf title d b → a ≡ b
one_picture title c d a b e x y =
    x.is
    ∙ ap (λ body. opening ++ escaped title ++ codes "</title>\n" ++ style ++ heading_text title ++ body ++ codes "</svg>\n")
    (one_body c d x.body y.body e x.is_body y.is_body)
    ∙ sym y.is

-- ---- two courses of one script

life_of : plain.Life → Life
life_of l = record { number = l.number; offset = l.offset; size = l.size; first = l.first; last = l.last; lived = l.lived }

report_of : Answer → StorageReport
report_of (Report free largest) = record { total_free_space = free; largest_free_region = largest }
report_of other = record { total_free_space = 0; largest_free_region = 0 }

like_courses : (plan : Plan) (c d : Course) → IsCourse plan c → IsCourse plan d → IsLike c d
unfolding life_of report_of
like_courses plan c d x y =
    let lives : c.lives.items ≡ d.lives.items = same_from_map life_view life_of (λ l. refl) c.lives.items d.lives.items (x.lives ∙ sym y.lives) in
    record {
      nodes = x.limit ∙ sym y.limit;
      grants = x.grants ∙ ap length lives ∙ sym y.grants;
      lives = lives;
      reports = same_from_map report_view report_of (λ r. refl) c.reports.items d.reports.items (x.reports ∙ sym y.reports);
      sizes = same_items c.sizes.items d.sizes.items (x.sizes.0 ∙ sym y.sizes.0) (λ i l. x.sizes.1 i (omega (arith, x.sizes.0)) ∙ sym (y.sizes.1 i (omega (arith, x.sizes.0))));
      refused = x.refused ∙ sym y.refused;
    }

pub scripts_law : ScriptsFixTheirPictures
scripts_law title plan a b x y =
    one_picture title x.course y.course a b (like_courses plan x.course y.course x.is_course y.is_course) x.is_picture y.is_picture

pub pictures_law : PicturesAreFixed
pictures_law title c a b x y = one_picture title c c a b (record { nodes = refl; grants = refl; lives = refl; reports = refl; sizes = refl; refused = refl }) x y
