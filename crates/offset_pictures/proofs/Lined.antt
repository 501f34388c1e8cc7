-- The steps of a line over its groups of states, and which points are on it.
use Rattle.std.proofs.Common.{◌≡◌, ℕ, ◌+◌, ◌*◌, ◌/◌, ◌<◌, ◌≤◌, ◌∙◌, Bool, true, false, cond, ◌&&◌, ◌⊎◌, inl, inr}
use Rattle.std.proofs.Common.{List, [], ◌∷◌, ◌++◌, append_assoc, append-nil, codes, nat_eq, refl, sym, ap, ap₂, subst, arith, eqb-true}
use Rattle.std.proofs.Math.Nat.{div-le_of_le-mul, div-mul-le_self}
use Rattle.std.proofs.lemmas.Bool.{true≢false}
use Rattle.std.proofs.lemmas.Grind.{flat_map-append}
use Rattle.std.proofs.lemmas.Nat.{le-div}
use Rattle.std.specs.Prelude.{flat_map, min}
use Rattle.offset_pictures.specs.declared.axes.Axis.{Axis}
use Rattle.offset_pictures.specs.declared.plots.Plot.{Plot}
use Rattle.offset_pictures.specs.declared.step_lines.Column.{Column}
use Rattle.offset_pictures.specs.declared.step_lines.Group.{Group}
use Rattle.offset_pictures.specs.{Scales.along, Numerals.pixels_text, Lines.Across, Lines.IsOn, Lines.path_text, Lines.Step, Lines.step_text, Lines.Upright, StepLines.column_of}
use Rattle.offset_pictures.specs.{StepLines.groups_from, StepLines.groups_text, StepLines.steps_text, Axes.y_of, Axes.x_of}

-- ---- places

quotients : (m n d : ℕ) → 0 < d → m ≤ n → m / d ≤ n / d
quotients m n d some l = let e = div-mul-le_self m d in le-div (m / d) n d some (omega arith)

products : (m n d : ℕ) → m ≤ n → m * d ≤ n * d
products m n d l = grind arith

pub along_grows : (span most m n : ℕ) → 0 < most → m ≤ n → along span most m ≤ along span most n
along_grows span most m n some l = quotients (min m most * span) (min n most * span) most some (products (min m most) (min n most) span (omega arith))

pub along_within : (span most n : ℕ) → 0 < most → along span most n ≤ span
along_within span most n some = div-le_of_le-mul most (products (min n most) most span (omega arith))

pub x_grows : (a : Axis) (m n : ℕ) → m ≤ n → x_of a m ≤ x_of a n
x_grows a m n l = let e = along_grows a.span a.most m n a.positive l in omega arith

pub y_falls : (a : Axis) (m n : ℕ) → m ≤ n → y_of a n ≤ y_of a m
y_falls a m n l = let e = along_grows a.span a.most m n a.positive l in omega arith

-- ---- the steps of a line

-- the upright steps over the heights of a column, where it is said which of them are the last one
abbrev pub uprights : Bool → Bool → Column → List Step
uprights true true c = Upright c.last ∷ []
uprights true false c = Upright c.bottom ∷ Upright c.last ∷ []
uprights false true c = Upright c.top ∷ Upright c.last ∷ []
uprights false false c = Upright c.top ∷ Upright c.bottom ∷ Upright c.last ∷ []

abbrev pub all_uprights : Column → List Step
all_uprights c = uprights (nat_eq c.top c.last) (nat_eq c.bottom c.last) c

abbrev column_steps : Column → ℕ → List Step
column_steps c pen = cond (nat_eq c.top pen && nat_eq c.bottom pen) [] (Across c.left ∷ all_uprights c)

abbrev groups_steps : Axis → ℕ → List Group → List Step
groups_steps u pen [] = []
groups_steps u pen (g ∷ gs) = column_steps (column_of u g) pen ++ groups_steps u (y_of u g.last) gs

-- to the place `end`, and there to the height `base`
abbrev pub line : Axis → ℕ → ℕ → ℕ → List Group → List Step
line u end base pen gs = groups_steps u pen gs ++ Across end ∷ Upright base ∷ []

column_by : (x y z : Bool) (c : Column)
    → flat_map step_text (cond x [] (Across c.left ∷ uprights y z c))
    ≡ cond x [] (codes "H" ++ pixels_text c.left ++ (cond y [] (codes "V" ++ pixels_text c.top)) ++ (cond z [] (codes "V" ++ pixels_text c.bottom)) ++ codes "V" ++ pixels_text c.last)
column_by true y z c = refl
column_by false true true c = simp (append_assoc, append-nil)
column_by false true false c = simp (append_assoc, append-nil)
column_by false false true c = simp (append_assoc, append-nil)
column_by false false false c = simp (append_assoc, append-nil)

groups_written : (u : Axis) (pen : ℕ) (gs : List Group) → flat_map step_text (groups_steps u pen gs) ≡ groups_text u pen gs
groups_written u pen [] = refl
groups_written u pen (g ∷ gs) =
    let c = column_of u g in
    flat_map-append step_text (column_steps c pen) (groups_steps u (y_of u g.last) gs)
    ∙ ap₂ (λ a b. a ++ b) (column_by (nat_eq c.top pen && nat_eq c.bottom pen) (nat_eq c.top c.last) (nat_eq c.bottom c.last) c) (groups_written u (y_of u g.last) gs)

pub line_written : (p : Plot) (base : ℕ) (values : List ℕ)
    → steps_text p base values ≡ path_text p.calls.start base (line p.units (p.calls.start + p.calls.span) base base (groups_from p.calls 0 values))
line_written p base values =
    let end = p.calls.start + p.calls.span in
    let gs = groups_from p.calls 0 values in
    let e : flat_map step_text (line p.units end base base gs) ≡ groups_text p.units base gs ++ (codes "H" ++ pixels_text end ++ codes "V" ++ pixels_text base) =
    flat_map-append step_text (groups_steps p.units base gs) (Across end ∷ Upright base ∷ []) ∙ ap₂ (λ a b. a ++ b) (groups_written p.units base gs) (simp (append_assoc, append-nil)) in
    sym (ap (λ t. codes "M" ++ pixels_text p.calls.start ++ codes " " ++ pixels_text base ++ t) e ∙ simp append_assoc)

-- ---- the upright steps of a column

later : (y z : Bool) (c : Column) (pen q h : ℕ) (rest : List Step) → IsOn q h c.left c.last rest → IsOn q h c.left pen (uprights y z c ++ rest)
later true true c pen q h rest on = inr on
later true false c pen q h rest on = inr (inr on)
later false true c pen q h rest on = inr (inr on)
later false false c pen q h rest on = inr (inr (inr on))

covered : (y z : Bool) (c : Column) (pen h : ℕ) (rest : List Step) → nat_eq c.top c.last ≡ y → nat_eq c.bottom c.last ≡ z → c.top ≤ h → h ≤ c.bottom → IsOn c.left h c.left pen (uprights y z c ++ rest)
covered true true c pen h rest e f a b = let t = eqb-true c.top c.last e in let m = eqb-true c.bottom c.last f in inl (refl, (omega arith, omega arith))
covered true false c pen h rest e f a b = let t = eqb-true c.top c.last e in inr (inl (refl, (omega arith, omega arith)))
covered false true c pen h rest e f a b = let m = eqb-true c.bottom c.last f in inr (inl (refl, (omega arith, omega arith)))
covered false false c pen h rest e f a b = inr (inl (refl, (omega arith, omega arith)))

-- ---- groups

-- the groups lie from the place `from` to the place `end`, and the last value of each is one of its values
abbrev pub IsRising : ℕ → ℕ → List Group → Type 0
IsRising end from [] = from ≤ end
IsRising end from (g ∷ gs) = (from ≤ g.left) × (g.least ≤ g.last) × (g.last ≤ g.most) × IsRising end g.left gs

-- a group at this place has this value between its values
abbrev pub Has : List Group → ℕ → ℕ → Type 0
Has [] x v = ⊥
Has (g ∷ gs) x v = ((g.left ≡ x) × (g.least ≤ v) × (v ≤ g.most)) ⊎ Has gs x v

pub sooner : (end from m : ℕ) (gs : List Group) → from ≤ m → IsRising end m gs → IsRising end from gs
sooner end from m [] l r = omega (arith, r)
sooner end from m (g ∷ gs) l r = (omega (arith, r.0), r.1, r.2, r.3)

-- the heights of a column
tops : (u : Axis) (g : Group) (v : ℕ) → g.least ≤ v → v ≤ g.most → (y_of u g.most ≤ y_of u v) × (y_of u v ≤ y_of u g.least)
tops u g v a b = (y_falls u v g.most b, y_falls u g.least v a)

-- a column is left out where all its heights are that of the line
both_same : (a b : Bool) → (a && b) ≡ true → (a ≡ true) × (b ≡ true)
both_same true b e = (refl, e)
both_same false b e = absurd (true≢false (sym e))

pub same_y : (u : Axis) (g : Group) (pen v : ℕ) → (nat_eq (y_of u g.most) pen && nat_eq (y_of u g.least) pen) ≡ true → g.least ≤ v → v ≤ g.most → y_of u v ≡ pen
same_y u g pen v e a b =
    let x = both_same (nat_eq (y_of u g.most) pen) (nat_eq (y_of u g.least) pen) e in
    let t = eqb-true (y_of u g.most) pen x.0 in
    let m = eqb-true (y_of u g.least) pen x.1 in
    let h = tops u g v a b in
    omega (arith, t, m, h.0, h.1)

-- the line goes on at its height up to a place that no group is before
here_step : (u : Axis) (end base from pen q : ℕ) (g : Group) (gs : List Group) (b : Bool)
    → (nat_eq (y_of u g.most) pen && nat_eq (y_of u g.least) pen) ≡ b → from ≤ q → q ≤ g.left → g.least ≤ g.last → g.last ≤ g.most
    → IsOn q (y_of u g.last) from (y_of u g.last) (line u end base (y_of u g.last) gs)
    → IsOn q pen from pen ((cond b [] (Across g.left ∷ all_uprights (column_of u g)) ++ groups_steps u (y_of u g.last) gs) ++ Across end ∷ Upright base ∷ [])
here_step u end base from pen q g gs true e l m a b on = subst (λ h. IsOn q h from h (line u end base (y_of u g.last) gs)) (same_y u g pen g.last e a b) on
here_step u end base from pen q g gs false e l m a b on = inl (refl, (omega arith, omega arith))

pub goes_here : (u : Axis) (end base from pen q : ℕ) (gs : List Group) → from ≤ q → IsRising end q gs → IsOn q pen from pen (line u end base pen gs)
goes_here u end base from pen q [] l r = inl (refl, (omega arith, omega (arith, r)))
goes_here u end base from pen q (g ∷ gs) l r =
    here_step u end base from pen q g gs (nat_eq (y_of u g.most) pen && nat_eq (y_of u g.least) pen) refl l r.0 r.1 r.2
    (goes_here u end base from (y_of u g.last) q gs l (sooner end q g.left gs r.0 r.3))

-- what the column g, drawn or not, does to a line from (from, pen)
abbrev pub one : Axis → ℕ → ℕ → ℕ → Group → List Group → Bool → List Step
one u end base pen g gs b = (cond b [] (Across g.left ∷ all_uprights (column_of u g)) ++ groups_steps u (y_of u g.last) gs) ++ Across end ∷ Upright base ∷ []

abbrev pub is_left_out : Axis → Group → ℕ → Bool
is_left_out u g pen = nat_eq (y_of u g.most) pen && nat_eq (y_of u g.least) pen

-- the steps of a drawn column come before those of the others
pub drawn_first : (u : Axis) (end base : ℕ) (g : Group) (gs : List Group)
    → (all_uprights (column_of u g) ++ groups_steps u (y_of u g.last) gs) ++ Across end ∷ Upright base ∷ [] ≡ all_uprights (column_of u g) ++ line u end base (y_of u g.last) gs
drawn_first u end base g gs = append_assoc (all_uprights (column_of u g)) (groups_steps u (y_of u g.last) gs) (Across end ∷ Upright base ∷ [])

-- a point of the line after a group is a point of the whole line
more_step : (u : Axis) (end base from pen q h : ℕ) (g : Group) (gs : List Group) (b : Bool) → is_left_out u g pen ≡ b → g.least ≤ g.last → g.last ≤ g.most
    → IsOn q h from (y_of u g.last) (line u end base (y_of u g.last) gs) → IsOn q h g.left (y_of u g.last) (line u end base (y_of u g.last) gs)
    → IsOn q h from pen (one u end base pen g gs b)
more_step u end base from pen q h g gs true e a b stays goes = subst (λ (y : ℕ). IsOn q h from y (line u end base (y_of u g.last) gs)) (same_y u g pen g.last e a b) stays
more_step u end base from pen q h g gs false e a b stays goes =
    let c = column_of u g in
    inr (subst (λ (s : List Step). IsOn q h g.left pen s) (sym (drawn_first u end base g gs))
    (later (nat_eq c.top c.last) (nat_eq c.bottom c.last) c pen q h (line u end base (y_of u g.last) gs) goes))

-- a value of a group is on the line
at_step : (u : Axis) (end base from pen v : ℕ) (g : Group) (gs : List Group) (b : Bool) → is_left_out u g pen ≡ b → from ≤ g.left → g.least ≤ g.last → g.last ≤ g.most → g.least ≤ v → v ≤ g.most
    → IsOn g.left (y_of u g.last) from (y_of u g.last) (line u end base (y_of u g.last) gs) → IsOn g.left (y_of u v) from pen (one u end base pen g gs b)
at_step u end base from pen v g gs true e l a b i j stays =
    let x = same_y u g pen g.last e a b in
    let y = same_y u g pen v e i j in
    subst (λ (z : ℕ). IsOn g.left z from pen (line u end base (y_of u g.last) gs)) (x ∙ sym y)
    (subst (λ (z : ℕ). IsOn g.left (y_of u g.last) from z (line u end base (y_of u g.last) gs)) x stays)
at_step u end base from pen v g gs false e l a b i j stays =
    let c = column_of u g in
    let h = tops u g v i j in
    inr (subst (λ (s : List Step). IsOn g.left (y_of u v) g.left pen s) (sym (drawn_first u end base g gs))
    (covered (nat_eq c.top c.last) (nat_eq c.bottom c.last) c pen (y_of u v) (line u end base (y_of u g.last) gs) refl refl h.0 h.1))

pub shows : (u : Axis) (end base from pen x v : ℕ) (gs : List Group) → IsRising end from gs → Has gs x v → IsOn x (y_of u v) from pen (line u end base pen gs)
shows u end base from pen x v [] r h = absurd h
shows u end base from pen x v (g ∷ gs) r (inl h) =
    subst (λ (z : ℕ). IsOn z (y_of u v) from pen (line u end base pen (g ∷ gs))) h.0
    (at_step u end base from pen v g gs (is_left_out u g pen) refl r.0 r.1 r.2 h.1 h.2 (goes_here u end base from (y_of u g.last) g.left gs r.0 r.3))
shows u end base from pen x v (g ∷ gs) r (inr h) =
    more_step u end base from pen x (y_of u v) g gs (is_left_out u g pen) refl r.1 r.2 (shows u end base from (y_of u g.last) x v gs (sooner end from g.left gs r.0 r.3) h)
    (shows u end base g.left (y_of u g.last) x v gs r.3 h)
