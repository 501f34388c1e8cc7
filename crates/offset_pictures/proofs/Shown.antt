-- Each line shows its values.
use Rattle.std.proofs.Common.{◌≡◌, ℕ, zero, suc, ◌+◌, ◌*◌, ◌/◌, ◌<◌, ◌≤◌, ◌∙◌, Bool, true, false, cond, ◌⊎◌, inl, inr, List, [], ◌∷◌, length, nat_eq, refl, ap, subst, arith, eqb-true}
use Rattle.std.proofs.Math.Nat.{div-le_self}
use Rattle.std.specs.Prelude.{min, slice_index}
use Rattle.offset_pictures.specs.declared.axes.Axis.{Axis}
use Rattle.offset_pictures.specs.declared.plots.Plot.{Plot}
use Rattle.offset_pictures.specs.declared.step_lines.Group.{Group}
use Rattle.offset_pictures.specs.{Scales.along, Lines.EachLineShowsItsValues, Lines.IsYAt, Axes.y_of, Axes.x_of, StepLines.group_before, StepLines.groups_from, StepLines.join_groups}
use Rattle.offset_pictures.specs.StepLines.{one_state}
use Rattle.offset_pictures.proofs.Lined.{Has, IsRising, along_within, line, line_written, x_grows, shows, sooner}
use Rattle.offset_pictures.proofs.Traced.{AreYs, first_before, first_left, ys_before, traced}

-- ---- the groups of states

-- a group before others
before_step : (end : ℕ) (g h : Group) (hs : List Group) (b : Bool) → nat_eq g.left h.left ≡ b → g.left ≤ h.left → g.least ≤ g.last → g.last ≤ g.most → IsRising end h.left (h ∷ hs)
    → IsRising end g.left (cond b (join_groups g h ∷ hs) (g ∷ h ∷ hs))
before_step end g h hs true e l a b r = let same = eqb-true g.left h.left e in (omega arith, omega (arith, r.1), omega (arith, r.2), sooner end g.left h.left hs l r.3)
before_step end g h hs false e l a b r = (omega arith, a, b, (l, r.1, r.2, r.3))

before_rises : (end m : ℕ) (g : Group) (gs : List Group) → g.left ≤ m → g.least ≤ g.last → g.last ≤ g.most → IsRising end m gs → IsRising end g.left (group_before g gs)
before_rises end m g [] l a b r = (omega arith, a, b, omega (arith, r))
before_rises end m g (h ∷ hs) l a b r = before_step end g h hs (nat_eq g.left h.left) refl (omega (arith, r.0)) a b (omega arith, r.1, r.2, r.3)

groups_rise : (a : Axis) (end k : ℕ) (vs : List ℕ) → ((n : ℕ) → x_of a n ≤ end) → IsRising end (x_of a k) (groups_from a k vs)
groups_rise a end k [] h = h k
groups_rise a end k (v ∷ vs) h =
    before_rises end (x_of a (k + 1)) (one_state (x_of a k) v) (groups_from a (k + 1) vs) (x_grows a k (k + 1) (omega arith)) (omega arith) (omega arith) (groups_rise a end (k + 1) vs h)

has_first_step : (g h : Group) (hs : List Group) (v : ℕ) (b : Bool) → g.least ≤ v → v ≤ g.most → Has (cond b (join_groups g h ∷ hs) (g ∷ h ∷ hs)) g.left v
has_first_step g h hs v true i j = inl (refl, omega arith, omega arith)
has_first_step g h hs v false i j = inl (refl, i, j)

has_first : (g : Group) (gs : List Group) (v : ℕ) → g.least ≤ v → v ≤ g.most → Has (group_before g gs) g.left v
has_first g [] v i j = inl (refl, i, j)
has_first g (h ∷ hs) v i j = has_first_step g h hs v (nat_eq g.left h.left) i j

has_more_step : (g h : Group) (hs : List Group) (x v : ℕ) (b : Bool) → nat_eq g.left h.left ≡ b → Has (h ∷ hs) x v → Has (cond b (join_groups g h ∷ hs) (g ∷ h ∷ hs)) x v
has_more_step g h hs x v true e (inl y) = let same = eqb-true g.left h.left e in inl (omega (arith, y.0), omega (arith, y.1), omega (arith, y.2))
has_more_step g h hs x v true e (inr m) = inr m
has_more_step g h hs x v false e m = inr m

has_more : (g : Group) (gs : List Group) (x v : ℕ) → Has gs x v → Has (group_before g gs) x v
has_more g [] x v m = absurd m
has_more g (h ∷ hs) x v m = has_more_step g h hs x v (nat_eq g.left h.left) refl m

each_is_in : (a : Axis) (vs : List ℕ) (k j n : ℕ) → n ≡ k + j → j < length vs → Has (groups_from a k vs) (x_of a n) (slice_index vs j)
each_is_in a [] k j n e l = absurd (omega arith)
each_is_in a (v ∷ vs) k zero n e l =
    let same : k ≡ n = omega arith in
    subst (λ (m : ℕ). Has (groups_from a k (v ∷ vs)) (x_of a m) v) same (has_first (one_state (x_of a k) v) (groups_from a (k + 1) vs) v (omega arith) (omega arith))
each_is_in a (v ∷ vs) k (suc j) n e l =
    has_more (one_state (x_of a k) v) (groups_from a (k + 1) vs) (x_of a n) (slice_index vs j) (each_is_in a vs (k + 1) j n (omega arith) (omega arith))

-- ---- the heights of states

-- the heights that the first states have are those of their values
states_step : (p : Plot) (base k v : ℕ) (values : List ℕ) → k < length values → v ≡ slice_index values k → (x : ℕ) → x_of p.calls k ≤ x → (x ≤ x_of p.calls (k + 1)) ⊎ (k + 1 ≡ length values)
    → IsYAt p base values x (y_of p.units v)
states_step p base k v values l e x at next = inl (k, (l, at, next), ap (y_of p.units) e)

are_ys : (p : Plot) (base end k : ℕ) (values vs : List ℕ) → k + length vs ≡ length values → ((j : ℕ) → j < length vs → slice_index vs j ≡ slice_index values (k + j))
    → AreYs p.units end (IsYAt p base values) (groups_from p.calls k vs)
are_ys p base end k values [] e h = tt
are_ys p base end k values (v ∷ vs) e h =
    let here : v ≡ slice_index values k = h 0 (omega arith) ∙ ap (slice_index values) (omega arith) in
    let value = states_step p base k v values (omega arith) here in
    let place = x_of p.calls k in
    ys_before p.units end (IsYAt p base values) (one_state place v) (groups_from p.calls (k + 1) vs) (value place (omega arith) (inl (x_grows p.calls k (k + 1) (omega arith))))
    (value place (omega arith) (inl (x_grows p.calls k (k + 1) (omega arith)))) (λ x l m. value x l (until vs e m))
    (are_ys p base end (k + 1) values vs (omega arith) (λ j l. h (suc j) (omega arith) ∙ ap (slice_index values) (omega arith)))
  where
    until : {x : ℕ} (ws : List ℕ) → k + suc (length ws) ≡ length values → x ≤ first_left end (groups_from p.calls (k + 1) ws) → (x ≤ x_of p.calls (k + 1)) ⊎ (k + 1 ≡ length values)
    until [] e m = inr (omega arith)
    until (w ∷ ws) e m = inl (omega (arith, first_before end (one_state (x_of p.calls (k + 1)) w) (groups_from p.calls (k + 1 + 1) ws)))

-- the first state lies at the beginning of the axis
at_start : (a : Axis) → a.start ≡ 12000 → x_of a 0 ≡ a.start
at_start a e =
    let none : min 0 a.most ≡ 0 = omega arith in
    let zero-along : along a.span a.most 0 ≡ 0 * a.span / a.most = ap (λ n. n * a.span / a.most) none in
    let small = div-le_self (0 * a.span) a.most in
    omega (arith, zero-along, small)

pub lines_law : EachLineShowsItsValues
lines_law count top height last base p values is_plot some =
    let a = p.calls in
    let u = p.units in
    let end = a.start + a.span in
    let gs = groups_from a 0 values in
    let w : (i : ℕ) → x_of a i ≤ end = λ i. let e = along_within a.span a.most i a.positive in omega arith in
    let begin : x_of a 0 ≡ a.start = at_start a is_plot.calls.0 in
    let rises : IsRising end a.start gs = sooner end a.start (x_of a 0) gs (omega arith) (groups_rise a end 0 values w) in
    let before : (x : ℕ) → a.start ≤ x → x ≤ first_left end gs → IsYAt p base values x base =
    λ x l m. inr (inl (omega (arith, begins a end values some)), refl) in
    let heights = are_ys p base end 0 values values (omega arith) (λ j l. ap (slice_index values) (omega arith)) in (
      line u end base base gs,
      line_written p base values,
      record {
        across = λ k. (omega arith, omega arith);
        upright = λ v. (omega arith, omega arith);
        each_state = λ k l. shows u end base a.start base (x_of a k) (slice_index values k) gs rises (each_is_in a values 0 k k (omega arith) l);
        each_point = λ x y on. traced u end base a.start base x y (IsYAt p base values) gs rises before heights (inr (inr refl, refl)) on;
      },
    )
  where
    begins : (a : Axis) (end : ℕ) (vs : List ℕ) → 0 < length vs → first_left end (groups_from a 0 vs) ≡ x_of a 0
    begins a end [] h = absurd (omega arith)
    begins a end (v ∷ vs) h = first_before end (one_state (x_of a 0) v) (groups_from a (0 + 1) vs)
