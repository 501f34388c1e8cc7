-- Each point of a line is at the height of a state, or between two of them.
use Rattle.std.proofs.Common.{◌≡◌, ℕ, ◌<◌, ◌≤◌, Bool, true, false, cond, ◌⊎◌, inl, inr, List, [], ◌∷◌, ◌++◌, nat_eq, refl, sym, subst, arith, eqb-true}
use Rattle.std.proofs.lemmas.Bool.{cases_lt}
use Rattle.std.specs.Prelude.{max, min}
use Rattle.offset_pictures.specs.declared.axes.Axis.{Axis}
use Rattle.offset_pictures.specs.declared.step_lines.Column.{Column}
use Rattle.offset_pictures.specs.declared.step_lines.Group.{Group}
use Rattle.offset_pictures.specs.{Lines.IsBetween, Lines.IsOn, Lines.Step, StepLines.column_of, StepLines.group_before, StepLines.join_groups, Axes.y_of}
use Rattle.offset_pictures.proofs.Lined.{IsRising, drawn_first, is_left_out, line, one, same_y, sooner, uprights}

-- a point is at a height that its place has, or between two of them
abbrev pub Found : (ℕ → ℕ → Type 0) → ℕ → ℕ → Type 0
Found N x y = (a b : ℕ) × N x a × N x b × IsBetween a b y

found : (N : ℕ → ℕ → Type 0) (x q a b h : ℕ) → q ≡ x → N x a → N x b → IsBetween a b h → Found N q h
found N x q a b h e i j m = (a, b, subst (λ z. N z a) (sym e) i, subst (λ z. N z b) (sym e) j, m)

at_one : (N : ℕ → ℕ → Type 0) (x a h : ℕ) → h ≡ a → N x a → Found N x h
at_one N x a h e i = (a, a, i, i, (omega arith, omega arith))

-- a point on the upright steps of a column is between two of its heights and that before it, or comes later
passed : (N : ℕ → ℕ → Type 0) (y z : Bool) (c : Column) (pen q h : ℕ) (rest : List Step)
    → N c.left pen → N c.left c.top → N c.left c.bottom → N c.left c.last → IsOn q h c.left pen (uprights y z c ++ rest)
    → Found N q h ⊎ IsOn q h c.left c.last rest
passed N true true c pen q h rest p t b l (inl x) = inl (found N c.left q pen c.last h x.0 p l x.1)
passed N true true c pen q h rest p t b l (inr m) = inr m
passed N true false c pen q h rest p t b l (inl x) = inl (found N c.left q pen c.bottom h x.0 p b x.1)
passed N true false c pen q h rest p t b l (inr (inl x)) = inl (found N c.left q c.bottom c.last h x.0 b l x.1)
passed N true false c pen q h rest p t b l (inr (inr m)) = inr m
passed N false true c pen q h rest p t b l (inl x) = inl (found N c.left q pen c.top h x.0 p t x.1)
passed N false true c pen q h rest p t b l (inr (inl x)) = inl (found N c.left q c.top c.last h x.0 t l x.1)
passed N false true c pen q h rest p t b l (inr (inr m)) = inr m
passed N false false c pen q h rest p t b l (inl x) = inl (found N c.left q pen c.top h x.0 p t x.1)
passed N false false c pen q h rest p t b l (inr (inl x)) = inl (found N c.left q c.top c.bottom h x.0 t b x.1)
passed N false false c pen q h rest p t b l (inr (inr (inl x))) = inl (found N c.left q c.bottom c.last h x.0 b l x.1)
passed N false false c pen q h rest p t b l (inr (inr (inr m))) = inr m

-- ---- groups

-- the place of the first group, or the end
abbrev pub first_left : ℕ → List Group → ℕ
first_left end [] = end
first_left end (g ∷ gs) = g.left

-- the heights of each group are some that its place has, and its last one is so up to the place of the next
abbrev pub AreYs : Axis → ℕ → (ℕ → ℕ → Type 0) → List Group → Type 0
AreYs u end N [] = Unit {0}
AreYs u end N (g ∷ gs) =
    N g.left (y_of u g.most) × N g.left (y_of u g.least) × ((x : ℕ) → g.left ≤ x → x ≤ first_left end gs → N x (y_of u g.last)) × AreYs u end N gs

first_rises : (end from : ℕ) (gs : List Group) → IsRising end from gs → from ≤ first_left end gs
first_rises end from [] r = r
first_rises end from (g ∷ gs) r = r.0

trace_step : (u : Axis) (end base from pen q h : ℕ) (N : ℕ → ℕ → Type 0) (g : Group) (gs : List Group) (b : Bool)
    → is_left_out u g pen ≡ b → IsRising end from (g ∷ gs) → ((x : ℕ) → from ≤ x → x ≤ g.left → N x pen)
    → AreYs u end N (g ∷ gs)
    → (((x : ℕ) → from ≤ x → x ≤ first_left end gs → N x (y_of u g.last)) → IsOn q h from (y_of u g.last) (line u end base (y_of u g.last) gs) → Found N q h)
    → (IsOn q h g.left (y_of u g.last) (line u end base (y_of u g.last) gs) → Found N q h) → IsOn q h from pen (one u end base pen g gs b) → Found N q h
trace_step u end base from pen q h N g gs true e r n all stays goes on =
    let same : y_of u g.last ≡ pen = same_y u g pen g.last e r.1 r.2 in
    stays (λ x l m. either x l m (cases_lt x g.left)) (subst (λ (z : ℕ). IsOn q h from z (line u end base (y_of u g.last) gs)) (sym same) on)
  where
    either : (x : ℕ) → from ≤ x → x ≤ first_left end gs → (x < g.left) ⊎ (g.left ≤ x) → N x (y_of u g.last)
    either x l m (inl less) = subst (λ z. N x z) (sym (same_y u g pen g.last e r.1 r.2)) (n x l (omega arith))
    either x l m (inr more) = all.2 x more m
trace_step u end base from pen q h N g gs false e r n all stays goes (inl x) = at_one N q pen h x.0 (n q (omega (arith, x.1, r.0)) (omega (arith, x.1, r.0)))
trace_step u end base from pen q h N g gs false e r n all stays goes (inr m) =
    let c = column_of u g in
    let rest = line u end base (y_of u g.last) gs in
    either (passed N (nat_eq c.top c.last) (nat_eq c.bottom c.last) c pen q h rest (n g.left r.0 (omega arith)) all.0 all.1 (all.2 g.left (omega arith) (first_rises end g.left gs r.3))
    (subst (λ (s : List Step). IsOn q h g.left pen s) (drawn_first u end base g gs) m))
  where
    either : Found N q h ⊎ IsOn q h g.left (y_of u g.last) (line u end base (y_of u g.last) gs) → Found N q h
    either (inl f) = f
    either (inr more) = goes more

pub traced : (u : Axis) (end base from pen q h : ℕ) (N : ℕ → ℕ → Type 0) (gs : List Group)
    → IsRising end from gs → ((x : ℕ) → from ≤ x → x ≤ first_left end gs → N x pen) → AreYs u end N gs → N end base
    → IsOn q h from pen (line u end base pen gs) → Found N q h
traced u end base from pen q h N [] r n all last (inl x) = at_one N q pen h x.0 (n q (omega (arith, x.1, r)) (omega (arith, x.1, r)))
traced u end base from pen q h N [] r n all last (inr (inl x)) = found N end q pen base h x.0 (n end r (omega arith)) last x.1
traced u end base from pen q h N [] r n all last (inr (inr x)) = found N end q base base h x.0 last last (omega (arith, x.1), omega (arith, x.1))
traced u end base from pen q h N (g ∷ gs) r n all last on =
    trace_step u end base from pen q h N g gs (is_left_out u g pen) refl r n all
    (λ m k. traced u end base from (y_of u g.last) q h N gs (sooner end from g.left gs r.0 r.3) m all.3 last k)
    (λ k. traced u end base g.left (y_of u g.last) q h N gs r.3 all.2 all.3 last k) on

-- a group before others
pub first_before : (end : ℕ) (g : Group) (gs : List Group) → first_left end (group_before g gs) ≡ g.left
first_before end g [] = refl
first_before end g (h ∷ hs) = by_test (nat_eq g.left h.left)
  where
    by_test : (b : Bool) → first_left end (cond b (join_groups g h ∷ hs) (g ∷ h ∷ hs)) ≡ g.left
    by_test true = refl
    by_test false = refl

larger : (u : Axis) (N : ℕ → ℕ → Type 0) (x m n : ℕ) → N x (y_of u m) → N x (y_of u n) → N x (y_of u (max m n))
larger u N x m n i j = either (cases_lt m n)
  where
    either : (m < n) ⊎ (n ≤ m) → N x (y_of u (max m n))
    either (inl l) = let e : n ≡ max m n = omega arith in subst (λ z. N x (y_of u z)) e j
    either (inr l) = let e : m ≡ max m n = omega arith in subst (λ z. N x (y_of u z)) e i

smaller : (u : Axis) (N : ℕ → ℕ → Type 0) (x m n : ℕ) → N x (y_of u m) → N x (y_of u n) → N x (y_of u (min m n))
smaller u N x m n i j = either (cases_lt m n)
  where
    either : (m < n) ⊎ (n ≤ m) → N x (y_of u (min m n))
    either (inl l) = let e : m ≡ min m n = omega arith in subst (λ z. N x (y_of u z)) e i
    either (inr l) = let e : n ≡ min m n = omega arith in subst (λ z. N x (y_of u z)) e j

ys_step : (u : Axis) (end : ℕ) (N : ℕ → ℕ → Type 0) (g h : Group) (hs : List Group) (b : Bool) → nat_eq g.left h.left ≡ b → N g.left (y_of u g.most) → N g.left (y_of u g.least)
    → ((x : ℕ) → g.left ≤ x → x ≤ h.left → N x (y_of u g.last)) → AreYs u end N (h ∷ hs) → AreYs u end N (cond b (join_groups g h ∷ hs) (g ∷ h ∷ hs))
ys_step u end N g h hs true e i j k all =
    let same = eqb-true g.left h.left e in (
      larger u N g.left g.most h.most i (subst (λ z. N z (y_of u h.most)) (sym same) all.0),
      smaller u N g.left g.least h.least j (subst (λ z. N z (y_of u h.least)) (sym same) all.1),
      λ x l m. all.2 x (omega arith) m,
      all.3,
    )
ys_step u end N g h hs false e i j k all = (i, j, k, all)

pub ys_before : (u : Axis) (end : ℕ) (N : ℕ → ℕ → Type 0) (g : Group) (gs : List Group) → N g.left (y_of u g.most) → N g.left (y_of u g.least)
    → ((x : ℕ) → g.left ≤ x → x ≤ first_left end gs → N x (y_of u g.last)) → AreYs u end N gs → AreYs u end N (group_before g gs)
ys_before u end N g [] i j k all = (i, j, k, tt)
ys_before u end N g (h ∷ hs) i j k all = ys_step u end N g h hs (nat_eq g.left h.left) refl i j k all
