-- The rectangles of two lives are apart where the lives are.
use Rattle.std.proofs.Common.{ℕ, ◌+◌, ◌-◌, ◌*◌, ◌/◌, ◌<◌, ◌≤◌, Bool, true, false, cond, ◌⊎◌, inl, inr, All, AllPairs, get_or, map, arith, subst, sym}
use Rattle.std.proofs.Math.ListN.{get_or-map, length-map}
use Rattle.std.proofs.lemmas.Bool.{cases_lt}
use Rattle.offset_pictures.specs.declared.axes.Axis.{Axis}
use Rattle.offset_pictures.specs.declared.living.Life.{Life}
use Rattle.offset_pictures.specs.declared.plots.Plot.{Plot}
use Rattle.offset_pictures.specs.declared.shapes.Shape.{Shape}
use Rattle.offset_pictures.specs.Lives as plain
use Rattle.offset_pictures.specs.{Lives.IsOrdered, Lives.life_view, Merging.rounded_if_tiny, Merging.is_tiny, Merging.round_out, Axes.right_of, Axes.up_of, Rectangles.frame_of, Shapes.shape_of}
use Rattle.offset_pictures.specs.Overlaps.{AreApart, AreDrawnApart, AreNearlyApart, IsAbove, IsLeftOf, RectanglesAreApart}
use Rattle.offset_pictures.proofs.{Apart.apart_law, Lined.along_grows, Lined.along_within, Ordered.lives_are_ordered}

right_grows : (a : Axis) (m n : ℕ) → m ≤ n → right_of a m ≤ right_of a n
right_grows a m n l = let e = along_grows a.span a.most m n a.positive l in omega arith

up_falls : (a : Axis) (m n : ℕ) → m ≤ n → up_of a n ≤ up_of a m
up_falls a m n l = let e = along_grows a.span a.most m n a.positive l in omega arith

up_from : (a : Axis) (n : ℕ) → a.start ≤ up_of a n
up_from a n = let e = along_within a.span a.most n a.positive in omega arith

left_of : (s t : Shape) → s.left ≤ s.right → s.right ≤ t.left → IsLeftOf (frame_of s) (frame_of t)
left_of s t o l = either (cases_lt (s.right - s.left) 30)
  where
    either : (s.right - s.left < 30) ⊎ (30 ≤ s.right - s.left) → IsLeftOf (frame_of s) (frame_of t)
    either (inl x) = inr (omega arith, omega arith)
    either (inr x) = inl (omega arith)

above : (s t : Shape) → 30 ≤ s.bottom → 30 ≤ t.bottom → s.top ≤ s.bottom → t.top ≤ t.bottom → s.bottom ≤ t.top → IsAbove (frame_of s) (frame_of t)
above s t x y o p l = either (cases_lt (t.bottom - t.top) 30)
  where
    either : (t.bottom - t.top < 30) ⊎ (30 ≤ t.bottom - t.top) → IsAbove (frame_of s) (frame_of t)
    either (inl z) = inr (omega arith, omega arith)
    either (inr z) = inl (omega arith)

-- a shape does not end before it begins, and lies a little below the upper end of the picture
record IsUpright (s : Shape) : Type 0 where
  across : s.left ≤ s.right
  down : s.top ≤ s.bottom
  low : 30 ≤ s.bottom

is_upright : (p : Plot) (l : Life) → 30 ≤ p.units.start → l.first ≤ l.last → IsUpright (shape_of p l)
is_upright p l low o = record {
  across = right_grows p.calls (l.first + 1) (l.last + 1) (omega arith);
  down = up_falls p.units l.offset (l.offset + l.size) (omega arith);
  low = omega (arith, up_from p.units l.offset);
}

shapes_apart : (p : Plot) (a b : Life) → plain.AreApart (life_view a) (life_view b) → AreApart (shape_of p a) (shape_of p b)
shapes_apart p a b (inl l) = inl (right_grows p.calls (a.last + 1) (b.first + 1) (omega arith))
shapes_apart p a b (inr (inl l)) = inr (inl (right_grows p.calls (b.last + 1) (a.first + 1) (omega arith)))
shapes_apart p a b (inr (inr (inl l))) = inr (inr (inr (up_falls p.units (a.offset + a.size) b.offset l)))
shapes_apart p a b (inr (inr (inr l))) = inr (inr (inl (up_falls p.units (b.offset + b.size) a.offset l)))

drawn_apart : (s t : Shape) → IsUpright s → IsUpright t → AreApart s t → AreDrawnApart (frame_of s) (frame_of t)
drawn_apart s t x y (inl l) = inl (left_of s t x.across l)
drawn_apart s t x y (inr (inl l)) = inr (inl (left_of t s y.across l))
drawn_apart s t x y (inr (inr (inl l))) = inr (inr (inl (above s t x.low y.low x.down y.down l)))
drawn_apart s t x y (inr (inr (inr l))) = inr (inr (inr (above t s y.low x.low y.down x.down l)))

-- ---- rectangles whose edges are rounded outwards, where they are tiny

-- each edge is at most at the whole tenth beyond it
record IsNear (s t : Shape) : Type 0 where
  right : t.right ≤ (s.right + 9) / 10 * 10
  left : s.left / 10 * 10 ≤ t.left
  bottom : t.bottom ≤ (s.bottom + 9) / 10 * 10
  top : s.top / 10 * 10 ≤ t.top

near : (b : Bool) (s : Shape) → IsNear s (cond b (round_out s) s)
near true s = record { right = omega arith; left = omega arith; bottom = omega arith; top = omega arith }
near false s = record { right = omega arith; left = omega arith; bottom = omega arith; top = omega arith }

beside : (s t : Shape) → s.right ≤ t.left → (rounded_if_tiny s).right ≤ (rounded_if_tiny t).left + 10
beside s t l = let x = near (is_tiny s) s in let y = near (is_tiny t) t in omega (arith, x.right, y.left)

beneath : (s t : Shape) → s.bottom ≤ t.top → (rounded_if_tiny s).bottom ≤ (rounded_if_tiny t).top + 10
beneath s t l = let x = near (is_tiny s) s in let y = near (is_tiny t) t in omega (arith, x.bottom, y.top)

rounded_apart : (s t : Shape) → AreApart s t → AreNearlyApart (rounded_if_tiny s) (rounded_if_tiny t)
rounded_apart s t (inl l) = inl (beside s t l)
rounded_apart s t (inr (inl l)) = inr (inl (beside t s l))
rounded_apart s t (inr (inr (inl l))) = inr (inr (inl (beneath s t l)))
rounded_apart s t (inr (inr (inr l))) = inr (inr (inr (beneath t s l)))

-- ---- the lives of a script

pub rectangles_apart : RectanglesAreApart
rectangles_apart size limit h cs count last p lives is_plot are i j d l m =
    let a = get_or lives i d in
    let b = get_or lives j d in
    let apart : AllPairs plain.AreApart (map life_view lives) = subst (λ ls. AllPairs plain.AreApart ls) (sym are) (apart_law size limit h cs) in
    let ordered : All IsOrdered (map life_view lives) = subst (λ ls. All IsOrdered ls) (sym are) (lives_are_ordered size limit cs) in
    let x = get_or-map life_view lives i d in
    let y = get_or-map life_view lives j d in
    let len = length-map lives life_view in
    let both : plain.AreApart (life_view a) (life_view b) =
    subst (λ v. plain.AreApart (life_view a) v) y (subst (λ u. plain.AreApart u (get_or (map life_view lives) j (life_view d))) x (apart i j (life_view d) l (omega (arith, len)))) in
    let one : a.first ≤ a.last = subst IsOrdered x (ordered i (life_view d) (omega (arith, len))) in
    let two : b.first ≤ b.last = subst IsOrdered y (ordered j (life_view d) (omega (arith, len))) in
    let low : 30 ≤ p.units.start = omega (arith, is_plot.units.0) in
    let exact = shapes_apart p a b both in
    record {
      exact = exact;
      thicker = drawn_apart (shape_of p a) (shape_of p b) (is_upright p a low one) (is_upright p b low two) exact;
      rounded = rounded_apart (shape_of p a) (shape_of p b) exact;
    }
