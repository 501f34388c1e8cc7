use Rattle.std.proofs.Common.{◌≡◌, ◌≢◌, ℕ, Some, option_copied, ap, sym, subst, ◌∙◌}
use Rattle.offset_allocator.specs.{Ranges.AreDisjoint, Ranges.Range, View.View}
use Rattle.offset_allocator.specs.Ranges as named
use Rattle.offset_heaps.proofs.Places.{apart}
use Rattle.offset_heaps.proofs.laws.places_are_apart.Goals as goal

pub returns-in-Some : goal.returns-in-Some
returns-in-Some g c = apart c.args.heaps.now c.args.number c.in-Some.heap.now (sym c.heap.ensures ∙ ap option_copied c.in-Some.is)
    (subst (λ (v : View). (x y : ℕ) (r s : Range) → x ≢ y → named.range_of x v ≡ Some r → named.range_of y v ≡ Some s → AreDisjoint r s) c.allocator.ensures c.ranges_are_disjoint.ensures.disjoint)
