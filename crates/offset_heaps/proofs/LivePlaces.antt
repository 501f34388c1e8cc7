-- The live ranges of a heap, by their places.
use Rattle.std.proofs.Common.{◌≡◌, ℕ, Option, Some, None, option_map, refl, sym, ap, ◌∙◌}
use Rattle.offset_allocator.specs.View.{Handle, View}
use Rattle.offset_guarded.specs.Guard.{Guard, Ticket, ticket_at}
use Rattle.offset_heaps.specs.Places.{Place, place_of}
use Rattle.offset_heaps.specs.Relocating.{found_in, place_in}

pub fused : (k realm : ℕ) (g : Guard) (x : Option Handle) → option_map (place_of k realm) (option_map (λ (h : Handle). ticket_at h g) x) ≡ option_map (place_in k realm g) x
fused k realm g None = refl
fused k realm g (Some h) = refl

pub found_of : (find : View → Option Handle) (k realm : ℕ) (g : Guard) (o : Option Guard) (t : Option Ticket) (r : Option Place) → o ≡ Some g → t ≡ option_map (λ (h : Handle). ticket_at h g) (find g.space)
    → r ≡ option_map (place_of k realm) t → r ≡ found_in find k realm o
found_of find k realm g o t r there is made = made ∙ ap (option_map (place_of k realm)) is ∙ fused k realm g (find g.space) ∙ sym (ap (found_in find k realm) there)

pub none_of : (k realm : ℕ) (t : Option Ticket) (r : Option Place) → t ≡ None → r ≡ option_map (place_of k realm) t → r ≡ None
none_of k realm t r none made = made ∙ ap (option_map (place_of k realm)) none
