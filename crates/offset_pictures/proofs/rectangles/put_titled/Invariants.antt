use Rattle.std.proofs.Common.{◌≡◌, ◌++◌, drop, length, nat_eq}
use Rattle.std.specs.{Prelude.filter, Prelude.flat_map, Prelude.string_bytes, List.zip}
use Rattle.offset_pictures.specs.Rectangles.{titled_of_age, titled_text}
use Rattle.offset_pictures.proofs.rectangles.put_titled.Given as goal

-- the rectangles so far, and those to come, are all
abbrev pub invariant-loop-shape : goal.invariant-loop-shape
invariant-loop-shape l =
    string_bytes l.out ++ flat_map (titled_text l.calls) (filter (λ r. nat_eq r.0.age l.age) (drop (length l.yielded) (zip l.shapes l.lives)))
    ≡ string_bytes l.initial.out ++ titled_of_age l.calls l.shapes l.lives l.age
