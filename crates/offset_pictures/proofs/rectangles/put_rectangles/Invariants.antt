use Rattle.std.proofs.Common.{◌≡◌, ◌++◌}
use Rattle.std.specs.Prelude.{flat_map, string_bytes}
use Rattle.offset_pictures.specs.Rectangles.{age_text, falling_below}
use Rattle.offset_pictures.proofs.Held.{held}
use Rattle.offset_pictures.proofs.rectangles.put_rectangles.Given as goal

-- the groups so far, and those of the ages to come, are all
abbrev pub invariant-loop-age : goal.invariant-loop-age
invariant-loop-age l =
    string_bytes l.out ++ flat_map (age_text (held l.is_merged l.calls l.shapes.items l.lives)) (falling_below l.age)
    ≡ string_bytes l.initial.out ++ flat_map (age_text (held l.is_merged l.calls l.shapes.items l.lives)) (falling_below 8)
