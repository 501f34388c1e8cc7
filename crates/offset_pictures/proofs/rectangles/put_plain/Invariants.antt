use Rattle.std.proofs.Common.{◌≡◌, ◌++◌, drop}
use Rattle.std.specs.Prelude.{string_bytes}
use Rattle.offset_pictures.specs.Rectangles.{plain_of_age}
use Rattle.offset_pictures.proofs.rectangles.put_plain.Given as goal

-- the rectangles so far, and those to come, are all
abbrev pub invariant-loop-shape : goal.invariant-loop-shape
invariant-loop-shape l = string_bytes l.out ++ plain_of_age (drop l.shape-index l.shapes) l.age ≡ string_bytes l.initial.out ++ plain_of_age l.shapes l.age
