use Rattle.std.proofs.Common.{◌≡◌, ◌++◌, drop, map}
use Rattle.offset_pictures.specs.Merging.{key_of, large_shapes, merge, shape_of_key, tiny_shapes}
use Rattle.offset_pictures.proofs.Listed.{growing}
use Rattle.offset_pictures.proofs.merging.merged_shapes.Given as goal

-- the rectangles so far, with those of the lives to come, are all
abbrev pub invariant-loop-life : goal.invariant-loop-life
invariant-loop-life l = record {
  large : l.found.items ++ large_shapes l.plot (drop l.life-index l.lives) ≡ large_shapes l.plot l.lives;
  tiny : l.tiny.items ++ map key_of (tiny_shapes l.plot (drop l.life-index l.lives)) ≡ map key_of (tiny_shapes l.plot l.lives);
}

-- the rectangles so far, the last of which may still grow, with the tiny ones to come, are all
abbrev pub invariant-loop-key : goal.invariant-loop-key
invariant-loop-key l = record {
  listed : l.found.items ++ growing l.last (drop l.key-index (map shape_of_key l.key-items)) ≡ l.initial.found.items ++ merge (map shape_of_key l.key-items);
}
