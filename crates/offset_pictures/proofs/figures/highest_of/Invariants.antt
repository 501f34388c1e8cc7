use Rattle.std.proofs.Common.{◌≡◌, map, take}
use Rattle.offset_pictures.specs.Figures.{end_of, largest}
use Rattle.offset_pictures.proofs.figures.highest_of.Given as goal

-- the largest end so far
abbrev pub invariant-loop-life : goal.invariant-loop-life
invariant-loop-life l = l.highest ≡ largest (map end_of (take l.life-index l.lives))
