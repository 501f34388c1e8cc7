use Rattle.std.proofs.Common.{◌≡◌, map, take}
use Rattle.offset_pictures.specs.Levels.{free_of, joined_of, most_of}
use Rattle.offset_pictures.proofs.levels.levels_of.Given as goal

-- the heights of the states so far
abbrev pub invariant-loop-report : goal.invariant-loop-report
invariant-loop-report l = record {
  free : l.free.items ≡ map free_of (take l.report-index l.reports);
  joined : l.joined_units.items ≡ map joined_of (take l.report-index l.reports);
  most : l.most.items ≡ map most_of (take l.report-index l.reports);
}
