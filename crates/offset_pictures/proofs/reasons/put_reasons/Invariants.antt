use Rattle.std.proofs.Common.{◌≡◌, ◌≤◌, ◌++◌, drop}
use Rattle.std.specs.Prelude.{MatchOption, flat_map, string_bytes}
use Rattle.offset_pictures.specs.Reasons.{spot_text, spots_of}
use Rattle.offset_pictures.proofs.Spotted.{opened}
use Rattle.offset_pictures.proofs.reasons.put_reasons.Given as goal

-- there are no more open calls than were seen, and those and the calls to come make the whole text
abbrev pub invariant-loop-call : goal.invariant-loop-call
invariant-loop-call l = record {
  few : MatchOption l.spot (Unit {0}) (λ s. s.more ≤ l.call-index);
  text : string_bytes l.out ++ flat_map (spot_text l.y l.reports) (opened l.spot (spots_of l.plot.calls (drop l.call-index l.refused)))
      ≡ string_bytes l.initial.out ++ flat_map (spot_text l.y l.reports) (spots_of l.plot.calls l.refused);
}
