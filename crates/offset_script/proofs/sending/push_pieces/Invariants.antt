use Rattle.offset_script.proofs.Common.{◌≡◌, take, flat_map, Appends}
use Rattle.offset_script.proofs.sending.push_pieces.Given as goal

abbrev pub invariant-loop-part : goal.invariant-loop-part
invariant-loop-part g l = record {
  sent : Appends (g.K.Sink.held l.initial.output) (g.K.Sink.held l.output) (flat_map (λ piece. piece.items) (take l.part-index l.pieces));
  failed : g.K.Sink.has_failed l.output ≡ g.K.Sink.has_failed l.initial.output;
  failed_push : g.K.Sink.push_has_failed l.output ≡ g.K.Sink.push_has_failed l.initial.output;
}
