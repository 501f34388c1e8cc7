use Rattle.offset_calls.proofs.Common.{◌≡◌, map, take, drop, ◌++◌, start, after, replies, reply_view, Takes}
use Rattle.offset_script.specs.Agreement.{IsAtState}
use Rattle.offset_script.proofs.Simulation.{IsBegun}
use Rattle.offset_calls.specs.Steps.{AreNumbers}
use Rattle.offset_calls.proofs.playing.play_calls_of.Given as goal

-- the replies so far and those to what is left are those to all, the steps so far begin any run that goes on, and the
-- numbers that were read are right
abbrev pub invariant-loop-call : goal.invariant-loop-call
invariant-loop-call g l =
    let state = after (take l.call-index l.calls) (start l.size l.max_allocs) in
    record {
      numbers : AreNumbers l.player.handles.items l.numbers.grants l.numbers.by_name.items;
      represents : IsAtState l.player.space l.player.handles.items state;
      steps : IsBegun Takes l.size l.max_allocs l.player.space l.player.handles.items (take l.call-index l.calls) (map reply_view l.found.items);
      so_far : map reply_view l.found.items ++ replies (drop l.call-index l.calls) state ≡ replies l.calls (start l.size l.max_allocs);
    }
