use Rattle.offset_script.specs.Agreement.{IsAtState}
use Rattle.offset_script.proofs.{Common.take, Common.map, Common.answers, Common.after, Common.start, Common.Takes, Simulation.IsBegun}
use Rattle.offset_script.proofs.playing.play_to.Given as goal

-- the space is at the state after the commands so far, their answers are of a run that may go on, and the listener has heard them
abbrev pub invariant-loop-command : goal.invariant-loop-command
invariant-loop-command g l =
    let s = start l.size l.max_allocs in
    let before = map g.L.Listener.played (take l.command-index l.commands) in
    record {
      represents : IsAtState l.player.space l.player.handles (after before s);
      steps : IsBegun Takes l.size l.max_allocs l.player.space l.player.handles before (answers before s);
      heard : g.L.Listener.Heard l.listener s before;
    }
