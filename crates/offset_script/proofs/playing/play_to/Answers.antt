use Rattle.offset_script.proofs.Common.{◌≡◌, ◌+◌, ◌<◌, ◌∙◌, [], ◌∷◌, ◌++◌, length, take, map, refl, sym, ap, subst, arith, answers, start, after, Takes, AreStepsFromFresh, IsWellFormed, answer_view}
use Rattle.offset_script.proofs.{Common.take_more, Common.take_all, Common.map-append, Common.Command, Simulation.fresh_represents, Simulation.steps_begin, Simulation.steps_go_on}
use Rattle.offset_script.specs.Agreement.{IsAtState}
use Rattle.offset_script.proofs.{Simulation.steps_end, Asking.answers-append, Heard.shows, Heard.told, Nests.after-append, Well.well_start, Well.well_after}
use Rattle.offset_script.proofs.playing.play_to.Goals as goal

pub hear-requires : goal.hear-requires
hear-requires g c =
    let s = start c.args.size c.args.max_allocs in
    let before = map g.L.Listener.played (take c.loop-command.command-index c.args.commands.now) in
    let takes = subst (λ w. Takes c.played-asked.result c.loop-command.player.space c.loop-command.player.handles w c.call.new.self.handles (answer_view c.in_ok-answer.answer))
    (sym c.space-space.ensures) c.in_ok-answer.ensures.takes in
    let t = told c.played-asked.result (after before s) _ _ _ _ _ (well_after before s (well_start c.args.size c.args.max_allocs c.requires.low)) c.loop-command.invariant.represents
    c.played-asked.ensures.alignment c.is_well_formed-in-loop-command.ensures takes in
    record { alignment = c.played-asked.ensures.alignment; told = (after before s, t.0) }

pub loop-command-init : goal.loop-command-init
loop-command-init g c =
    let s = start c.args.size c.args.max_allocs in
    let fresh = c.in_ok-player.ensures.fresh in
    let formed = subst IsWellFormed c.space-fresh.ensures c.is_well_formed.ensures in
    let represents = fresh_represents c.in_ok-player.player.space formed c.args.size c.args.max_allocs c.in_ok-player.player.handles fresh.0 fresh.1 in
    let shown = subst (λ v. IsAtState v c.in_ok-player.player.handles s) (sym c.space-fresh.ensures) represents in
    record {
      represents = represents;
      steps = steps_begin Takes c.args.size c.args.max_allocs _ _ [] fresh.0 fresh.1 refl;
      heard = c.in_ok-listener.ensures s (shows _ _ s (well_start c.args.size c.args.max_allocs c.requires.low) shown);
    }

pub loop-command-preserved : goal.loop-command-preserved
loop-command-preserved g c =
    let s = start c.args.size c.args.max_allocs in
    let cs = c.args.commands.now in
    let i = c.loop-command.command-index in
    let before = map g.L.Listener.played (take i cs) in
    let q : Command = c.played-asked.result in
    let within : i < length cs = omega arith in
    let formed = subst IsWellFormed c.space-space.ensures c.is_well_formed-in-loop-command.ensures in
    let well = well_after before s (well_start c.args.size c.args.max_allocs c.requires.low) in
    let t = told q (after before s) _ _ _ _ _ well c.loop-command.invariant.represents c.played-asked.ensures.alignment formed c.in_ok-answer.ensures.takes in
    let takes = subst (λ w. Takes c.played-asked.result c.loop-command.player.space c.loop-command.player.handles w c.call.new.self.handles (answer_view c.in_ok-answer.answer))
    (sym c.space-space.ensures) c.in_ok-answer.ensures.takes in
    let heard = told q (after before s) _ _ _ _ _ well c.loop-command.invariant.represents c.played-asked.ensures.alignment c.is_well_formed-in-loop-command.ensures takes in
    let more : map g.L.Listener.played (take (i + 1) cs) ≡ before ++ q ∷ [] =
    ap (map g.L.Listener.played) (take_more cs i _ within) ∙ map-append g.L.Listener.played (take i cs) _ ∙ ap (λ x. before ++ x ∷ []) (sym c.played-asked.ensures.command) in
    record {
      represents = subst (IsAtState c.call.new.self.space c.call.new.self.handles) (sym (ap (λ l. after l s) more ∙ after-append before (q ∷ []) s)) t.1;
      steps = steps_go_on Takes _ _ _ _ _ _ _ _ _ _ _ _ c.loop-command.invariant.steps c.in_ok-answer.ensures.takes formed more
          (ap (λ l. answers l s) more ∙ answers-append before (q ∷ []) s ∙ ap (λ a. answers before s ++ a ∷ []) (sym t.0.answer));
      heard = subst (g.L.Listener.Heard c.hear.new.self s) (sym more) (c.in_ok-hear.ensures s before heard.0 c.loop-command.invariant.heard);
    }

pub returns : goal.returns
returns g c =
    let s = start c.args.size c.args.max_allocs in
    let cs = map g.L.Listener.played c.args.commands.now in
    let all = ap (map g.L.Listener.played) (take_all c.loop-command.command-index c.args.commands.now (omega arith)) in
    record {
      heard = subst (g.L.Listener.Heard c.loop-command.listener s) all c.loop-command.invariant.heard;
      steps = subst (λ l. AreStepsFromFresh Takes c.args.size c.args.max_allocs cs (answers l s)) all (steps_end Takes _ _ _ _ _ cs _ c.loop-command.invariant.steps all);
    }
