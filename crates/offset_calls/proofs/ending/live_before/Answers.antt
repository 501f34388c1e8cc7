use Rattle.offset_calls.proofs.{Common.sym, Common.subst, Beside.before_kept}
use Rattle.offset_calls.specs.Steps.{IsKeptSome}
use Rattle.offset_calls.proofs.ending.live_before.Goals as goal

pub find-requires-clause-kept : goal.find-requires-clause-kept
find-requires-clause-kept g c = subst (λ hs. IsKeptSome hs c.live_before-found.result) (sym c.deref.ensures.value)
    (subst (IsKeptSome c.args.player.now.handles.items) (sym c.live_before-found.ensures)
    (before_kept c.in-Some.handle.name c.args.player.now.space c.args.player.now.handles.items c.requires.kept))
