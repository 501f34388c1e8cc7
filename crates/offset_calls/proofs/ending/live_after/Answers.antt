use Rattle.offset_calls.proofs.{Common.sym, Common.subst, Beside.after_kept}
use Rattle.offset_calls.specs.Steps.{IsKeptSome}
use Rattle.offset_calls.proofs.ending.live_after.Goals as goal

pub find-requires-clause-kept : goal.find-requires-clause-kept
find-requires-clause-kept g c = subst (λ hs. IsKeptSome hs c.live_after-found.result) (sym c.deref.ensures.value)
    (subst (IsKeptSome c.args.player.now.handles.items) (sym c.live_after-found.ensures)
    (after_kept c.in-Some.handle.name c.args.player.now.space c.args.player.now.handles.items c.requires.kept))
