use Rattle.offset_calls.proofs.{Common.sym, Common.subst, Beside.last_kept}
use Rattle.offset_calls.specs.Steps.{IsKeptSome}
use Rattle.offset_calls.proofs.ending.last_live.Goals as goal

pub find-requires-clause-kept : goal.find-requires-clause-kept
find-requires-clause-kept g c = subst (λ hs. IsKeptSome hs c.last_live-found.result) (sym c.deref.ensures.value)
    (subst (IsKeptSome c.args.player.now.handles.items) (sym c.last_live-found.ensures) (last_kept c.args.player.now.space c.args.player.now.handles.items c.requires.kept))
