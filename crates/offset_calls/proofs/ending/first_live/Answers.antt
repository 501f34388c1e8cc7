use Rattle.offset_calls.proofs.{Common.sym, Common.subst, Beside.front_kept}
use Rattle.offset_calls.specs.Steps.{IsKeptSome}
use Rattle.offset_calls.proofs.ending.first_live.Goals as goal

pub find-requires-clause-kept : goal.find-requires-clause-kept
find-requires-clause-kept g c = subst (λ hs. IsKeptSome hs c.first_live-found.result) (sym c.deref.ensures.value)
    (subst (IsKeptSome c.args.player.now.handles.items) (sym c.first_live-found.ensures) (front_kept c.args.player.now.space c.args.player.now.handles.items c.requires.kept))
