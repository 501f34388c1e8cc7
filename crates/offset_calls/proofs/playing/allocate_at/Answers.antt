use Rattle.offset_calls.proofs.Common.{sym, subst}
use Rattle.offset_script.proofs.Held.{may_be_kept}
use Rattle.offset_script.specs.Steps.{MayBeKept}
use Rattle.offset_calls.proofs.playing.allocate_at.Goals as goal

pub keep-requires-clause-granted : goal.keep-requires-clause-granted
keep-requires-clause-granted g c = subst (MayBeKept c.allocate_at-granted.result c.allocate_at-granted.new.self) (sym c.reserve.ensures.items)
    (may_be_kept c.args.size c.args.player.now.space c.allocate_at-granted.new.self c.args.player.now.handles.items c.allocate_at-granted.result c.allocate_at-granted.ensures.grants
    c.requires.held)
