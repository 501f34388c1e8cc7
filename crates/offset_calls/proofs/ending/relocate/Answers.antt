use Rattle.offset_calls.proofs.Common.{sym, subst}
use Rattle.offset_script.proofs.Held.{held_granted, may_be_kept}
use Rattle.offset_script.specs.Steps.{AreHeld, MayBeKept}
use Rattle.offset_allocator.proofs.Sound.{state_space}
use Rattle.offset_allocator.specs.Ranges.{size_of}
use Rattle.offset_calls.proofs.ending.relocate.Goals as goal

pub keep-requires : goal.keep-requires
keep-requires g c =
    let v = c.args.player.now.space in
    record {
      held = subst (AreHeld c.relocate-granted.new.self) (sym c.reserve.ensures.items) (held_granted (size_of c.in-Some.handle.name v) v c.relocate-granted.new.self c.args.player.now.handles.items c.relocate-granted.result c.relocate-granted.ensures.grants
          (λ e. state_space v c.relocate-granted.new.self (c.relocate-granted.ensures.same e)) c.requires);
      granted = subst (MayBeKept c.relocate-granted.result c.relocate-granted.new.self) (sym c.reserve.ensures.items)
          (may_be_kept (size_of c.in-Some.handle.name v) v c.relocate-granted.new.self c.args.player.now.handles.items c.relocate-granted.result c.relocate-granted.ensures.grants c.requires);
    }
