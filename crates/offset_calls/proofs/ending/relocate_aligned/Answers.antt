use Rattle.offset_calls.proofs.Common.{sym, subst, refl, kept_name, leb-true, IsKept}
use Rattle.offset_script.proofs.Simulation.{if_some}
use Rattle.offset_script.proofs.Held.{held_granted, may_be_kept}
use Rattle.offset_script.specs.Steps.{AreHeld, MayBeKept}
use Rattle.offset_allocator.proofs.Sound.{state_space}
use Rattle.offset_allocator.specs.{Ranges.size_of, Moving.Relocating.RelocatesAligned}
use Rattle.offset_script.specs.Machine.{answer_view}
use Rattle.offset_calls.proofs.ending.relocate_aligned.Goals as goal

pub keep-requires : goal.keep-requires
keep-requires g c =
    let v = c.args.player.now.space in
    let w = c.relocate_aligned-second.new.self in
    let hs = c.args.player.now.handles.items in
    record {
      held = subst (AreHeld w) (sym c.reserve.ensures.items) (held_granted (size_of c.in-Some.handle.name v) v w hs c.relocate_aligned-second.result c.relocate_aligned-second.ensures.grants
          (λ e. state_space v w (c.relocate_aligned-second.ensures.same e)) c.requires.held);
      granted = subst (MayBeKept c.relocate_aligned-second.result w) (sym c.reserve.ensures.items)
          (may_be_kept (size_of c.in-Some.handle.name v) v w hs c.relocate_aligned-second.result c.relocate_aligned-second.ensures.grants c.requires.held);
    }

pub returns-clause-takes : goal.returns-clause-takes
returns-clause-takes g c =
    let v = c.args.player.now.space in
    let hs = c.args.player.now.handles.items in
    let second = c.relocate_aligned-second.result in
    let step : RelocatesAligned c.in-Some.handle.name c.args.align v c.keep.new.self.space second =
    subst (λ u. RelocatesAligned c.in-Some.handle.name c.args.align v u second) (sym c.in_ok-keep.ensures.space) c.relocate_aligned-second.ensures.step in
    let kept : IsKept second hs c.keep.new.self.handles.items (answer_view c.in_ok-keep.field-0) =
    subst (λ l. IsKept second l c.keep.new.self.handles.items (answer_view c.in_ok-keep.field-0)) c.reserve.ensures.items c.in_ok-keep.ensures.handle in (
      leb-true 1 c.args.align c.requires.valid,
      if_some (kept_name hs c.args.number) c.in-Some.handle.name _ _ (sym c.in-Some.ensures.name) (second, _, step, kept, refl),
    )
