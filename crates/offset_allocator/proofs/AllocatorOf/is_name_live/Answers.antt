use Rattle.offset_allocator.proofs.{Common.ap, Common.sym, Common.◌∙◌, Common.View, Common.is_used_at, Common.place_of, Reading.live_is}
use Rattle.offset_allocator.proofs.AllocatorOf.is_name_live.Goals as goal

pub returns-clause-live : goal.returns-clause-live
returns-clause-live g c =
    let is = c.is_live.ensures.live _ _ c.self.invariant.space ∙ ap (λ (u : View). is_used_at (place_of c.args.name u.blocks)) c.self.view_is ∙ sym (live_is c.args.name c.args.self.now) in
    (λ e. sym is ∙ e, λ e. is ∙ e)
