use Rattle.offset_script.proofs.{Common.sym, Common.subst, Common.subst₂, Common.answer_view, Common.Takes, Common.Align, Held.held_stays, Held.may_be_kept, Simulation.if_ok}
use Rattle.offset_script.proofs.keeper.KeeperOf.allocate_aligned.Goals as goal

pub keep-requires-clause-granted : goal.keep-requires-clause-granted
keep-requires-clause-granted g c =
    may_be_kept c.args.size c.reserve.new.self.space c.allocate_aligned-granted.new.self c.reserve.new.self.handles.items c.allocate_aligned-granted.result c.allocate_aligned-granted.ensures.grants
    (held_stays _ _ _ _ c.reserve.ensures.same c.requires.held)

pub returns-clause-takes : goal.returns-clause-takes
returns-clause-takes g c = if_ok c.keep.result
    (λ a k. subst₂ (λ v hs. Takes (Align c.args.size c.args.align) v hs c.keep.new.self.space c.keep.new.self.handles.items (answer_view a)) c.reserve.ensures.same.0 c.reserve.ensures.same.1
    (subst (λ w. Takes (Align c.args.size c.args.align) c.reserve.new.self.space c.reserve.new.self.handles.items w c.keep.new.self.handles.items (answer_view a)) (sym c.keep.ensures.space)
    (_, c.allocate_aligned-granted.ensures.step, k)))
    c.keep.ensures.handle
