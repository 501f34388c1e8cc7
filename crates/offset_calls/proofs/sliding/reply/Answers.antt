use Rattle.offset_calls.proofs.{Common.length, Common.map, Common.refl, Common.sym, Common.ap, Common.subst, Common.◌∙◌, Common.Takes, Kept.kept_within, Collected.on_err, Collected.slide_lost, Collected.slide_takes}
use Rattle.std.specs.Prelude.{slice_index}
use Rattle.offset_calls.specs.{Slides.numbered_move, Steps.AreNumbers}
use Rattle.offset_calls.proofs.sliding.reply.Goals as goal

pub returns-clause-takes : goal.returns-clause-takes
returns-clause-takes g c =
    let hs = c.args.player.now.handles.items in
    let names = c.read.new.self.by_name.items in
    let a : AreNumbers hs (length hs) names =
    subst (λ l. AreNumbers l (length l) names) c.deref.ensures.value (subst (λ n. AreNumbers c.deref.result.now n names) c.in_ok-read.ensures.grants c.in_ok-read.ensures.numbers) in
    subst (Takes c.args.call c.args.player.now.space hs c.collect-came_to.new.space hs) (sym c.slid_reply.ensures)
    (slide_takes c.args.call c.args.player.now.space c.collect-came_to.new.space c.collect-came_to.result hs c.collect-came_to.new.seen.found.items c.requires.kept (c.collect-came_to.ensures.step c.if-seen.false)
    (slice_index names) _ (λ k x e. a.numbered k x (kept_within hs k x e) e) (c.in_ok-numbered.ensures ∙ ap (map (numbered_move (slice_index names))) c.deref-2.ensures.value) c.requires.slides)

pub returns-then-seen-clause-lost : goal.returns-then-seen-clause-lost
returns-then-seen-clause-lost g c = slide_lost c.args.call c.args.player.now.space _ c.collect-came_to.result c.args.player.now.handles.items _ c.requires.kept c.requires.slides c.collect-came_to.ensures.some refl

pub returns-in_err-numbered-clause-lost : goal.returns-in_err-numbered-clause-lost
returns-in_err-numbered-clause-lost g c = on_err _ (slide_lost c.args.call c.args.player.now.space _ c.collect-came_to.result c.args.player.now.handles.items _ c.requires.kept c.requires.slides c.collect-came_to.ensures.some refl)
