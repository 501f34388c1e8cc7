use Rattle.offset_calls.proofs.{Common.◌≡◌, Common.None, Common.ap, Common.sym, Common.◌∙◌, Common.true≢false, Common.live_name, Common.rules, EndServed.dead_name, EndServed.relocate_aligned_gone, EndServed.relocate_aligned_serves}
use Rattle.offset_calls.proofs.guarded_ending.relocate_aligned.Goals as goal

pub returns-in_default : goal.returns-in_default
returns-in_default g c k number =
    let none : live_name c.args.ticket c.args.player.now.space ≡ None = search rules in
    relocate_aligned_gone c.args.player.now.space c.args.player.now.tickets.items c.args.ticket k c.args.align c.requires.alignment c.requires.all_tickets number none

pub returns-then-not-is_live : goal.returns-then-not-is_live
returns-then-not-is_live g c k number =
    relocate_aligned_gone c.args.player.now.space c.args.player.now.tickets.items c.args.ticket k c.args.align c.requires.alignment c.requires.all_tickets number
    (ap (λ o. live_name o c.args.player.now.space) c.in-Some.is ∙ dead_name c.in-Some.ticket c.args.player.now.space (λ l. absurd (true≢false (sym (c.is_live.ensures.1 l) ∙ c.if-not-is_live.true))))

pub returns : goal.returns
returns g c k number =
    let live = c.is_live.ensures.0 c.if-not-is_live.false in
    relocate_aligned_serves c.args.player.now.space c.relocate_aligned-granted.new.self c.args.player.now.tickets.items c.keep.new.tickets.items c.in-Some.ticket c.relocate_aligned-granted.result _ k c.args.align
    c.requires.alignment c.requires.all_tickets live (number ∙ ap (λ o. live_name o c.args.player.now.space) c.in-Some.is) c.relocate_aligned-granted.ensures.second.request.grants
    c.relocate_aligned-granted.ensures.second.request.same c.relocate_aligned-granted.ensures.second.request.serials c.relocate_aligned-granted.ensures.aligns.joined (c.relocate_aligned-granted.ensures.step live c.requires.left) c.in_ok-keep.ensures
