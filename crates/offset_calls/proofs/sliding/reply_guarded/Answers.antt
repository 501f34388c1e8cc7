use Rattle.offset_calls.proofs.Common.{◌≡◌, ◌∙◌, None, All, map, sym, ap, subst, serial_of, handles_of, Takes}
use Rattle.offset_allocator.specs.Ranges.{range_of}
use Rattle.offset_calls.specs.Slides.{numbered_move}
use Rattle.offset_calls.proofs.{Collected.slide_numbers, Collected.slide_takes, Collected.slides_live, Tickets.slid_live, Tickets.slid_serial, Tickets.slide_serves}
use Rattle.offset_calls.proofs.sliding.reply_guarded.Goals as goal

pub with_serials-requires : goal.with_serials-requires
with_serials-requires g c =
    let old = c.args.player.now.space in
    let s = c.collect_guarded-came_to in
    let hs = handles_of old c.args.player.now.tickets.items in
    record {
      live = subst (All (λ m. range_of m.0.name s.new.space.space ≡ None → ⊥)) (sym c.deref.ensures.value)
          (slides_live hs (λ x. range_of x s.new.space.space ≡ None → ⊥) (slid_live old s.new.space c.args.player.now.tickets.items c.requires.all_tickets s.ensures.sizes s.ensures.serials)
          s.new.seen.found.items (slide_numbers c.args.call old.space s.new.space.space s.result hs s.new.seen.found.items c.requires.kept (s.ensures.step c.if-seen.false)));
    }

pub returns : goal.returns
returns g c =
    let old = c.args.player.now.space in
    let s = c.collect_guarded-came_to in
    let now = s.new.space in
    let ts = c.args.player.now.tickets.items in
    let hs = handles_of old ts in
    slide_serves c.args.call old now ts _ c.requires.slides c.requires.all_tickets s.ensures.sizes s.ensures.serials
    (subst (Takes c.args.call old.space hs now.space hs) (sym c.slid_reply.ensures)
    (slide_takes c.args.call old.space now.space s.result hs s.new.seen.found.items c.requires.kept (s.ensures.step c.if-seen.false) (λ x. serial_of x now) _
    (slid_serial old now ts c.requires.all_tickets s.ensures.sizes s.ensures.serials) (c.in_ok-with_serials.ensures ∙ ap (map (numbered_move (λ x. serial_of x now))) c.deref.ensures.value) c.requires.slides))
