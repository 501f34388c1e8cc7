use Rattle.offset_script.proofs.Simulation.{if_ok}
use Rattle.offset_calls.proofs.Tickets.{full_serves}
use Rattle.offset_calls.proofs.guarded_playing.answer.Goals as goal

pub returns-in-Full : goal.returns-in-Full
returns-in-Full g c = if_ok c.full_answer.result (λ a e k is_number. full_serves _ _ c.args.command k _ _ c.requires.all_tickets c.in-Full.is c.allocator-in-Full.ensures e) c.full_answer.ensures
