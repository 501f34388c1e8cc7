use Rattle.offset_script.proofs.{Heard.text_more, Simulation.if_ok}
use Rattle.offset_script.proofs.answer_text.PiecesListener.hear.Goals as goal

pub returns : goal.returns
returns g c = if_ok c.put.result (λ u put s cs told heard. text_more cs s c.args._command _ _ _ told.answer heard put) c.put.ensures
