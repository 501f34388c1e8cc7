use Rattle.std.proofs.lemmas.Result.{err_from_is_err_and}
use Rattle.offset_script.proofs.Ending.{script_failed, script_read}
use Rattle.offset_script.proofs.running.read_script.Goals as goal

pub returns-in_err-parse-clause-of_text : goal.returns-in_err-parse-clause-of_text
returns-in_err-parse-clause-of_text g c =
    let p = err_from_is_err_and c.from_residual-in_err-parse.result c.from_residual-in_err-parse.ensures.1 in
    rw (p.1, p.2) (script_failed c.in_ok-text.text.items c.in_err-parse.field-0.0 (g.S.Source.left c.args.input.now) (g.S.Source.left c.read_text.new.input) c.in_ok-text.ensures.text
    (rw c.deref.ensures.value at c.in_err-parse.ensures))

pub returns-clause-of_text : goal.returns-clause-of_text
returns-clause-of_text g c =
    script_read c.in_ok-text.text.items c.in_ok-parse.field-0 (g.S.Source.left c.args.input.now) (g.S.Source.left c.read_text.new.input) c.in_ok-text.ensures.text
    (rw c.deref.ensures.value at c.in_ok-parse.ensures)
