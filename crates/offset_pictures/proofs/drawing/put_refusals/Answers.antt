use Rattle.std.proofs.Common.{◌≡◌, ◌∙◌, List, ℕ, sym, subst}
use Rattle.std.specs.Prelude.{OnOk, string_bytes}
use Rattle.offset_pictures.proofs.Held.{refusals_are_put}
use Rattle.offset_pictures.proofs.drawing.put_refusals.Goals as goal

pub returns : goal.returns
returns c =
    let all = refusals_are_put c.args.plot.now c.args.reports.now c.args.refused.now c.bottom.result (string_bytes c.args.out.now) _ _ _ (sym c.is_empty.ensures ∙ c.if-is_empty.false)
    c.bottom.ensures.is c.in_ok-write.ensures.bytes
    c.in_ok-put_marks.ensures c.in_ok-writeln.ensures.bytes in
    subst (λ (t : List ℕ). OnOk c.put_reasons.result (string_bytes c.put_reasons.new.out ≡ t)) all c.put_reasons.ensures
