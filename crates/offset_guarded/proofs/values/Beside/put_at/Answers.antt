use Rattle.std.proofs.Common.{◌∙◌, ◌+◌, ◌≤◌, None, length, ap, arith}
use Rattle.std.proofs.lemmas.List.{get_or-set_other}
use Rattle.offset_guarded.specs.Values.{entry}
use Rattle.offset_guarded.proofs.Entries.{if_ok, put_there}
use Rattle.offset_guarded.proofs.values.Beside.put_at.Goals as goal

pub exchange-requires-clause-cell : goal.exchange-requires-clause-cell
exchange-requires-clause-cell g c =
    omega (arith, if_ok (c.name-name.result + 1 ≤ length c.cover.new.self) c.cover.result c.cover.ensures.covers c.if-is_err.ensures.negation)

pub returns-clause-put : goal.returns-clause-put
returns-clause-put g c =
    let l = if_ok (c.name-name.result + 1 ≤ length c.cover.new.self) c.cover.result c.cover.ensures.covers c.if-is_err.ensures.negation in
    ap (entry c.args.ticket.name) c.exchange.ensures.after ∙ put_there None c.cover.new.self _ c.name-name.result _ c.name-name.ensures.name (omega (arith, l))

pub returns-clause-was : goal.returns-clause-was
returns-clause-was g c = c.exchange.ensures.was ∙ ap (λ x. entry x c.cover.new.self) c.name-name.ensures.name ∙ c.cover.ensures.same c.args.ticket.name

pub returns-clause-others : goal.returns-clause-others
returns-clause-others g c y n =
    ap (entry y) c.exchange.ensures.after ∙ get_or-set_other c.cover.new.self _ y _ None (λ e. n (e ∙ c.name-name.ensures.name)) ∙ c.cover.ensures.same y
