use Rattle.std.proofs.Common.{◌∙◌, None, ap, sym}
use Rattle.std.proofs.lemmas.List.{get_or-set_other}
use Rattle.offset_guarded.specs.Values.{entry, value_for}
use Rattle.offset_guarded.proofs.Entries.{cleared}
use Rattle.offset_guarded.proofs.values.Beside.take.Goals as goal

pub returns-clause-gone : goal.returns-clause-gone
returns-clause-gone g c =
    rw c.exchange.ensures.after (rw (sym c.name.ensures.name) (ap (value_for c.args.ticket) (cleared None c.args.self.now c.name.result)))

pub returns-clause-others : goal.returns-clause-others
returns-clause-others g c y n = ap (entry y) c.before.exchange.ensures.after ∙ get_or-set_other c.args.self.now _ y _ None (λ e. n (e ∙ c.name.ensures.name))
