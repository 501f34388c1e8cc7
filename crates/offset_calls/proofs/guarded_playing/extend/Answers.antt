use Rattle.offset_calls.proofs.{Common.Bool, Common.sym, Common.ap, Common.if◌then◌else◌, Tickets.extended}
use Rattle.offset_script.specs.Machine as machine
use Rattle.offset_calls.proofs.guarded_playing.extend.Goals as goal

pub returns-then-extend : goal.returns-then-extend
returns-then-extend g c ts is = extended c.args.more _ _ ts c.extend.result machine.Extended is c.extend.ensures.step c.extend.ensures.kept c.extend.ensures.serials c.extend.ensures.table
    (ap (λ (b : Bool). if b then machine.Extended else machine.Refused) (sym c.if-extend.true))

pub returns-else-extend : goal.returns-else-extend
returns-else-extend g c ts is = extended c.args.more _ _ ts c.extend.result machine.Refused is c.extend.ensures.step c.extend.ensures.kept c.extend.ensures.serials c.extend.ensures.table
    (ap (λ (b : Bool). if b then machine.Extended else machine.Refused) (sym c.if-extend.false))
