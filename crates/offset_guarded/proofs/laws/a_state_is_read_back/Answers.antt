use Rattle.std.proofs.Common.{ap, subst, arith}
use Rattle.offset_guarded.specs.{Guard.Guard, State.IsWellFormed}
use Rattle.offset_guarded.proofs.{Guards.formed, States.one_guard, States.one_text}
use Rattle.offset_guarded.proofs.laws.a_state_is_read_back.Goals as goal

pub returns-clause-one : goal.returns-clause-one
returns-clause-one x c g h bytes w v s t = one_guard g h bytes s t (λ bs. c.a_state_is_read_back.ensures.one g.space h.space bs w.space v.space)

pub returns-clause-bytes : goal.returns-clause-bytes
returns-clause-bytes x c g a b small few s t = one_text g a b small few s t (c.a_state_is_read_back.ensures.bytes g.space)

pub returns-clause-formed : goal.returns-clause-formed
returns-clause-formed x c =
    subst IsWellFormed c.guarded.view_is (formed c.a_state_is_read_back.ensures.formed c.a_state_is_read_back.ensures.names c.guarded.invariant c.guarded.inside.realm c.guarded.inside.step
    (omega (arith, ap (λ (u : Guard). u.realm) c.guarded.view_is, c.realm.ensures, c.realm.type_inv))
    (omega (arith, ap (λ (u : Guard). u.step) c.guarded.view_is, c.step_number.ensures, c.step_number.type_inv)))
