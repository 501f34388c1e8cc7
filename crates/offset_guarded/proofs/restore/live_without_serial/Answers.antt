use Rattle.std.proofs.Common.{arith, ap, inl, inr}
use Rattle.std.proofs.lemmas.Bool.{cases_eq}
use Rattle.offset_guarded.specs.Guard.{cell}
use Rattle.offset_guarded.proofs.Guards.{is_named}
use Rattle.offset_guarded.proofs.restore.live_without_serial.Goals as goal

pub loop-name-preserved-then-at-ne0 : goal.loop-name-preserved-then-at-ne0
loop-name-preserved-then-at-ne0 g c x l h = elim (cases_eq x c.loop-name.name) [
  | inl e ↦ omega (arith, c.at.ensures, c.if-at-ne0.true, ap (λ z. cell z c.args.serials.now.cells) e)
  | inr n ↦ c.loop-name.invariant x (omega (arith, l, n)) h
]

pub returns-clause-none : goal.returns-clause-none
returns-clause-none g c _ x l =
    let below = c.node_count-name-end.ensures.names x (is_named x c.args.space.now l) in
    c.loop-name.invariant x (omega (arith, below, c.loop-name-test.false)) l
