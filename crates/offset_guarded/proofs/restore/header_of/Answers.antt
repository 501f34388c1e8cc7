use Rattle.std.proofs.Common.{◌≡◌, ◌∙◌, ◌+◌, sym, subst, arith, length, List, ℕ}
use Rattle.offset_guarded.specs.Numbers.{checksum_from, number_at, numbers}
use Rattle.offset_guarded.proofs.States.{parts}
use Rattle.offset_guarded.proofs.restore.header_of.Goals as goal

pub returns-then-stored-bytes-clause-wrong : goal.returns-then-stored-bytes-clause-wrong
returns-then-stored-bytes-clause-wrong c _ g w st =
    let p = parts g c.args.bytes.now st in
    omega (arith, c.if-stored-bytes.true, c.number-stored.ensures, p.long, p.count)

pub returns-then-realm-clause-wrong : goal.returns-then-realm-clause-wrong
returns-then-realm-clause-wrong c _ g w st =
    let p = parts g c.args.bytes.now st in
    omega (arith, c.if-realm.true, c.number-realm.ensures, p.realm, w.realm)

pub returns-then-step-clause-wrong : goal.returns-then-step-clause-wrong
returns-then-step-clause-wrong c _ g w st =
    let p = parts g c.args.bytes.now st in
    omega (arith, c.if-step.true, c.number-step.ensures, p.step, w.step)

pub returns-then-checksum-number-clause-wrong : goal.returns-then-checksum-number-clause-wrong
returns-then-checksum-number-clause-wrong c _ g w st =
    let bs : List ℕ = c.args.bytes.now in
    let p = parts g bs st in
    let count : c.number-stored.result ≡ length g.serials = c.number-stored.ensures ∙ p.count in
    c.if-checksum-number.true
    (c.checksum.ensures ∙ subst (λ n. checksum_from 0 (numbers (6 + n) bs) ≡ number_at bs (6 + n)) (sym count) (sym p.sum) ∙ sym c.number-2.ensures)

pub returns-clause-header : goal.returns-clause-header
returns-clause-header c = record {
  long = omega (arith, c.if-stored-bytes.false, c.if-bytes-lt56.false);
  form = sym c.number.ensures ∙ c.if-number-ne-FORM.false;
  version = sym c.number-else-number-ne-FORM.ensures ∙ c.if-number-ne-VERSION.false;
  count = sym c.number-stored.ensures;
  given = sym c.number-given.ensures;
  realm = sym c.number-realm.ensures;
  step = sym c.number-step.ensures;
  fits = (c.if-realm.false, c.if-step.false);
  sum = sym c.checksum.ensures ∙ c.if-checksum-number.false ∙ c.number-2.ensures;
}
