use Rattle.std.proofs.Common.{◌≡◌, ◌∙◌, ◌+◌, sym, subst, arith, length, List, ℕ}
use Rattle.offset_guarded.specs.Numbers.{checksum_from, number_at, numbers}
use Rattle.offset_heaps.proofs.States.{parts}
use Rattle.offset_heaps.proofs.restore.header_of.Goals.{then-number-ne-FORM-via-then-number-ne-FORM, then-number-ne-FORM-via-else-number-ne-FORM+then-number-ne-VERSION}
use Rattle.offset_heaps.proofs.restore.header_of.Goals.{then-first_size-min-via-then-first_size-min, then-first_size-min-via-else-first_size-min+then-first_size-size}
use Rattle.offset_heaps.proofs.restore.header_of.Goals.{then-limit-lt4-via-then-limit-lt4, then-limit-lt4-via-else-limit-lt4+then-limit-most_allocs}
use Rattle.offset_heaps.proofs.restore.header_of.Goals.{then-limit-lt4-via-else-limit-lt4+else-limit-most_allocs+then-limit-MAX}
use Rattle.offset_heaps.proofs.restore.header_of.Goals.{then-first-min-via-then-first-min, then-first-min-via-else-first-min+then-first-limit}
use Rattle.offset_heaps.proofs.restore.header_of.Goals as goal

pub returns-then-number-ne-FORM-clause-wrong : goal.returns-then-number-ne-FORM-clause-wrong
returns-then-number-ne-FORM-clause-wrong g c _ hs w adm st =
    let p = parts hs c.args.bytes.now st in
    elim c.then-number-ne-FORM.branch [
      | then-number-ne-FORM-via-then-number-ne-FORM w ↦ w.if-number-ne-FORM.true (c.number.ensures ∙ p.form)
      | then-number-ne-FORM-via-else-number-ne-FORM+then-number-ne-VERSION w ↦ w.if-number-ne-VERSION.true (w.number-else-number-ne-FORM.ensures ∙ p.version)
    ]

pub returns-then-size-clause-wrong : goal.returns-then-size-clause-wrong
returns-then-size-clause-wrong g c _ hs w adm st =
    let p = parts hs c.args.bytes.now st in
    omega (arith, c.if-size.true, c.number-size.ensures, p.size, w.size)

pub returns-then-first_size-min-clause-wrong : goal.returns-then-first_size-min-clause-wrong
returns-then-first_size-min-clause-wrong g c _ hs w adm st =
    let p = parts hs c.args.bytes.now st in
    let is = c.number-first_size.ensures in
    let most = c.number-size.ensures in
    let least = c.min.ensures in
    elim c.then-first_size-min.branch [
      | then-first_size-min-via-then-first_size-min v ↦ omega (arith, v.if-first_size-min, least, is, most, p.first_size, p.size, w.first_size.0)
      | then-first_size-min-via-else-first_size-min+then-first_size-size v ↦ omega (arith, v.if-first_size-size, is, most, p.first_size, p.size, w.first_size.1)
    ]

pub returns-then-limit-lt4-clause-wrong : goal.returns-then-limit-lt4-clause-wrong
returns-then-limit-lt4-clause-wrong g c _ hs w adm st =
    let p = parts hs c.args.bytes.now st in
    let is = c.number-limit.ensures in
    elim c.then-limit-lt4.branch [
      | then-limit-lt4-via-then-limit-lt4 v ↦ omega (arith, v.if-limit-lt4, is, p.limit, w.limit)
      | then-limit-lt4-via-else-limit-lt4+then-limit-most_allocs v ↦ omega (arith, v.if-limit-most_allocs, is, p.limit, adm.limit.1)
      | then-limit-lt4-via-else-limit-lt4+else-limit-most_allocs+then-limit-MAX v ↦ omega (arith, v.if-limit-MAX, v.MAX.ensures, is, p.limit, adm.limit.0)
    ]

pub returns-then-first-min-clause-wrong : goal.returns-then-first-min-clause-wrong
returns-then-first-min-clause-wrong g c _ hs w adm st =
    let p = parts hs c.args.bytes.now st in
    let is = c.number-first.ensures in
    let most = c.number-limit.ensures in
    let least = c.min-2.ensures in
    elim c.then-first-min.branch [
      | then-first-min-via-then-first-min v ↦ omega (arith, v.if-first-min, least, is, most, p.first, p.limit, w.first.0)
      | then-first-min-via-else-first-min+then-first-limit v ↦ omega (arith, v.if-first-limit, is, most, p.first, p.limit, w.first.1)
    ]

pub returns-then-most-most_heaps-clause-wrong : goal.returns-then-most-most_heaps-clause-wrong
returns-then-most-most_heaps-clause-wrong g c _ hs w adm st =
    let p = parts hs c.args.bytes.now st in
    omega (arith, c.if-most-most_heaps.true, c.number-most.ensures, p.most, adm.few)

pub returns-then-larger-most_heaps-clause-wrong : goal.returns-then-larger-most_heaps-clause-wrong
returns-then-larger-most_heaps-clause-wrong g c _ hs w adm st =
    let p = parts hs c.args.bytes.now st in
    omega (arith, c.if-larger-most_heaps.true, c.number-most.ensures, c.number-larger.ensures, p.most, p.larger, adm.few)

pub returns-then-made-clause-wrong : goal.returns-then-made-clause-wrong
returns-then-made-clause-wrong g c _ hs w adm st =
    let p = parts hs c.args.bytes.now st in
    omega (arith, c.if-made.true, c.number-made.ensures, p.made, w.made)

pub returns-then-realm-clause-wrong : goal.returns-then-realm-clause-wrong
returns-then-realm-clause-wrong g c _ hs w adm st =
    let p = parts hs c.args.bytes.now st in
    omega (arith, c.if-realm.true, c.number-realm.ensures, p.realm, w.realm)

pub returns-then-count-bytes-clause-wrong : goal.returns-then-count-bytes-clause-wrong
returns-then-count-bytes-clause-wrong g c _ hs w adm st =
    let p = parts hs c.args.bytes.now st in
    omega (arith, c.if-count-bytes.true, c.number-most.ensures, c.number-larger.ensures, p.most, p.larger, st.long, st.count)

pub returns-then-checksum-number-clause-wrong : goal.returns-then-checksum-number-clause-wrong
returns-then-checksum-number-clause-wrong g c _ hs w adm st =
    let bs : List ℕ = c.args.bytes.now in
    let p = parts hs bs st in
    let count : length hs.slots ≡ c.number-most.result + c.number-larger.result = omega (arith, st.count, p.most, p.larger, c.number-most.ensures, c.number-larger.ensures) in
    c.if-checksum-number.true
    (c.checksum.ensures ∙ subst (λ n. checksum_from 0 (numbers (11 + n) bs) ≡ number_at bs (11 + n)) count (sym p.sum) ∙ sym c.number-2.ensures)
