use Rattle.std.proofs.Common.{◌≡◌, ◌+◌, ◌-◌, ◌<◌, ◌∙◌, ◌++◌, length, length-set, length-drop, drop, ap, arith}
use Rattle.std.specs.Fmt.{decimal}
use Rattle.offset_script.proofs.Written.{digit_set, number_before}
use Rattle.offset_script.proofs.buffer.TextBuffer.prepend_digit.Goals as goal

pub invariant_of-self : goal.invariant_of-self
invariant_of-self g c =
    let view : length (drop c.self.inside.start c.self.inside.room) ≡ length c.args.self.now = ap length c.self.view_is in
    let first : 0 < c.self.inside.start = omega (arith, view, c.requires.room, c.self.invariant.0, c.self.invariant.1, length-drop c.self.inside.start c.self.inside.room) in (
      omega (arith, c.self.invariant.0),
      length-set c.self.inside.room (c.self.inside.start - 1) (48 + c.args.n) ∙ c.self.invariant.1,
      number_before c.args.n (drop c.self.inside.start c.self.inside.room) _ (omega arith)
          (digit_set c.args.n (c.self.inside.start - 1) c.self.inside.start c.self.inside.room c.requires.digit (omega arith)
          (omega (arith, c.self.invariant.0, c.self.invariant.1))) c.self.invariant.2,
    )

pub returns-clause-text : goal.returns-clause-text
returns-clause-text g c =
    let view : length (drop c.self.inside.start c.self.inside.room) ≡ length c.args.self.now = ap length c.self.view_is in
    let first : 0 < c.self.inside.start = omega (arith, view, c.requires.room, c.self.invariant.0, c.self.invariant.1, length-drop c.self.inside.start c.self.inside.room) in
    digit_set c.args.n (c.self.inside.start - 1) c.self.inside.start c.self.inside.room c.requires.digit (omega arith) (omega (arith, c.self.invariant.0, c.self.invariant.1))
    ∙ ap (λ t. decimal c.args.n ++ t) c.self.view_is
