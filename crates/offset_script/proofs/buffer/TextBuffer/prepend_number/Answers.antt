use Rattle.std.proofs.Common.{arith, ap, length, length-drop, drop}
use Rattle.offset_script.proofs.Written.{number_before}
use Rattle.offset_script.proofs.buffer.TextBuffer.prepend_number.Goals as goal

pub invariant_of-self : goal.invariant_of-self
invariant_of-self g c = (
  omega (arith, c.prepend_digits-self-inside.ensures.most, c.requires, c.self.invariant.0),
  c.prepend_digits-self-inside.ensures.room,
  number_before c.args.n (drop c.self.inside.start c.self.inside.room) _ (omega arith) c.prepend_digits-self-inside.ensures.text c.self.invariant.2,
)

pub returns-clause-length : goal.returns-clause-length
returns-clause-length g c = omega (
  arith,
  c.prepend_digits-self-inside.ensures.least,
  c.prepend_digits-self-inside.ensures.room,
  ap length c.self.view_is,
  c.self.invariant.1,
  c.self.invariant.0,
  length-drop c.prepend_digits-self-inside.result c.prepend_digits-self-inside.new.room,
  length-drop c.self.inside.start c.self.inside.room,
)
