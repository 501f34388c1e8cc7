use Rattle.offset_calls.proofs.Common.{◌≤◌}
use Rattle.offset_calls.specs.Steps.{AreNumbers}
use Rattle.offset_calls.proofs.numbers.Numbers.read.Given as goal

-- the handles so far are read, and `grants` of them were before
abbrev pub invariant-loop-i : goal.invariant-loop-i
invariant-loop-i g l = record {
  numbers : AreNumbers l.handles l.i l.self.by_name.items;
  behind : l.self.grants ≤ l.i;
}
