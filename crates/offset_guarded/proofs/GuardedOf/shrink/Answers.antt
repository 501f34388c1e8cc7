use Rattle.std.proofs.Common.{rules}
use Rattle.offset_allocator.specs.Resizing.{CanShrink, Shrinks}
use Rattle.std.specs.Prelude.{IsTrue}
use Rattle.offset_guarded.proofs.Guards.{shown}
use Rattle.offset_guarded.proofs.GuardedOf.shrink.Goals as goal

pub returns-in-Some : goal.returns-in-Some
returns-in-Some g c =
    let r = c.shrink-done.result in
    record {
      live = search rules;
      done = shown (λ x v. (IsTrue r → CanShrink x c.args.size v) × (CanShrink x c.args.size v → IsTrue r)) _ _ _ _ c.self.view_is c.in-Some.ensures.range.0 c.shrink-done.ensures.done;
      range = search rules;
      others = search rules;
      kept = search rules;
      same = search rules;
      not_live = search rules;
      step = shown (λ x v. Shrinks x c.args.size v c.shrink-done.new.self c.shrink-done.result) _ _ _ _ c.self.view_is c.in-Some.ensures.range.0 c.shrink-done.ensures.step;
      serials = search rules;
      table = search rules;
      accesses_max = search rules;
    }
