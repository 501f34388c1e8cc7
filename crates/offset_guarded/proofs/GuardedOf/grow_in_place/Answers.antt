use Rattle.std.proofs.Common.{rules}
use Rattle.offset_allocator.specs.Resizing.{CanGrow, Grows}
use Rattle.std.specs.Prelude.{IsTrue}
use Rattle.offset_guarded.proofs.Guards.{shown}
use Rattle.offset_guarded.proofs.GuardedOf.grow_in_place.Goals as goal

pub returns-in-Some : goal.returns-in-Some
returns-in-Some g c =
    let r = c.grow_in_place-done.result in
    record {
      live = search rules;
      done = shown (λ x v. (IsTrue r → CanGrow x c.args.size v) × (CanGrow x c.args.size v → IsTrue r)) _ _ _ _ c.self.view_is c.in-Some.ensures.range.0 c.grow_in_place-done.ensures.done;
      range = search rules;
      others = search rules;
      kept = search rules;
      same = search rules;
      not_live = search rules;
      step = shown (λ x v. Grows x c.args.size v c.grow_in_place-done.new.self c.grow_in_place-done.result) _ _ _ _ c.self.view_is c.in-Some.ensures.range.0 c.grow_in_place-done.ensures.step;
      serials = search rules;
      table = search rules;
      accesses_max = search rules;
    }
