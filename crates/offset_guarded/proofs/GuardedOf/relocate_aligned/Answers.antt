use Rattle.std.proofs.Common.{◌+◌, ◌≤◌, ℕ, IfSome, option_map, subst, rules}
use Rattle.offset_allocator.specs.Ranges.{size_of}
use Rattle.offset_allocator.specs.Moving.Relocating.{RelocatesAligned, offset_of}
use Rattle.offset_guarded.specs.Answers.{Requests}
use Rattle.offset_guarded.specs.Guard.{handle_in}
use Rattle.offset_guarded.proofs.GuardedOf.relocate_aligned.Goals as goal

pub returns : goal.returns
returns g c = record {
  second = record {
    live = search rules;
    request = subst (λ (x : ℕ). Requests (size_of x c.args.self.now.space) c.args.self.now c.second.new.self c.second.result) c.in_ok-handle.ensures.range.0 c.second.ensures.request;
    before =
        subst (λ (x : ℕ). IfSome c.second.result (λ t. t.offset + size_of x c.args.self.now.space ≤ offset_of x c.args.self.now.space)) c.in_ok-handle.ensures.range.0 c.second.ensures.before;
    accesses_max = c.second.ensures.accesses_max;
  };
  aligns = c.second.ensures.aligns;
  step = λ live left.
      subst (λ (x : ℕ). RelocatesAligned x c.args.align c.args.self.now.space c.second.new.self.space (option_map handle_in c.second.result)) c.in_ok-handle.ensures.range.0 (c.second.ensures.step left);
}
