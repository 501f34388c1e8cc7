use Rattle.std.proofs.Common.{◌∙◌}
use Rattle.offset_allocator.proofs.{Ranges.call_keeps, Sound.state_space}
use Rattle.offset_uses.proofs.allocate_or_grow.Goals as goal

-- three steps, each of which keeps all live ranges
pub returns-then-extend-clause-kept : goal.returns-then-extend-clause-kept
returns-then-extend-clause-kept g c x r e =
    let second = c.allocate-then-extend.ensures in
    let first = c.allocate.ensures in
    call_keeps _ _ _ _ second.grants (λ n. state_space c.extend.new.self c.allocate-then-extend.new.self (second.same n)) x r (c.extend.ensures.kept x ∙ call_keeps _ _ _ _ first.grants (λ n. state_space c.args.space.now c.allocate.new.self (first.same n)) x r e)
