use Rattle.std.proofs.Common.{◌≡◌, rules}
use Rattle.offset_allocator.specs.Moving.Compacting.{Move}
use Rattle.offset_uses.specs.Pool.{IsCopied}
use Rattle.offset_uses.specs.contracts.daily.fn.defragment.compact as closure
use Rattle.offset_uses.proofs.Moved.{calls_seen, compacted_holds}
use Rattle.offset_uses.proofs.daily.defragment.Goals as goal

pub returns-clause-data : goal.returns-clause-data
returns-clause-data c fits =
    let ran = calls_seen _ (λ ws (m : Move) ys. IsCopied m.from m.to m.size ws ys) (λ q. (closure.captures q).buffer.now) (λ q. (closure.captures q).buffer.ghost_name)
    (λ p x q k.
    let s : IsCopied k.0.from k.0.to k.0.size (closure.captures p).buffer.now (closure.captures q).buffer.now = search rules in
    let g : (closure.captures q).buffer.ghost_name ≡ (closure.captures p).buffer.ghost_name = search rules in
    (rw k.1 s, g))
    _ _ _ c.compact.ensures.moved in
    let held = compacted_holds c.args.space.now c.compact.new.self c.args.buffer.now _ c.is_well_formed.ensures c.compact.ensures.step fits ran.0 in
    λ x. search (rules, ran.1, held.1 x)
