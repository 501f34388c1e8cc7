use Rattle.std.proofs.Common.{◌≡◌, rules}
use Rattle.offset_allocator.specs.Moving.Compacting.{Move}
use Rattle.offset_uses.specs.Pool.{IsCopied}
use Rattle.offset_uses.specs.contracts.pool.fn.defragment_in_pieces.compact as closure
use Rattle.offset_uses.proofs.Moved.{calls_seen, compacted_holds}
use Rattle.offset_uses.proofs.pool.defragment_in_pieces.Goals as goal

pub returns-clause-same : goal.returns-clause-same
returns-clause-same c =
    let ran = calls_seen _ (λ ws (m : Move) ys. IsCopied m.from m.to m.size ws ys) (λ q. (closure.captures q).bytes.now) (λ q. (closure.captures q).bytes.ghost_name)
    (λ p x q k.
    let s : IsCopied k.0.from k.0.to k.0.size (closure.captures p).bytes.now (closure.captures q).bytes.now = search rules in
    let g : (closure.captures q).bytes.ghost_name ≡ (closure.captures p).bytes.ghost_name = search rules in
    (rw k.1 s, g))
    _ _ _ c.compact.ensures.moved in
    let held = compacted_holds c.args.heap.now c.compact.new.self c.args.bytes.now _ c.is_well_formed.ensures c.compact.ensures.step c.requires.whole ran.0 in
    λ x. search (rules, ran.1, held.1 x)
