use Rattle.std.proofs.Common.{List, arith, rules, subst}
use Rattle.offset_allocator.specs.declared.moves.pieces.Piece.{Piece}
use Rattle.offset_uses.proofs.InPieces.{IsPartly, at_first, one_more, in_the_end}
use Rattle.offset_uses.proofs.pool.copy_in_pieces.Goals as goal

pub loop-piece-init : goal.loop-piece-init
loop-piece-init c =
    let first = at_first c.args.range.now.from c.args.range.now.to c.args.range.now.size c.max.result c.args.bytes.now (omega (arith, c.max.ensures)) c.args.range.now.down in
    subst (λ (ps : List Piece). IsPartly c.args.range.now.from c.args.range.now.to c.args.range.now.size c.args.bytes.now c.args.bytes.now ps)
    (search (rules, c.into_iter-piece-iterator.ensures, c.pieces-piece-items.ensures)) first

pub loop-piece-preserved : goal.loop-piece-preserved
loop-piece-preserved c =
    let left = subst (λ (ps : List Piece). IsPartly c.args.range.now.from c.args.range.now.to c.args.range.now.size c.args.bytes.now c.loop-piece.bytes ps) c.in-Some.ensures.steps c.loop-piece.invariant in
    one_more c.copy_apart.new.bytes left c.copy_apart.ensures.copied

pub returns : goal.returns
returns c =
    let left = subst (λ (ps : List Piece). IsPartly c.args.range.now.from c.args.range.now.to c.args.range.now.size c.args.bytes.now c.loop-piece.bytes ps) c.in-None.ensures.steps.0 c.loop-piece.invariant in
    record { copied = in_the_end left }
