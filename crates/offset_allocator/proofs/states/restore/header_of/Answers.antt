use Rattle.offset_allocator.proofs.{Common.◌++◌, Common.◌∷◌, Common.[], Common.ap, Common.get_or, Common.length, Common.length-append, Common.arith, Common.ℕ, Common.List}
use Rattle.offset_allocator.proofs.{Saving.StateWords.length-words}
use Rattle.offset_allocator.specs.Saving.State.{block_words, checksum_from, state_words}
use Rattle.std.specs.List.{concat}
use Rattle.offset_allocator.proofs.states.restore.header_of.Goals as goal

pub returns-then-blocks-header-2-clause-wrong : goal.returns-then-blocks-header-2-clause-wrong
returns-then-blocks-header-2-clause-wrong c _ v w names admitted asked t =
    let body : List ℕ = block_words v.blocks ++ (concat v.bins ++ v.unused) in
    let sum : ℕ = checksum_from 0 (state_words v) in
    omega (
      arith,
      c.if-blocks-header-2.true,
      ap length t,
      length-append body (sum ∷ []),
      length-append (block_words v.blocks) (concat v.bins ++ v.unused),
      length-append (concat v.bins) v.unused,
      length-words v.blocks,
      ap (λ l. get_or l 4 0) t,
      ap (λ l. get_or l 5 0) t,
      ap (λ l. get_or l 6 0) t,
    )
