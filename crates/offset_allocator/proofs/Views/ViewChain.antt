-- What the layer above sees is the list that the chain holds.
use Rattle.offset_allocator.proofs.Common.{◌≡◌, ℕ, List, subst, sym, append-nil, ChainCells, IsChain, IsSpace, blocks, Block, arith}
use Rattle.offset_allocator.proofs.Linking.Rows.{walk-row, walk-none}

pub blocks-chain : (c : ChainCells) (m last count : ℕ) (bs : List Block) → IsChain c m last count bs → blocks c last ≡ bs
unfolding blocks
blocks-chain c m last count bs h = grind (arith, walk-row, walk-none, append-nil)

pub space-chain : (c : ChainCells) (m last count : ℕ) (bs : List Block) → IsChain c m last count bs → IsSpace c last count
space-chain c m last count bs h = subst (λ i. IsChain c i last count (blocks c last)) (sym h.memory) (rw (blocks-chain c m last count bs h) h)
