-- The place of a fault is one of the bytes, or where they end.
use Rattle.offset_allocator.proofs.{Saving.Bytes.length-in, Saving.StateWords.length-freed, Saving.StateWords.length-words}
use Rattle.offset_allocator.proofs.Common.{◌≡◌, ℕ, ◌+◌, ◌*◌, ◌<◌, ◌≤◌, List, length, drop, inl, inr, arith, ap, length-take-le}
use Rattle.offset_allocator.specs.{Saving.ListFaults.IsBlockFault, Saving.ListFaults.word, Saving.State.words_in}
use Rattle.offset_allocator.specs.Saving.StateFaults.{IsFault, IsFaultOf, IsHeaded, blocks_in, free_in, unused_in}
use Rattle.std.proofs.lemmas.List.{length-drop}
use Rattle.offset_allocator.specs.declared.states.state.StateFault.{StateFault}
use Rattle.offset_allocator.specs.declared.states.state.StateFaultKind.{StateFaultKind}
use Rattle.offset_allocator.specs.declared.states.state.StateFaultKind.TheVariants.{Length, Form, Limit, Counts, Checksum, Block, Unused, Free, Neighbours}

block_within : (nodes size : ℕ) (ws : List ℕ) (i : ℕ) → IsBlockFault nodes size ws i → i < length ws
block_within nodes size ws i (bs, are, inl name) = name.1
block_within nodes size ws i (bs, are, inr (inl large)) = large.1
block_within nodes size ws i (bs, are, inr (inr small)) = omega (arith, small.0)

module _ {max most : ℕ} {ws : List ℕ} (hd : IsHeaded max most ws) where
  blocks_long : length (blocks_in ws) ≡ 2 * word 4 ws
  blocks_long = length-take-le (2 * word 4 ws) (drop 7 ws) (omega (arith, hd.long, length-drop 7 ws))

  free_long : length (free_in ws) ≡ word 5 ws
  free_long = length-take-le (word 5 ws) (drop (7 + 2 * word 4 ws) ws) (omega (arith, hd.long, length-drop (7 + 2 * word 4 ws) ws))

  unused_long : length (unused_in ws) ≡ word 6 ws
  unused_long = length-take-le (word 6 ws) (drop (7 + 2 * word 4 ws + word 5 ws) ws) (omega (arith, hd.long, length-drop (7 + 2 * word 4 ws + word 5 ws) ws))

words_within : (max most : ℕ) (ws : List ℕ) (at : ℕ) (kind : StateFaultKind) → IsFaultOf max most ws at kind → at ≤ 4 * length ws
words_within max most ws at Length f = omega (arith, f.0)
words_within max most ws at Form f = omega (arith, f.0)
words_within max most ws at Limit f = omega (arith, f.0, f.1.0)
words_within max most ws at Counts f = omega (arith, f.0, f.1.0)
words_within max most ws at Checksum f = omega (arith, f.0)
words_within max most ws at Block (hd, (i, at_i, wrong)) = omega (arith, at_i, block_within _ _ (blocks_in ws) i wrong, blocks_long hd, hd.long)
words_within max most ws at Unused (hd, (i, at_i, wrong)) = omega (arith, at_i, wrong.2.0, unused_long hd, hd.long)
words_within max most ws at Free (hd, (i, at_i, wrong)) = omega (arith, at_i, wrong.3.0, free_long hd, hd.long)
words_within max most ws at Neighbours (hd, (i, at_i, wrong)) =
    omega (arith, at_i, wrong.4.0, length-freed (free_in ws) wrong.0, length-words wrong.0, ap length wrong.1.words, blocks_long hd, hd.long)

pub fault_within : (max most : ℕ) (bytes : List ℕ) (f : StateFault) → IsFault max most bytes f → f.at ≤ length bytes
fault_within max most bytes f (inl odd) = omega (arith, ap (λ (g : StateFault). g.at) odd.1)
fault_within max most bytes f (inr whole) = omega (arith, words_within max most (words_in bytes) f.at f.kind whole.1, (length-in bytes).0)
