-- The numbers that a state begins with, read one by one.
use Rattle.offset_allocator.proofs.{Saving.Firsts.each_read, Saving.StateWords.length-words}
use Rattle.offset_allocator.proofs.Common.{◌≡◌, ℕ, ◌+◌, ◌-◌, ◌*◌, ◌/◌, ◌<◌, List, length, take, drop, ap, ap₂, arith, get_or, subst, sym, length-take-le, Block, AreCoalesced, count_used, units, ◌∙◌}
use Rattle.offset_allocator.specs.{Saving.Building.AreEach, Saving.State.IsHeader, Saving.ListFaults.AreFreeNames, Saving.ListFaults.IsWrong, Saving.ListFaults.word, Saving.State.block_words}
use Rattle.offset_allocator.specs.{Saving.State.freed}
use Rattle.offset_allocator.specs.Saving.StateFaults.{HasChecksum, HasCounts, HasForm, HasLength, HasLimit, IsHeaded, IsOverused, IsWrongIn, blocks_in, free_in, unused_in}
use Rattle.std.proofs.lemmas.List.{length-drop}
use Rattle.offset_allocator.specs.declared.states.building.Wrong.{Wrong}
use Rattle.offset_allocator.specs.declared.states.restore.Header.{Header}

module _ {max most : ℕ} {ws : List ℕ} {h : Header} (hd : IsHeader max most ws h) where
  pub formed : HasForm ws
  formed = (omega (arith, hd.long, hd.some), ap (λ l. get_or l 0 0) hd.words, ap (λ l. get_or l 1 0) hd.words)

  pub limited : HasLimit max most ws
  limited = let limit = ap (λ l. get_or l 3 0) hd.words in (omega (arith, limit, hd.admitted), omega (arith, limit, hd.asked))

  pub counted : HasCounts ws
  counted =
      let limit = ap (λ l. get_or l 3 0) hd.words in
      let blocks = ap (λ l. get_or l 4 0) hd.words in
      let unused = ap (λ l. get_or l 6 0) hd.words in
      (omega (arith, blocks, hd.some), omega (arith, limit, blocks, hd.room), omega (arith, limit, blocks, unused, hd.within))

  pub long : HasLength ws
  long = omega (arith, hd.long, ap (λ l. get_or l 4 0) hd.words, ap (λ l. get_or l 5 0) hd.words, ap (λ l. get_or l 6 0) hd.words)

  pub headed : HasChecksum ws → IsHeaded max most ws
  headed sum = record { form = formed; limit = limited; counts = counted; long = long; sum = sum }

  -- the lists, as they are cut out of the words
  abbrev pub blocks_cut : List ℕ
  blocks_cut = take (7 + 2 * h.blocks - 7) (drop 7 ws)

  abbrev pub free_cut : List ℕ
  free_cut = take (7 + 2 * h.blocks + h.free - (7 + 2 * h.blocks)) (drop (7 + 2 * h.blocks) ws)

  abbrev pub unused_cut : List ℕ
  unused_cut = take (length ws - 1 - (7 + 2 * h.blocks + h.free)) (drop (7 + 2 * h.blocks + h.free) ws)

  same_blocks : blocks_cut ≡ blocks_in ws
  same_blocks = ap (λ n. take n (drop 7 ws)) {x = 7 + 2 * h.blocks - 7} {y = 2 * word 4 ws} (omega (arith, ap (λ l. get_or l 4 0) hd.words))

  same_free : free_cut ≡ free_in ws
  same_free =
      let blocks = ap (λ l. get_or l 4 0) hd.words in
      let free = ap (λ l. get_or l 5 0) hd.words in
      let size : 7 + 2 * h.blocks + h.free - (7 + 2 * h.blocks) ≡ word 5 ws = omega (arith, free) in
      let start : 7 + 2 * h.blocks ≡ 7 + 2 * word 4 ws = omega (arith, blocks) in
      ap₂ (λ m n. take m (drop n ws)) size start

  same_unused : unused_cut ≡ unused_in ws
  same_unused =
      let blocks = ap (λ l. get_or l 4 0) hd.words in
      let free = ap (λ l. get_or l 5 0) hd.words in
      let unused = ap (λ l. get_or l 6 0) hd.words in
      let size : length ws - 1 - (7 + 2 * h.blocks + h.free) ≡ word 6 ws = omega (arith, unused, hd.long) in
      let start : 7 + 2 * h.blocks + h.free ≡ 7 + 2 * word 4 ws + word 5 ws = omega (arith, blocks, free) in
      ap₂ (λ m n. take m (drop n ws)) size start

  nodes_cut : length blocks_cut / 2 + length unused_cut ≡ word 4 ws + word 6 ws
  nodes_cut =
      let blocks = ap (λ l. get_or l 4 0) hd.words in
      let unused = ap (λ l. get_or l 6 0) hd.words in
      omega (
        arith,
        hd.long,
        blocks,
        unused,
        length-take-le (7 + 2 * h.blocks - 7) (drop 7 ws) (omega (arith, hd.long, length-drop 7 ws)),
        length-take-le (length ws - 1 - (7 + 2 * h.blocks + h.free)) (drop (7 + 2 * h.blocks + h.free) ws) (omega (arith, hd.long, length-drop (7 + 2 * h.blocks + h.free) ws)),
      )

  pub wrong_in : (w : Wrong) → IsWrong (length blocks_cut / 2 + length unused_cut) h.size blocks_cut free_cut unused_cut w → IsWrongIn ws w
  wrong_in w f =
      let size : h.size ≡ word 2 ws = sym (ap (λ l. get_or l 2 0) hd.words) in
      subst (λ us. IsWrong (word 4 ws + word 6 ws) (word 2 ws) (blocks_in ws) (free_in ws) us w) same_unused
      (subst (λ fs. IsWrong (word 4 ws + word 6 ws) (word 2 ws) (blocks_in ws) fs unused_cut w) same_free
      (subst (λ bs. IsWrong (word 4 ws + word 6 ws) (word 2 ws) bs free_cut unused_cut w) same_blocks
      (subst (λ n. IsWrong (word 4 ws + word 6 ws) n blocks_cut free_cut unused_cut w) size
      (subst (λ n. IsWrong n h.size blocks_cut free_cut unused_cut w) nodes_cut f))))

  pub overused : (bs : List Block) → block_words bs ≡ blocks_cut → units bs ≡ h.size → AreEach bs unused_cut → AreFreeNames bs free_cut → AreCoalesced (freed free_cut bs)
      → h.max_allocs < count_used (freed free_cut bs) + 2 → IsOverused ws
  overused bs words whole each free apart more =
      let size : h.size ≡ word 2 ws = sym (ap (λ l. get_or l 2 0) hd.words) in
      let limit : h.max_allocs ≡ word 3 ws = sym (ap (λ l. get_or l 3 0) hd.words) in
      let unused : AreEach bs (unused_in ws) = subst (AreEach bs) same_unused each in (
        bs,
        record {
          blocks = each_read (word 4 ws + word 6 ws) (word 2 ws) (blocks_in ws) bs (unused_in ws) unused
              (omega (arith, nodes_cut, ap length words, length-words bs, ap length same_unused)) (words ∙ same_blocks) (whole ∙ size);
          each = unused;
          free = subst (AreFreeNames bs) same_free free;
          apart = subst (λ fs. AreCoalesced (freed fs bs)) same_free apart;
        },
        omega (arith, more, limit, ap (λ fs. count_used (freed fs bs)) same_free),
      )
