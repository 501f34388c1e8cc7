use Rattle.offset_allocator.proofs.{Saving.Restored.AreParts, Saving.Restored.text_parts, Saving.Restored.well_built, Saving.Restored.text_shown, Sound.well_unused, Saving.StateWords.freed_same}
use Rattle.offset_allocator.proofs.{Saving.StateWords.length-words, Saving.StateWords.length-freed, Saving.StateWords.units-freed, Views.ViewChain.blocks-chain, Views.ViewChain.space-chain, Saving.Saved.names_once}
use Rattle.offset_allocator.proofs.{Saving.Saved.names_free, Saving.Saved.names_ordered}
use Rattle.offset_allocator.proofs.Common.{◌+◌, ◌*◌, ◌-◌, ◌≤◌, ◌++◌, [], ◌≡◌, ◌∙◌, ap, ap₂, refl, sym, subst, take, drop, get_or, length, arith, ℕ, List, Block, View, AreCoalesced, count_used}
use Rattle.offset_allocator.proofs.Common.{count_named, times, view_of, IsWellFormed, length-take-le, inr}
use Rattle.offset_allocator.proofs.Saving.Headed.{counted, formed, headed, limited, long, overused, wrong_in}
use Rattle.offset_allocator.specs.{Saving.Building.AreEach, Saving.Building.AreOrdered, Saving.State.IsHeader, Saving.StateFaults.IsFaultOf}
use Rattle.offset_allocator.specs.Saving.State.{block_words, checksum_from, freed, state_text, state_words}
use Rattle.std.specs.List.{concat}
use Rattle.offset_allocator.specs.declared.states.restore.Header.{Header}
use Rattle.std.proofs.lemmas.List.{length-drop}
use Rattle.offset_allocator.proofs.states.restore.of_words.Goals as goal

-- the parts of the words of a view, where the header is read
module _ {max most : ℕ} {ws : List ℕ} {h : Header} (v : View) (hd : IsHeader max most ws h) (t : ws ≡ state_text v) where
  blocks_count : h.blocks ≡ length v.blocks
  blocks_count = sym (ap (λ l. get_or l 4 0) hd.words) ∙ ap (λ l. get_or l 4 0) t

  free_count : h.free ≡ length (concat v.bins)
  free_count = sym (ap (λ l. get_or l 5 0) hd.words) ∙ ap (λ l. get_or l 5 0) t

  same_size : h.size ≡ v.size
  same_size = sym (ap (λ l. get_or l 2 0) hd.words) ∙ ap (λ l. get_or l 2 0) t

  same_limit : h.max_allocs ≡ v.max_allocs
  same_limit = sym (ap (λ l. get_or l 3 0) hd.words) ∙ ap (λ l. get_or l 3 0) t

  parts : AreParts ws (block_words v.blocks) (concat v.bins) v.unused (checksum_from 0 (state_words v)) (2 * h.blocks) h.free
  parts = text_parts v t h.blocks h.free (sym blocks_count) (sym free_count)

  summed : checksum_from 0 (take (length ws - 1) ws) ≡ get_or ws (length ws - 1) 0
  summed = ap (checksum_from 0) (parts.numbers ∙ ap (λ k. k ++ (block_words v.blocks ++ (concat v.bins ++ v.unused))) (ap (take 7) t)) ∙ sym parts.last

pub returns-then-checksum-words-clause-refused : goal.returns-then-checksum-words-clause-refused
returns-then-checksum-words-clause-refused g c _ v w names admitted asked t = c.if-checksum-words.true (c.checksum.ensures ∙ summed v c.in-Ok.ensures.header t)

pub returns-in-Err-2-clause-refused : goal.returns-in-Err-2-clause-refused
returns-in-Err-2-clause-refused g c _ v w names admitted asked t =
    let hd = c.in-Ok.ensures.header in
    let p = parts v hd t in
    let b = rw c.in-Err-2.is at c.in_ok-wrong.ensures.wrong in
    b refl v.blocks (sym p.first) (w.whole ∙ sym (same_size v hd t)) (subst (AreEach v.blocks) (sym p.third) names.each)
    (λ x. subst (λ l. times x l ≤ count_named x v.blocks) (sym p.second) (names_once v w x))
    (subst (AreOrdered v.blocks 0) (sym p.second) (names_ordered v w))
    (subst AreCoalesced (sym (names_free v w) ∙ ap (λ l. freed l v.blocks) (sym p.second)) w.apart)

pub returns-then-found-header-clause-refused : goal.returns-then-found-header-clause-refused
returns-then-found-header-clause-refused g c _ v w names admitted asked t =
    let hd = c.in-Ok.ensures.header in
    let p = parts v hd t in
    let b = rw c.in-Ok-2.is at c.in_ok-wrong.ensures.built in
    let same = blocks-chain _ _ _ _ _ b.0.chain ∙ freed_same _ b.0.all v.blocks (b.0.words ∙ p.first) ∙ ap (λ l. freed l v.blocks) p.second ∙ names_free v w in
    omega (arith, c.if-found-header.true, b.2, ap count_used same, w.few_used, same_limit v hd t)

pub returns-then-checksum-words-clause-fault : goal.returns-then-checksum-words-clause-fault
returns-then-checksum-words-clause-fault g c =
    let hd = subst (λ m. IsHeader m c.args.most_allocs c.args.words.now c.in-Ok.header) c.MAX.ensures c.in-Ok.ensures.header in
    (omega (arith, (formed hd).0), formed hd, limited hd, counted hd, long hd, λ e. c.if-checksum-words.true (c.checksum.ensures ∙ e))

pub returns-in-Err-clause-fault : goal.returns-in-Err-clause-fault
returns-in-Err-clause-fault g c = subst (λ m. IsFaultOf m c.args.most_allocs c.args.words.now c.in-Err.fault.at c.in-Err.fault.kind) c.MAX.ensures c.in-Err.ensures.fault

pub returns-in-Err-2-clause-fault : goal.returns-in-Err-2-clause-fault
returns-in-Err-2-clause-fault g c =
    let ws : List ℕ = c.args.words.now in
    let hd = subst (λ m. IsHeader m c.args.most_allocs ws c.in-Ok.header) c.MAX.ensures c.in-Ok.ensures.header in
    let b = rw c.in-Err-2.is at c.in_ok-wrong.ensures.fault in
    c.fault_of.ensures g.T.Index.NodeIndex.MAX c.args.most_allocs ws (headed hd (sym c.checksum.ensures ∙ c.if-checksum-words.false)) (wrong_in hd c.in-Err-2.wrong b)
    (omega (arith, ap (λ l. get_or l 4 0) hd.words)) (omega (arith, ap (λ l. get_or l 5 0) hd.words))
    (omega (
      arith,
      hd.long,
      ap (λ l. get_or l 4 0) hd.words,
      ap (λ l. get_or l 5 0) hd.words,
      ap (λ l. get_or l 6 0) hd.words,
      c.type_inv.words 4,
      c.type_inv.words 5,
      c.type_inv.words 6,
    ))

pub returns-then-found-header-clause-fault : goal.returns-then-found-header-clause-fault
returns-then-found-header-clause-fault g c =
    let hd = subst (λ m. IsHeader m c.args.most_allocs c.args.words.now c.in-Ok.header) c.MAX.ensures c.in-Ok.ensures.header in
    let b = rw c.in-Ok-2.is at c.in_ok-wrong.ensures.built in
    let same = blocks-chain _ _ _ _ _ b.0.chain in
    let over = overused hd b.0.all b.0.words b.0.whole b.0.each (b.0.once, b.0.ordered) b.0.apart (omega (arith, c.if-found-header.true, b.2, ap count_used same)) in
    (refl, formed hd, limited hd, inr (headed hd (sym c.checksum.ensures ∙ c.if-checksum-words.false), over))

pub invariant_of-result : goal.invariant_of-result
invariant_of-result g c =
    let hd = c.in-Ok.ensures.header in
    let b = rw c.in-Ok-2.is at c.in_ok-wrong.ensures.built in
    let same = blocks-chain _ _ _ _ _ b.0.chain in
    let count : length b.0.all ≡ c.in-Ok.header.blocks =
    omega (arith, ap length b.0.words, length-words b.0.all, length-take-le (7 + 2 * c.in-Ok.header.blocks - 7) (drop 7 c.args.words.now) (omega (arith, hd.long, length-drop 7 c.args.words.now))) in
    record {
      memory = b.0.chain.memory;
      admitted = omega (arith, hd.admitted, c.MAX.ensures);
      space = space-chain _ _ _ _ _ b.0.chain;
      bins = b.0.binned;
      well = well_unused _ (take c.in-Ok-2.built.0.spare_count (g.T.Tables.cells c.in-Ok-2.built.0.tables).chain.spare) 0 (subst IsWellFormed
          (sym (ap₂ (λ (bs : List Block) (o : List (List ℕ)). let u : View = record {
            size = c.in-Ok.header.size;
            max_allocs = c.in-Ok.header.max_allocs;
            blocks = bs;
            bins = o;
            unused = [];
            accesses = 0;
          } in u) same b.0.bins))
          (well_unused _ [] 0 (well_built c.in-Ok.header.size c.in-Ok.header.max_allocs 0 b.0.all _ _ (omega (arith, hd.some, count))
          b.0.whole (omega (
            arith,
            b.0.chain.fits,
            units-freed (take (7 + 2 * c.in-Ok.header.blocks + c.in-Ok.header.free - (7 + 2 * c.in-Ok.header.blocks))
                (drop (7 + 2 * c.in-Ok.header.blocks) c.args.words.now)) b.0.all,
            b.0.whole,
          )) b.0.each
          (omega (
            arith,
            b.0.chain.full,
            b.0.chain.within,
            b.0.count,
            length-freed (take (7 + 2 * c.in-Ok.header.blocks + c.in-Ok.header.free - (7 + 2 * c.in-Ok.header.blocks)) (drop (7 + 2 * c.in-Ok.header.blocks) c.args.words.now)) b.0.all,
          ))
          (omega (arith, hd.room, count)) b.0.once b.0.apart (omega (arith, c.if-found-header.false, b.2, ap count_used same)))));
      total = sym b.1;
    }

pub returns-clause-read : goal.returns-clause-read
returns-clause-read g c =
    let hd = c.in-Ok.ensures.header in
    let b = rw c.in-Ok-2.is at c.in_ok-wrong.ensures.built in
    let store = c.in-Ok-2.built.0 in
    let v : View = view_of g.T.Index.NodeIndex.MAX c.in-Ok.header.size c.in-Ok.header.max_allocs (g.T.Tables.cells store.tables) store.last store.spare_count c.new.result in (
      text_shown c.args.words.now c.in-Ok.header v b.0.all _ _ _ hd refl refl refl b.0.words b.0.ordered (sym c.checksum.ensures ∙ c.if-checksum-words.false) refl refl
          (blocks-chain _ _ _ _ _ b.0.chain) b.0.bins (ap (λ k. take k (g.T.Tables.cells store.tables).chain.spare) b.0.count ∙ b.0.spare),
      c.new.ensures,
      hd.asked,
    )
