use Rattle.offset_allocator.proofs.Common.{◌∙◌, ap, refl, sym, subst, length, arith, AreCoalesced, take}
use Rattle.offset_allocator.proofs.{Saving.StateWords.length-words, Saving.StateWords.same_counts, Saving.StateWords.words_same, Saving.Saved.ordered_same, Saving.StateWords.freed_same}
use Rattle.offset_allocator.proofs.{Saving.StateWords.length-freed, Views.ViewChain.blocks-chain, Views.ViewChain.space-chain, Saving.Firsts.each_read}
use Rattle.offset_allocator.specs.Saving.ListFaults.{IsNeighboursFault}
use Rattle.offset_allocator.proofs.states.building.build.Goals as goal

pub returns-in-Some-clause-wrong : goal.returns-in-Some-clause-wrong
returns-in-Some-clause-wrong g c _ bs words whole each once order apart =
    let l = rw c.in-Ok.is at c.in_ok-wrong.ensures.out in
    c.in-Some.ensures.wrong refl c.args.limit l.all l.used l.chain (λ x. omega (arith, once x, same_counts x bs l.all (words ∙ sym l.words)))
    (ordered_same bs l.all 0 c.args.free.now (words_same bs l.all (words ∙ sym l.words)) order)

pub look_over-requires : goal.look_over-requires
look_over-requires g c =
    let l = rw c.in-Ok.is at c.in_ok-wrong.ensures.out in
    let f = c.in_default.ensures.chain refl c.args.limit l.all l.used l.chain in
    record {
      space = (c.free_names.new.store.spare_count, space-chain (g.T.Tables.cells c.free_names.new.store.tables).chain c.args.limit _ _ _ f.0);
      all = omega (
        arith,
        ap length (blocks-chain (g.T.Tables.cells c.free_names.new.store.tables).chain c.args.limit _ _ _ f.0),
        length-freed c.args.free.now l.all,
        ap length l.words,
        length-words l.all,
      );
    }

pub returns-in-Err-look_over-clause-wrong : goal.returns-in-Err-look_over-clause-wrong
returns-in-Err-look_over-clause-wrong g c _ bs words whole each once order apart =
    let l = rw c.in-Ok.is at c.in_ok-wrong.ensures.out in
    let f = c.in_default.ensures.chain refl c.args.limit l.all l.used l.chain in
    c.in-Err-look_over.ensures.wrong refl
    (subst AreCoalesced (freed_same c.args.free.now bs l.all (words ∙ sym l.words) ∙ sym (blocks-chain (g.T.Tables.cells c.free_names.new.store.tables).chain c.args.limit _ _ _ f.0)) apart)

pub returns-in-Ok-look_over-clause-built : goal.returns-in-Ok-look_over-clause-built
returns-in-Ok-look_over-clause-built g c =
    let l = rw c.in-Ok.is at c.in_ok-wrong.ensures.out in
    let f = c.in_default.ensures.chain refl c.args.limit l.all l.used l.chain in
    let o = c.in-Ok-look_over.ensures.found in
    let same = c.in_default.ensures.same in (
      record {
        all = l.all;
        words = l.words;
        whole = l.whole;
        each = l.each;
        chain = f.0;
        count = same.1 ∙ l.count;
        spare = ap (λ k. take (length c.args.unused.now) k) same.2 ∙ l.spare;
        binned = c.in_default.ensures.binned;
        bins = f.1;
        once = f.2;
        ordered = f.3;
        apart = subst AreCoalesced (blocks-chain (g.T.Tables.cells c.free_names.new.store.tables).chain c.args.limit _ _ _ f.0) o.0;
      },
      o.1,
      o.2,
    )

pub returns-in-Err-clause-fault : goal.returns-in-Err-clause-fault
returns-in-Err-clause-fault g c = rw c.in-Err.is at (c.in_ok-wrong.ensures.fault c.args.free.now)

pub returns-in-Some-clause-fault : goal.returns-in-Some-clause-fault
returns-in-Some-clause-fault g c =
    let l = rw c.in-Ok.is at c.in_ok-wrong.ensures.out in (
      l.all,
      each_read _ c.args.size c.args.blocks.now l.all c.args.unused.now l.each (omega (arith, ap length l.words, length-words l.all)) l.words l.whole,
      l.each,
      c.in-Some.ensures.fault c.args.limit l.all l.used l.chain,
    )

pub returns-in-Err-look_over-clause-fault : goal.returns-in-Err-look_over-clause-fault
returns-in-Err-look_over-clause-fault g c =
    let l = rw c.in-Ok.is at c.in_ok-wrong.ensures.out in
    let f = c.in_default.ensures.chain refl c.args.limit l.all l.used l.chain in (
      l.all,
      each_read _ c.args.size c.args.blocks.now l.all c.args.unused.now l.each (omega (arith, ap length l.words, length-words l.all)) l.words l.whole,
      l.each,
      (f.2, f.3),
      subst (λ bs. IsNeighboursFault bs c.in-Err-look_over.at) (blocks-chain (g.T.Tables.cells c.free_names.new.store.tables).chain c.args.limit _ _ _ f.0) c.in-Err-look_over.ensures.fault,
    )
