use Rattle.offset_allocator.proofs.Common.{ℕ, List, Bool, ap, arith, sym, ◌∙◌, ◌+◌, length, length-append, bin_at, bins_in}
use Rattle.offset_allocator.proofs.{Classes.down_small, Holding.find_past, Holding.find_some_here, Holding.none_of, Holding.listed_parts, Holding.listed_none, Holding.some_names}
use Rattle.offset_allocator.specs.Tight.{holds_in, listed_from}
use Rattle.std.specs.List.{find}
use Rattle.offset_allocator.proofs.tight.choose.Goals as goal

pub loop-class-init : goal.loop-class-init
loop-class-init g c =
    let t = g.T.Tables.cells c.args.tables.now in
    let ls = bins_in g.T.Index.NodeIndex.MAX t.bins in
    let is = c.uint_to_float_round_down-class.ensures.is in
    record {
      rest = ap (λ (k : ℕ). find (holds_in t.chain c.args.size c.args.align) (listed_from k ls)) (sym is);
      within = omega (arith, is, down_small c.args.size);
      least = omega arith;
      accesses = omega (arith, ap (λ (k : ℕ). length (listed_from k ls)) is);
    }

pub returns-in-None-clause-first : goal.returns-in-None-clause-first
returns-in-None-clause-first g c =
    let t = g.T.Tables.cells c.args.tables.now in
    let ls = bins_in g.T.Index.NodeIndex.MAX t.bins in
    let P : ℕ → Bool = holds_in t.chain c.args.size c.args.align in
    let i = c.loop-class.invariant in
    let long = c.requires.binned.linked.lists_len in
    sym (i.rest ∙ ap (find P) (listed_none ls c.loop-class.class long i.within c.in-None.ensures.smallest))

pub returns-then-is_some : goal.returns-then-is_some
returns-then-is_some g c =
    let t = g.T.Tables.cells c.args.tables.now in
    let ls = bins_in g.T.Index.NodeIndex.MAX t.bins in
    let P : ℕ → Bool = holds_in t.chain c.args.size c.args.align in
    let i = c.loop-class.invariant in
    let long = c.requires.binned.linked.lists_len in
    let parts = listed_parts ls c.loop-class.class c.in-Some.filled long c.in-Some.ensures.smallest in
    record {
      first =
          find_some_here P (bin_at ls c.in-Some.filled) (listed_from (c.in-Some.filled + 1) ls)
          c.first_of_bin-first.result (sym c.is_some.ensures ∙ c.if-is_some.true) c.first_of_bin-first.ensures.first
          ∙ sym (i.rest ∙ ap (find P) parts);
      accesses =
          let some = some_names (bin_at ls c.in-Some.filled) c.in-Some.ensures.smallest.2 in
          let lengths = ap (λ (l : List ℕ). length l) parts ∙ length-append (bin_at ls c.in-Some.filled) (listed_from (c.in-Some.filled + 1) ls) in (
            omega (arith, i.least, c.in-Some.ensures.accesses, c.first_of_bin-first.ensures.accesses),
            omega
                (arith, i.accesses, c.in-Some.ensures.accesses, c.first_of_bin-first.ensures.accesses, some, lengths),
          );
    }

pub loop-class-preserved : goal.loop-class-preserved
loop-class-preserved g c =
    let t = g.T.Tables.cells c.args.tables.now in
    let ls = bins_in g.T.Index.NodeIndex.MAX t.bins in
    let P : ℕ → Bool = holds_in t.chain c.args.size c.args.align in
    let i = c.loop-class.invariant in
    let long = c.requires.binned.linked.lists_len in
    let parts = listed_parts ls c.loop-class.class c.in-Some.filled long c.in-Some.ensures.smallest in
    let some = some_names (bin_at ls c.in-Some.filled) c.in-Some.ensures.smallest.2 in
    let lengths = ap (λ (l : List ℕ). length l) parts ∙ length-append (bin_at ls c.in-Some.filled) (listed_from (c.in-Some.filled + 1) ls) in
    let none = sym c.first_of_bin-first.ensures.first ∙ none_of c.first_of_bin-first.result (sym c.is_some.ensures ∙ c.if-is_some.false) in
    record {
      rest = i.rest ∙ ap (find P) parts ∙ find_past P (bin_at ls c.in-Some.filled) (listed_from (c.in-Some.filled + 1) ls) none;
      within = omega (arith, c.in-Some.ensures.smallest.1);
      least = omega (arith, i.least, c.in-Some.ensures.accesses, c.first_of_bin-first.ensures.accesses);
      accesses = omega (arith, i.accesses, c.in-Some.ensures.accesses, c.first_of_bin-first.ensures.accesses, some, lengths);
    }
