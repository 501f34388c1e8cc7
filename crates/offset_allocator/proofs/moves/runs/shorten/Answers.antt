use Rattle.offset_allocator.proofs.Common.{◌∙◌, [], refl, sym, arith, true≢false}
use Rattle.offset_allocator.proofs.Moving.Walking.{left_more, left_next, left_sums, left_way, one_less}
use Rattle.offset_allocator.specs.{Moving.Spans.head_of}
use Rattle.offset_allocator.proofs.moves.runs.shorten.Goals as goal

pub loop-sums-init : goal.loop-sums-init
loop-sums-init g c = record { at = λ bs rest way span have. (record { gone = []; left = bs; is = refl; span = span; enough = have }, omega arith) }

pub next-requires : goal.next-requires
next-requires g c =
    let p = c.requires.place in
    (left_way (g.T.Tables.cells c.args.tables.now).chain c.args.back p.1 p.2 (c.loop-sums.invariant.at p.0 p.1 p.2 p.3 p.4).0).0

pub returns-in_default : goal.returns-in_default
returns-in_default g c =
    let p = c.requires.place in
    let l = (c.loop-sums.invariant.at p.0 p.1 p.2 p.3 p.4).0 in
    let sums = c.without.ensures.sums (head_of c.loop-sums.span) l.span.more refl refl (left_sums l) in
    let k = c.have.ensures.0 c.loop-sums-test.true in
    absurd (left_more (g.T.Tables.cells c.args.tables.now).chain c.args.back p.1 p.2 l c.requires.more (omega (arith, k.0, sums.whole), omega (arith, k.1, sums.names)) (sym c.in_default.is ∙ c.next.ensures.next))

pub size-first_size-requires : goal.size-first_size-requires
size-first_size-requires g c =
    let p = c.requires.place in
    let l = (c.loop-sums.invariant.at p.0 p.1 p.2 p.3 p.4).0 in
    let sums = c.without.ensures.sums (head_of c.loop-sums.span) l.span.more refl refl (left_sums l) in
    let k = c.have.ensures.0 c.loop-sums-test.true in
    (left_next (g.T.Tables.cells c.args.tables.now).chain c.args.back p.1 p.2 l c.requires.more (omega (arith, k.0, sums.whole), omega (arith, k.1, sums.names)) (sym c.in-Some.is ∙ c.next.ensures.next)).below

pub is_used-first_used-requires : goal.is_used-first_used-requires
is_used-first_used-requires g c =
    let p = c.requires.place in
    let l = (c.loop-sums.invariant.at p.0 p.1 p.2 p.3 p.4).0 in
    let sums = c.without.ensures.sums (head_of c.loop-sums.span) l.span.more refl refl (left_sums l) in
    let k = c.have.ensures.0 c.loop-sums-test.true in
    (left_next (g.T.Tables.cells c.args.tables.now).chain c.args.back p.1 p.2 l c.requires.more (omega (arith, k.0, sums.whole), omega (arith, k.1, sums.names)) (sym c.in-Some.is ∙ c.next.ensures.next)).below

pub loop-sums-preserved : goal.loop-sums-preserved
loop-sums-preserved g c = record {
  at = λ bs rest way span enough.
      let i = c.loop-sums.invariant.at bs rest way span enough in
      let head = left_sums i.0 in
      let here = c.without.ensures.sums (head_of c.loop-sums.span) i.0.span.more refl refl head in
      let k = c.have.ensures.0 c.loop-sums-test.true in
      let r = one_less (g.T.Tables.cells c.args.tables.now).chain c.args.back rest way i.0 c.requires.more (omega (arith, k.0, here.whole), omega (arith, k.1, here.names)) (sym c.in-Some.is ∙ c.next.ensures.next) c.size-first_size.result c.is_used-first_used.result
      c.size-first_size.ensures.cell c.is_used-first_used.ensures.cell (c.without-sums.ensures.sums (head_of c.loop-sums.span) i.0.span.more refl refl head) in
      (r.0, omega (arith, r.1, i.1, c.next.ensures.accesses, c.size-first_size.ensures.accesses, c.is_used-first_used.ensures.accesses));
}

pub returns : goal.returns
returns g c = record {
  left = λ bs rest way span enough.
      let i = c.loop-sums.invariant.at bs rest way span enough in
      let here = c.without.ensures.sums (head_of c.loop-sums.span) i.0.span.more refl refl (left_sums i.0) in (
        i.0,
        λ k. absurd (true≢false (sym (c.have.ensures.1 (omega (arith, k.0, here.whole), omega (arith, k.1, here.names))) ∙ c.loop-sums-test.false)),
        i.1,
      );
}
