use Rattle.offset_allocator.proofs.Common.{◌≤◌, ◌∙◌, ◌+◌, ◌++◌, ◌∷◌, ℕ, [], length, refl, sym, ap, arith, length-append, true≢false, if◌then◌else◌, Block, List, blocks}
use Rattle.offset_allocator.proofs.Moving.Walking.{IsOn, begun, met_next, all_met, turn_few, turn_fits, turn_found, turn_left, turn_place, turn_some, turn_used, turn_walks}
use Rattle.offset_allocator.proofs.Moving.Ways.{best_is, next_on, way_alone, way_first, way_length, way_of, way_units}
use Rattle.offset_allocator.proofs.moves.runs.walk.{Goals.After-next-at-in-Some, Given.Over}
use Rattle.offset_allocator.proofs.moves.runs.walk.Goals.{then-not-used+then-have, then-not-used+else-have, else-not-used}
use Rattle.offset_allocator.proofs.moves.runs.walk.Goals as goal

pub size-first_size-requires : goal.size-first_size-requires
size-first_size-requires g c =
    (next_on _ c.args.back _ c.begin-first.result (way_of c.requires.space.1 c.args.back) (way_first c.args.back _ c.begin-first.result c.begin-first.ensures.first)).below

pub is_used-first_used-requires : goal.is_used-first_used-requires
is_used-first_used-requires g c =
    (next_on _ c.args.back _ c.begin-first.result (way_of c.requires.space.1 c.args.back) (way_first c.args.back _ c.begin-first.result c.begin-first.ensures.first)).below

pub next-at-requires : goal.next-at-requires
next-at-requires g c =
    (next_on _ c.args.back _ c.begin-first.result (way_of c.requires.space.1 c.args.back) (way_first c.args.back _ c.begin-first.result c.begin-first.ensures.first)).below

pub loop-at-init : goal.loop-at-init
loop-at-init g c =
    let n = next_on _ c.args.back _ c.begin-first.result (way_of c.requires.space.1 c.args.back) (way_first c.args.back _ c.begin-first.result c.begin-first.ensures.first) in
    record {
      on = begun c.requires.space.1 c.args.back c.args.step c.args.want c.args.short c.requires.alone n c.size-first_size.ensures.cell c.is_used-first_used.ensures.cell c.next-at.ensures.next
          (c.and.ensures.sums [] n.block (sym (c.size-first_size.ensures.cell ∙ n.size)) (sym (c.is_used-first_used.ensures.cell ∙ n.used))
          (record { whole = refl; names = refl; units = refl; ranges = refl }))
          (omega (arith, c.begin-first.ensures.accesses, c.size-first_size.ensures.accesses, c.is_used-first_used.ensures.accesses, c.next-at.ensures.accesses));
    }

pub size-size-requires : goal.size-size-requires
size-size-requires g c = (met_next c.requires.space.1 c.loop-at.invariant.on c.in-Some.is).below

pub is_used-used-requires : goal.is_used-used-requires
is_used-used-requires g c = (met_next c.requires.space.1 c.loop-at.invariant.on c.in-Some.is).below

pub next-at-requires-in-Some : goal.next-at-requires-in-Some
next-at-requires-in-Some g c = (met_next c.requires.space.1 c.loop-at.invariant.on c.in-Some.is).below

pub and-span-requires-clause-fits : goal.and-span-requires-clause-fits
and-span-requires-clause-fits g c =
    let s = c.requires.space.1 in
    let i = c.loop-at.invariant.on in
    let n = met_next s i c.in-Some.is in
    let bs = blocks (g.T.Tables.cells c.args.tables.now).chain c.args.last in
    turn_fits i n (sym (c.size-size.ensures.cell ∙ n.size)) (omega (arith, s.fits, way_units c.args.back bs))
    (omega (arith, s.full, way_length c.args.back bs, c.shape.ensures.within, c.shape.ensures.limit, c.shape.ensures.word))

pub shorten-span-requires-clause-more : goal.shorten-span-requires-clause-more
shorten-span-requires-clause-more g c =
    let i = c.loop-at.invariant.on in
    turn_some i (met_next c.requires.space.1 i c.in-Some.is) c.size-size.ensures.cell c.is_used-used.ensures.cell c.and-span.ensures.sums c.if-not-used.true c.saturating_sub-need.ensures c.few_of-few.ensures
    (way_alone c.args.back c.args.want c.args.short _ c.requires.alone)

pub shorten-span-requires-clause-place : goal.shorten-span-requires-clause-place
shorten-span-requires-clause-place g c =
    let s = c.requires.space.1 in
    let i = c.loop-at.invariant.on in
    turn_place i (met_next s i c.in-Some.is) c.size-size.ensures.cell c.is_used-used.ensures.cell c.and-span.ensures.sums c.if-not-used.true c.saturating_sub-need.ensures c.few_of-few.ensures
    (c.have.ensures.0 c.if-have.true) (way_of s c.args.back) (omega (arith, s.full, way_length c.args.back (blocks (g.T.Tables.cells c.args.tables.now).chain c.args.last)))

-- the turn, before its last access
turned : (g : Over) (c : After-next-at-in-Some g) → let i = c.loop-at.invariant.on in
    IsOn c.args.back c.args.step c.args.want c.args.short (i.met ++ (met_next c.requires.space.1 i c.in-Some.is).block ∷ []) c.if-not-used.span c.if-not-used.run
    (c.args.count.now + (if c.args.back then 0 else length (blocks (g.T.Tables.cells c.args.tables.now).chain c.args.last))) (c.if-not-used.count + 1) × (c.is_used-used.new.count ≤ c.if-not-used.count)
turned g c =
    let s = c.requires.space.1 in
    let i = c.loop-at.invariant.on in
    let n = met_next s i c.in-Some.is in
    elim c.if-not-used.branch [
      | then-not-used+then-have w ↦ rw (w.span-is, w.run-is, w.count-is)
          (turn_found i n c.size-size.ensures.cell c.is_used-used.ensures.cell c.and-span.ensures.sums w.if-not-used.true w.saturating_sub-need.ensures w.few_of-few.ensures
          (w.have.ensures.0 w.if-have.true) (way_of s c.args.back) w.shorten-span.ensures.left w.better.ensures (omega (arith, c.size-size.ensures.accesses, c.is_used-used.ensures.accesses)))
      | then-not-used+else-have w ↦ rw (w.span-is, w.run-is, w.count-is) (
        turn_few i n c.size-size.ensures.cell c.is_used-used.ensures.cell c.and-span.ensures.sums w.if-not-used.true w.saturating_sub-need.ensures w.few_of-few.ensures
            (λ k. true≢false (sym (w.have.ensures.1 k) ∙ w.if-have.false)) (omega (arith, c.size-size.ensures.accesses, c.is_used-used.ensures.accesses)),
        omega arith,
      )
      | else-not-used w ↦ rw (w.span-is, w.run-is, w.count-is)
          (turn_used i n c.size-size.ensures.cell c.is_used-used.ensures.cell c.and-span.ensures.sums w.if-not-used.false (omega (arith, c.size-size.ensures.accesses, c.is_used-used.ensures.accesses)), omega arith)
    ]

pub loop-at-smaller : goal.loop-at-smaller
loop-at-smaller g c =
    let i = c.loop-at.invariant.on in
    omega (
      arith,
      (turned g c).1,
      turn_left i (met_next c.requires.space.1 i c.in-Some.is),
      way_length c.args.back (blocks (g.T.Tables.cells c.args.tables.now).chain c.args.last),
      c.size-size.ensures.accesses,
      c.is_used-used.ensures.accesses,
      c.next-at-in-Some.ensures.accesses,
    )

pub loop-at-preserved : goal.loop-at-preserved
loop-at-preserved g c =
    let i = c.loop-at.invariant.on in
    let n = met_next c.requires.space.1 i c.in-Some.is in
    record { on = turn_walks i n (rw (sym c.next-at-in-Some.ensures.accesses) at (turned g c).0) (c.next-at-in-Some.ensures.next ∙ n.link) }

pub returns-clause-run : goal.returns-clause-run
returns-clause-run g c =
    let i = c.loop-at.invariant.on in
    best_is c.args.back c.args.step c.args.want c.args.short i.on.front i.on.bs _ (sym (all_met i c.in_default.is)) c.requires.single c.loop-at.run i.on.best

pub returns-clause-accesses : goal.returns-clause-accesses
returns-clause-accesses g c =
    let i = c.loop-at.invariant.on in
    let all = ap (λ (l : List Block). length l) (all_met i c.in_default.is) in
    λ n e. let here = way_length c.args.back (blocks (g.T.Tables.cells c.args.tables.now).chain c.args.last) in (
      omega (arith, i.on.counted, all, here, e, length-append i.on.front i.on.bs, ap (λ (l : List Block). length l) i.on.is, ap (λ (k : ℕ). if c.args.back then 0 else k) e),
      omega (arith, i.on.counted, all, here, e, length-append i.on.front i.on.bs, ap (λ (l : List Block). length l) i.on.is, ap (λ (k : ℕ). if c.args.back then 0 else k) e),
    )
