use Rattle.offset_allocator.proofs.{Linking.Places.at_place, Linking.Names.kept_unused}
use Rattle.offset_allocator.proofs.Common.{true≢false, List, ℕ, refl, sym, ap, subst, ◌∙◌, ◌++◌, arith, Node, AreInBins, IsAmong, bin_at, bins_in, down, remove}
use Rattle.offset_allocator.proofs.Moving.Stepping.{turn_below, turn_short, turn_ends, turn_fits, turn_place, turn_idle, turn_listed, turn_less, turn_past, turn_into, turn_part, turn_grows, turn_of_pass, turn_of_into, turn_of_part, part_below, part_idle, part_unlisted, run_once, stepping_start, stepping_end, stepping_done}
use Rattle.offset_allocator.proofs.{Classes.down_small, Moving.OneStep.must_file, Moving.Refiled.rebinned_is, Views.ViewBins.length_remove}
use Rattle.offset_allocator.specs.Moving.BySteps.{stepped}
use Rattle.offset_allocator.proofs.moves.slide.to_front.Goals as goal

pub loop-at-init : goal.loop-at-init
loop-at-init g c =
    record {
      callable = c.requires.callable;
      binned = c.requires.binned;
      grows = omega arith;
      same = λ _. refl;
      at = λ m front b run back ls h idle ends fl. (
        ls,
        fl.1,
        λ w. sym (fl.2 w),
        stepping_start c.args.step c.args.filed (c.open-gap.ensures.gap _ _ _ _ h idle) c.linked-at.ensures (c.after-after.ensures.cell ∙ ap (λ (v : Node). v.after) (at_place h)) ends fl.0,
      );
      name = c.open-gap.ensures.name;
    }

pub size-more-requires : goal.size-more-requires
size-more-requires g c =
    let r = c.requires.place in
    turn_below (c.loop-at.invariant.at r.0 r.1 r.2 r.3 r.4 r.5 r.6 r.7 r.8 r.9).3 c.in-Some.is

pub after-after-requires-in-Some : goal.after-after-requires-in-Some
after-after-requires-in-Some g c =
    let r = c.requires.place in
    turn_below (c.loop-at.invariant.at r.0 r.1 r.2 r.3 r.4 r.5 r.6 r.7 r.8 r.9).3 c.in-Some.is

pub is_used-requires : goal.is_used-requires
is_used-requires g c =
    let r = c.requires.place in
    turn_below (c.loop-at.invariant.at r.0 r.1 r.2 r.3 r.4 r.5 r.6 r.7 r.8 r.9).3 c.in-Some.is

pub overflow_add-gap : goal.overflow_add-gap
overflow_add-gap g c =
    let r = c.requires.place in
    record { fits = turn_ends (c.loop-at.invariant.at r.0 r.1 r.2 r.3 r.4 r.5 r.6 r.7 r.8 r.9).3 c.in-Some.is }

pub report-requires-clause-named : goal.report-requires-clause-named
report-requires-clause-named g c =
    let r = c.requires.place in
    turn_short (c.loop-at.invariant.at r.0 r.1 r.2 r.3 r.4 r.5 r.6 r.7 r.8 r.9).3 c.in-Some.is r.6.chain.memory c.shape.ensures.limit

pub report-requires-clause-within : goal.report-requires-clause-within
report-requires-clause-within g c =
    let r = c.requires.place in
    turn_fits (c.loop-at.invariant.at r.0 r.1 r.2 r.3 r.4 r.5 r.6 r.7 r.8 r.9).3 c.in-Some.is c.size-more.ensures.cell

pub pass-requires-clause-place : goal.pass-requires-clause-place
pass-requires-clause-place g c =
    let r = c.requires.place in
    turn_place (c.loop-at.invariant.at r.0 r.1 r.2 r.3 r.4 r.5 r.6 r.7 r.8 r.9).3 c.in-Some.is (refl, refl, refl)

pub loop-at-smaller-then-is_used : goal.loop-at-smaller-then-is_used
loop-at-smaller-then-is_used g c =
    let r = c.requires.place in
    turn_less (c.loop-at.invariant.at r.0 r.1 r.2 r.3 r.4 r.5 r.6 r.7 r.8 r.9).3 c.in-Some.is r.6 (turn_of_pass c.args.filed c.size-more.ensures.accesses c.after-after-in-Some.ensures.accesses c.is_used.ensures.accesses c.pass.ensures.accesses)

pub loop-at-preserved-then-is_used : goal.loop-at-preserved-then-is_used
loop-at-preserved-then-is_used g c =
    let turn = turn_of_pass c.args.filed c.size-more.ensures.accesses c.after-after-in-Some.ensures.accesses c.is_used.ensures.accesses c.pass.ensures.accesses in
    let stays = ap (bins_in g.T.Index.NodeIndex.MAX) c.pass.ensures.bins.0 in
    record {
      callable = c.report.ensures.callable;
      binned = rw (c.pass.ensures.bins.0, c.pass.ensures.bins.1) c.loop-at.invariant.binned;
      grows = turn_grows c.loop-at.invariant.grows turn;
      same = λ w. stays ∙ c.loop-at.invariant.same w;
      at = λ m front b run back ls₀ h idle ends fl.
          let i = c.loop-at.invariant.at m front b run back ls₀ h idle ends fl in (
            i.0,
            i.1,
            λ w. stays ∙ i.2 w,
            turn_past i.3 c.in-Some.is c.size-more.ensures.cell c.is_used.ensures.cell c.if-is_used.true c.within-at.ensures c.linked.ensures c.after-after-in-Some.ensures.cell
                (c.pass.ensures.gap m) c.report.ensures.called turn refl c.pass.ensures.unused,
          );
      name = c.pass.ensures.name ∙ c.loop-at.invariant.name;
    }

pub take_out-requires-clause-listed : goal.take_out-requires-clause-listed
take_out-requires-clause-listed g c w =
    let r = c.requires.place in
    let i = (c.loop-at.invariant.at r.0 r.1 r.2 r.3 r.4 r.5 r.6 r.7 r.8 r.9) in
    subst (λ (ls : List (List ℕ)). IsAmong c.in-Some.next (bin_at ls (down c.size-more.result))) (sym (i.2 w)) (turn_listed i.3 c.in-Some.is c.size-more.ensures.cell c.is_used.ensures.cell c.if-is_used.false)

pub gather-requires-clause-place : goal.gather-requires-clause-place
gather-requires-clause-place g c =
    let r = c.requires.place in
    turn_idle (c.loop-at.invariant.at r.0 r.1 r.2 r.3 r.4 r.5 r.6 r.7 r.8 r.9).3 c.in-Some.is c.take_out.ensures.chain c.is_used.ensures.cell c.if-is_used.false

pub pass_part-requires-clause-place : goal.pass_part-requires-clause-place
pass_part-requires-clause-place g c =
    let r = c.requires.place in
    turn_place (c.loop-at.invariant.at r.0 r.1 r.2 r.3 r.4 r.5 r.6 r.7 r.8 r.9).3 c.in-Some.is c.take_out.ensures.chain

pub loop-at-smaller-then-keep-eq0 : goal.loop-at-smaller-then-keep-eq0
loop-at-smaller-then-keep-eq0 g c =
    let r = c.requires.place in
    turn_less (c.loop-at.invariant.at r.0 r.1 r.2 r.3 r.4 r.5 r.6 r.7 r.8 r.9).3 c.in-Some.is r.6
    (turn_of_into c.args.filed c.size-more.ensures.accesses c.after-after-in-Some.ensures.accesses c.is_used.ensures.accesses c.take_out.ensures.accesses c.take_out.ensures.accesses_none c.gather.ensures.accesses)

pub loop-at-preserved-then-keep-eq0 : goal.loop-at-preserved-then-keep-eq0
loop-at-preserved-then-keep-eq0 g c =
    let turn = turn_of_into c.args.filed c.size-more.ensures.accesses c.after-after-in-Some.ensures.accesses c.is_used.ensures.accesses c.take_out.ensures.accesses c.take_out.ensures.accesses_none c.gather.ensures.accesses in
    let stays = ap (bins_in g.T.Index.NodeIndex.MAX) c.gather.ensures.bins.0 in
    record {
      callable = c.loop-at.invariant.callable;
      binned = rw (c.gather.ensures.bins.0, c.gather.ensures.bins.1) c.take_out.ensures.binned;
      grows = turn_grows c.loop-at.invariant.grows turn;
      same = λ w. stays ∙ c.take_out.ensures.same w ∙ c.loop-at.invariant.same w;
      at = λ m front b run back ls₀ h idle ends fl.
          let i = c.loop-at.invariant.at m front b run back ls₀ h idle ends fl in (
            remove (down c.size-more.result) c.in-Some.next i.0,
            length_remove (down c.size-more.result) c.in-Some.next i.0 ∙ i.1,
            λ w. stays ∙ c.take_out.ensures.lists w ∙ ap (remove (down c.size-more.result) c.in-Some.next) (i.2 w),
            turn_into i.3 c.in-Some.is c.size-more.ensures.cell c.is_used.ensures.cell c.if-is_used.false c.within-at.ensures c.linked.ensures c.after-after-in-Some.ensures.cell
                c.kept-keep.ensures.kept c.if-keep-eq0.true i.1 c.take_out.ensures.chain (c.gather.ensures.gap m) turn
                refl refl (kept_unused c.take_out.ensures.chain) c.gather.ensures.unused,
          );
      name = c.gather.ensures.name ∙ c.loop-at.invariant.name;
    }

pub push-requires-clause-named : goal.push-requires-clause-named
push-requires-clause-named g c =
    let r = c.requires.place in
    part_below (c.loop-at.invariant.at r.0 r.1 r.2 r.3 r.4 r.5 r.6 r.7 r.8 r.9).3 c.in-Some.is c.size-more.ensures.cell c.is_used.ensures.cell c.if-is_used.false c.take_out.ensures.chain (c.pass_part.ensures.gap r.0)

pub push-requires-clause-idle : goal.push-requires-clause-idle
push-requires-clause-idle g c =
    let r = c.requires.place in
    part_idle (c.loop-at.invariant.at r.0 r.1 r.2 r.3 r.4 r.5 r.6 r.7 r.8 r.9).3 c.in-Some.is c.size-more.ensures.cell c.is_used.ensures.cell c.if-is_used.false c.take_out.ensures.chain (c.pass_part.ensures.gap r.0)

pub push-requires-clause-classed : goal.push-requires-clause-classed
push-requires-clause-classed g c =
    omega (arith, down_small c.kept-keep.result, c.uint_to_float_round_down.ensures.is)

pub push-requires-clause-unlisted : goal.push-requires-clause-unlisted
push-requires-clause-unlisted g c =
    let r = c.requires.place in
    let w = must_file c.args.filed c.size-more.result c.requires.single c.kept-keep.ensures.kept c.if-keep-eq0.false in
    let i = (c.loop-at.invariant.at r.0 r.1 r.2 r.3 r.4 r.5 r.6 r.7 r.8 r.9) in
    part_unlisted i.3 c.in-Some.is c.size-more.ensures.cell c.is_used.ensures.cell c.if-is_used.false c.take_out.ensures.chain (c.pass_part.ensures.gap r.0) i.1
    (c.take_out.ensures.lists w ∙ ap (remove (down c.size-more.result) c.in-Some.next) (i.2 w)) (ap (bins_in g.T.Index.NodeIndex.MAX) c.pass_part.ensures.bins.0)

pub loop-at-smaller : goal.loop-at-smaller
loop-at-smaller g c =
    let r = c.requires.place in
    let w = must_file c.args.filed c.size-more.result c.requires.single c.kept-keep.ensures.kept c.if-keep-eq0.false in
    turn_less (c.loop-at.invariant.at r.0 r.1 r.2 r.3 r.4 r.5 r.6 r.7 r.8 r.9).3 c.in-Some.is r.6
    (turn_of_part c.args.filed c.size-more.ensures.accesses c.after-after-in-Some.ensures.accesses c.is_used.ensures.accesses c.take_out.ensures.accesses c.pass_part.ensures.accesses c.push.ensures.accesses w)

pub loop-at-preserved : goal.loop-at-preserved
loop-at-preserved g c =
    let w = must_file c.args.filed c.size-more.result c.requires.single c.kept-keep.ensures.kept c.if-keep-eq0.false in
    let turn = turn_of_part c.args.filed c.size-more.ensures.accesses c.after-after-in-Some.ensures.accesses c.is_used.ensures.accesses c.take_out.ensures.accesses c.pass_part.ensures.accesses c.push.ensures.accesses w in
    record {
      callable = c.loop-at.invariant.callable;
      binned = c.push.ensures.binned;
      grows = turn_grows c.loop-at.invariant.grows turn;
      same = λ u. absurd (true≢false (sym w ∙ u));
      at = λ m front b run back ls₀ h idle ends fl.
          let i = c.loop-at.invariant.at m front b run back ls₀ h idle ends fl in (
            _,
            c.push.ensures.binned.linked.lists_len,
            λ _. refl,
            turn_part i.3 c.in-Some.is c.size-more.ensures.cell c.is_used.ensures.cell c.if-is_used.false c.take_out.ensures.chain (c.pass_part.ensures.gap m)
                c.within-at.ensures c.linked.ensures c.after-after-in-Some.ensures.cell c.kept-keep.ensures.kept c.if-keep-eq0.false c.kept-keep.ensures.within
                i.1 c.push.ensures.chain turn (c.take_out.ensures.lists w ∙ ap (remove (down c.size-more.result) c.in-Some.next) (i.2 w)) (ap (bins_in g.T.Index.NodeIndex.MAX) c.pass_part.ensures.bins.0)
                c.uint_to_float_round_down.ensures.is c.push.ensures.lists (kept_unused c.take_out.ensures.chain) c.pass_part.ensures.unused (kept_unused c.push.ensures.chain),
          );
      name = c.pass_part.ensures.name ∙ c.loop-at.invariant.name;
    }

pub close-requires : goal.close-requires
close-requires g c =
    let r = c.requires.place in
    let i = (c.loop-at.invariant.at r.0 r.1 r.2 r.3 r.4 r.5 r.6 r.7 r.8 r.9) in
    let d = stepping_done i.3 (stepping_end i.3 c.in_default.is) in
    record { place = (r.0, _, d.0, d.1) }

pub returns-clause-place : goal.returns-clause-place
returns-clause-place g c m front b run back ls₀ h idle ends fl =
    let i = c.loop-at.invariant.at m front b run back ls₀ h idle ends fl in
    let d = stepping_done i.3 (stepping_end i.3 c.in_default.is) in
    let refiled = d.4 ∙ rebinned_is c.args.step run ls₀ fl.1 (run_once front run back h) in (
      c.close.ensures.place m _ d.0 d.1,
      d.2,
      d.3,
      λ w. ap (bins_in g.T.Index.NodeIndex.MAX) c.close.ensures.bins.0 ∙ i.2 w ∙ refiled,
      subst (λ (ls : List (List ℕ)). AreInBins ((front ++ stepped c.args.step run) ++ back) ls) refiled d.5,
      c.close.ensures.unused ∙ d.6,
      omega (arith, d.7, c.open-gap.ensures.accesses, c.after-after.ensures.accesses, c.close.ensures.accesses.1),
      λ w. let light = d.8 w in omega (arith, light, c.open-gap.ensures.accesses, c.after-after.ensures.accesses, c.close.ensures.accesses.1),
      omega (arith, d.9, c.open-gap.ensures.accesses, c.after-after.ensures.accesses, c.close.ensures.accesses.0),
    )

pub returns-clause-bins : goal.returns-clause-bins
returns-clause-bins g c w = ap (bins_in g.T.Index.NodeIndex.MAX) c.close.ensures.bins.0 ∙ c.loop-at.invariant.same w
