use Rattle.std.proofs.Common.{◌<◌, length, ap, arith, ◌∙◌}
use Rattle.std.proofs.lemmas.List.{length-set}
use Rattle.offset_heaps.specs.Slots.{ResetsIn}
use Rattle.offset_heaps.proofs.Sound.{changes_more, noted_changed}
use Rattle.offset_heaps.proofs.reset_all.Goals as goal

pub loop-number-preserved : goal.loop-number-preserved
loop-number-preserved g c =
    let inv = c.loop-number.invariant in
    let len = inv.len in
    let all = c.requires.numbers in
    let there : c.loop-number.number < length c.loop-number.slots = omega arith in
    let change = c.reset.ensures.change in
    let more = changes_more ResetsIn c.args.slots.now c.loop-number.slots c.reset.new.self c.loop-number.number there change inv.done inv.left in
    record {
      done = more.0;
      left = more.1;
      len = ap length change.slots ∙ length-set c.loop-number.slots c.loop-number.number change.now ∙ inv.len;
      wide = c.note.ensures.wide;
      noted = noted_changed ResetsIn c.args.limits c.loop-number.slots c.reset.new.self c.loop-number.number c.loop-number.index c.note.new.self change inv.noted c.note.ensures.here
          c.note.ensures.others;
      levels = c.note.ensures.levels ∙ inv.levels;
    }
