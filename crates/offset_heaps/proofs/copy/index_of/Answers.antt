use Rattle.std.proofs.Common.{◌+◌, ◌^◌, ◌∙◌, arith, inl, inr, refl}
use Rattle.offset_heaps.proofs.{Sound.noted_more, Sound.started_at}
use Rattle.offset_heaps.proofs.copy.index_of.Goals as goal

pub loop-number-init : goal.loop-number-init
loop-number-init g c =
    let begun = started_at c.args.limits (2 ^ c.in_ok-index.index.one.height) c.args.slots.now c.in_ok-index.index c.requires.numbers
    c.in_ok-index.ensures.room c.in_ok-index.ensures.one c.in_ok-index.ensures.two c.in_ok-index.ensures.spare c.in_ok-index.ensures.empty in
    record {
      wide = begun.0;
      noted = λ k within. elim within [ inl l ↦ absurd (omega (arith, l)) | inr past ↦ begun.1 k past ];
      levels = refl;
    }

pub loop-number-preserved : goal.loop-number-preserved
loop-number-preserved g c = record {
  wide = c.note.ensures.wide;
  noted = noted_more c.args.limits c.args.slots.now c.loop-number.index c.note.new.self c.loop-number.number (c.args.limits.most + c.args.limits.most_larger) c.note.ensures.here
      c.note.ensures.others c.loop-number.invariant.noted;
  levels = c.note.ensures.levels ∙ c.loop-number.invariant.levels;
}
