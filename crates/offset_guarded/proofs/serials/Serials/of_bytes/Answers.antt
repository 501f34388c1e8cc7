use Rattle.std.proofs.Common.{◌∙◌, ◌++◌, ◌∷◌, [], ap, ap₂, sym, arith, length, List, ℕ}
use Rattle.offset_guarded.proofs.Bytes.{length-numbers, numbers_more}
use Rattle.offset_guarded.proofs.serials.Serials.of_bytes.Goals as goal

pub push_within-requires : goal.push_within-requires
push_within-requires c =
    omega (arith, c.loop-place.invariant.room, c.loop-place-test.true, c.loop-place.cells.ok.0, ap length c.loop-place.invariant.cells, length-numbers c.loop-place.place c.args.bytes.now)

pub loop-place-preserved : goal.loop-place-preserved
loop-place-preserved c = record {
  cells = c.push_within.ensures.items ∙ ap₂ (λ (l : List ℕ) (n : ℕ). l ++ n ∷ []) c.loop-place.invariant.cells c.number.ensures ∙ sym (numbers_more c.loop-place.place c.args.bytes.now);
  room = c.push_within.ensures.memory ∙ c.loop-place.invariant.room;
}
