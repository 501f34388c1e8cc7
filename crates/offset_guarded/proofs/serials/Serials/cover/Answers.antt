use Rattle.std.proofs.Common.{◌∙◌, ap, arith, subst, sym}
use Rattle.offset_guarded.specs.Guard.{cell}
use Rattle.offset_guarded.proofs.Guards.{IsCovered, one_covered, zero_more}
use Rattle.offset_guarded.proofs.serials.Serials.cover.Goals as goal

pub loop-self-preserved : goal.loop-self-preserved
loop-self-preserved c = record {
  cells = λ x. ap (cell x) c.push_within.ensures.items ∙ zero_more c.loop-self.self-inside.cells.items x ∙ c.loop-self.invariant.cells x;
  table = subst (IsCovered c.args.names c.args.self.now.cells) (sym c.push_within.ensures.items)
      (one_covered c.args.names c.args.self.now.cells c.loop-self.self-inside.cells.items c.loop-self.invariant.table (omega (arith, c.loop-self-test.true, c.len.ensures)));
  given = c.loop-self.invariant.given;
  room = c.push_within.ensures.memory ∙ c.loop-self.invariant.room;
}
