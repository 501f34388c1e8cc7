use Rattle.std.proofs.Common.{sym, ap, rules}
use Rattle.offset_guarded.specs.Guard.{Guard}
use Rattle.offset_guarded.proofs.GuardedOf.compact_unaligned.Goals as goal

pub returns : goal.returns
returns g c = record {
  sizes = search rules;
  moved = rw (ap (λ (g : Guard). g.space.blocks) (sym c.self.view_is)) c.compact.ensures.moved;
  step = search rules;
  serials = search rules;
  accesses_max = search rules;
}
