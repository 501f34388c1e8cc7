use Rattle.std.proofs.Common.{sym, ap, subst, rules}
use Rattle.offset_guarded.specs.Guard.{Guard, KeepsDivisors}
use Rattle.offset_guarded.proofs.{Guards.guard, Offsets.compacted, Offsets.kept_divisors}
use Rattle.offset_guarded.proofs.GuardedOf.compact_by.Goals as goal

pub returns : goal.returns
returns g c =
    let now : Guard = guard c.compact_by-done.new.self c.self.inside.serials c.self.inside.realm c.self.inside.step in
    record {
      sizes = search rules;
      divisors = subst (λ (k : Guard). KeepsDivisors c.args.step k now) c.self.view_is
          (kept_divisors c.args.step (guard c.self.inside.space c.self.inside.serials c.self.inside.realm c.self.inside.step) now c.is_well_formed.ensures c.is_well_formed-2.ensures
          (compacted c.args.step c.self.inside.space c.compact_by-done.new.self c.compact_by-done.result c.compact_by-done.ensures.step));
      moved = rw (ap (λ (g : Guard). g.space.blocks) (sym c.self.view_is)) c.compact_by-done.ensures.moved;
      step = rw (ap (λ (g : Guard). g.space) (sym c.self.view_is)) c.compact_by-done.ensures.step;
      serials = search rules;
      accesses_max = search rules;
    }
