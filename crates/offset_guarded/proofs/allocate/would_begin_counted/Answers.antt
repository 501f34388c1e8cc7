use Rattle.std.proofs.Common.{ap, subst, ◌≡◌, Some}
use Rattle.offset_allocator.specs.Relations.{Aligns}
use Rattle.offset_allocator.specs.View.{View, Handle}
use Rattle.offset_guarded.specs.Guard.{Guard}
use Rattle.offset_guarded.proofs.allocate.would_begin_counted.Goals as goal

pub returns-clause-begins : goal.returns-clause-begins
returns-clause-begins g c l = subst (λ (v : View). (w : View) (h : Handle) → Aligns c.args.size c.args.align v w (Some h) → c.would_begin_counted.result ≡ Some h.offset)
    (ap (λ (g : Guard). g.space) c.guarded.view_is) c.would_begin_counted.ensures.begins
