use Rattle.std.proofs.Common.{◌≡◌, ℕ, ◌++◌, List, Result, Ok, Err, ap, codes, string_bytes, subst, ◌∙◌}
use Rattle.std.specs.Fmt.{decimal}
use Rattle.std.specs.Prelude.{OnOk}
use Rattle.offset_allocator.specs.Reporting.Dumping.{space_json}
use Rattle.offset_allocator.specs.Reporting.Statistics.{AreStatistics}
use Rattle.offset_allocator.specs.View.{View}
use Rattle.offset_allocator.specs.declared.reports.statistics.Statistics.{Statistics}
use Rattle.offset_heaps.proofs.dumping.put_heap.Goals as goal

if_ok : {V E P Q : Type 0} (r : Result V E) → OnOk r P → (P → Q) → OnOk r Q
if_ok (Ok v) p f = f p
if_ok (Err e) p f = tt

pub returns : goal.returns
returns g c =
    let found = subst (λ (v : View). (s : Statistics) × AreStatistics s v × (string_bytes c.in_ok-space.space ≡ space_json s v)) c.allocator.ensures c.in_ok-space.ensures in
    if_ok c.write.result c.write.ensures.bytes (λ e. (
      found.0,
      found.1,
      e ∙ ap (λ (l : List ℕ). string_bytes c.args.text.now ++ (codes "{\"number\":" ++ (decimal c.args.number ++ (codes ",\"space\":" ++ (l ++ codes "}"))))) found.2,
    ))
