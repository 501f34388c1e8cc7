use Rattle.std.proofs.Common.{◌≡◌, ◌+◌, ◌≤◌, ◌^◌, ◌∙◌, ℕ, None, Option, ap, arith, inl, inr, length, refl}
use Rattle.std.proofs.lemmas.Bool.{cases_lt}
use Rattle.std.proofs.lemmas.List.{length-replicate}
use Rattle.offset_guarded.specs.Guard.{Guard}
use Rattle.offset_heaps.proofs.Sound.{empty_slot, noted_more, started_at}
use Rattle.offset_heaps.proofs.HeapsOf.with_realms.Goals as goal

pub loop-number-init : goal.loop-number-init
loop-number-init g c =
    let long : length c.in_ok-slots.slots ≡ c.args.limits.most + c.args.limits.most_larger = ap length c.in_ok-slots.ensures ∙ length-replicate {A = Option Guard} (c.args.limits.most + c.args.limits.most_larger) None in
    let begun = started_at c.args.limits (2 ^ c.in_ok-index.index.one.height) c.in_ok-slots.slots c.in_ok-index.index long c.in_ok-index.ensures.room c.in_ok-index.ensures.one c.in_ok-index.ensures.two
    c.in_ok-index.ensures.spare c.in_ok-index.ensures.empty in
    record {
      wide = begun.0;
      noted = λ k within. elim within [ inl l ↦ absurd (omega arith) | inr past ↦ begun.1 k past ];
      levels = refl;
    }

pub loop-number-preserved : goal.loop-number-preserved
loop-number-preserved g c = record {
  wide = c.note.ensures.wide;
  noted = noted_more c.args.limits c.in_ok-slots.slots c.loop-number.index c.note.new.self c.loop-number.number (c.args.limits.most + c.args.limits.most_larger) c.note.ensures.here
      c.note.ensures.others c.loop-number.invariant.noted;
  levels = c.note.ensures.levels ∙ c.loop-number.invariant.levels;
}

pub invariant_of-result : goal.invariant_of-result
invariant_of-result g c =
    let count : ℕ = c.args.limits.most + c.args.limits.most_larger in
    let none = c.in_ok-slots.ensures in
    let long : length c.in_ok-slots.slots ≡ count = ap length none ∙ length-replicate {A = Option Guard} count None in
    let end : count ≤ c.loop-number.number = omega (arith, c.loop-number-test.false) in
    record {
      wide = c.loop-number.invariant.wide;
      noted = λ k. c.loop-number.invariant.noted k (elim (cases_lt k count) [ inl l ↦ inl (omega (arith, l, end)) | inr past ↦ inr past ]);
      numbers = long;
      few = omega (arith, long, c.requires.numbers);
      low = λ bits enough. let least = c.in_ok-index.ensures.least bits (omega (arith, long, enough)) in omega (arith, least, c.loop-number.invariant.levels);
      limit_min = c.requires.limit_min;
      limit_max = c.requires.limit_max;
      limit_first = (c.requires.first_min, c.requires.first_max);
      size_first = (c.requires.size_min, c.requires.size_max);
      realms = λ k. rw (none, empty_slot count k) tt;
      kinds = λ k. rw (none, empty_slot count k) tt;
    }
