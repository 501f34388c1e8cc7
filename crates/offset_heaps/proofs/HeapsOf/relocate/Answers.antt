use Rattle.std.proofs.Common.{◌≡◌, Some, None, IfSome, ap, arith, subst}
use Rattle.offset_heaps.specs.{Heaps.Heaps, Heaps.KeepsOthers, Heaps.numbers, Heaps.range_of, Relocating.size_of}
use Rattle.offset_heaps.proofs.Takers.{relocated_aligned, relocates_since}
use Rattle.offset_heaps.proofs.HeapsOf.relocate.Goals as goal

pub returns-clause-step : goal.returns-clause-step
returns-clause-step g c live some = (
  c.in_ok-align.align,
  c.in_ok-align.ensures.own,
  relocates_since c.args.place c.in_ok-align.align c.args.self.now c.alignment_of.new.self c.relocate_aligned.new.self c.relocate_aligned.result c.alignment_of.ensures.same
      (record {
        none = c.relocate_aligned.ensures.none;
        same = c.relocate_aligned.ensures.same;
        first = c.relocate_aligned.ensures.first;
        found = c.relocate_aligned.ensures.found;
        grants = c.relocate_aligned.ensures.grants;
      }),
)

pub returns-clause-aligned : goal.returns-clause-aligned
returns-clause-aligned g c =
    let all = relocates_since c.args.place c.in_ok-align.align c.args.self.now c.alignment_of.new.self c.relocate_aligned.new.self c.relocate_aligned.result c.alignment_of.ensures.same
    (record {
      none = c.relocate_aligned.ensures.none;
      same = c.relocate_aligned.ensures.same;
      first = c.relocate_aligned.ensures.first;
      found = c.relocate_aligned.ensures.found;
      grants = c.relocate_aligned.ensures.grants;
    }) in
    relocated_aligned c.args.place c.in_ok-align.align c.args.self.now c.relocate_aligned.new.self (size_of c.args.place c.args.self.now) c.relocate_aligned.result c.in_ok-align.ensures.own
    c.relocate_aligned.ensures.aligned all.grants

pub returns-clause-was_free : goal.returns-clause-was_free
returns-clause-was_free g c =
    subst (λ (k : Heaps). IfSome c.relocate_aligned.result (λ h. range_of h.place k ≡ None)) c.alignment_of.ensures.same c.relocate_aligned.ensures.not_live

pub returns-clause-range : goal.returns-clause-range
returns-clause-range g c =
    subst (λ (k : Heaps). IfSome c.relocate_aligned.result (λ h. range_of h.place c.relocate_aligned.new.self ≡ Some (record { offset = h.offset; size = size_of c.args.place k }))) c.alignment_of.ensures.same
    c.relocate_aligned.ensures.range

pub returns-clause-others : goal.returns-clause-others
returns-clause-others g c =
    subst (λ (k : Heaps). IfSome c.relocate_aligned.result (λ h. KeepsOthers h.place k c.relocate_aligned.new.self)) c.alignment_of.ensures.same c.relocate_aligned.ensures.others

pub returns-clause-stays : goal.returns-clause-stays
returns-clause-stays g c =
    subst (λ (k : Heaps). range_of c.args.place c.relocate_aligned.new.self ≡ range_of c.args.place k) c.alignment_of.ensures.same c.relocate_aligned.ensures.stays

pub returns-clause-accesses : goal.returns-clause-accesses
returns-clause-accesses g c bits enough =
    let all = ap numbers c.alignment_of.ensures.same in
    let few = c.relocate_aligned.ensures.accesses bits (omega (arith, all, enough)) in
    let one = c.alignment_of.ensures.accesses in
    omega (arith, all, few, one)
