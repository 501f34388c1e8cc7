use Rattle.std.proofs.Common.{◌≡◌, None, is_some, refl, sym, ap, subst, ◌∙◌, inl, inr}
use Rattle.std.proofs.lemmas.Bool.{cases_eq, false≢true}
use Rattle.offset_allocator.specs.Ranges.{range_of}
use Rattle.offset_uses.proofs.engine.upload_both.Goals as goal

pub returns-in_err-one-clause-refused : goal.returns-in_err-one-clause-refused
returns-in_err-one-clause-refused g c e p q = inl (c.upload.new.heap, c.in_err-one.ensures.step p)

pub returns-in-None-clause-refused : goal.returns-in-None-clause-refused
returns-in-None-clause-refused g c e p q = inr (c.upload.new.heap, c.upload-2.new.heap, c.in_ok-one.one, c.in_ok-one.ensures.step p, c.in-None.ensures.step q)

-- the first range is freed
pub returns-in-None-clause-kept : goal.returns-in-None-clause-kept
returns-in-None-clause-kept g c e x = elim (cases_eq x c.in_ok-one.one.name) [
  | inl same ↦
      let live = ap is_some (c.in-None.ensures.refused refl c.in_ok-one.one.name ∙ c.in_ok-one.ensures.range) in
      let gone = c.give_back.ensures.gone (c.give_back.ensures.live.1 live) in
      subst (λ y. range_of y c.give_back.new.space ≡ range_of y c.args.heap.now) (sym same) (gone ∙ sym c.in_ok-one.ensures.fresh)
  | inr other ↦ c.give_back.ensures.others x other ∙ c.in-None.ensures.refused refl x ∙ c.in_ok-one.ensures.others x other
]

-- the second grant has another name
pub returns-in-Some-clause-first : goal.returns-in-Some-clause-first
returns-in-Some-clause-first g c =
    let free : c.in_ok-one.one.name ≡ c.in-Some.other.name → range_of c.in_ok-one.one.name c.upload.new.heap ≡ None = λ e.
    ap (λ y. range_of y c.upload.new.heap) e ∙ c.in-Some.ensures.fresh in
    c.in-Some.ensures.others c.in_ok-one.one.name (λ e. false≢true (ap is_some (sym (free e) ∙ c.in_ok-one.ensures.range))) ∙ c.in_ok-one.ensures.range
