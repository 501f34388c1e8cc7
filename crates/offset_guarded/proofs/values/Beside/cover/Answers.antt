use Rattle.std.proofs.Common.{◌∙◌, ◌∷◌, [], None, ap, sym, arith, length, length-append}
use Rattle.offset_guarded.specs.Values.{entries, entry}
use Rattle.offset_guarded.proofs.Entries.{entries_more, one_more}
use Rattle.offset_guarded.proofs.values.Beside.cover.Goals as goal

pub invariant_of-self : goal.invariant_of-self
invariant_of-self g c =
    ((λ x e q. c.self.invariant.0 x e (ap (entry x) (sym c.reserve.ensures.items) ∙ q)), c.self.invariant.1 ∙ ap (λ l. length (entries l)) (sym c.reserve.ensures.items))

pub returns-in_err-reserve-clause-same : goal.returns-in_err-reserve-clause-same
returns-in_err-reserve-clause-same g c x = ap (entry x) (c.reserve.ensures.items ∙ c.self.view_is)

pub loop-self-init : goal.loop-self-init
loop-self-init g c = record {
  same = λ x. ap (entry x) (c.reserve.ensures.items ∙ c.self.view_is);
  counted = c.self.invariant.1 ∙ ap (λ l. length (entries l)) (sym c.reserve.ensures.items);
  room = let more = c.in_ok-reserve.ensures in omega (arith, more.ok, more.len, c.saturating_sub-more.ensures, c.len.ensures);
  long = omega (arith, ap length (c.reserve.ensures.items ∙ c.self.view_is));
  short = omega (arith, ap length (c.reserve.ensures.items ∙ c.self.view_is));
}

pub invariant_of-self-in-loop-self : goal.invariant_of-self-in-loop-self
invariant_of-self-in-loop-self g c =
    ((λ x e q. c.self.invariant.0 x e (ap (entry x) c.self.view_is ∙ sym (c.loop-self.invariant.same x) ∙ q)), c.loop-self.invariant.counted)

pub loop-self-preserved : goal.loop-self-preserved
loop-self-preserved g c = record {
  same = λ x. ap (entry x) c.push_reserved.ensures.items ∙ one_more None c.loop-self.self-inside.cells.items x ∙ c.loop-self.invariant.same x;
  counted = c.loop-self.invariant.counted ∙ ap length (sym (entries_more c.loop-self.self-inside.cells.items)) ∙ ap (λ l. length (entries l)) (sym c.push_reserved.ensures.items);
  room = omega (arith, c.push_reserved.ensures.capacity, c.loop-self.invariant.room);
  long = omega (arith, ap length c.push_reserved.ensures.items, length-append c.loop-self.self-inside.cells.items (None ∷ []), c.loop-self.invariant.long);
  short = omega (arith, ap length c.push_reserved.ensures.items, length-append c.loop-self.self-inside.cells.items (None ∷ []), c.loop-self.invariant.short);
}
