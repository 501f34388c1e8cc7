use Rattle.std.proofs.Common.{◌≡◌, inl, inr, ◌+◌, ◌*◌, ◌<◌, ◌≤◌, ◌∙◌, [], ap, arith, drop, length, refl, subst, sym}
use Rattle.std.proofs.lemmas.Bool.{cases_lt}
use Rattle.std.proofs.lemmas.List.{drop_all, length-set}
use Rattle.std.proofs.Math.Nat.{add-mul}
use Rattle.std.specs.List.{FoldsTo}
use Rattle.offset_heaps.specs.{Changing.CompactsSlot, Changing.IsCalledAt, Changing.IsCompactible, Changing.moves_from, Changing.moves_in, Changing.numbered, Heaps.slot}
use Rattle.offset_heaps.proofs.{Numbers.slot_past, Compacted.folds_append, Compacted.moves_step, Sound.changes_more, Sound.noted_changed}
use Rattle.offset_heaps.proofs.compact.compact_all.Goals as goal

pub loop-number-preserved : goal.loop-number-preserved
loop-number-preserved g c =
    let inv = c.loop-number.invariant in
    let len = inv.len in
    let all = c.requires.numbers in
    let there : c.loop-number.number < length c.loop-number.slots = omega arith in
    let there_first : c.loop-number.number < length c.args.slots.now = omega arith in
    let change = c.compact_numbered.ensures.change in
    let more = changes_more CompactsSlot c.args.slots.now c.loop-number.slots c.compact_numbered.new.self c.loop-number.number there change inv.done inv.left in
    let R = IsCalledAt g.T.Index.NonMax.NodeIndexNonMax.number (λ f k range h. goal.F-step g f k range tt h) in
    record {
      callable = c.compact_numbered.ensures.callable;
      all = (
        λ e k l. elim (cases_lt k c.loop-number.number) [
          | inl before ↦ inv.all.0 (c.both-all.ensures.0 e).1 k before
          | inr past ↦
              let here : k ≡ c.loop-number.number = omega (arith, l, past) in
              subst (λ j. IsCompactible (slot j c.args.slots.now)) (sym here)
              (subst IsCompactible (inv.left c.loop-number.number (omega arith)) (c.compact_numbered.ensures.done.0 (c.both-all.ensures.0 e).0))
        ],
        λ each. c.both-all.ensures.1 (
          c.compact_numbered.ensures.done.1 (subst IsCompactible (sym (inv.left c.loop-number.number (omega arith))) (each c.loop-number.number (omega arith))),
          inv.all.1 (λ k l. each k (omega (arith, l))),
        ),
      );
      done = more.0;
      left = more.1;
      moves = λ last rest. inv.moves last (subst (λ ms. FoldsTo R c.loop-number.moved ms last) (sym (moves_step c.args.slots.now c.loop-number.number there_first))
          (folds_append R c.loop-number.moved c.compact_numbered.new.moved last (numbered c.loop-number.number (moves_in (slot c.loop-number.number c.args.slots.now)))
          (moves_from (c.loop-number.number + 1) (drop (c.loop-number.number + 1) c.args.slots.now))
          (subst (λ o. FoldsTo R c.loop-number.moved (numbered c.loop-number.number (moves_in o)) c.compact_numbered.new.moved) (inv.left c.loop-number.number (omega arith)) c.compact_numbered.ensures.moved) rest));
      len = ap length change.slots ∙ length-set c.loop-number.slots c.loop-number.number change.now ∙ inv.len;
      wide = c.note.ensures.wide;
      noted = noted_changed CompactsSlot c.args.limits c.loop-number.slots c.compact_numbered.new.self c.loop-number.number c.loop-number.index c.note.new.self change inv.noted c.note.ensures.here
          c.note.ensures.others;
      levels = c.note.ensures.levels ∙ inv.levels;
      accesses =
          let next = add-mul c.loop-number.number 1 (12 * c.args.index.now.one.height + 10) in
          omega (arith, next, inv.accesses, inv.levels, c.compact_numbered.ensures.accesses, c.note.ensures.accesses);
    }

pub returns-clause-all : goal.returns-clause-all
returns-clause-all g c =
    let all = c.requires.numbers in
    let past : length c.args.slots.now ≤ c.loop-number.number = omega arith in (
      λ e k. elim (cases_lt k c.loop-number.number) [
        | inl l ↦ c.loop-number.invariant.all.0 e k l
        | inr behind ↦ subst IsCompactible (sym (slot_past c.args.slots.now k (omega (arith, past, behind)))) tt
      ],
      λ each. c.loop-number.invariant.all.1 (λ k l. each k),
    )

pub returns-clause-moved : goal.returns-clause-moved
returns-clause-moved g c =
    let all = c.requires.numbers in
    let past : length c.args.slots.now ≤ c.loop-number.number = omega arith in
    let none : drop c.loop-number.number c.args.slots.now ≡ [] = drop_all c.loop-number.number c.args.slots.now past in
    c.loop-number.invariant.moves c.loop-number.moved
    (subst (λ s. FoldsTo (IsCalledAt g.T.Index.NonMax.NodeIndexNonMax.number (λ f k range h. goal.F-step g f k range tt h)) c.loop-number.moved (moves_from c.loop-number.number s) c.loop-number.moved) (sym none) refl)
