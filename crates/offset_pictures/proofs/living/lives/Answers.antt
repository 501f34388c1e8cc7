use Rattle.std.proofs.Common.{map, length, All, AllPairs, ap, ap₂, ◌∙◌, arith}
use Rattle.std.proofs.lemmas.List.{length-map}
use Rattle.offset_script.specs.Machine.{answer_view, start}
use Rattle.offset_pictures.specs.Lives.{AreApart, IsOrdered, IsWithin, lives_from, lives_of}
use Rattle.offset_pictures.proofs.{Backward.answers_count, Backward.numbers_few, Backward.same_lives, Backward.each_result, Apart.apart_law, Apart.within_law, Ordered.lives_are_ordered}
use Rattle.offset_pictures.proofs.living.lives.Goals as goal

pub lives_of_answers-requires : goal.lives_of_answers-requires
lives_of_answers-requires c =
    let script = c.args.script.now in
    let cs = script.commands.items in
    let same = ap length c.deref.ensures.value in
    let played = ap (map answer_view) c.deref-2.ensures.value ∙ c.in_ok-answers.ensures.answers in
    record {
      len = omega (arith, same, ap length played, answers_count cs (start script.size script.max_allocs), length-map c.deref-2.result.now answer_view);
      few = numbers_few script.size script.max_allocs script.low cs (length c.deref.result.now) (map answer_view c.deref-2.result.now) played (omega (arith, same));
    }

pub returns : goal.returns
returns c =
    let script = c.args.script.now in
    let cs = script.commands.items in
    let all = same_lives c.lives_of_answers.result _ (lives_of script.size script.max_allocs cs) c.lives_of_answers.ensures
    (ap₂ (lives_from 0) c.deref.ensures.value (ap (map answer_view) c.deref-2.ensures.value ∙ c.in_ok-answers.ensures.answers)) in
    record {
      lives = all;
      apart = each_result (AllPairs AreApart) c.lives_of_answers.result _ all (apart_law script.size script.max_allocs script.low cs);
      within = each_result (All (IsWithin script.size script.max_allocs cs)) c.lives_of_answers.result _ all (within_law script.size script.max_allocs script.low cs);
      ordered = each_result (All IsOrdered) c.lives_of_answers.result _ all (lives_are_ordered script.size script.max_allocs cs);
    }
