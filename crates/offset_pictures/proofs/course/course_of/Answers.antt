use Rattle.std.proofs.Common.{◌≡◌, map, length, All, ap, ap₂, subst, sym, ◌∙◌, arith, refl, rules}
use Rattle.std.proofs.lemmas.List.{length-map}
use Rattle.offset_script.specs.Machine.{answer_view, start}
use Rattle.offset_pictures.specs.{Lives.IsOrdered, Lives.life_view, Lives.lives_from, Lives.lives_of, Watching.replace_full, Watching.replace_all_full}
use Rattle.offset_pictures.proofs.{Backward.answers_count, Backward.numbers_few, Ordered.lives_are_ordered, Quieter.quiet_lives, Quieter.quiet_reports, Reasoned.quiet_refused, Watched.sizes_are}
use Rattle.offset_pictures.proofs.course.course_of.Goals as goal

pub lives_of_answers-requires : goal.lives_of_answers-requires
lives_of_answers-requires c =
    let script = c.args.script.now in
    let cs = replace_all_full script.commands.items in
    let n = length-map script.commands.items replace_full in
    let same = ap length c.deref.ensures.value in
    let played = ap (map answer_view) c.deref-2.ensures.value ∙ c.in_ok-answers.ensures.answers in
    record {
      len = omega (arith, n, same, ap length played, answers_count cs (start script.size script.max_allocs), length-map c.deref-2.result.now answer_view);
      few = numbers_few script.size script.max_allocs script.low cs (length c.deref.result.now) (map answer_view c.deref-2.result.now) played (omega (arith, n, same));
    }

pub returns-clause-course : goal.returns-clause-course
returns-clause-course c =
    let script = c.args.script.now in
    let cs = script.commands.items in
    record {
      limit = refl;
      grants = search rules;
      lives =
          c.in_ok-lives.ensures
          ∙ ap₂ (lives_from 0) c.deref.ensures.value (ap (map answer_view) c.deref-2.ensures.value ∙ c.in_ok-answers.ensures.answers)
          ∙ quiet_lives script.size script.max_allocs cs;
      reports = c.in_ok-answers.ensures.reports ∙ quiet_reports script.size script.max_allocs cs;
      sizes = sizes_are script.size script.max_allocs cs _ c.in_ok-answers.ensures.sizes;
      refused = c.in_ok-answers.ensures.refused ∙ quiet_refused script.size script.max_allocs cs;
    }

pub returns-clause-ordered : goal.returns-clause-ordered
returns-clause-ordered c =
    let script = c.args.script.now in
    let cs = script.commands.items in
    let lives : map life_view c.in_ok-lives.lives.items ≡ lives_of script.size script.max_allocs cs =
    c.in_ok-lives.ensures
    ∙ ap₂ (lives_from 0) c.deref.ensures.value (ap (map answer_view) c.deref-2.ensures.value ∙ c.in_ok-answers.ensures.answers)
    ∙ quiet_lives script.size script.max_allocs cs in
    subst (All IsOrdered) (sym lives) (lives_are_ordered script.size script.max_allocs cs)
