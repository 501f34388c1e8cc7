use Rattle.std.proofs.Common.{◌≡◌, ◌+◌, ◌-◌, map, get_or, if◌then◌else◌, List, sym, ap, ◌∙◌, arith}
use Rattle.std.proofs.lemmas.List.{get_or_default, length-map}
use Rattle.offset_script.specs.declared.scripts.Command.{Command}
use Rattle.offset_script.specs.declared.scripts.Command.TheVariants as command
use Rattle.offset_script.specs.Machine.{answer_view, Answer}
use Rattle.offset_script.specs.Machine as machine
use Rattle.offset_pictures.specs.{Ends.end_in, Lives.leaves}
use Rattle.offset_pictures.proofs.Backward.{end_back, lives_back, seen_at, left_at, none_is, pushed, not_pushed, all_lives}
use Rattle.offset_pictures.proofs.living.lives_of_answers.Goals as goal
use Rattle.offset_pictures.proofs.living.lives_of_answers.Goals.{in-Some+in_ok-push, in_default}

pub life_of_answer-requires : goal.life_of_answer-requires
life_of_answer-requires c k offset e =
    let i = c.loop-i.i in
    let most = c.requires.few (i - 1) k offset (omega arith) (seen_at c.args.answers.now (i - 1) machine.Refused c.index-answers-i.result (omega arith) c.index-answers-i.is ∙ e) in
    omega (arith, most, c.loop-i.invariant.len)

pub loop-i-preserved : goal.loop-i-preserved
loop-i-preserved c =
    let cs : List Command = c.args.commands.now in
    let given : List Answer = map answer_view c.args.answers.now in
    let i = c.loop-i.i in
    let c' = get_or cs (i - 1) (command.Alloc 0) in
    let answer = answer_view c.index-answers-i.result in
    let one : i ≡ (i - 1) + 1 = omega arith in
    let at = λ (d : Answer). seen_at c.args.answers.now (i - 1) d c.index-answers-i.result (omega arith) c.index-answers-i.is in
    let d = left_at cs i (i - 1) c' one (omega arith) (get_or_default cs (i - 1) c' (command.Alloc 0) (omega arith)) in
    let b = left_at given i (i - 1) answer one (omega (arith, length-map c.args.answers.now answer_view)) (at answer) in
    record {
      lives = lives_back cs given i (i - 1) c' answer c.loop-i.lives.items c.match-life_of_answer.lives.items c.life_of_answer.result (end_in c.loop-i.ends) one d b
          (λ k offset e. c.loop-i.invariant.ends k (c.requires.few (i - 1) k offset (omega arith) (at machine.Refused ∙ e)))
          c.life_of_answer.ensures
          (elim c.match-life_of_answer.branch [
            | in-Some+in_ok-push w ↦ pushed c.match-life_of_answer.lives.items c.loop-i.lives.items w.in-Some.life c.life_of_answer.result (let e = w.in-Some.is in cc)
                (let e = w.lives-is in let f = w.in_ok-push.ensures.items in cc)
            | in_default w ↦ not_pushed c.match-life_of_answer.lives.items c.loop-i.lives.items c.life_of_answer.result (none_is c.life_of_answer.result w.in_default.not-Some)
                (let e = w.lives-is in cc)
          ])
          c.loop-i.invariant.lives;
      len = omega (arith, c.meet.ensures.len, c.loop-i.invariant.len);
      ends = λ k l. c.meet.ensures.ends k (omega (arith, c.loop-i.invariant.len)) ∙ ap (λ e. if leaves k c' then e else i - 1) (c.loop-i.invariant.ends k l)
          ∙ sym (end_back cs i (i - 1) c' k one d);
    }

pub returns : goal.returns
returns c = all_lives c.args.commands.now (map answer_view c.args.answers.now) c.loop-i.i c.loop-i.lives.items c.reverse.new.self.items (omega arith) c.reverse.ensures.items c.loop-i.invariant.lives
