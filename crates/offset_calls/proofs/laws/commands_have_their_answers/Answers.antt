use Rattle.offset_calls.proofs.Common.{◌≡◌, List, [], ◌∷◌, map, refl, ap, Command, State, start, Answer, replies}
use Rattle.offset_script.specs.Machine as machine
use Rattle.offset_calls.specs.declared.calls.Call.TheVariants as call
use Rattle.offset_calls.proofs.laws.commands_have_their_answers.Goals as goal

same : (cs : List Command) (s : State) → replies (map call.Command cs) s ≡ map Answer (machine.answers cs s)
same [] s = refl
same (c ∷ cs) s = ap (λ l. Answer (machine.step c s).answer ∷ l) (same cs (machine.step c s).state)

pub returns : goal.returns
returns c size limit cs = same cs (start size limit)
