-- A question leaves no trace.
use Rattle.offset_script.proofs.Common.{◌≡◌, ℕ, ◌-◌, ◌≤◌, List, [], ◌∷◌, ◌++◌, map, refl, ap, subst, ◌∙◌, arith, Command, State, start, step, answers, after, is_short_of, place_of, renumber}
use Rattle.offset_script.proofs.Common.{raise_number, number_without, KeepsSpace, IsQuestion}
use Rattle.offset_script.proofs.{Members.map_same, Fresh.raise_none, Fresh.renumber_same, Nests.IsQuiet, Nests.quiet_size, Nests.quiet_report, Nests.number_without_none, Nests.nest_law}
use Rattle.offset_script.specs.declared.scripts.Command.TheVariants as command
use Rattle.offset_script.specs.Histories as history

as_before : (g : ℕ) (cs : List Command) (s : State) (j : ℕ) → j ≡ 0 → map (raise_number j) (answers (map (renumber (number_without g j)) cs) s) ≡ answers cs s
as_before g cs s j e = rw e (map_same (raise_number 0) raise_none _ ∙ ap (λ l. answers l s) (map_same (renumber (number_without g 0)) (renumber_same _ (number_without_none g)) cs))

-- a question is a nest
quiet : (q : Command) (s : State) → IsQuestion q → KeepsSpace q × IsQuiet (step q s).answer × ((step q s).state.grants - s.grants ≡ 0)
quiet (command.Size k) s h = (tt, quiet_size (place_of k s.blocks), omega arith)
quiet command.Report s h = (tt, quiet_report (is_short_of 1 s) _ _, omega arith)
quiet command.Full s h = (tt, tt, omega arith)
quiet other s h = absurd h

-- commands after a question have the same answers as without it
pub after_question : (size limit : ℕ) → 2 ≤ limit → (before : List Command) (q : Command) → IsQuestion q → (rest : List Command)
    → answers rest (step q (after before (start size limit))).state ≡ answers rest (after before (start size limit))
after_question size limit h before q asks rest =
    let s = after before (start size limit) in
    let asked = quiet q s asks in
    nest_law size limit h before (q ∷ []) (history.quiet asked.0 (λ k g. subst IsQuiet g.1 asked.1) (λ e. subst IsQuiet e asked.1) history.done) rest
    ∙ as_before s.grants rest s ((step q s).state.grants - s.grants) asked.2

pub answers-append : (xs ys : List Command) (s : State) → answers (xs ++ ys) s ≡ answers xs s ++ answers ys (after xs s)
answers-append [] ys s = refl
answers-append (x ∷ xs) ys s = ap (λ l. (step x s).answer ∷ l) (answers-append xs ys (step x s).state)

pub question_law : (size limit : ℕ) → 2 ≤ limit → (before : List Command) (q : Command) (rest : List Command) → IsQuestion q
    → let s = after before (start size limit) in answers (before ++ q ∷ rest) (start size limit) ≡ answers before (start size limit) ++ ((step q s).answer ∷ answers rest s)
question_law size limit h before q rest asks = search (arith, answers-append, after_question)
