-- A report in place of each full report leaves lives and reports as they were.
use Rattle.std.proofs.Common.{◌≡◌, ℕ, ◌+◌, List, [], ◌∷◌, ◌++◌, Bool, true, false, if◌then◌else◌, map, refl, ap, ap₂, ◌∙◌}
use Rattle.offset_script.specs.declared.scripts.Command.{Command}
use Rattle.offset_script.specs.declared.scripts.Command.TheVariants as command
use Rattle.offset_script.specs.Machine.{State, step, answers, start, report, is_short_of}
use Rattle.offset_script.specs.Machine as machine
use Rattle.offset_pictures.specs.{Lives.life_of_answer, Lives.end_from, Lives.lives_from, Lives.lives_of, Watching.replace_full, Watching.replace_all_full, Reports.reports_of, Reports.states_from}

pub quiet_state : (c : Command) (s : State) → (step (replace_full c) s).state ≡ (step c s).state
quiet_state (command.Alloc n) s = refl
quiet_state (command.Free k) s = refl
quiet_state (command.Size k) s = refl
quiet_state command.Report s = refl
quiet_state command.Full s = refl
quiet_state command.Reset s = refl
quiet_state (command.Align n align) s = refl
quiet_state (command.Extend more) s = refl

quiet_answer : (j : ℕ) (c : Command) (s : State) (f : ℕ → ℕ) → life_of_answer j c (step (replace_full c) s).answer f ≡ life_of_answer j c (step c s).answer f
quiet_answer j (command.Alloc n) s f = refl
quiet_answer j (command.Free k) s f = refl
quiet_answer j (command.Size k) s f = refl
quiet_answer j command.Report s f = refl
quiet_answer j command.Full s f = no_life (is_short_of 1 s) _ _
  where
    no_life : (b : Bool) (x y : ℕ) → life_of_answer j command.Full (if b then machine.Report 0 0 else machine.Report x y) f ≡ []
    no_life true x y = refl
    no_life false x y = refl
quiet_answer j command.Reset s f = refl
quiet_answer j (command.Align n align) s f = refl
quiet_answer j (command.Extend more) s f = refl

quiet_from : (cs : List Command) (s : State) (j : ℕ) → lives_from j cs (answers (replace_all_full cs) s) ≡ lives_from j cs (answers cs s)
quiet_from [] s j = refl
quiet_from (c ∷ cs) s j = ap₂ (λ xs ys. xs ++ ys)
    (quiet_answer j c s (end_from (j + 1) cs))
    (ap (λ t. lives_from (j + 1) cs (answers (replace_all_full cs) t)) (quiet_state c s) ∙ quiet_from cs (step c s).state (j + 1))

pub quiet_lives : (size limit : ℕ) (cs : List Command) → lives_from 0 cs (answers (replace_all_full cs) (start size limit)) ≡ lives_of size limit cs
quiet_lives size limit cs = quiet_from cs (start size limit) 0

pub quiet_states : (cs : List Command) (s : State) → states_from (replace_all_full cs) s ≡ states_from cs s
quiet_states [] s = refl
quiet_states (c ∷ cs) s = ap (λ l. s ∷ l) (ap (states_from (replace_all_full cs)) (quiet_state c s) ∙ quiet_states cs (step c s).state)

pub quiet_reports : (size limit : ℕ) (cs : List Command) → reports_of size limit (replace_all_full cs) ≡ reports_of size limit cs
quiet_reports size limit cs = ap (map report) (quiet_states cs (start size limit))
