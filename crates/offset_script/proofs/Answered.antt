-- The answers to a list of commands keep the laws over whole histories.
use Rattle.offset_script.proofs.Common.{◌≡◌, ◌≤◌, ◌∙◌, ℕ, zero, suc, List, [], ◌∷◌, ◌++◌, map, take, drop, length, refl, sym, ap, subst, arith, answers, start, after, State, Answer, step}
use Rattle.offset_script.proofs.Common.{Takes, AreStepsFromFresh, Command, HasFreshRestarts, HasTracelessNests, HasCommutingReleases}
use Rattle.offset_script.specs.Playing.{AreAnswers}
use Rattle.std.proofs.lemmas.List.{map-id}
use Rattle.offset_script.proofs.{Commute.commute_next, Fresh.fresh_law, Nests.after-append, Nests.nest_law}

-- the answers from a place on
answers_from : (i : ℕ) (cs : List Command) (s : State) → drop i (answers cs s) ≡ answers (drop i cs) (after (take i cs) s)
answers_from zero cs s = refl
answers_from (suc i) [] s = refl
answers_from (suc i) (c ∷ cs) s = answers_from i cs (step c s).state

fresh : (size limit : ℕ) (cs : List Command) (found : List Answer) → 2 ≤ limit → found ≡ answers cs (start size limit) → HasFreshRestarts size limit cs found
fresh size limit cs found h e i none = ap (drop i) e ∙ answers_from i cs (start size limit) ∙ fresh_law size limit h (take i cs) none (drop i cs)

-- the answers after some commands, and the state there
answers_past : (xs ys : List Command) (s : State) → drop (length xs) (answers (xs ++ ys) s) ≡ answers ys (after xs s)
answers_past [] ys s = refl
answers_past (x ∷ xs) ys s = answers_past xs ys (step x s).state

nests : (size limit : ℕ) (cs : List Command) (found : List Answer) → 2 ≤ limit → found ≡ answers cs (start size limit) → HasTracelessNests size limit cs found
nests size limit cs found h e before nest rest parts n = search (arith, drop, length, answers_past, after-append, nest_law)

releases : (size limit : ℕ) (cs : List Command) (found : List Answer) → 2 ≤ limit → found ≡ answers cs (start size limit) → HasCommutingReleases size limit cs found
releases size limit cs found h e before ks c rest parts t is = search (arith, map, take, drop, length, answers_past, after-append, commute_next)

-- what is heard of commands that are played as they are
pub are_answers : (size limit : ℕ) (cs : List Command) (found : List Answer) → 2 ≤ limit → found ≡ answers (map (λ c. c) cs) (start size limit)
    → AreStepsFromFresh Takes size limit (map (λ c. c) cs) (answers (map (λ c. c) cs) (start size limit)) → AreAnswers size limit cs found
are_answers size limit cs found low heard steps =
    let s = start size limit in
    let same = map-id cs in
    let is : found ≡ answers cs s = heard ∙ ap (λ l. answers l s) same in
    record {
      answers = is;
      steps = subst (AreStepsFromFresh Takes size limit cs) (sym is) (subst (λ l. AreStepsFromFresh Takes size limit l (answers l s)) same steps);
      fresh = fresh size limit cs found low is;
      releases = releases size limit cs found low is;
      nests = nests size limit cs found low is;
    }
