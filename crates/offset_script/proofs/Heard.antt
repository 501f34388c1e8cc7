-- One more command of a player, and what a listener is told of it.
use Rattle.offset_script.proofs.Common.{◌≡◌, List, [], ◌∷◌, ◌++◌, Option, Result, Ok, Err, IfOk, IsTrue, ℕ, sum, sym, ap, ap₂, append-nil, ◌∙◌, View, Handle, IsWellFormed}
use Rattle.offset_script.proofs.Common.{Command, State, Answer, step, answers, after, has_valid_alignment, kept_name, Takes, free_sizes, text_of}
use Rattle.offset_script.specs.Agreement.{IsAtState}
use Rattle.offset_script.proofs.{Agreed.report_agrees, Agreed.same_length, Agreed.same_units, Asking.answers-append, Ends.free_sizes_labels}
use Rattle.offset_script.proofs.{Simulation.follows, Well.IsWell, Well.well_step}
use Rattle.std.proofs.lemmas.Grind.{flat_map-append}
use Rattle.offset_allocator.specs.View as named
use Rattle.offset_script.specs.{Grammar.lines_of_answer, Listening.IsTold, Listening.Shows}

-- a space shows the state that it represents
pub shows : (v : View) (hs : List (Option Handle)) (s : State) → IsWell s → IsAtState v hs s → Shows v s
shows v hs s ws p = record {
  report = sym (report_agrees v (kept_name hs) s p.formed ws p.agrees);
  blocks = same_length v (kept_name hs) s p.formed ws p.agrees;
  limit = sym p.agrees.limit;
  units = sym p.formed.whole ∙ same_units v (kept_name hs) s p.formed ws p.agrees;
  free = ap sum (ap named.free_sizes p.agrees.view ∙ sym (free_sizes_labels p.agrees.labels) ∙ sym (ap free_sizes p.agrees.state));
}

-- what is told of a command, and the state that the space represents after it
pub told : (c : Command) (s : State) (v w : View) (hs left : List (Option Handle)) (a : Answer) → IsWell s → IsAtState v hs s → IsTrue (has_valid_alignment c) → IsWellFormed w → Takes c v hs w left a
    → IsTold c s w a × IsAtState w left (step c s).state
told c s v w hs left a ws p power formed t =
    let next = follows v w hs left a s formed ws p c power t in
    (record { answer = next.0; shows = shows w left (step c s).state (well_step c s ws) next.1; taken = (v, hs, left, t) }, next.1)

-- one more answer
pub one_more : (cs : List Command) (s : State) (c : Command) (a : Answer) (found more : List Answer) → a ≡ (step c (after cs s)).answer → found ≡ answers cs s → more ≡ found ++ a ∷ []
    → more ≡ answers (cs ++ c ∷ []) s
one_more cs s c a found more is so_far e = e ∙ ap (λ l. l ++ a ∷ []) so_far ∙ ap (λ b. answers cs s ++ b ∷ []) is ∙ sym (answers-append cs (c ∷ []) s)

-- the text of one more answer
pub text_more : (cs : List Command) (s : State) (c : Command) (a : Answer) (text more : List ℕ) → a ≡ (step c (after cs s)).answer → text ≡ text_of (answers cs s) → more ≡ text ++ lines_of_answer a
    → more ≡ text_of (answers (cs ++ c ∷ []) s)
text_more cs s c a text more is so_far e =
    e ∙ ap₂ (λ t b. t ++ lines_of_answer b) so_far is ∙ ap (λ l. text_of (answers cs s) ++ l) (sym (append-nil _))
    ∙ sym (flat_map-append lines_of_answer (answers cs s) ((step c (after cs s)).answer ∷ [])) ∙ ap text_of (sym (answers-append cs (c ∷ []) s))

-- what holds of a success holds of it if two other things do
pub if_ok_both : {A E : Type 0} {P Q R : A → Type 0} (r : Result A E) → ((a : A) → P a → Q a → R a) → IfOk r P → IfOk r Q → IfOk r R
if_ok_both (Ok a) f p q = f a p q
if_ok_both (Err e) f p q = tt
