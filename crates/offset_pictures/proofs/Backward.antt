-- Going over a script from its last command to its first.
use Rattle.std.proofs.Common.{◌≡◌, ℕ, zero, suc, ◌+◌, ◌<◌, ◌≤◌, Bool, true, false, List, [], ◌∷◌, ◌++◌, length, map, reverse, drop, get_or, cond, Option, Some, None, option_map, option_to_list}
use Rattle.std.proofs.Common.{if◌then◌else◌, refl, sym, ap, ap₂, subst, ◌∙◌, arith, Result, Ok, Err, IfOk, Vec}
use Rattle.std.proofs.lemmas.List.{drop_more, get_or-map, reverse-append}
use Rattle.std.specs.List.{prefix_len}
use Rattle.offset_script.specs.declared.scripts.Command.{Command}
use Rattle.offset_script.specs.declared.answers.Answer as program
use Rattle.offset_script.specs.Machine.{answer_view, State, Answer, start, step, answers}
use Rattle.offset_script.specs.Machine as machine
use Rattle.offset_script.proofs.Well.{IsWell, well_start, well_step}
use Rattle.offset_pictures.specs.declared.living.Life as found
use Rattle.offset_pictures.specs.Lives.{Life, leaves, life_of_answer, end_from, lives_from, life_view}
use Rattle.offset_pictures.proofs.Seen.{grants_of, call_counts, call_grants}

-- an answer for each command
pub answers_count : (cs : List Command) (s : State) → length (answers cs s) ≡ length cs
answers_count [] s = refl
answers_count (c ∷ cs) s = ap suc (answers_count cs (step c s).state)

few_grants : (a : Answer) → grants_of a ≤ 1
few_grants (machine.Grant k offset) = omega arith
few_grants machine.Refused = omega arith
few_grants machine.Freed = omega arith
few_grants machine.Gone = omega arith
few_grants (machine.Size n) = omega arith
few_grants (machine.Report free largest) = omega arith
few_grants (machine.Full rows) = omega arith
few_grants machine.Reset = omega arith
few_grants machine.Extended = omega arith

-- there are no more grants than commands
pub number_most : (cs : List Command) (s : State) → IsWell s → (i : ℕ) (d : Answer) (k offset : ℕ) → i < length cs → get_or (answers cs s) i d ≡ machine.Grant k offset → k ≤ s.grants + length cs
number_most [] s w i d k offset h e = absurd (omega arith)
number_most (c ∷ cs) s w zero d k offset h e = let g = call_grants c s w k offset e in omega (arith, g.0)
number_most (c ∷ cs) s w (suc i) d k offset h e =
    omega (arith, number_most cs (step c s).state (well_step c s w) i d k offset (omega arith) e, call_counts c s w, few_grants (step c s).answer)

-- the same, of answers to commands from the start of a script
pub numbers_few : (size limit : ℕ) → 2 ≤ limit → (cs : List Command) (n : ℕ) (given : List Answer) → given ≡ answers cs (start size limit) → length cs ≡ n → (i k offset : ℕ) → i < n
    → get_or given i machine.Refused ≡ machine.Grant k offset → k ≤ n
numbers_few size limit low cs n given played same i k offset less e =
    omega (arith, number_most cs (start size limit) (well_start size limit low) i machine.Refused k offset (omega arith) (ap (λ l. get_or l i machine.Refused) (sym played) ∙ e))

-- one command back
pub end_back : (cs : List Command) (i j : ℕ) (c : Command) (k : ℕ) → i ≡ j + 1 → drop j cs ≡ c ∷ drop i cs → end_from j (drop j cs) k ≡ (if leaves k c then end_from i (drop i cs) k else j)
end_back cs i j c k e d = ap (λ l. end_from j l k) d ∙ either (leaves k c)
  where
    either : (b : Bool) → j + cond b (1 + prefix_len (leaves k) (drop i cs)) 0 ≡ (if b then end_from i (drop i cs) k else j)
    either true = omega (arith, e)
    either false = omega arith

pub same_answer : (j : ℕ) (c : Command) (a : Answer) (f g : ℕ → ℕ) → ((k offset : ℕ) → a ≡ machine.Grant k offset → f k ≡ g k) → life_of_answer j c a f ≡ life_of_answer j c a g
same_answer j c (machine.Grant k offset) f g h = rw (h k offset refl) refl
same_answer j c machine.Refused f g h = refl
same_answer j c machine.Freed f g h = refl
same_answer j c machine.Gone f g h = refl
same_answer j c (machine.Size n) f g h = refl
same_answer j c (machine.Report free largest) f g h = refl
same_answer j c (machine.Full rows) f g h = refl
same_answer j c machine.Reset f g h = refl
same_answer j c machine.Extended f g h = refl

map_optional : (o : Option found.Life) (xs : List found.Life) → map life_view (option_to_list o ++ xs) ≡ option_to_list (option_map life_view o) ++ map life_view xs
map_optional None xs = refl
map_optional (Some x) xs = refl

pub lives_back : (cs : List Command) (given : List Answer) (i j : ℕ) (c : Command) (a : Answer) (back new : List found.Life) (o : Option found.Life) (end : ℕ → ℕ) → i ≡ j + 1
    → drop j cs ≡ c ∷ drop i cs → drop j given ≡ a ∷ drop i given → ((k offset : ℕ) → a ≡ machine.Grant k offset → end k ≡ end_from i (drop i cs) k)
    → option_to_list (option_map life_view o) ≡ life_of_answer j c a end → reverse new ≡ option_to_list o ++ reverse back
    → map life_view (reverse back) ≡ lives_from i (drop i cs) (drop i given) → map life_view (reverse new) ≡ lives_from j (drop j cs) (drop j given)
lives_back cs given i j c a back new o end e d b same is grown before =
    ap (map life_view) grown ∙ map_optional o (reverse back)
    ∙ ap₂ (λ xs ys. xs ++ ys) (is ∙ same_answer j c a end (end_from i (drop i cs)) same ∙ ap (λ n. life_of_answer j c a (end_from n (drop i cs))) e)
    (before ∙ ap (λ n. lives_from n (drop i cs) (drop i given)) e)
    ∙ sym (ap₂ (lives_from j) d b)

-- an answer found, as the plain machine returns it
pub seen_at : (all : List program.Answer) (j : ℕ) (d : Answer) (x : program.Answer) → j < length all → x ≡ get_or all j x → get_or (map answer_view all) j d ≡ answer_view x
seen_at all j d x h e = get_or-map answer_view all j x d h ∙ ap answer_view (sym e)

-- what is left from a command on
pub left_at : {X : Type 0} (xs : List X) (i j : ℕ) (x : X) → i ≡ j + 1 → j < length xs → get_or xs j x ≡ x → drop j xs ≡ x ∷ drop i xs
left_at xs i j x e h f = drop_more xs j x h ∙ ap₂ (λ y n. y ∷ drop n xs) f (sym e)

pub pushed : (new back : List found.Life) (x : found.Life) (o : Option found.Life) → o ≡ Some x → new ≡ back ++ x ∷ [] → reverse new ≡ option_to_list o ++ reverse back
pushed new back x o e f = ap reverse f ∙ reverse-append back (x ∷ []) ∙ ap (λ l. option_to_list l ++ reverse back) (sym e)

pub not_pushed : (new back : List found.Life) (o : Option found.Life) → o ≡ None → new ≡ back → reverse new ≡ option_to_list o ++ reverse back
not_pushed new back o e f = ap reverse f ∙ ap (λ l. option_to_list l ++ reverse back) (sym e)

pub none_is : (o : Option found.Life) → ((x : found.Life) → o ≡ Some x → ⊥) → o ≡ None
none_is None h = refl
none_is (Some x) h = absurd (h x refl)

-- once no command is left, these are all lives, in order
pub all_lives : (cs : List Command) (given : List Answer) (i : ℕ) (back found : List found.Life) → i ≡ 0 → found ≡ reverse back
    → map life_view (reverse back) ≡ lives_from i (drop i cs) (drop i given) → map life_view found ≡ lives_from 0 cs given
all_lives cs given i back found z e lives = ap (map life_view) e ∙ lives ∙ ap (λ n. lives_from n (drop n cs) (drop n given)) z

-- the lives found, where they are the same by another name
pub same_lives : {Z E : Type 0} (r : Result (Vec found.Life Z) E) (xs ys : List Life) → IfOk r (λ v. map life_view v.items ≡ xs) → xs ≡ ys → IfOk r (λ v. map life_view v.items ≡ ys)
same_lives r xs ys h e = subst (λ l. IfOk r (λ v. map life_view v.items ≡ l)) e h

-- what holds of all lives holds of those that were found
pub each_result : {Z E : Type 0} (P : List Life → Type 0) (r : Result (Vec found.Life Z) E) (ls : List Life) → IfOk r (λ v. map life_view v.items ≡ ls) → P ls → IfOk r (λ v. P (map life_view v.items))
each_result P (Err e) ls h p = tt
each_result P (Ok v) ls h p = subst P (sym h) p
