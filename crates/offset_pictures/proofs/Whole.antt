-- Whole lives, from the call that grants to the one that ends.
use Rattle.std.proofs.Common.{◌≡◌, ℕ, zero, suc, ◌+◌, ◌-◌, ◌<◌, ◌≤◌, Bool, true, false, ◌&&◌, List, [], ◌∷◌, length, take, cond, Option, Some, None, All, nat_lt, nat_le, if◌then◌else◌, refl, sym, ap}
use Rattle.std.proofs.Common.{◌∙◌, inl, inr, arith, slice_index_or, le-leb}
use Rattle.std.proofs.lemmas.Bool.{cases_lt, lt-leb}
use Rattle.std.proofs.lemmas.Bool.Decides.{nat_tests}
use Rattle.std.proofs.lemmas.List.Elements.{All-nil, All-cons, All-append}
use Rattle.std.proofs.lemmas.List.Sums.{prefix_len-le-length}
use Rattle.std.specs.List.{prefix_len}
use Rattle.offset_script.specs.declared.scripts.Command.{Command}
use Rattle.offset_script.specs.{Machine.State, Machine.Answer, Machine.start, Machine.step, Machine.answers, Machine.after, Totals.requested_units}
use Rattle.offset_script.specs.Machine as machine
use Rattle.offset_script.proofs.Well.{IsWell, not_there, well_start, well_step}
use Rattle.offset_pictures.specs.Lives.{Life, leaves, life_of_answer, end_from, lives_from, lives_of, range_of, is_on, LivesAreSeen}
use Rattle.offset_pictures.proofs.{Ranges.range_none, Seen.grants_of, Seen.call_keeps, Seen.call_ends, Seen.call_counts, Seen.call_grants}

more_grants : (c : Command) (s : State) → IsWell s → (k : ℕ) → k ≤ s.grants → k ≤ (step c s).state.grants
more_grants c s w k made = let g = call_counts c s w in omega arith

same_le : (a b c d : ℕ) → (a ≤ b → c ≤ d) → (c ≤ d → a ≤ b) → nat_le a b ≡ nat_le c d
same_le a b c d f g = elim (cases_lt b a) [
  | inl l ↦ lt-leb a b l ∙ sym (elim (cases_lt d c) [ inl m ↦ lt-leb c d m | inr m ↦ absurd (let h = g m in omega arith) ])
  | inr l ↦ le-leb a b l ∙ sym (le-leb c d (f l))
]

none_of_two : (r : Option (ℕ × ℕ)) → r ≡ None → (b : Bool) → (if b then r else None) ≡ None
none_of_two r e true = e
none_of_two r e false = refl

-- a range lasts exactly as long as the commands leave its grant live
goes_on : (k : ℕ) (cs : List Command) (s : State) → IsWell s → k ≤ s.grants → (i : ℕ) → i ≤ length cs
    → range_of k 0 (after (take i cs) s).blocks ≡ (if nat_le i (prefix_len (leaves k) cs) then range_of k 0 s.blocks else None)
goes_on k cs s w made zero h = ap (λ b. if b then range_of k 0 s.blocks else None) (sym (le-leb 0 (prefix_len (leaves k) cs) (omega arith)))
goes_on k [] s w made (suc i) h = absurd (omega arith)
goes_on k (c ∷ cs) s w made (suc i) h = either (leaves k c) refl (goes_on k cs (step c s).state (well_step c s w) (more_grants c s w k made) i (omega arith))
  where
    now : Option (ℕ × ℕ)
    now = range_of k 0 s.blocks

    next : Option (ℕ × ℕ)
    next = range_of k 0 (step c s).state.blocks

    most : ℕ
    most = prefix_len (leaves k) cs

    either : (b : Bool) → leaves k c ≡ b → range_of k 0 (after (take i cs) (step c s).state).blocks ≡ (if nat_le i most then next else None)
        → range_of k 0 (after (take i cs) (step c s).state).blocks ≡ (if nat_le (suc i) (cond b (1 + most) 0) then now else None)
    either true e ih = ih
        ∙ ap (λ r. if nat_le i most then r else None) (call_keeps c s k made e)
        ∙ ap (λ b. if b then now else None) (same_le i most (suc i) (1 + most) (λ l. omega arith) (λ l. omega arith))
    either false e ih = ih ∙ none_of_two next (call_ends c s w k e) (nat_le i most)
        ∙ ap (λ b. if b then now else None) (sym (lt-leb (suc i) 0 (omega arith)))

-- a life that begins with one of these commands, the first of which is call j
pub record IsShown (j : ℕ) (cs : List Command) (s : State) (l : Life) : Type 0 where
  pub later : s.grants < l.number
  pub begins : j ≤ l.first
  pub lasts : l.first < l.last
  pub ends : l.last ≤ j + length cs
  pub seen : (i : ℕ) → i ≤ length cs → range_of l.number 0 (after (take i cs) s).blocks ≡ (if is_on (j + i) l then Some (l.offset, l.size) else None)

not_yet : (s : State) → IsWell s → (l : Life) (i : ℕ) → s.grants < l.number → i ≤ l.first → range_of l.number 0 s.blocks ≡ (if is_on i l then Some (l.offset, l.size) else None)
not_yet s w l i later early = range_none l.number 0 s.blocks (not_there s w (machine.Live l.number) (λ o. absurd (let m = o.1 in omega arith)))
    ∙ ap (λ b. if b && nat_le i l.last then Some (l.offset, l.size) else None) (sym (off l.first i early))
  where
    off : (x y : ℕ) → y ≤ x → nat_lt x y ≡ false
    off x y h = grind (arith, nat_tests)

shown_later : (j : ℕ) (c : Command) (cs : List Command) (s : State) → IsWell s → (l : Life) → IsShown (j + 1) cs (step c s).state l → IsShown j (c ∷ cs) s l
shown_later j c cs s w l m = let g = call_counts c s w in record {
  later = omega (arith, m.later);
  begins = omega (arith, m.begins);
  lasts = m.lasts;
  ends = omega (arith, m.ends);
  seen = seen;
}
  where
    seen : (i : ℕ) → i ≤ suc (length cs) → range_of l.number 0 (after (take i (c ∷ cs)) s).blocks ≡ (if is_on (j + i) l then Some (l.offset, l.size) else None)
    seen zero h = not_yet s w l (j + 0) (let g = call_counts c s w in omega (arith, m.later)) (omega (arith, m.begins))
    seen (suc i) h = m.seen i (omega arith) ∙ ap (λ n. if is_on n l then Some (l.offset, l.size) else None) (omega arith)

shown_answer : (j : ℕ) (c : Command) (cs : List Command) (s : State) → IsWell s → (a : Answer) → (step c s).answer ≡ a → All (IsShown j (c ∷ cs) s) (life_of_answer j c a (end_from (j + 1) cs))
shown_answer j c cs s w (machine.Grant k offset) e = All-cons (IsShown j (c ∷ cs) s) life [] (record {
  later = omega (arith, says.0);
  begins = omega arith;
  lasts = omega arith;
  ends = omega (arith, prefix_len-le-length (leaves k) cs);
  seen = seen;
}) (All-nil (IsShown j (c ∷ cs) s))
  where
    life : Life
    life = record { number = k; offset = offset; size = requested_units c; first = j; last = j + 1 + prefix_len (leaves k) cs; lived = j + 1 + prefix_len (leaves k) cs - j }

    says : (k ≡ s.grants + 1) × (range_of k 0 (step c s).state.blocks ≡ Some (offset, requested_units c))
    says = call_grants c s w k offset e

    made : k ≤ (step c s).state.grants
    made = let g = call_counts c s w in let n = ap grants_of e in omega (arith, says.0)

    on : (i : ℕ) → nat_le i (prefix_len (leaves k) cs) ≡ is_on (j + suc i) life
    on i = same_le i (prefix_len (leaves k) cs) (j + suc i) (j + 1 + prefix_len (leaves k) cs) (λ l. omega arith) (λ l. omega arith)
        ∙ ap (λ b. b && nat_le (j + suc i) life.last) (sym (begun_by j (j + suc i) (omega arith)))
      where
        begun_by : (x y : ℕ) → x < y → nat_lt x y ≡ true
        begun_by x y h = grind (arith, nat_tests)

    seen : (i : ℕ) → i ≤ suc (length cs) → range_of k 0 (after (take i (c ∷ cs)) s).blocks ≡ (if is_on (j + i) life then Some (offset, requested_units c) else None)
    seen zero h = not_yet s w life (j + 0) (omega (arith, says.0)) (omega arith)
    seen (suc i) h = goes_on k cs (step c s).state (well_step c s w) made i (omega arith)
        ∙ ap (λ r. if nat_le i (prefix_len (leaves k) cs) then r else None) says.1
        ∙ ap (λ b. if b then Some (offset, requested_units c) else None) (on i)
shown_answer j c cs s w machine.Refused e = All-nil (IsShown j (c ∷ cs) s)
shown_answer j c cs s w machine.Freed e = All-nil (IsShown j (c ∷ cs) s)
shown_answer j c cs s w machine.Gone e = All-nil (IsShown j (c ∷ cs) s)
shown_answer j c cs s w (machine.Size n) e = All-nil (IsShown j (c ∷ cs) s)
shown_answer j c cs s w (machine.Report free largest) e = All-nil (IsShown j (c ∷ cs) s)
shown_answer j c cs s w (machine.Full rows) e = All-nil (IsShown j (c ∷ cs) s)
shown_answer j c cs s w machine.Reset e = All-nil (IsShown j (c ∷ cs) s)
shown_answer j c cs s w machine.Extended e = All-nil (IsShown j (c ∷ cs) s)

pub shown : (cs : List Command) (s : State) → IsWell s → (j : ℕ) → All (IsShown j cs s) (lives_from j cs (answers cs s))
shown [] s w j = λ k d h. absurd (omega arith)
shown (c ∷ cs) s w j = All-append (IsShown j (c ∷ cs) s) (life_of_answer j c (step c s).answer (end_from (j + 1) cs)) (lives_from (j + 1) cs (answers cs (step c s).state))
    (shown_answer j c cs s w (step c s).answer refl)
    (λ i d h. shown_later j c cs s w _ (shown cs (step c s).state (well_step c s w) (j + 1) i d h))

pub seen_law : LivesAreSeen
seen_law size limit h cs k d l i m =
    let life = slice_index_or (lives_of size limit cs) k d in
    (shown cs (start size limit) (well_start size limit h) 0 k d l).seen i m ∙ ap (λ n. if is_on n life then Some (life.offset, life.size) else None) (omega arith)
