-- What is seen of a space while commands are played, one more command at a time.
use Rattle.std.proofs.Common.{◌≡◌, ℕ, zero, suc, ◌+◌, ◌≤◌, List, [], ◌∷◌, ◌++◌, cond, get_or, length, map, take, refl, sym, ap, ap₂, ◌∙◌, append-nil, append_assoc, arith}
use Rattle.std.proofs.lemmas.List.{map-append}
use Rattle.offset_allocator.specs.declared.reports.StorageReport.{StorageReport}
use Rattle.offset_allocator.specs.{Reporting.Reports.IsReport, View.View}
use Rattle.offset_script.specs.declared.scripts.Command.{Command}
use Rattle.offset_script.specs.{Listening.IsTold, Listening.Shows, Machine.State, Machine.Answer, Machine.start, Machine.step, Machine.after, Machine.report}
use Rattle.offset_script.specs.Machine as machine
use Rattle.offset_script.proofs.{Nests.after-append, Totals.adds_all}
use Rattle.offset_pictures.specs.{Course.AreSizes, Reports.report_view, Reports.reports_from, Reports.states_from, Reports.units_in, Watching.replace_all_full}
use Rattle.offset_pictures.specs.declared.refusing.Refused.{Refused}
use Rattle.offset_pictures.specs.Refusals.{is_refusal, numbers_of, numbers_of_view, refusals_with_reasons_from, refused_call}
use Rattle.offset_pictures.proofs.{Quieter.quiet_states, Reasoned.by_numbers, Reasoned.refused_keeps, Reasoned.same_numbers}

-- what a space reports is the report of the state that it shows
same_report : (r : StorageReport) (v : View) (s : State) → Shows v s → IsReport r v → report_view r ≡ report s
same_report r v s shown is = ap₂ machine.Report is.0 is.1 ∙ shown.report

-- the first report
pub first_report : (r : StorageReport) (v : View) (s : State) (none found : List StorageReport) → Shows v s → IsReport r v → none ≡ [] → found ≡ none ++ r ∷ [] → map report_view found ≡ report s ∷ []
first_report r v s none found shown is empty e = ap (map report_view) (e ∙ ap (λ l. l ++ r ∷ []) empty) ∙ ap (λ x. x ∷ []) (same_report r v s shown is)

-- the states with that after one more command
states-append : (cs : List Command) (c : Command) (s : State) → states_from (cs ++ c ∷ []) s ≡ states_from cs s ++ after (cs ++ c ∷ []) s ∷ []
states-append [] c s = refl
states-append (d ∷ cs) c s = ap (λ l. s ∷ l) (states-append cs c (step d s).state)

refused-append : (i : ℕ) (cs : List Command) (c : Command) (s : State) → let t = after cs s in
    refusals_with_reasons_from i (cs ++ c ∷ []) s ≡ refusals_with_reasons_from i cs s ++ cond (is_refusal (step c t).answer) (refused_call (i + length cs) c (numbers_of t)) []
refused-append i [] c s = append-nil _ ∙ ap (λ n. cond (is_refusal (step c s).answer) (refused_call n c (numbers_of s)) []) (omega arith)
refused-append i (d ∷ cs) c s =
    let t : State = after cs (step d s).state in
    let first : List Refused = cond (is_refusal (step d s).answer) (refused_call i d (numbers_of s)) [] in
    ap (λ l. first ++ l) (refused-append (i + 1) cs c (step d s).state)
    ∙ sym (append_assoc first (refusals_with_reasons_from (i + 1) cs (step d s).state) _)
    ∙ ap (λ n. (first ++ refusals_with_reasons_from (i + 1) cs (step d s).state) ++ cond (is_refusal (step c t).answer) (refused_call n c (numbers_of t)) []) (omega arith)

-- one more report
pub report_more : (cs : List Command) (s : State) (c : Command) (v : View) (a : Answer) (found more : List StorageReport) (r : StorageReport) → IsTold c (after cs s) v a → IsReport r v
    → map report_view found ≡ reports_from cs s → more ≡ found ++ r ∷ [] → map report_view more ≡ reports_from (cs ++ c ∷ []) s
report_more cs s c v a found more r told is so_far e =
    ap (map report_view) e ∙ map-append report_view found (r ∷ [])
    ∙ ap₂ (λ l x. l ++ x ∷ []) so_far (same_report r v _ told.shows is ∙ ap report (sym (after-append cs (c ∷ []) s)))
    ∙ sym (ap (map report) (states-append cs c s) ∙ map-append report (states_from cs s) (after (cs ++ c ∷ []) s ∷ []))

-- one more size
pub same_size : (n : ℕ) (v : View) (s : State) → Shows v s → n ≡ v.size → n ≤ 4294967295 → n ≡ units_in s
same_size n v s shown is small = omega (arith, is, shown.units)

pub size_more : (cs : List Command) (s : State) (c : Command) (v : View) (a : Answer) (found more : List ℕ) (n : ℕ) → IsTold c (after cs s) v a → n ≡ v.size → n ≤ 4294967295
    → found ≡ map units_in (states_from cs s) → more ≡ found ++ n ∷ [] → more ≡ map units_in (states_from (cs ++ c ∷ []) s)
size_more cs s c v a found more n told is small so_far e =
    e ∙ ap₂ (λ l x. l ++ x ∷ []) so_far (same_size n v _ told.shows is small ∙ ap units_in (sym (after-append cs (c ∷ []) s)))
    ∙ sym (ap (map units_in) (states-append cs c s) ∙ map-append units_in (states_from cs s) (after (cs ++ c ∷ []) s ∷ []))

size_at : (cs : List Command) (s : State) (i : ℕ) → i ≤ length cs → get_or (map units_in (states_from cs s)) i 0 ≡ units_in (after (take i cs) s)
size_at [] s zero l = refl
size_at [] s (suc i) l = absurd (omega (arith, l))
size_at (c ∷ cs) s zero l = refl
size_at (c ∷ cs) s (suc i) l = size_at cs (step c s).state i (omega (arith, l))

count_sizes : (cs : List Command) (s : State) → length (map units_in (states_from cs s)) ≡ length cs + 1
count_sizes [] s = refl
count_sizes (c ∷ cs) s = omega (arith, count_sizes cs (step c s).state)

-- the sizes that are seen of a script without full reports are those of the script
pub sizes_are : (size limit : ℕ) (cs : List Command) (sizes : List ℕ) → sizes ≡ map units_in (states_from (replace_all_full cs) (start size limit)) → AreSizes sizes size limit cs
sizes_are size limit cs sizes seen =
    let s : State = start size limit in
    let e : sizes ≡ map units_in (states_from cs s) = seen ∙ ap (map units_in) (quiet_states cs s) in
    (ap length e ∙ count_sizes cs s, λ i l. ap (λ xs. get_or xs i 0) e ∙ size_at cs s i l ∙ omega (arith, adds_all (take i cs) s))

-- one more call, which may be refused
pub refused_more : (cs : List Command) (s : State) (c : Command) (v : View) (a : Answer) (i : ℕ) (found more : List Refused) → IsTold c (after cs s) v a → i ≡ length cs
    → found ≡ refusals_with_reasons_from 0 cs s → more ≡ found ++ cond (is_refusal a) (refused_call i c (numbers_of_view v)) [] → more ≡ refusals_with_reasons_from 0 (cs ++ c ∷ []) s
refused_more cs s c v a i found more told at so_far e =
    let t : State = after cs s in
    let here : cond (is_refusal a) (refused_call i c (numbers_of_view v)) [] ≡ cond (is_refusal (step c t).answer) (refused_call (0 + length cs) c (numbers_of t)) [] =
    ap₂ (λ x n. cond (is_refusal x) (refused_call n c (numbers_of_view v)) []) told.answer (at ∙ omega arith)
    ∙ by_numbers (is_refusal (step c t).answer) (0 + length cs) c _ (numbers_of t) (λ f. same_numbers v _ told.shows ∙ refused_keeps c t f) in
    e ∙ ap₂ (λ x y. x ++ y) so_far here ∙ sym (refused-append 0 cs c s)
