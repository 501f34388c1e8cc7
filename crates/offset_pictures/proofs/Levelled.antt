-- The lines of the lower plot never cross.
use Rattle.std.proofs.Common.{◌≡◌, ℕ, ◌+◌, ◌≤◌, Bool, true, false, cond, List, [], ◌∷◌, All, nat_le, refl, sym, arith, leb-true, le-leb}
use Rattle.std.proofs.lemmas.Bool.{true≢false}
use Rattle.std.proofs.lemmas.List.Elements.{All-nil, All-cons}
use Rattle.std.proofs.lemmas.List.Sums.{sum_by-cons}
use Rattle.std.specs.{Prelude.sum, List.prefix_len, List.range_with_len}
use Rattle.offset_allocator.specs.{Classes.value, Classes.down, Reporting.FreeSizes.largest}
use Rattle.offset_allocator.proofs.Classes.{value_down, value_grows}
use Rattle.offset_script.specs.declared.scripts.Command.{Command}
use Rattle.offset_script.specs.Machine.{State, Report, free_sizes, is_short_of, report, start, step}
use Rattle.offset_pictures.specs.{Levels.IsLevelled, Levels.ReportsAreLevelled, Reports.reports_from}

-- more numbers pass a test that more numbers pass
one_longer : (p q : Bool) (m n : ℕ) → (p ≡ true → q ≡ true) → m ≤ n → cond p (1 + m) 0 ≤ cond q (1 + n) 0
one_longer true true m n h l = omega arith
one_longer true false m n h l = absurd (true≢false (sym (h refl)))
one_longer false q m n h l = omega arith

longer : (p q : ℕ → Bool) → ((c : ℕ) → p c ≡ true → q c ≡ true) → (cs : List ℕ) → prefix_len p cs ≤ prefix_len q cs
longer p q h [] = omega arith
longer p q h (c ∷ cs) = one_longer (p c) (q c) _ _ (h c) (longer p q h cs)

down_grows : (n m : ℕ) → n ≤ m → down n ≤ down m
unfolding down
down_grows n m l = longer (λ c. nat_le (value c) n) (λ c. nat_le (value c) m) (λ c t. le-leb (value c) m (omega (arith, leb-true (value c) n t, l))) (range_with_len 1 255)

largest_joined : (ns : List ℕ) → largest ns ≤ value (down (sum ns))
largest_joined [] = omega arith
largest_joined (n ∷ ns) =
    let all = sum (n ∷ ns) in
    let is = sum_by-cons (λ x. x) n ns in
    let one = value_grows (down n) (down all) (down_grows n all (omega (arith, is))) in
    let rest = value_grows (down (sum ns)) (down all) (down_grows (sum ns) all (omega (arith, is))) in
    omega (arith, one, rest, largest_joined ns)

either : (b : Bool) (ns : List ℕ) → IsLevelled (cond b (Report 0 0) (Report (sum ns) (largest ns)))
either true ns = (omega arith, value_down 0)
either false ns = (largest_joined ns, value_down (sum ns))

levelled : (cs : List Command) (s : State) → All IsLevelled (reports_from cs s)
levelled [] s = All-cons IsLevelled (report s) [] (either (is_short_of 1 s) (free_sizes s.blocks)) (All-nil IsLevelled)
levelled (c ∷ cs) s = All-cons IsLevelled (report s) (reports_from cs (step c s).state) (either (is_short_of 1 s) (free_sizes s.blocks)) (levelled cs (step c s).state)

pub levels_law : ReportsAreLevelled
levels_law size limit cs = levelled cs (start size limit)
