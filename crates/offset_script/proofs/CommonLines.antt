-- Commands at the head of a text are the commands of its first lines.
use Rattle.offset_script.proofs.Common.{◌≡◌, ℕ, ◌+◌, ◌<◌, length, length-append, true, false, eqb, List, [], ◌∷◌, ◌++◌, Some, refl, sym, ap, subst, ◌∙◌, append_assoc, arith, rules, codes}
use Rattle.offset_script.proofs.Common.{AllByRecursion, IsTrue, all_ascii_digits, and_parts, nat_tests, slice_split_at, All-from_recursion, Command, Alloc, Size, Report, Full, Reset, Align, Extend}
use Rattle.offset_script.proofs.Common.{has_valid_alignment, parts, is_skipped, significant_from, Line, Plan, ◌>>=!◌, commands_of, Result, Ok, Err}
use Rattle.offset_script.proofs.{FirstLine.significant_step, Numbers.power_some, Spelled.commands, Meaning.rest_of_plan}
use Rattle.std.specs.{Char.is_ascii_digit}
use Rattle.offset_script.specs.{declared.scripts.Command.TheVariants.Free, Spelling.IsNumbered, Spelling.IsSpelling, CommonLines.BeginsWithNumber, CommonLines.BeginsWithCommand}
use Rattle.offset_script.specs.{CommonLines.ReadsCommands, CommonLines.name_of, CommonLines.with_number, declared.scripts.Header.Header, declared.faults.ScriptFault.ScriptFault}
use Rattle.offset_script.specs.declared.common_lines.Word.{Word}
use Rattle.offset_script.specs.declared.common_lines.Word.TheVariants as words

-- a word and a number are a line
abbrev spelled : (w : Word) (n : ℕ) (line : List ℕ) → IsNumbered (name_of w) n line → IsSpelling (with_number w n) line
spelled words.Alloc n line h = h
spelled words.Free n line h = h
spelled words.Size n line h = h

pub numbered_line : (w : Word) (n : ℕ) (text after rest : List ℕ) → text ≡ name_of w ++ after → BeginsWithNumber after n rest → BeginsWithCommand text (with_number w n) rest
numbered_line w n text after rest e b = record {
  line = name_of w ++ b.digits;
  spells = spelled w n (name_of w ++ b.digits) (b.digits, b.numeral, refl);
  text_is = e ∙ ap (λ (x : List ℕ). name_of w ++ x) b.text_is ∙ sym (append_assoc (name_of w) b.digits (10 ∷ rest));
}

-- ---- no line of a command has a line end or is skipped

abbrev HasNoEnd : List ℕ → Type 0
HasNoEnd xs = AllByRecursion (λ x. eqb x 10 ≡ false) xs

no_end_digits : (ds : List ℕ) → all_ascii_digits ds ≡ true → HasNoEnd ds
no_end_digits [] h = tt
no_end_digits (d ∷ ds) h = let p = and_parts (is_ascii_digit d) (all_ascii_digits ds) h in (grind (arith, nat_tests), no_end_digits ds p.1)

no_end_both : (xs ys : List ℕ) → HasNoEnd xs → HasNoEnd ys → HasNoEnd (xs ++ ys)
no_end_both [] ys h k = k
no_end_both (x ∷ xs) ys h k = (h.0, no_end_both xs ys h.1 k)

-- a line of a command has no line end, and is not skipped
record IsFullLine (line : List ℕ) : Type 0 where
  whole : HasNoEnd line
  kept : is_skipped line ≡ false

numbered_is_full : (b : ℕ) (word line : List ℕ) (n : ℕ) → HasNoEnd (b ∷ word) → eqb b 35 ≡ false → IsNumbered (b ∷ word) n line → IsFullLine line
numbered_is_full b word line n h e s = subst IsFullLine (sym s.2) (record { whole = no_end_both (b ∷ word) s.0 h (no_end_digits s.0 s.1.each); kept = e })

is_full : (c : Command) (line : List ℕ) → IsSpelling c line → IsFullLine line
is_full (Alloc n) line s = numbered_is_full 97 (codes "lloc ") line n (search rules) refl s
is_full (Free n) line s = numbered_is_full 102 (codes "ree ") line n (search rules) refl s
is_full (Size n) line s = numbered_is_full 115 (codes "ize ") line n (search rules) refl s
is_full Report line s = subst IsFullLine (sym s) (record { whole = search rules; kept = refl })
is_full Full line s = subst IsFullLine (sym s) (record { whole = search rules; kept = refl })
is_full Reset line s = subst IsFullLine (sym s) (record { whole = search rules; kept = refl })
is_full (Align n a) line s =
    subst IsFullLine (sym s.5)
    (record {
      whole = no_end_both (codes "align " ++ s.0 ++ codes " ") s.1
          (no_end_both (codes "align " ++ s.0) (codes " ") (no_end_both (codes "align ") s.0 (search rules) (no_end_digits s.0 s.2.each)) (search rules)) (no_end_digits s.1 s.3.each);
      kept = refl;
    })
is_full (Extend n) line s = numbered_is_full 101 (codes "xtend ") line n (search rules) refl s

-- ---- the first line

pub is_valid : (c : Command) (line : List ℕ) → IsSpelling c line → IsTrue (has_valid_alignment c)
is_valid (Align n a) line s = power_some a s.4
is_valid other line s = refl

pub is_shorter : (text rest : List ℕ) (c : Command) → BeginsWithCommand text c rest → length rest < length text
is_shorter text rest c b = omega (arith, ap length b.text_is, length-append b.line (10 ∷ rest))

head_parts : (text rest : List ℕ) (c : Command) (b : BeginsWithCommand text c rest) → parts 10 text ≡ b.line ∷ parts 10 rest
head_parts text rest c b = ap (parts 10) b.text_is ∙ slice_split_at (λ x. eqb x 10) b.line 10 rest (All-from_recursion (λ x. eqb x 10 ≡ false) b.line (is_full c b.line b.spells).whole) refl

head_line : (n : ℕ) (text rest : List ℕ) (c : Command) → BeginsWithCommand text c rest → commands_of (significant_from n text) ≡ (commands_of (significant_from (n + 1) rest) >>=! λ cs. Ok (c ∷ cs))
unfolding commands_of
head_line n text rest c b = rw (significant_step n text b.line (Some rest) (head_parts text rest c b), (is_full c b.line b.spells).kept, commands c b.line b.spells) refl

-- ---- the first lines

one_more : (front : List Command) (c : Command) (r : Result (List Command) ScriptFault) → ((r >>=! λ cs. Ok (c ∷ cs)) >>=! λ cs. Ok (front ++ cs)) ≡ (r >>=! λ cs. Ok ((front ++ c ∷ []) ++ cs))
one_more front c (Ok cs) = ap (λ (x : List Command). Ok x) (sym (append_assoc front (c ∷ []) cs))
one_more front c (Err e) = refl

pub reads_one_more : (n : ℕ) (text rest : List ℕ) (c : Command) (before : List Line) (old new : List Command) → ReadsCommands before old (significant_from n text) new → BeginsWithCommand text c rest
    → ReadsCommands before old (significant_from (n + 1) rest) (new ++ c ∷ [])
reads_one_more n text rest c before old new r b = record {
  read = r.read ++ c ∷ [];
  new_is = ap (λ (x : List Command). x ++ c ∷ []) r.new_is ∙ append_assoc old r.read (c ∷ []);
  means = r.means ∙ rw (head_line n text rest c b) (one_more r.read c (commands_of (significant_from (n + 1) rest)));
}

abbrev planned : Header → List Command → Result Plan ScriptFault
planned h cs = Ok (record { header = h; commands = cs })

append_read : (h : Header) (front read : List Command) (r : Result (List Command) ScriptFault)
    → ((r >>=! λ cs. Ok (read ++ cs)) >>=! λ cs. planned h (front ++ cs)) ≡ (r >>=! λ cs. planned h ((front ++ read) ++ cs))
append_read h front read (Ok cs) = ap (planned h) (sym (append_assoc front read cs))
append_read h front read (Err e) = refl

-- the meaning of the script stays the same
pub goes_on_past : (h : Header) (before after : List Line) (old new : List Command) (meaning : Result Plan ScriptFault) → rest_of_plan h old before ≡ meaning → ReadsCommands before old after new
    → rest_of_plan h new after ≡ meaning
goes_on_past h before after old new meaning so_far r =
    let one : rest_of_plan h old before ≡ rest_of_plan h new after = rw (r.means, r.new_is) (append_read h old r.read (commands_of after)) in
    sym one ∙ so_far
