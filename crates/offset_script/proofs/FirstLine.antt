-- The first line of a text, and the lines after it.
use Rattle.offset_script.proofs.Common.{◌≡◌, ℕ, suc, ◌+◌, Bool, true, false, cond, not, eqb, List, [], ◌∷◌, length, Option, Some, None, refl, ap, arith, option_map_or, slice_split, onto_first, filter}
use Rattle.offset_script.proofs.Common.{length-slice_split, nat_tests, nil_from_length, parts, lines_of, is_skipped, Line, numbered_from, significant_from, line_ends, command_of_words, cond_both}
use Rattle.offset_script.proofs.Common.{header_of_words}

abbrev pub rest_of : Option (List ℕ) → List ℕ
rest_of None = []
rest_of (Some rest) = rest

abbrev pub ends_in : Option (List ℕ) → ℕ
ends_in None = 0
ends_in (Some rest) = 1

not_zero : (n : ℕ) → eqb (suc n) 0 ≡ false
not_zero n = grind (arith, nat_tests)

abbrev line_at : ℕ → List ℕ → Line
line_at n line = record { number = n; text = line }

onto_some : {X : Type 0} (x : X) (ps : List (List X)) → (y : List X) × (ys : List (List X)) × (onto_first x ps ≡ y ∷ ys)
onto_some x [] = (x ∷ [], [], refl)
onto_some x (p ∷ ps) = (x ∷ p, ps, refl)

-- there is always a part
pub some_part : {X : Type 0} (p : X → Bool) (xs : List X) → (y : List X) × (ys : List (List X)) × (slice_split p xs ≡ y ∷ ys)
some_part p [] = ([], [], refl)
some_part {X} p (x ∷ xs) = cond_both (p x) ([] ∷ slice_split p xs) (onto_first x (slice_split p xs)) (λ l. (y : List X) × (ys : List (List X)) × (l ≡ y ∷ ys)) (λ e. ([], slice_split p xs, refl))
    (λ e. onto_some x (slice_split p xs))

last_lines : (line : List ℕ) (n : ℕ) → filter (λ l. not (is_skipped l.text)) (numbered_from n (lines_of (line ∷ []))) ≡ cond (is_skipped line) [] (record { number = n; text = line } ∷ [])
last_lines [] n = refl
last_lines (b ∷ bs) n = rw not_zero (elim (eqb b 35) as (λ c. cond (not c) (line_at n (b ∷ bs) ∷ []) [] ≡ cond c [] (line_at n (b ∷ bs) ∷ [])) [ true ↦ refl | false ↦ refl ])

more_lines : (line next : List ℕ) (more : List (List ℕ)) (n : ℕ) → filter (λ l. not (is_skipped l.text)) (numbered_from n (lines_of (line ∷ next ∷ more)))
    ≡ cond (is_skipped line) (filter (λ l. not (is_skipped l.text)) (numbered_from (n + 1) (lines_of (next ∷ more))))
    (record { number = n; text = line } ∷ filter (λ l. not (is_skipped l.text)) (numbered_from (n + 1) (lines_of (next ∷ more))))
more_lines line next more n = search (arith, not)

pub significant_step : (n : ℕ) (text line : List ℕ) (after : Option (List ℕ)) → parts 10 text ≡ line ∷ option_map_or (parts 10) after []
    → significant_from n text ≡ cond (is_skipped line) (significant_from (n + ends_in after) (rest_of after))
    (record { number = n; text = line } ∷ significant_from (n + ends_in after) (rest_of after))
unfolding significant_from
significant_step n text line None h = rw h (last_lines line n)
significant_step n text line (Some rest) h = search (arith, some_part, eqb, more_lines)

pub ends_step : (text line : List ℕ) (after : Option (List ℕ)) → parts 10 text ≡ line ∷ option_map_or (parts 10) after [] → line_ends text ≡ ends_in after + line_ends (rest_of after)
ends_step text line None h = omega (arith, length-slice_split (λ b. eqb b 10) text, ap length h)
ends_step text line (Some rest) h = omega (arith, length-slice_split (λ b. eqb b 10) text, length-slice_split (λ b. eqb b 10) rest, ap length h)

pub no_line : (n : ℕ) (text : List ℕ) → length text ≡ 0 → significant_from n text ≡ []
unfolding significant_from
no_line n text h = rw (nil_from_length text h) refl

-- too many words
pub four_words : (a b c rest : List ℕ) → None ≡ command_of_words (a ∷ b ∷ c ∷ parts 32 rest)
unfolding command_of_words
four_words a b c rest = let s = some_part (λ x. eqb x 32) rest in rw s.2 refl

pub seven_words : (a b c d e f rest : List ℕ) → None ≡ header_of_words (a ∷ b ∷ c ∷ d ∷ e ∷ f ∷ parts 32 rest)
unfolding header_of_words
seven_words a b c d e f rest = let s = some_part (λ x. eqb x 32) rest in rw s.2 refl
