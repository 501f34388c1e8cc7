use Rattle.offset_script.proofs.Common.{◌+◌, ◌==◌, sym, ◌≡◌, ℕ, ◌<◌, Bool, true, false, cond, ltb, List, [], ◌∷◌, length, take, drop, Some, None, refl, arith, ltb-true, ltb-false, take_rest}
use Rattle.offset_script.proofs.Common.{slice_split, position, slice_split_none, slice_split_first}
use Rattle.std.proofs.{lemmas.List.Sums.fails_before_first, lemmas.Option.cond_some}
use Rattle.offset_script.proofs.tokens.split_once.Goals as goal

-- The first part of a text, and the parts after it.
unchosen : {A : Type 0} (b : Bool) (x : A) → cond b (Some x) None ≡ None → b ≡ false
unchosen true x e = absurd cc
unchosen false x e = refl

found_parts : (p : ℕ → Bool) (xs : List ℕ) (i : ℕ) → position p xs ≡ Some i → (slice_split p xs ≡ take i xs ∷ slice_split p (drop (i + 1) xs)) × (i < length xs)
found_parts p xs i e = search (arith, cond_some, ltb, length, ltb-true, slice_split_first, take, drop)

only_part : (p : ℕ → Bool) (xs : List ℕ) → position p xs ≡ None → slice_split p xs ≡ xs ∷ []
only_part p xs e = search (arith, length, ltb-false, unchosen, ltb, slice_split_none, fails_before_first)

pub returns-in-None-clause-parts : goal.returns-in-None-clause-parts
returns-in-None-clause-parts c = only_part (λ b. b == c.args.separator) c.args.text.now (sym c.in-None.ensures)

pub returns-in-Some-clause-parts : goal.returns-in-Some-clause-parts
returns-in-Some-clause-parts c = search (arith, found_parts, take_rest)
