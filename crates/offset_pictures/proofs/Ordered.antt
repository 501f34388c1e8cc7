-- No life ends before it begins.
use Rattle.std.proofs.Common.{ℕ, ◌+◌, ◌≤◌, List, [], ◌∷◌, All, arith}
use Rattle.std.proofs.lemmas.List.Elements.{All-nil, All-cons, All-append}
use Rattle.offset_script.specs.declared.scripts.Command.{Command}
use Rattle.offset_script.specs.Machine.{Answer, answers, start}
use Rattle.offset_script.specs.Machine as machine
use Rattle.offset_pictures.specs.Lives.{IsOrdered, life_of_answer, end_from, lives_from, lives_of}

one_is_ordered : (i : ℕ) (c : Command) (a : Answer) (end : ℕ → ℕ) → ((k : ℕ) → i ≤ end k) → All IsOrdered (life_of_answer i c a end)
one_is_ordered i c (machine.Grant k offset) end h = All-cons IsOrdered _ [] (h k) (All-nil IsOrdered)
one_is_ordered i c a end h = All-nil IsOrdered

are_ordered : (i : ℕ) (cs : List Command) (given : List Answer) → All IsOrdered (lives_from i cs given)
are_ordered i [] given = All-nil IsOrdered
are_ordered i (c ∷ cs) [] = All-nil IsOrdered
are_ordered i (c ∷ cs) (a ∷ given) = All-append IsOrdered _ _ (one_is_ordered i c a (end_from (i + 1) cs) (λ k. omega arith)) (are_ordered (i + 1) cs given)

pub lives_are_ordered : (size limit : ℕ) (cs : List Command) → All IsOrdered (lives_of size limit cs)
lives_are_ordered size limit cs = are_ordered 0 cs (answers cs (start size limit))
