use Rattle.std.proofs.Common.{◌≡◌, ℕ, ◌+◌, ◌≤◌, length, map, reverse, drop}
use Rattle.offset_script.specs.Machine.{answer_view}
use Rattle.offset_pictures.specs.{Ends.grants_in, Ends.end_in, Lives.life_view, Lives.end_from, Lives.lives_from}
use Rattle.offset_pictures.proofs.living.lives_of_answers.Given as goal

-- the lives that begin from call i on, and the call from there on that ends each grant
abbrev pub invariant-loop-i : goal.invariant-loop-i
invariant-loop-i l =
    let cs = l.commands in
    record {
      lives : map life_view (reverse l.lives.items) ≡ lives_from l.i (drop l.i cs) (drop l.i (map answer_view l.answers));
      len : grants_in l.ends ≡ length cs + 1;
      ends : (k : ℕ) → k ≤ length cs → end_in l.ends k ≡ end_from l.i (drop l.i cs) k;
    }
