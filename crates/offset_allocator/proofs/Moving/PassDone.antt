-- A pass of compactions within budgets leaves what a compaction by whole steps leaves, but for the names of free blocks.
use Rattle.offset_allocator.proofs.Common.{◌≡◌, ◌≢◌, ℕ, zero, suc, ◌+◌, ◌-◌, ◌*◌, ◌/◌, ◌%◌, ◌≤◌, ◌⊎◌, Bool, true, false, not, ◌&&◌, nat_le, Some, None, List, [], ◌∷◌, ◌++◌, refl, sym, ap, ap₂, subst, ◌∙◌, inl, inr, arith, if◌then◌else◌}
use Rattle.offset_allocator.proofs.Common.{append-nil, append_assoc, le-leb, Block, View, free_block, free_part, count_named, units, first_or, IsWellFormed}
use Rattle.std.proofs.lemmas.List.{map-append}
use Rattle.std.proofs.Math.Nat.{mod-le, mod-eq_of_lt, mod-add-div', add-mul-mod_self_right}
use Rattle.offset_allocator.proofs.Moving.{DecidedBudget.same_named, DecidedSteps.steps_run, Budgeted.none_left, Passes.at, Passes.begins, Passes.left_is}
use Rattle.offset_allocator.proofs.Moving.Stepping.{given_free, given_used, stepped_free, stepped_used}
use Rattle.offset_allocator.specs.Moving.BySteps.{kept, stepped, given_up, run_by, CompactsBy}
use Rattle.offset_allocator.specs.Moving.Budget.{first_from, start_of}
use Rattle.offset_allocator.specs.Moving.Passes.{IsPass, nothing, ends, goes_on, nameless}
use Rattle.offset_allocator.specs.Relations.{SameState}
use Rattle.offset_allocator.specs.declared.moves.over_frames.Progress.{Progress}

nameless-append : (xs ys : List Block) → nameless (xs ++ ys) ≡ nameless xs ++ nameless ys
nameless-append xs ys = map-append (λ (b : Block). if b.used then b else free_block 0 b.size) xs ys

nameless_part : (x y n : ℕ) → nameless (free_part x n) ≡ nameless (free_part y n)
nameless_part x y zero = refl
nameless_part x y (suc n) = refl

-- where a run has slid, and the blocks behind it slide then, all is as if they had slid together
module _ (s : ℕ) (some : 1 ≤ s) (ys : List Block) (more : ys ≢ []) where
  none_kept : 0 % s ≡ 0
  none_kept = mod-eq_of_lt some

  steps_off : (n g : ℕ) → ((n - n % s) + g) % s ≡ g % s
  steps_off n g = let whole : (n - n % s) + g ≡ g + n / s * s = omega (arith, mod-add-div' n s, mod-le n s) in ap (λ m. m % s) whole ∙ add-mul-mod_self_right g (n / s) s

  keeps : (n : ℕ) → kept s n ys ≡ n % s
  keeps n = go ys refl
    where
      go : (l : List Block) → ys ≡ l → kept s n l ≡ n % s
      go [] e = absurd (more e)
      go (c ∷ cs) e = refl

  -- what is left of a run, and what its hole keeps then
  abbrev after : ℕ → List Block → List Block
  after z run = nameless (stepped s run) ++ (nameless (free_part z (given_up s run % s)) ++ nameless (stepped s ys))

  joined : (z : ℕ) (run : List Block) → nameless (stepped s (run ++ ys)) ≡ after z run
  joined z [] = sym (ap (λ n. nameless (free_part z n) ++ nameless (stepped s ys)) none_kept)
  joined z (b ∷ []) = go b.used refl
    where
      go : (u : Bool) → b.used ≡ u → nameless (stepped s (b ∷ ys)) ≡ after z (b ∷ [])
      go true u = ap nameless (stepped_used s b ys u) ∙ nameless-append (b ∷ []) (stepped s ys)
          ∙ sym (ap₂ (λ l n. nameless l ++ (nameless (free_part z n) ++ nameless (stepped s ys))) (stepped_used s b [] u) (ap (λ m. m % s) (given_used s b [] u) ∙ none_kept))
      go false u =
          let all : given_up s (b ∷ []) ≡ b.size = omega (arith, given_free s b [] u) in
          ap nameless (stepped_free s b ys u) ∙ nameless-append (free_part b.name (kept s b.size ys)) (stepped s ys)
          ∙ ap (λ l. l ++ nameless (stepped s ys)) (ap (λ n. nameless (free_part b.name n)) (keeps b.size) ∙ nameless_part b.name z (b.size % s))
          ∙ sym (ap₂ (λ l n. nameless l ++ (nameless (free_part z (n % s)) ++ nameless (stepped s ys))) (stepped_free s b [] u) all)
  joined z (b ∷ c ∷ cs) = go b.used refl (joined z (c ∷ cs))
    where
      go : (u : Bool) → b.used ≡ u → nameless (stepped s ((c ∷ cs) ++ ys)) ≡ after z (c ∷ cs) → nameless (stepped s (b ∷ ((c ∷ cs) ++ ys))) ≡ after z (b ∷ c ∷ cs)
      go true u ih = ap nameless (stepped_used s b ((c ∷ cs) ++ ys) u) ∙ nameless-append (b ∷ []) (stepped s ((c ∷ cs) ++ ys)) ∙ ap (λ l. nameless (b ∷ []) ++ l) ih
          ∙ sym (ap₂ (λ l n. nameless l ++ (nameless (free_part z (n % s)) ++ nameless (stepped s ys))) (stepped_used s b (c ∷ cs) u) (given_used s b (c ∷ cs) u)
          ∙ ap (λ l. l ++ (nameless (free_part z (given_up s (c ∷ cs) % s)) ++ nameless (stepped s ys))) (nameless-append (b ∷ []) (stepped s (c ∷ cs))))
      go false u ih = ap nameless (stepped_free s b ((c ∷ cs) ++ ys) u) ∙ nameless-append (free_part b.name (b.size % s)) (stepped s ((c ∷ cs) ++ ys)) ∙ ap (λ l. nameless (free_part b.name (b.size % s)) ++ l) ih
          ∙ sym (append_assoc (nameless (free_part b.name (b.size % s))) (nameless (stepped s (c ∷ cs))) (nameless (free_part z (given_up s (c ∷ cs) % s)) ++ nameless (stepped s ys)))
          ∙ sym (ap₂ (λ l n. nameless l ++ (nameless (free_part z n) ++ nameless (stepped s ys))) (stepped_free s b (c ∷ cs) u) (ap (λ m. m % s) (given_free s b (c ∷ cs) u) ∙ steps_off b.size (given_up s (c ∷ cs)))
          ∙ ap (λ l. l ++ (nameless (free_part z (given_up s (c ∷ cs) % s)) ++ nameless (stepped s ys))) (nameless-append (free_part b.name (b.size % s)) (stepped s (c ∷ cs))))

  given_both : (run : List Block) → given_up s (run ++ ys) ≡ (given_up s run - given_up s run % s) + given_up s ys
  given_both [] = omega (arith, none_kept)
  given_both (b ∷ []) = go b.used refl
    where
      go : (u : Bool) → b.used ≡ u → given_up s (b ∷ ys) ≡ (given_up s (b ∷ []) - given_up s (b ∷ []) % s) + given_up s ys
      go true u = let none : given_up s (b ∷ []) ≡ 0 = given_used s b [] u in omega (arith, given_used s b ys u, none)
      go false u =
          let all : given_up s (b ∷ []) ≡ b.size = omega (arith, given_free s b [] u) in
          given_free s b ys u ∙ ap (λ k. (b.size - k) + given_up s ys) (keeps b.size) ∙ sym (ap (λ n. (n - n % s) + given_up s ys) all)
  given_both (b ∷ c ∷ cs) = go b.used refl (given_both (c ∷ cs))
    where
      go : (u : Bool) → b.used ≡ u → given_up s ((c ∷ cs) ++ ys) ≡ (given_up s (c ∷ cs) - given_up s (c ∷ cs) % s) + given_up s ys
          → given_up s (b ∷ ((c ∷ cs) ++ ys)) ≡ (given_up s (b ∷ c ∷ cs) - given_up s (b ∷ c ∷ cs) % s) + given_up s ys
      go true u ih = given_used s b ((c ∷ cs) ++ ys) u ∙ ih ∙ sym (ap (λ n. (n - n % s) + given_up s ys) (given_used s b (c ∷ cs) u))
      go false u ih =
          let own = given_free s b (c ∷ cs) u in
          omega (arith, given_free s b ((c ∷ cs) ++ ys) u, ih, own, ap (λ m. m % s) own ∙ steps_off b.size (given_up s (c ∷ cs)), mod-le (given_up s (c ∷ cs)) s, mod-le b.size s)

-- all blocks from a free one on have slid
abbrev pub slid_all : ℕ → List Block → List Block → List Block
slid_all s front run = nameless (front ++ (stepped s run ++ free_block 0 (given_up s run) ∷ []))

-- the blocks behind a hole, and then with it
slid_on : (s : ℕ) → 1 ≤ s → (front run ys : List Block) (z : ℕ) → ys ≢ [] → slid_all s (front ++ stepped s run) (free_block z (given_up s run) ∷ ys) ≡ slid_all s front (run ++ ys)
slid_on s some front run ys z more =
    let g = given_up s run in
    let hole : Block = free_block z g in
    let part : stepped s (hole ∷ ys) ≡ free_part z (g % s) ++ stepped s ys = ap (λ n. free_part z n ++ stepped s ys) (keeps s some ys more g) in
    let sum : given_up s (hole ∷ ys) ≡ given_up s (run ++ ys) = ap (λ n. (g - n) + given_up s ys) (keeps s some ys more g) ∙ sym (given_both s some ys more run) in
    let all : nameless (stepped s run) ++ nameless (stepped s (hole ∷ ys)) ≡ nameless (stepped s (run ++ ys)) =
    ap (λ l. nameless (stepped s run) ++ l) (ap nameless part ∙ nameless-append (free_part z (g % s)) (stepped s ys)) ∙ sym (joined s some ys more z run) in
    let split : (fs l : List Block) (n : ℕ) → nameless (fs ++ (l ++ free_block 0 n ∷ [])) ≡ nameless fs ++ (nameless l ++ free_block 0 n ∷ []) =
    λ fs l n. nameless-append fs (l ++ free_block 0 n ∷ []) ∙ ap (λ k. nameless fs ++ k) (nameless-append l (free_block 0 n ∷ [])) in
    split (front ++ stepped s run) (stepped s (hole ∷ ys)) (given_up s (hole ∷ ys))
    ∙ ap₂ (λ l n. l ++ (nameless (stepped s (hole ∷ ys)) ++ free_block 0 n ∷ [])) (nameless-append front (stepped s run)) sum
    ∙ append_assoc (nameless front) (nameless (stepped s run)) (nameless (stepped s (hole ∷ ys)) ++ free_block 0 (given_up s (run ++ ys)) ∷ [])
    ∙ ap (λ l. nameless front ++ l) (sym (append_assoc (nameless (stepped s run)) (nameless (stepped s (hole ∷ ys))) (free_block 0 (given_up s (run ++ ys)) ∷ [])) ∙ ap (λ l. l ++ free_block 0 (given_up s (run ++ ys)) ∷ []) all)
    ∙ sym (split front (stepped s (run ++ ys)) (given_up s (run ++ ys)))

-- what a slide of a run leaves, whatever the name of its hole
slid_run : (s : ℕ) (front run : List Block) (x : ℕ) → nameless (front ++ (stepped s run ++ free_block x (given_up s run) ∷ [])) ≡ slid_all s front run
slid_run s front run x =
    nameless-append front (stepped s run ++ free_block x (given_up s run) ∷ []) ∙ ap (λ k. nameless front ++ k) (nameless-append (stepped s run) (free_block x (given_up s run) ∷ []) ∙ sym (nameless-append (stepped s run) (free_block 0 (given_up s run) ∷ [])))
    ∙ sym (nameless-append front (stepped s run ++ free_block 0 (given_up s run) ∷ []))

-- what a pass leaves
pub record IsLeft (s from : ℕ) (v x : View) : Type 0 where
  pub front : List Block
  pub first : Block
  pub rest : List Block
  pub is : v.blocks ≡ front ++ first ∷ rest
  pub begins : first_from s from 0 v.blocks ≡ Some first.name
  pub left : nameless x.blocks ≡ slid_all s front (first ∷ rest)

none_behind : (o : ℕ) (bs : List Block) → start_of o bs ≡ None → bs ≡ []
none_behind o [] e = refl
none_behind o (b ∷ bs) e = absurd (cc)

pub pass_leaves : (s : ℕ) → 1 ≤ s → {from : ℕ} {v x : View} → IsWellFormed v → IsPass s from v x → ((first_from s from 0 v.blocks ≡ None) × SameState v x) ⊎ IsLeft s from v x
pass_leaves s some known (nothing e same) = inl (e, same)
pass_leaves s some {from} {v} {x} known (ends k e) =
    let back : k.back ≡ [] = none_behind (units (k.front ++ k.first ∷ k.rest)) k.back (sym (ap (λ (q : Progress). q.next) k.progress) ∙ e) in
    let run : List Block = k.first ∷ k.rest in
    inr (record {
      front = k.front;
      first = k.first;
      rest = k.rest;
      is = k.reached.is ∙ ap (λ l. k.front ++ (run ++ l)) back ∙ ap (λ l. k.front ++ l) (append-nil run);
      begins = k.reached.begins;
      left = ap (λ (u : View). nameless u.blocks) k.view ∙ ap (λ l. nameless (k.front ++ ((stepped s run ++ free_block k.name (given_up s run) ∷ []) ++ l))) back
          ∙ ap (λ l. nameless (k.front ++ l)) (append-nil (stepped s run ++ free_block k.name (given_up s run) ∷ [])) ∙ slid_run s k.front run k.name;
    })
pass_leaves s some {from} {v} {x} known (goes_on {u = u} {r = r} {o = o} {w = w} {p = p} k e well rest) = go (pass_leaves s some well rest)
  where
    run : List Block
    run = k.first ∷ k.rest

    found : first_from s o 0 w.blocks ≡ Some k.name
    found = begins s from u r some v w known well p o k e

    go : ((first_from s o 0 w.blocks ≡ None) × SameState w x) ⊎ IsLeft s o w x → ((first_from s from 0 v.blocks ≡ None) × SameState v x) ⊎ IsLeft s from v x
    go (inl n) = let q = sym found ∙ n.0 in absurd (cc)
    go (inr l) =
        let is = left_is s from u r some v w known well p o k e in
        let name : k.name ≡ l.first.name = let h : Some k.name ≡ Some l.first.name = sym found ∙ l.begins in cc in
        let same = same_named (k.front ++ stepped s run) l.front (free_block k.name (given_up s run)) l.first k.back l.rest (sym is ∙ l.is) (λ y. subst (λ (bs : List Block). count_named y bs ≤ 1) is (well.distinct y)) name in
        inr (record {
          front = k.front;
          first = k.first;
          rest = k.rest ++ k.back;
          is = k.reached.is;
          begins = k.reached.begins;
          left = l.left ∙ sym (ap₂ (λ fs bs. slid_all s fs bs) same.0 (ap₂ (λ (b : Block) bs. b ∷ bs) same.1 same.2))
              ∙ slid_on s some k.front run k.back k.name (at s from u r some v w known well p o k e).0;
        })

-- from the start of the space on it begins as `compact_by` does
pub from_start : (s o : ℕ) (bs : List Block) → first_from s 0 o bs ≡ first_or None (run_by s bs)
from_start s o [] = refl
from_start s o (b ∷ []) = refl
from_start s o (b ∷ c ∷ bs) =
    ap (λ (t : Bool). if not b.used && (nat_le s b.size && t) then Some b.name else first_from s 0 (o + b.size) (c ∷ bs)) (le-leb 0 (o + b.size) (omega arith))
    ∙ go (not b.used) (nat_le s b.size) (from_start s (o + b.size) (c ∷ bs))
  where
    go : (t u : Bool) → first_from s 0 (o + b.size) (c ∷ bs) ≡ first_or None (run_by s (c ∷ bs))
        → (if t && (u && true) then Some b.name else first_from s 0 (o + b.size) (c ∷ bs)) ≡ first_or None (if t && u then b ∷ c ∷ bs else run_by s (c ∷ bs))
    go true true ih = refl
    go true false ih = ih
    go false u ih = ih

pub pass_compacts : (s : ℕ) → 1 ≤ s → (v w x : View) → IsWellFormed v → IsPass s 0 v w → CompactsBy s v x true → nameless w.blocks ≡ nameless x.blocks
pass_compacts s some v w x known pass by = go (pass_leaves s some known pass) by
  where
    same : (a b : View) → SameState a b → b.blocks ≡ a.blocks
    same a b e = ap (λ (u : View). u.blocks) e

    go : ((first_from s 0 0 v.blocks ≡ None) × SameState v w) ⊎ IsLeft s 0 v w → CompactsBy s v x true → nameless w.blocks ≡ nameless x.blocks
    go (inl n) (inl e) = ap nameless (same v w n.1 ∙ sym (same v x e.1))
    go (inl n) (inr e) =
        let h = e.1 in
        let none : run_by s v.blocks ≡ [] = none_left (run_by s v.blocks) (sym (from_start s 0 v.blocks) ∙ n.0) in
        let q : h.first ∷ h.rest ≡ [] = sym (steps_run h) ∙ none in
        absurd (cc)
    go (inr l) (inl e) = let q : Some l.first.name ≡ None = sym l.begins ∙ from_start s 0 v.blocks ∙ ap (first_or None) e.0 in absurd (cc)
    go (inr l) (inr e) =
        let h = e.1 in
        let run = steps_run h in
        let name : l.first.name ≡ h.first.name = let q : Some l.first.name ≡ Some h.first.name = sym l.begins ∙ from_start s 0 v.blocks ∙ ap (first_or None) run in cc in
        let at = same_named l.front h.front l.first h.first l.rest h.rest (sym l.is ∙ h.is) (λ y. subst (λ (bs : List Block). count_named y bs ≤ 1) l.is (known.distinct y)) name in
        l.left ∙ ap₂ (λ fs bs. slid_all s fs bs) at.0 (ap₂ (λ (b : Block) bs. b ∷ bs) at.1 at.2)
        ∙ sym (ap (λ (u : View). nameless u.blocks) h.view ∙ ap (λ k. nameless (h.front ++ k)) (append-nil (stepped s (h.first ∷ h.rest) ++ free_block h.name (given_up s (h.first ∷ h.rest)) ∷ []))
        ∙ slid_run s h.front (h.first ∷ h.rest) h.name)
