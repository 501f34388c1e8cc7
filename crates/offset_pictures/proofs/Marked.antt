-- Each refused call has its mark.
use Rattle.std.proofs.Common.{◌≡◌, ℕ, Bool, true, false, cond, List, [], ◌∷◌, All, map, nat_eq, eqb-true, refl, sym, subst, arith}
use Rattle.std.proofs.lemmas.List.Elements.{All-cons, All-nil, All-weaker, Contains-append_left, Contains-append_right, Contains-push}
use Rattle.std.specs.Prelude.{Contains}
use Rattle.offset_pictures.specs.declared.refusing.Refused.{Refused}
use Rattle.offset_pictures.specs.{Numerals.counted_from_1, Axes.in_tenths, Axes.x_of, Axes.right_of, Marks.after_equal, Marks.EachRefusalIsMarked, Marks.IsMarked, Marks.marked_xs, Marks.one_of_each}

in_more : (n x : ℕ) (ms : List ℕ) → Contains ms x → Contains (n ∷ ms) x
in_more n x ms h = Contains-append_right (n ∷ []) ms x h

at_head : (n : ℕ) (ms : List ℕ) → Contains (n ∷ ms) n
at_head n ms = Contains-append_left (n ∷ []) ms n (Contains-push [] n)

kept_step : (n m x : ℕ) (ms : List ℕ) (b : Bool) → nat_eq n m ≡ b → Contains (m ∷ ms) x → Contains (n ∷ cond b ms (m ∷ ms)) x
kept_step n m x ms true e h = subst (λ t. Contains (t ∷ ms) x) (sym (eqb-true n m e)) h
kept_step n m x ms false e h = in_more n x (m ∷ ms) h

-- what is left out is equal to what is before it
kept_mark : (n x : ℕ) (ms : List ℕ) → Contains ms x → Contains (n ∷ after_equal n ms) x
kept_mark n x [] h = in_more n x [] h
kept_mark n x (m ∷ ms) h = kept_step n m x ms (nat_eq n m) refl h

each_has_one : {X : Type 0} (f : X → ℕ) (calls : List X) → All (λ call. Contains (one_of_each (map f calls)) (f call)) calls
each_has_one f [] = All-nil (λ call. Contains (one_of_each (map f [])) (f call))
each_has_one f (call ∷ calls) =
    let rest = one_of_each (map f calls) in
    let more : All (λ c. Contains (f call ∷ after_equal (f call) rest) (f c)) calls =
    All-weaker (λ c. Contains rest (f c)) (λ c. Contains (f call ∷ after_equal (f call) rest) (f c)) (λ c h. kept_mark (f call) (f c) rest h) calls (each_has_one f calls) in
    All-cons (λ c. Contains (f call ∷ after_equal (f call) rest) (f c)) call calls (at_head (f call) (after_equal (f call) rest)) more

near : (marks : List ℕ) (place : ℕ) → Contains marks (in_tenths place) → IsMarked marks place
near marks place h = (in_tenths place, h, omega arith, omega arith)

pub marks_law : EachRefusalIsMarked
marks_law calls refused =
    All-weaker (λ (r : Refused). Contains (marked_xs calls refused) (x_of calls (counted_from_1 r.call))) (λ r. IsMarked (marked_xs calls refused) (right_of calls (counted_from_1 r.call)))
    (λ r h. near (marked_xs calls refused) (right_of calls (counted_from_1 r.call)) h) refused (each_has_one (λ (r : Refused). x_of calls (counted_from_1 r.call)) refused)
