-- Tests: a conjunction, a double negation, and choices by a test; what is the same in two options.
pub use Rattle.std.proofs.lemmas.Option.{same_Some as same_some}
use Rattle.offset_script.proofs.Common.{◌≡◌, Bool, true, false, not, ◌&&◌, if◌then◌else◌, refl, true≢false, false≢true}

-- a second test counts only where the first holds
pub same_and : (x y z : Bool) → (x ≡ true → y ≡ z) → (x && y) ≡ (x && z)
same_and true y z h = h refl
same_and false y z h = refl

-- negations
pub not_not : (b : Bool) → not (not b) ≡ b
not_not true = refl
not_not false = refl

-- what relates the cases of equal tests
pub if_same : {A B : Type 0} (R : A → B → Type 0) (b c : Bool) (x : A) (x' : B) (y : A) (y' : B) → b ≡ c → (b ≡ true → R x x') → R y y'
    → R (if b then x else y) (if c then x' else y')
if_same R true true x x' y y' e f g = f refl
if_same R false false x x' y y' e f g = g
if_same R true false x x' y y' e f g = absurd (true≢false e)
if_same R false true x x' y y' e f g = absurd (false≢true e)
