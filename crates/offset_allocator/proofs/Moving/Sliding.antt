-- Blocks that slide to the front: which stay, and how they move.
use Rattle.offset_allocator.proofs.{Linking.Places.placed, Linking.Ends.ended}
use Rattle.offset_allocator.proofs.Common.{◌≡◌, ◌≢◌, ℕ, inl, inr, ◌+◌, Bool, true, false, Some, None, List, [], ◌∷◌, ◌++◌, if◌then◌else◌, sym, ap, subst, arith, append_assoc, FoldsTo, cases_eq}
use Rattle.offset_allocator.proofs.Common.{nat_tests, ChainCells, Block, HasPlace, IsSpace, blocks, last_or, first_free, live, moves, move_of}

-- a walk back from the last block
pub walked : {c : ChainCells} {last count x : ℕ} (h : IsSpace c last count) (front rest : List Block) → blocks c last ≡ front ++ rest → (e : last_or None front ≡ Some x)
    → HasPlace c c.reserved last count x (record { before = (ended front x e).front; block = (ended front x e).last; after = rest })
walked {x = x} h front rest is e = let f = ended front x e in placed (rw append_assoc at (rw f.is at (rw is at h))) f.name

pub first_used : (b : Block) (bs : List Block) → b.used ≡ true → first_free (b ∷ bs) ≡ first_free bs
first_used b bs e = ap (λ (u : Bool). if u then first_free bs else Some b.name) e

pub first_idle : (b : Block) (bs : List Block) → b.used ≡ false → first_free (b ∷ bs) ≡ Some b.name
first_idle b bs e = ap (λ (u : Bool). if u then first_free bs else Some b.name) e

-- the move of a block is one that goes to another offset
pub moved_one : (from to : ℕ) (b : Block) → from ≢ to → move_of from to b ≡ record { name = b.name; from = from; to = to; size = b.size } ∷ []
moved_one from to b ne = elim (cases_eq from to) [ inl e ↦ absurd (ne e) | inr e ↦ grind (arith, nat_tests) ]

pub live_used : (b : Block) (bs : List Block) → b.used ≡ true → live (b ∷ bs) ≡ b ∷ live bs
live_used b bs e = ap (λ (u : Bool). if u then b ∷ live bs else live bs) e

pub live_idle : (b : Block) (bs : List Block) → b.used ≡ false → live (b ∷ bs) ≡ live bs
live_idle b bs e = ap (λ (u : Bool). if u then b ∷ live bs else live bs) e

pub moves_used : (i j : ℕ) (b : Block) (bs : List Block) → b.used ≡ true → moves i j (b ∷ bs) ≡ move_of i j b ++ moves (i + b.size) (j + b.size) bs
moves_used i j b bs e = ap (λ (u : Bool). if u then move_of i j b ++ moves (i + b.size) (j + b.size) bs else moves (i + b.size) j bs) e

pub moves_idle : (i j : ℕ) (b : Block) (bs : List Block) → b.used ≡ false → moves i j (b ∷ bs) ≡ moves (i + b.size) j bs
moves_idle i j b bs e = ap (λ (u : Bool). if u then move_of i j b ++ moves (i + b.size) (j + b.size) bs else moves (i + b.size) j bs) e

pub folds_append : {P A : Type 0} (R : P → A → P → Type 0) (xs ys : List A) (p q r : P) → FoldsTo R p xs q → FoldsTo R q ys r → FoldsTo R p (xs ++ ys) r
folds_append R [] ys p q r e f = subst (λ s. FoldsTo R s ys r) (sym e) f
folds_append R (x ∷ xs) ys p q r e f = (e.0, e.1, folds_append R xs ys e.0 q r e.2 f)
