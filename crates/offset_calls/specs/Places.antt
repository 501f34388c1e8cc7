-- Where live blocks begin, and where whole steps could take them.
use Rattle.std.specs.Prelude.{◌≡◌, ℕ, ◌+◌, ◌%◌, ◌≤◌, List, [], ◌∷◌, if◌then◌else◌}
use Rattle.offset_script.specs.Machine.{Block, is_free}

-- where the live ones of blocks begin that begin at o, in their order
abbrev pub starts : ℕ → List Block → List ℕ
starts o [] = []
starts o (b ∷ bs) = if is_free b.tag then starts (o + b.size) bs else o ∷ starts (o + b.size) bs

-- places for live blocks that begin at these offsets, in their order, from `from` on: none begins before the one before it ends,
-- and each lies whole steps of n from where the block is
abbrev pub ArePlaces : ℕ → ℕ → List Block → List ℕ → List ℕ → Type 0
ArePlaces n from [] [] [] = Unit {0}
ArePlaces n from (b ∷ bs) (o ∷ os) (p ∷ ps) = (from ≤ p) × (p % n ≡ o % n) × ArePlaces n (p + b.size) bs os ps
ArePlaces n from bs os ps = ⊥

-- none of these begins later than the other at its place
abbrev pub NoneIsLater : List ℕ → List ℕ → Type 0
NoneIsLater [] [] = Unit {0}
NoneIsLater (p ∷ ps) (q ∷ qs) = (p ≤ q) × NoneIsLater ps qs
NoneIsLater ps qs = ⊥
