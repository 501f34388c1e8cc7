-- The smallest round number that is large enough.
use Rattle.std.proofs.Common.{◌≡◌, ℕ, ◌+◌, ◌*◌, ◌<◌, ◌≤◌, ◌∙◌, List, length, get_or, drop, ap, if◌then◌else◌, le-leb}
use Rattle.std.proofs.lemmas.Bool.{lt-leb}
use Rattle.std.proofs.lemmas.List.{at_drop_more}
use Rattle.offset_pictures.specs.Scales.{first_step}

-- the number at a place is large enough
pub taken : (most count : ℕ) (steps : List ℕ) (i : ℕ) → i < length steps → most ≤ get_or steps i 0 * count → first_step most count (drop i steps) ≡ get_or steps i 0
taken most count steps i less h =
    at_drop_more (first_step most count) steps i 0 less
    ∙ ap (λ b. if b then get_or steps i 0 else first_step most count (drop (i + 1) steps)) (le-leb most (get_or steps i 0 * count) h)

-- the number at a place is too small
pub passed : (most count : ℕ) (steps : List ℕ) (i : ℕ) → i < length steps → get_or steps i 0 * count < most → first_step most count (drop i steps) ≡ first_step most count (drop (i + 1) steps)
passed most count steps i less h =
    at_drop_more (first_step most count) steps i 0 less
    ∙ ap (λ b. if b then get_or steps i 0 else first_step most count (drop (i + 1) steps)) (lt-leb most (get_or steps i 0 * count) h)
