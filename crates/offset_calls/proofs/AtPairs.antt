-- A request for the units from an offset on, at two states that differ only in numbers and stamps.
use Rattle.offset_calls.proofs.Common.{◌≡◌, ℕ, ◌+◌, ◌-◌, not, ◌&&◌, List, [], ◌∷◌, Option, None, nat_le, refl, ap, ◌∙◌, State, is_free, total, is_short_of}
use Rattle.std.specs.Prelude.{max, min}
use Rattle.offset_script.proofs.Pairs.{Pair, left_tag, right_tag, left, right, lefts, rights, IsSamePlace, neither, both, same_free, same_total}
use Rattle.offset_script.proofs.Tests.{if_same}
use Rattle.offset_script.specs.Machine as machine
use Rattle.offset_calls.specs.AtOffset.{later, last_place, can_take}

-- the last free block that begins at an offset or before is that of the same pair
same_later : (offset o : ℕ) (q : Pair) (ps : List Pair) (x y : Option machine.Place) → IsSamePlace (λ q. Unit {0}) ps x y
    → IsSamePlace (λ q. Unit {0}) (q ∷ ps) (later (is_free (left_tag q.kind) && nat_le o offset) (left q) (lefts ps) x) (later (is_free (right_tag q.kind) && nat_le o offset) (right q) (rights ps) y)
same_later offset o q ps None None neither =
    if_same (IsSamePlace (λ q. Unit {0}) (q ∷ ps)) _ _ _ _ _ _ (ap (λ b. b && nat_le o offset) (same_free q.kind)) (λ e. both [] q ps refl tt) neither
same_later offset o q ps x y (both xs z ys e f) = both (q ∷ xs) z ys (ap (λ l. q ∷ l) e) f

pub same_last_place : (offset o : ℕ) (ps : List Pair) → IsSamePlace (λ q. Unit {0}) ps (last_place offset o (lefts ps)) (last_place offset o (rights ps))
same_last_place offset o [] = neither
same_last_place offset o (q ∷ ps) = same_later offset o q ps _ _ (same_last_place offset (o + q.size) ps)

-- and it can be taken on both sides, or on none
pub same_can_take : (offset n : ℕ) (s t : State) → ((k : ℕ) → is_short_of k s ≡ is_short_of k t) → (xs : List Pair) (q : Pair) (ys : List Pair)
    → can_take offset n s (record { before = lefts xs; block = left q; after = lefts ys }) ≡ can_take offset n t (record { before = rights xs; block = right q; after = rights ys })
same_can_take offset n s t short xs q ys =
    ap (λ m. nat_le (offset + n) (m + q.size) && not (is_short_of (max 1 (min 1 (offset - m) + min 1 (m + q.size - (offset + n)))) s)) (same_total xs)
    ∙ ap (λ b. nat_le (offset + n) (total (rights xs) + q.size) && not b) (short (max 1 (min 1 (offset - total (rights xs)) + min 1 (total (rights xs) + q.size - (offset + n)))))
