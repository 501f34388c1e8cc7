-- Text that is written byte by byte stays text.
use Rattle.std.proofs.Common.{◌≡◌, ℕ, ◌+◌, ◌<◌, ◌^◌, ◌∙◌, true, List, ◌∷◌, ◌++◌, drop, set, length, sym, ap, ap₂, take, arith, ◌≤◌}
use Rattle.std.proofs.lemmas.Fmt.{IsAscii-decimal, decimal_digit}
use Rattle.std.proofs.lemmas.List.{drop-set, drop_at, drop-drop, length-take-le}
use Rattle.std.proofs.lemmas.Str.{IsUtf8-append, IsUtf8-from_ascii, IsUtf8-from_is_utf8, is_utf8-from_IsUtf8}
use borrow.Rule.Slice.PartMut.{put_mid}
use Rattle.std.specs.{Fmt.decimal, Str.IsUtf8, Str.is_utf8}

-- text before text is text
pub text_before : (a b ab : List ℕ) → ab ≡ a ++ b → IsUtf8 a → is_utf8 b ≡ true → is_utf8 ab ≡ true
text_before a b ab e u v = ap is_utf8 e ∙ is_utf8-from_IsUtf8 (a ++ b) (IsUtf8-append a b u (IsUtf8-from_is_utf8 b v))

-- and so are the digits of a number before text
pub number_before : (n : ℕ) (b ab : List ℕ) → n < 2 ^ 64 → ab ≡ decimal n ++ b → is_utf8 b ≡ true → is_utf8 ab ≡ true
number_before n b ab small e v = text_before (decimal n) b ab e (IsUtf8-from_ascii (decimal n) (IsAscii-decimal n small)) v

-- a digit that was written before the byte i is the number that it is a digit of
pub digit_set : (n i j : ℕ) (room : List ℕ) → n < 10 → j ≡ i + 1 → i < length room → drop i (set room i (48 + n)) ≡ decimal n ++ drop j room
digit_set n i j room small e within = drop-set room i (48 + n) within ∙ ap (λ (k : ℕ). (48 + n) ∷ drop k room) (sym e) ∙ ap (λ (d : List ℕ). d ++ drop j room) (sym (decimal_digit n small))

-- a text that was written up to the byte `end` is before the bytes that were there
pub pasted : (start end k : ℕ) (room new text old : List ℕ) → new ≡ text → start + k ≡ end → end ≤ length room → drop end room ≡ old → drop start (put_mid start k room new) ≡ text ++ old
pasted start end k room new text old e at within rest =
    let first : start ≤ length room = omega arith in
    drop_at (take start room) (new ++ drop k (drop start room)) start (length-take-le start room first)
    ∙ ap₂ (λ (a b : List ℕ). a ++ b) e (drop-drop k start room ∙ ap (λ (n : ℕ). drop n room) at ∙ rest)
