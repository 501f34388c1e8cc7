-- Pieces of XML.
use Rattle.std.proofs.Common.{◌≡◌, ℕ, zero, suc, ◌/◌, ◌%◌, ◌<◌, ◌∙◌, Bool, true, false, cond, ◌&&◌, ◌||◌, List}
use Rattle.std.proofs.Common.{[], ◌∷◌, ◌++◌, append_assoc, append-nil, nat_eq, nat_le, nat_lt, sym, ap₂, subst, arith, codes, refl}
use Rattle.std.proofs.lemmas.Bool.{true≢false}
use Rattle.std.proofs.lemmas.Bool.Decides.{nat_tests}
use Rattle.std.proofs.lemmas.Str.{encode_ascii, encodes-append}
use Rattle.std.specs.{Fmt.decimal, Fmt.digits, Fmt.digits_onto, Fmt.digit_glyph, List.list_all, Prelude.encode_utf8_all, Prelude.◌==◌}
use Rattle.offset_pictures.specs.{Numerals.pixels_text, Numerals.grouped_text, Numerals.three_digits, Numerals.share_text, Xml.IsContent, Xml.IsOf, Xml.is_plain, Xml.is_quoted}
use Rattle.offset_pictures.specs.Xml.IsContent.{nothing, characters, entity, empty, full}

-- ---- pieces in a row

pub joins : (a b : List ℕ) → IsContent a → IsContent b → IsContent (a ++ b)
joins a b nothing k = k
joins a b (characters text rest h j) k = subst IsContent (sym (append_assoc text rest b)) (characters text (rest ++ b) h (joins rest b j k))
joins a b (entity name rest h j) k = simp append_assoc (simp append_assoc at (entity name (rest ++ b) h (joins rest b j k)))
joins a b (empty name attributes rest n h j) k = simp append_assoc (simp append_assoc at (empty name attributes (rest ++ b) n h (joins rest b j k)))
joins a b (full name attributes inside rest n h i j) k = simp append_assoc (simp append_assoc at (full name attributes inside (rest ++ b) n h i (joins rest b j k)))

-- ---- texts of ASCII characters

abbrev pub is_ascii_of : (ℕ → Bool) → ℕ → Bool
is_ascii_of test c = nat_lt c 128 && test c

pub both : (a b : Bool) → (a && b) ≡ true → (a ≡ true) × (b ≡ true)
both true b e = (refl, e)
both false b e = absurd (true≢false (sym e))

pub and_both : (a b : Bool) → a ≡ true → b ≡ true → (a && b) ≡ true
and_both true b e f = f
and_both false b e f = absurd (true≢false (sym e))

ascii_list : (test : ℕ → Bool) (cs : List ℕ) → list_all (is_ascii_of test) cs ≡ true → (list_all test cs ≡ true) × (encode_utf8_all cs ≡ cs)
ascii_list test [] h = (refl, refl)
ascii_list test (c ∷ cs) h =
    let x = both (is_ascii_of test c) (list_all (is_ascii_of test) cs) h in
    let y = both (nat_lt c 128) (test c) x.0 in
    let rest = ascii_list test cs x.1 in
    let small : c < 128 = grind (arith, nat_tests) in
    (and_both (test c) (list_all test cs) y.1 rest.0, ap₂ (λ a b. a ++ b) (encode_ascii c small) rest.1)

pub of_ascii : (test : ℕ → Bool) (cs : List ℕ) → list_all (is_ascii_of test) cs ≡ true → IsOf test cs
of_ascii test cs h = let x = ascii_list test cs h in (cs, x.0, x.1)

list_all-append : (test : ℕ → Bool) (a b : List ℕ) → list_all test a ≡ true → list_all test b ≡ true → list_all test (a ++ b) ≡ true
list_all-append test [] b h k = k
list_all-append test (c ∷ a) b h k = let x = both (test c) (list_all test a) h in and_both (test c) (list_all test (a ++ b)) x.0 (list_all-append test a b x.1 k)

pub both_of : (test : ℕ → Bool) (a b : List ℕ) → IsOf test a → IsOf test b → IsOf test (a ++ b)
both_of test a b x y = (x.0 ++ y.0, list_all-append test x.0 y.0 x.1 y.1, encodes-append x.0 y.0 ∙ ap₂ (λ s t. s ++ t) x.2 y.2)

-- ---- numbers: digits, points and commas

abbrev pub is_numeric : ℕ → Bool
is_numeric c = (nat_le 48 c && nat_le c 57) || nat_eq c 46 || nat_eq c 44

abbrev pub IsNumeric : List ℕ → Type 0
IsNumeric cs = list_all is_numeric cs ≡ true

glyph : (n : ℕ) → is_numeric (digit_glyph false (n % 10)) ≡ true
glyph n = let small : n % 10 < 10 = omega arith in grind (arith, nat_tests)

numeric_more : (c : ℕ) (cs : List ℕ) → is_numeric c ≡ true → IsNumeric cs → IsNumeric (c ∷ cs)
numeric_more c cs h k = and_both (is_numeric c) (list_all is_numeric cs) h k

either_numeric : (b : Bool) (xs ys : List ℕ) → IsNumeric xs → IsNumeric ys → IsNumeric (cond b xs ys)
either_numeric true xs ys h k = h
either_numeric false xs ys h k = k

digits_numeric : (k n : ℕ) (acc : List ℕ) → IsNumeric acc → IsNumeric (digits_onto k 10 false n acc)
digits_numeric zero n acc h = h
digits_numeric (suc k) n acc h =
    let d = digit_glyph false (n % 10) in
    let more : IsNumeric (d ∷ acc) = numeric_more d acc (glyph n) h in
    either_numeric (n / 10 == 0) (d ∷ acc) (digits_onto k 10 false (n / 10) (d ∷ acc)) more (digits_numeric k (n / 10) (d ∷ acc) more)

pub decimal_numeric : (n : ℕ) → IsNumeric (decimal n)
unfolding digits
decimal_numeric n = digits_numeric 64 n [] refl

numeric-append : (a b : List ℕ) → IsNumeric a → IsNumeric b → IsNumeric (a ++ b)
numeric-append a b h k = list_all-append is_numeric a b h k

three_numeric : (n : ℕ) → IsNumeric (three_digits n)
three_numeric n =
    let hundreds = decimal (n / 100 % 10) in
    let tens = decimal (n / 10 % 10) in
    numeric-append (hundreds ++ tens) (decimal (n % 10)) (numeric-append hundreds tens (decimal_numeric _) (decimal_numeric _)) (decimal_numeric _)

-- a group of three digits more
three_more : (s : List ℕ) (n : ℕ) → IsNumeric s → IsNumeric (s ++ codes "," ++ three_digits n)
three_more s n h = numeric-append (s ++ codes ",") (three_digits n) (numeric-append s (codes ",") h refl) (three_numeric n)

pub grouped_numeric : (n : ℕ) → IsNumeric (grouped_text n)
grouped_numeric n =
    let one = decimal (n / 1000) in
    let two = decimal (n / 1000000) ++ codes "," ++ three_digits (n / 1000) in
    let three = decimal (n / 1000000000) ++ codes "," ++ three_digits (n / 1000000) in
    either_numeric (nat_lt 0 (n / 1000000000)) _ _
    (three_more (three ++ codes "," ++ three_digits (n / 1000)) n (three_more three (n / 1000) (three_more (decimal (n / 1000000000)) (n / 1000000) (decimal_numeric _))))
    (either_numeric (nat_lt 0 (n / 1000000)) _ _ (three_more two n (three_more (decimal (n / 1000000)) (n / 1000) (decimal_numeric _)))
    (either_numeric (nat_lt 0 (n / 1000)) _ _ (three_more one n (decimal_numeric _)) (decimal_numeric n)))

pub pixels_numeric : (n : ℕ) → IsNumeric (pixels_text n)
pixels_numeric n =
    numeric-append (decimal (n / 100)) _ (decimal_numeric _)
    (either_numeric (nat_eq (n % 100) 0) [] _ refl
    (numeric-append (codes "." ++ decimal (n / 10 % 10)) _ (numeric-append (codes ".") (decimal (n / 10 % 10)) refl (decimal_numeric _))
    (either_numeric (nat_eq (n % 10) 0) [] (decimal (n % 10)) refl (decimal_numeric _))))

pub share_numeric : (n : ℕ) → IsNumeric (share_text n)
share_numeric n = numeric-append (decimal (n / 10) ++ codes ".") (decimal (n % 10)) (numeric-append (decimal (n / 10)) (codes ".") (decimal_numeric _) refl) (decimal_numeric _)

-- characters of numbers stand for themselves, in text and in values
one_quoted : (c : ℕ) → is_numeric c ≡ true → is_ascii_of is_quoted c ≡ true
one_quoted c h = grind (arith, nat_tests)

one_plain : (c : ℕ) → is_numeric c ≡ true → is_ascii_of is_plain c ≡ true
one_plain c h = grind (arith, nat_tests)

all_pass : (p q : ℕ → Bool) → ((c : ℕ) → p c ≡ true → q c ≡ true) → (cs : List ℕ) → list_all p cs ≡ true → list_all q cs ≡ true
all_pass p q f [] h = refl
all_pass p q f (c ∷ cs) h = let x = both (p c) (list_all p cs) h in and_both (q c) (list_all q cs) (f c x.0) (all_pass p q f cs x.1)

pub number_quoted : (cs : List ℕ) → IsNumeric cs → IsOf is_quoted cs
number_quoted cs h = of_ascii is_quoted cs (all_pass is_numeric (is_ascii_of is_quoted) one_quoted cs h)

pub number_plain : (cs : List ℕ) → IsNumeric cs → IsOf is_plain cs
number_plain cs h = of_ascii is_plain cs (all_pass is_numeric (is_ascii_of is_plain) one_plain cs h)

-- ---- content

pub words : (cs : List ℕ) → list_all (is_ascii_of is_plain) cs ≡ true → IsContent cs
words cs h = subst IsContent (append-nil cs) (characters cs [] (of_ascii is_plain cs h) nothing)

pub number_words : (cs : List ℕ) → IsNumeric cs → IsContent cs
number_words cs h = subst IsContent (append-nil cs) (characters cs [] (number_plain cs h) nothing)
