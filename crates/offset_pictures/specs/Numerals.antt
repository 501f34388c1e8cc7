-- How a picture writes numbers.
use Rattle.std.specs.Prelude.{ℕ, ◌+◌, ◌*◌, ◌/◌, ◌%◌, List, [], ◌++◌, codes, max, min, nat_eq, nat_lt, if◌then◌else◌}
use Rattle.std.specs.Fmt.{decimal}

-- hundredths of a pixel, written in pixels: at most two decimals, the last of them not 0
abbrev pub pixels_text : ℕ → List ℕ
pixels_text n = decimal (n / 100) ++ (if nat_eq (n % 100) 0 then [] else codes "." ++ decimal (n / 10 % 10) ++ (if nat_eq (n % 10) 0 then [] else decimal (n % 10)))

-- the last three digits of a number
abbrev pub three_digits : ℕ → List ℕ
three_digits n = decimal (n / 100 % 10) ++ decimal (n / 10 % 10) ++ decimal (n % 10)

-- a number of 32 bits with its digits in groups of three
abbrev pub grouped_text : ℕ → List ℕ
grouped_text n =
    if nat_lt 0 (n / 1000000000) then decimal (n / 1000000000) ++ codes "," ++ three_digits (n / 1000000) ++ codes "," ++ three_digits (n / 1000) ++ codes "," ++ three_digits n
    else if nat_lt 0 (n / 1000000) then decimal (n / 1000000) ++ codes "," ++ three_digits (n / 1000) ++ codes "," ++ three_digits n
    else if nat_lt 0 (n / 1000) then decimal (n / 1000) ++ codes "," ++ three_digits n
    else decimal n

-- the number from 1 of the call with this number from 0
abbrev pub counted_from_1 : ℕ → ℕ
counted_from_1 call = min (call + 1) 18446744073709551615

-- the used share of a space in tenths of a percent, rounded down; a space of no units counts as one of one unit
abbrev pub share_of : ℕ → ℕ → ℕ
share_of used size = used * 1000 / max size 1

-- tenths of a percent, written in percent with one decimal
abbrev pub share_text : ℕ → List ℕ
share_text n = decimal (n / 10) ++ codes "." ++ decimal (n % 10)
