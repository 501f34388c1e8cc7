-- The title of a picture: its accessible name, its heading, and how large that is.
use Rattle.std.specs.Prelude.{ℕ, ◌/◌, Bool, ◌&&◌, not, List, [], ◌++◌, codes, chars, encode_utf8, flat_map, min, sum_by, nat_eq, nat_le, nat_lt, if◌then◌else◌}
use Rattle.offset_pictures.specs.Numerals.{pixels_text}

-- whether a character is shown: it is no character below the space, and neither U+FFFE nor U+FFFF, which XML 1.0 forbids
abbrev pub is_shown : ℕ → Bool
is_shown c = nat_le 32 c && not (nat_eq c 65534) && not (nat_eq c 65535)

-- a character in XML: `&`, `<` and `>` by name, and a space in place of any that is not shown
abbrev pub escape : ℕ → List ℕ
escape c = if nat_eq c 38 then codes "&amp;" else if nat_eq c 60 then codes "&lt;" else if nat_eq c 62 then codes "&gt;" else if is_shown c then encode_utf8 c else codes " "

-- the characters of a text in XML
abbrev pub escaped : List ℕ → List ℕ
escaped text = flat_map escape (chars text)

-- how wide characters are at most, in quarters of their height: letters of alphabets have three, others up to five
abbrev pub width_of : ℕ → ℕ
width_of c = if nat_lt c 4352 then 3 else 5

abbrev pub quarters : List ℕ → ℕ
quarters cs = min (sum_by width_of cs) 18446744073709551615

-- the size of a heading of this width, where it is not 18 pixels: so that it fits 1152 pixels
abbrev pub size_of : ℕ → List ℕ
size_of width = if nat_lt 256 width then codes " style='font-size:" ++ pixels_text (460800 / width) ++ codes "px'" else []

-- the title as the heading that is shown: its opening tag, and the whole of it
abbrev pub heading_tag : List ℕ → List ℕ
heading_tag title = codes "<text class='big' x='24' y='28'" ++ size_of (quarters (chars title)) ++ codes ">"

abbrev pub heading_text : List ℕ → List ℕ
heading_text title = heading_tag title ++ escaped title ++ codes "</text>\n"
