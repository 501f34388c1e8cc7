-- What well-formed XML is, as far as pictures have it. A text is the bytes of its characters in UTF-8.
use Rattle.std.specs.Prelude.{◌≡◌, ◌≢◌, ℕ, ◌<◌, Bool, ◌&&◌, ◌||◌, not, List, [], ◌∷◌, ◌++◌, All, AllPairs, Contains, IsTrue, codes, encode_utf8_all, flat_map, length, nat_eq, nat_le}
use Rattle.std.specs.List.{list_all}

-- a tab, a line end, a carriage return, or a character from the space on: no surrogate, and neither U+FFFE nor U+FFFF
abbrev pub is_xml : ℕ → Bool
is_xml c =
    nat_eq c 9 || nat_eq c 10 || nat_eq c 13 || (nat_le 32 c && nat_le c 55295) || (nat_le 57344 c && nat_le c 65533) || (nat_le 65536 c && nat_le c 1114111)

-- a character that stands for itself: in text no `&`, `<` or `>`, and in a value no `&`, `<` or apostrophe
abbrev pub is_plain : ℕ → Bool
is_plain c = is_xml c && not (nat_eq c 38) && not (nat_eq c 60) && not (nat_eq c 62)

abbrev pub is_quoted : ℕ → Bool
is_quoted c = is_xml c && not (nat_eq c 38) && not (nat_eq c 60) && not (nat_eq c 39)

-- a letter from `A` to `Z` or from `a` to `z`
abbrev pub is_letter : ℕ → Bool
is_letter c = (nat_le 65 c && nat_le c 90) || (nat_le 97 c && nat_le c 122)

-- a text whose characters all pass a test
abbrev pub IsOf : (ℕ → Bool) → List ℕ → Type 0
IsOf test text = (cs : List ℕ) × IsTrue (list_all test cs) × (encode_utf8_all cs ≡ text)

-- one letter or more
abbrev pub IsName : List ℕ → Type 0
IsName name = (0 < length name) × IsOf is_letter name

-- an attribute: a name, and a value between apostrophes
abbrev pub attribute_text : List ℕ × List ℕ → List ℕ
attribute_text a = codes " " ++ a.0 ++ codes "='" ++ a.1 ++ codes "'"

-- the attributes of an element: no two have one name
abbrev pub AreAttributes : List (List ℕ × List ℕ) → Type 0
AreAttributes attributes = All (λ a. IsName a.0 × IsOf is_quoted a.1) attributes × AllPairs (λ a b. a.0 ≢ b.0) attributes

-- an element that holds nothing, and one between a start tag and an end tag of the same name
abbrev pub empty_element : List ℕ → List (List ℕ × List ℕ) → List ℕ
empty_element name attributes = codes "<" ++ name ++ flat_map attribute_text attributes ++ codes "/>"

abbrev pub full_element : List ℕ → List (List ℕ × List ℕ) → List ℕ → List ℕ
full_element name attributes inside = codes "<" ++ name ++ flat_map attribute_text attributes ++ codes ">" ++ inside ++ codes "</" ++ name ++ codes ">"

-- the names that XML has for characters
abbrev pub entities : List (List ℕ)
entities = codes "amp" ∷ codes "lt" ∷ codes "gt" ∷ codes "apos" ∷ codes "quot" ∷ []

-- what stands in an element: characters, entities and elements in a row
pub data IsContent : List ℕ → Type 0 where
  nothing : IsContent []
  characters : (text rest : List ℕ) → IsOf is_plain text → IsContent rest → IsContent (text ++ rest)
  entity : (name rest : List ℕ) → Contains entities name → IsContent rest → IsContent (codes "&" ++ name ++ codes ";" ++ rest)
  empty : (name : List ℕ) (attributes : List (List ℕ × List ℕ)) (rest : List ℕ) → IsName name → AreAttributes attributes → IsContent rest
      → IsContent (empty_element name attributes ++ rest)
  full : (name : List ℕ) (attributes : List (List ℕ × List ℕ)) (inside rest : List ℕ) → IsName name → AreAttributes attributes → IsContent inside → IsContent rest
      → IsContent (full_element name attributes inside ++ rest)

-- one element, and a line end
pub record IsWellFormed (text : List ℕ) : Type 0 where
  pub name : List ℕ
  pub attributes : List (List ℕ × List ℕ)
  pub inside : List ℕ
  pub is_name : IsName name
  pub are_attributes : AreAttributes attributes
  pub is_content : IsContent inside
  pub is : text ≡ full_element name attributes inside ++ codes "\n"
