-- Attributes, tags and elements of XML.
use Rattle.std.proofs.Common.{◌≡◌, ◌≢◌, ℕ, ◌∙◌, Bool, true, ◌&&◌, not, List, [], ◌∷◌, ◌++◌, All, append_assoc, append-nil, length, nat_lt, sym, ap, subst, arith, codes, refl}
use Rattle.std.proofs.lemmas.Bool.{true≢false}
use Rattle.std.proofs.lemmas.Bool.Decides.{nat_tests}
use Rattle.std.proofs.lemmas.List.Elements.{All-cons, All-nil}
use Rattle.std.proofs.lemmas.List.Kept.{AllPairs-cons}
use Rattle.std.proofs.lemmas.Slice.Eq.{bytes_eq-Decides}
use Rattle.std.specs.{List.list_all, Prelude.bytes_eq, Prelude.flat_map}
use Rattle.offset_pictures.proofs.Texts.{in_a_row, joined_up, same_text}
use Rattle.offset_pictures.specs.Xml.{AreAttributes, IsContent, IsName, IsOf, IsWellFormed, attribute_text, empty_element, full_element, is_letter, is_plain, is_quoted}
use Rattle.offset_pictures.specs.Xml.IsContent.{nothing, empty, full}
use Rattle.offset_pictures.proofs.Formed.{IsNumeric, both, both_of, is_ascii_of, joins, number_quoted, of_ascii, words}

-- ---- names and attributes

pub a_name : (cs : List ℕ) → (nat_lt 0 (length cs) && list_all (is_ascii_of is_letter) cs) ≡ true → IsName cs
a_name cs h = let x = both (nat_lt 0 (length cs)) (list_all (is_ascii_of is_letter) cs) h in (grind (arith, nat_tests), of_ascii is_letter cs x.1)

-- whether no attribute has this name
abbrev pub is_new : List ℕ → List (List ℕ × List ℕ) → Bool
is_new name attributes = list_all (λ b. not (bytes_eq name b.0)) attributes

itself : (cs : List ℕ) → bytes_eq cs cs ≡ true
itself cs = (bytes_eq-Decides cs cs).1 refl

others : (name : List ℕ) (attributes : List (List ℕ × List ℕ)) → is_new name attributes ≡ true → All (λ b. name ≢ b.0) attributes
others name [] h = All-nil (λ b. name ≢ b.0)
others name (b ∷ bs) h =
    let x = both (not (bytes_eq name b.0)) (is_new name bs) h in
    All-cons (λ c. name ≢ c.0) b bs (λ e. absurd (true≢false (sym x.0 ∙ ap (λ n. not (bytes_eq name n)) (sym e) ∙ ap not (itself name)))) (others name bs x.1)

no_attributes : AreAttributes []
no_attributes = (All-nil (λ a. IsName a.0 × IsOf is_quoted a.1), λ i j d l m. absurd (omega arith))

one_more : (name value : List ℕ) (attributes : List (List ℕ × List ℕ)) → IsName name → is_new name attributes ≡ true → IsOf is_quoted value → AreAttributes attributes
    → AreAttributes ((name, value) ∷ attributes)
one_more name value attributes n new v more =
    (All-cons (λ a. IsName a.0 × IsOf is_quoted a.1) (name, value) attributes (n, v) more.0, AllPairs-cons (λ a b. a.0 ≢ b.0) (name, value) attributes (others name attributes new) more.1)

-- ---- values, in pieces

-- a text that stands between apostrophes
pub record IsQuoted (value : List ℕ) : Type 0 where
  pub is_of : IsOf is_quoted value

pub quoted : (cs : List ℕ) → list_all (is_ascii_of is_quoted) cs ≡ true → IsQuoted cs
quoted cs h = record { is_of = of_ascii is_quoted cs h }

pub number_in_value : (cs : List ℕ) → IsNumeric cs → IsQuoted cs
number_in_value cs h = record { is_of = number_quoted cs h }

infixl 70 ◌⊛◌
pub ◌⊛◌ : {a b : List ℕ} → IsQuoted a → IsQuoted b → IsQuoted (a ++ b)
◌⊛◌ {a} {b} x y = record { is_of = both_of is_quoted a b x.is_of y.is_of }

-- pieces before a text
abbrev pub onto : List (List ℕ) → List ℕ → List ℕ
onto [] rest = rest
onto (p ∷ ps) rest = p ++ onto ps rest

onto_all : (ps : List (List ℕ)) (rest : List ℕ) → onto ps [] ++ rest ≡ onto ps rest
onto_all [] rest = refl
onto_all (p ∷ ps) rest = append_assoc p (onto ps []) rest ∙ ap (λ t. p ++ t) (onto_all ps rest)

infixr 60 ◌⊙◌
-- the pieces of a value
pub data Pieces : List (List ℕ) → Type 0 where
  end : Pieces []
  ◌⊙◌ : {p : List ℕ} {ps : List (List ℕ)} → IsQuoted p → Pieces ps → Pieces (p ∷ ps)

all_quoted : (ps : List (List ℕ)) → Pieces ps → IsOf is_quoted (onto ps [])
all_quoted ps end = of_ascii is_quoted [] refl
all_quoted ps (◌⊙◌ {p = q} {ps = qs} x y) = both_of is_quoted q (onto qs []) x.is_of (all_quoted qs y)

-- ---- attributes, whose values are in pieces

abbrev pub InPieces : Type 0
InPieces = List (List ℕ × List (List ℕ))

abbrev pub whole : InPieces → List (List ℕ × List ℕ)
whole [] = []
whole (a ∷ more) = (a.0, onto a.1 []) ∷ whole more

abbrev pub attributes_onto : InPieces → List ℕ → List ℕ
attributes_onto [] rest = rest
attributes_onto (a ∷ more) rest = codes " " ++ (a.0 ++ (codes "='" ++ onto a.1 (codes "'" ++ attributes_onto more rest)))

five : (a b c d e rest : List ℕ) → (a ++ b ++ c ++ d ++ e) ++ rest ≡ a ++ (b ++ (c ++ (d ++ (e ++ rest))))
five a b c d e rest = simp append_assoc

attributes_all : (parts : InPieces) (rest : List ℕ) → flat_map attribute_text (whole parts) ++ rest ≡ attributes_onto parts rest
attributes_all [] rest = refl
attributes_all (a ∷ more) rest =
    append_assoc (attribute_text (a.0, onto a.1 [])) (flat_map attribute_text (whole more)) rest
    ∙ five (codes " ") a.0 (codes "='") (onto a.1 []) (codes "'") (flat_map attribute_text (whole more) ++ rest)
    ∙ ap (λ t. codes " " ++ (a.0 ++ (codes "='" ++ t))) (onto_all a.1 (codes "'" ++ (flat_map attribute_text (whole more) ++ rest)))
    ∙ ap (λ t. codes " " ++ (a.0 ++ (codes "='" ++ onto a.1 (codes "'" ++ t)))) (attributes_all more rest)

abbrev is_good : List ℕ → Bool
is_good name = nat_lt 0 (length name) && list_all (is_ascii_of is_letter) name

pub data Attributes : InPieces → Type 0 where
  none : Attributes []
  one : (name : List ℕ) {ps : List (List ℕ)} {more : InPieces} → (is_good name && is_new name (whole more)) ≡ true → Pieces ps → Attributes more → Attributes ((name, ps) ∷ more)

pub are_attributes : (parts : InPieces) → Attributes parts → AreAttributes (whole parts)
are_attributes parts none = no_attributes
are_attributes parts (one name {ps = ps} {more = more} h q rest) =
    let x = both (is_good name) (is_new name (whole more)) h in one_more name (onto ps []) (whole more) (a_name name x.0) x.1 (all_quoted ps q) (are_attributes more rest)

-- ---- content, put before a text

-- this function puts content before a text
pub record Grows (put : List ℕ → List ℕ) : Type 0 where
  pub text : List ℕ
  pub is_content : IsContent text
  pub is : (rest : List ℕ) → put rest ≡ text ++ rest

pub content : {a : List ℕ} → IsContent a → Grows (λ rest. a ++ rest)
content {a} h = record { text = a; is_content = h; is = λ rest. refl }

infixr 50 ◌⊕◌
pub ◌⊕◌ : {f g : List ℕ → List ℕ} → Grows f → Grows g → Grows (λ rest. f (g rest))
◌⊕◌ {f} {g} x y = record {
  text = x.text ++ y.text;
  is_content = joins x.text y.text x.is_content y.is_content;
  is = λ rest. x.is (g rest) ∙ ap (λ t. x.text ++ t) (y.is rest) ∙ sym (append_assoc x.text y.text rest);
}

empty_shape : (lt name more gt rest : List ℕ) → (lt ++ name ++ more ++ gt) ++ rest ≡ lt ++ (name ++ (more ++ (gt ++ rest)))
empty_shape lt name more gt rest = simp append_assoc

pub empty_tag : (name : List ℕ) {parts : InPieces} → is_good name ≡ true → Attributes parts → Grows (λ rest. codes "<" ++ (name ++ attributes_onto parts (codes "/>" ++ rest)))
empty_tag name {parts} h x = record {
  text = empty_element name (whole parts);
  is_content = subst IsContent (append-nil (empty_element name (whole parts))) (empty name (whole parts) [] (a_name name h) (are_attributes parts x) nothing);
  is = λ rest. sym (empty_shape (codes "<") name (flat_map attribute_text (whole parts)) (codes "/>") rest ∙ ap (λ t. codes "<" ++ (name ++ t)) (attributes_all parts (codes "/>" ++ rest)));
}

full_shape : (lt name more gt inside lts rest : List ℕ)
    → (lt ++ name ++ more ++ gt ++ inside ++ lts ++ name ++ gt) ++ rest ≡ lt ++ (name ++ (more ++ (gt ++ (inside ++ (lts ++ (name ++ (gt ++ rest)))))))
full_shape lt name more gt inside lts rest = simp append_assoc

full_all : (name : List ℕ) (parts : InPieces) (f : List ℕ → List ℕ) (y : Grows f) (rest : List ℕ)
    → codes "<" ++ (name ++ attributes_onto parts (codes ">" ++ f (codes "</" ++ (name ++ (codes ">" ++ rest))))) ≡ full_element name (whole parts) y.text ++ rest
full_all name parts f y rest =
    sym (full_shape (codes "<") name (flat_map attribute_text (whole parts)) (codes ">") y.text (codes "</") rest
    ∙ ap (λ t. codes "<" ++ (name ++ t)) (attributes_all parts (codes ">" ++ (y.text ++ (codes "</" ++ (name ++ (codes ">" ++ rest))))))
    ∙ ap (λ t. codes "<" ++ (name ++ attributes_onto parts (codes ">" ++ t))) (sym (y.is (codes "</" ++ (name ++ (codes ">" ++ rest))))))

pub full_tag : (name : List ℕ) {parts : InPieces} {f : List ℕ → List ℕ} → is_good name ≡ true → Attributes parts → Grows f
    → Grows (λ rest. codes "<" ++ (name ++ attributes_onto parts (codes ">" ++ f (codes "</" ++ (name ++ (codes ">" ++ rest))))))
full_tag name {parts} {f} h x y = record {
  text = full_element name (whole parts) y.text;
  is_content = subst IsContent (append-nil (full_element name (whole parts) y.text)) (full name (whole parts) y.text [] (a_name name h) (are_attributes parts x) y.is_content nothing);
  is = full_all name parts f y;
}

-- one element and a line end are a whole text
pub document : (name : List ℕ) {parts : InPieces} {f : List ℕ → List ℕ} (text : List ℕ) → is_good name ≡ true → Attributes parts → Grows f
    → text ≡ codes "<" ++ (name ++ attributes_onto parts (codes ">" ++ f (codes "</" ++ (name ++ (codes ">" ++ codes "\n"))))) → IsWellFormed text
document name {parts} {f} text h x y e = record {
  name = name;
  attributes = whole parts;
  inside = y.text;
  is_name = a_name name h;
  are_attributes = are_attributes parts x;
  is_content = y.is_content;
  is = e ∙ full_all name parts f y (codes "\n");
}

pub literal : (cs : List ℕ) → list_all (is_ascii_of is_plain) cs ≡ true → Grows (λ rest. cs ++ rest)
literal cs h = content (words cs h)

-- a text of these pieces, which are put before nothing
pub in_pieces : (p : List ℕ) (ps : List (List ℕ)) {f : List ℕ → List ℕ} → Grows f → in_a_row p ps ≡ f [] → IsContent (joined_up p ps)
in_pieces p ps x e = subst IsContent (sym (sym (same_text p ps) ∙ e ∙ x.is [] ∙ append-nil x.text)) x.is_content

pub each : {X : Type 0} (f : X → List ℕ) → ((x : X) → IsContent (f x)) → (xs : List X) → IsContent (flat_map f xs)
each f h [] = nothing
each f h (x ∷ xs) = joins (f x) (flat_map f xs) (h x) (each f h xs)
