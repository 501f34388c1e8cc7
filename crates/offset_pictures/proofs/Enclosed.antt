-- A picture is well-formed XML.
use Rattle.std.proofs.Common.{◌≡◌, ℕ, ◌/◌, ◌∙◌, Bool, true, false, cond, List, [], ◌∷◌, ◌++◌, Option}
use Rattle.std.proofs.Common.{Some, None, append-nil, append_assoc, ap, arith, codes, drop, length, map, nat_eq, nat_lt, refl, subst, sym}
use Rattle.std.proofs.lemmas.Bool.Decides.{nat_tests}
use Rattle.std.proofs.lemmas.Str.{scalars-chars}
use Rattle.std.specs.{Bool.MatchBool, Char.IsScalar, Prelude.IsUtf8, Prelude.chars, Prelude.encode_utf8, Prelude.flat_map, Prelude.take_while, Str.all_scalars}
use Rattle.offset_pictures.specs.declared.course.Course.{Course}
use Rattle.offset_pictures.specs.declared.living.Life.{Life}
use Rattle.offset_pictures.specs.declared.plots.Plot.{Plot}
use Rattle.offset_pictures.specs.declared.shapes.Shape.{Shape}
use Rattle.offset_pictures.specs.{Numerals.pixels_text, Levels.free_of, Levels.joined_of, Levels.most_of, Merging.AreMerged, Picture.IsBody, Picture.IsPictureOf, Picture.PicturesAreWellFormed}
use Rattle.offset_pictures.specs.{Picture.opening, Picture.style, Plots.bottom_of, Shapes.shape_of, Rectangles.ages_text, Rectangles.plain_of_age, Rectangles.titled_of_age, Titles.escape}
use Rattle.offset_pictures.specs.{Titles.escaped, Titles.heading_text, Titles.is_shown, Titles.quarters, Xml.IsContent, Xml.IsWellFormed, Xml.is_plain, Xml.IsContent.nothing}
use Rattle.offset_pictures.specs.Xml.IsContent.{characters, entity}
use Rattle.offset_pictures.proofs.{Formed.and_both, Formed.both, Formed.joins, Formed.words, Texts.same_text, Worded.legend_content, Worded.notes_content}
use Rattle.offset_pictures.proofs.Nested.{Attributes, InPieces, end, ◌⊙◌, none, one, Grows, ◌⊕◌, content, document, empty_tag, full_tag, in_pieces, literal, quoted}
use Rattle.offset_pictures.proofs.Tagged.{at, axes_content, line_content, plain_content, refusals_content, titled_content}

-- ---- the title

-- a character that is written as it is
as_it_is : (c : ℕ) → IsScalar c → nat_eq c 38 ≡ false → nat_eq c 60 ≡ false → nat_eq c 62 ≡ false → is_shown c ≡ true → is_plain c ≡ true
as_it_is c s a b d x = grind (arith, nat_tests)

one_character : (c : ℕ) → is_plain c ≡ true → IsContent (encode_utf8 c)
one_character c h = subst IsContent (append-nil (encode_utf8 c)) (characters (encode_utf8 c) [] (c ∷ [], and_both (is_plain c) true h refl, append-nil (encode_utf8 c)) nothing)

by_tests : (c : ℕ) (a b d e : Bool) → IsScalar c → nat_eq c 38 ≡ a → nat_eq c 60 ≡ b → nat_eq c 62 ≡ d → is_shown c ≡ e
    → IsContent (cond a (codes "&amp;") (cond b (codes "&lt;") (cond d (codes "&gt;") (cond e (encode_utf8 c) (codes " ")))))
by_tests c true b d e s x y z w = entity (codes "amp") [] (0, omega arith, refl) nothing
by_tests c false true d e s x y z w = entity (codes "lt") [] (1, omega arith, refl) nothing
by_tests c false false true e s x y z w = entity (codes "gt") [] (2, omega arith, refl) nothing
by_tests c false false false true s x y z w = one_character c (as_it_is c s x y z w)
by_tests c false false false false s x y z w = words (codes " ") refl

are_escaped : (cs : List ℕ) → all_scalars cs ≡ true → IsContent (flat_map escape cs)
are_escaped [] h = nothing
are_escaped (c ∷ cs) h =
    let x = both _ (all_scalars cs) h in
    joins (escape c) (flat_map escape cs) (by_tests c (nat_eq c 38) (nat_eq c 60) (nat_eq c 62) (is_shown c) x.0 refl refl refl refl) (are_escaped cs x.1)

title_content : (title : List ℕ) → IsUtf8 title → IsContent (escaped title)
title_content title h = are_escaped (chars title) (scalars-chars title h)

-- ---- the style

-- the style between its tags
abbrev css : List ℕ
css = take_while is_plain (drop (length (codes "<style>")) style)

is_style : Grows (λ rest. codes "<style>" ++ (css ++ (codes "</style>\n<rect class='back' width='1200' height='840'/>\n" ++ rest)))
is_style =
    full_tag (codes "style") refl none (literal css refl) ⊕ literal (codes "\n") refl
    ⊕ empty_tag (codes "rect") refl
    (one (codes "class") refl (quoted (codes "back") refl ⊙ end) (one (codes "width") refl (quoted (codes "1200") refl ⊙ end) (one (codes "height") refl (quoted (codes "840") refl ⊙ end) none)))
    ⊕ literal (codes "\n") refl

-- ---- the whole text

are_written : (b : Bool) (p : Plot) (ls : List Life) (calls : ℕ) (merged : Option ℕ) (text : List ℕ)
    → MatchBool b ((shapes : List Shape) × AreMerged p ls shapes × (merged ≡ Some (length shapes)) × (text ≡ ages_text (plain_of_age shapes)))
    ((merged ≡ None) × (text ≡ ages_text (titled_of_age calls (map (shape_of p) ls) ls)))
    → IsContent text
are_written true p ls calls merged text x = subst IsContent (sym x.3) (plain_content x.0)
are_written false p ls calls merged text x = subst IsContent (sym x.1) (titled_content calls (map (shape_of p) ls) ls)

body_content : (c : Course) (text : List ℕ) → IsBody c text → IsContent text
body_content c text x =
    let p = x.ranges in
    let q = x.reports in
    let base = bottom_of q in
    subst IsContent (sym x.is)
    (joins _ _ (joins _ _ (joins _ _ (joins _ _ (joins _ _ (joins _ _ (joins _ _ (legend_content x.figures c.max_allocs p.units.most)
    (line_content (codes "out") p p.units.start c.sizes.items (quoted (codes "out") refl))) (axes_content p 6 12))
    (are_written (nat_lt 20000 (length c.lives.items)) p c.lives.items x.figures.calls x.merged x.rectangles x.are_rectangles)) (refusals_content p c.reports.items c.refused.items))
    (joins _ _ (joins _ _ (line_content (codes "free") q base (map free_of c.reports.items) (quoted (codes "free") refl))
    (line_content (codes "joined") q base (map joined_of c.reports.items) (quoted (codes "joined") refl)))
    (line_content (codes "most") q base (map most_of c.reports.items) (quoted (codes "most") refl)))) (axes_content q 4 12)) (notes_content x.merged))

-- the attributes of the whole, and of the heading
abbrev svg : InPieces
svg =
    (codes "xmlns", codes "http://www.w3.org/2000/svg" ∷ []) ∷ (codes "width", codes "1200" ∷ []) ∷ (codes "height", codes "840" ∷ [])
    ∷ (codes "viewBox", codes "0 0 1200 840" ∷ []) ∷ (codes "role", codes "graphics-document document" ∷ []) ∷ []

are_svg : Attributes svg
are_svg =
    one (codes "xmlns") refl (quoted (codes "http://www.w3.org/2000/svg") refl ⊙ end) (one (codes "width") refl (quoted (codes "1200") refl ⊙ end)
    (one (codes "height") refl (quoted (codes "840") refl ⊙ end)
    (one (codes "viewBox") refl (quoted (codes "0 0 1200 840") refl ⊙ end) (one (codes "role") refl (quoted (codes "graphics-document document") refl ⊙ end) none))))

abbrev sized : Bool → ℕ → InPieces
sized true n = (codes "style", codes "font-size:" ∷ pixels_text n ∷ codes "px" ∷ []) ∷ []
sized false n = []

are_heading : (b : Bool) (n : ℕ) → Attributes ((codes "class", codes "big" ∷ []) ∷ (codes "x", codes "24" ∷ []) ∷ (codes "y", codes "28" ∷ []) ∷ sized b n)
are_heading true n =
    one (codes "class") refl (quoted (codes "big") refl ⊙ end) (one (codes "x") refl (quoted (codes "24") refl ⊙ end) (one (codes "y") refl (quoted (codes "28") refl ⊙ end)
    (one (codes "style") refl (quoted (codes "font-size:") refl ⊙ at n ⊙ quoted (codes "px") refl ⊙ end) none)))
are_heading false n = one (codes "class") refl (quoted (codes "big") refl ⊙ end) (one (codes "x") refl (quoted (codes "24") refl ⊙ end) (one (codes "y") refl (quoted (codes "28") refl ⊙ end) none))

three : (a b c rest : List ℕ) → (a ++ b ++ c) ++ rest ≡ a ++ (b ++ (c ++ rest))
three a b c rest = simp append_assoc

heading_content : (b : Bool) (n : ℕ) (t : List ℕ) → IsContent t
    → IsContent (codes "<text class='big' x='24' y='28'" ++ cond b (codes " style='font-size:" ++ pixels_text n ++ codes "px'") [] ++ codes ">" ++ t ++ codes "</text>\n")
heading_content true n t h =
    let rest : List ℕ = codes ">" ++ (t ++ codes "</text>\n") in
    in_pieces (codes "<text class='big' x='24' y='28'") ((codes " style='font-size:" ++ pixels_text n ++ codes "px'") ∷ codes ">" ∷ t ∷ codes "</text>\n" ∷ [])
    (full_tag (codes "text") refl (are_heading true n) (content h) ⊕ literal (codes "\n") refl)
    (ap (λ z. codes "<text class='big' x='24' y='28'" ++ z) (three (codes " style='font-size:") (pixels_text n) (codes "px'") rest))
heading_content false n t h =
    in_pieces (codes "<text class='big' x='24' y='28'") ([] ∷ codes ">" ∷ t ∷ codes "</text>\n" ∷ [])
    (full_tag (codes "text") refl (are_heading false n) (content h) ⊕ literal (codes "\n") refl)
    refl

is_well_formed : (title : List ℕ) (c : Course) (text : List ℕ) → IsUtf8 title → IsPictureOf title c text → IsWellFormed text
is_well_formed title c text u x =
    let t = title_content title u in
    let width : ℕ = quarters (chars title) in
    document (codes "svg") text refl are_svg
    (literal (codes "\n") refl ⊕ full_tag (codes "title") refl none (content t) ⊕ literal (codes "\n") refl ⊕ is_style
    ⊕ content (heading_content (nat_lt 256 width) (460800 / width) (escaped title) t) ⊕ content (body_content c x.body x.is_body))
    (x.is ∙ sym (same_text opening (escaped title ∷ codes "</title>\n" ∷ style ∷ heading_text title ∷ x.body ∷ codes "</svg>\n" ∷ [])))

pub xml_law : PicturesAreWellFormed
xml_law = is_well_formed
