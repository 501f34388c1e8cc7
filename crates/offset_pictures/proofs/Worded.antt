-- The legend and the whole picture are XML.
use Rattle.std.proofs.Common.{ℕ, ◌+◌, ◌*◌, cond, List, [], ◌∷◌, ◌++◌, Option, Some, None, codes, nat_eq, nat_lt, refl}
use Rattle.std.specs.Fmt.{decimal}
use Rattle.offset_pictures.specs.declared.figures.Figures.{Figures}
use Rattle.offset_pictures.specs.{Numerals.grouped_text, Numerals.pixels_text, Numerals.share_of, Numerals.share_text, Figures.counted, Xml.IsContent, Xml.IsContent.nothing}
use Rattle.offset_pictures.specs.Legend.{age_key, ages_key, colours_text, end_text, full_text, legend_text, merged_text, notes_text, plural, size_text, use_text, worst_text}
use Rattle.offset_pictures.proofs.Nested.{IsQuoted, end, ◌⊙◌, Attributes, none, one, Grows, ◌⊕◌, content, empty_tag, full_tag, in_pieces, literal, quoted, number_in_value}
use Rattle.offset_pictures.proofs.Formed.{decimal_numeric, grouped_numeric, joins, number_words, share_numeric, words}
use Rattle.offset_pictures.proofs.Tagged.{at, at_place, either_content, grouped, in_class, placed}

is_plural : (n : ℕ) → Grows (λ rest. plural n ++ rest)
is_plural n = content (either_content (nat_eq n 1) [] (codes "s") nothing (words (codes "s") refl))

-- ---- figures

-- the attributes of a line of figures
figures : {y : List ℕ} → IsQuoted y → Attributes ((codes "class", codes "figures" ∷ []) ∷ placed (codes "24") y)
figures q = in_class (quoted (codes "figures") refl) (quoted (codes "24") refl) q

-- the units at the largest, where the space was extended
abbrev extended : Figures → List ℕ
extended f = cond (nat_lt f.first_size f.largest_size) (codes ", extended to " ++ grouped_text f.largest_size) []

is_extended : (f : Figures) → IsContent (extended f)
is_extended f =
    let units = grouped_text f.largest_size in
    either_content (nat_lt f.first_size f.largest_size) (codes ", extended to " ++ units) []
    (joins (codes ", extended to ") units (words (codes ", extended to ") refl) (number_words units (grouped_numeric f.largest_size))) nothing

is_size : (f : Figures) (nodes : ℕ) → IsContent (size_text f nodes)
is_size f nodes =
    in_pieces (codes "<text class='figures' x='24' y='49'>")
    (grouped_text f.calls ∷ codes " call" ∷ plural f.calls ∷ codes " on a space of " ∷ grouped_text f.first_size ∷ codes " units" ∷ extended f ∷ codes ", with " ∷ grouped_text nodes
    ∷ codes " nodes</text>\n" ∷ [])
    (full_tag (codes "text") refl (figures (quoted (codes "49") refl))
    (grouped f.calls ⊕ literal (codes " call") refl ⊕ is_plural f.calls ⊕ literal (codes " on a space of ") refl ⊕ grouped f.first_size ⊕ literal (codes " units") refl
    ⊕ content (is_extended f) ⊕ literal (codes ", with ") refl ⊕ grouped nodes ⊕ literal (codes " nodes") refl)
    ⊕ literal (codes "\n") refl)
    refl

is_use : (f : Figures) → IsContent (use_text f)
is_use f =
    let share = share_of f.most_used f.size_then in
    in_pieces (codes "<text class='figures' x='24' y='69'>")
    (grouped_text f.grants ∷ codes " grant" ∷ plural f.grants ∷ codes ", " ∷ grouped_text f.refusals ∷ codes " refusal" ∷ plural f.refusals ∷ codes "; at most " ∷ grouped_text f.most_live
    ∷ codes " live at once. " ∷ codes "Most in use: " ∷ grouped_text f.most_used ∷ codes " of " ∷ grouped_text f.size_then ∷ codes " units, " ∷ share_text share ∷ codes " percent.</text>\n" ∷ [])
    (full_tag (codes "text") refl (figures (quoted (codes "69") refl))
    (grouped f.grants ⊕ literal (codes " grant") refl ⊕ is_plural f.grants ⊕ literal (codes ", ") refl ⊕ grouped f.refusals ⊕ literal (codes " refusal") refl ⊕ is_plural f.refusals
    ⊕ literal (codes "; at most ") refl ⊕ grouped f.most_live ⊕ literal (codes " live at once. ") refl ⊕ literal (codes "Most in use: ") refl ⊕ grouped f.most_used ⊕ literal (codes " of ") refl
    ⊕ grouped f.size_then ⊕ literal (codes " units, ") refl ⊕ content (number_words (share_text share) (share_numeric share)) ⊕ literal (codes " percent.") refl)
    ⊕ literal (codes "\n") refl)
    refl

is_worst : (f : Figures) → IsContent (worst_text f)
is_worst f =
    in_pieces (codes "<text class='figures' x='24' y='89'>Largest free region at the worst moment: ")
    (grouped_text f.worst_region ∷ codes " units, " ∷ codes "of " ∷ grouped_text f.worst_free ∷ codes " free, after " ∷ grouped_text f.worst ∷ codes " call" ∷ plural f.worst ∷ codes ".</text>\n" ∷ [])
    (full_tag (codes "text") refl (figures (quoted (codes "89") refl))
    (literal (codes "Largest free region at the worst moment: ") refl ⊕ grouped f.worst_region ⊕ literal (codes " units, ") refl ⊕ literal (codes "of ") refl ⊕ grouped f.worst_free
    ⊕ literal (codes " free, after ") refl ⊕ grouped f.worst ⊕ literal (codes " call") refl ⊕ is_plural f.worst ⊕ literal (codes ".") refl)
    ⊕ literal (codes "\n") refl)
    refl

-- ---- keys

-- a text at a place, one that ends there, and a path
text_at : {x y said : List ℕ} → IsQuoted x → IsQuoted y → IsContent said
    → Grows (λ rest. codes "<text x='" ++ (x ++ (codes "' y='" ++ (y ++ (codes "'>" ++ (said ++ (codes "</text>\n" ++ rest)))))))
text_at p q h = full_tag (codes "text") refl (at_place p q) (content h) ⊕ literal (codes "\n") refl

end_at : {x y said : List ℕ} → IsQuoted x → IsQuoted y → IsContent said
    → Grows (λ rest. codes "<text class='end' x='" ++ (x ++ (codes "' y='" ++ (y ++ (codes "'>" ++ (said ++ (codes "</text>\n" ++ rest)))))))
end_at p q h = full_tag (codes "text") refl (in_class (quoted (codes "end") refl) p q) (content h) ⊕ literal (codes "\n") refl

path_in : {class d : List ℕ} → IsQuoted class → IsQuoted d → Grows (λ rest. codes "<path class='" ++ (class ++ (codes "' d='" ++ (d ++ (codes "'/>" ++ rest)))))
path_in c p = empty_tag (codes "path") refl (one (codes "class") refl (c ⊙ end) (one (codes "d") refl (p ⊙ end) none))

is_age_key : (age : ℕ) (name : List ℕ) → IsContent name → IsContent (age_key age name)
is_age_key age name h =
    let left = 12000 + age * 11500 in
    in_pieces (codes "<path class='age")
    (decimal (age + 1) ∷ codes "' d='M" ∷ pixels_text left ∷ codes " 101h16v14h-16z'/>" ∷ codes "<text x='" ∷ pixels_text (left + 2200) ∷ codes "' y='113'>" ∷ name ∷ codes "</text>\n" ∷ [])
    (empty_tag (codes "path") refl
    (one (codes "class") refl (quoted (codes "age") refl ⊙ number_in_value (decimal (age + 1)) (decimal_numeric (age + 1)) ⊙ end)
    (one (codes "d") refl (quoted (codes "M") refl ⊙ at left ⊙ quoted (codes " 101h16v14h-16z") refl ⊙ end) none))
    ⊕ text_at (at (left + 2200)) (quoted (codes "113") refl) h)
    refl

are_ages : IsContent ages_key
are_ages =
    in_pieces (codes "<text class='end' x='112' y='113'>live for</text>\n")
    (age_key 0 (codes "to 10 calls") ∷ age_key 1 (codes "to 30") ∷ age_key 2 (codes "to 100") ∷ age_key 3 (codes "to 300") ∷ age_key 4 (codes "to 1,000") ∷ age_key 5 (codes "to 3,000")
    ∷ age_key 6 (codes "to 10,000") ∷ age_key 7 (codes "longer") ∷ codes "<path class='refusal' d='M1048 102v12'/>" ∷ codes "<text x='1062' y='113'>refusal</text>\n" ∷ [])
    (end_at (quoted (codes "112") refl) (quoted (codes "113") refl) (words (codes "live for") refl) ⊕ content (is_age_key 0 (codes "to 10 calls") (words (codes "to 10 calls") refl))
    ⊕ content (is_age_key 1 (codes "to 30") (words (codes "to 30") refl)) ⊕ content (is_age_key 2 (codes "to 100") (words (codes "to 100") refl))
    ⊕ content (is_age_key 3 (codes "to 300") (words (codes "to 300") refl)) ⊕ content (is_age_key 4 (codes "to 1,000") (words (codes "to 1,000") refl))
    ⊕ content (is_age_key 5 (codes "to 3,000") (words (codes "to 3,000") refl)) ⊕ content (is_age_key 6 (codes "to 10,000") (words (codes "to 10,000") refl))
    ⊕ content (is_age_key 7 (codes "longer") (words (codes "longer") refl)) ⊕ path_in (quoted (codes "refusal") refl) (quoted (codes "M1048 102v12") refl)
    ⊕ text_at (quoted (codes "1062") refl) (quoted (codes "113") refl) (words (codes "refusal") refl))
    refl

-- what is not in the space yet
abbrev beyond_key : List ℕ
beyond_key = codes "<path class='out' d='M120 127h16v14h-16z'/>" ++ codes "<text x='142' y='139'>not in the space yet</text>\n"

is_beyond : IsContent beyond_key
is_beyond =
    in_pieces (codes "<path class='out' d='M120 127h16v14h-16z'/>") (codes "<text x='142' y='139'>not in the space yet</text>\n" ∷ [])
    (path_in (quoted (codes "out") refl) (quoted (codes "M120 127h16v14h-16z") refl) ⊕ text_at (quoted (codes "142") refl) (quoted (codes "139") refl) (words (codes "not in the space yet") refl))
    refl

is_end : (f : Figures) (last : ℕ) → IsContent (end_text f last)
is_end f last =
    in_pieces (codes "<text class='end' x='112' y='139'>unit</text>\n")
    (cond (nat_lt f.first_size last) beyond_key [] ∷ codes "<text class='end' x='" ∷ pixels_text 117000 ∷ codes "' y='139'>the space ends at " ∷ grouped_text f.largest_size ∷ codes "</text>\n" ∷ [])
    (end_at (quoted (codes "112") refl) (quoted (codes "139") refl) (words (codes "unit") refl) ⊕ content (either_content (nat_lt f.first_size last) beyond_key [] is_beyond nothing)
    ⊕ full_tag (codes "text") refl (in_class (quoted (codes "end") refl) (at 117000) (quoted (codes "139") refl)) (literal (codes "the space ends at ") refl ⊕ grouped f.largest_size)
    ⊕ literal (codes "\n") refl)
    refl

is_full : (f : Figures) → IsContent (full_text f)
is_full f =
    either_content (nat_lt 0 f.full_states) _ []
    (in_pieces (codes "<text class='end' x='")
    (pixels_text 117000 ∷ codes "' y='" ∷ pixels_text 62000 ∷ codes "'>At the node limit, " ∷ grouped_text f.full_states ∷ codes " time" ∷ plural f.full_states ∷ codes ", "
    ∷ codes "0 units are reported as free.</text>\n" ∷ [])
    (full_tag (codes "text") refl (in_class (quoted (codes "end") refl) (at 117000) (at 62000))
    (literal (codes "At the node limit, ") refl ⊕ grouped f.full_states ⊕ literal (codes " time") refl ⊕ is_plural f.full_states ⊕ literal (codes ", ") refl
    ⊕ literal (codes "0 units are reported as free.") refl)
    ⊕ literal (codes "\n") refl)
    refl)
    nothing

-- a key of reports in this class, from a place on the left
report_key : {class left : List ℕ} (height : ℕ) → IsQuoted class → IsQuoted left
    → Grows (λ rest. codes "<path class='" ++ (class ++ (codes "' d='" ++ (left ++ (pixels_text height ++ (codes "h16v14h-16z'/>" ++ rest))))))
report_key height c p = empty_tag (codes "path") refl (one (codes "class") refl (c ⊙ end) (one (codes "d") refl (p ⊙ at height ⊙ quoted (codes "h16v14h-16z") refl ⊙ end) none))

are_colours : (f : Figures) → IsContent (colours_text f)
are_colours f =
    joins _ (full_text f)
    (in_pieces (codes "<path class='free' d='M120 ")
    (pixels_text 58500 ∷ codes "h16v14h-16z'/>" ∷ codes "<text x='142' y='" ∷ pixels_text 59800 ∷ codes "'>free units</text>\n" ∷ codes "<path class='joined' d='M235 " ∷ pixels_text 58500
    ∷ codes "h16v14h-16z'/>" ∷ codes "<text x='257' y='" ∷ pixels_text 59800 ∷ codes "'>largest free region, if they were one block "
    ∷ codes "(the gap to the free units: rounding to a size class)</text>\n" ∷ codes "<path class='most' d='M120 " ∷ pixels_text 60700 ∷ codes "h16v14h-16z'/>" ∷ codes "<text x='142' y='"
    ∷ pixels_text 62000 ∷ codes "'>largest free region (the gap to that of one block: fragmentation)</text>\n" ∷ [])
    (report_key 58500 (quoted (codes "free") refl) (quoted (codes "M120 ") refl) ⊕ text_at (quoted (codes "142") refl) (at 59800) (words (codes "free units") refl)
    ⊕ report_key 58500 (quoted (codes "joined") refl) (quoted (codes "M235 ") refl)
    ⊕ text_at (quoted (codes "257") refl) (at 59800) (words (codes "largest free region, if they were one block (the gap to the free units: rounding to a size class)") refl)
    ⊕ report_key 60700 (quoted (codes "most") refl) (quoted (codes "M120 ") refl)
    ⊕ text_at (quoted (codes "142") refl) (at 62000) (words (codes "largest free region (the gap to that of one block: fragmentation)") refl))
    refl)
    (is_full f)

pub legend_content : (f : Figures) (nodes last : ℕ) → IsContent (legend_text f nodes last)
legend_content f nodes last =
    joins _ _ (joins _ _ (joins _ _ (joins _ _ (joins _ _ (is_size f nodes) (is_use f)) (is_worst f)) are_ages) (is_end f last)) (are_colours f)

-- ---- notes

is_merged : (merged : Option ℕ) → IsContent (merged_text merged)
is_merged None = nothing
is_merged (Some count) =
    in_pieces (codes " No titles, and those below 0.1 pixels are merged into their neighbours: ") (grouped_text (counted count) ∷ codes " rectangles." ∷ [])
    (literal (codes " No titles, and those below 0.1 pixels are merged into their neighbours: ") refl ⊕ grouped (counted count) ⊕ literal (codes " rectangles.") refl) refl

pub notes_content : (merged : Option ℕ) → IsContent (notes_text merged)
notes_content merged =
    in_pieces (codes "<text x='24' y='828'>Ranges thinner than 0.3 pixels are drawn 0.3 pixels thick.") (merged_text merged ∷ codes "</text>\n" ∷ [])
    (full_tag (codes "text") refl (at_place (quoted (codes "24") refl) (quoted (codes "828") refl))
    (literal (codes "Ranges thinner than 0.3 pixels are drawn 0.3 pixels thick.") refl ⊕ content (is_merged merged)) ⊕ literal (codes "\n") refl)
    refl
