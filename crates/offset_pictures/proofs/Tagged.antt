-- The pieces of a picture are pieces of XML.
use Rattle.std.proofs.Common.{ℕ, ◌+◌, ◌-◌, Bool, true, false, cond, ◌&&◌, List, [], ◌∷◌, ◌++◌, append-nil, length, nat_eq, nat_le, nat_lt, sym, ap, codes, refl}
use Rattle.std.specs.{Fmt.decimal, Prelude.flat_map}
use Rattle.offset_pictures.specs.declared.axes.Axis.{Axis}
use Rattle.offset_pictures.specs.declared.living.Life.{Life}
use Rattle.offset_allocator.specs.declared.reports.Refusal.{Refusal}
use Rattle.offset_allocator.specs.declared.reports.Refusal.TheVariants as refusal
use Rattle.offset_allocator.specs.declared.reports.StorageReport.{StorageReport}
use Rattle.offset_allocator.specs.{Classes.value, Classes.up, Requests.refusal_words}
use Rattle.offset_pictures.specs.declared.plots.Plot.{Plot}
use Rattle.offset_pictures.specs.declared.reasons.Spot.{Spot}
use Rattle.offset_pictures.specs.declared.refusing.Asked.{Asked}
use Rattle.offset_pictures.specs.declared.refusing.Asked.TheVariants as asked
use Rattle.offset_pictures.specs.declared.refusing.Reason.{Reason}
use Rattle.offset_pictures.specs.declared.refusing.Reason.TheVariants as reason
use Rattle.offset_pictures.specs.declared.refusing.Refused.{Refused}
use Rattle.offset_pictures.specs.declared.rectangles.Frame.{Frame}
use Rattle.offset_pictures.specs.declared.shapes.Shape.{Shape}
use Rattle.offset_pictures.specs.declared.step_lines.Column.{Column}
use Rattle.offset_pictures.specs.declared.step_lines.Group.{Group}
use Rattle.offset_pictures.specs.{Axes.y_of, Axes.right_of, Axes.up_of, Scales.round_step, Numerals.counted_from_1, Numerals.grouped_text, Numerals.pixels_text, Marks.mark_text, Marks.marked_xs}
use Rattle.offset_pictures.specs.{Marks.marks_text, Marks.refusals_text, Ticks.axes_text, Ticks.calls_text, Ticks.calls_tick, Ticks.multiples_to, Ticks.units_tick, Xml.IsContent}
use Rattle.offset_pictures.specs.Xml.IsContent.{nothing}
use Rattle.offset_pictures.specs.StepLines.{column_of, column_text, groups_from, groups_text, line_text, steps_text}
use Rattle.offset_pictures.specs.Rectangles.{age_text, ages_text, falling_below, frame_of, plain_of_age, plain_text, title_text, titled_of_age, titled_text}
use Rattle.offset_pictures.specs.Reasons.{asked_text, more_text, reason_text, reasons_text, report_after, report_text, rounded_text, said_text, spot_text, spots_of}
use Rattle.offset_pictures.proofs.Texts.{in_a_row, joined_up, same_text}
use Rattle.offset_pictures.proofs.Nested.{Attributes, Grows, InPieces, IsQuoted, content, each, empty_tag, end, full_tag, in_pieces, literal, none, number_in_value, one, quoted, ◌⊕◌, ◌⊙◌, ◌⊛◌}
use Rattle.offset_pictures.proofs.Formed.{decimal_numeric, grouped_numeric, joins, number_words, pixels_numeric, words}

-- a number of pixels in a value, and numbers in text
pub at : (n : ℕ) → IsQuoted (pixels_text n)
at n = number_in_value (pixels_text n) (pixels_numeric n)

pub grouped : (n : ℕ) → Grows (λ rest. grouped_text n ++ rest)
grouped n = content (number_words (grouped_text n) (grouped_numeric n))

number : (n : ℕ) → Grows (λ rest. decimal n ++ rest)
number n = content (number_words (decimal n) (decimal_numeric n))

-- ---- texts at a place

abbrev pub placed : List ℕ → List ℕ → InPieces
placed x y = (codes "x", x ∷ []) ∷ (codes "y", y ∷ []) ∷ []

pub at_place : {x y : List ℕ} → IsQuoted x → IsQuoted y → Attributes (placed x y)
at_place p q = one (codes "x") refl (p ⊙ end) (one (codes "y") refl (q ⊙ end) none)

pub in_class : {class x y : List ℕ} → IsQuoted class → IsQuoted x → IsQuoted y → Attributes ((codes "class", class ∷ []) ∷ placed x y)
in_class c p q = one (codes "class") refl (c ⊙ end) (at_place p q)

-- ---- ticks

is_units_tick : (p : Plot) (units : ℕ) → IsContent (units_tick p units)
is_units_tick p units =
    let x = p.calls.start - 800 in
    let y = up_of p.units units in
    let right = p.calls.start + p.calls.span in
    in_pieces (codes "<path class='grid' d='M")
    (pixels_text p.calls.start ∷ codes " " ∷ pixels_text y ∷ codes "H" ∷ pixels_text right ∷ codes "'/>" ∷ codes "<text class='end' x='" ∷ pixels_text x
    ∷ codes "' y='" ∷ pixels_text (y + 500) ∷ codes "'>"
    ∷ grouped_text units ∷ codes "</text>\n" ∷ [])
    (empty_tag (codes "path") refl
    (one (codes "class") refl (quoted (codes "grid") refl ⊙ end)
    (one (codes "d") refl (quoted (codes "M") refl ⊙ at p.calls.start ⊙ quoted (codes " ") refl ⊙ at y ⊙ quoted (codes "H") refl ⊙ at right ⊙ end) none))
    ⊕ full_tag (codes "text") refl (in_class (quoted (codes "end") refl) (at x) (at (y + 500))) (grouped units) ⊕ literal (codes "\n") refl)
    refl

is_calls_tick : (p : Plot) (calls : ℕ) → IsContent (calls_tick p calls)
is_calls_tick p calls =
    let x = right_of p.calls calls in
    let bottom = p.units.start + p.units.span in
    in_pieces (codes "<path class='tick' d='M")
    (pixels_text x ∷ codes " " ∷ pixels_text bottom ∷ codes "v10'/>" ∷ codes "<text class='middle' x='" ∷ pixels_text x
    ∷ codes "' y='" ∷ pixels_text (bottom + 2600) ∷ codes "'>" ∷ grouped_text calls ∷ codes "</text>\n" ∷ [])
    (empty_tag (codes "path") refl
    (one (codes "class") refl (quoted (codes "tick") refl ⊙ end) (one (codes "d") refl (quoted (codes "M") refl ⊙ at x ⊙ quoted (codes " ") refl ⊙ at bottom ⊙ quoted (codes "v10") refl ⊙ end) none))
    ⊕ full_tag (codes "text") refl (in_class (quoted (codes "middle") refl) (at x) (at (bottom + 2600))) (grouped calls) ⊕ literal (codes "\n") refl)
    refl

are_calls : (p : Plot) (marks : ℕ) → IsContent (calls_text p marks)
are_calls p marks =
    let x = p.calls.start - 800 in
    let y = p.units.start + p.units.span + 2600 in
    let calls = multiples_to (round_step p.calls.most marks) (p.calls.most - 1) in
    in_pieces (flat_map (calls_tick p) calls) (codes "<text class='end' x='" ∷ pixels_text x ∷ codes "' y='" ∷ pixels_text y ∷ codes "'>call</text>\n" ∷ [])
    (content (each (calls_tick p) (is_calls_tick p) calls)
    ⊕ full_tag (codes "text") refl (in_class (quoted (codes "end") refl) (at x) (at y)) (literal (codes "call") refl) ⊕ literal (codes "\n") refl)
    refl

pub axes_content : (p : Plot) (lines marks : ℕ) → IsContent (axes_text p lines marks)
axes_content p lines marks = joins _ _ (each (units_tick p) (is_units_tick p) (multiples_to (round_step p.units.most lines) p.units.most)) (are_calls p marks)

-- ---- lines of steps, and marks

either_quoted : (b : Bool) (x y : List ℕ) → IsQuoted x → IsQuoted y → IsQuoted (cond b x y)
either_quoted true x y h k = h
either_quoted false x y h k = k

no_steps : IsQuoted []
no_steps = quoted [] refl

upright : (b : Bool) (n : ℕ) → IsQuoted (cond b [] (codes "V" ++ pixels_text n))
upright b n = either_quoted b [] (codes "V" ++ pixels_text n) no_steps (quoted (codes "V") refl ⊛ at n)

is_column : (c : Column) (pen : ℕ) → IsQuoted (column_text c pen)
is_column c pen =
    either_quoted (nat_eq c.top pen && nat_eq c.bottom pen) [] _ no_steps
    (quoted (codes "H") refl ⊛ at c.left ⊛ upright (nat_eq c.top c.last) c.top ⊛ upright (nat_eq c.bottom c.last) c.bottom ⊛ quoted (codes "V") refl ⊛ at c.last)

are_groups : (u : Axis) (pen : ℕ) (gs : List Group) → IsQuoted (groups_text u pen gs)
are_groups u pen [] = no_steps
are_groups u pen (g ∷ gs) = is_column (column_of u g) pen ⊛ are_groups u (y_of u g.last) gs

are_steps : (p : Plot) (base : ℕ) (values : List ℕ) → IsQuoted (steps_text p base values)
are_steps p base values =
    quoted (codes "M") refl ⊛ at p.calls.start ⊛ quoted (codes " ") refl ⊛ at base ⊛ are_groups p.units base (groups_from p.calls 0 values) ⊛ quoted (codes "H") refl
    ⊛ at (p.calls.start + p.calls.span) ⊛ quoted (codes "V") refl ⊛ at base

pub line_content : (class : List ℕ) (p : Plot) (base : ℕ) (values : List ℕ) → IsQuoted class → IsContent (line_text class p base values)
line_content class p base values q =
    in_pieces (codes "<path class='") (class ∷ codes "' d='" ∷ steps_text p base values ∷ codes "'/>\n" ∷ [])
    (empty_tag (codes "path") refl (one (codes "class") refl (q ⊙ end) (one (codes "d") refl (are_steps p base values ⊙ end) none)) ⊕ literal (codes "\n") refl)
    refl

are_marks : (height : ℕ) (places : List ℕ) → IsQuoted (flat_map (mark_text height) places)
are_marks height [] = no_steps
are_marks height (x ∷ xs) = quoted (codes "M") refl ⊛ at x ⊛ quoted (codes " ") refl ⊛ at height ⊛ quoted (codes "v12") refl ⊛ are_marks height xs

pub either_content : (b : Bool) (x y : List ℕ) → IsContent x → IsContent y → IsContent (cond b x y)
either_content true x y h k = h
either_content false x y h k = k

-- ---- why calls were refused

word : (n : ℕ) → IsContent (decimal n)
word n = number_words (decimal n) (decimal_numeric n)

is_rounded : (units : ℕ) → IsContent (rounded_text units)
is_rounded units = either_content (nat_le units 4026531840) _ [] (joins (codes ", rounded up to ") (decimal (value (up units))) (words (codes ", rounded up to ") refl)
    (word (value (up units)))) nothing

two_numbers : (a : List ℕ) (k n : ℕ) → IsContent a → IsContent (a ++ decimal k ++ codes " " ++ decimal n)
two_numbers a k n h = joins (a ++ decimal k ++ codes " ") (decimal n) (joins (a ++ decimal k) (codes " ") (joins a (decimal k) h (word k)) (words (codes " ") refl)) (word n)

is_asked : (a : Asked) → IsContent (asked_text a)
is_asked (asked.Alloc n) = joins (codes "alloc " ++ decimal n) (rounded_text n) (joins (codes "alloc ") (decimal n) (words (codes "alloc ") refl) (word n)) (is_rounded n)
is_asked (asked.Align n align) = joins (codes "align " ++ decimal n ++ codes " " ++ decimal align) (rounded_text (n + align - 1))
    (two_numbers (codes "align ") n align (words (codes "align ") refl)) (is_rounded (n + align - 1))
is_asked (asked.Extend more) = joins (codes "extend ") (decimal more) (words (codes "extend ") refl) (word more)
is_asked (asked.Shrink k n) = two_numbers (codes "shrink ") k n (words (codes "shrink ") refl)
is_asked (asked.Grow k n) = two_numbers (codes "grow ") k n (words (codes "grow ") refl)

is_free : (r : StorageReport) → IsContent (codes "; largest free region " ++ decimal r.largest_free_region ++ codes ", of " ++ decimal r.total_free_space ++ codes " free")
is_free r =
    let a : List ℕ = codes "; largest free region " ++ decimal r.largest_free_region in
    joins (a ++ codes ", of " ++ decimal r.total_free_space) (codes " free")
    (joins (a ++ codes ", of ") (decimal r.total_free_space) (joins a (codes ", of ")
    (joins (codes "; largest free region ") (decimal r.largest_free_region) (words (codes "; largest free region ") refl) (word r.largest_free_region))
    (words (codes ", of ") refl)) (word r.total_free_space)) (words (codes " free") refl)

is_reported : (why : Refusal) (r : StorageReport) → IsContent (report_text why r)
is_reported refusal.Nodes r = nothing
is_reported refusal.TooLarge r = is_free r
is_reported refusal.Space r = is_free r
is_reported refusal.Fragmented r = is_free r

is_refusal : (why : Refusal) → IsContent (refusal_words why)
is_refusal refusal.Nodes = words (refusal_words refusal.Nodes) refl
is_refusal refusal.TooLarge = words (refusal_words refusal.TooLarge) refl
is_refusal refusal.Space = words (refusal_words refusal.Space) refl
is_refusal refusal.Fragmented = words (refusal_words refusal.Fragmented) refl

is_reason : (why : Reason) (r : StorageReport) → IsContent (reason_text why r)
is_reason (reason.Request why) r = joins (refusal_words why) (report_text why r) (is_refusal why) (is_reported why r)
is_reason reason.TooManyUnits r = words (codes "a space has at most 4294967295 units") refl
is_reason reason.NoRoom r = words (codes "too few units directly after the range are free") refl
is_reason reason.Smaller r = words (codes "the range has fewer units") refl
is_reason reason.Larger r = words (codes "the range has more units") refl

is_said : (reports : List StorageReport) (r : Refused) → IsContent (said_text reports r)
is_said reports r =
    let a : List ℕ = codes "call " ++ decimal (counted_from_1 r.call) in
    joins (a ++ codes ": " ++ asked_text r.asked ++ codes ": ") (reason_text r.why (report_after reports r.call))
    (joins (a ++ codes ": " ++ asked_text r.asked) (codes ": ") (joins (a ++ codes ": ") (asked_text r.asked)
    (joins a (codes ": ") (joins (codes "call ") (decimal (counted_from_1 r.call)) (words (codes "call ") refl) (word (counted_from_1 r.call))) (words (codes ": ") refl)) (is_asked r.asked))
    (words (codes ": ") refl))
    (is_reason r.why (report_after reports r.call))

are_more : (more : ℕ) → IsContent (more_text more)
are_more more =
    either_content (nat_eq more 0) [] _ nothing
    (joins (codes "; " ++ decimal more) (codes " more refused here") (joins (codes "; ") (decimal more) (words (codes "; ") refl) (word more)) (words (codes " more refused here") refl))

is_spot : (height : ℕ) (reports : List StorageReport) (s : Spot) → IsContent (spot_text height reports s)
is_spot height reports s =
    in_pieces (codes "<rect x='") (pixels_text (s.left - 100) ∷ codes "' y='" ∷ pixels_text height ∷ codes "' width='3' height='12'><title>" ∷ said_text reports s.first ∷ more_text s.more
    ∷ codes "</title></rect>\n" ∷ [])
    (full_tag (codes "rect") refl
    (one (codes "x") refl (at (s.left - 100) ⊙ end) (one (codes "y") refl (at height ⊙ end)
    (one (codes "width") refl (quoted (codes "3") refl ⊙ end) (one (codes "height") refl (quoted (codes "12") refl ⊙ end) none))))
    (full_tag (codes "title") refl none (content (is_said reports s.first) ⊕ content (are_more s.more)))
    ⊕ literal (codes "\n") refl)
    refl

are_reasons : (p : Plot) (reports : List StorageReport) (refused : List Refused) → IsContent (reasons_text p reports refused)
are_reasons p reports refused =
    let bottom = p.units.start + p.units.span in
    let spots = flat_map (spot_text bottom reports) (spots_of p.calls refused) in
    in_pieces (codes "<g class='why'>\n") (spots ∷ codes "</g>\n" ∷ [])
    (full_tag (codes "g") refl (one (codes "class") refl (quoted (codes "why") refl ⊙ end) none)
    (literal (codes "\n") refl ⊕ content (each (spot_text bottom reports) (is_spot bottom reports) (spots_of p.calls refused)))
    ⊕ literal (codes "\n") refl)
    refl

pub refusals_content : (p : Plot) (reports : List StorageReport) (refused : List Refused) → IsContent (refusals_text p reports refused)
refusals_content p reports refused =
    let bottom = p.units.start + p.units.span in
    either_content (nat_eq (length refused) 0) [] _ nothing
    (in_pieces (codes "<path class='refusal' d='") (marks_text p.calls bottom refused ∷ codes "'/>\n" ∷ reasons_text p reports refused ∷ [])
    (empty_tag (codes "path") refl
    (one (codes "class") refl (quoted (codes "refusal") refl ⊙ end) (one (codes "d") refl (are_marks bottom (marked_xs p.calls refused) ⊙ end) none)) ⊕ literal (codes "\n") refl
    ⊕ content (are_reasons p reports refused))
    (ap (λ t. in_a_row (codes "<path class='refusal' d='") (marks_text p.calls bottom refused ∷ codes "'/>\n" ∷ t ∷ [])) (sym (append-nil (reasons_text p reports refused)))))

-- ---- rectangles

-- the attributes of a rectangle, with an edge and without
abbrev places : Frame → InPieces → InPieces
places f more = (codes "x", pixels_text f.x ∷ []) ∷ (codes "y", pixels_text f.y ∷ []) ∷ (codes "width", pixels_text f.width ∷ []) ∷ (codes "height", pixels_text f.height ∷ []) ∷ more

abbrev edge : Bool → InPieces
edge true = (codes "class", codes "edge" ∷ []) ∷ []
edge false = []

are_places : (b : Bool) (f : Frame) → Attributes (places f (edge b))
are_places true f =
    one (codes "x") refl (at f.x ⊙ end) (one (codes "y") refl (at f.y ⊙ end)
    (one (codes "width") refl (at f.width ⊙ end) (one (codes "height") refl (at f.height ⊙ end) (one (codes "class") refl (quoted (codes "edge") refl ⊙ end) none))))
are_places false f =
    one (codes "x") refl (at f.x ⊙ end) (one (codes "y") refl (at f.y ⊙ end) (one (codes "width") refl (at f.width ⊙ end) (one (codes "height") refl (at f.height ⊙ end) none)))

-- what stands after the first piece of a rectangle
abbrev after_first : Frame → Bool → List (List ℕ) → List (List ℕ)
after_first f b more =
    pixels_text f.x ∷ codes "' y='" ∷ pixels_text f.y ∷ codes "' width='" ∷ pixels_text f.width ∷ codes "' height='" ∷ pixels_text f.height ∷ codes "'" ∷ cond b (codes " class='edge'") [] ∷ more

abbrev rectangle : Frame → Bool → List ℕ
rectangle f b = joined_up (codes "<rect x='") (after_first f b [])

plain_rectangle : (f : Frame) (b : Bool) → IsContent (rectangle f b ++ codes "/>\n")
plain_rectangle f true = in_pieces (codes "<rect x='") (after_first f true (codes "/>\n" ∷ [])) (empty_tag (codes "rect") refl (are_places true f) ⊕ literal (codes "\n") refl) refl
plain_rectangle f false = in_pieces (codes "<rect x='") (after_first f false (codes "/>\n" ∷ [])) (empty_tag (codes "rect") refl (are_places false f) ⊕ literal (codes "\n") refl) refl

-- the end of a life, as its title has it
abbrev last_call : Life → ℕ → List ℕ
last_call l calls = cond (nat_lt calls (counted_from_1 l.last)) (codes "end") (decimal (counted_from_1 l.last))

is_last : (l : Life) (calls : ℕ) → IsContent (last_call l calls)
is_last l calls =
    let last = counted_from_1 l.last in
    either_content (nat_lt calls last) (codes "end") (decimal last) (words (codes "end") refl) (number_words (decimal last) (decimal_numeric last))

-- what the title of a life says, before a text
abbrev said : Life → ℕ → List ℕ → List ℕ
said l calls rest =
    codes "grant " ++ (decimal l.number ++ (codes ", offset " ++ (decimal l.offset ++ (codes ", size " ++ (decimal l.size ++ (codes ", calls " ++ (decimal (counted_from_1 l.first)
    ++ (codes "-" ++ (last_call l calls ++ rest)))))))))

is_title : (l : Life) (calls : ℕ) → Grows (λ rest. codes "<" ++ (codes "title" ++ (codes ">" ++ said l calls (codes "</" ++ (codes "title" ++ (codes ">" ++ rest))))))
is_title l calls =
    full_tag (codes "title") refl none
    (literal (codes "grant ") refl ⊕ number l.number ⊕ literal (codes ", offset ") refl ⊕ number l.offset ⊕ literal (codes ", size ") refl ⊕ number l.size
    ⊕ literal (codes ", calls ") refl ⊕ number (counted_from_1 l.first) ⊕ literal (codes "-") refl ⊕ content (is_last l calls))

-- what stands after the first piece of a title
abbrev title_pieces : Life → ℕ → List (List ℕ)
title_pieces l calls =
    decimal l.number ∷ codes ", offset " ∷ decimal l.offset ∷ codes ", size " ∷ decimal l.size ∷ codes ", calls " ∷ decimal (counted_from_1 l.first) ∷ codes "-" ∷ last_call l calls
    ∷ codes "</title></rect>\n" ∷ []

titled_rectangle : (f : Frame) (b : Bool) (l : Life) (calls : ℕ) → IsContent (rectangle f b ++ codes ">" ++ title_text l calls)
titled_rectangle f true l calls =
    in_pieces (codes "<rect x='") (after_first f true (codes ">" ∷ title_text l calls ∷ []))
    (full_tag (codes "rect") refl (are_places true f) (is_title l calls) ⊕ literal (codes "\n") refl)
    (ap (λ t. in_a_row (codes "<rect x='") (after_first f true (codes ">" ∷ t ∷ []))) (sym (same_text (codes "<title>grant ") (title_pieces l calls))))
titled_rectangle f false l calls =
    in_pieces (codes "<rect x='") (after_first f false (codes ">" ∷ title_text l calls ∷ []))
    (full_tag (codes "rect") refl (are_places false f) (is_title l calls) ⊕ literal (codes "\n") refl)
    (ap (λ t. in_a_row (codes "<rect x='") (after_first f false (codes ">" ∷ t ∷ []))) (sym (same_text (codes "<title>grant ") (title_pieces l calls))))

abbrev has_edge : Frame → Bool
has_edge f = nat_le 300 f.width && nat_le 300 f.height

is_plain : (s : Shape) → IsContent (plain_text s)
is_plain s = plain_rectangle (frame_of s) (has_edge (frame_of s))

is_titled : (calls : ℕ) (r : Shape × Life) → IsContent (titled_text calls r)
is_titled calls r = titled_rectangle (frame_of r.0) (has_edge (frame_of r.0)) r.1 calls

is_age : (held : ℕ → List ℕ) (age : ℕ) → IsContent (held age) → IsContent (age_text held age)
is_age held age h =
    in_pieces (codes "<g class='age") (decimal (age + 1) ∷ codes "'>\n" ∷ held age ∷ codes "</g>\n" ∷ [])
    (full_tag (codes "g") refl (one (codes "class") refl (quoted (codes "age") refl ⊙ number_in_value (decimal (age + 1)) (decimal_numeric (age + 1)) ⊙ end) none)
    (literal (codes "\n") refl ⊕ content h) ⊕ literal (codes "\n") refl)
    refl

ages_content : (held : ℕ → List ℕ) → ((age : ℕ) → IsContent (held age)) → IsContent (ages_text held)
ages_content held h = each (age_text held) (λ age. is_age held age (h age)) (falling_below 8)

pub plain_content : (shapes : List Shape) → IsContent (ages_text (plain_of_age shapes))
plain_content shapes = ages_content (plain_of_age shapes) (λ age. each plain_text is_plain _)

pub titled_content : (calls : ℕ) (shapes : List Shape) (lives : List Life) → IsContent (ages_text (titled_of_age calls shapes lives))
titled_content calls shapes lives = ages_content (titled_of_age calls shapes lives) (λ age. each (titled_text calls) (is_titled calls) _)
