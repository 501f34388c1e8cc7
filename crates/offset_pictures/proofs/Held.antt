-- The groups of rectangles by age, and what is still to be written of them.
use Rattle.std.proofs.Common.{◌≡◌, ℕ, zero, suc, ◌+◌, ◌-◌, ◌<◌, ◌≤◌, ◌∙◌, Bool, true, false, cond, List, [], ◌∷◌, ◌++◌}
use Rattle.std.proofs.Common.{Option, Some, None, append_assoc, append-nil, codes, get_or, drop, length, map, nat_eq, nat_lt, sym, ap, ap₂, subst, arith, if◌then◌else◌}
use Rattle.std.proofs.lemmas.List.{at_drop_more, at_drop_all}
use Rattle.std.proofs.lemmas.Slice.Zip.{get_or-zip}
use Rattle.std.specs.{Bool.MatchBool, Fmt.decimal, Prelude.filter, Prelude.flat_map, List.zip}
use Rattle.offset_allocator.specs.declared.reports.StorageReport.{StorageReport}
use Rattle.offset_pictures.specs.declared.course.Course.{Course}
use Rattle.offset_pictures.specs.declared.living.Life.{Life}
use Rattle.offset_pictures.specs.declared.plots.Plot.{Plot}
use Rattle.offset_pictures.specs.declared.refusing.Refused.{Refused}
use Rattle.offset_pictures.specs.declared.shapes.Shape.{Shape}
use Rattle.offset_pictures.specs.{Levels.free_of, Levels.joined_of, Levels.most_of, Merging.AreMerged, Shapes.shape_of, Reasons.reasons_text, StepLines.line_text, StepLines.reports_text}
use Rattle.offset_pictures.specs.Marks.{marks_text, refusals_text}
use Rattle.offset_pictures.specs.Rectangles.{age_text, ages_text, AreRectangles, falling_below, frame_of, plain_of_age, rectangle_text, title_text, titled_of_age, titled_text}

-- what the group of an age holds
abbrev pub held : Bool → ℕ → List Shape → List Life → ℕ → List ℕ
held true calls shapes lives age = plain_of_age shapes age
held false calls shapes lives age = titled_of_age calls shapes lives age

pub plain_held : (b : Bool) (calls : ℕ) (lives : List Life) (age : ℕ) (shapes given : List Shape) (out new : List ℕ) → b ≡ true → given ≡ shapes → new ≡ out ++ plain_of_age given age
    → new ≡ out ++ held b calls shapes lives age
plain_held b calls lives age shapes given out new is same put =
    put ∙ ap (λ ss. out ++ plain_of_age ss age) same ∙ ap (λ t. out ++ held t calls shapes lives age) (sym is)

pub titled_held : (b : Bool) (calls : ℕ) (lives : List Life) (age : ℕ) (shapes given : List Shape) (out new : List ℕ) → b ≡ false → given ≡ shapes → new ≡ out ++ titled_of_age calls given lives age
    → new ≡ out ++ held b calls shapes lives age
titled_held b calls lives age shapes given out new is same put =
    put ∙ ap (λ ss. out ++ titled_of_age calls ss lives age) same ∙ ap (λ t. out ++ held t calls shapes lives age) (sym is)

-- ---- the elements of a list that pass a test, and what is still to be written of them

-- the elements to come, the first of which is this one
to_come : {X : Type 0} (p : X → Bool) (f : X → List ℕ) (i : ℕ) (d x : X) (xs : List X) (t : Bool) → i < length xs → x ≡ get_or xs i d → p x ≡ t
    → flat_map f (filter p (drop i xs)) ≡ flat_map f (cond t (x ∷ filter p (drop (i + 1) xs)) (filter p (drop (i + 1) xs)))
to_come p f i d x xs t less is e =
    at_drop_more (λ ys. flat_map f (filter p ys)) xs i d less
    ∙ ap (λ y. flat_map f (cond (p y) (y ∷ filter p (drop (i + 1) xs)) (filter p (drop (i + 1) xs)))) (sym is)
    ∙ ap (λ b. flat_map f (cond b (x ∷ filter p (drop (i + 1) xs)) (filter p (drop (i + 1) xs)))) e

pub one_is_put : {X : Type 0} (p : X → Bool) (f : X → List ℕ) (i : ℕ) (d x : X) (xs : List X) (out new whole : List ℕ) → i < length xs → x ≡ get_or xs i d → p x ≡ true → new ≡ out ++ f x
    → out ++ flat_map f (filter p (drop i xs)) ≡ whole → new ++ flat_map f (filter p (drop (i + 1) xs)) ≡ whole
one_is_put p f i d x xs out new whole less is e put before =
    ap (λ o. o ++ flat_map f (filter p (drop (i + 1) xs))) put ∙ append_assoc out (f x) _
    ∙ ap (λ t. out ++ t) (sym (to_come p f i d x xs true less is e)) ∙ before

pub one_is_left_out : {X : Type 0} (p : X → Bool) (f : X → List ℕ) (i : ℕ) (d x : X) (xs : List X) (out whole : List ℕ) → i < length xs → x ≡ get_or xs i d → p x ≡ false
    → out ++ flat_map f (filter p (drop i xs)) ≡ whole → out ++ flat_map f (filter p (drop (i + 1) xs)) ≡ whole
one_is_left_out p f i d x xs out whole less is e before = ap (λ t. out ++ t) (sym (to_come p f i d x xs false less is e)) ∙ before

pub none_to_come : {X : Type 0} (p : X → Bool) (f : X → List ℕ) (i : ℕ) (xs : List X) (out whole : List ℕ) → length xs ≤ i → out ++ flat_map f (filter p (drop i xs)) ≡ whole → out ≡ whole
none_to_come p f i xs out whole all before = sym (append-nil out) ∙ ap (λ t. out ++ t) (sym (at_drop_all (λ ys. flat_map f (filter p ys)) xs i all)) ∙ before

-- ---- ages

falling_more : (n : ℕ) → 0 < n → falling_below n ≡ (n - 1) ∷ falling_below (n - 1)
falling_more zero h = absurd (omega arith)
falling_more (suc k) h = let e : k ≡ suc k - 1 = omega arith in ap (λ j. j ∷ falling_below j) e

-- the group of the next age is written
pub age_is_put : (h : ℕ → List ℕ) (n : ℕ) (out new whole : List ℕ) → 0 < n → new ≡ out ++ age_text h (n - 1) → out ++ flat_map (age_text h) (falling_below n) ≡ whole
    → new ++ flat_map (age_text h) (falling_below (n - 1)) ≡ whole
age_is_put h n out new whole some put before =
    ap (λ o. o ++ flat_map (age_text h) (falling_below (n - 1))) put ∙ append_assoc out (age_text h (n - 1)) _
    ∙ ap (λ ages. out ++ flat_map (age_text h) ages) (sym (falling_more n some)) ∙ before

-- the group of an age
pub group_is_put : (h : ℕ → List ℕ) (age number : ℕ) (out begun filled new : List ℕ) → number ≡ age + 1 → begun ≡ out ++ (codes "<g class='age" ++ decimal number ++ codes "'>\n") → filled ≡ begun
    ++ h age
    → new ≡ filled ++ codes "</g>\n" → new ≡ out ++ age_text h age
group_is_put h age number out begun filled new is begin fill close =
    let start : List ℕ = codes "<g class='age" ++ decimal (age + 1) ++ codes "'>\n" in
    close ∙ ap (λ o. o ++ codes "</g>\n") (fill ∙ ap (λ o. o ++ h age) (begin ∙ ap (λ n. out ++ (codes "<g class='age" ++ decimal n ++ codes "'>\n")) is))
    ∙ ap (λ o. o ++ codes "</g>\n") (append_assoc out start (h age)) ∙ append_assoc out (start ++ h age) (codes "</g>\n")

pub no_age_to_come : (h : ℕ → List ℕ) (n : ℕ) (out whole : List ℕ) → n ≤ 0 → out ++ flat_map (age_text h) (falling_below n) ≡ whole → out ≡ whole
no_age_to_come h zero out whole none before = sym (append-nil out) ∙ before
no_age_to_come h (suc n) out whole none before = absurd (omega arith)

-- ---- what is written for many lives, and for few

pub many_lives : (plot : Plot) (ls : List Life) (calls : ℕ) (shapes : List Shape) (merged : Option ℕ) → nat_lt 20000 (length ls) ≡ true → AreMerged plot ls shapes → merged ≡ Some (length shapes)
    → AreRectangles plot ls calls merged (ages_text (held (nat_lt 20000 (length ls)) calls shapes ls))
many_lives plot ls calls shapes merged many are is =
    subst (λ b. MatchBool b ((ss : List Shape) × AreMerged plot ls ss × (merged ≡ Some (length ss)) × (ages_text (held (nat_lt 20000 (length ls)) calls shapes ls) ≡ ages_text (plain_of_age ss)))
    ((merged ≡ None) × (ages_text (held (nat_lt 20000 (length ls)) calls shapes ls) ≡ ages_text (titled_of_age calls (map (shape_of plot) ls) ls)))) (sym many)
    (shapes, are, is, ap (λ b. ages_text (held b calls shapes ls)) many)

pub few_lives : (plot : Plot) (ls : List Life) (calls : ℕ) (shapes : List Shape) (merged : Option ℕ) → nat_lt 20000 (length ls) ≡ false → shapes ≡ map (shape_of plot) ls → merged ≡ None
    → AreRectangles plot ls calls merged (ages_text (held (nat_lt 20000 (length ls)) calls shapes ls))
few_lives plot ls calls shapes merged few are is =
    subst (λ b. MatchBool b ((ss : List Shape) × AreMerged plot ls ss × (merged ≡ Some (length ss)) × (ages_text (held (nat_lt 20000 (length ls)) calls shapes ls) ≡ ages_text (plain_of_age ss)))
    ((merged ≡ None) × (ages_text (held (nat_lt 20000 (length ls)) calls shapes ls) ≡ ages_text (titled_of_age calls (map (shape_of plot) ls) ls)))) (sym few)
    (is, ap (λ b. ages_text (held b calls shapes ls)) few ∙ ap (λ ss. ages_text (titled_of_age calls ss ls)) are)

-- ---- rectangles with titles

pub pair_of_zip : (ks : List Shape) (vs : List Life) (i : ℕ) (k : Shape) (v : Life) → i < length ks → i < length vs → ((d : Shape) → k ≡ get_or ks i d) → ((d : Life) → v ≡ get_or vs i d)
    → (k, v) ≡ get_or (zip ks vs) i (k, v)
pair_of_zip ks vs i k v a b hk hv = ap₂ (λ (x : Shape) (y : Life). (x, y)) (hk k) (hv v) ∙ sym (get_or-zip ks vs i (k, v) a b)

pub titled_is_put : (s : Shape) (l : Life) (calls : ℕ) (out begun new line end none : List ℕ) → none ≡ [] → end ≡ codes ">" ++ none → line ≡ rectangle_text (frame_of s) ++ end → begun ≡ out ++ line
    → new ≡ begun ++ title_text l calls → new ≡ out ++ titled_text calls (s, l)
titled_is_put s l calls out begun new line end none nothing close rectangle begin title =
    title ∙ ap (λ o. o ++ title_text l calls) (begin ∙ ap (λ t. out ++ t) (rectangle ∙ ap (λ e. rectangle_text (frame_of s) ++ e) (close ∙ ap (λ n. codes ">" ++ n) nothing)))
    ∙ append_assoc out (rectangle_text (frame_of s) ++ codes ">") (title_text l calls)

-- ---- the lines of reports

pub reports_are_put : (p : Plot) (c : Course) (base : ℕ) (free joined most a o₁ o₂ : List ℕ) → base ≡ p.units.start + p.units.span
    → free ≡ map free_of c.reports.items → joined ≡ map joined_of c.reports.items → most ≡ map most_of c.reports.items
    → o₁ ≡ a ++ line_text (codes "free") p base free → o₂ ≡ o₁ ++ line_text (codes "joined") p base joined
    → o₂ ++ line_text (codes "most") p base most ≡ a ++ reports_text p c
reports_are_put p c base free joined most a o₁ o₂ at f j m e₁ e₂ =
    let b = p.units.start + p.units.span in
    let x : List ℕ = line_text (codes "free") p b (map free_of c.reports.items) in
    let y : List ℕ = line_text (codes "joined") p b (map joined_of c.reports.items) in
    let z : List ℕ = line_text (codes "most") p b (map most_of c.reports.items) in
    let first : o₁ ≡ a ++ x = e₁ ∙ ap₂ (λ (n : ℕ) (v : List ℕ). a ++ line_text (codes "free") p n v) at f in
    let second : o₂ ≡ o₁ ++ y = e₂ ∙ ap₂ (λ (n : ℕ) (v : List ℕ). o₁ ++ line_text (codes "joined") p n v) at j in
    ap₂ (λ (n : ℕ) (v : List ℕ). o₂ ++ line_text (codes "most") p n v) at m
    ∙ ap (λ o. o ++ z) (second ∙ ap (λ o. o ++ y) first ∙ append_assoc a x y) ∙ append_assoc a (x ++ y) z

-- ---- the marks of refused calls

pub refusals_are_put : (p : Plot) (reports : List StorageReport) (refused : List Refused) (bottom : ℕ) (out o₁ o₂ o₃ : List ℕ) → nat_eq (length refused) 0 ≡ false
    → bottom ≡ p.units.start + p.units.span
    → o₁ ≡ out ++ codes "<path class='refusal' d='" → o₂ ≡ o₁ ++ marks_text p.calls bottom refused → o₃ ≡ o₂ ++ codes "'/>\n"
    → o₃ ++ reasons_text p reports refused ≡ out ++ refusals_text p reports refused
refusals_are_put p reports refused bottom out o₁ o₂ o₃ some at e₁ e₂ e₃ =
    let begin : List ℕ = codes "<path class='refusal' d='" in
    let marks : List ℕ = marks_text p.calls (p.units.start + p.units.span) refused in
    let end : List ℕ = codes "'/>\n" in
    let why : List ℕ = reasons_text p reports refused in
    let so_far : o₃ ≡ out ++ (begin ++ marks ++ end) =
    e₃ ∙ ap (λ o. o ++ end) (e₂ ∙ ap₂ (λ (o : List ℕ) (b : ℕ). o ++ marks_text p.calls b refused) e₁ at ∙ append_assoc out begin marks) ∙ append_assoc out (begin ++ marks) end in
    ap (λ o. o ++ why) so_far ∙ append_assoc out (begin ++ marks ++ end) why
    ∙ ap (λ (t : Bool). out ++ (if t then [] else begin ++ marks ++ end ++ why)) (sym some)
