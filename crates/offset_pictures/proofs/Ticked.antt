-- The ticks of an axis, and what is still to be written of them.
use Rattle.std.proofs.Common.{◌≡◌, ℕ, zero, suc, ◌+◌, ◌-◌, ◌*◌, ◌/◌, ◌<◌, ◌≤◌, ◌∙◌, List, [], ◌∷◌, ◌++◌, add-one, codes, min, sym, ap, ap₂, arith}
use Rattle.std.proofs.Math.Nat.{div-le_of_le-mul, div-lt_iff_lt-mul}
use Rattle.std.proofs.lemmas.Nat.{le-div}
use Rattle.offset_pictures.specs.declared.plots.Plot.{Plot}
use Rattle.offset_pictures.specs.{Numerals.grouped_text, Numerals.pixels_text, Axes.right_of, Axes.up_of, Ticks.calls_tick, Ticks.first_multiples, Ticks.multiples_to, Ticks.units_tick}
use Rattle.offset_pictures.proofs.Texts.{goes_on, in_a_row, is_begun}
use Rattle.std.specs.Prelude.{flat_map}
use Rattle.std.proofs.lemmas.List.{flat_map_more}

-- the ticks of the first n multiples, and one more
one_more : (f : ℕ → List ℕ) (step n : ℕ) (old : List ℕ) → (old ++ flat_map f (first_multiples step n)) ++ f (n * step) ≡ old ++ flat_map f (first_multiples step (n + 1))
one_more f step n old = flat_map_more f old (first_multiples step n) (n * step) ∙ ap (λ k. old ++ flat_map f (first_multiples step k)) (sym (add-one n))

-- a number above all multiples that are counted
beyond_all : (step k last : ℕ) → 0 < step → last < k * step → last / step < k
beyond_all step k last some beyond = (div-lt_iff_lt-mul {k = step} {x = last} {y = k} some).1 beyond

-- some step is needed to come to a number above 0
pub some_step : (step count most : ℕ) → 0 < most → most ≤ step * count → 0 < step
some_step zero count most some enough = absurd (omega arith)
some_step (suc n) count most some enough = omega arith

pub tick_is_put : (f : ℕ → List ℕ) (step k last : ℕ) (old out new : List ℕ) → 0 < step → k * step ≤ last → out ≡ old ++ flat_map f (first_multiples step (min k (last / step + 1))) → new ≡ out
    ++ f (k * step)
    → new ≡ old ++ flat_map f (first_multiples step (min (k + 1) (last / step + 1)))
tick_is_put f step k last old out new some within so_far put =
    let below : k ≤ last / step = le-div k last step some within in
    let here : min k (last / step + 1) ≡ k = omega arith in
    let next : k + 1 ≡ min (k + 1) (last / step + 1) = omega arith in
    put ∙ ap (λ (o : List ℕ). o ++ f (k * step)) (so_far ∙ ap (λ (n : ℕ). old ++ flat_map f (first_multiples step n)) here) ∙ one_more f step k old
    ∙ ap (λ (n : ℕ). old ++ flat_map f (first_multiples step n)) next

pub tick_is_left_out : (f : ℕ → List ℕ) (step k last : ℕ) (old out : List ℕ) → 0 < step → last < k * step → out ≡ old ++ flat_map f (first_multiples step (min k (last / step + 1)))
    → out ≡ old ++ flat_map f (first_multiples step (min (k + 1) (last / step + 1)))
tick_is_left_out f step k last old out some beyond so_far =
    let above : last / step < k = beyond_all step k last some beyond in
    let same : min k (last / step + 1) ≡ min (k + 1) (last / step + 1) = omega arith in
    so_far ∙ ap (λ (n : ℕ). old ++ flat_map f (first_multiples step n)) same

pub all_ticks : (f : ℕ → List ℕ) (step count k last : ℕ) (old out : List ℕ) → 0 < step → last ≤ step * count → count + 1 ≤ k → out ≡ old ++ flat_map f (first_multiples step (min k (last / step + 1)))
    → out ≡ old ++ flat_map f (multiples_to step last)
all_ticks f step count k last old out some enough every so_far =
    let most : last / step ≤ count = div-le_of_le-mul step enough in
    let end : min k (last / step + 1) ≡ last / step + 1 = omega arith in
    so_far ∙ ap (λ (n : ℕ). old ++ flat_map f (first_multiples step n)) end

-- ---- one tick

pub units_tick_is_put : (p : Plot) (units height end : ℕ) (old mid new : List ℕ) → height ≡ up_of p.units units → end ≡ p.calls.start - 800
    → mid ≡ old ++ in_a_row (codes "<path class='grid' d='M") (pixels_text p.calls.start ∷ codes " " ∷ pixels_text height ∷ codes "H" ∷ pixels_text (p.calls.start + p.calls.span) ∷ codes "'/>" ∷ [])
    → new ≡ mid ++ in_a_row (codes "<text class='end' x='") (pixels_text end ∷ codes "' y='" ∷ pixels_text (height + 500) ∷ codes "'>" ∷ grouped_text units ∷ codes "</text>\n" ∷ []) → new ≡ old
    ++ units_tick p units
units_tick_is_put p units height end old mid new at left put_line put_number =
    let across : ℕ → List ℕ = λ h. codes "<path class='grid' d='M" ++ pixels_text p.calls.start ++ codes " " ++ pixels_text h ++ codes "H" ++ pixels_text (p.calls.start + p.calls.span)
    ++ codes "'/>" in
    goes_on (across height) (codes "<text class='end' x='") (pixels_text end ∷ codes "' y='" ∷ pixels_text (height + 500) ∷ codes "'>" ∷ grouped_text units ∷ codes "</text>\n" ∷ []) old mid new
    (is_begun (codes "<path class='grid' d='M") (pixels_text p.calls.start ∷ codes " " ∷ pixels_text height ∷ codes "H" ∷ pixels_text (p.calls.start + p.calls.span) ∷ codes "'/>"
    ∷ []) old mid put_line) put_number
    ∙ ap₂ (λ (h e : ℕ). old ++ (across h ++ codes "<text class='end' x='" ++ pixels_text e ++ codes "' y='" ++ pixels_text (h + 500) ++ codes "'>" ++ grouped_text units ++ codes "</text>\n")) at left

pub calls_tick_is_put : (p : Plot) (calls place bottom base : ℕ) (old mid new : List ℕ) → place ≡ right_of p.calls calls → bottom ≡ p.units.start + p.units.span → base ≡ p.units.start + p.units.span
    → mid ≡ old ++ in_a_row (codes "<path class='tick' d='M") (pixels_text place ∷ codes " " ∷ pixels_text bottom ∷ codes "v10'/>" ∷ [])
    → new ≡ mid ++ in_a_row (codes "<text class='middle' x='") (pixels_text place ∷ codes "' y='" ∷ pixels_text (base + 2600) ∷ codes "'>" ∷ grouped_text calls ∷ codes "</text>\n" ∷ []) → new ≡ old
    ++ calls_tick p calls
calls_tick_is_put p calls place bottom base old mid new at low lower put_mark put_number =
    let mark : ℕ → ℕ → List ℕ = λ x b. codes "<path class='tick' d='M" ++ pixels_text x ++ codes " " ++ pixels_text b ++ codes "v10'/>" in
    let number : ℕ → ℕ → ℕ → List ℕ = λ x b y. mark x b ++ codes "<text class='middle' x='" ++ pixels_text x ++ codes "' y='" ++ pixels_text (y + 2600) ++ codes "'>" ++ grouped_text calls
    ++ codes "</text>\n" in
    goes_on (mark place bottom) (codes "<text class='middle' x='") (pixels_text place ∷ codes "' y='" ∷ pixels_text (base + 2600) ∷ codes "'>" ∷ grouped_text calls ∷ codes "</text>\n"
    ∷ []) old mid new
    (is_begun (codes "<path class='tick' d='M") (pixels_text place ∷ codes " " ∷ pixels_text bottom ∷ codes "v10'/>" ∷ []) old mid put_mark) put_number
    ∙ ap₂ (λ (x b : ℕ). old ++ number x b base) at low ∙ ap (λ (y : ℕ). old ++ number (right_of p.calls calls) (p.units.start + p.units.span) y) lower
