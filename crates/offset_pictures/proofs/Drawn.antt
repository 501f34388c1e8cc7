-- The parts of a picture.
use Rattle.std.proofs.Common.{◌≡◌, ℕ, ◌+◌, List, [], ◌++◌, ◌∙◌, sym, ap, subst, Result, Ok, Err}
use Rattle.std.specs.Prelude.{IfOk}
use Rattle.offset_pictures.specs.declared.axes.Axis.{Axis}
use Rattle.offset_pictures.specs.{Axes.in_tenths, Axes.x_of, Scales.along, StepLines.AreXs}
use Rattle.offset_pictures.proofs.Texts.{goes_on}

-- the parts of a picture with its title
pub has_title : (p₀ p₁ p₂ p₃ p₄ p₅ p₆ x₀ x₁ x₂ x₃ x₄ x₅ x₆ : List ℕ)
    → x₀ ≡ p₀ → x₁ ≡ x₀ ++ p₁ → x₂ ≡ x₁ ++ p₂ → x₃ ≡ x₂ ++ p₃ → x₄ ≡ x₃ ++ p₄ → x₅ ≡ x₄ ++ p₅ → x₆ ≡ x₅ ++ p₆
    → x₆ ≡ p₀ ++ p₁ ++ p₂ ++ p₃ ++ p₄ ++ p₅ ++ p₆
has_title p₀ p₁ p₂ p₃ p₄ p₅ p₆ x₀ x₁ x₂ x₃ x₄ x₅ x₆ e₀ e₁ e₂ e₃ e₄ e₅ e₆ =
    e₆ ∙ ap (λ (x : List ℕ). x ++ p₆) (e₅
    ∙ ap (λ (x : List ℕ). x ++ p₅) (e₄ ∙ ap (λ (x : List ℕ). x ++ p₄) (e₃ ∙ ap (λ (x : List ℕ). x ++ p₃) (e₂ ∙ ap (λ (x : List ℕ). x ++ p₂) (e₁ ∙ ap (λ (x : List ℕ). x ++ p₁) e₀)))))

-- the parts below the heading, in the order in which they are put after what is there
pub has_all : (p₁ p₂ p₃ p₄ p₅ p₆ p₇ p₈ x₀ x₁ x₂ x₃ x₄ x₅ x₆ x₇ x₈ : List ℕ)
    → x₁ ≡ x₀ ++ p₁ → x₂ ≡ x₁ ++ p₂ → x₃ ≡ x₂ ++ p₃ → x₄ ≡ x₃ ++ p₄ → x₅ ≡ x₄ ++ p₅ → x₆ ≡ x₅ ++ p₆ → x₇ ≡ x₆ ++ p₇ → x₈ ≡ x₇ ++ p₈
    → x₈ ≡ x₀ ++ (p₁ ++ p₂ ++ p₃ ++ p₄ ++ p₅ ++ p₆ ++ p₇ ++ p₈)
has_all p₁ p₂ p₃ p₄ p₅ p₆ p₇ p₈ x₀ x₁ x₂ x₃ x₄ x₅ x₆ x₇ x₈ e₁ e₂ e₃ e₄ e₅ e₆ e₇ e₈ =
    let f₂ = goes_on p₁ p₂ [] x₀ x₁ x₂ e₁ e₂ in
    let f₃ = goes_on (p₁ ++ p₂) p₃ [] x₀ x₂ x₃ f₂ e₃ in
    let f₄ = goes_on (p₁ ++ p₂ ++ p₃) p₄ [] x₀ x₃ x₄ f₃ e₄ in
    let f₅ = goes_on (p₁ ++ p₂ ++ p₃ ++ p₄) p₅ [] x₀ x₄ x₅ f₄ e₅ in
    let f₆ = goes_on (p₁ ++ p₂ ++ p₃ ++ p₄ ++ p₅) p₆ [] x₀ x₅ x₆ f₅ e₆ in
    let f₇ = goes_on (p₁ ++ p₂ ++ p₃ ++ p₄ ++ p₅ ++ p₆) p₇ [] x₀ x₆ x₇ f₆ e₇ in
    goes_on (p₁ ++ p₂ ++ p₃ ++ p₄ ++ p₅ ++ p₆ ++ p₇) p₈ [] x₀ x₇ x₈ f₇ e₈

-- what holds of a success holds of it if something stronger does
pub ok_more : {T E : Type 0} (r : Result T E) (P Q : T → Type 0) → ((x : T) → P x → Q x) → IfOk r P → IfOk r Q
ok_more (Ok x) P Q h p = h x p
ok_more (Err e) P Q h p = tt

-- where states lie on an axis, they lie on another that begins and ends there and shows as much
pub same_xs : (a b : Axis) (xs ys : List ℕ) → a.start ≡ b.start → a.span ≡ b.span → a.most ≡ b.most → ys ≡ xs → AreXs a xs → AreXs b ys
same_xs a b xs ys start span most same h = λ i l.
    let x : x_of a i ≡ x_of b i =
    ap (λ (n : ℕ). in_tenths (n + along a.span a.most i)) start ∙ ap (λ (n : ℕ). in_tenths (b.start + along n a.most i)) span ∙ ap (λ (n : ℕ). in_tenths (b.start + along b.span n i)) most in
    subst (AreXs a) (sym same) h i l ∙ x
