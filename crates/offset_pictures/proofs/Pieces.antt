-- Pieces of text that are put one before the other.
use Rattle.std.proofs.Common.{◌≡◌, ℕ, ◌≤◌, ◌∙◌, ◌↔◌, Bool, ◌&&◌, IsTrue, nat_le, List, ◌++◌, ap, append_assoc, arith}
use Rattle.std.proofs.lemmas.Bool.Decides.{nat_tests}

-- two tests decide what both say
pub both_tests : (least a b : ℕ) (r : Bool) → IsTrue r ↔ (least ≤ a × least ≤ b) → (nat_le least a && nat_le least b) ≡ r
both_tests least a b r h = grind (arith, nat_tests)

pub ten_pieces : (p₁ p₂ p₃ p₄ p₅ p₆ p₇ p₈ p₉ p₁₀ l₀ l₁ l₂ l₃ l₄ l₅ l₆ l₇ l₈ l₉ l₁₀ : List ℕ)
    → l₁ ≡ p₁ ++ l₀ → l₂ ≡ p₂ ++ l₁ → l₃ ≡ p₃ ++ l₂ → l₄ ≡ p₄ ++ l₃ → l₅ ≡ p₅ ++ l₄ → l₆ ≡ p₆ ++ l₅ → l₇ ≡ p₇ ++ l₆ → l₈ ≡ p₈ ++ l₇ → l₉ ≡ p₉ ++ l₈ → l₁₀ ≡ p₁₀ ++ l₉
    → l₁₀ ≡ p₁₀ ++ p₉ ++ p₈ ++ p₇ ++ p₆ ++ p₅ ++ p₄ ++ p₃ ++ p₂ ++ p₁ ++ l₀
ten_pieces p₁ p₂ p₃ p₄ p₅ p₆ p₇ p₈ p₉ p₁₀ l₀ l₁ l₂ l₃ l₄ l₅ l₆ l₇ l₈ l₉ l₁₀ e₁ e₂ e₃ e₄ e₅ e₆ e₇ e₈ e₉ e₁₀ =
    simp append_assoc (
    e₁₀ ∙ ap (λ (t : List ℕ). p₁₀ ++ t) (e₉
    ∙ ap (λ (t : List ℕ). p₉ ++ t) (e₈
    ∙ ap (λ (t : List ℕ). p₈ ++ t) (e₇
    ∙ ap (λ (t : List ℕ). p₇ ++ t) (e₆
    ∙ ap (λ (t : List ℕ). p₆ ++ t) (e₅ ∙ ap (λ (t : List ℕ). p₅ ++ t) (e₄ ∙ ap (λ (t : List ℕ). p₄ ++ t) (e₃ ∙ ap (λ (t : List ℕ). p₃ ++ t) (e₂ ∙ ap (λ (t : List ℕ). p₂ ++ t) (e₁)))))))))
    )
