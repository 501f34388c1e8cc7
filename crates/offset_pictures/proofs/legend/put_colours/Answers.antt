use Rattle.std.proofs.Common.{◌≡◌, ◌++◌, List, [], ◌∷◌, ℕ, codes}
use Rattle.std.specs.Prelude.{string_bytes}
use Rattle.offset_pictures.specs.{Numerals.pixels_text, Legend.full_text}
use Rattle.offset_pictures.proofs.Texts.{is_begun, goes_on, is_ended}
use Rattle.offset_pictures.proofs.legend.put_colours.Goals as goal

pub returns : goal.returns
returns c =
    let old : List ℕ = string_bytes c.args.out.now in
    let a : List ℕ = codes "<path class='free' d='M120 " in
    let b : List ℕ = codes "<text x='142' y='" in
    let t₀ : List ℕ = a ++ pixels_text 58500 ++ codes "h16v14h-16z'/>" in
    let t₁ : List ℕ = t₀ ++ b ++ pixels_text 59800 ++ codes "'>free units</text>\n" in
    let t₂ : List ℕ = t₁ ++ codes "<path class='joined' d='M235 " ++ pixels_text 58500 ++ codes "h16v14h-16z'/>" in
    let t₃ : List ℕ = t₂ ++ codes "<text x='257' y='" ++ pixels_text 59800 ++ codes "'>largest free region, if they were one block " in
    let t₄ : List ℕ = t₃ ++ codes "(the gap to the free units: rounding to a size class)</text>\n" in
    let t₅ : List ℕ = t₄ ++ codes "<path class='most' d='M120 " ++ pixels_text 60700 ++ codes "h16v14h-16z'/>" in
    let t₆ : List ℕ = t₅ ++ b ++ pixels_text 62000 ++ codes "'>largest free region (the gap to that of one block: fragmentation)</text>\n" in
    let e₀ : string_bytes c.write.new.self ≡ old ++ t₀ = is_begun a (pixels_text 58500 ∷ codes "h16v14h-16z'/>" ∷ []) old _ c.in_ok-write.ensures.bytes in
    let e₁ : string_bytes c.writeln.new.self ≡ old ++ t₁ = goes_on t₀ b (pixels_text 59800 ∷ codes "'>free units</text>\n" ∷ []) old _ _ e₀ c.in_ok-writeln.ensures.bytes in
    let e₂ : string_bytes c.write-2.new.self ≡ old ++ t₂ =
    goes_on t₁ (codes "<path class='joined' d='M235 ") (pixels_text 58500 ∷ codes "h16v14h-16z'/>" ∷ []) old _ _ e₁ c.in_ok-write-2.ensures.bytes in
    let e₃ : string_bytes c.write-3.new.self ≡ old ++ t₃ =
    goes_on t₂ (codes "<text x='257' y='") (pixels_text 59800 ∷ codes "'>largest free region, if they were one block " ∷ []) old _ _ e₂ c.in_ok-write-3.ensures.bytes in
    let e₄ : string_bytes c.writeln-2.new.self ≡ old ++ t₄ = goes_on t₃ (codes "(the gap to the free units: rounding to a size class)</text>\n") [] old _ _ e₃ c.in_ok-writeln-2.ensures.bytes in
    let e₅ : string_bytes c.write-4.new.self ≡ old ++ t₅ =
    goes_on t₄ (codes "<path class='most' d='M120 ") (pixels_text 60700 ∷ codes "h16v14h-16z'/>" ∷ []) old _ _ e₄ c.in_ok-write-4.ensures.bytes in
    let e₆ : string_bytes c.writeln-3.new.self ≡ old ++ t₆ =
    goes_on t₅ b (pixels_text 62000 ∷ codes "'>largest free region (the gap to that of one block: fragmentation)</text>\n" ∷ []) old _ _ e₅ c.in_ok-writeln-3.ensures.bytes in
    is_ended c.put_full.result t₆ (full_text c.args.figures.now) [] old _ _ e₆ c.put_full.ensures
