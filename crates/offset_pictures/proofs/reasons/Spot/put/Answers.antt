use Rattle.std.proofs.Common.{◌≡◌, ℕ, ◌-◌, ◌++◌, List, [], ◌∷◌, codes, subst}
use Rattle.std.specs.Prelude.{string_bytes}
use Rattle.offset_pictures.specs.declared.reasons.Spot.{Spot}
use Rattle.offset_pictures.specs.{Numerals.pixels_text, Reasons.more_text, Reasons.said_text}
use Rattle.offset_pictures.proofs.Texts.{goes_on, in_a_row, is_begun, is_ended}
use Rattle.offset_pictures.proofs.reasons.Spot.put.Goals as goal

pub returns : goal.returns
returns c =
    let old : List ℕ = string_bytes c.args.out.now in
    let s : Spot = c.args.self.now in
    let mid : List ℕ = string_bytes c.write.new.self in
    let after : List (List ℕ) = codes "' y='" ∷ pixels_text c.args.y ∷ codes "' width='3' height='12'><title>" ∷ [] in
    let t : List ℕ = codes "<rect x='" ++ pixels_text (s.left - 100) ++ codes "' y='" ++ pixels_text c.args.y ++ codes "' width='3' height='12'><title>" in
    let put : mid ≡ old ++ in_a_row (codes "<rect x='") (pixels_text (s.left - 100) ∷ after) =
    subst (λ (n : ℕ). mid ≡ old ++ in_a_row (codes "<rect x='") (pixels_text n ∷ after)) c.saturating_sub.ensures c.in_ok-write.ensures.bytes in
    let said : List ℕ = said_text c.args.reports.now s.first in
    let more : List ℕ = more_text s.more in
    let begun : mid ≡ old ++ t = is_begun (codes "<rect x='") (pixels_text (s.left - 100) ∷ after) old mid put in
    let e₁ : string_bytes c.put_said.new.out ≡ old ++ (t ++ said) = goes_on t said [] old mid _ begun c.in_ok-put_said.ensures in
    let e₂ : string_bytes c.put_more.new.out ≡ old ++ (t ++ said ++ more) = goes_on (t ++ said) more [] old _ _ e₁ c.in_ok-put_more.ensures in
    is_ended c.writeln.result (t ++ said ++ more) (codes "</title></rect>\n") [] old _ (string_bytes c.writeln.new.self) e₂ c.writeln.ensures.bytes
