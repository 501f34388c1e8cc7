use Rattle.std.proofs.Common.{◌≡◌, ◌++◌, ◌<◌, List, [], ◌∷◌, ℕ, codes, subst, sym, lt-ltb, if◌then◌else◌, arith}
use Rattle.std.specs.Prelude.{OnOk, string_bytes}
use Rattle.offset_pictures.specs.declared.figures.Figures.{Figures}
use Rattle.offset_pictures.specs.{Numerals.grouped_text, Numerals.pixels_text, Legend.plural}
use Rattle.offset_pictures.proofs.Texts.{in_a_row, is_begun, is_ended}
use Rattle.offset_pictures.proofs.legend.put_full.Goals as goal

pub returns : goal.returns
returns c =
    let f : Figures = c.args.figures.now in
    let old : List ℕ = string_bytes c.args.out.now in
    let mid : List ℕ = string_bytes c.write.new.self in
    let new : List ℕ = string_bytes c.writeln.new.self in
    let a : List ℕ = codes "<text class='end' x='" in
    let with_s : mid ≡ old
    ++ in_a_row a (pixels_text 117000 ∷ codes "' y='" ∷ pixels_text 62000 ∷ codes "'>At the node limit, " ∷ grouped_text f.full_states ∷ codes " time" ∷ plural f.full_states ∷ codes ", " ∷ []) =
    subst (λ (s : List ℕ). mid ≡ old
    ++ in_a_row a (pixels_text 117000 ∷ codes "' y='" ∷ pixels_text 62000 ∷ codes "'>At the node limit, " ∷ grouped_text f.full_states ∷ codes " time" ∷ s ∷ codes ", " ∷ [])) c.plural-s.ensures
    c.in_ok-write.ensures.bytes in
    let t : List ℕ = a ++ pixels_text 117000 ++ codes "' y='" ++ pixels_text 62000 ++ codes "'>At the node limit, " ++ grouped_text f.full_states ++ codes " time" ++ plural f.full_states
    ++ codes ", " in
    let begun : mid ≡ old ++ t =
    is_begun a (pixels_text 117000 ∷ codes "' y='" ∷ pixels_text 62000 ∷ codes "'>At the node limit, " ∷ grouped_text f.full_states ∷ codes " time" ∷ plural f.full_states ∷ codes ", "
    ∷ []) old mid with_s in
    let b : List ℕ = codes "0 units are reported as free.</text>\n" in
    let ended : OnOk c.writeln.result (new ≡ old ++ (t ++ b)) = is_ended c.writeln.result t b [] old mid new begun c.writeln.ensures.bytes in
    let ne = c.if-figures-eq0.false in
    let some : 0 < f.full_states = omega arith in
    subst (λ x. OnOk c.writeln.result (new ≡ old ++ (if x then t ++ b else []))) (sym (lt-ltb 0 f.full_states some)) ended
