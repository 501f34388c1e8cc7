use Rattle.std.proofs.Common.{◌≡◌, ◌++◌, List, [], ◌∷◌, ℕ, codes, subst}
use Rattle.std.specs.Prelude.{OnOk, string_bytes}
use Rattle.offset_pictures.specs.declared.figures.Figures.{Figures}
use Rattle.offset_pictures.specs.{Numerals.grouped_text, Legend.plural}
use Rattle.offset_pictures.proofs.Texts.{in_a_row, is_begun, is_ended}
use Rattle.offset_pictures.proofs.legend.put_worst.Goals as goal

pub returns : goal.returns
returns c =
    let f : Figures = c.args.figures.now in
    let a : List ℕ = codes "<text class='figures' x='24' y='89'>Largest free region at the worst moment: " in
    let begun = is_begun a (grouped_text f.worst_region ∷ codes " units, " ∷ []) (string_bytes c.args.out.now) (string_bytes c.write.new.self) c.in_ok-write.ensures.bytes in
    is_ended c.writeln.result (a ++ grouped_text f.worst_region ++ codes " units, ") (codes "of ")
    (grouped_text f.worst_free ∷ codes " free, after " ∷ grouped_text f.worst ∷ codes " call" ∷ plural f.worst ∷ codes ".</text>\n" ∷ []) (string_bytes c.args.out.now) (string_bytes c.write.new.self)
    (string_bytes c.writeln.new.self) begun
    (subst (λ (s : List ℕ). OnOk c.writeln.result (string_bytes c.writeln.new.self ≡ string_bytes c.write.new.self
    ++ in_a_row (codes "of ") (grouped_text f.worst_free ∷ codes " free, after " ∷ grouped_text f.worst ∷ codes " call" ∷ s ∷ codes ".</text>\n" ∷ []))) c.plural-s.ensures c.writeln.ensures.bytes)
