use Rattle.std.proofs.Common.{◌≡◌, ◌++◌, ◌∙◌, List, [], ◌∷◌, ℕ, codes, ap, subst, sym, append-nil}
use Rattle.std.specs.Prelude.{string_bytes}
use Rattle.offset_pictures.specs.{Numerals.grouped_text, Figures.counted, Legend.merged_text}
use Rattle.offset_pictures.proofs.Texts.{in_a_row, is_begun, goes_on, is_ended, is_none}
use Rattle.offset_pictures.proofs.legend.put_notes.Goals as goal
use Rattle.offset_pictures.proofs.legend.put_notes.Goals.{in-Some+in_ok-write-2, in_default}

pub returns : goal.returns
returns c =
    let old : List ℕ = string_bytes c.args.out.now in
    let mid : List ℕ = string_bytes c.write.new.self in
    let t : List ℕ = codes "<text x='24' y='828'>Ranges thinner than 0.3 pixels are drawn 0.3 pixels thick." in
    let begun : mid ≡ old ++ t = is_begun t [] old mid c.in_ok-write.ensures.bytes in
    let a : List ℕ = codes " No titles, and those below 0.1 pixels are merged into their neighbours: " in
    let b : List ℕ = codes " rectangles." in
    let new : List ℕ = string_bytes c.match-merged.out in
    let said : new ≡ old ++ (t ++ merged_text c.args.merged) =
    elim c.match-merged.branch [
      | in-Some+in_ok-write-2 w ↦
          let n : ℕ = counted w.in-Some.count in
          let put : new ≡ mid ++ in_a_row a (grouped_text n ∷ b ∷ []) =
          subst (λ (k : ℕ). new ≡ mid ++ in_a_row a (grouped_text k ∷ b ∷ [])) w.counted.ensures (ap string_bytes w.out-is ∙ w.in_ok-write-2.ensures.bytes) in
          goes_on t (a ++ grouped_text n ++ b) [] old mid new begun (is_begun a (grouped_text n ∷ b ∷ []) mid new put) ∙ ap (λ m. old ++ (t ++ merged_text m)) (sym w.in-Some.is)
      | in_default w ↦
          ap string_bytes w.out-is ∙ begun ∙ ap (λ x. old ++ x) (sym (append-nil t)) ∙ ap (λ m. old ++ (t ++ merged_text m)) (sym (is_none c.args.merged w.in_default.not-Some))
    ] in
    is_ended c.writeln.result (t ++ merged_text c.args.merged) (codes "</text>\n") [] old new (string_bytes c.writeln.new.self) said c.writeln.ensures.bytes
