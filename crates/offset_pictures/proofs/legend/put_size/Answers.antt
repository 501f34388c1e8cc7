use Rattle.std.proofs.Common.{◌≡◌, ◌++◌, ◌∙◌, List, [], ◌∷◌, ℕ, codes, ap, subst, lt-ltb, le-ltb, nat_lt, if◌then◌else◌}
use Rattle.std.specs.Prelude.{string_bytes}
use Rattle.offset_pictures.specs.declared.figures.Figures.{Figures}
use Rattle.offset_pictures.specs.{Numerals.grouped_text, Legend.plural}
use Rattle.offset_pictures.proofs.Texts.{in_a_row, is_begun, is_ended, is_put, is_left_out}
use Rattle.offset_pictures.proofs.legend.put_size.Goals as goal
use Rattle.offset_pictures.proofs.legend.put_size.Goals.{then-figures+in_ok-write-2, else-figures}

pub returns : goal.returns
returns c =
    let f : Figures = c.args.figures.now in
    let old : List ℕ = string_bytes c.args.out.now in
    let mid : List ℕ = string_bytes c.write.new.self in
    let a : List ℕ = codes "<text class='figures' x='24' y='49'>" in
    let with_s : mid ≡ old ++ in_a_row a (grouped_text f.calls ∷ codes " call" ∷ plural f.calls ∷ codes " on a space of " ∷ grouped_text f.first_size ∷ codes " units" ∷ []) =
    subst (λ (s : List ℕ). mid ≡ old ++ in_a_row a (grouped_text f.calls ∷ codes " call" ∷ s ∷ codes " on a space of " ∷ grouped_text f.first_size ∷ codes " units" ∷ [])) c.plural-s.ensures
    c.in_ok-write.ensures.bytes in
    let t : List ℕ = a ++ grouped_text f.calls ++ codes " call" ++ plural f.calls ++ codes " on a space of " ++ grouped_text f.first_size ++ codes " units" in
    let begun : mid ≡ old ++ t = is_begun a (grouped_text f.calls ∷ codes " call" ∷ plural f.calls ∷ codes " on a space of " ∷ grouped_text f.first_size ∷ codes " units" ∷ []) old mid with_s in
    let p : List ℕ = codes ", extended to " ++ grouped_text f.largest_size in
    let grown = nat_lt f.first_size f.largest_size in
    let extended : string_bytes c.if-figures.out ≡ old ++ (t ++ (if grown then p else [])) =
    elim c.if-figures.branch [
      | then-figures+in_ok-write-2 w ↦ is_put grown t p old mid _ (lt-ltb _ _ w.if-figures.true) begun (ap string_bytes w.out-is ∙ w.in_ok-write-2.ensures.bytes)
      | else-figures w ↦ is_left_out grown t p old mid _ (le-ltb _ _ w.if-figures.false) begun (ap string_bytes w.out-is)
    ] in
    is_ended c.writeln.result (t ++ (if grown then p else [])) (codes ", with ") (grouped_text c.args.max_allocs ∷ codes " nodes</text>\n" ∷ []) old (string_bytes c.if-figures.out)
    (string_bytes c.writeln.new.self) extended
    c.writeln.ensures.bytes
