use Rattle.std.proofs.Common.{◌≡◌, ◌++◌, List, [], ◌∷◌, ℕ, codes, subst}
use Rattle.std.specs.Prelude.{OnOk, string_bytes}
use Rattle.offset_pictures.specs.declared.figures.Figures.{Figures}
use Rattle.offset_pictures.specs.{Numerals.grouped_text, Numerals.share_of, Numerals.share_text, Legend.plural}
use Rattle.offset_pictures.proofs.Texts.{in_a_row, is_begun, is_ended}
use Rattle.offset_pictures.proofs.legend.put_use.Goals as goal

pub returns : goal.returns
returns c =
    let f : Figures = c.args.figures.now in
    let old : List ℕ = string_bytes c.args.out.now in
    let mid : List ℕ = string_bytes c.write.new.self in
    let new : List ℕ = string_bytes c.writeln.new.self in
    let a : List ℕ = codes "<text class='figures' x='24' y='69'>" in
    let with_s : mid ≡ old
    ++ in_a_row a (grouped_text f.grants ∷ codes " grant" ∷ plural f.grants ∷ codes ", " ∷ grouped_text f.refusals ∷ codes " refusal" ∷ c.plural-ends.result.now ∷ codes "; at most "
    ∷ grouped_text f.most_live ∷ codes " live at once. " ∷ []) =
    subst (λ (s : List ℕ). mid ≡ old
    ++ in_a_row a (grouped_text f.grants ∷ codes " grant" ∷ s ∷ codes ", " ∷ grouped_text f.refusals ∷ codes " refusal" ∷ c.plural-ends.result.now ∷ codes "; at most " ∷ grouped_text f.most_live
    ∷ codes " live at once. " ∷ []))
    c.plural-s.ensures c.in_ok-write.ensures.bytes in
    let with_both : mid ≡ old
    ++ in_a_row a (grouped_text f.grants ∷ codes " grant" ∷ plural f.grants ∷ codes ", " ∷ grouped_text f.refusals ∷ codes " refusal" ∷ plural f.refusals ∷ codes "; at most "
    ∷ grouped_text f.most_live ∷ codes " live at once. " ∷ []) =
    subst (λ (s : List ℕ). mid ≡ old
    ++ in_a_row a (grouped_text f.grants ∷ codes " grant" ∷ plural f.grants ∷ codes ", " ∷ grouped_text f.refusals ∷ codes " refusal" ∷ s ∷ codes "; at most " ∷ grouped_text f.most_live
    ∷ codes " live at once. " ∷ []))
    c.plural-ends.ensures with_s in
    let begun = is_begun a (grouped_text f.grants ∷ codes " grant" ∷ plural f.grants ∷ codes ", " ∷ grouped_text f.refusals ∷ codes " refusal" ∷ plural f.refusals ∷ codes "; at most "
    ∷ grouped_text f.most_live ∷ codes " live at once. " ∷ []) old mid with_both in
    is_ended c.writeln.result
    (a ++ grouped_text f.grants ++ codes " grant" ++ plural f.grants ++ codes ", " ++ grouped_text f.refusals ++ codes " refusal" ++ plural f.refusals ++ codes "; at most " ++ grouped_text f.most_live
    ++ codes " live at once. ")
    (codes "Most in use: ")
    (grouped_text f.most_used ∷ codes " of " ∷ grouped_text f.size_then ∷ codes " units, " ∷ share_text (share_of f.most_used f.size_then) ∷ codes " percent.</text>\n" ∷ []) old mid new begun
    (subst (λ (n : ℕ). OnOk c.writeln.result (new ≡ mid ++ in_a_row (codes "Most in use: ")
    (grouped_text f.most_used ∷ codes " of " ∷ grouped_text f.size_then ∷ codes " units, " ∷ share_text n ∷ codes " percent.</text>\n" ∷ []))) c.share_of-share.ensures c.writeln.ensures.bytes)
