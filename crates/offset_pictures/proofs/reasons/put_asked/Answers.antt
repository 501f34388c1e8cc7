use Rattle.std.proofs.Common.{◌≡◌, ℕ, ◌++◌, List, [], ◌∷◌, codes, subst, sym}
use Rattle.std.specs.{Fmt.decimal, Prelude.OnOk, Prelude.string_bytes}
use Rattle.offset_pictures.specs.declared.refusing.Asked.{Asked}
use Rattle.offset_pictures.specs.Reasons.{asked_text, rounded_text}
use Rattle.offset_pictures.proofs.Texts.{is_begun, is_ended}
use Rattle.offset_pictures.proofs.reasons.put_asked.Goals as goal

pub returns-in_ok-write-in-Alloc : goal.returns-in_ok-write-in-Alloc
returns-in_ok-write-in-Alloc c =
    let old : List ℕ = string_bytes c.args.out.now in
    let new : List ℕ = string_bytes c.put_rounded.new.out in
    let n : ℕ = c.in-Alloc.size in
    let begun = is_begun (codes "alloc ") (decimal n ∷ []) old (string_bytes c.write.new.self) c.in_ok-write-in-Alloc.ensures.bytes in
    subst (λ (a : Asked). OnOk c.put_rounded.result (new ≡ old ++ asked_text a)) (sym c.in-Alloc.is)
    (is_ended c.put_rounded.result (codes "alloc " ++ decimal n) (rounded_text n) [] old _ new begun
    (subst (λ (units : ℕ). OnOk c.put_rounded.result (new ≡ string_bytes c.write.new.self ++ rounded_text units)) c.from.ensures c.put_rounded.ensures))
