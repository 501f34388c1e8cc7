use Rattle.std.proofs.Common.{◌≡◌, ℕ, ◌+◌, ◌<◌, ◌∙◌, List, [], ◌∷◌, ◌++◌, length, get_or, take, take_all, sym, ap, arith}
use Rattle.std.proofs.lemmas.Iterator.{YieldsList-from_chars}
use Rattle.std.proofs.lemmas.Iterator.Consumers.{YieldsList-turn, YieldsList-end}
use Rattle.std.proofs.lemmas.List.{flat_map_more, length_push, take_more}
use Rattle.std.specs.Prelude.{chars, flat_map, string_bytes}
use Rattle.offset_pictures.specs.Titles.{escape}
use Rattle.offset_pictures.proofs.titles.put_escaped.Goals as goal

-- one more character was written
more : (old cs out new : List ℕ) (i c : ℕ) → (i < length cs) × (c ≡ get_or cs i c) → out ≡ old ++ flat_map escape (take i cs) → new ≡ out ++ escape c → new ≡ old ++ flat_map escape (take (i + 1) cs)
more old cs out new i c at so_far put =
    put ∙ ap (λ o. o ++ escape c) so_far ∙ flat_map_more escape old (take i cs) c
    ∙ ap (λ x. old ++ flat_map escape (take i cs ++ x ∷ [])) at.1 ∙ ap (λ l. old ++ flat_map escape l) (sym (take_more cs i c at.0))

pub loop-c-preserved : goal.loop-c-preserved
loop-c-preserved c =
    let t = YieldsList-turn (YieldsList-from_chars c.args.text.now c.utf8.text cc) c.loop-c.yielded _ c.loop-c.yielded_by _ _ c.in-Some.c c.in-Some.is c.next.ensures.steps in
    let n = length_push c.loop-c.yielded c.in-Some.c in (
      omega (arith, t.0),
      rw n (more _ (chars c.args.text.now) _ _ (length c.loop-c.yielded) c.in-Some.c t c.loop-c.invariant.1 c.in_ok-put_char.ensures),
    )

pub returns : goal.returns
returns c =
    let t = YieldsList-end (YieldsList-from_chars c.args.text.now c.utf8.text cc) c.loop-c.yielded _ c.loop-c.yielded_by _ _ c.in-None.is c.next.ensures.steps in
    c.loop-c.invariant.1 ∙ ap (λ l. string_bytes c.args.out.now ++ flat_map escape l) (take_all (length c.loop-c.yielded) (chars c.args.text.now) (omega (arith, t.1)))
