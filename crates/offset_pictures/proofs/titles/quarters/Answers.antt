use Rattle.std.proofs.Common.{◌≡◌, ℕ, ◌+◌, ◌<◌, ◌∙◌, List, length, get_or, take, take_all, ap, arith, min}
use Rattle.std.proofs.lemmas.Iterator.{YieldsList-from_chars}
use Rattle.std.proofs.lemmas.Iterator.Consumers.{YieldsList-turn, YieldsList-end}
use Rattle.std.proofs.lemmas.List.{length_push, take_more}
use Rattle.std.proofs.lemmas.List.Sums.{sum_by_push}
use Rattle.std.specs.Prelude.{chars, sum_by}
use Rattle.offset_pictures.specs.Titles.{quarters, width_of}
use Rattle.offset_pictures.proofs.titles.quarters.Goals as goal

-- one more character
more : (cs : List ℕ) (i c old width new : ℕ) → (i < length cs) × (c ≡ get_or cs i c) → old ≡ quarters (take i cs) → width ≡ width_of c → new ≡ min (old + width) 18446744073709551615
    → new ≡ quarters (take (i + 1) cs)
more cs i c old width new at so_far is e =
    let next : sum_by width_of (take (i + 1) cs) ≡ sum_by width_of (take i cs) + width_of (get_or cs i c) =
    ap (sum_by width_of) (take_more cs i c at.0) ∙ sum_by_push width_of (take i cs) (get_or cs i c) in
    let this : width ≡ width_of (get_or cs i c) = is ∙ ap width_of at.1 in
    omega (arith, next, this, so_far, e)

pub loop-c-preserved : goal.loop-c-preserved
loop-c-preserved c =
    let t = YieldsList-turn (YieldsList-from_chars c.args.text.now c.utf8.text cc) c.loop-c.yielded _ c.loop-c.yielded_by _ _ c.in-Some.c c.in-Some.is c.next.ensures.steps in
    let n = length_push c.loop-c.yielded c.in-Some.c in (
      omega (arith, t.0),
      rw n (more (chars c.args.text.now) (length c.loop-c.yielded) c.in-Some.c c.loop-c.width c.width_of.result c.saturating_add-width.result t c.loop-c.invariant.1 c.width_of.ensures
          c.saturating_add-width.ensures),
    )

pub returns : goal.returns
returns c =
    let t = YieldsList-end (YieldsList-from_chars c.args.text.now c.utf8.text cc) c.loop-c.yielded _ c.loop-c.yielded_by _ _ c.in-None.is c.next.ensures.steps in
    c.loop-c.invariant.1 ∙ ap quarters (take_all (length c.loop-c.yielded) (chars c.args.text.now) (omega (arith, t.1)))
