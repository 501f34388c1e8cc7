use Rattle.std.proofs.lemmas.List.{get_or-map, length-map}
use Rattle.std.proofs.lemmas.List.Sorted.{IsNonDecreasingBy-from_sort}
use Rattle.std.proofs.Common.{◌≡◌, ℕ, ◌<◌, ◌≤◌, [], ◌∷◌, ◌++◌, length, map, ◌∙◌, List, Some, true, false, get_or, arith, ap, subst, sym}
use Rattle.std.specs.{Prelude.IsPermutation, List.Sorted.IsNonDecreasing}
use Rattle.offset_pictures.specs.declared.living.Life.{Life}
use Rattle.offset_pictures.specs.declared.plots.Plot.{Plot}
use Rattle.offset_pictures.specs.declared.shapes.Shape.{Shape}
use Rattle.offset_pictures.specs.Merging.{is_tiny, join, key_of, large_shapes, merge, shape_of_key, tiny_shapes, touch}
use Rattle.offset_pictures.specs.Shapes.{shape_of}
use Rattle.offset_pictures.proofs.Merged.{no_last}
use Rattle.offset_pictures.proofs.Listed.{large_is_pushed, large_stay, tiny_is_pushed, tiny_stay, large_all, tiny_all, one_joins, one_is_done, one_starts, last_is_done, none_is_done}
use Rattle.offset_pictures.proofs.merging.merged_shapes.Goals as goal
use Rattle.offset_pictures.proofs.merging.merged_shapes.Goals.{then-is_tiny+in_ok-push, else-is_tiny+in_ok-push-2, in-Some, in-Some-2+in_ok-push-in-Some-2, in-None, in-Some-last+in_ok-push-3}
use Rattle.offset_pictures.proofs.merging.merged_shapes.Goals.{in_default}

pub loop-life-preserved : goal.loop-life-preserved
loop-life-preserved c =
    let plot : Plot = c.args.plot.now in
    let ls : List Life = c.args.lives.now in
    let i = c.loop-life.life-index in
    let none : Life = record { number = 0; offset = 0; size = 0; first = 0; last = 0; lived = 0 } in
    let shape : Shape = c.shape_of-shape.result in
    let is : shape ≡ shape_of plot (get_or ls i none) = c.shape_of-shape.ensures.shape in
    let less : i < length ls = omega arith in
    elim c.if-is_tiny.branch [
      | then-is_tiny+in_ok-push w ↦
          let is_so : is_tiny shape ≡ true = sym c.is_tiny.ensures ∙ w.if-is_tiny.true in
          let pushed = ap (λ v. v.items) w.tiny-is ∙ w.in_ok-push.ensures.items in
          record {
            large = large_stay plot i none shape ls c.loop-life.found.items c.if-is_tiny.found.items (large_shapes plot ls) less is is_so (ap (λ v. v.items) w.found-is) c.loop-life.invariant.large;
            tiny = tiny_is_pushed plot i none shape ls c.loop-life.tiny.items c.if-is_tiny.tiny.items (map key_of (tiny_shapes plot ls)) less is is_so
                (pushed ∙ ap (λ (k : ℕ). c.loop-life.tiny.items ++ k ∷ []) (w.key_of.ensures.is ∙ ap key_of w.round_out.ensures)) c.loop-life.invariant.tiny;
          }
      | else-is_tiny+in_ok-push-2 w ↦
          let is_not : is_tiny shape ≡ false = sym c.is_tiny.ensures ∙ w.if-is_tiny.false in
          let pushed = ap (λ v. v.items) w.found-is ∙ w.in_ok-push-2.ensures.items in
          record {
            large = large_is_pushed plot i none shape ls c.loop-life.found.items c.if-is_tiny.found.items (large_shapes plot ls) less is is_not pushed c.loop-life.invariant.large;
            tiny = tiny_stay plot i none shape ls c.loop-life.tiny.items c.if-is_tiny.tiny.items (map key_of (tiny_shapes plot ls)) less is is_not
                (ap (λ v. v.items) w.tiny-is) c.loop-life.invariant.tiny;
          }
    ]

pub loop-key-preserved : goal.loop-key-preserved
loop-key-preserved c =
    let keys : List ℕ = c.deref-key-items.result.now in
    let tiny : List Shape = map shape_of_key keys in
    let i = c.loop-key.key-index in
    let none : Shape = record { top = 0; bottom = 0; age = 0; left = 0; right = 0 } in
    let b : Shape = c.shape_of_key-shape.result in
    let within : i < length keys = omega arith in
    let less : i < length tiny = omega (arith, length-map keys shape_of_key) in
    let at : b ≡ get_or tiny i none = c.shape_of_key-shape.ensures ∙ sym (get_or-map shape_of_key keys i 0 none within) in
    let found : List Shape = c.loop-key.found.items in
    let more : List Shape = c.match-last.found.items in
    let whole : List Shape = c.loop-life.found.items ++ merge tiny in
    elim c.match-last.branch [
      | in-Some w ↦
          let a : Shape = w.in-Some.before in
          let same : more ≡ found = ap (λ v. v.items) w.found-is in
          let joined = w.last-is ∙ ap Some w.join.ensures ∙ ap (λ x. Some (join x b)) w.in-Some.before-is in
          let touching = ap (λ x. touch x b) (sym w.in-Some.before-is) ∙ sym w.touch.ensures ∙ w.if-touch.true in
          record {
            listed = one_joins i none a b c.loop-key.last c.match-last.last tiny found more whole less at touching same w.in-Some.is joined c.loop-key.invariant.listed;
          }
      | in-Some-2+in_ok-push-in-Some-2 w ↦
          let a : Shape = w.in-Some-2.before in
          let pushed = ap (λ v. v.items) w.found-is ∙ w.in_ok-push-in-Some-2.ensures.items in
          let tested : a ≡ w.in-Some.before = let e = w.in-Some-2.is in let f = w.in-Some.is in cc in
          let apart = ap (λ x. touch x b) (tested ∙ sym w.in-Some.before-is) ∙ sym w.touch.ensures ∙ w.if-touch.false in
          record {
            listed = one_is_done i none a b c.loop-key.last c.match-last.last tiny found more whole less at apart pushed w.in-Some-2.is w.last-is c.loop-key.invariant.listed;
          }
      | in-None w ↦
          let same : more ≡ found = ap (λ v. v.items) w.found-is in
          record {
            listed = one_starts i none b c.loop-key.last c.match-last.last tiny found more whole less at same w.in-None.is w.last-is c.loop-key.invariant.listed;
          }
    ]

pub returns : goal.returns
returns c =
    let plot : Plot = c.args.plot.now in
    let ls : List Life = c.args.lives.now in
    let keys : List ℕ = c.deref-key-items.result.now in
    let tiny : List Shape = map shape_of_key keys in
    let last = c.loop-key.last in
    let whole : List Shape = c.loop-life.found.items ++ merge tiny in
    let every : length ls ≤ c.loop-life.life-index = omega arith in
    let each : length tiny ≤ c.loop-key.key-index = omega (arith, length-map keys shape_of_key) in
    let numbers = tiny_all plot c.loop-life.life-index ls c.loop-life.tiny.items (map key_of (tiny_shapes plot ls)) every c.loop-life.invariant.tiny in
    let same : IsPermutation c.loop-life.tiny.items keys = subst (IsPermutation c.loop-life.tiny.items) (sym c.deref-key-items.ensures.value) c.sort.ensures.permutation in
    let large = large_all plot c.loop-life.life-index ls c.loop-life.found.items (large_shapes plot ls) every c.loop-life.invariant.large in
    let listed : c.match-last-2.found.items ≡ whole =
    elim c.match-last-2.branch [
      | in-Some-last+in_ok-push-3 w ↦ last_is_done c.loop-key.key-index w.in-Some-last.before last tiny c.loop-key.found.items c.match-last-2.found.items whole each
          (ap (λ v. v.items) w.found-is ∙ w.in_ok-push-3.ensures.items) w.in-Some-last.is c.loop-key.invariant.listed
      | in_default w ↦ none_is_done c.loop-key.key-index last tiny c.loop-key.found.items c.match-last-2.found.items whole each (ap (λ v. v.items) w.found-is) (no_last last w.in_default.not-Some)
          c.loop-key.invariant.listed
    ] in (
      keys,
      subst (λ (ks : List ℕ). IsPermutation ks keys) numbers same,
      subst IsNonDecreasing (sym c.deref-key-items.ensures.value) (IsNonDecreasingBy-from_sort (λ x. x) _ c.in_ok-sort.ensures.sorted),
      listed ∙ ap (λ (x : List Shape). x ++ merge tiny) large,
    )
