-- Which rectangles many lives have, in their order, and which are still to come.
use Rattle.std.proofs.Common.{◌≡◌, ℕ, ◌+◌, ◌<◌, ◌≤◌, ◌∙◌, Bool, true, false, not, cond, List, [], ◌∷◌, ◌++◌, Option, Some, None, append_assoc, append-nil, get_or, drop, length, map, sym, ap}
use Rattle.std.proofs.lemmas.List.{at_drop_more, at_drop_all}
use Rattle.std.specs.Prelude.{filter}
use Rattle.offset_pictures.specs.declared.living.Life.{Life}
use Rattle.offset_pictures.specs.declared.plots.Plot.{Plot}
use Rattle.offset_pictures.specs.declared.shapes.Shape.{Shape}
use Rattle.offset_pictures.specs.Merging.{is_tiny, join, key_of, large_shapes, merge, merge_after, round_out, tiny_shapes, touch}
use Rattle.offset_pictures.specs.Shapes.{shape_of}

-- ---- the rectangles that are not tiny, and the numbers of those that are

-- those to come, the first of which is this one
large_next : (plot : Plot) (i : ℕ) (d : Life) (s : Shape) (ls : List Life) (t : Bool) → i < length ls → s ≡ shape_of plot (get_or ls i d) → is_tiny s ≡ t
    → large_shapes plot (drop i ls) ≡ cond (not t) (s ∷ large_shapes plot (drop (i + 1) ls)) (large_shapes plot (drop (i + 1) ls))
large_next plot i d s ls t less is e =
    at_drop_more (large_shapes plot) ls i d less
    ∙ ap (λ (x : Shape). cond (not (is_tiny x)) (x ∷ large_shapes plot (drop (i + 1) ls)) (large_shapes plot (drop (i + 1) ls))) (sym is)
    ∙ ap (λ b. cond (not b) (s ∷ large_shapes plot (drop (i + 1) ls)) (large_shapes plot (drop (i + 1) ls))) e

tiny_next : (plot : Plot) (i : ℕ) (d : Life) (s : Shape) (ls : List Life) (t : Bool) → i < length ls → s ≡ shape_of plot (get_or ls i d) → is_tiny s ≡ t
    → map key_of (tiny_shapes plot (drop i ls)) ≡ cond t (key_of (round_out s) ∷ map key_of (tiny_shapes plot (drop (i + 1) ls))) (map key_of (tiny_shapes plot (drop (i + 1) ls)))
tiny_next plot i d s ls true less is e =
    at_drop_more (λ l. map key_of (tiny_shapes plot l)) ls i d less
    ∙ ap (λ (x : Shape). map key_of (map round_out (cond (is_tiny x) (x ∷ filter is_tiny (map (shape_of plot) (drop (i + 1) ls))) (filter is_tiny (map (shape_of plot) (drop (i + 1) ls)))))) (sym is)
    ∙ ap (λ b. map key_of (map round_out (cond b (s ∷ filter is_tiny (map (shape_of plot) (drop (i + 1) ls))) (filter is_tiny (map (shape_of plot) (drop (i + 1) ls)))))) e
tiny_next plot i d s ls false less is e =
    at_drop_more (λ l. map key_of (tiny_shapes plot l)) ls i d less
    ∙ ap (λ (x : Shape). map key_of (map round_out (cond (is_tiny x) (x ∷ filter is_tiny (map (shape_of plot) (drop (i + 1) ls))) (filter is_tiny (map (shape_of plot) (drop (i + 1) ls)))))) (sym is)
    ∙ ap (λ b. map key_of (map round_out (cond b (s ∷ filter is_tiny (map (shape_of plot) (drop (i + 1) ls))) (filter is_tiny (map (shape_of plot) (drop (i + 1) ls)))))) e

pub large_is_pushed : (plot : Plot) (i : ℕ) (d : Life) (s : Shape) (ls : List Life) (found more whole : List Shape) → i < length ls → s ≡ shape_of plot (get_or ls i d) → is_tiny s ≡ false
    → more ≡ found ++ s ∷ [] → found ++ large_shapes plot (drop i ls) ≡ whole → more ++ large_shapes plot (drop (i + 1) ls) ≡ whole
large_is_pushed plot i d s ls found more whole less is e push before =
    ap (λ x. x ++ large_shapes plot (drop (i + 1) ls)) push ∙ append_assoc found (s ∷ []) _ ∙ ap (λ x. found ++ x) (sym (large_next plot i d s ls false less is e)) ∙ before

pub large_stay : (plot : Plot) (i : ℕ) (d : Life) (s : Shape) (ls : List Life) (found more whole : List Shape) → i < length ls → s ≡ shape_of plot (get_or ls i d) → is_tiny s ≡ true
    → more ≡ found → found ++ large_shapes plot (drop i ls) ≡ whole → more ++ large_shapes plot (drop (i + 1) ls) ≡ whole
large_stay plot i d s ls found more whole less is e same before =
    ap (λ x. x ++ large_shapes plot (drop (i + 1) ls)) same ∙ ap (λ x. found ++ x) (sym (large_next plot i d s ls true less is e)) ∙ before

pub tiny_is_pushed : (plot : Plot) (i : ℕ) (d : Life) (s : Shape) (ls : List Life) (keys more whole : List ℕ) → i < length ls → s ≡ shape_of plot (get_or ls i d) → is_tiny s ≡ true
    → more ≡ keys ++ key_of (round_out s) ∷ [] → keys ++ map key_of (tiny_shapes plot (drop i ls)) ≡ whole → more ++ map key_of (tiny_shapes plot (drop (i + 1) ls)) ≡ whole
tiny_is_pushed plot i d s ls keys more whole less is e push before =
    ap (λ x. x ++ map key_of (tiny_shapes plot (drop (i + 1) ls))) push ∙ append_assoc keys (key_of (round_out s) ∷ []) _
    ∙ ap (λ x. keys ++ x) (sym (tiny_next plot i d s ls true less is e)) ∙ before

pub tiny_stay : (plot : Plot) (i : ℕ) (d : Life) (s : Shape) (ls : List Life) (keys more whole : List ℕ) → i < length ls → s ≡ shape_of plot (get_or ls i d) → is_tiny s ≡ false
    → more ≡ keys → keys ++ map key_of (tiny_shapes plot (drop i ls)) ≡ whole → more ++ map key_of (tiny_shapes plot (drop (i + 1) ls)) ≡ whole
tiny_stay plot i d s ls keys more whole less is e same before =
    ap (λ x. x ++ map key_of (tiny_shapes plot (drop (i + 1) ls))) same ∙ ap (λ x. keys ++ x) (sym (tiny_next plot i d s ls false less is e)) ∙ before

pub large_all : (plot : Plot) (i : ℕ) (ls : List Life) (found whole : List Shape) → length ls ≤ i → found ++ large_shapes plot (drop i ls) ≡ whole → found ≡ whole
large_all plot i ls found whole all before = sym (append-nil found) ∙ ap (λ x. found ++ x) (sym (at_drop_all (large_shapes plot) ls i all)) ∙ before

pub tiny_all : (plot : Plot) (i : ℕ) (ls : List Life) (keys whole : List ℕ) → length ls ≤ i → keys ++ map key_of (tiny_shapes plot (drop i ls)) ≡ whole → keys ≡ whole
tiny_all plot i ls keys whole all before = sym (append-nil keys) ∙ ap (λ x. keys ++ x) (sym (at_drop_all (λ l. map key_of (tiny_shapes plot l)) ls i all)) ∙ before

-- ---- merging: the last rectangle, which may still grow, before those to come

abbrev pub growing : Option Shape → List Shape → List Shape
growing None bs = merge bs
growing (Some a) bs = merge_after a bs

merged_next : (i : ℕ) (d a b : Shape) (tiny : List Shape) (t : Bool) → i < length tiny → b ≡ get_or tiny i d → touch a b ≡ t
    → merge_after a (drop i tiny) ≡ cond t (merge_after (join a b) (drop (i + 1) tiny)) (a ∷ merge_after b (drop (i + 1) tiny))
merged_next i d a b tiny t less is e =
    at_drop_more (merge_after a) tiny i d less
    ∙ ap (λ (x : Shape). cond (touch a x) (merge_after (join a x) (drop (i + 1) tiny)) (a ∷ merge_after x (drop (i + 1) tiny))) (sym is)
    ∙ ap (λ c. cond c (merge_after (join a b) (drop (i + 1) tiny)) (a ∷ merge_after b (drop (i + 1) tiny))) e

pub one_joins : (i : ℕ) (d a b : Shape) (last next : Option Shape) (tiny found more whole : List Shape) → i < length tiny → b ≡ get_or tiny i d → touch a b ≡ true → more ≡ found → last ≡ Some a
    → next ≡ Some (join a b) → found ++ growing last (drop i tiny) ≡ whole → more ++ growing next (drop (i + 1) tiny) ≡ whole
one_joins i d a b last next tiny found more whole less is e same last-is next-is before =
    ap (λ x. x ++ growing next (drop (i + 1) tiny)) same ∙ ap (λ x. found ++ growing x (drop (i + 1) tiny)) next-is
    ∙ ap (λ x. found ++ x) (sym (merged_next i d a b tiny true less is e)) ∙ ap (λ x. found ++ growing x (drop i tiny)) (sym last-is) ∙ before

pub one_is_done : (i : ℕ) (d a b : Shape) (last next : Option Shape) (tiny found more whole : List Shape) → i < length tiny → b ≡ get_or tiny i d → touch a b ≡ false → more ≡ found ++ a ∷ []
    → last ≡ Some a → next ≡ Some b → found ++ growing last (drop i tiny) ≡ whole → more ++ growing next (drop (i + 1) tiny) ≡ whole
one_is_done i d a b last next tiny found more whole less is e push last-is next-is before =
    ap (λ x. x ++ growing next (drop (i + 1) tiny)) push ∙ append_assoc found (a ∷ []) _ ∙ ap (λ x. found ++ a ∷ growing x (drop (i + 1) tiny)) next-is
    ∙ ap (λ x. found ++ x) (sym (merged_next i d a b tiny false less is e)) ∙ ap (λ x. found ++ growing x (drop i tiny)) (sym last-is) ∙ before

pub one_starts : (i : ℕ) (d b : Shape) (last next : Option Shape) (tiny found more whole : List Shape) → i < length tiny → b ≡ get_or tiny i d → more ≡ found → last ≡ None → next ≡ Some b
    → found ++ growing last (drop i tiny) ≡ whole → more ++ growing next (drop (i + 1) tiny) ≡ whole
one_starts i d b last next tiny found more whole less is same last-is next-is before =
    ap (λ x. x ++ growing next (drop (i + 1) tiny)) same ∙ ap (λ x. found ++ growing x (drop (i + 1) tiny)) next-is
    ∙ ap (λ x. found ++ merge_after x (drop (i + 1) tiny)) is ∙ ap (λ x. found ++ x) (sym (at_drop_more merge tiny i d less)) ∙ ap (λ x. found ++ growing x (drop i tiny)) (sym last-is) ∙ before

pub last_is_done : (i : ℕ) (a : Shape) (last : Option Shape) (tiny found more whole : List Shape) → length tiny ≤ i → more ≡ found ++ a ∷ [] → last ≡ Some a → found ++ growing last (drop i tiny)
    ≡ whole
    → more ≡ whole
last_is_done i a last tiny found more whole all push last-is before =
    push ∙ ap (λ x. found ++ x) (sym (at_drop_all (merge_after a) tiny i all)) ∙ ap (λ x. found ++ growing x (drop i tiny)) (sym last-is) ∙ before

pub none_is_done : (i : ℕ) (last : Option Shape) (tiny found more whole : List Shape) → length tiny ≤ i → more ≡ found → last ≡ None → found ++ growing last (drop i tiny) ≡ whole → more ≡ whole
none_is_done i last tiny found more whole all same last-is before =
    same ∙ sym (append-nil found) ∙ ap (λ x. found ++ x) (sym (at_drop_all merge tiny i all)) ∙ ap (λ x. found ++ growing x (drop i tiny)) (sym last-is) ∙ before
