-- Units that go off the end of a space: what is left agrees with the plain machine.
use Rattle.offset_calls.proofs.Common.{◌≡◌, ℕ, zero, suc, ◌+◌, ◌-◌, ◌≤◌, true, false, not, List, [], ◌∷◌, ◌++◌, length, Option, None, if◌then◌else◌}
use Rattle.offset_calls.proofs.Common.{refl, sym, ap, ap₂, subst, ◌∙◌, inl, inr, arith, le-leb, leb-true, append-nil, length-append, true≢false, map-append, length-map}
use Rattle.offset_calls.proofs.Common.{Block, View, IsWellFormed, replace, SameSpace, Tag, Free, State, is_free, stamp_of_call, stamp_of_padding}
use Rattle.std.proofs.lemmas.Bool.{and_left, cases_Bool, cond_both, not-false}
use Rattle.std.proofs.lemmas.List.{nil_from_length}
use Rattle.std.specs.Option.{option_or}
use Rattle.offset_allocator.proofs.Views.ViewApart.{left_false}
use Rattle.offset_allocator.specs.{View.free_part, Moving.Retracting.CanRetract, Moving.Retracting.Cuts, Moving.Retracting.end_part}
use Rattle.offset_script.specs.Agreement.{Label, by_name, by_tag, name_of, HasBlocksOf}
use Rattle.offset_script.proofs.{Agreed.agrees_replaced, Agreed.free_labels, Ends.name_append}
use Rattle.offset_script.proofs.{Ends.name_skip, Labels.names, Labels.tags, Labels.AreRising, Members.map_parts, Members.map_first, Well.IsWell, Well.well_leaves, Well.well_quiet, Well.free_part_is}
use Rattle.offset_script.proofs.Lists.{AreApart, apart_parts, apart_append, count, hit, count-append, count_free_part, ends_free}
use Rattle.offset_calls.specs.{Calls.Outcome, Calls.retract, Ending.can_retract, Ending.end_block, Ending.with_end, Ending.retracted}
use Rattle.offset_script.specs.Machine as machine

-- ---- lists that end with a free block

pub end_is : (xs : List machine.Block) (b : machine.Block) → is_free b.tag ≡ true → (machine.without_end (xs ++ b ∷ []) ≡ xs) × (machine.units_at_end (xs ++ b ∷ []) ≡ b.size)
end_is [] b e = (ap (λ x. if x then [] else b ∷ []) e, ap (λ x. if x then b.size else 0) e)
end_is (x ∷ []) b e = let r = end_is [] b e in (ap (λ z. x ∷ z) r.0, r.1)
end_is (x ∷ y ∷ xs) b e = let r = end_is (y ∷ xs) b e in (ap (λ z. x ∷ z) r.0, r.1)

-- where there are free units at the end, the last block is free
pub end_of : (bs : List machine.Block) → 1 ≤ machine.units_at_end bs → (xs : List machine.Block) × (b : machine.Block) × (bs ≡ xs ++ b ∷ []) × (is_free b.tag ≡ true)
end_of [] l = absurd (omega arith)
end_of (b ∷ []) l = elim (cases_Bool (is_free b.tag)) [
  | inl e ↦ ([], b, refl, e)
  | inr e ↦ absurd (omega (arith, l, ap (λ x. if x then b.size else 0) e))
]
end_of (b ∷ c ∷ bs) l = let r = end_of (c ∷ bs) l in (b ∷ r.0, r.1, ap (λ z. b ∷ z) r.2, r.3)

-- what is left at the end
pub end_sizes : (xs : List machine.Block) (n t : ℕ) → (1 ≤ length (xs ++ end_block xs n t)) × (length (xs ++ end_block xs n t) ≤ length xs + 1)
end_sizes [] n t = (omega arith, omega arith)
end_sizes (x ∷ xs) n t =
    let few = (free_part_is n t).3 in
    let sum = length-append (x ∷ xs) (machine.free_part n t) in
    (omega (arith, sum), omega (arith, sum, few))

pub end_count : (u : Tag) (xs : List machine.Block) (n t : ℕ) → count u (xs ++ end_block xs n t) ≤ count u xs + hit u (Free t)
end_count u [] n t = omega arith
end_count u (x ∷ xs) n t = omega (arith, count-append u (x ∷ xs) (machine.free_part n t), count_free_part u n t)

pub end_apart : (xs : List machine.Block) (n t : ℕ) → AreApart xs → ends_free xs ≡ false → AreApart (xs ++ end_block xs n t)
end_apart [] n t a e = (refl, tt)
end_apart (x ∷ xs) n t a e = apart_append (x ∷ xs) (machine.free_part n t) a (free_part_is n t).1 (and_left (ends_free (x ∷ xs)) _ e)

-- ---- every state stays well-formed

module _ (s : State) (w : IsWell s) where
  well_with_end : (n : ℕ) → 1 ≤ machine.units_at_end s.blocks → IsWell (machine.leaves s (with_end n (stamp_of_call s) s.blocks) machine.Freed).state
  well_with_end n l =
      let r = end_of s.blocks l in
      let at = end_is r.0 r.1 r.3 in
      let front : machine.without_end s.blocks ≡ r.0 = ap machine.without_end r.2 ∙ at.0 in
      let parts = apart_parts r.0 (r.1 ∷ []) (subst AreApart r.2 w.apart) in
      let size = ap length r.2 ∙ length-append r.0 (r.1 ∷ []) in
      let sizes = end_sizes r.0 n (stamp_of_call s) in
      let counts : (t : Tag) → count t (r.0 ++ end_block r.0 n (stamp_of_call s)) ≤ count t s.blocks + hit t (Free (stamp_of_call s)) =
      λ t. omega (arith, end_count t r.0 n (stamp_of_call s), ap (count t) r.2, count-append t r.0 (r.1 ∷ [])) in
      subst (λ f. IsWell (machine.leaves s (f ++ end_block f n (stamp_of_call s)) machine.Freed).state) (sym front)
      (well_leaves s w (r.0 ++ end_block r.0 n (stamp_of_call s)) machine.Freed sizes.0 (omega (arith, sizes.1, size, w.room))
      (end_apart r.0 n (stamp_of_call s) parts.0 (left_false (ends_free r.0) (is_free r.1.tag) parts.2 r.3)) counts)

  well_retracted : (n : ℕ) → can_retract n s.blocks ≡ true → IsWell (machine.leaves s (retracted n (stamp_of_call s) s.blocks) machine.Freed).state
  well_retracted zero e = well_quiet s w machine.Freed
  well_retracted (suc n) e = well_with_end (machine.units_at_end s.blocks - suc n) (let l = leb-true (suc n) (machine.units_at_end s.blocks) e in omega arith)

  pub well_retract : (n : ℕ) → IsWell (retract n s).state
  well_retract n = cond_both (can_retract n s.blocks) _ _ (λ (o : Outcome). IsWell o.state) (λ e. well_retracted n e) (λ e. well_quiet s w machine.Gone)

-- ---- labels

-- the label of what is left
abbrev end_labels : List Label → ℕ → ℕ → ℕ → List Label
end_labels [] x n t = record { name = x; size = n; tag = Free t } ∷ []
end_labels (l ∷ ls) x n t = free_labels x n t

names_free : (x n t : ℕ) → names (free_labels x n t) ≡ free_part x n
names_free x zero t = refl
names_free x (suc n) t = refl

tags_free : (x n t : ℕ) → tags (free_labels x n t) ≡ machine.free_part n t
tags_free x zero t = refl
tags_free x (suc n) t = refl

names_end : (ls : List Label) (x n t : ℕ) → names (end_labels ls x n t) ≡ end_part (names ls) x n
names_end [] x n t = refl
names_end (l ∷ ls) x n t = names_free x n t

tags_end : (ls : List Label) (x n t : ℕ) → tags (end_labels ls x n t) ≡ end_block (tags ls) n t
tags_end [] x n t = refl
tags_end (l ∷ ls) x n t = tags_free x n t

rises_free : (t x n u : ℕ) → t ≤ u → AreRising t (free_labels x n u)
rises_free t x zero u l = tt
rises_free t x (suc n) u l = (λ e. absurd (true≢false e), λ e. (l, tt))

rises_end : (t : ℕ) (ls : List Label) (x n u : ℕ) → t ≤ u → AreRising t (end_labels ls x n u)
rises_end t [] x n u l = (λ e. absurd (true≢false e), λ e. (l, tt))
rises_end t (y ∷ ls) x n u l = rises_free t x n u l

name_free : (j x n t : ℕ) → name_of j (free_labels x n t) ≡ None
name_free j x zero t = refl
name_free j x (suc n) t = refl

name_end : (j : ℕ) (ls : List Label) (x n t : ℕ) → name_of j (end_labels ls x n t) ≡ None
name_end j [] x n t = refl
name_end j (y ∷ ls) x n t = name_free j x n t

module _ (v : View) (kept_name : ℕ → Option ℕ) (s : State) (w : IsWellFormed v) (ws : IsWell s) (g : HasBlocksOf v kept_name s) where
  -- the last of the labels
  pub record EndsWith (before : List Block) (last : Block) : Type 0 where
    pub front : List Label
    pub label : Label
    pub labels : g.labels ≡ front ++ label ∷ []
    pub named : names front ≡ before
    pub name : by_name label ≡ last

  ends_with : (before : List Block) (last : Block) → v.blocks ≡ before ++ last ∷ [] → EndsWith before last
  ends_with before last e =
      let r = map_parts by_name g.labels before (last ∷ []) (sym g.view ∙ e) in
      let h = map_first by_name r.1 last [] r.4 in
      let none = nil_from_length h.1 (sym (length-map h.1 by_name) ∙ ap length h.4) in
      record { front = r.0; label = h.0; labels = r.2 ∙ ap (λ l. r.0 ++ l) (h.2 ∙ ap (λ l. h.0 ∷ l) none); named = r.3; name = h.3 }

  -- whether units can go off the end
  pub can_too : (n : ℕ) → 1 ≤ n → can_retract n s.blocks ≡ true → CanRetract n v
  can_too n some e =
      let l = leb-true n (machine.units_at_end s.blocks) e in
      let r = end_of s.blocks (omega (arith, l, some)) in
      let p = map_parts by_tag g.labels r.0 (r.1 ∷ []) (sym g.state ∙ r.2) in
      let h = map_first by_tag p.1 r.1 [] p.4 in
      let none = nil_from_length h.1 (sym (length-map h.1 by_tag) ∙ ap length h.4) in
      let free : is_free h.0.tag ≡ true = ap (λ (b : machine.Block). is_free b.tag) h.3 ∙ r.3 in
      let size : h.0.size ≡ machine.units_at_end s.blocks = ap (λ (b : machine.Block). b.size) h.3 ∙ sym (ap machine.units_at_end r.2 ∙ (end_is r.0 r.1 r.3).1) in
      (names p.0, by_name h.0, g.view ∙ ap names (p.2 ∙ ap (λ l. p.0 ++ l) (h.2 ∙ ap (λ l. h.0 ∷ l) none)) ∙ map-append by_name p.0 (h.0 ∷ []), ap not free, omega (arith, l, size))

  module _ (n : ℕ) (u : View) (w' : IsWellFormed u) (f : Cuts n v u) where
    at : EndsWith f.before f.last
    at = ends_with f.before f.last f.blocks

    is_free_end : is_free at.label.tag ≡ true
    is_free_end = not-false _ (ap (λ (b : Block). b.used) at.name ∙ f.free)

    blocks_are : s.blocks ≡ tags at.front ++ by_tag at.label ∷ []
    blocks_are = g.state ∙ ap tags at.labels ∙ map-append by_tag at.front (at.label ∷ [])

    ended : (machine.without_end s.blocks ≡ tags at.front) × (machine.units_at_end s.blocks ≡ at.label.size)
    ended =
        let r = end_is (tags at.front) (by_tag at.label) is_free_end in
        (ap machine.without_end blocks_are ∙ r.0, ap machine.units_at_end blocks_are ∙ r.1)

    pub can_there : can_retract n s.blocks ≡ true
    can_there = le-leb n (machine.units_at_end s.blocks) (omega (arith, f.enough, ap (λ (b : Block). b.size) at.name, ended.1))

    abbrev new : List Label
    new = end_labels at.front at.label.name (at.label.size - n) (stamp_of_call s)

    same : SameSpace (record (replace v (names at.front) (names (at.label ∷ [])) (names new) (names [])) { size = v.size - n }) u
    same = subst (λ ns. SameSpace (record (replace v (names at.front) (by_name at.label ∷ []) ns []) { size = v.size - n }) u)
        (sym (names_end at.front at.label.name (at.label.size - n) (stamp_of_call s)))
        (subst (λ (b : Block). SameSpace (record (replace v (names at.front) (b ∷ []) (end_part (names at.front) b.name (b.size - n)) []) { size = v.size - n }) u) (sym at.name)
        (subst (λ bs. SameSpace (record (replace v bs (f.last ∷ []) (end_part bs f.last.name (f.last.size - n)) []) { size = v.size - n }) u) (sym at.named) f.view))

    left : with_end (machine.units_at_end s.blocks - n) (stamp_of_call s) s.blocks ≡ tags (at.front ++ (new ++ []))
    left = ap₂ (λ xs m. xs ++ end_block xs (m - n) (stamp_of_call s)) ended.0 ended.1
        ∙ ap (λ l. tags at.front ++ l) (sym (tags_end at.front at.label.name (at.label.size - n) (stamp_of_call s)) ∙ ap tags (sym (append-nil new)))
        ∙ sym (map-append by_tag at.front (new ++ []))

    handles : (j : ℕ) → kept_name j ≡ name_of j (at.front ++ (new ++ []))
    handles j = g.handles j ∙ ap (name_of j) at.labels ∙ name_append j at.front (at.label ∷ []) ∙ ap (option_or (name_of j at.front)) (name_skip j at.label [] is_free_end)
        ∙ sym (name_append j at.front (new ++ []) ∙ ap (option_or (name_of j at.front)) (ap (name_of j) (append-nil new) ∙ name_end j at.front at.label.name (at.label.size - n) (stamp_of_call s)))

    pub cut_agrees : (a : machine.Answer) → HasBlocksOf u kept_name (machine.leaves s (with_end (machine.units_at_end s.blocks - n) (stamp_of_call s) s.blocks) a).state
    cut_agrees a = agrees_replaced v kept_name s w ws g u w' (v.size - n) at.front (at.label ∷ []) new [] (at.labels ∙ ap (λ l. at.front ++ l) (sym (append-nil (at.label ∷ []))))
        same (machine.leaves s (with_end (machine.units_at_end s.blocks - n) (stamp_of_call s) s.blocks) a).state refl left
        (rises_end (stamp_of_padding s) at.front at.label.name (at.label.size - n) (stamp_of_call s) (omega arith)) kept_name handles
