-- A range that shrinks or grows: what is left agrees with the plain machine.
use Rattle.offset_calls.proofs.Common.{◌≡◌, ◌≢◌, ℕ, zero, suc, ◌+◌, ◌-◌, ◌<◌, ◌≤◌, Bool, true, false, not, ◌&&◌, ◌||◌, ◌⊎◌, List, [], ◌∷◌, ◌++◌, length, Option, Some, None, nat_eq, nat_le}
use Rattle.offset_calls.proofs.Common.{if◌then◌else◌, refl, sym, ap, ap₂, subst, ◌∙◌, inl, inr, arith, le-leb, leb-true, leb-false, append-nil, length-append, false≢true, and_parts, and_right}
use Rattle.std.specs.Prelude.{option_map, unwrap_or}
use Rattle.offset_calls.proofs.Common.{map-append, AllByRecursion, Block, View, Place, units, IsWellFormed, AreCoalesced, replace, AdmitsBlocks, size_of, SameSpace, Tag, Live, Free, State, is_free}
use Rattle.offset_calls.proofs.Common.{has_number, total, is_short_of, stamp_of_call, stamp_of_padding, without_start, units_at_start, starts_free, can_shrink, can_grow, resized}
use Rattle.std.proofs.Math.Bool.{or-true}
use Rattle.offset_allocator.proofs.{Views.ViewApart.right_false, Reading.size_at, Reading.size_is}
use Rattle.offset_allocator.specs.{View.place_of, Resizing.CanShrink, Resizing.CanGrow, Resizing.Resizes, Resizing.free_after}
use Rattle.offset_script.proofs.Agreed.{live_at, LiveAt, room_for, has_room, agrees_replaced, new_labels, names_new, tags_new, name_new, rises_new, name_replaced}
use Rattle.offset_script.proofs.Lists.{AreApart, apart_parts, apart_append, count, count-append, count_free_part, ends_free, few_free, number_of, start_is, start_of}
use Rattle.offset_script.specs.Agreement.{Label, by_name, by_tag, name_of, HasBlocksOf}
use Rattle.offset_script.proofs.{Chosen.Spot, Chosen.place_at, Chosen.named_spot, Chosen.named_place}
use Rattle.offset_script.proofs.{Chosen.plain_place, Chosen.place_of_spot, Ends.AreFree, Ends.free_named, Ends.free_tagged, Ends.apart_tagged, Ends.total_units, Ends.name_free, Labels.names}
use Rattle.offset_script.proofs.{Labels.tags, Labels.map_three, Members.map_parts, Tests.same_some, Found.found_at, Well.IsWell, Well.apart_free_part, Well.free_part_is, Well.well_leaves}
use Rattle.offset_allocator.specs.View as named
use Rattle.offset_script.specs.Machine as machine
use Rattle.offset_script.proofs.Lists as lists

-- lists without a free block at their start

starts_after : (bs : List machine.Block) → AreApart bs → lists.starts_free (without_start bs) ≡ false
starts_after [] a = refl
starts_after (b ∷ bs) a = search (arith, right_false)

apart_without : (bs : List machine.Block) → AreApart bs → AreApart (without_start bs)
apart_without [] a = a
apart_without (b ∷ bs) a = elim (is_free b.tag) as (λ x. AreApart (if x then bs else b ∷ bs)) [ true ↦ a.1 | false ↦ a ]

count_without : (t : Tag) (bs : List machine.Block) → count t (without_start bs) ≤ count t bs
count_without t [] = omega arith
count_without t (b ∷ bs) = elim (is_free b.tag) as (λ x. count t (if x then bs else b ∷ bs) ≤ count t (b ∷ bs)) [ true ↦ omega arith | false ↦ omega arith ]

length_without : (bs : List machine.Block) → (length (without_start bs) ≤ length bs) × (starts_free bs ≡ true → length (without_start bs) + 1 ≡ length bs)
length_without [] = (omega arith, λ e. absurd (false≢true e))
length_without (b ∷ bs) = search (arith, length, false≢true)

-- what a resized range leaves is well-formed
pub well_resized : (s : State) → IsWell s → (k n : ℕ) (p : machine.Place) → machine.place_of k s.blocks ≡ Some p → (starts_free p.after ≡ true) ⊎ (is_short_of 1 s ≡ false)
    → IsWell (resized n s p).state
well_resized s w k n p e fits =
    let left = p.block.size + units_at_start p.after - n in
    let blocks = p.before ++ (machine.block n p.block.tag ∷ (machine.free_part left (stamp_of_call s) ++ without_start p.after)) in
    let sizes : length blocks ≡ length p.before + suc (length (machine.free_part left (stamp_of_call s)) + length (without_start p.after)) = simp length-append in
    let f = found_at k s.blocks p e in
    let tag = number_of k p.block.tag f.1 in
    let parts = apart_parts p.before (p.block ∷ p.after) (subst AreApart f.0 w.apart) in
    let old = ap length f.0 ∙ length-append p.before (p.block ∷ p.after) in
    let few = (free_part_is left (stamp_of_call s)).3 in
    let shorter = length_without p.after in
    let room : length blocks + 1 ≤ s.limit = elim fits [ inl free ↦ omega (arith, shorter.1 free, w.room) | inr room ↦ omega (arith, leb-false s.limit (length s.blocks + 1) room) ] in
    let start = ap (λ t. is_free t && lists.starts_free (machine.free_part left (stamp_of_call s) ++ without_start p.after)) tag in
    let rest = apart_free_part left (stamp_of_call s) (without_start p.after) (apart_without p.after parts.1.1) (starts_after p.after parts.1.1) in
    let apart = apart_append p.before _ parts.0 (start, rest) (ap (λ t. ends_free p.before && is_free t) tag ∙ and_right (ends_free p.before) false refl) in
    well_leaves s w blocks machine.Freed (omega arith) room apart (λ t. search (arith, f, count-append, count_free_part, count_without))

-- a free block directly after, by names and by tags
free_some : (ls : List Label) → starts_free (tags ls) ≡ true → named.free_start (names ls) ≢ []
free_some [] e f = absurd (false≢true e)
free_some (l ∷ ls) e f = absurd (let h : (by_name l ∷ []) ≡ [] = sym (ap (λ x. if not (not x) then by_name l ∷ [] else []) e) ∙ f in cc)

some_free : (ls : List Label) → named.free_start (names ls) ≢ [] → starts_free (tags ls) ≡ true
some_free [] f = absurd (f refl)
some_free (l ∷ ls) f = search (arith, f, not, by_name)

free_units : (ls : List Label) → units (named.free_start (names ls)) ≡ units_at_start (tags ls)
free_units [] = refl
free_units (l ∷ ls) = elim (is_free l.tag) as (λ x. units (if not (not x) then by_name l ∷ [] else []) ≡ (if x then l.size else 0)) [ true ↦ omega arith | false ↦ refl ]

-- after free blocks of which some have units, nothing is free
after_free : (ls : List Label) (y : Bool) → AreFree ls → AreApart (tags ls) → 1 ≤ total (tags ls) → (ends_free (tags ls) && y) ≡ false → y ≡ false
after_free [] y f a some e = absurd (omega arith)
after_free (l ∷ []) y f a some e = right_false (is_free l.tag) y e f.0
after_free (l ∷ m ∷ ls) y f a some e = absurd (let h = few_free (tags (l ∷ m ∷ ls)) (free_tagged (l ∷ m ∷ ls) f) a in omega arith)

module _ (v : View) (kept_name : ℕ → Option ℕ) (s : State) (w : IsWellFormed v) (ws : IsWell s) (g : HasBlocksOf v kept_name s) (k x : ℕ) (e : kept_name k ≡ Some x) where
  abbrev pub found : LiveAt v kept_name s w ws g k x
  found = live_at v kept_name s w ws g k x e

  abbrev pub spot : Spot
  spot = found.spot

  -- its size
  pub size_found : size_of x v ≡ spot.label.size
  size_found = size_is x v ∙ ap size_at found.named ∙ ap (λ t. if not (is_free t) then spot.label.size else 0) found.tag

  after_found : free_after x v ≡ named.free_start (names spot.after)
  after_found = ap (λ (o : Option named.Place). unwrap_or (option_map (λ (p : named.Place). named.free_start p.after) o) []) found.named

  -- when it can shrink or grow
  pub can_shrink_is : (n : ℕ) → n < size_of x v → CanShrink x n v → can_shrink n s (plain_place spot) ≡ true
  can_shrink_is n l c = ap₂ (λ a b. a && b) (le-leb n spot.label.size (let z = size_found in omega arith)) (elim (c.1 l) [
    | inl free ↦ ap (λ b. b || not (is_short_of 1 s)) (some_free spot.after (λ z. free (after_found ∙ z)))
    | inr room ↦ ap (λ b. starts_free (tags spot.after) || not b) (has_room v kept_name s w ws g 1 room) ∙ or-true (starts_free (tags spot.after))
  ])

  pub shrink_can : (n : ℕ) → can_shrink n s (plain_place spot) ≡ true → CanShrink x n v
  shrink_can n c =
      let parts = and_parts (nat_le n spot.label.size) (starts_free (tags spot.after) || not (is_short_of 1 s)) c in
      (let l = leb-true n spot.label.size parts.0 in let z = size_found in omega arith, λ l. go (starts_free (tags spot.after)) (is_short_of 1 s) refl refl parts.1)
    where
      go : (a b : Bool) → starts_free (tags spot.after) ≡ a → is_short_of 1 s ≡ b → (a || not b) ≡ true → (free_after x v ≢ []) ⊎ AdmitsBlocks 1 v
      go true b f h p = inl (λ z. free_some spot.after f (sym after_found ∙ z))
      go false false f h p = inr (room_for v kept_name s w ws g 1 h)
      go false true f h p = absurd (false≢true p)

  pub can_grow_is : (n : ℕ) → CanGrow x n v → can_grow n (plain_place spot) ≡ true
  can_grow_is n c = search (arith, after_found, free_units, size_found, le-leb, tags)

  pub grow_can : (n : ℕ) → can_grow n (plain_place spot) ≡ true → CanGrow x n v
  grow_can n c =
      let parts = and_parts (nat_le spot.label.size n) (nat_le n (spot.label.size + units_at_start (tags spot.after))) c in
      let u = ap units after_found ∙ free_units spot.after in
      let z = size_found in
      (let l = leb-true spot.label.size n parts.0 in omega arith, let l = leb-true n (spot.label.size + units_at_start (tags spot.after)) parts.1 in omega arith)

  -- what the range and the block after it become
  module _ (n : ℕ) (u : View) (w' : IsWellFormed u) (d : n ≢ spot.label.size) (f : Resizes x n v u) where
    place : named_place spot ≡ place_at f.before f.block (f.next ++ f.after)
    place =
        let r = named_spot g.labels (place_at f.before f.block (f.next ++ f.after)) (sym g.view ∙ f.blocks) in
        same_some (named_place spot) (named_place r.0)
        (sym found.named ∙ ap (λ y. place_of y v.blocks) (sym f.named ∙ sym (ap (λ (p : Place). p.block.name) r.2)) ∙ place_of_spot v w r.0 (g.view ∙ ap names r.1)) ∙ r.2

    back : (xs : List Label) × (ys : List Label) × (spot.after ≡ xs ++ ys) × (names xs ≡ f.next) × (names ys ≡ f.after)
    back = map_parts by_name spot.after f.next f.after (ap (λ (p : Place). p.after) place)

    name : spot.label.name ≡ x
    name = ap (λ (p : Place). p.block.name) place ∙ f.named

    free : AreFree back.0
    free = (free_named back.0 [] (subst (AllByRecursion (λ b. b.used ≡ false)) (sym (append-nil (names back.0) ∙ back.3)) f.free)).0

    abbrev new : List Label
    new = new_labels 0 0 x n k f.name f.left (stamp_of_padding s)

    sizes : n + f.left ≡ spot.label.size + total (tags back.0)
    sizes = f.whole ∙ ap units (ap₂ (λ (b : Block) bs. b ∷ bs) (sym (ap (λ (p : Place). p.block) place)) (sym back.3)) ∙ (let t = total_units back.0 in omega arith)

    same : SameSpace (replace v (names spot.before) (by_name spot.label ∷ names back.0) (names new) (names back.1)) u
    same = search (arith, by_name, names, back, place, f, names_new)

    split : s.blocks ≡ tags spot.before ++ (by_tag spot.label ∷ (tags back.0 ++ tags back.1))
    split = search (arith, tags, map-append, by_tag, back)

    apart : AreApart (tags back.0) × AreApart (tags back.1) × ((ends_free (tags back.0) && lists.starts_free (tags back.1)) ≡ false)
    apart = apart_parts (tags back.0) (tags back.1) (apart_parts (tags spot.before) (by_tag spot.label ∷ (tags back.0 ++ tags back.1)) (subst AreApart split ws.apart)).1.1

    view_after : u.blocks ≡ names (spot.before ++ (new ++ back.1))
    view_after = ap (λ (x : View). x.blocks) same ∙ sym (map_three by_name spot.before new back.1)

    tags_after : tags (spot.before ++ (new ++ back.1)) ≡ tags spot.before ++ (machine.block n (Live k) ∷ (machine.free_part f.left (stamp_of_call s) ++ tags back.1))
    tags_after = map_three by_tag spot.before new back.1 ∙ ap (λ z. tags spot.before ++ (z ++ tags back.1)) (tags_new 0 0 x n k f.name f.left (stamp_of_padding s))

    ends : (m : ℕ) → f.left ≡ m → lists.starts_free (tags back.1) ≡ false
    ends zero h = after_free back.0 (lists.starts_free (tags back.1)) free apart.0 (let z = sizes in omega arith) apart.2
    ends (suc m) h =
        let a = subst AreApart (tags_after ∙ ap (λ l. tags spot.before ++ (machine.block n (Live k) ∷ (machine.free_part l (stamp_of_call s) ++ tags back.1))) h)
        (apart_tagged (spot.before ++ (new ++ back.1)) (subst AreCoalesced view_after f.apart)) in
        (apart_parts (tags spot.before) (machine.block n (Live k) ∷ (machine.block (suc m) (Free (stamp_of_call s)) ∷ tags back.1)) a).1.1.0

    start : (without_start (tags spot.after) ≡ tags back.1) × (units_at_start (tags spot.after) ≡ total (tags back.0))
    start =
        let r = start_is (tags back.0) (tags back.1) (start_of (tags back.0) (tags back.1) (free_tagged back.0 free) apart.0 (ends f.left refl)) in
        let h = ap tags back.2 ∙ map-append by_tag back.0 back.1 in
        (ap without_start h ∙ r.0, ap units_at_start h ∙ r.1)

    state : (resized n s (plain_place spot)).state.blocks ≡ tags (spot.before ++ (new ++ back.1))
    state = search (arith, tags, sizes, start, f, back, tags_after)

    old_name : (j : ℕ) → name_of j (spot.label ∷ back.0) ≡ (if nat_eq j k then Some x else None)
    old_name j = ap (λ t. if has_number j t then Some spot.label.name else name_of j back.0) found.tag ∙ ap₂ (λ a o. if nat_eq j k then Some a else o) name (name_free j back.0 free)

    handles : (j : ℕ) → kept_name j ≡ name_of j (spot.before ++ (new ++ back.1))
    handles j = g.handles j ∙ ap (name_of j) (found.split ∙ ap (λ z. spot.before ++ (spot.label ∷ z)) back.2)
        ∙ name_replaced j spot.before (spot.label ∷ back.0) new back.1 (old_name j ∙ sym (name_new j 0 0 x n k f.name f.left (stamp_of_padding s)))

    pub resized_agrees : HasBlocksOf u kept_name (resized n s (plain_place spot)).state
    resized_agrees = agrees_replaced v kept_name s w ws g u w' v.size spot.before (spot.label ∷ back.0) new back.1 (found.split ∙ ap (λ z. spot.before ++ (spot.label ∷ z)) back.2) same
        (resized n s (plain_place spot)).state refl state (rises_new 0 0 x n k f.name f.left (stamp_of_padding s)) kept_name handles
